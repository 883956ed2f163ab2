-- The relocation records of a relocatable file (ELF64, "Relocation"). A record has 24 bytes, and each field is the number at its
-- offset there.
use Rattle.std.specs.Prelude.{ℕ, ℤ, ◌+◌, ◌*◌, ◌/◌, ◌%◌, ◌^◌, Bool, List, ◌&&◌, if◌then◌else◌}
use Rattle.std.specs.Int.{cast_signed, w64}
use Rattle.ppc_bytes.specs.Bytes.{number_at}
use Rattle.elf64_records.specs.Sections.{is_rela, is_kept, sh_info, sh_offset, sh_size}

-- section i holds the records of a kept section
abbrev pub has_records : List ℕ → ℕ → Bool
has_records b i = is_rela b i && is_kept b (sh_info b i)

-- the records of a section that isn't kept aren't read
abbrev pub record_count : List ℕ → ℕ → ℕ
record_count b i = if has_records b i then sh_size b i / 24 else 0

-- where record k of section i begins
abbrev pub record_place : List ℕ → ℕ → ℕ → ℕ
record_place b i k = sh_offset b i + 24 * k

unfoldable pub r_offset : List ℕ → ℕ → ℕ → ℕ
r_offset b i k = number_at 8 b (record_place b i k)

unfoldable pub r_info : List ℕ → ℕ → ℕ → ℕ
r_info b i k = number_at 8 b (record_place b i k + 8)

-- the symbol's number is the high half of r_info
unfoldable pub r_symbol : List ℕ → ℕ → ℕ → ℕ
r_symbol b i k = r_info b i k / 2 ^ 32

-- the relocation's number is the low half of r_info
unfoldable pub r_type : List ℕ → ℕ → ℕ → ℕ
r_type b i k = r_info b i k % 2 ^ 32

unfoldable pub r_addend : List ℕ → ℕ → ℕ → ℤ
r_addend b i k = cast_signed w64 (number_at 8 b (record_place b i k + 16))

-- what a file says of one record
pub record RecordFacts : Type 0 where
  pub offset : ℕ
  pub kind : ℕ
  pub symbol : ℕ
  pub addend : ℤ

-- record k of section i
abbrev pub rela_of : List ℕ → ℕ → ℕ → RecordFacts
rela_of b i k = record {
  offset = r_offset b i k;
  kind = r_type b i k;
  symbol = r_symbol b i k;
  addend = r_addend b i k;
}
