-- The table of relocations, a line for each kind (ELFv2 ABI, "Relocation Types Table").
use Rattle.std.specs.Prelude.{◌≡◌, ℕ, ℤ, pos, neg_ℤ, ◌+ℤ◌, ◌-ℤ◌, ◌≤ℤ◌, ◌<ℤ◌, ◌*◌, ◌/◌, ◌%◌, ◌+◌, ◌^◌}
use Rattle.std.specs.Int.{int_rem_euclid}
use Rattle.ppc_bytes.specs.Bytes.{InSigned}
use Rattle.ppc_bytes.specs.Halves.{low_of, lo, hi, ha, d0, d1}
use Rattle.reloc_fields.specs.declared.kind.Kind.{Kind}
use Rattle.reloc_fields.specs.declared.kind.Kind.TheVariants.{None, Addr32, Addr16, Addr16Lo, Addr16Hi, Addr16Ha, Rel24, Rel14, Rel32, Addr64, Rel64, Toc16, Toc16Lo, Toc16Hi, Toc16Ha, Toc, Addr16Ds, Addr16LoDs, Toc16Ds, Toc16LoDs, Tocsave, Rel24Notoc, PcrelOpt, Pcrel34, GotPcrel34, Rel16Lo, Rel16Ha}

-- what the value is computed of
pub data Formula : Type 0 where
  no_value : Formula
  symbol : Formula
  from_place : Formula
  from_toc : Formula
  toc_base : Formula
  addend : Formula

-- which bits are filled, and with what
pub data Filling : Type 0 where
  nothing : Filling
  word_32 : Filling
  long_64 : Filling
  low_half : Filling
  high_half : Filling
  adjusted_half : Filling
  low_half_ds : Filling
  low_14 : Filling
  low_24 : Filling
  prefix_34 : Filling

-- which values the field holds
pub data Check : Type 0 where
  any : Check
  signed_16 : Check
  signed_32 : Check
  signed_34 : Check
  either_32 : Check
  adjusted_32 : Check
  multiple : Check
  multiple_16 : Check
  multiple_26 : Check

-- one line: the number in the record, the value, the bytes of the field, its filling and its check
pub record Line : Type 0 where
  pub number : ℕ
  pub formula : Formula
  pub width : ℕ
  pub filling : Filling
  pub check : Check

abbrev line : ℕ → Formula → ℕ → Filling → Check → Line
line n f w b c = record { number = n; formula = f; width = w; filling = b; check = c }

abbrev pub line_of : Kind → Line
line_of None = line 0 no_value 0 nothing any
line_of Addr32 = line 1 symbol 4 word_32 either_32
line_of Addr16 = line 3 symbol 4 low_half signed_16
line_of Addr16Lo = line 4 symbol 4 low_half any
line_of Addr16Hi = line 5 symbol 4 high_half signed_32
line_of Addr16Ha = line 6 symbol 4 adjusted_half adjusted_32
line_of Rel24 = line 10 from_place 4 low_24 multiple_26
line_of Rel14 = line 11 from_place 4 low_14 multiple_16
line_of Rel32 = line 26 from_place 4 word_32 signed_32
line_of Addr64 = line 38 symbol 8 long_64 any
line_of Rel64 = line 44 from_place 8 long_64 any
line_of Toc16 = line 47 from_toc 4 low_half signed_16
line_of Toc16Lo = line 48 from_toc 4 low_half any
line_of Toc16Hi = line 49 from_toc 4 high_half signed_32
line_of Toc16Ha = line 50 from_toc 4 adjusted_half adjusted_32
line_of Toc = line 51 toc_base 8 long_64 any
line_of Addr16Ds = line 56 symbol 4 low_half_ds multiple_16
line_of Addr16LoDs = line 57 symbol 4 low_half_ds multiple
line_of Toc16Ds = line 63 from_toc 4 low_half_ds multiple_16
line_of Toc16LoDs = line 64 from_toc 4 low_half_ds multiple
line_of Tocsave = line 109 no_value 0 nothing any
line_of Rel24Notoc = line 116 from_place 4 low_24 multiple_26
line_of PcrelOpt = line 123 addend 0 nothing any
line_of Pcrel34 = line 132 from_place 8 prefix_34 signed_34
line_of GotPcrel34 = line 133 from_place 8 prefix_34 signed_34
line_of Rel16Lo = line 250 from_place 4 low_half any
line_of Rel16Ha = line 252 from_place 4 adjusted_half adjusted_32

-- the value, of the symbol's or slot's address, the addend, the field's address and the TOC base
abbrev pub value : Formula → ℕ → ℤ → ℕ → ℕ → ℤ
value no_value s a p toc = pos 0
value symbol s a p toc = pos s +ℤ a
value from_place s a p toc = (pos s +ℤ a) -ℤ pos p
value from_toc s a p toc = (pos s +ℤ a) -ℤ pos toc
value toc_base s a p toc = pos toc
value addend s a p toc = a

-- the bits of the field that are filled
abbrev pub mask : Filling → ℕ
mask nothing = 0
mask word_32 = 0xFFFF_FFFF
mask long_64 = 0xFFFF_FFFF_FFFF_FFFF
mask low_half = 0xFFFF
mask high_half = 0xFFFF
mask adjusted_half = 0xFFFF
mask low_half_ds = 0xFFFC
mask low_14 = 0xFFFC
mask low_24 = 0x03FF_FFFC
mask prefix_34 = 0xFFFF_0003_FFFF

-- what they are filled with: the bits of this number at the same places
abbrev pub field : Filling → ℤ → ℕ
field nothing x = 0
field word_32 x = low_of 32 x
field long_64 x = low_of 64 x
field low_half x = lo x
field high_half x = hi x
field adjusted_half x = ha x
field low_half_ds x = lo x
field low_14 x = lo x
field low_24 x = low_of 26 x
field prefix_34 x = d1 x * 2 ^ 32 + d0 x

-- a multiple of 4, as instructions and the displacements of doubleword accesses are
abbrev pub IsMultiple : ℤ → Type 0
IsMultiple x = int_rem_euclid x (pos 4) ≡ pos 0

-- the field holds the value
abbrev pub Passes : Check → ℤ → Type 0
Passes any x = Unit {0}
Passes signed_16 x = InSigned 16 x
Passes signed_32 x = InSigned 32 x
Passes signed_34 x = InSigned 34 x
Passes either_32 x = (neg_ℤ (pos (2 ^ 31)) ≤ℤ x) × (x <ℤ pos (2 ^ 32))
Passes adjusted_32 x = InSigned 32 (x +ℤ pos 0x8000)
Passes multiple x = IsMultiple x
Passes multiple_16 x = InSigned 16 x × IsMultiple x
Passes multiple_26 x = InSigned 26 x × IsMultiple x

-- the field with a value in it, by division; the prefix of a prefixed instruction is the low word
abbrev pub filled : Filling → ℕ → ℤ → ℕ
filled nothing old x = old
filled word_32 old x = old / 2 ^ 32 * 2 ^ 32 + low_of 32 x
filled long_64 old x = low_of 64 x
filled low_half old x = old / 2 ^ 16 * 2 ^ 16 + lo x
filled high_half old x = old / 2 ^ 16 * 2 ^ 16 + hi x
filled adjusted_half old x = old / 2 ^ 16 * 2 ^ 16 + ha x
filled low_half_ds old x = old / 2 ^ 16 * 2 ^ 16 + lo x / 4 * 4 + old % 4
filled low_14 old x = old / 2 ^ 16 * 2 ^ 16 + lo x / 4 * 4 + old % 4
filled low_24 old x = old / 2 ^ 26 * 2 ^ 26 + low_of 26 x / 4 * 4 + old % 4
filled prefix_34 old x = (old / 2 ^ 48 * 2 ^ 16 + d1 x) * 2 ^ 32 + (old % 2 ^ 32 / 2 ^ 18 * 2 ^ 18 + d0 x)
