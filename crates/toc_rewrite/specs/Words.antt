-- The words on which the records of TOC loads stand, and what a rewriting makes of them (ELFv2 ABI, 3.3 "TOC" and "Relocation
-- Notations"; Power ISA 3.1, book I, "Instruction Formats": D and DS).
use Rattle.std.specs.Prelude.{◌≡◌, ℕ, ℤ, pos, neg_ℤ, int_lt, ◌+◌, ◌*◌, ◌/◌, ◌%◌, ◌^◌, Bool, true, false, not, ◌&&◌, ◌||◌, ◌==◌, if◌then◌else◌}
use Rattle.ppc_bytes.specs.declared.constants.TheConstants.{NOP}
use Rattle.ppc_bytes.specs.Halves.{lo, ha}
use Rattle.reloc_fields.specs.declared.kind.Kind.{Kind}
use Rattle.reloc_fields.specs.declared.kind.Kind.TheVariants.{Toc16Ha, Toc16Lo, Toc16LoDs, Toc16Ds}
use Rattle.reloc_fields.specs.Table.{line_of, Passes}
use Rattle.symbol_table.specs.Sites.{primary_opcode}
use Rattle.toc_rewrite.specs.declared.words.TheConstants.{TOC_REGISTER, ADDI, ADDIS, LD_FORMS, STD_FORMS}

-- the register that a word writes or stores, and the one to which it adds its displacement
abbrev pub target_register : ℕ → ℕ
target_register word = word / 2 ^ 21 % 32

abbrev pub base_register : ℕ → ℕ
base_register word = word / 2 ^ 16 % 32

-- `ld`, `lwa` and `std`: the last two bits tell the forms of one opcode apart
abbrev pub is_ld : ℕ → Bool
is_ld word = primary_opcode word == LD_FORMS && word % 4 == 0

abbrev pub is_lwa : ℕ → Bool
is_lwa word = primary_opcode word == LD_FORMS && word % 4 == 2

abbrev pub is_std : ℕ → Bool
is_std word = primary_opcode word == STD_FORMS && word % 4 == 0

-- a register that can hold the high half of an address: r0 isn't one, since as a base it counts as the number 0; nor is r2, which
-- holds the TOC base
abbrev pub can_hold_high : ℕ → Bool
can_hold_high register = not (register == 0) && not (register == TOC_REGISTER)

-- `addi`, `lwz`, `lbz`, `stw`, `stb`, `lhz`, `lha`, `sth`, `lfs`, `lfd`, `stfs`, `stfd`: they add a displacement of 16 bits to a base,
-- and don't write the base
abbrev pub has_displacement : ℕ → Bool
has_displacement opcode =
    opcode == ADDI || opcode == 32 || opcode == 34 || opcode == 36 || opcode == 38 || opcode == 40 || opcode == 42 || opcode == 44
    || opcode == 48 || opcode == 50 || opcode == 52 || opcode == 54

-- a word on which an orderly file may have a record of this kind
abbrev pub suits : Kind → ℕ → Bool
suits Toc16Ha word =
    primary_opcode word == ADDIS && base_register word == TOC_REGISTER && can_hold_high (target_register word)
suits Toc16Lo word = has_displacement (primary_opcode word) && can_hold_high (base_register word)
suits Toc16LoDs word = (is_ld word || is_lwa word || is_std word) && can_hold_high (base_register word)
suits other word = true

-- a record of this kind on this word uses the slot that it names for nothing but to load it
abbrev pub only_loads : Kind → ℕ → Bool
only_loads Toc16Ha word = true
only_loads Toc16LoDs word = is_ld word
only_loads Toc16Ds word = true
only_loads other word = false

-- one signed half holds the number
abbrev pub is_small : ℤ → Bool
is_small x = not (int_lt x (neg_ℤ (pos 0x8000))) && int_lt x (pos 0x8000)

-- a word by its fields: opcode, RT or RS, RA, and the low half
abbrev pub word_of : ℕ → ℕ → ℕ → ℕ → ℕ
word_of opcode target base low = opcode * 2 ^ 26 + target * 2 ^ 21 + base * 2 ^ 16 + low

-- the base of a word that adds a low half: where the number is small nothing was added to the TOC base before
abbrev pub rewritten_base : ℕ → ℤ → ℕ
rewritten_base word x = if is_small x then TOC_REGISTER else base_register word

-- `addi`, which makes the address in place of loading it
abbrev pub folded_load : ℕ → ℤ → ℕ
folded_load word x = word_of ADDI (target_register word) (rewritten_base word x) (lo x)

-- a word with a low half, and one of which the last two bits are the word's own
abbrev pub with_low : ℕ → ℤ → ℕ
with_low word x = word_of (primary_opcode word) (target_register word) (rewritten_base word x) (lo x)

abbrev pub with_low_ds : ℕ → ℤ → ℕ
with_low_ds word x = word_of (primary_opcode word) (target_register word) (rewritten_base word x) (lo x / 4 * 4 + word % 4)

-- a word with the high half, or none where that is 0
abbrev pub with_high : ℕ → ℤ → ℕ
with_high word x =
    if is_small x then NOP else word_of (primary_opcode word) (target_register word) (base_register word) (ha x)

-- what becomes of a word with a record of this kind and this number, where its load is folded or not
abbrev pub folded_word : Kind → ℕ → ℤ → Bool → ℕ
folded_word Toc16Ha word x folded = with_high word x
folded_word Toc16Lo word x folded = with_low word x
folded_word Toc16LoDs word x true = folded_load word x
folded_word Toc16LoDs word x false = with_low_ds word x
folded_word Toc16Ds word x folded = folded_load word x
folded_word other word x folded = word

-- an orderly file may have the record on the word, and the field holds the number
pub record IsHigh (word : ℕ) (x : ℤ) : Type 0 where
  pub suits_it : suits Toc16Ha word ≡ true
  pub reach : Passes (line_of Toc16Ha).check x

pub record IsLow (word : ℕ) (folded : Bool) : Type 0 where
  pub suits_it : suits Toc16Lo word ≡ true
  pub kept : folded ≡ false

pub record IsLowDs (word : ℕ) (x : ℤ) (folded : Bool) : Type 0 where
  pub suits_it : suits Toc16LoDs word ≡ true
  pub loads : folded ≡ true → is_ld word ≡ true
  pub whole : folded ≡ false → Passes (line_of Toc16LoDs).check x

-- an `ld` from r2, by a displacement that reaches what the slot holds
pub record IsSmallLoad (word : ℕ) (x : ℤ) (folded : Bool) : Type 0 where
  pub loads : is_ld word ≡ true
  pub from_toc : base_register word ≡ TOC_REGISTER
  pub fold : folded ≡ true
  pub small : is_small x ≡ true

-- a word that is rewritten
abbrev pub IsRewritten : Kind → ℕ → ℤ → Bool → Type 0
IsRewritten Toc16Ha word x folded = IsHigh word x
IsRewritten Toc16Lo word x folded = IsLow word folded
IsRewritten Toc16LoDs word x folded = IsLowDs word x folded
IsRewritten Toc16Ds word x folded = IsSmallLoad word x folded
IsRewritten other word x folded = ⊥
