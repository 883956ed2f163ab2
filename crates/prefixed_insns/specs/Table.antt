-- The two words of each prefixed instruction (Power ISA 3.1, book I, "Instruction Formats": MLS:D-form and 8LS:D-form; the opcodes stand
-- at each instruction, in "Fixed-Point Facility").
use Rattle.std.specs.Prelude.{ℕ, ◌≡◌, ◌<◌, ◌/◌, ◌%◌, ◌^◌, true, List, [], ◌∷◌}
use Rattle.power_insns.specs.Words.{Field, fld, word, flag, low_of, InSigned}
use Rattle.prefixed_insns.specs.declared.instruction.POp.{POp}
use Rattle.prefixed_insns.specs.declared.instruction.POp.TheVariants.{Paddi, Plwz, Plbz, Plhz, Plha, Plwa, Pld, Pstw, Pstb, Psth, Pstd}
use Rattle.prefixed_insns.specs.declared.instruction.PInsn.{PInsn}

-- the type of the prefix: a suffix that has a meaning of its own, modified (MLS), or that has none (8LS)
abbrev pub modified_load_store : ℕ
modified_load_store = 2

abbrev pub eight_byte_load_store : ℕ
eight_byte_load_store = 0

abbrev pub type_of : POp → ℕ
type_of Paddi = modified_load_store
type_of Plwz = modified_load_store
type_of Plbz = modified_load_store
type_of Pstw = modified_load_store
type_of Pstb = modified_load_store
type_of Plhz = modified_load_store
type_of Plha = modified_load_store
type_of Psth = modified_load_store
type_of Plwa = eight_byte_load_store
type_of Pld = eight_byte_load_store
type_of Pstd = eight_byte_load_store

-- the primary opcode of the suffix
abbrev pub opcode_of : POp → ℕ
opcode_of Paddi = 14
opcode_of Plwz = 32
opcode_of Plbz = 34
opcode_of Pstw = 36
opcode_of Pstb = 38
opcode_of Plhz = 40
opcode_of Plha = 42
opcode_of Psth = 44
opcode_of Plwa = 41
opcode_of Pld = 57
opcode_of Pstd = 61

-- opcode 1, the type, three and two reserved bits round R, and the high 18 bits of the displacement
abbrev pub prefix_fields : PInsn → List Field
prefix_fields i =
    fld 6 1 ∷ fld 2 (type_of i.op) ∷ fld 3 0 ∷ fld 1 (flag i.relative) ∷ fld 2 0 ∷ fld 18 (low_of 34 i.disp / 2 ^ 16) ∷ []

-- opcode, RT or RS, RA, and the low 16 bits
abbrev pub suffix_fields : PInsn → List Field
suffix_fields i = fld 6 (opcode_of i.op) ∷ fld 5 i.rt ∷ fld 5 i.ra ∷ fld 16 (low_of 34 i.disp % 2 ^ 16) ∷ []

abbrev pub prefix_of : PInsn → ℕ
prefix_of i = word (prefix_fields i)

abbrev pub suffix_of : PInsn → ℕ
suffix_of i = word (suffix_fields i)

-- the instruction has words: registers and displacement fit their fields, and with R there is no base register
pub record Fits (i : PInsn) : Type 0 where
  pub rt : i.rt < 32
  pub ra : i.ra < 32
  pub disp : InSigned 34 i.disp
  pub base : i.relative ≡ true → i.ra ≡ 0
