-- What stands at an address as an instruction (Power ISA 3.1, book I, "Instruction Formats"; a prefixed instruction may not cross a
-- 64-byte boundary).
use Rattle.std.specs.Prelude.{◌≡◌, ◌≢◌, ℕ, ◌%◌, Bool, true, false, ◌&&◌, ◌==◌, List}
use Rattle.power_insns.specs.declared.instruction.Insn.{Insn}
use Rattle.power_insns.specs.Table.{word_of, Fits as FitsWord}
use Rattle.prefixed_insns.specs.declared.instruction.PInsn.{PInsn}
use Rattle.prefixed_insns.specs.Table.{prefix_of, suffix_of, Fits as FitsPair}
use Rattle.power_machine.specs.declared.memory.Purpose.TheVariants.{Fetching}
use Rattle.power_machine.specs.declared.code.Code.{Code}
use Rattle.power_machine.specs.declared.code.Code.TheVariants.{Unfetched, Unknown, OneWord, TwoWords}
use Rattle.power_machine.specs.Bytes.{spelled}
use Rattle.power_machine.specs.Memory.{Range, allows, bytes_from}
use Rattle.power_machine.specs.Machines.{sum_address}
use Rattle.power_machine.specs.Numbers.{NumberState}

-- an address from which a word may be fetched
abbrev pub is_executable : List Range → ℕ → Bool
is_executable ranges at = at % 4 == 0 && allows Fetching at 4 ranges

-- the word at an address
abbrev pub word_in : (ℕ → ℕ) → ℕ → ℕ
word_in byte at = spelled (bytes_from byte at 4)

-- an instruction of one word
abbrev pub IsOneWord : ℕ → Insn → Type 0
IsOneWord w insn = FitsWord insn × (word_of insn ≡ w)

-- an instruction of two words
abbrev pub IsTwoWords : ℕ → ℕ → PInsn → Type 0
IsTwoWords prefix suffix insn = FitsPair insn × (prefix_of insn ≡ prefix) × (suffix_of insn ≡ suffix)

-- a second word may be taken: it can be fetched, and no 64-byte boundary lies before it
abbrev pub HasSecond : List Range → ℕ → Type 0
HasSecond ranges at = (at % 64 ≢ 60) × (is_executable ranges (sum_address at 4) ≡ true)

-- no instruction of one word stands at the address
abbrev pub HasNoWord : (ℕ → ℕ) → ℕ → Type 0
HasNoWord byte at = (insn : Insn) → ¬ IsOneWord (word_in byte at) insn

-- This stands at the address. No instruction of one word begins as one of two words does.
abbrev pub Stands : List Range → (ℕ → ℕ) → ℕ → Code → Type 0
Stands ranges byte at Unfetched = is_executable ranges at ≡ false
Stands ranges byte at (OneWord insn) = (is_executable ranges at ≡ true) × IsOneWord (word_in byte at) insn
Stands ranges byte at (TwoWords insn) =
    (is_executable ranges at ≡ true) × HasNoWord byte at × HasSecond ranges at × IsTwoWords (word_in byte at)
    (word_in byte (sum_address at 4)) insn
Stands ranges byte at Unknown =
    (is_executable ranges at ≡ true) × HasNoWord byte at
    × ((insn : PInsn) → HasSecond ranges at → ¬ IsTwoWords (word_in byte at) (word_in byte (sum_address at 4)) insn)

-- at the state's next address
abbrev pub IsNext : List Range → NumberState → Code → Type 0
IsNext ranges s code = Stands ranges s.byte s.at code
