-- The words of pc-relative loads that are rewritten (Power ISA 3.1, book I, "Prefixed Instructions").
use Rattle.std.specs.Prelude.{ℕ, ℤ, true, Option}
use Rattle.std.specs.Option.{option_map}
use Rattle.power_insns.specs.declared.instruction.Insn.{Insn}
use Rattle.prefixed_insns.specs.declared.instruction.POp.TheVariants.{Paddi}
use Rattle.prefixed_insns.specs.declared.instruction.PInsn.{PInsn}
use Rattle.prefixed_insns.specs.Table.{prefix_of, suffix_of}
use Rattle.prefixed_insns.specs.ShortForms.{as_prefixed}

-- the two words of an instruction, the one at the lower address first
abbrev pub words_of : PInsn → ℕ × ℕ
words_of insn = (prefix_of insn, suffix_of insn)

-- `paddi rT,0,disp,1`: the address so many bytes past its own
abbrev pub address_sum : ℕ → ℤ → PInsn
address_sum rt disp = record { op = Paddi; rt = rt; ra = 0; relative = true; disp = disp }

-- what a load of an address from its slot becomes
abbrev pub got_words : ℕ → ℤ → ℕ × ℕ
got_words rt disp = words_of (address_sum rt disp)

-- what a load of an address and the access through it become
abbrev pub pair_words : Insn → ℤ → Option (ℕ × ℕ)
pair_words insn disp = option_map words_of (as_prefixed insn disp)
