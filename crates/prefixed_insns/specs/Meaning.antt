-- What each prefixed instruction does: what its one-word form does, with a displacement of 34 bits and, where R is set, with the
-- address of the prefix as base (Power ISA 3.1, book I, "Fixed-Point Facility").
use Rattle.std.specs.Prelude.{ℕ, pos, Bool, true, false}
use Rattle.power_insns.specs.declared.instruction.Insn.{Insn}
use Rattle.power_insns.specs.declared.instruction.Insn.TheVariants.{Addi, Lwz, Lbz, Lhz, Lha, Lwa, Ld, Stw, Stb, Sth, Std}
use Rattle.power_insns.specs.declared.meaning.Operand.{Operand}
use Rattle.power_insns.specs.declared.meaning.Operand.TheVariants.{Fixed, Here}
use Rattle.power_insns.specs.declared.meaning.Function.TheVariants.{Sum}
use Rattle.power_insns.specs.declared.meaning.Operation.{Operation}
use Rattle.power_insns.specs.declared.meaning.Operation.TheVariants.{Copy, Calculate, Load, Store}
use Rattle.power_insns.specs.Arithmetic.{extended}
use Rattle.power_insns.specs.Operations.{operation_of, or_zero}
use Rattle.prefixed_insns.specs.declared.instruction.POp.{POp}
use Rattle.prefixed_insns.specs.declared.instruction.POp.TheVariants.{Paddi, Plwz, Plbz, Plhz, Plha, Plwa, Pld, Pstw, Pstb, Psth, Pstd}
use Rattle.prefixed_insns.specs.declared.instruction.PInsn.{PInsn}

-- the address of the prefix and the displacement, or (RA|0)
abbrev pub base_with : Bool → ℕ → ℕ → Operand
base_with true ra n = Here n
base_with false ra n = or_zero ra

abbrev pub base_of : PInsn → Operand
base_of i = base_with i.relative i.ra (extended i.disp)

-- what is added to it: nothing, or the displacement
abbrev pub offset_with : Bool → ℕ → Operand
offset_with true n = Fixed 0
offset_with false n = Fixed n

abbrev pub offset_of : PInsn → Operand
offset_of i = offset_with i.relative (extended i.disp)

-- `paddi`: an address, which is copied, or a sum
abbrev pub sum_with : Bool → ℕ → Operand → Operand → Operation
sum_with true rt base offset = Copy rt base false
sum_with false rt base offset = Calculate Sum rt base offset false

abbrev pub sum_of : PInsn → Operation
sum_of i = sum_with i.relative i.rt (base_of i) (offset_of i)

-- the one-word form of a load or a store
abbrev pub one_word_form : POp → ℕ → ℕ → Insn
one_word_form Paddi rt ra = Addi rt ra (pos 0)
one_word_form Plwz rt ra = Lwz rt ra (pos 0)
one_word_form Plbz rt ra = Lbz rt ra (pos 0)
one_word_form Plhz rt ra = Lhz rt ra (pos 0)
one_word_form Plha rt ra = Lha rt ra (pos 0)
one_word_form Plwa rt ra = Lwa rt ra (pos 0)
one_word_form Pld rt ra = Ld rt ra (pos 0)
one_word_form Pstw rt ra = Stw rt ra (pos 0)
one_word_form Pstb rt ra = Stb rt ra (pos 0)
one_word_form Psth rt ra = Sth rt ra (pos 0)
one_word_form Pstd rt ra = Std rt ra (pos 0)

-- a load or store at another address
abbrev pub reaching : Operand → Operand → Operation → Operation
reaching base offset (Load width sign to b o) = Load width sign to base offset
reaching base offset (Store width from b o update) = Store width from base offset update
reaching base offset other = other

abbrev pub operation_with : POp → PInsn → Operation
operation_with Paddi i = sum_of i
operation_with op i = reaching (base_of i) (offset_of i) (operation_of (one_word_form op i.rt i.ra))

abbrev pub operation_of_pair : PInsn → Operation
operation_of_pair i = operation_with i.op i
