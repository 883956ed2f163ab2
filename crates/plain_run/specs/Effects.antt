-- What a word does in the plain run, and what it needs (ELFv2 ABI, "TOC Pointer Usage" and "Relocation Notations"): the file's own
-- instructions do what they do, and a word with a relocation acts with the address to which its record goes.
use Rattle.std.specs.Prelude.{ℕ, ◌≡◌, Option, Some, None}
use Rattle.power_insns.specs.declared.instruction.Insn.{Insn}
use Rattle.power_insns.specs.declared.instruction.Insn.TheVariants.{Ori}
use Rattle.power_insns.specs.declared.meaning.Operand.TheVariants.{Fixed}
use Rattle.power_insns.specs.declared.meaning.Operation.{Operation}
use Rattle.power_insns.specs.declared.meaning.Operation.TheVariants.{Copy, Calculate, Divide, Compare, Load, Store, Branch, System}
use Rattle.power_insns.specs.Operations.{operation_of}
use Rattle.prefixed_insns.specs.declared.short_forms.ShortForm.{ShortForm}
use Rattle.prefixed_insns.specs.Meaning.{operation_of_pair}
use Rattle.prefixed_insns.specs.ShortForms.{short_form_of}
use Rattle.power_machine.specs.declared.code.Code.{Code}
use Rattle.power_machine.specs.declared.code.Code.TheVariants as code
use Rattle.power_machine.specs.declared.reason.Reason.{Reason}
use Rattle.power_machine.specs.declared.reason.Reason.TheVariants as why
use Rattle.power_machine.specs.Codes.{IsOneWord}
use Rattle.symbol_table.specs.Targets.{plus_addend}
use Rattle.plain_machine.specs.declared.action.Action.{Action}
use Rattle.plain_machine.specs.declared.action.Effect.{Effect}
use Rattle.plain_machine.specs.declared.action.Effect.TheVariants as effect
use Rattle.plain_machine.specs.declared.action.Need.{Need}
use Rattle.plain_machine.specs.declared.value.PlainValue.{PlainValue}
use Rattle.plain_machine.specs.declared.value.PlainValue.TheVariants.{Number, Code as Place, Part, Pair, Difference, Junk}

-- an effect that needs nothing
abbrev pub does : Effect → Action
does e = record { first = None; second = None; effect = e }

abbrev pub leaves : Reason → Action
leaves reason = does (effect.Leave reason)

-- a register must hold a value
abbrev pub needs_value : ℕ → PlainValue → Reason → Option Need
needs_value register value reason = Some (record { register = register; value = value; reason = reason })

-- what stands there as an instruction, or that none does
abbrev pub code_action : Code → Action
code_action code.Unfetched = leaves why.Fetch
code_action code.Unknown = leaves why.Word
code_action (code.OneWord insn) = does (effect.Operate 4 (operation_of insn))
code_action (code.TwoWords insn) = does (effect.Operate 8 (operation_of_pair insn))

-- a nop: `ori r0,r0,0`
abbrev pub nop_action : Action
nop_action = code_action (code.OneWord (Ori 0 0 0))

-- a word is an instruction of one word, or none
abbrev pub IsWordCode : ℕ → Code → Type 0
IsWordCode word code.Unfetched = ⊥
IsWordCode word code.Unknown = (insn : Insn) → ¬ IsOneWord word insn
IsWordCode word (code.OneWord insn) = IsOneWord word insn
IsWordCode word (code.TwoWords insn) = ⊥

-- an access at a value, which must be a number; a sum, in whose place the value is given
abbrev pub loading_at : ℕ → Operation → PlainValue → Effect
loading_at size op (Number n) = effect.Operate size op
loading_at size op (Place p) = effect.Leave why.Value
loading_at size op (Part a) = effect.Leave why.Value
loading_at size op (Pair p) = effect.Leave why.Value
loading_at size op (Difference p n) = effect.Leave why.Value
loading_at size op Junk = effect.Leave why.Value

-- the number of a value, where only that counts
abbrev pub address_in : PlainValue → ℕ
address_in (Number n) = n
address_in (Place p) = 0
address_in (Part a) = 0
address_in (Pair p) = 0
address_in (Difference p n) = 0
address_in Junk = 0

-- what an operation, of an instruction of so many bytes, does with a value in the place of the address that it makes or goes through
abbrev pub acting_with : ℕ → PlainValue → Operation → Effect
acting_with size v (Copy to from rc) = effect.Give size to v
acting_with size v (Calculate function to x y rc) = effect.Give size to v
acting_with size v (Load width sign to base offset) = loading_at size (Load width sign to (Fixed (address_in v)) (Fixed 0)) v
acting_with size v (Store width from base offset update) = loading_at size (Store width from (Fixed (address_in v)) (Fixed 0) update) v
acting_with size v (Divide sign to x y rc) = effect.Leave why.Word
acting_with size v (Compare field width sign x y) = effect.Leave why.Word
acting_with size v (Branch counter condition target link) = effect.Leave why.Word
acting_with size v System = effect.Leave why.Word

-- the same of what stands there as an instruction
abbrev pub code_acting : PlainValue → Code → Effect
code_acting v code.Unfetched = effect.Leave why.Word
code_acting v code.Unknown = effect.Leave why.Word
code_acting v (code.OneWord insn) = acting_with 4 v (operation_of insn)
code_acting v (code.TwoWords insn) = acting_with 8 v (operation_of_pair insn)

-- the access of a recognised pair, at its displacement from a value, through the register that holds the pair's address
abbrev pub through : ShortForm → ℕ → Operation → Effect
through form n (Load width sign to base offset) =
    effect.Access (Load width sign to (Fixed (plus_addend n form.disp)) (Fixed 0)) form.base
through form n (Store width from base offset update) =
    effect.Access (Store width from (Fixed (plus_addend n form.disp)) (Fixed 0) update) form.base
through form n other = effect.Leave why.Word

abbrev pub accessing : ShortForm → Operation → PlainValue → Effect
accessing form op (Number n) = through form n op
accessing form op (Place p) = effect.Leave why.Value
accessing form op (Part a) = effect.Leave why.Value
accessing form op (Pair p) = effect.Leave why.Value
accessing form op (Difference p n) = effect.Leave why.Value
accessing form op Junk = effect.Leave why.Value

abbrev pub access_action : PlainValue → PlainValue → Operation → Option ShortForm → Action
access_action pair v op None = leaves why.Word
access_action pair v op (Some form) =
    record { first = needs_value form.base pair why.Pair; second = None; effect = accessing form op v }

-- it needs the pair's address, which the load at its head gave
abbrev pub pair_access : PlainValue → PlainValue → Code → Action
pair_access pair v code.Unfetched = leaves why.Word
pair_access pair v code.Unknown = leaves why.Word
pair_access pair v (code.OneWord insn) = access_action pair v (operation_of insn) (short_form_of insn)
pair_access pair v (code.TwoWords insn) = leaves why.Word

-- something stands there as an instruction, and this is what it does
pub record IsDone (Is : Code → Type 0) (with : Code → Action) (a : Action) : Type 0 where
  pub code : Code
  pub stands : Is code
  pub is : a ≡ with code
