-- Loads and stores that have a prefixed form: what they read, the words that they have, and the numbers in them.
use Rattle.std.proofs.Common.{◌≡◌, ◌<◌, ◌≤◌, inl, inr, ℕ, ℤ, Bool, true, false, eqb, Some, ap, subst, refl, arith, if◌then◌else◌}
use Rattle.std.proofs.lemmas.Bool.Decides.{nat_tests}
use Rattle.power_insns.specs.declared.instruction.Insn.{Insn}
use Rattle.power_insns.specs.declared.instruction.Insn.TheVariants.{Lwz, Lbz, Lhz, Lha, Lwa, Ld, Stw, Stb, Sth, Std}
use Rattle.power_insns.specs.declared.meaning.Operand.TheVariants.{Fixed, Register}
use Rattle.power_insns.specs.Operations.{operation_of, or_zero}
use Rattle.power_insns.specs.Table.{word_of, Fits as FitsWord}
use Rattle.power_insns.specs.Uses.{IsRegister, Reads}
use Rattle.power_insns.specs.Words.{InSigned}
use Rattle.prefixed_insns.specs.declared.instruction.POp.{POp}
use Rattle.prefixed_insns.specs.declared.instruction.POp.TheVariants.{Plwz, Plbz, Plhz, Plha, Plwa, Pld, Pstw, Pstb, Psth, Pstd}
use Rattle.prefixed_insns.specs.declared.short_forms.ShortForm.{ShortForm}
use Rattle.prefixed_insns.specs.ShortForms.{short_form_of}

-- a base other than r0 is read
base_case : (ra : ℕ) (none : Bool) → none ≡ false → IsRegister (if none then Fixed 0 else Register ra) ra
base_case ra true is = cc
base_case ra false is = refl

base_read : (ra : ℕ) → 0 < ra → IsRegister (or_zero ra) ra
base_read ra some = let test : eqb ra 0 ≡ false = grind (arith, nat_tests) in base_case ra (eqb ra 0) test

-- the parts of such an instruction
abbrev IsShort : POp → ℕ → ℕ → ℤ → ShortForm → Type 0
IsShort op register base disp form = Some (record { op = op; register = register; base = base; disp = disp }) ≡ Some form

base_is : (op : POp) (register base : ℕ) (disp : ℤ) (form : ShortForm) → IsShort op register base disp form → base ≡ form.base
base_is op register base disp form is =
    let this : record { op = op; register = register; base = base; disp = disp } ≡ form = cc in
    ap (λ (f : ShortForm). f.base) this

at_base : (op : POp) (register base : ℕ) (disp : ℤ) (form : ShortForm) → IsShort op register base disp form → 0 < form.base →
    IsRegister (or_zero base) form.base
at_base op register base disp form is some =
    let same = base_is op register base disp form is in
    subst (λ (r : ℕ). IsRegister (or_zero base) r) same (base_read base (omega (arith, same)))

-- it reads its base register
pub reads_base : (insn : Insn) (form : ShortForm) → short_form_of insn ≡ Some form → 0 < form.base → Reads (operation_of insn) form.base
reads_base = elim [
  | Lwz rt ra d ↦ λ form is some. inl (at_base Plwz rt ra d form is some)
  | Lbz rt ra d ↦ λ form is some. inl (at_base Plbz rt ra d form is some)
  | Lhz rt ra d ↦ λ form is some. inl (at_base Plhz rt ra d form is some)
  | Lha rt ra d ↦ λ form is some. inl (at_base Plha rt ra d form is some)
  | Lwa rt ra ds ↦ λ form is some. inl (at_base Plwa rt ra ds form is some)
  | Ld rt ra ds ↦ λ form is some. inl (at_base Pld rt ra ds form is some)
  | Stw rs ra d ↦ λ form is some. inr (inl (at_base Pstw rs ra d form is some))
  | Stb rs ra d ↦ λ form is some. inr (inl (at_base Pstb rs ra d form is some))
  | Sth rs ra d ↦ λ form is some. inr (inl (at_base Psth rs ra d form is some))
  | Std rs ra ds ↦ λ form is some. inr (inl (at_base Pstd rs ra ds form is some))
  | _ ↦ λ form is some. cc
]

-- its primary opcode is 32 or more, so it is no nop and no other `ori`
pub short_words_are_high : (insn : Insn) (form : ShortForm) → short_form_of insn ≡ Some form → 0x80000000 ≤ word_of insn
short_words_are_high = elim [
  | Lwz rt ra d ↦ λ form is. omega arith
  | Lbz rt ra d ↦ λ form is. omega arith
  | Lhz rt ra d ↦ λ form is. omega arith
  | Lha rt ra d ↦ λ form is. omega arith
  | Lwa rt ra ds ↦ λ form is. omega arith
  | Ld rt ra ds ↦ λ form is. omega arith
  | Stw rs ra d ↦ λ form is. omega arith
  | Stb rs ra d ↦ λ form is. omega arith
  | Sth rs ra d ↦ λ form is. omega arith
  | Std rs ra ds ↦ λ form is. omega arith
  | _ ↦ λ form is. cc
]

-- its registers and its displacement
pub record FitsShort (form : ShortForm) : Type 0 where
  pub register : form.register < 32
  pub base : form.base < 32
  pub disp : InSigned 16 form.disp

short_fits : (op : POp) (register base : ℕ) (disp : ℤ) (form : ShortForm) → IsShort op register base disp form → register < 32 →
    base < 32 → InSigned 16 disp → FitsShort form
short_fits op register base disp form is r b d =
    let this : record { op = op; register = register; base = base; disp = disp } ≡ form = cc in
    subst FitsShort this (record { register = r; base = b; disp = d })

pub short_form_fits : (insn : Insn) (form : ShortForm) → short_form_of insn ≡ Some form → FitsWord insn → FitsShort form
short_form_fits = elim [
  | Lwz rt ra d ↦ λ form is fits. short_fits Plwz rt ra d form is fits.0 fits.1 fits.2
  | Lbz rt ra d ↦ λ form is fits. short_fits Plbz rt ra d form is fits.0 fits.1 fits.2
  | Lhz rt ra d ↦ λ form is fits. short_fits Plhz rt ra d form is fits.0 fits.1 fits.2
  | Lha rt ra d ↦ λ form is fits. short_fits Plha rt ra d form is fits.0 fits.1 fits.2
  | Lwa rt ra ds ↦ λ form is fits. short_fits Plwa rt ra ds form is fits.0 fits.1 fits.2.0
  | Ld rt ra ds ↦ λ form is fits. short_fits Pld rt ra ds form is fits.0 fits.1 fits.2.0
  | Stw rs ra d ↦ λ form is fits. short_fits Pstw rs ra d form is fits.0 fits.1 fits.2
  | Stb rs ra d ↦ λ form is fits. short_fits Pstb rs ra d form is fits.0 fits.1 fits.2
  | Sth rs ra d ↦ λ form is fits. short_fits Psth rs ra d form is fits.0 fits.1 fits.2
  | Std rs ra ds ↦ λ form is fits. short_fits Pstd rs ra ds form is fits.0 fits.1 fits.2.0
  | _ ↦ λ form is fits. cc
]
