-- Words tell what they load, access and spare.
use Rattle.std.proofs.Common.{◌≡◌, ℕ, Some, sym, ap, ◌∙◌}
use Rattle.power_insns.specs.declared.instruction.Insn.{Insn}
use Rattle.power_insns.specs.Operations.{operation_of}
use Rattle.power_insns.specs.Uses.{access_of}
use Rattle.power_insns.specs.laws.Words.{one_word}
use Rattle.prefixed_insns.specs.declared.instruction.PInsn.{PInsn}
use Rattle.prefixed_insns.specs.declared.short_forms.ShortForm.{ShortForm}
use Rattle.prefixed_insns.specs.ShortForms.{short_form_of}
use Rattle.prefixed_insns.specs.laws.Pairs.{one_pair}
use Rattle.pcrel_rewrite.specs.declared.words.ShortAccess.{ShortAccess}
use Rattle.pcrel_rewrite.specs.declared.words.Uses.{Uses}
use Rattle.pcrel_rewrite.specs.Words.{IsWordOf, IsShortWord, LoadsAddress, IsAccess}

-- a word is that of one instruction
pub one_insn : (x y : Insn) (word : ℕ) → IsWordOf x word → IsWordOf y word → x ≡ y
one_insn x y word is is' = one_word x y is.fits is'.fits (is.word_is ∙ sym is'.word_is)

-- two words load one register
pub one_register : (prefix suffix r s : ℕ) → LoadsAddress prefix suffix r → LoadsAddress prefix suffix s → r ≡ s
one_register prefix suffix r s loads loads' =
    let same : loads.insn ≡ loads'.insn =
    one_pair loads.insn loads'.insn loads.fits loads'.fits (loads.prefix_is ∙ sym loads'.prefix_is)
    (loads.suffix_is ∙ sym loads'.suffix_is) in
    sym loads.register_is ∙ ap (λ (i : PInsn). i.rt) same ∙ loads'.register_is

-- a word is one access
pub one_access : (word : ℕ) (a b : ShortAccess) → IsShortWord word a → IsShortWord word b → a ≡ b
one_access word a b is is' =
    let insns : a.insn ≡ b.insn = one_insn a.insn b.insn word is.is is'.is in
    let some : Some a.form ≡ Some b.form = sym is.form_is ∙ ap short_form_of insns ∙ is'.form_is in
    let forms : a.form ≡ b.form = cc in
    let with_insn : Insn → ShortAccess = λ i. record { insn = i; form = a.form } in
    let with_form : ShortForm → ShortAccess = λ f. record { insn = b.insn; form = f } in
    ap with_insn insns ∙ ap with_form forms

-- a word accesses memory in one way
pub one_use : (word address : ℕ) (u v : Uses) → IsAccess word address u → IsAccess word address v → u ≡ v
one_use word address u v a b =
    let same : a.access ≡ b.access = one_access word a.access b.access a.here b.here in
    let uses : ShortAccess → Uses = λ s. record {
      address = address;
      register = s.form.register;
      access = access_of (operation_of s.insn);
    } in
    a.uses_is ∙ ap uses same ∙ sym b.uses_is
