use Rattle.std.proofs.Common.{ℕ, ℤ, ◌≡◌, ◌-◌, Bool, true, false, List, None, Some, ap, sym, ◌∙◌, subst, arith, rules, to_z, of_z, w32, w64, if◌then◌else◌}
use Rattle.std.specs.Prelude.{◌+ℤ◌, FitsSigned}
use Rattle.std.specs.Int.{w128}
use Rattle.std.proofs.lemmas.Int.{ints, to_z-of_z}
use Rattle.ppc_bytes.specs.Bytes.{number_at, InSigned as InSignedBits}
use Rattle.power_insns.specs.Words.{InSigned}
use Rattle.prefixed_insns.specs.declared.short_forms.ShortForm.{ShortForm}
use Rattle.prefixed_insns.specs.ShortForms.{relative_form}
use Rattle.toc_groups.specs.Values.{is_signed}
use Rattle.pcrel_rewrite.specs.declared.words.ShortAccess.{ShortAccess}
use Rattle.pcrel_rewrite.specs.Words.{IsShortWord}
use Rattle.image_writer.specs.declared.got_loads.LoadWords.{LoadWords}
use Rattle.image_writer.specs.GotLoads.{displacement_of, access_form, load_words}
use Rattle.image_writer.specs.inside.Loads.{paired_by}
use Rattle.image_writer.proofs.AccessWords.{access_told}
use Rattle.image_writer.proofs.Loads.{no_tail, some_tail}
use Rattle.image_writer.proofs.got_loads.paired_load.Goals as goal

-- a sum that doesn't wrap
kept : (d f : ℤ) → InSignedBits 66 d → FitsSigned w32 f →
    to_z w128 (of_z w128 (to_z w128 (of_z w128 d) +ℤ to_z w128 (of_z w128 f))) ≡ d +ℤ f
kept d f fits few =
    let low = fits.low in
    let high = fits.high in
    omega (arith, ints, low, high, few)

near_kept : (x : ℤ) → InSigned 34 x → to_z w64 (of_z w64 x) ≡ x
near_kept x fits =
    let low = fits.low in
    let high = fits.high in
    omega (arith, ints, low, high)

-- what a word's access tells of it
module _ (word : ℕ) (access : ShortAccess) (is : IsShortWord word access) where
  disp_is : displacement_of word ≡ access.form.disp
  disp_is = ap (λ (f : ShortForm). f.disp) (access_told word access is)

  pair_is : (offset tail : ℕ) (distance reach : ℤ) (bytes : List ℕ) (t : Bool) (load : LoadWords) → word ≡ number_at 4 bytes tail →
      reach ≡ distance +ℤ access.form.disp → t ≡ is_signed 34 reach → t ≡ true →
      load ≡ load_words (relative_form reach access.form) (Some (tail - offset)) →
      Some load ≡ paired_by offset distance bytes (Some tail)
  pair_is offset tail distance reach bytes t load same sum test near made =
      let told = sum ∙ ap (λ (d : ℤ). distance +ℤ d) (sym disp_is) in
      let loads : load ≡ load_words (relative_form (distance +ℤ displacement_of word) (access_form word)) (Some (tail - offset)) =
      made ∙ ap (λ (d : ℤ). load_words (relative_form d access.form) (Some (tail - offset))) told
      ∙ ap (λ (f : ShortForm). load_words (relative_form (distance +ℤ displacement_of word) f) (Some (tail - offset)))
      (sym (access_told word access is)) in
      ap Some loads
      ∙ sym (ap (λ (b : Bool). if b
      then Some (load_words (relative_form (distance +ℤ displacement_of word) (access_form word)) (Some (tail - offset))) else None)
      (ap (is_signed 34) (sym told) ∙ sym test ∙ near))
      ∙ ap (λ (w : ℕ). if is_signed 34 (distance +ℤ displacement_of w)
      then Some (load_words (relative_form (distance +ℤ displacement_of w) (access_form w)) (Some (tail - offset))) else None) same

  far_is : (offset tail : ℕ) (distance reach : ℤ) (bytes : List ℕ) (t : Bool) → word ≡ number_at 4 bytes tail →
      reach ≡ distance +ℤ access.form.disp → t ≡ is_signed 34 reach → t ≡ false → None ≡ paired_by offset distance bytes (Some tail)
  far_is offset tail distance reach bytes t same sum test far =
      let told = sum ∙ ap (λ (d : ℤ). distance +ℤ d) (sym disp_is) in
      sym (ap (λ (b : Bool). if b
      then Some (load_words (relative_form (distance +ℤ displacement_of word) (access_form word)) (Some (tail - offset))) else None)
      (ap (is_signed 34) (sym told) ∙ sym test ∙ far))
      ∙ ap (λ (w : ℕ). if is_signed 34 (distance +ℤ displacement_of w)
      then Some (load_words (relative_form (distance +ℤ displacement_of w) (access_form w)) (Some (tail - offset))) else None) same

-- there is no pair
pub returns-in_err-tail : goal.returns-in_err-tail
returns-in_err-tail c =
    c.from_residual.ensures
    ∙ sym (ap (paired_by c.args.offset c.args.distance c.args.bytes.now)
    (no_tail c.args.pairs.now c.args.section c.args.offset c.in_err-tail.ensures.none))

-- the access lies in the section
pub word_at-requires : goal.word_at-requires
word_at-requires c = (c.requires.access c.in_ok-tail.tail c.in_ok-tail.ensures.some).within

-- and is one
pub access_of-access-requires : goal.access_of-access-requires
access_of-access-requires c =
    let at = c.requires.access c.in_ok-tail.tail c.in_ok-tail.ensures.some in
    (at.access, subst (λ (w : ℕ). IsShortWord w at.access) (sym c.word_at.ensures) at.is)

-- it doesn't reach
pub returns-then-not-is_near : goal.returns-then-not-is_near
returns-then-not-is_near c =
    let tail = c.in_ok-tail.tail in
    let access = c.access_of-access.result in
    let few : FitsSigned w32 access.form.disp = search (rules, c.access_of-access.type_inv) in
    let from = c.from.ensures ∙ to_z-of_z w32 access.form.disp few in
    let sum = kept c.args.distance c.from.result c.requires.range (subst (FitsSigned w32) (sym from) few)
    ∙ ap (λ (d : ℤ). c.args.distance +ℤ d) from in
    far_is c.word_at.result access c.access_of-access.ensures c.args.offset tail c.args.distance _ c.args.bytes.now c.is_near.result
    c.word_at.ensures sum c.is_near.ensures.test c.if-not-is_near.true
    ∙ sym (ap (paired_by c.args.offset c.args.distance c.args.bytes.now)
    (some_tail c.args.pairs.now c.args.section c.args.offset tail c.in_ok-tail.ensures.some c.requires.one))

-- it reaches
pub overflow_cast-reach : goal.overflow_cast-reach
overflow_cast-reach c =
    let near = c.is_near.ensures.fact c.if-not-is_near.false in
    let low = near.low in
    let high = near.high in
    omega (arith, ints, low, high)

-- it stands behind the load
pub overflow_sub-tail : goal.overflow_sub-tail
overflow_sub-tail c = (c.requires.access c.in_ok-tail.tail c.in_ok-tail.ensures.some).behind

pub pair_load-requires-clause-distance : goal.pair_load-requires-clause-distance
pair_load-requires-clause-distance c =
    let near = c.is_near.ensures.fact c.if-not-is_near.false in
    subst (InSigned 34) (sym (near_kept _ near)) near

-- the load of the pair
pub returns : goal.returns
returns c =
    let tail = c.in_ok-tail.tail in
    let access = c.access_of-access.result in
    let few : FitsSigned w32 access.form.disp = search (rules, c.access_of-access.type_inv) in
    let near = c.is_near.ensures.fact c.if-not-is_near.false in
    let from = c.from.ensures ∙ to_z-of_z w32 access.form.disp few in
    let sum = kept c.args.distance c.from.result c.requires.range (subst (FitsSigned w32) (sym from) few)
    ∙ ap (λ (d : ℤ). c.args.distance +ℤ d) from in
    pair_is c.word_at.result access c.access_of-access.ensures c.args.offset tail c.args.distance _ c.args.bytes.now c.is_near.result
    c.pair_load.result c.word_at.ensures sum c.is_near.ensures.test c.if-not-is_near.false
    (c.pair_load.ensures
    ∙ ap (λ (d : ℤ). load_words (relative_form d access.form) (Some (tail - c.args.offset))) (near_kept _ near))
    ∙ sym (ap (paired_by c.args.offset c.args.distance c.args.bytes.now)
    (some_tail c.args.pairs.now c.args.section c.args.offset tail c.in_ok-tail.ensures.some c.requires.one))
