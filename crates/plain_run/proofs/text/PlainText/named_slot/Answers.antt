-- address-requires: a target of the files is laid out. returns: the foldable slot that begins there, or that there is none.
use Rattle.std.proofs.Common.{◌≡◌, false, Some, Option, ap, subst, sym, ◌∙◌}
use Rattle.std.specs.Prelude.{IfSome, IfNone}
use Rattle.object_set.specs.declared.places.RecordId.{RecordId}
use Rattle.symbol_table.specs.declared.target.Target.{Target}
use Rattle.toc_groups.specs.Parts.{IsTargetOf}
use Rattle.toc_groups.proofs.Reading.{laid_target}
use Rattle.toc_rewrite.specs.Folded.{IsNamed}
use Rattle.toc_rewrite.specs.Records.{record_target}
use Rattle.plain_run.specs.Places.{names_foldable, NamesSlot}
use Rattle.plain_run.specs.Jobs.{PlainJob}
use Rattle.plain_run.proofs.FieldParts.{no_slot, the_slot}
use Rattle.plain_run.proofs.text.PlainText.named_slot.Goals as goal

pub address-requires : goal.address-requires
address-requires c =
    let files = c.self.inside.res.now.files in
    let plan = c.self.inside.plan.now in
    let t = c.in_ok-target.field-0 in
    let known = subst (λ (o : Option Target). IfSome o (IsTargetOf c.args.self.now.files)) c.in_ok-target.was c.requires.known in
    laid_target files plan.span plan c.self.invariant.job_is.plan_is t
    (subst (λ (j : PlainJob). IsTargetOf j.files t) (sym c.self.view_is) known)

pub returns-in_err-slot-clause-none : goal.returns-in_err-slot-clause-none
returns-in_err-slot-clause-none c =
    let files = c.self.inside.res.now.files in
    let plan = c.self.inside.plan.now in
    let id = c.args.id in
    let t = c.in_ok-target.field-0 in
    let known = subst (λ (o : Option Target). IfSome o (IsTargetOf c.args.self.now.files)) c.in_ok-target.was c.requires.known in
    let there = subst (λ (j : PlainJob). IsTargetOf j.files t) (sym c.self.view_is) known in
    let goes : Some t ≡ record_target files id =
    sym c.in_ok-target.was ∙ c.requires.target ∙ ap (λ (j : PlainJob). record_target j.files id) (sym c.self.view_is) in
    let none = subst (IsNamed c.self.inside.folds.now id.file c.in_ok-number.number) c.in_err-slot.was c.named.ensures in
    let free = no_slot files plan c.self.invariant.job_is.plan_is c.self.inside.folds.now c.self.invariant.job_is.folds_are id t goes there
    c.in_ok-number.number (sym c.in_ok-number.was ∙ c.address.ensures) none in
    subst (λ (o : Option RecordId). IfNone o (names_foldable c.args.self.now.files c.args.self.now.plan id ≡ false))
    (sym c.from_residual-in_err-slot.ensures)
    (subst (λ (j : PlainJob). names_foldable j.files j.plan id ≡ false) c.self.view_is free)

pub returns-clause-some : goal.returns-clause-some
returns-clause-some c =
    let files = c.self.inside.res.now.files in
    let plan = c.self.inside.plan.now in
    let id = c.args.id in
    let t = c.in_ok-target.field-0 in
    let known = subst (λ (o : Option Target). IfSome o (IsTargetOf c.args.self.now.files)) c.in_ok-target.was c.requires.known in
    let there = subst (λ (j : PlainJob). IsTargetOf j.files t) (sym c.self.view_is) known in
    let goes : Some t ≡ record_target files id =
    sym c.in_ok-target.was ∙ c.requires.target ∙ ap (λ (j : PlainJob). record_target j.files id) (sym c.self.view_is) in
    let named = subst (IsNamed c.self.inside.folds.now id.file c.in_ok-number.number) c.in_ok-slot.was c.named.ensures in
    subst (λ (j : PlainJob). NamesSlot j.files j.plan id c.in_ok-slot.slot.id) c.self.view_is
    (the_slot files plan c.self.invariant.job_is.plan_is c.self.inside.folds.now c.self.invariant.job_is.folds_are id t goes there
    c.in_ok-number.number c.in_ok-slot.slot (sym c.in_ok-number.was ∙ c.address.ensures) named)
