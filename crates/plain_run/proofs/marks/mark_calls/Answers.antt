-- The site of a call stands on a word, one call more is marked, and in the end all are.
use Rattle.std.proofs.Common.{◌≡◌, ◌/◌, ℕ, None, length, sym, ap, ◌∙◌, subst, arith}
use Rattle.object_set.specs.Refusals.{set_refusal}
use Rattle.plain_run.specs.inside.Marks.{AllTell, NoneLeft}
use Rattle.plain_run.proofs.CallMarks.{site_at}
use Rattle.plain_run.proofs.Marking.{meets_marked, site_begins, call_marked}
use Rattle.plain_run.proofs.marks.mark_calls.Goals as goal

pub set_mark-requires : goal.set_mark-requires
set_mark-requires c =
    let files = c.args.res.now.files in
    let none = c.requires.job.records in
    let site = c.at-site.result.now in
    let whole : set_refusal files ≡ None = ap set_refusal (sym c.set.ensures) ∙ c.file_count-files.ensures.whole in
    let stands = site_at files whole none c.requires.job.groups c.args.sites.now c.loop-number.number site c.requires.job.sites_are
    c.at-site.ensures in
    meets_marked files whole none c.loop-number.sections.items c.loop-number.invariant.texts stands.field.id site.section (site.offset / 4)
    (site_begins files whole none c.loop-number.number site stands).meets

pub loop-number-preserved : goal.loop-number-preserved
loop-number-preserved c =
    let files = c.args.res.now.files in
    let none = c.requires.job.records in
    let whole : set_refusal files ≡ None = ap set_refusal (sym c.set.ensures) ∙ c.file_count-files.ensures.whole in
    let number = c.loop-number.number in
    let site = c.at-site.result.now in
    let stands = site_at files whole none c.requires.job.groups c.args.sites.now number site c.requires.job.sites_are
    c.at-site.ensures in
    record {
      texts = c.set_mark.ensures.shapes ∙ c.loop-number.invariant.texts;
      marks = call_marked files whole none c.args.pairs.now number site stands c.loop-number.sections.items c.set_mark.new.sections.items
          c.set_mark.ensures c.loop-number.invariant.marks;
    }

pub returns-clause-marks : goal.returns-clause-marks
returns-clause-marks c =
    let all : c.loop-number.number ≡ length c.args.sites.now =
    omega (arith, c.loop-number-test.false, c.loop-number.auto.number-end, c.count-number-end.ensures) in
    subst (λ (n : ℕ). AllTell c.args.res.now.files c.args.pairs.now NoneLeft n 0 c.loop-number.sections.items) all
    c.loop-number.invariant.marks
