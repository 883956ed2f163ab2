-- Each section is kept, and its marks tell.
use Rattle.std.proofs.Common.{◌≡◌, ◌<◌, ℕ, List, Some, length, slice_get, sym, ap, ◌∙◌, subst, refl, arith}
use Rattle.std.specs.List.{slice_index_or}
use Rattle.std.proofs.lemmas.Option.{slice_get_read, get_or_from_slice_get}
use Rattle.object_set.specs.declared.places.SectionId.{SectionId}
use Rattle.symbol_table.specs.Text.{text_sections}
use Rattle.call_sites.specs.Sites.{no_section}
use Rattle.plain_run.specs.Standing.{section_at}
use Rattle.plain_run.specs.inside.Marks.{IsTextAt, MarkTells, MarkedSection, word_place}
use Rattle.plain_run.specs.Jobs.{PlainJob}
use Rattle.plain_run.proofs.TextWords.{kept_count, text_kept}
use Rattle.plain_run.proofs.WrittenMarks.{mark_of_found}
use Rattle.plain_run.proofs.text.PlainText.section_of.Goals as goal

pub index-requires : goal.index-requires
index-requires c =
    let many = kept_count c.self.inside.res.now.files c.self.invariant.job_is.whole c.self.inside.sections.items
    c.self.invariant.sections_are.texts in
    let same = ap (λ (j : PlainJob). length (text_sections j.files)) c.self.view_is in
    omega (arith, many, same, c.self.inside.sections.ok.0, c.requires)

-- the section is found
found : (files own : List (List ℕ)) (items : List MarkedSection) (k : ℕ) (m : MarkedSection) → own ≡ files →
    length items ≡ length (text_sections own) → k < length (text_sections files) → m ≡ slice_index_or items k m → slice_get items k ≡ Some m
found files own items k m same many within is =
    let all = ap (λ (l : List (List ℕ)). length (text_sections l)) same in
    slice_get_read items (length items) k m refl (omega (arith, many, all, within)) is

pub returns-clause-text : goal.returns-clause-text
returns-clause-text c =
    let files = c.self.inside.res.now.files in
    let items = c.self.inside.sections.items in
    let p = c.args.p in
    let m = c.index.result.now in
    let there : slice_get items p.section ≡ Some m =
    found c.args.self.now.files c.self.inside.res.now.files items p.section m (ap (λ (j : PlainJob). j.files) c.self.view_is)
    (kept_count c.self.inside.res.now.files c.self.invariant.job_is.whole items c.self.invariant.sections_are.texts) c.requires
    c.index.ensures in
    let text = text_kept files c.self.invariant.job_is.whole items c.self.invariant.sections_are.texts p.section m there in
    let own : section_at files p ≡ text.0 =
    get_or_from_slice_get (text_sections files) p.section text.0 no_section text.1.found in
    subst (λ (j : PlainJob). IsTextAt j.files p.section (section_at j.files p) m) c.self.view_is
    (subst (λ (s : SectionId). IsTextAt files p.section s m) (sym own) text.1)

pub returns-clause-marks : goal.returns-clause-marks
returns-clause-marks c = λ w x has.
    let items = c.self.inside.sections.items in
    let p = c.args.p in
    let m = c.index.result.now in
    let there : slice_get items p.section ≡ Some m =
    found c.args.self.now.files c.self.inside.res.now.files items p.section m (ap (λ (j : PlainJob). j.files) c.self.view_is)
    (kept_count c.self.inside.res.now.files c.self.invariant.job_is.whole items c.self.invariant.sections_are.texts) c.requires
    c.index.ensures in
    subst (λ (j : PlainJob). MarkTells j.files j.pairs (word_place p.section w) x) c.self.view_is
    (c.self.invariant.sections_are.marks p.section w x (mark_of_found items p.section w m there ∙ has))
