-- The prologues of the section's file are kept.
use Rattle.std.proofs.Common.{◌≡◌, ◌<◌, ℕ, List, length, sym, ap, ◌∙◌, subst, arith}
use Rattle.std.specs.List.{slice_index_or}
use Rattle.elf64_records.specs.FileHeader.{e_shnum}
use Rattle.object_set.specs.declared.places.SectionId.{SectionId}
use Rattle.object_set.specs.Files.{file_at}
use Rattle.symbol_table.specs.Prologue.{has_recognised_prologue}
use Rattle.symbol_table.specs.inside.Fields.{FileOf}
use Rattle.call_sites.specs.inside.Ready.{files_of}
use Rattle.call_sites.proofs.ReadyFiles.{as_many, kept_at}
use Rattle.plain_run.specs.Standing.{section_at}
use Rattle.plain_run.specs.Jobs.{PlainJob}
use Rattle.plain_run.proofs.text.PlainText.is_entry.Goals as goal

kept_file : (files own : List (List ℕ)) (kept : List FileOf) (file n : ℕ) (f : FileOf) → own ≡ files → kept ≡ files_of own →
    file ≡ n → n < length files → f ≡ slice_index_or kept file f → f ≡ record { files = files; file = n }
kept_file files own kept file n f same are file_is within is =
    let all = ap (λ (l : List (List ℕ)). length l) same in
    is ∙ kept_at own kept file f are (omega (arith, all, file_is, within))
    ∙ ap (λ (l : List (List ℕ)). record { files = l; file = file }) same
    ∙ ap (λ (k : ℕ). record { files = files; file = k }) file_is

pub index-requires : goal.index-requires
index-requires c =
    let text = c.section_of.ensures.text in
    let id = c.id-id.ensures ∙ text.id_is in
    let file = ap (λ (s : SectionId). s.file) id in
    let within = text.lies.file_in in
    let many = as_many c.self.inside.res.now.files c.self.inside.prologues.items c.self.invariant.prologues_are in
    let same = ap (λ (j : PlainJob). length j.files) c.self.view_is in
    omega (arith, many, same, file, within, c.self.inside.prologues.ok.0)

pub is_recognised-requires : goal.is_recognised-requires
is_recognised-requires c =
    let files = c.args.self.now.files in
    let text = c.section_of.ensures.text in
    let s = section_at files c.args.p in
    let id = c.id-id.ensures ∙ text.id_is in
    let kept = kept_file files c.self.inside.res.now.files c.self.inside.prologues.items c.id-id.result.file s.file c.index.result.now
    (ap (λ (j : PlainJob). j.files) c.self.view_is) c.self.invariant.prologues_are (ap (λ (t : SectionId). t.file) id) text.lies.file_in
    c.index.ensures in
    record {
      section = subst (λ (f : FileOf). c.id-id.result.section < e_shnum (file_at f.files f.file)) (sym kept)
          (subst (λ (t : SectionId). t.section < e_shnum (file_at files s.file)) (sym id) text.lies.within);
    }

pub returns : goal.returns
returns c =
    let files = c.args.self.now.files in
    let text = c.section_of.ensures.text in
    let s = section_at files c.args.p in
    let id = c.id-id.ensures ∙ text.id_is in
    let kept = kept_file files c.self.inside.res.now.files c.self.inside.prologues.items c.id-id.result.file s.file c.index.result.now
    (ap (λ (j : PlainJob). j.files) c.self.view_is) c.self.invariant.prologues_are (ap (λ (t : SectionId). t.file) id) text.lies.file_in
    c.index.ensures in
    c.is_recognised.ensures
    ∙ ap (λ (f : FileOf). has_recognised_prologue f.file (file_at f.files f.file) c.id-id.result.section c.args.p.offset) kept
    ∙ ap (λ (t : SectionId). has_recognised_prologue s.file (file_at files s.file) t.section c.args.p.offset) id
