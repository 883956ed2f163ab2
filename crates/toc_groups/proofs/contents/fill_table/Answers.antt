-- returns: the fields of all records that the section holds are filled.
use Rattle.std.proofs.Common.{ℕ, ◌≡◌, List, ap, sym, subst, ◌∙◌, arith}
use Rattle.elf64_records.specs.Records.{record_count}
use Rattle.object_set.specs.Files.{file_at}
use Rattle.toc_groups.specs.inside.Filled.{AreFilled}
use Rattle.toc_groups.specs.inside.Memory.{byte_of}
use Rattle.toc_groups.proofs.FieldFilling.{field_table}
use Rattle.toc_groups.proofs.contents.fill_table.Goals as goal

pub returns-then-count-eq0-clause-filled : goal.returns-then-count-eq0-clause-filled
returns-then-count-eq0-clause-filled c =
    let files = c.args.res.now.files in
    let span = c.args.plan.now.span in
    let text = c.args.text.now.sections in
    let file : c.view-view.result.now ≡ file_at files c.args.file =
    c.view-view.ensures ∙ ap (λ (s : List (List ℕ)). file_at s c.args.file) c.set.ensures in
    let none : 0 ≡ record_count (file_at files c.args.file) c.args.table =
    sym c.if-count-eq0.true ∙ c.record_count-count.ensures ∙ ap (λ (b : List ℕ). record_count b c.args.table) file in
    field_table files span text c.args.file c.args.table (byte_of c.args.memory.now)
    (subst (λ (k : ℕ). AreFilled files span text c.args.file c.args.table k (byte_of c.args.memory.now)) none c.requires.before)

pub returns-clause-filled : goal.returns-clause-filled
returns-clause-filled c =
    let files = c.args.res.now.files in
    let span = c.args.plan.now.span in
    let text = c.args.text.now.sections in
    let file : c.view-view.result.now ≡ file_at files c.args.file =
    c.view-view.ensures ∙ ap (λ (s : List (List ℕ)). file_at s c.args.file) c.set.ensures in
    let count = c.record_count-count.ensures ∙ ap (λ (b : List ℕ). record_count b c.args.table) file in
    let all : c.loop-entry.entry ≡ record_count (file_at files c.args.file) c.args.table =
    omega (arith, count, c.loop-entry.auto.entry-end, c.loop-entry-test.false) in
    field_table files span text c.args.file c.args.table (byte_of c.loop-entry.memory)
    (subst (λ (k : ℕ). AreFilled files span text c.args.file c.args.table k (byte_of c.loop-entry.memory)) all
    c.loop-entry.invariant.filled)
