-- returns: no record of the file overflows, and all their fields are filled.
use Rattle.std.proofs.Common.{ℕ, ◌≡◌, List, ap, sym, subst, ◌∙◌, arith}
use Rattle.elf64_records.specs.FileHeader.{e_shnum}
use Rattle.elf64_records.specs.laws.First.{walk_end}
use Rattle.object_set.specs.Files.{file_at}
use Rattle.toc_groups.specs.inside.Filled.{AreFilled, table_overflow}
use Rattle.toc_groups.specs.inside.Memory.{byte_of}
use Rattle.toc_groups.proofs.FieldFilling.{field_file}
use Rattle.toc_groups.proofs.contents.fill_file.Goals as goal

pub returns-clause-refusal : goal.returns-clause-refusal
returns-clause-refusal c =
    let files = c.args.res.now.files in
    let count = c.section_count-table-end.ensures.count
    ∙ ap e_shnum (c.view.ensures ∙ ap (λ (s : List (List ℕ)). file_at s c.args.file) c.set.ensures) in
    sym c.loop-table.invariant.left
    ∙ walk_end (table_overflow files c.args.plan.now.span c.args.text.now.sections c.args.file) c.loop-table.table
    (e_shnum (file_at files c.args.file)) (omega (arith, count, c.loop-table-test.false))

pub returns-clause-filled : goal.returns-clause-filled
returns-clause-filled c =
    let files = c.args.res.now.files in
    let span = c.args.plan.now.span in
    let text = c.args.text.now.sections in
    let count = c.section_count-table-end.ensures.count
    ∙ ap e_shnum (c.view.ensures ∙ ap (λ (s : List (List ℕ)). file_at s c.args.file) c.set.ensures) in
    let all : c.loop-table.table ≡ e_shnum (file_at files c.args.file) =
    omega (arith, count, c.loop-table.auto.table-end, c.loop-table-test.false) in
    field_file files span text c.args.file (byte_of c.loop-table.memory)
    (subst (λ (i : ℕ). AreFilled files span text c.args.file i 0 (byte_of c.loop-table.memory)) all c.loop-table.invariant.filled)
