-- loop-entry-preserved: one record more.
use Rattle.std.proofs.Common.{◌≡◌, ℕ, List, [], ◌∷◌, ◌++◌, filter, ap, ◌∙◌}
use Rattle.elf64_records.specs.Sections.{sh_info}
use Rattle.object_set.specs.Files.{file_at}
use Rattle.symbol_table.specs.Fields.{field_of}
use Rattle.call_sites.specs.Sites.{is_call}
use Rattle.call_sites.specs.laws.RecordCalls.{entry_more}
use Rattle.call_sites.proofs.calls.push_table.Goals as goal

pub loop-entry-preserved : goal.loop-entry-preserved
loop-entry-preserved c =
    let file = c.args.file in
    let b = file_at c.args.set.now file in
    let table = c.args.table in
    let n = c.loop-entry.entry in
    let out = c.loop-entry.items.items in
    let section : c.section_header-section.result.info ≡ sh_info b table =
    c.section_header-section.ensures.info ∙ ap (λ (l : List ℕ). sh_info l table) c.view-view.ensures in
    entry_more file b table n out c.args.items.now.items c.push_call.new.items.items c.loop-entry.invariant
    (c.in_ok-push_call.ensures
    ∙ ap (λ (s : ℕ). out ++ filter (is_call b) (field_of b (record { file = file; table = table; entry = n; section = s }) ∷ [])) section)
