-- overflow_add-result: a slot lies among the bytes of its section.
use Rattle.std.proofs.Common.{◌≡◌, ◌&&◌, None, length, sym, ap, ◌∙◌, arith}
use Rattle.std.proofs.lemmas.Bool.{and_parts}
use Rattle.std.specs.Prelude.{◌==◌, ◌%◌}
use Rattle.object_set.specs.Files.{file_at}
use Rattle.object_set.specs.Refusals.{set_refusal}
use Rattle.object_set.specs.Sections.{sort_of}
use Rattle.toc_rewrite.specs.Records.{facts_of, kind_of}
use Rattle.toc_rewrite.specs.Folds.{is_address, is_toc_sort}
use Rattle.toc_rewrite.proofs.SoundRecords.{address_lies}
use Rattle.toc_rewrite.proofs.laid.Laid.slot.Goals as goal

pub overflow_add-result : goal.overflow_add-result
overflow_add-result c =
    let files = c.args.self.now.files in
    let id = c.args.id in
    let whole : set_refusal files ≡ None =
    ap set_refusal (sym (c.set.ensures ∙ c.resolved.ensures.files)) ∙ c.file_count-files.ensures.whole in
    let toc = is_toc_sort (sort_of (file_at files id.file) id.section) in
    let parts = and_parts (is_address (kind_of files id) && toc) ((facts_of files id).offset % 8 == 0) c.requires.fills in
    let both = and_parts (is_address (kind_of files id)) toc parts.0 in
    let lies = address_lies files id whole c.resolved-resolved.ensures.whole c.requires.record both.0 both.1 in
    let bytes = ap length c.requires.bytes in
    omega (arith, lies, bytes, c.facts-offset.ensures.offset, c.section_address.ensures.low)
