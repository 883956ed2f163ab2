use Rattle.std.proofs.Common.{ℕ, ◌≡◌, ◌≤◌, List, ◌+◌, ◌-◌, Option, None, Some, IfSome, length, ap, sym, ◌∙◌, arith}
use Rattle.elf64_records.specs.Sections.{section_bytes}
use Rattle.object_set.specs.Files.{file_at}
use Rattle.object_set.specs.declared.places.RecordId.{RecordId}
use Rattle.object_set.specs.Refusals.{set_refusal}
use Rattle.object_set.specs.Walks.{IsRecord}
use Rattle.reloc_fields.specs.declared.kind.Kind.{Kind}
use Rattle.symbol_table.specs.laws.Sections.{record_about}
use Rattle.pcrel_rewrite.specs.declared.text_pairs.TextPair.{TextPair}
use Rattle.pcrel_rewrite.specs.Pairs.{ArePairs}
use Rattle.image_writer.specs.declared.got_loads.LoadWords.{LoadWords}
use Rattle.image_writer.specs.Fields.{text_kind}
use Rattle.image_writer.specs.GotLoads.{offset_of, rewritten_load}
use Rattle.image_writer.specs.Rewriting.{rewriting_of}
use Rattle.image_writer.proofs.Fielding.{text_field}
use Rattle.image_writer.proofs.Loads.{HasLoadRoom, load_room}
use Rattle.image_writer.proofs.records.put_load_or_field.Goals as goal

-- room for the load of a record in text
own_room : (files : List (List ℕ)) (span : ℕ) (text : List ℕ) (r : RecordId) (pairs : List TextPair) (kind : Kind) (load : LoadWords) →
    set_refusal files ≡ None → ArePairs files pairs → IsRecord files r → text_kind files r ≡ Some kind →
    Some load ≡ rewritten_load files span text (rewriting_of files span pairs) r kind → HasLoadRoom files span text r kind load
own_room files span text r pairs kind load whole are here is found =
    load_room files span text r pairs kind load are here.file_in (record_about files r whole here).within
    (text_field files r kind is).text found

-- both words of a load have room
pub put_load-requires-clause-room : goal.put_load-requires-clause-room
put_load-requires-clause-room c =
    let files = c.args.res.now.files in
    let id = c.args.id in
    let whole = ap set_refusal (sym c.set.ensures) ∙ c.file_count-files.ensures.whole in
    let room = own_room files c.args.plan.now.span c.args.places.now.sections id c.args.pairs.now c.args.kind c.in-Some.load whole
    c.requires.pairs c.requires.record c.requires.kind c.in-Some.ensures in
    omega (arith, room.width, c.requires.room.room, c.field_address.ensures, c.text_start.ensures)

nop_case : (o : Option ℕ) (at offset bytes size : ℕ) → IfSome o (λ d. d + offset + 4 ≤ bytes) → at + bytes ≤ size + offset →
    IfSome o (λ d. at + d + 4 ≤ size)
nop_case None at offset bytes size lies rest = tt
nop_case (Some d) at offset bytes size lies rest = omega (arith, lies, rest)

-- and so has the access
pub put_load-requires-clause-nop_room : goal.put_load-requires-clause-nop_room
put_load-requires-clause-nop_room c =
    let files = c.args.res.now.files in
    let id = c.args.id in
    let whole = ap set_refusal (sym c.set.ensures) ∙ c.file_count-files.ensures.whole in
    let room = own_room files c.args.plan.now.span c.args.places.now.sections id c.args.pairs.now c.args.kind c.in-Some.load whole
    c.requires.pairs c.requires.record c.requires.kind c.in-Some.ensures in
    nop_case c.in-Some.load.nop (c.field_address.result - c.text_start.result) (offset_of files id)
    (length (section_bytes (file_at files id.file) id.section)) (length c.args.text.now) room.nop
    (omega (arith, c.requires.room.rest, c.field_address.ensures, c.text_start.ensures))
