use Rattle.std.proofs.Common.{ℕ, ◌≡◌, List, length, None, sym, ap, ◌∙◌, refl, arith, true, false}
use Rattle.ppc_bytes.specs.Bytes.{number_at}
use Rattle.object_set.specs.Refusals.{set_refusal}
use Rattle.toc_rewrite.specs.Folds.{slot_records}
use Rattle.toc_rewrite.specs.Records.{facts_of, word_at}
use Rattle.image_writer.specs.Rewriting.{laid_by}
use Rattle.image_writer.proofs.FieldRooms.{wide}
use Rattle.image_writer.proofs.Fielding.{text_field}
use Rattle.image_writer.proofs.Slots.{target_goes}
use Rattle.image_writer.proofs.TextFields.{text_lies, loads_go, record_made}
use Rattle.image_writer.proofs.toc_loads.toc_record.Goals as goal

-- the word lies in the section
pub word_at-word-requires : goal.word_at-word-requires
word_at-word-requires c =
    let files = c.args.res.now.files in
    let whole = ap set_refusal (sym c.set.ensures) ∙ c.file_count-files.ensures.whole in
    let lies = text_lies files c.args.id c.args.kind whole c.requires.of_files.records c.requires.record c.requires.kind in
    let size = wide c.args.kind (text_field files c.args.id c.args.kind c.requires.kind).fills in
    let bytes = ap (λ (l : List ℕ). length l) c.requires.bytes in
    omega (arith, lies, size, bytes, c.record_of.ensures.offset)

-- a record that only loads goes somewhere
pub named_distance-slot-requires-clause-goes : goal.named_distance-slot-requires-clause-goes
named_distance-slot-requires-clause-goes c =
    let files = c.args.res.now.files in
    let field = text_field files c.args.id c.args.kind c.requires.kind in
    target_goes files c.args.id c.args.kind c.requires.of_files.records c.requires.record field.known
    (loads_go c.args.kind c.word_at-word.result (sym c.only_loads.ensures ∙ c.if-only_loads.true))

-- it is seen with its slot
pub returns-then-only_loads-clause-record : goal.returns-then-only_loads-clause-record
returns-then-only_loads-clause-record c =
    let files = c.args.res.now.files in
    let span = c.args.plan.now.span in
    let word : c.word_at-word.result ≡ word_at files c.args.id =
    c.word_at-word.ensures ∙ ap (number_at 4 c.args.bytes.now) c.record_of.ensures.offset
    ∙ ap (λ (l : List ℕ). number_at 4 l (facts_of files c.args.id).offset) c.requires.bytes in
    record_made files span c.args.places.now.sections (slot_records (laid_by files span)) c.args.id c.args.kind c.word_at-word.result
    c.named_distance-slot.result true word (sym c.if-only_loads.true ∙ c.only_loads.ensures) c.named_distance-slot.ensures

-- any other without
pub returns-else-only_loads-clause-record : goal.returns-else-only_loads-clause-record
returns-else-only_loads-clause-record c =
    let files = c.args.res.now.files in
    let span = c.args.plan.now.span in
    let word : c.word_at-word.result ≡ word_at files c.args.id =
    c.word_at-word.ensures ∙ ap (number_at 4 c.args.bytes.now) c.record_of.ensures.offset
    ∙ ap (λ (l : List ℕ). number_at 4 l (facts_of files c.args.id).offset) c.requires.bytes in
    record_made files span c.args.places.now.sections (slot_records (laid_by files span)) c.args.id c.args.kind c.word_at-word.result
    None false word (sym c.if-only_loads.false ∙ c.only_loads.ensures) refl
