use Rattle.std.proofs.Common.{ℕ, List, ap, sym, ◌∙◌, subst, refl}
use Rattle.std.specs.List.{All, flat_map}
use Rattle.elf64_records.specs.First.{first_in}
use Rattle.elf64_records.specs.laws.First.{list_passes}
use Rattle.object_set.specs.declared.places.RecordId.{RecordId}
use Rattle.object_set.specs.Walks.{IsRecord, all_items, record_walk}
use Rattle.object_set.specs.laws.Walks.{all_records_in, first_of, rest_of}
use Rattle.placed_bytes.specs.Patches.{all_patched}
use Rattle.image_writer.specs.Records.{record_patch, text_overflow_at, text_overflow}
use Rattle.image_writer.specs.Rewriting.{rewriting_of}
use Rattle.image_writer.specs.inside.Ready.{HasFieldRoom}
use Rattle.image_writer.proofs.Patching.{append_patches}
use Rattle.image_writer.proofs.records.put_records.Goals as goal

-- all are left
pub loop-id-init : goal.loop-id-init
loop-id-init c =
    let files = c.args.res.now.files in
    let w = rewriting_of files c.args.plan.now.span c.args.pairs.now in
    let f = record_patch files c.args.plan.now.span c.args.places.now.sections w c.args.plan.now.text_start in
    let over = text_overflow_at files c.args.plan.now.span c.args.places.now.sections w in
    let all = c.into_iter-id-iterator.ensures.into_iter_gives ∙ c.records-id-items.ensures ∙ ap (all_items record_walk) c.set.ensures in
    record {
      records = subst (All (IsRecord files)) (sym all) (all_records_in files);
      put = ap (λ (l : List RecordId). all_patched c.args.text.now (flat_map f l)) all;
      size = refl;
      left = ap (first_in over) all;
    }

-- each is a record
pub put_record-requires-clause-record : goal.put_record-requires-clause-record
put_record-requires-clause-record c =
    first_of (IsRecord c.args.res.now.files) c.loop-id.id-iterator c.next.new.self c.in-Some.id c.loop-id.invariant.records
    c.in-Some.ensures.steps

-- with room
pub put_record-requires-clause-room : goal.put_record-requires-clause-room
put_record-requires-clause-room c = λ kind is.
    let files = c.args.res.now.files in
    let here = first_of (IsRecord files) c.loop-id.id-iterator c.next.new.self c.in-Some.id c.loop-id.invariant.records
    c.in-Some.ensures.steps in
    subst (λ (n : ℕ). HasFieldRoom files c.args.plan.now.span c.args.places.now.sections c.args.plan.now.text_start n c.in-Some.id kind)
    (sym c.loop-id.invariant.size) (c.requires.room c.in-Some.id kind here is)

-- one more record
pub loop-id-preserved : goal.loop-id-preserved
loop-id-preserved c =
    let files = c.args.res.now.files in
    let w = rewriting_of files c.args.plan.now.span c.args.pairs.now in
    let f = record_patch files c.args.plan.now.span c.args.places.now.sections w c.args.plan.now.text_start in
    let over = text_overflow_at files c.args.plan.now.span c.args.places.now.sections w in
    let rest = c.next.new.self in
    let r = c.in-Some.id in
    let steps = c.in-Some.ensures.steps in
    record {
      records = rest_of (IsRecord files) c.loop-id.id-iterator rest r c.loop-id.invariant.records steps;
      put = ap (λ (t : List ℕ). all_patched t (flat_map f rest)) c.in_ok-put_record.ensures.put
          ∙ sym (append_patches c.loop-id.text (f r) (flat_map f rest))
          ∙ ap (λ (l : List RecordId). all_patched c.loop-id.text (flat_map f l)) (sym steps) ∙ c.loop-id.invariant.put;
      size = c.put_record.ensures.size ∙ c.loop-id.invariant.size;
      left = list_passes over c.loop-id.id-iterator rest r
          (text_overflow files c.args.plan.now.span c.args.places.now.sections w) c.loop-id.invariant.left steps
          c.in_ok-put_record.ensures.refusal;
    }
