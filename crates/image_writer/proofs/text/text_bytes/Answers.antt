use Rattle.std.proofs.Common.{◌≡◌, ◌-◌, ℕ, List, length, ap, sym, ◌∙◌, subst}
use Rattle.layout_rounds.specs.FarSets.{member}
use Rattle.layout_rounds.specs.Layout.{text_end}
use Rattle.image_writer.specs.Calls.{call_at}
use Rattle.image_writer.specs.inside.Ready.{HasCallRoom, HasFieldRoom}
use Rattle.image_writer.proofs.text.text_bytes.Goals as goal

-- the text is as long as the layout says
pub put_calls-requires-clause-room : goal.put_calls-requires-clause-room
put_calls-requires-clause-room c = λ i lt.
    let settled = c.args.settled.now in
    let size = ap (λ (l : List ℕ). length l) c.deref_mut.ensures.value ∙ c.in_ok-text.ensures.size in
    subst (λ (n : ℕ). HasCallRoom c.args.res.now.files c.args.plan.now.bases settled.keyed (member settled.far) settled.places
    c.args.plan.now.text_start n (call_at c.args.sites.now i)) (sym size) (c.parts_have_room.ensures.rooms.calls_room i lt)

-- and stays so
pub put_records-requires-clause-room : goal.put_records-requires-clause-room
put_records-requires-clause-room c = λ r kind here is.
    let settled = c.args.settled.now in
    let first = ap (λ (l : List ℕ). length l) c.deref_mut.ensures.value ∙ c.in_ok-text.ensures.size in
    let size : length c.deref_mut-2.result.now ≡ text_end settled.keyed (member settled.far) - c.args.plan.now.text_start =
    c.deref_mut-2.ensures.len ∙ sym c.deref_mut.ensures.len ∙ first in
    subst (λ (n : ℕ). HasFieldRoom c.args.res.now.files c.args.plan.now.span settled.places.sections
    c.args.plan.now.text_start n r kind) (sym size) (c.parts_have_room.ensures.rooms.fields_room r kind here is)
