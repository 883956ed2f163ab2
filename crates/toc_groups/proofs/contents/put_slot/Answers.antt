-- put_number-requires: the slot lies in a segment. returns: it is filled.
use Rattle.std.proofs.Common.{ℕ, ap, sym, subst, ◌∙◌}
use Rattle.byteorder.specs.Endian.{little_bytes}
use Rattle.object_set.specs.Refusals.{set_refusal}
use Rattle.toc_groups.specs.declared.pieces.DataEnds.{DataEnds}
use Rattle.toc_groups.specs.Parts.{slot_place}
use Rattle.toc_groups.specs.inside.Memory.{HasRange, Puts, byte_of}
use Rattle.toc_groups.proofs.Filling.{slot_more}
use Rattle.toc_groups.proofs.contents.put_slot.Goals as goal

pub put_number-requires-clause-room : goal.put_number-requires-clause-room
put_number-requires-clause-room c =
    subst (λ (e : DataEnds). HasRange e c.slot_place.result 8) (sym c.requires.ends) c.slot_place.ensures.room

pub returns-clause-slotted : goal.returns-clause-slotted
returns-clause-slotted c =
    let files = c.args.res.now.files in
    let span = c.args.plan.now.span in
    let old = byte_of c.args.memory.now in
    let new = byte_of c.put_number.new.self in
    slot_more files span c.args.text.now.sections c.args.group c.args.k c.slot_symbol-symbol.result old new
    (ap set_refusal (sym c.set.ensures) ∙ c.file_count-files.ensures.whole) c.slot_symbol-symbol.ensures.slot
    (subst (λ (x : ℕ). Puts old (slot_place files span c.args.group c.args.k) (little_bytes 8 x) new) c.symbol_address-address.ensures
    (subst (λ (a : ℕ). Puts old a (little_bytes 8 c.symbol_address-address.result) new) c.slot_place.ensures.place
    c.put_number.ensures.puts))
    c.requires.before
