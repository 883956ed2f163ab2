-- is_local: a symbol that only its file sees has no slot yet, and gets one. in-Some: the name has a slot. in-None: the name has none, and
-- gets one.
use Rattle.std.proofs.Common.{◌≡◌, true, Some, None, ap, sym, subst, ◌∙◌}
use Rattle.object_set.specs.Files.{file_at}
use Rattle.object_set.specs.Symbols.{is_local}
use Rattle.toc_groups.specs.Slots.{shares_slot}
use Rattle.toc_groups.specs.inside.Numbered.{SlotList, slot_list}
use Rattle.toc_groups.proofs.Positions.{any-from_none, any-from_some}
use Rattle.toc_groups.proofs.Numbering.{looked_up, unnumbered, made_slots, made_number, with_old}
use Rattle.toc_groups.proofs.slots.GroupSlots.number.Goals as goal

pub returns-then-is_local : goal.returns-then-is_local
returns-then-is_local c =
    let l = c.args.self.now in
    let s = c.args.symbol in
    let own : is_local (file_at l.files s.file) s.symbol ≡ true =
    subst (λ (m : SlotList). is_local (file_at m.files s.file) s.symbol ≡ true) c.self.view_is
    (sym c.is_local.ensures ∙ c.if-is_local.true) in
    let none = unnumbered l.files l.slots s own (c.requires.own own) in
    record {
      slots = made_slots c.push.result l.files l.slots s c.push.new.self none c.push.ensures.slots;
      number = made_number c.push.result l.files l.slots s c.push.new.self none c.push.ensures.slots c.push.ensures.number;
    }

pub push_named-requires-clause-new : goal.push_named-requires-clause-new
push_named-requires-clause-new c =
    let l = c.args.self.now in
    any-from_none (shares_slot l.files c.args.symbol) l.slots
    (looked_up c.self.inside.set.now c.self.inside.symbols.items c.self.inside.names l c.args.symbol c.is_local.result None
    c.view.result.now c.symbol.result.name.now c.self.invariant c.self.view_is c.is_local.ensures c.if-is_local.false c.view.ensures
    c.symbol.ensures.name (c.in-None.ensures ∙ c.get.ensures.value))

pub returns-in-Some : goal.returns-in-Some
returns-in-Some c =
    let l = c.args.self.now in
    let found = looked_up c.self.inside.set.now c.self.inside.symbols.items c.self.inside.names l c.args.symbol c.is_local.result
    (Some c.in-Some.number) c.view.result.now c.symbol.result.name.now c.self.invariant c.self.view_is c.is_local.ensures
    c.if-is_local.false c.view.ensures c.symbol.ensures.name (c.in-Some.ensures ∙ c.get.ensures.value) in
    record {
      slots = ap (slot_list l.files) (sym (with_old l.files l.slots c.args.symbol
          (any-from_some (shares_slot l.files c.args.symbol) l.slots c.in-Some.number found)));
      number = found;
    }

pub returns-in-None : goal.returns-in-None
returns-in-None c =
    let l = c.args.self.now in
    let none = any-from_none (shares_slot l.files c.args.symbol) l.slots
    (looked_up c.self.inside.set.now c.self.inside.symbols.items c.self.inside.names l c.args.symbol c.is_local.result None
    c.view.result.now c.symbol.result.name.now c.self.invariant c.self.view_is c.is_local.ensures c.if-is_local.false c.view.ensures
    c.symbol.ensures.name (c.in-None.ensures ∙ c.get.ensures.value)) in
    record {
      slots = made_slots c.push_named.result l.files l.slots c.args.symbol c.push_named.new.self none c.push_named.ensures.slots;
      number = made_number c.push_named.result l.files l.slots c.args.symbol c.push_named.new.self none c.push_named.ensures.slots
          c.push_named.ensures.number;
    }
