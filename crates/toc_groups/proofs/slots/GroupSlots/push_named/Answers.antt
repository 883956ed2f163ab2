-- invariant_of-self-in-Ok: the map has the new slot's name.
use Rattle.std.proofs.Common.{◌≡◌, List, false, arith, sym, subst}
use Rattle.std.specs.List.{list_any}
use Rattle.object_set.specs.declared.places.SymbolId.{SymbolId}
use Rattle.object_set.specs.Files.{file_at}
use Rattle.object_set.specs.Symbols.{is_local, name_of}
use Rattle.toc_groups.specs.Slots.{shares_slot}
use Rattle.toc_groups.specs.inside.Numbered.{SlotList, AreNamed}
use Rattle.toc_groups.proofs.Numbering.{named_more}
use Rattle.toc_groups.proofs.slots.GroupSlots.push_named.Goals as goal

pub invariant_of-self-in-Ok : goal.invariant_of-self-in-Ok
invariant_of-self-in-Ok c =
    let files = c.self.inside.set.now in
    let slots = c.self.inside.symbols.items in
    let s = c.args.symbol in
    let seen : is_local (file_at files s.file) s.symbol ≡ false =
    subst (λ (l : SlotList). is_local (file_at l.files s.file) s.symbol ≡ false) (sym c.self.view_is) c.requires.seen in
    let named : c.args.name.now ≡ name_of (file_at files s.file) s.symbol =
    subst (λ (l : SlotList). c.args.name.now ≡ name_of (file_at l.files s.file) s.symbol) (sym c.self.view_is) c.requires.name in
    let none : list_any (shares_slot files s) slots ≡ false =
    subst (λ (l : SlotList). list_any (shares_slot l.files s) l.slots ≡ false) (sym c.self.view_is) c.requires.new in
    subst (λ (xs : List SymbolId). AreNamed files xs c.insert.new.self) (sym c.in_ok-push.ensures.items)
    (named_more files slots c.self.inside.names c.insert.new.self s c.args.name.now c.len-number.result c.self.invariant seen named none
    (omega (arith, c.len-number.ensures, c.self.inside.symbols.ok.0)) c.in-Ok.ensures.updates)
