-- returns-then-count-eq0: no bytes meet no range. begun-requires: ranges are in order. index-requires: it is known how far the ranges reach
-- that begin before the end of the bytes. returns: one of those meets the bytes where they reach beyond their start.
use Rattle.std.proofs.Common.{◌+◌, ◌∙◌, sym, ap, subst, arith, rules, length, List, ◌≤◌}
use Rattle.std.proofs.lemmas.Option.{slice_get_within}
use Rattle.std.specs.List.{list_any}
use Rattle.plain_machine.specs.declared.kept.AddressRange.{AddressRange}
use Rattle.plain_machine.specs.Actions.{meets}
use Rattle.plain_machine.specs.inside.Kept.{IsBegun}
use Rattle.plain_machine.proofs.KeptRanges.{none_counted, meets_sorted}
use Rattle.plain_machine.proofs.kept.Kept.meets.Goals as goal

pub returns-then-count-eq0 : goal.returns-then-count-eq0
returns-then-count-eq0 c =
    sym (none_counted c.args.at c.args.self.now) ∙ ap (λ n. list_any (meets c.args.at n) c.args.self.now) (sym c.if-count-eq0.true)

pub index-requires : goal.index-requires
index-requires c =
    let k = c.self.inside in
    let n = c.begun.result in
    let within = subst (λ (l : List AddressRange). n ≤ length l) c.deref.ensures.value c.begun.ensures.within in
    let known = slice_get_within k.reaches.items n _ (c.self.invariant.reach n within) in
    search (rules, known)

pub returns : goal.returns
returns c =
    let k = c.self.inside in
    let n = c.begun.result in
    let some = c.if-count-eq0.false in
    let within = subst (λ (l : List AddressRange). n ≤ length l) c.deref.ensures.value c.begun.ensures.within in
    let begun = subst (λ (l : List AddressRange). IsBegun (c.args.at + c.args.count) l n) c.deref.ensures.value c.begun.ensures.begun in
    meets_sorted c.args.at c.args.count k.list.items k.sorted.items k.reaches.items n c.index.result.now (omega (arith, some))
    c.self.invariant within begun c.index.ensures
    ∙ ap (list_any (meets c.args.at c.args.count)) c.self.view_is
