-- invariant_of-self-in-Ok: the map numbers the new key. returns-in-Some: a key that the map has is among the keys, at its number.
-- returns-in-Ok: a new key comes last.
use Rattle.std.proofs.Common.{◌≡◌, ◌∙◌, List, Some, None, position, ap, sym, subst, arith}
use Rattle.std.specs.List.{position_or_len}
use Rattle.stub_kinds.specs.declared.class.Key.{Key}
use Rattle.layout_rounds.specs.Shapes.{same_key, with_key}
use Rattle.layout_rounds.proofs.KeyNumbers.{looked_up, numbered_more, with_old, with_new, some_first, none_first, first_new, same_itself}
use Rattle.layout_rounds.proofs.keys.Seen.number.Goals as goal

pub invariant_of-self-in-Ok : goal.invariant_of-self-in-Ok
invariant_of-self-in-Ok c =
    let keys = c.self.inside.keys.items in
    let none = looked_up keys c.self.inside.numbers c.args.key c.rank.result None c.self.invariant c.rank.ensures
    (c.in-None.ensures ∙ c.get.ensures.value) in
    let more = numbered_more keys c.self.inside.numbers c.insert.new.self c.args.key c.rank.result
    c.len-number.result c.self.invariant c.rank.ensures c.in-Ok.ensures.updates.0 none
    (omega (arith, c.len-number.ensures, c.self.inside.keys.ok.0)) in
    λ q. more q ∙ ap (λ (xs : List Key). position (same_key q) xs) (sym c.in_ok-push-in-None.ensures.items)

pub returns-in-Some : goal.returns-in-Some
returns-in-Some c =
    let keys = c.self.inside.keys.items in
    let some = looked_up keys c.self.inside.numbers c.args.key c.rank.result (Some c.in-Some.number)
    c.self.invariant c.rank.ensures (c.in-Some.ensures ∙ c.get.ensures.value) in
    let first = some_first (same_key c.args.key) keys c.in-Some.number some in
    record {
      keys = subst (λ (xs : List Key). xs ≡ with_key xs c.args.key) c.self.view_is
          (sym (with_old keys c.args.key first.1));
      number = subst (λ (xs : List Key). c.in-Some.number ≡ position_or_len (same_key c.args.key) xs) c.self.view_is
          first.0;
    }

pub returns-in-Ok : goal.returns-in-Ok
returns-in-Ok c =
    let keys = c.self.inside.keys.items in
    let none = none_first (same_key c.args.key) keys (looked_up keys c.self.inside.numbers c.args.key c.rank.result None
    c.self.invariant c.rank.ensures (c.in-None.ensures ∙ c.get.ensures.value)) in
    let at = first_new (same_key c.args.key) keys c.args.key none (same_itself c.args.key) in
    let here = ap (λ (xs : List Key). position_or_len (same_key c.args.key) xs) c.in_ok-push-in-None.ensures.items in
    record {
      keys = c.in_ok-push-in-None.ensures.items ∙ sym (with_new keys c.args.key none)
          ∙ ap (λ (xs : List Key). with_key xs c.args.key) c.self.view_is;
      number = omega (arith, at, here, c.len-number.ensures, c.self.inside.keys.ok.0);
    }
