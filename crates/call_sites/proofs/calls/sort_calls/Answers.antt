-- returns-in_ok-sort_by: a stable sort by the order of the fields' places puts them in order, and leaves those at one place as they were.
use Rattle.std.proofs.Common.{rules}
use Rattle.std.proofs.lemmas.List.Sorted.{IsNonDecreasingBy-from_sort_by}
use Rattle.symbol_table.specs.inside.Fields.{rank_of}
use Rattle.call_sites.proofs.StableSorts.{stable_from_sort_by}
use Rattle.call_sites.proofs.calls.sort_calls.Goals as goal

pub returns : goal.returns
returns c = record {
  same = c.in_ok-sort_by.ensures.permutation;
  sorted = IsNonDecreasingBy-from_sort_by rank_of c.sort_by.new.self.items c.in_ok-sort_by.ensures.sorted (λ a r f k. search rules);
  stable = stable_from_sort_by rank_of c.args.calls.now.items c.sort_by.new.self.items c.in_ok-sort_by.ensures.stable
      (λ a r f k. search rules);
}
