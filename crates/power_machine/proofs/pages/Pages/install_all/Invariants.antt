use Rattle.std.proofs.Common.{◌≡◌, ℕ, ◌+◌, ◌≤◌, ◌<◌, length}
use Rattle.power_machine.specs.Paging.{page_in}
use Rattle.power_machine.specs.inside.Paged.{fresh_for, made_from}
use Rattle.power_machine.proofs.pages.Pages.install_all.Given as goal

-- the pages in front are made, and there is a fresh one for each of the others
abbrev pub invariant-loop-page : goal.invariant-loop-page
invariant-loop-page l = record {
  place : l.index + length l.page-iterator.rest.items ≡ l.fn.first + length l.fn.fresh.items;
  least : l.fn.first ≤ l.index;
  len : length l.self ≡ length l.fn.self;
  made : (i : ℕ) → page_in l.self i ≡ made_from l.fn.self l.fn.first l.index i;
  fresh : (i : ℕ) → i < length l.page-iterator.rest.items →
      page_in l.page-iterator.rest.items i ≡ fresh_for (page_in l.fn.self (l.index + i));
}
