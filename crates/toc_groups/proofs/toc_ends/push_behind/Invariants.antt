use Rattle.std.proofs.Common.{◌≡◌, ℕ, ◌<◌, ◌≤◌, length, get_or}
use Rattle.toc_groups.specs.Runs.{behind}
use Rattle.toc_groups.proofs.toc_ends.push_behind.Given as goal

-- the first ends are behind the section, and the others as they were
abbrev pub invariant-loop-i : goal.invariant-loop-i
invariant-loop-i l = record {
  count : length l.ends.items ≡ length l.fn.ends.items;
  done : (k : ℕ) → k < l.i → get_or l.ends.items k 0 ≡ behind (get_or l.fn.ends.items k 0) l.section;
  left : (k : ℕ) → l.i ≤ k → get_or l.ends.items k 0 ≡ get_or l.fn.ends.items k 0;
}
