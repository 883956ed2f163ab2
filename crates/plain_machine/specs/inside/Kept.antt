-- Ranges of addresses that aren't stored to, and how they are looked up.
use Rattle.std.specs.Prelude.{◌≡◌, ℕ, ◌≤◌, nat_lt, max, true, false, List, Some, length, take, slice_get, if◌then◌else◌}
use Rattle.std.specs.List.{fold}
use Rattle.std.specs.List.Sorted.{IsPermutation, IsNonDecreasingBy, IsPartitionPoint}
use Rattle.plain_machine.specs.declared.kept.AddressRange.{AddressRange}

abbrev pub start_of : AddressRange → ℕ
start_of r = r.start

-- how far ranges reach with one more; one without addresses reaches nowhere
abbrev pub farther : ℕ → AddressRange → ℕ
farther reach r = if nat_lt r.start r.stop then max reach r.stop else reach

-- how far the first ranges reach, for each number of them
abbrev pub AreReaches : List AddressRange → List ℕ → Type 0
AreReaches ranges reaches = (n : ℕ) → n ≤ length ranges → slice_get reaches n ≡ Some (fold farther 0 (take n ranges))

-- the first n ranges begin before an address, and the others don't
abbrev pub IsBegun : ℕ → List AddressRange → ℕ → Type 0
IsBegun end ranges n =
    IsPartitionPoint (λ (r : AddressRange). nat_lt r.start end ≡ true) (λ (r : AddressRange). nat_lt r.start end ≡ false) ranges n

-- ranges in order of their starts, and how far they reach
pub record AreInOrder (list sorted : List AddressRange) (reaches : List ℕ) : Type 0 where
  pub same : IsPermutation list sorted
  pub ordered : IsNonDecreasingBy start_of sorted
  pub reach : AreReaches sorted reaches
