-- The keys that were seen, by what sorts them.
use Rattle.std.specs.Prelude.{◌≡◌, ℕ, List, position}
use Rattle.std.specs.Ordering.{nat_cmp, ordering_then}
use Rattle.std.specs.declared.cmp.Ordering.{Ordering}
use Rattle.std.specs.BTreeMap.{BTreeMap, get}
use Rattle.stub_kinds.specs.declared.class.Class.{Class}
use Rattle.stub_kinds.specs.declared.class.Class.TheVariants.{Same, Switch, Save, NearN, EntrySave, EntryBare, EntryN}
use Rattle.stub_kinds.specs.declared.class.Key.{Key}
use Rattle.layout_rounds.specs.Shapes.{same_key}

abbrev pub rank_of : Class → ℕ
rank_of Same = 0
rank_of Switch = 1
rank_of Save = 2
rank_of NearN = 3
rank_of EntrySave = 4
rank_of EntryBare = 5
rank_of EntryN = 6

abbrev pub sorted_of : Key → (ℕ × ℕ) × (ℕ × ℕ)
sorted_of key = ((key.group, rank_of key.class), (key.section, key.offset))

abbrev pub pair_cmp : ℕ × ℕ → ℕ × ℕ → Ordering
pair_cmp x y = ordering_then (nat_cmp x.0 y.0) (nat_cmp x.1 y.1)

abbrev pub sorted_cmp : (ℕ × ℕ) × (ℕ × ℕ) → (ℕ × ℕ) × (ℕ × ℕ) → Ordering
sorted_cmp x y = ordering_then (pair_cmp x.0 y.0) (pair_cmp x.1 y.1)

-- the map gives each key its place among the keys
abbrev pub AreNumbered : List Key → BTreeMap ((ℕ × ℕ) × (ℕ × ℕ)) ℕ → Type 0
AreNumbered keys numbers = (key : Key) → get sorted_cmp numbers (sorted_of key) ≡ position (same_key key) keys
