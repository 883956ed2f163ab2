-- Pairs that are taken, one after the other.
use Rattle.std.proofs.Common.{◌≡◌, ◌<◌, ◌+◌, ◌-◌, ℕ, List, [], ◌∷◌, ◌++◌, length, sym, ◌∙◌, subst, arith}
use Rattle.std.specs.List.{slice_index_or}
use Rattle.std.proofs.lemmas.List.{get_or_default}
use Rattle.symbol_table.specs.declared.target.CodePlace.{CodePlace}
use Rattle.pcrel_rewrite.specs.declared.text_pairs.TextPair.{TextPair}
use Rattle.pcrel_rewrite.specs.inside.Joins.{Joins, Before, TakesIn}
use Rattle.pcrel_rewrite.specs.inside.Recognised.{IsTaken, TakenAt, Repeats}
use Rattle.pcrel_rewrite.proofs.Joining.{takes_one, joins_taken}

abbrev pub no_pair : TextPair
no_pair = record { section = 0; head = 0; tail = 0 }

module _ (files : List (List ℕ)) (asked : List TextPair) (loads : List CodePlace) (i : ℕ) where
  one_taken : (y : TextPair) → i < length asked → slice_index_or asked i y ≡ y → (x : TextPair) → TakenAt files asked loads i x → x ≡ y
  one_taken y within here x taken = sym taken.here ∙ get_or_default asked i x y within ∙ here

  -- the pair that is pushed
  pub pushed : (old new : List TextPair) → i < length asked → IsTaken files loads (slice_index_or asked i no_pair) →
      new ≡ old ++ slice_index_or asked i no_pair ∷ [] → TakesIn (TakenAt files asked loads i) (Repeats asked i) old new
  pushed old new within taken is =
      let y = slice_index_or asked i no_pair in
      let here : slice_index_or asked i y ≡ y = get_or_default asked i y no_pair within in
      subst (TakesIn (TakenAt files asked loads i) (Repeats asked i) old) (sym is)
      (takes_one (TakenAt files asked loads i) (Repeats asked i) old y (record { within = within; here = here; taken = taken })
      (one_taken y within here))

  -- a pair that is the one before it is there already
  again : Repeats asked i → (x : TextPair) → TakenAt files asked loads i x → Before (TakenAt files asked loads) i x
  again repeats x taken =
      let less : i - 1 < i = let some = repeats.some in omega arith in
      let inside : i - 1 < length asked = let within = taken.within in omega arith in
      (i - 1, less, record { within = inside; here = repeats.same x ∙ taken.here; taken = taken.taken })

  -- one pair more
  pub taken_more : (old mid new : List TextPair) → Joins (Before (TakenAt files asked loads) i) old mid →
      TakesIn (TakenAt files asked loads i) (Repeats asked i) mid new → Joins (Before (TakenAt files asked loads) (i + 1)) old new
  taken_more old mid new first next = joins_taken (TakenAt files asked loads) (Repeats asked i) i old mid new again first next
