-- Rounds of looks: each key outside the far set is tested, and joins the set where it doesn't reach near.
use Rattle.std.specs.Prelude.{◌≡◌, ℕ, ◌+◌, ◌<◌, ◌≤◌, List, length, Bool, true, false, slice_set}
use Rattle.layout_rounds.specs.FarSets.{member, count}
use Rattle.layout_rounds.specs.declared.rounds.Round.{Round}

-- the set after a look at key k: whether the set held it, and whether it reaches near
abbrev pub far_after : Bool → Bool → List Bool → ℕ → List Bool
far_after true near far k = far
far_after false true far k = far
far_after false false far k = slice_set far k true

-- the round after that look
abbrev pub round_after : Bool → Bool → Round → Round
round_after true near r = r
round_after false true r = record { looks = r.looks + 1; added = r.added }
round_after false false r = record { looks = r.looks + 1; added = r.added + 1 }

-- what holds once a round has come past the first n keys, where near says of each key whether it reaches near
pub record IsRound (near : ℕ → Bool) (old new : List Bool) (n : ℕ) (r : Round) : Type 0 where
  pub long : length new ≡ length old
  pub untouched : (j : ℕ) → n ≤ j → member new j ≡ member old j
  pub adds : (j : ℕ) → member new j ≡ true → member old j ≡ false → near j ≡ false
  pub rest : (j : ℕ) → j < n → member new j ≡ false → near j ≡ true
  pub counted : count (member new) n ≡ count (member old) n + r.added
  pub few : r.added ≤ r.looks
  pub most : r.looks ≤ n
  pub none : r.added ≡ 0 → new ≡ old
