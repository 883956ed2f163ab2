-- The pairs that are found are the recognised ones.
use Rattle.std.proofs.Common.{◌≡◌, ◌<◌, inl, inr, ℕ, List, [], None, length, sym, subst, refl, arith}
use Rattle.std.specs.List.{Contains}
use Rattle.std.specs.List.Sorted.{IsPermutation}
use Rattle.std.proofs.lemmas.List.Sorted.{Contains-permutation, IsPermutation-sym}
use Rattle.object_set.specs.Refusals.{set_refusal}
use Rattle.symbol_table.specs.declared.target.CodePlace.{CodePlace}
use Rattle.symbol_table.specs.laws.Text.{text_section_at}
use Rattle.pcrel_rewrite.specs.declared.text_pairs.TextPair.{TextPair}
use Rattle.pcrel_rewrite.specs.Pairs.{ArePairs}
use Rattle.pcrel_rewrite.specs.inside.Joins.{Joins, Before}
use Rattle.pcrel_rewrite.specs.inside.Order.{head_of}
use Rattle.pcrel_rewrite.specs.inside.Recognised.{AskedOf, LoadedOf, TakenAt, IsRecognisedIn}
use Rattle.pcrel_rewrite.proofs.FilePairs.{recognised, asked_for, loaded_at, free_of}
use Rattle.pcrel_rewrite.proofs.Joining.{joins_as, joins_nothing}

none_held : {X : Type 0} (x : X) → ¬ Contains [] x
none_held x = λ held. let within = held.1 in absurd (omega arith)

-- what is gathered in an empty list
pub gathered_only : {X : Type 0} (P : X → Type 0) (xs : List X) → Joins P [] xs → (x : X) → Contains xs x → P x
gathered_only P xs joins x held = elim (joins.only x held) [ inl none ↦ absurd (none_held x none) | inr holds ↦ holds ]

-- in another order
pub gathered_in_order : {X : Type 0} (P : X → Type 0) (xs ys zs : List X) → Joins P [] xs → IsPermutation xs ys → zs ≡ ys → (x : X) →
    Contains zs x → P x
gathered_in_order {X = X} P xs ys zs joins same is x held =
    gathered_only P xs joins x
    (Contains-permutation ys xs x (IsPermutation-sym xs ys same) (subst (λ (l : List X). Contains l x) is held))

pub ordered_holds : {X : Type 0} (P : X → Type 0) (xs ys zs : List X) → Joins P [] xs → IsPermutation xs ys → zs ≡ ys → (x : X) →
    P x → Contains zs x
ordered_holds {X = X} P xs ys zs joins same is x holds =
    subst (λ (l : List X). Contains l x) (sym is) (Contains-permutation xs ys x same (joins.taken x holds))

-- the pairs of a file that are taken are the recognised ones
pub file_found : (files : List (List ℕ)) (file : ℕ) → set_refusal files ≡ None → file < length files →
    (asked asked' asked'' : List TextPair) (loads loads' loads'' : List CodePlace) →
    Joins (AskedOf files file) [] asked → IsPermutation asked asked' → asked'' ≡ asked' →
    Joins (LoadedOf files file) [] loads → IsPermutation loads loads' → loads'' ≡ loads' → (old new : List TextPair) →
    Joins (Before (TakenAt files asked'' loads'') (length asked'')) old new → Joins (IsRecognisedIn files file) old new
file_found files file whole file_in asked asked' asked'' loads loads' loads'' gathered same is loaded same' is' old new joins =
    joins_as (Before (TakenAt files asked'' loads'') (length asked'')) (IsRecognisedIn files file) old new
    (λ x before.
    let k : ℕ = before.0 in
    let taken : TakenAt files asked'' loads'' k x = before.2 in
    let held : Contains asked'' x = (k, taken.within, taken.here) in
    recognised files file whole file_in x (gathered_in_order (AskedOf files file) asked asked' asked'' gathered same is x held)
    (gathered_in_order (LoadedOf files file) loads loads' loads'' loaded same' is' (head_of x) taken.taken.load) taken.taken.free)
    (λ x here.
    let held = ordered_holds (AskedOf files file) asked asked' asked'' gathered same is x (asked_for files file x here) in
    let load = ordered_holds (LoadedOf files file) loads loads' loads'' loaded same' is' (head_of x) (loaded_at files file x here) in (
      held.0,
      held.1,
      record {
        within = held.1;
        here = held.2;
        taken = record { load = load; free = free_of files x here.is };
      },
    ))
    joins

-- where nothing is asked for nothing is recognised
pub none_found : (files : List (List ℕ)) (file : ℕ) (asked found : List TextPair) → Joins (AskedOf files file) [] asked →
    length asked ≡ 0 → Joins (IsRecognisedIn files file) found found
none_found files file asked found gathered none =
    joins_nothing (IsRecognisedIn files file) found
    (λ x here.
    let within = (gathered.taken x (asked_for files file x here)).1 in
    absurd (omega arith))

-- those of all files
pub all_found : (files : List (List ℕ)) (found pairs : List TextPair) →
    Joins (Before (IsRecognisedIn files) (length files)) [] found → IsPermutation found pairs → ArePairs files pairs
all_found files found pairs joins same = record {
  each = λ pair held. (gathered_in_order (Before (IsRecognisedIn files) (length files)) found pairs pairs joins same refl pair held).2.is;
  all = λ pair is.
      let here = text_section_at files pair.section is.place is.place_is in
      ordered_holds (Before (IsRecognisedIn files) (length files)) found pairs pairs joins same refl pair
      (is.place.file, here.file_in, record { is = is; file_is = refl });
}
