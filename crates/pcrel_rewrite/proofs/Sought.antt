-- What is sought by halves in a list in order.
use Rattle.std.proofs.Common.{◌≡◌, ◌<◌, ◌≤◌, ℕ, ◌^◌, List, length, ap, ◌∙◌, inl, inr, arith}
use Rattle.std.specs.List.{Contains, slice_index_or}
use Rattle.std.specs.List.Sorted.{IsNonDecreasingBy}
use Rattle.std.proofs.lemmas.Bool.{cases_lt}
use Rattle.symbol_table.specs.declared.target.CodePlace.{CodePlace}
use Rattle.pcrel_rewrite.specs.inside.Order.{rank}

-- an element of a rank stands at the point before which all ranks are lower, or behind it
record IsBehind {X : Type 0} (n : X → ℕ) (t : ℕ) (xs : List X) (next : ℕ) (x : X) : Type 0 where
  within : next < length xs
  first : n (slice_index_or xs next x) ≡ t

module _ {X : Type 0} (n : X → ℕ) (t : ℕ) (xs : List X) (next : ℕ) (sorted : IsNonDecreasingBy n xs)
    (before : (k : ℕ) (d : X) → k < next → n (slice_index_or xs k d) < t)
    (after : (k : ℕ) (d : X) → next ≤ k → k < length xs → t ≤ n (slice_index_or xs k d))
  where
    sought : (x : X) → Contains xs x → n x ≡ t → IsBehind n t xs next x
    sought x held this =
        let k : ℕ = held.0 in
        let inside : k < length xs = held.1 in
        let here : n (slice_index_or xs k x) ≡ t = ap n held.2 ∙ this in
        elim (cases_lt k next) [
          | inl less ↦ (let low : n (slice_index_or xs k x) < t = before k x less in absurd (omega arith))
          | inr most ↦ (
              let within : next < length xs = omega arith in
              let above : t ≤ n (slice_index_or xs next x) = after next x (omega arith) within in
              let up : n (slice_index_or xs next x) ≤ n (slice_index_or xs k x) = sorted next k x most inside in
              record { within = within; first = omega arith })
        ]

    -- all ranks are lower
    pub none_sought : length xs ≤ next → (x : X) → n x ≡ t → ¬ Contains xs x
    none_sought past x this = λ held. let b = (sought x held this).within in absurd (omega arith)

    -- what stands at the point has the rank
    pub rank_sought : (p : X) → ((d : X) → p ≡ slice_index_or xs next d) → (x : X) → n x ≡ t → Contains xs x → n p ≡ t
    rank_sought p is x this held = ap n (is x) ∙ (sought x held this).first

-- places of one rank are one
pub same_place : (a b : CodePlace) → a.offset < 2 ^ 64 → b.offset < 2 ^ 64 → rank a ≡ rank b → a ≡ b
same_place a b fits fits' same =
    let s : a.section ≡ b.section = omega arith in
    let o : a.offset ≡ b.offset = omega arith in
    let with_section : ℕ → CodePlace = λ s. record { section = s; offset = a.offset } in
    let with_offset : ℕ → CodePlace = λ o. record { section = b.section; offset = o } in
    ap with_section s ∙ ap with_offset o
