-- The pieces of a run stand in order: one that isn't empty ends before the next begins.
use Rattle.std.proofs.Common.{ℕ, ◌≡◌, ◌<◌, ◌≤◌, ◌+◌, List, [], ◌∷◌, ◌++◌, length, take, drop, get_or, ap, sym, subst, ◌∙◌, refl, arith}
use Rattle.std.specs.List.{AllByRecursion}
use Rattle.std.proofs.lemmas.List.{take_more, take-append-drop}
use Rattle.layout_rounds.proofs.Aligned.{power_pos}
use Rattle.toc_groups.specs.declared.extents.Extent.{Extent}
use Rattle.toc_groups.specs.Runs.{placed, behind, run_end, run_place, no_piece, IsFitExtent}
use Rattle.toc_groups.proofs.Runs.{behind_is, run_end-append}
use Rattle.toc_groups.proofs.Laying.{aligned_least, run_grows, low_begins, fit_at}
use Rattle.toc_groups.proofs.Begins.{Begins, take_begun, begun}
use Rattle.toc_groups.proofs.Every.{all_left}

pub behind_size : (end : ℕ) (piece : Extent) → 0 < piece.size → placed end piece + piece.size ≡ behind end piece
behind_size end piece some = behind_is end (placed end piece) piece (λ none. omega (arith, none, some)) refl

placed_least : (end : ℕ) (piece : Extent) → IsFitExtent piece → end ≤ placed end piece
placed_least end piece fit = aligned_least end piece.align (power_pos piece.align fit.power)

run_next : (start : ℕ) (xs : List Extent) (p : Extent) → 0 < p.size → run_end start (xs ++ p ∷ []) ≡ placed (run_end start xs) p + p.size
run_next start xs p some = run_end-append start xs (p ∷ []) ∙ sym (behind_size (run_end start xs) p some)

-- a piece that isn't empty ends before the ones behind it begin
pub in_run_order : (start : ℕ) (xs ys : List Extent) (p q : Extent) → Begins (xs ++ p ∷ []) ys → AllByRecursion IsFitExtent ys →
    IsFitExtent q → 0 < p.size → placed (run_end start xs) p + p.size ≤ placed (run_end start ys) q
in_run_order start xs ys p q begins fit fit_q some =
    omega (arith, run_next start xs p some, low_begins start (xs ++ p ∷ []) ys begins fit, placed_least (run_end start ys) q fit_q)

last_fit : (xs : List Extent) (p : Extent) → AllByRecursion IsFitExtent (xs ++ p ∷ []) → IsFitExtent p
last_fit [] p fit = fit.0
last_fit (x ∷ xs) p fit = last_fit xs p fit.1

-- and lies in the run
pub in_run : (start : ℕ) (xs zs : List Extent) (p : Extent) → Begins (xs ++ p ∷ []) zs → AllByRecursion IsFitExtent zs → 0 < p.size →
    (start ≤ placed (run_end start xs) p) × (placed (run_end start xs) p + p.size ≤ run_end start zs)
in_run start xs zs p begins fit some =
    let fits = begun IsFitExtent (xs ++ p ∷ []) zs begins fit in
    let low = run_grows xs start (all_left IsFitExtent xs (p ∷ []) fits) in (
      omega (arith, low, placed_least (run_end start xs) p (last_fit xs p fits)),
      omega (arith, run_next start xs p some, low_begins start (xs ++ p ∷ []) zs begins fit),
    )

-- piece k of a list
pub piece_begins : (pieces : List Extent) (k : ℕ) → k < length pieces → Begins (take k pieces ++ get_or pieces k no_piece ∷ []) pieces
piece_begins pieces k within = record {
  rest = drop (k + 1) pieces;
  is = sym (take-append-drop (k + 1) pieces) ∙ ap (λ (l : List Extent). l ++ drop (k + 1) pieces) (take_more pieces k no_piece within);
}

-- pieces of a run are in order
pub run_order : (start j k : ℕ) (pieces : List Extent) → AllByRecursion IsFitExtent pieces → j < k → k < length pieces →
    0 < (get_or pieces j no_piece).size → run_place start pieces j + (get_or pieces j no_piece).size ≤ run_place start pieces k
run_order start j k pieces fit before within some =
    let all : Begins (take k pieces) pieces = record { rest = drop k pieces; is = sym (take-append-drop k pieces) } in
    let begins : Begins (take j pieces ++ get_or pieces j no_piece ∷ []) (take k pieces) =
    subst (λ (l : List Extent). Begins l (take k pieces)) (take_more pieces j no_piece (omega (arith, before, within)))
    (take_begun (j + 1) k pieces (omega (arith, before))) in
    in_run_order start (take j pieces) (take k pieces) (get_or pieces j no_piece) (get_or pieces k no_piece) begins
    (begun IsFitExtent (take k pieces) pieces all fit) (fit_at pieces k no_piece fit within) some
