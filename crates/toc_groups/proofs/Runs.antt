-- Runs of pieces.
use Rattle.std.proofs.Common.{ℕ, ◌≡◌, ◌+◌, List, ◌++◌, Bool, false, ◌==◌, if◌then◌else◌, ap, sym, ◌∙◌, arith}
use Rattle.std.proofs.lemmas.Bool.Decides.{nat_tests}
use Rattle.std.proofs.lemmas.List.Sums.{fold-append}
use Rattle.ppc_bytes.specs.Bytes.{IsAlignedUp}
use Rattle.layout_rounds.proofs.Aligned.{aligned_is, power_pos}
use Rattle.toc_groups.specs.declared.extents.Extent.{Extent}
use Rattle.toc_groups.specs.Runs.{placed, behind, run_end, IsFitExtent}

-- where a piece lies that is put at its alignment
pub placed_is : (end r : ℕ) (piece : Extent) → IsFitExtent piece → IsAlignedUp end piece.align r → r ≡ placed end piece
placed_is end r piece fit up = aligned_is end piece.align r (power_pos piece.align fit.power) up

-- and where what is laid out ends with it
pub behind_is : (end r : ℕ) (piece : Extent) → (piece.size ≡ 0 → ⊥) → r ≡ placed end piece → r + piece.size ≡ behind end piece
behind_is end r piece some is =
    let test : (piece.size == 0) ≡ false = grind (arith, nat_tests, some) in
    ap (λ (x : ℕ). x + piece.size) is ∙ sym (ap (λ (b : Bool). if b then end else placed end piece + piece.size) test)

-- a run of two parts
pub run_end-append : (start : ℕ) (xs ys : List Extent) → run_end start (xs ++ ys) ≡ run_end (run_end start xs) ys
run_end-append start xs ys = fold-append behind start xs ys
