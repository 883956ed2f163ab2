-- A run of `.toc` sections that begins a whole turn later ends a whole turn later.
use Rattle.std.proofs.Common.{ℕ, ◌≡◌, ◌<◌, ◌≤◌, ◌+◌, ◌-◌, ◌*◌, ◌/◌, ◌%◌, ◌^◌, inl, inr, List, [], ◌∷◌, get_or, Bool, true, false, ◌==◌}
use Rattle.std.proofs.Common.{if◌then◌else◌, ap, sym, ◌∙◌, refl, arith}
use Rattle.std.specs.List.{AllByRecursion}
use Rattle.std.proofs.lemmas.Bool.{cases_lt}
use Rattle.std.proofs.lemmas.Nat.{pow-add, pow_below, div-add-mod'}
use Rattle.std.proofs.Math.Nat.{add-mul-div_right}
use Rattle.ppc_bytes.specs.Bytes.{IsPowerOfTwo}
use Rattle.layout_rounds.specs.Shapes.{aligned}
use Rattle.layout_rounds.proofs.Aligned.{power_pos}
use Rattle.toc_groups.specs.declared.extents.Extent.{Extent}
use Rattle.toc_groups.specs.Runs.{placed, behind, run_end}
use Rattle.toc_groups.specs.inside.Ends.{IsTocExtent, AreEnds}

-- 256 is a multiple of each power of two up to it
divides_turn : (a : ℕ) → IsPowerOfTwo a → a ≤ 256 → (m : ℕ) × (256 ≡ m * a)
divides_turn a power most =
    elim (cases_lt 8 power.0) [
      | inl over ↦ absurd (let more = pow_below 8 power.0 over in
          let whole : 2 ^ 8 ≡ 256 = refl in omega (arith, more, whole, power.1, most))
      | inr within ↦ (
          let parts : 8 - power.0 + power.0 ≡ 8 = omega (arith, within) in
          let whole : 2 ^ (8 - power.0 + power.0) ≡ 256 = ap (λ (x : ℕ). 2 ^ x) parts in (
            2 ^ (8 - power.0),
            sym whole ∙ pow-add 2 (8 - power.0) power.0 ∙ ap (λ (x : ℕ). 2 ^ (8 - power.0) * x) (sym power.1),
          ))
    ]

aligned_later : (n q a m : ℕ) → 0 < a → 256 ≡ m * a → aligned (n + 256 * q) a ≡ aligned n a + 256 * q
aligned_later n q a m some whole =
    let turns : 256 * q ≡ m * q * a = omega (arith, ap (λ (x : ℕ). x * q) whole) in
    let parts : n + 256 * q + (a - 1) ≡ n + (a - 1) + m * q * a = omega (arith, turns) in
    let quotient : (n + 256 * q + (a - 1)) / a ≡ (n + (a - 1)) / a + m * q =
    ap (λ (x : ℕ). x / a) parts ∙ add-mul-div_right (n + (a - 1)) (m * q) some in
    let product = ap (λ (x : ℕ). x * a) quotient in
    omega (arith, product, turns)

behind_case : (n q : ℕ) (piece : Extent) (none : Bool) → placed (n + 256 * q) piece ≡ placed n piece + 256 * q →
    (if none then n + 256 * q else placed (n + 256 * q) piece + piece.size)
    ≡ (if none then n else placed n piece + piece.size) + 256 * q
behind_case n q piece true later = refl
behind_case n q piece false later = omega (arith, later)

behind_later : (n q : ℕ) (piece : Extent) → IsTocExtent piece → behind (n + 256 * q) piece ≡ behind n piece + 256 * q
behind_later n q piece fit =
    let turn = divides_turn piece.align fit.power fit.most in
    behind_case n q piece (piece.size == 0)
    (aligned_later n q piece.align turn.0 (power_pos piece.align fit.power) turn.1)

pub run_later : (pieces : List Extent) (n q : ℕ) → AllByRecursion IsTocExtent pieces →
    run_end (n + 256 * q) pieces ≡ run_end n pieces + 256 * q
run_later [] n q are = refl
run_later (x ∷ xs) n q are =
    ap (λ (e : ℕ). run_end e xs) (behind_later n q x are.0) ∙ run_later xs (behind n x) q are.1

-- the ends behind so many slots give the end behind more of them
pub ends_later : (sections : List Extent) (ends : List ℕ) (slots rest end : ℕ) → AllByRecursion IsTocExtent sections →
    AreEnds sections ends →
    rest ≡ slots % 32 → get_or ends rest 0 ≡ end → 8 * (slots - rest) + end ≡ run_end (8 * slots) sections
ends_later sections ends slots rest end fit are is read =
    let low : rest < 32 = omega (arith, is) in
    let this = are.each rest low in
    let parts : 8 * slots ≡ 8 * rest + 256 * (slots / 32) = omega (arith, is, div-add-mod' slots 32) in
    let less : 8 * (slots - rest) ≡ 256 * (slots / 32) = omega (arith, is, div-add-mod' slots 32) in
    let all = ap (λ (n : ℕ). run_end n sections) parts ∙ run_later sections (8 * rest) (slots / 32) fit in
    omega (arith, all, less, this, read)
