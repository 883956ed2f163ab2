-- Bytes meet one of ranges in order where the ranges that begin before their end reach beyond their start.
use Rattle.std.proofs.Common.{◌≡◌, ℕ, suc, zero, ◌+◌, ◌-◌, ◌<◌, ◌≤◌, Bool, true, false, List, [], ◌∷◌, Some, ◌||◌, refl, sym, ap, ◌∙◌, arith, length, take, slice_get, ◌++◌}
use Rattle.std.specs.Prelude.{max, min, nat_lt, if◌then◌else◌}
use Rattle.std.specs.List.{list_any, fold, slice_index_or}
use Rattle.std.proofs.lemmas.Bool.Decides.{nat_tests}
use Rattle.plain_machine.specs.declared.kept.AddressRange.{AddressRange}
use Rattle.plain_machine.specs.Actions.{meets}
use Rattle.std.proofs.lemmas.List.Sorted.{list_any-IsPermutation}
use Rattle.std.proofs.lemmas.Option.{get_or_from_slice_get}
use Rattle.plain_machine.specs.inside.Kept.{farther, IsBegun, AreInOrder}

-- a range begins before the end of bytes where it begins before them or fewer bytes behind their start
pub begins_before : (start at count : ℕ) → (nat_lt start at || nat_lt (start - at) count) ≡ nat_lt start (at + count)
begins_before start at count = grind (arith, nat_tests)

-- of ranges that begin behind the bytes none meets them
none_meets : (at count : ℕ) (ranges : List AddressRange) → IsBegun (at + count) ranges 0 → list_any (meets at count) ranges ≡ false
none_meets at count [] begun = refl
none_meets at count (r ∷ ranges) begun =
    let behind = begun.1 0 r (omega arith) (omega arith) in
    let apart : meets at count r ≡ false = grind (arith, nat_tests, behind) in
    ap (λ b. b || list_any (meets at count) ranges) apart
    ∙ none_meets at count ranges (
      (λ k d from to. begun.0 (suc k) d (omega (arith, from)) (omega (arith, to))),
      λ k d from to. begun.1 (suc k) d (omega (arith, from)) (omega (arith, to)),
    )

-- a range that begins before the end of bytes meets them where it reaches beyond their start
one_reaches : (at count reach start stop : ℕ) → 0 < count → nat_lt start (at + count) ≡ true →
    nat_lt at (if nat_lt start stop then max reach stop else reach)
    ≡ (nat_lt at reach || nat_lt (max start at) (min stop (at + count)))
one_reaches at count reach start stop some begins = grind (arith, nat_tests, some, begins)

or_false : (b : Bool) → b ≡ (b || false)
or_false true = refl
or_false false = refl

or_joined : (a b c : Bool) → ((a || b) || c) ≡ (a || (b || c))
or_joined true b c = refl
or_joined false b c = refl

pub reaches_meet : (at count : ℕ) (ranges : List AddressRange) (n reach : ℕ) → 0 < count → IsBegun (at + count) ranges n →
    nat_lt at (fold farther reach (take n ranges)) ≡ (nat_lt at reach || list_any (meets at count) ranges)
reaches_meet at count [] zero reach some begun = or_false (nat_lt at reach)
reaches_meet at count [] (suc n) reach some begun = or_false (nat_lt at reach)
reaches_meet at count (r ∷ ranges) zero reach some begun =
    or_false (nat_lt at reach) ∙ ap (λ b. nat_lt at reach || b) (sym (none_meets at count (r ∷ ranges) begun))
reaches_meet at count (r ∷ ranges) (suc n) reach some begun =
    reaches_meet at count ranges n (farther reach r) some (
      (λ k d from to. begun.0 (suc k) d (omega arith) (omega (arith, to))),
      λ k d from to. begun.1 (suc k) d (omega (arith, from)) (omega (arith, to)),
    )
    ∙ ap (λ b. b || list_any (meets at count) ranges)
    (one_reaches at count reach r.start r.stop some (begun.0 0 r (omega arith) (omega arith)))
    ∙ or_joined (nat_lt at reach) (meets at count r) (list_any (meets at count) ranges)

-- no bytes meet no range
pub none_counted : (at : ℕ) (ranges : List AddressRange) → list_any (meets at 0) ranges ≡ false
none_counted at [] = refl
none_counted at (r ∷ ranges) =
    let apart : meets at 0 r ≡ false = grind (arith, nat_tests) in
    ap (λ b. b || list_any (meets at 0) ranges) apart ∙ none_counted at ranges

none_below : (n : ℕ) → nat_lt n 0 ≡ false
none_below n = grind (arith, nat_tests)

-- bytes meet one of the ranges as they were given where those in order that begin before their end reach beyond their start
pub meets_sorted : (at count : ℕ) (list sorted : List AddressRange) (reaches : List ℕ) (n reach : ℕ) → 0 < count →
    AreInOrder list sorted reaches → n ≤ length sorted → IsBegun (at + count) sorted n → reach ≡ slice_index_or reaches n reach →
    nat_lt at reach ≡ list_any (meets at count) list
meets_sorted at count list sorted reaches n reach some order within begun is =
    ap (λ r. nat_lt at r) (is ∙ get_or_from_slice_get reaches n (fold farther 0 (take n sorted)) reach (order.reach n within))
    ∙ reaches_meet at count sorted n 0 some begun
    ∙ ap (λ b. b || list_any (meets at count) sorted) (none_below at)
    ∙ sym (list_any-IsPermutation (meets at count) list sorted order.same)

-- numbers told by a function, with one more
pub get_pushed : (f : ℕ → ℕ) (items : List ℕ) (x : ℕ) → x ≡ f (length items) →
    ((n : ℕ) → n < length items → slice_get items n ≡ Some (f n)) → (n : ℕ) → n ≤ length items →
    slice_get (items ++ x ∷ []) n ≡ Some (f n)
get_pushed f [] x is known zero within = ap Some is
get_pushed f [] x is known (suc n) within = grind (arith, within)
get_pushed f (y ∷ items) x is known zero within = known 0 (omega arith)
get_pushed f (y ∷ items) x is known (suc n) within =
    get_pushed (λ k. f (suc k)) items x is (λ k before. known (suc k) (omega (arith, before))) n (omega (arith, within))
