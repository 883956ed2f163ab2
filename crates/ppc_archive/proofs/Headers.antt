-- The headers of a library, one after another: what is left from one on, and that nothing is past the end.
use Rattle.std.proofs.Common.{◌≡◌, ℕ, zero, suc, ◌+◌, ◌-◌, ◌<◌, ◌≤◌, true, false, inl, inr, List, [], ◌++◌, length, Some, None, refl, sym, ap, ◌∙◌, subst, arith, add-one, append_assoc, append-nil, length-append}
use Rattle.std.proofs.lemmas.Bool.{cases_lt, true_from_ne_false}
use Rattle.std.proofs.lemmas.Bool.Decides.{nat_tests}
use Rattle.elf64_records.specs.First.{◌orelse◌, first_from}
use Rattle.elf64_records.specs.laws.First.{walk_none}
use Rattle.ppc_archive.specs.Archive.{Spot, MemberFacts, spot, next_spot, after, is_header, header_fault, archive_fault, member_at, members_in, members_of}
use Rattle.ppc_archive.specs.inside.Spots.{members_left}

-- a header takes 60 bytes and more
pub after_more : (b : List ℕ) (at : ℕ) → at + 60 ≤ after b at
unfolding after
after_more b at = omega arith

pub spot_next : (b : List ℕ) (k : ℕ) → (spot b (suc k)).at ≡ after b ((spot b k).at)
unfolding spot
spot_next b k = refl

-- the number of a header is below where it begins
pub number_below : (b : List ℕ) (k : ℕ) → k < (spot b k).at
unfolding spot
number_below b zero = omega arith
number_below b (suc k) = let before = number_below b k in let more = after_more b ((spot b k).at) in omega (arith, before, more)

-- headers past the end of the file
pub past_more : (b : List ℕ) (k n : ℕ) → length b ≤ (spot b k).at → length b ≤ (spot b (k + n)).at
past_more b k zero past = let same : k ≡ k + 0 = omega arith in subst (λ (m : ℕ). length b ≤ (spot b m).at) same past
past_more b k (suc n) past =
    let before = past_more b k n past in
    let more = after_more b ((spot b (k + n)).at) in
    let next = spot_next b (k + n) in
    let same : suc (k + n) ≡ k + suc n = omega arith in
    subst (λ (m : ℕ). length b ≤ (spot b m).at) same (omega (arith, before, more, next))

no_fault : (b : List ℕ) (k : ℕ) → length b ≤ (spot b k).at → header_fault b k ≡ None
unfolding header_fault
no_fault b k past = grind (arith, nat_tests, past)

pub no_member : (b : List ℕ) (s : Spot) → length b ≤ s.at → member_at b s ≡ []
unfolding member_at
no_member b s past = grind (arith, nat_tests, past)

-- no fault is left there
pub none_left : (b : List ℕ) (k n : ℕ) → length b ≤ (spot b k).at → first_from (header_fault b) k n ≡ None
none_left b k zero past = refl
none_left b k (suc n) past =
    ap (λ o. o orelse first_from (header_fault b) (k + 1) n) (no_fault b k past) ∙ none_left b (k + 1) n (past_more b k 1 past)

-- nor is a member
pub no_members_left : (b : List ℕ) (k n : ℕ) → length b ≤ (spot b k).at → members_left b k n ≡ []
no_members_left b k zero past = refl
no_members_left b k (suc n) past =
    ap (λ l. l ++ members_left b (k + 1) n) (no_member b (spot b k) past) ∙ no_members_left b (k + 1) n (past_more b k 1 past)

-- the members of the first headers and those that are left are all
pub members_joined : (b : List ℕ) (k n : ℕ) → members_in b k ++ members_left b k n ≡ members_in b (k + n)
members_joined b k zero = let same : k ≡ k + 0 = omega arith in append-nil (members_in b k) ∙ ap (members_in b) same
members_joined b k (suc n) =
    let more : k + 1 + n ≡ k + suc n = omega arith in
    sym (append_assoc (members_in b k) (member_at b (spot b k)) (members_left b (k + 1) n))
    ∙ ap (λ (m : ℕ). members_in b m ++ members_left b (k + 1) n) (sym (add-one k))
    ∙ members_joined b (k + 1) n ∙ ap (members_in b) more

-- past the end the members so far are all
pub members_whole : (b : List ℕ) (k : ℕ) → length b ≤ (spot b k).at → members_in b k ≡ members_of b
members_whole b k past =
    elim (cases_lt k (length b)) [
      | inl less ↦ (
          let all : k + (length b - k) ≡ length b = omega (arith, less) in
          sym (append-nil (members_in b k))
          ∙ ap (λ (l : List MemberFacts). members_in b k ++ l) (sym (no_members_left b k (length b - k) past))
          ∙ members_joined b k (length b - k) ∙ ap (members_in b) all)
      | inr most ↦ (
          let end = number_below b (length b) in
          let all : length b + (k - length b) ≡ k = omega (arith, most) in
          ap (members_in b) (sym all) ∙ sym (members_joined b (length b) (k - length b))
          ∙ ap (λ (l : List MemberFacts). members_of b ++ l) (no_members_left b (length b) (k - length b) (omega (arith, end)))
          ∙ append-nil (members_of b))
    ]

-- the spots of headers
pub first_spot : (b : List ℕ) → record { at = 8; names = None } ≡ spot b 0
unfolding spot
first_spot b = refl

pub later_spot : (b : List ℕ) (k : ℕ) (s t : Spot) → s ≡ spot b k → t ≡ next_spot b s → t ≡ spot b (k + 1)
unfolding spot
later_spot b k s t here next = next ∙ ap (next_spot b) here ∙ ap (spot b) (sym (add-one k))

-- a header is one, or has a fault
pub header_passes : (b : List ℕ) (k : ℕ) (s : Spot) → s ≡ spot b k → is_header b s ≡ true → header_fault b k ≡ None
unfolding header_fault
header_passes b k s here is =
    let this : is_header b (spot b k) ≡ true = ap (is_header b) (sym here) ∙ is in
    grind (arith, nat_tests, this)

pub header_fails : (b : List ℕ) (k : ℕ) (s : Spot) → s ≡ spot b k → s.at < length b → is_header b s ≡ false → header_fault b k ≡ Some s.at
unfolding header_fault
header_fails b k s here within not_one =
    let this : is_header b (spot b k) ≡ false = ap (is_header b) (sym here) ∙ not_one in
    let place : s.at ≡ (spot b k).at = ap (λ (t : Spot). t.at) here in
    grind (arith, nat_tests, this, within, place)

pub moves_on : (b : List ℕ) (s t : Spot) → t ≡ next_spot b s → s.at + 60 ≤ t.at
moves_on b s t next = let place = ap (λ (u : Spot). u.at) next in let more = after_more b s.at in omega (arith, place, more)

-- the members with one header more
pub count_more : (b : List ℕ) (k : ℕ) (s : Spot) (count : ℕ) → s ≡ spot b k → count ≡ length (members_in b k) →
    (more : ℕ) → more ≡ length (member_at b s) → count + more ≡ length (members_in b (k + 1))
count_more b k s count here so_far more is =
    let both = length-append (members_in b k) (member_at b (spot b k)) in
    let same = ap (λ (t : Spot). length (member_at b t)) here in
    let next = ap (λ (n : ℕ). length (members_in b n)) (add-one k) in
    omega (arith, so_far, is, both, same, next)

-- the members that are left, with a header less
pub left_step : (b : List ℕ) (k : ℕ) (s : Spot) (here : List MemberFacts) → s ≡ spot b k → here ≡ member_at b s → k < length b →
    members_left b k (length b - k) ≡ here ++ members_left b (k + 1) (length b - (k + 1))
left_step b k s here at is within =
    let more : length b - k ≡ suc (length b - (k + 1)) = omega (arith, within) in
    ap (members_left b k) more
    ∙ ap (λ (t : Spot). member_at b t ++ members_left b (k + 1) (length b - (k + 1))) (sym at)
    ∙ ap (λ (l : List MemberFacts). l ++ members_left b (k + 1) (length b - (k + 1))) (sym is)

-- those that are left at the start are all
pub all_left : (b : List ℕ) → members_left b 0 (length b - 0) ≡ members_of b
all_left b =
    let whole : length b - 0 ≡ length b = omega arith in
    let none : 0 + length b ≡ length b = omega arith in
    ap (members_left b 0) whole ∙ members_joined b 0 (length b) ∙ ap (members_in b) none

-- a header of a library that is whole is one
pub whole_header : (b : List ℕ) (k : ℕ) (s : Spot) → archive_fault b ≡ None → s ≡ spot b k → s.at < length b → k < s.at →
    is_header b s ≡ true
whole_header b k s whole here within below =
    let passes = walk_none (header_fault b) 0 (length b) k whole (omega arith) (omega (arith, within, below)) in
    true_from_ne_false (is_header b s) (λ none. let fails = header_fails b k s here within none in cc)
