-- Where patches are put at places apart from one another, each stands where it was put, whatever the order, and all else is as it was.
use Rattle.std.proofs.Common.{ℕ, suc, ◌+◌, ◌-◌, ◌≡◌, ◌<◌, ◌≤◌, ◌⊎◌, inl, inr, List, [], ◌∷◌, ◌++◌, take, drop, get_or, length, ap, ◌∙◌, sym, refl, arith, append_assoc}
use Rattle.std.specs.Prelude.{All, AllPairs}
use Rattle.std.proofs.lemmas.Bool.{cases_lt}
use Rattle.std.proofs.lemmas.List.{drop_at, take_at, get_or-take, get_or-drop, ext_get_or, length-take-le, length-append, length-drop, drop-append-le, take-append-le, take-append-drop}
use Rattle.std.proofs.lemmas.List.Elements.{All-nil, All-cons, All-head, All-tail}
use Rattle.std.proofs.lemmas.Slice.{drop-append-drop}
use Rattle.byteorder.specs.Endian.{little_bytes}
use Rattle.byteorder.specs.Numbers.{length-bytes_low_first}
use Rattle.ppc_bytes.specs.Bytes.{with_number}
use Rattle.placed_bytes.specs.Patches.{Patch, end_of, number_patch, part, patched, all_patched, IsBeside, AreApart, ArePlaced, IsPatched}

-- the length stays
pub length-patched : (b : List ℕ) (p : Patch) → end_of p ≤ length b → length (patched b p) ≡ length b
length-patched b p room =
    let front = length-take-le p.at b (omega arith) in
    simp (length-append, length-drop) (omega (arith, front))

-- a part that lies in the front of a list
part_in_front : (n at : ℕ) (front rest : List ℕ) → at + n ≤ length front → part at n (front ++ rest) ≡ part at n front
part_in_front n at front rest within =
    let longer : n ≤ length (drop at front) = simp length-drop (omega arith) in
    ap (take n) (drop-append-le at front rest (omega arith)) ∙ take-append-le n (drop at front) rest longer

-- a part before a patch
before_patch : (at n : ℕ) (b : List ℕ) (p : Patch) → end_of p ≤ length b → at + n ≤ p.at → part at n (patched b p) ≡ part at n b
before_patch at n b p room before =
    let within : at + n ≤ length (take p.at b) = rw (length-take-le p.at b (omega arith)) before in
    let here = part_in_front n at (take p.at b) (p.bytes ++ drop (end_of p) b) within in
    let there = part_in_front n at (take p.at b) (drop p.at b) within in
    here ∙ sym there ∙ ap (λ l. part at n l) (take-append-drop p.at b)

-- a part behind it
after_patch : (at n : ℕ) (b : List ℕ) (p : Patch) → end_of p ≤ length b → end_of p ≤ at → part at n (patched b p) ≡ part at n b
after_patch at n b p room after =
    let front = length-take-le p.at b (omega arith) in
    let size : length (take p.at b ++ p.bytes) ≡ end_of p = simp length-append (omega (arith, front)) in
    let joined = sym (append_assoc (take p.at b) p.bytes (drop (end_of p) b)) in
    ap (take n) (ap (drop at) joined ∙ drop-append-drop (end_of p) b (take p.at b ++ p.bytes) at after size)

-- a part beside a patch is as it was
pub part_stays : (at n : ℕ) (b : List ℕ) (p : Patch) → end_of p ≤ length b → IsBeside at n p → part at n (patched b p) ≡ part at n b
part_stays at n b p room (inl after) = after_patch at n b p room after
part_stays at n b p room (inr before) = before_patch at n b p room before

-- a patch stands where it was put
pub part_put : (b : List ℕ) (p : Patch) → end_of p ≤ length b → part p.at (length p.bytes) (patched b p) ≡ p.bytes
part_put b p room =
    ap (take (length p.bytes)) (drop_at (take p.at b) (p.bytes ++ drop (end_of p) b) p.at (length-take-le p.at b (omega arith)))
    ∙ take_at p.bytes (drop (end_of p) b) (length p.bytes) refl

-- two patches are apart either way round
pub apart_back : (p q : Patch) → AreApart p q → IsBeside q.at (length q.bytes) p
apart_back p q (inl before) = inr before
apart_back p q (inr after) = inl after

-- of patches that are apart, the first is apart from the others, and they from one another
first_apart : (p : Patch) (ps : List Patch) → AllPairs AreApart (p ∷ ps) → All (AreApart p) ps
first_apart p ps apart = λ k d within. apart 0 (suc k) d (omega arith) (omega arith)

others_apart : (p : Patch) (ps : List Patch) → AllPairs AreApart (p ∷ ps) → AllPairs AreApart ps
others_apart p ps apart = λ i j d before within. apart (suc i) (suc j) d (omega arith) (omega arith)

-- they still fit when one of them is put
still_within : (b : List ℕ) (p : Patch) (ps : List Patch) → end_of p ≤ length b → All (λ q. end_of q ≤ length b) ps →
    All (λ q. end_of q ≤ length (patched b p)) ps
still_within b p ps room within = λ k d in_ps. (let fits = within k d in_ps in rw (length-patched b p room) fits)

-- a part beside all patches is as it was
pub all_stay : (at n : ℕ) (b : List ℕ) (ps : List Patch) → All (λ p. end_of p ≤ length b) ps → All (IsBeside at n) ps →
    part at n (all_patched b ps) ≡ part at n b
all_stay at n b [] within beside = refl
all_stay at n b (p ∷ ps) within beside =
    let room = All-head (λ q. end_of q ≤ length b) p ps within in
    all_stay at n (patched b p) ps (still_within b p ps room (All-tail (λ q. end_of q ≤ length b) p ps within))
    (All-tail (IsBeside at n) p ps beside)
    ∙ part_stays at n b p room (All-head (IsBeside at n) p ps beside)

pub length-all_patched : (b : List ℕ) (ps : List Patch) → All (λ p. end_of p ≤ length b) ps → length (all_patched b ps) ≡ length b
length-all_patched b [] within = refl
length-all_patched b (p ∷ ps) within =
    let room = All-head (λ q. end_of q ≤ length b) p ps within in
    length-all_patched (patched b p) ps (still_within b p ps room (All-tail (λ q. end_of q ≤ length b) p ps within))
    ∙ length-patched b p room

-- each patch stands where it was put
pub all_put : (b : List ℕ) (ps : List Patch) → ArePlaced (length b) ps →
    All (λ p. part p.at (length p.bytes) (all_patched b ps) ≡ p.bytes) ps
all_put b [] placed = All-nil (λ p. part p.at (length p.bytes) (all_patched b []) ≡ p.bytes)
all_put b (p ∷ ps) placed =
    let room = All-head (λ q. end_of q ≤ length b) p ps placed.within in
    let rest = still_within b p ps room (All-tail (λ q. end_of q ≤ length b) p ps placed.within) in
    let first : part p.at (length p.bytes) (all_patched (patched b p) ps) ≡ p.bytes =
    all_stay p.at (length p.bytes) (patched b p) ps rest (first_apart p ps placed.apart) ∙ part_put b p room in
    All-cons (λ q. part q.at (length q.bytes) (all_patched (patched b p) ps) ≡ q.bytes) p ps first
    (all_put (patched b p) ps (record { within = rest; apart = others_apart p ps placed.apart }))

-- patches at places that are apart
pub patches_stand : (b : List ℕ) (ps : List Patch) → ArePlaced (length b) ps → IsPatched b ps (all_patched b ps)
patches_stand b ps placed = record {
  size = length-all_patched b ps placed.within;
  put = all_put b ps placed;
  kept = λ at n beside. all_stay at n b ps placed.within beside;
}

-- a number that is put is a patch
pub with_number-patched : (n : ℕ) (b : List ℕ) (at x : ℕ) → with_number n b at x ≡ patched b (number_patch n at x)
with_number-patched n b at x =
    ap (λ (m : ℕ). take at b ++ (little_bytes n x ++ drop (at + m) b)) (sym (length-bytes_low_first 0 n x))

-- a place is one of a part's, or beside it
single : (p : Patch) (place : ℕ) → ((p.at ≤ place) × (place < end_of p)) ⊎ IsBeside place 1 p
single p place =
    elim (cases_lt place p.at) [
      | inl before ↦ inr (inr (omega arith))
      | inr from ↦ elim (cases_lt place (end_of p)) [
        | inl below ↦ inl (from, below)
        | inr behind ↦ inr (inl behind)
      ]
    ]

-- two lists agree where a part of both is the same
in_part : (at n i : ℕ) (a b : List ℕ) → part at n a ≡ part at n b → at ≤ i → i < at + n → get_or a i 0 ≡ get_or b i 0
in_part at n i a b same from below =
    let here : i ≡ at + (i - at) = omega arith in
    let one = get_or-take n (drop at a) (i - at) 0 (omega arith) ∙ get_or-drop at a (i - at) 0 in
    let other = get_or-take n (drop at b) (i - at) 0 (omega arith) ∙ get_or-drop at b (i - at) 0 in
    ap (λ k. get_or a k 0) here ∙ (sym one ∙ ap (λ l. get_or l (i - at) 0) same ∙ other) ∙ ap (λ k. get_or b k 0) (sym here)

-- a place is one of a patch's where both lists have its bytes, or beside all
by_place : (a b : List ℕ) (ps : List Patch) (place : ℕ) →
    All (λ p. part p.at (length p.bytes) a ≡ p.bytes) ps → All (λ p. part p.at (length p.bytes) b ≡ p.bytes) ps →
    (get_or a place 0 ≡ get_or b place 0) ⊎ All (IsBeside place 1) ps
by_place a b [] place one other = inr (All-nil (IsBeside place 1))
by_place a b (p ∷ ps) place one other =
    let put : Patch → Type 0 = λ q. part q.at (length q.bytes) a ≡ q.bytes in
    let put_too : Patch → Type 0 = λ q. part q.at (length q.bytes) b ≡ q.bytes in
    elim (single p place) [
      | inl in_p ↦ inl (in_part p.at (length p.bytes) place a b (All-head put p ps one ∙ sym (All-head put_too p ps other)) in_p.0 in_p.1)
      | inr beside ↦ elim (by_place a b ps place (All-tail put p ps one) (All-tail put_too p ps other)) [
        | inl same ↦ inl same
        | inr all ↦ inr (All-cons (IsBeside place 1) p ps beside all)
      ]
    ]

same_place : (old a b : List ℕ) (ps : List Patch) (place : ℕ) → IsPatched old ps a → IsPatched old ps b →
    get_or a place 0 ≡ get_or b place 0
same_place old a b ps place one other =
    elim (by_place a b ps place one.put other.put) [
      | inl same ↦ same
      | inr beside ↦ in_part place 1 place a b (one.kept place 1 beside ∙ sym (other.kept place 1 beside)) (omega arith) (omega arith)
    ]

-- two lists that are one list with the same patches are equal
pub one_patched : (old a b : List ℕ) (ps : List Patch) → IsPatched old ps a → IsPatched old ps b → a ≡ b
one_patched old a b ps one other =
    ext_get_or 0 a b (one.size ∙ sym other.size) (λ i within. same_place old a b ps i one other)
