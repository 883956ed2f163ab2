-- What was put at a place is read there, and elsewhere nothing changes.
use Rattle.std.proofs.Common.{ℕ, zero, suc, ◌+◌, ◌*◌, ◌^◌, ◌≡◌, ◌<◌, ◌≤◌, ◌⊎◌, inl, inr, List, [], ◌∷◌, ◌++◌, take, drop, length, ap, ◌∙◌, sym, refl, arith, append_assoc}
use Rattle.std.proofs.lemmas.List.{drop_at, length-take-le, length-append, length-drop, drop-append-le, take-append-le, take-append-drop}
use Rattle.std.proofs.lemmas.Slice.{drop-append-drop}
use Rattle.byteorder.specs.Endian.{little_bytes, little_number}
use Rattle.byteorder.specs.Numbers.{little_from-cons, little_number-reads_back, length-bytes_low_first}
use Rattle.ppc_bytes.specs.Bytes.{number, number_at, with_number}

-- the crate's number is that of byteorder
pub number-take : (n : ℕ) (xs : List ℕ) → n ≤ length xs → number (take n xs) ≡ little_number n xs
number-take zero xs h = refl
number-take (suc n) [] h = absurd (omega arith)
number-take (suc n) (x ∷ xs) h =
    ap (λ r. x + 256 * r) (number-take n xs (omega arith) ∙ sym (little_from-cons 0 n x xs))

-- what was put is read again
pub read_back : (n : ℕ) (b : List ℕ) (at x : ℕ) → at + n ≤ length b → x < 256 ^ n → number_at n (with_number n b at x) at ≡ x
read_back n b at x room fits =
    let rest = drop (at + n) b in
    let bytes = length-bytes_low_first 0 n x in
    ap (λ l. number (take n l)) (drop_at (take at b) (little_bytes n x ++ rest) at (length-take-le at b (omega arith)))
    ∙ number-take n (little_bytes n x ++ rest) (simp length-append (omega (arith, bytes)))
    ∙ little_number-reads_back n x rest fits

-- the length stays
pub length-with_number : (n : ℕ) (b : List ℕ) (at x : ℕ) → at + n ≤ length b → length (with_number n b at x) ≡ length b
length-with_number n b at x room =
    let bytes = length-bytes_low_first 0 n x in
    let front = length-take-le at b (omega arith) in
    simp (length-append, length-drop) (omega (arith, bytes, front))

-- a part that lies in the front of a list
part_in_front : (m place : ℕ) (front rest : List ℕ) → place + m ≤ length front → take m (drop place (front ++ rest))
    ≡ take m (drop place front)
part_in_front m place front rest within =
    let longer : m ≤ length (drop place front) = simp length-drop (omega arith) in
    ap (take m) (drop-append-le place front rest (omega arith)) ∙ take-append-le m (drop place front) rest longer

-- a number before the place of a write
pub before_write : (n m at place x : ℕ) (b : List ℕ) → at + n ≤ length b → place + m ≤ at → number_at m (with_number n b at x) place
    ≡ number_at m b place
before_write n m at place x b room before =
    let within : place + m ≤ length (take at b) = rw (length-take-le at b (omega arith)) before in
    let here = part_in_front m place (take at b) (little_bytes n x ++ drop (at + n) b) within in
    let there = part_in_front m place (take at b) (drop at b) within in
    ap number (here ∙ sym there ∙ ap (λ l. take m (drop place l)) (take-append-drop at b))

-- a number behind the place of a write
pub after_write : (n m at place x : ℕ) (b : List ℕ) → at + n ≤ length b → at + n ≤ place → number_at m (with_number n b at x) place
    ≡ number_at m b place
after_write n m at place x b room after =
    let bytes = length-bytes_low_first 0 n x in
    let front = length-take-le at b (omega arith) in
    let size : length (take at b ++ little_bytes n x) ≡ at + n = simp length-append (omega (arith, bytes, front)) in
    let joined = sym (append_assoc (take at b) (little_bytes n x) (drop (at + n) b)) in
    ap (λ l. number (take m l)) (ap (drop place) joined ∙ drop-append-drop (at + n) b (take at b ++ little_bytes n x) place after size)

-- a number beside the place of a write
pub others_stay : (n m at place x : ℕ) (b : List ℕ) → at + n ≤ length b → (place + m ≤ at) ⊎ (at + n ≤ place) →
    number_at m (with_number n b at x) place ≡ number_at m b place
others_stay n m at place x b room (inl before) = before_write n m at place x b room before
others_stay n m at place x b room (inr after) = after_write n m at place x b room after
