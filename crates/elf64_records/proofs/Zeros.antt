-- Zero bytes in a string table.
use Rattle.std.proofs.Common.{ℕ, zero, suc, ◌≡◌, ◌<◌, ◌≤◌, ◌+◌, ◌-◌, List, [], ◌∷◌, length, take, drop, get_or, min, Bool, true, false, Some, None, ltb, eqb, cond, ap, ◌∙◌, sym, refl, add-one, arith}
use Rattle.std.specs.List.{position, position_or_len, before_first, list_any}
use Rattle.std.specs.Str.{bytes_eq}
use Rattle.std.proofs.lemmas.Bool.Decides.{nat_tests}
use Rattle.std.proofs.Math.Seq.{take-length}
use Rattle.std.proofs.lemmas.List.Sums.{prefix_len-le-length}
use Rattle.std.proofs.lemmas.List.{take_min, drop-drop, get_or-drop, length-drop}
use Rattle.std.proofs.lemmas.List.Folds.{list_any_at}
use Rattle.elf64_records.specs.Names.{has_zero_from, name_at}

-- where an element passes, its place is the length of what stands before it
pub position-some : {X : Type 0} (p : X → Bool) (xs : List X) (n : ℕ) → position p xs ≡ Some n →
    (n ≡ position_or_len p xs) × (n ≤ length xs)
position-some p xs n h = grind (arith, nat_tests)

-- where none passes, all stands before it
pub position-none : {X : Type 0} (p : X → Bool) (xs : List X) → position p xs ≡ None → length xs ≡ position_or_len p xs
position-none p xs h =
    let most : position_or_len p xs ≤ length xs = prefix_len-le-length _ xs in
    grind (arith, nat_tests, most)

-- what stands before the first element that passes, where there is a first one
before_first-cons : (p : ℕ → Bool) (x : ℕ) (xs : List ℕ) → before_first p (x ∷ xs) ≡ cond (p x) [] (x ∷ before_first p xs)
before_first-cons p x xs = grind arith

-- what differs behind a name's length is no part of the name
same_cut : (stops : Bool) (x : ℕ) (xs ys : List ℕ) → bytes_eq (cond stops [] (x ∷ xs)) [] ≡ bytes_eq (cond stops [] (x ∷ ys)) []
same_cut true x xs ys = refl
same_cut false x xs ys = refl

same_step : (stops : Bool) (x y : ℕ) (xs ys name : List ℕ) → bytes_eq xs name ≡ bytes_eq ys name →
    bytes_eq (cond stops [] (x ∷ xs)) (y ∷ name) ≡ bytes_eq (cond stops [] (x ∷ ys)) (y ∷ name)
same_step true x y xs ys name same = refl
same_step false x y xs ys name same = grind (arith, same)

-- what stands before the first zero byte is told from a name by one byte more than the name has
named_in_front : (p : ℕ → Bool) (xs name : List ℕ) → bytes_eq (before_first p (take (suc (length name)) xs)) name
    ≡ bytes_eq (before_first p xs) name
named_in_front p [] name = refl
named_in_front p (x ∷ xs) [] =
    ap (λ a. bytes_eq a []) (before_first-cons p x (take 0 xs)) ∙ same_cut (p x) x _ _
    ∙ sym (ap (λ a. bytes_eq a []) (before_first-cons p x xs))
named_in_front p (x ∷ xs) (y ∷ name) =
    ap (λ a. bytes_eq a (y ∷ name)) (before_first-cons p x (take (suc (length name)) xs))
    ∙ same_step (p x) x y _ _ name (named_in_front p xs name)
    ∙ sym (ap (λ a. bytes_eq a (y ∷ name)) (before_first-cons p x xs))

-- the rest of a table from a place on
rest_of : (table : List ℕ) (start : ℕ) → take (length table - start) (drop start table) ≡ drop start table
rest_of table start = ap (λ n. take n (drop start table)) (sym (length-drop start table)) ∙ take-length (drop start table)

-- the same of the name at a place of a table
pub named_by_front : (table name : List ℕ) (start size n : ℕ)
    → size ≡ min (length name + 1) (length (take (length table - start) (drop start table)))
    → n ≡ position_or_len (λ c. eqb c 0) (take size (take (length table - start) (drop start table)))
    → bytes_eq (take n (take size (take (length table - start) (drop start table)))) name ≡ bytes_eq (name_at table start) name
named_by_front table name start size n of_size at =
    let rest = take (length table - start) (drop start table) in
    let front : take size rest ≡ take (suc (length name)) rest = ap (λ k. take k rest) of_size ∙ take_min (length name + 1) rest
    ∙ ap (λ k. take k rest) (add-one (length name)) in
    ap (λ k. bytes_eq (take k (take size rest)) name) at
    ∙ ap (λ xs. bytes_eq (before_first (λ c. eqb c 0) xs) name) front
    ∙ named_in_front (λ c. eqb c 0) rest name
    ∙ ap (λ xs. bytes_eq (before_first (λ c. eqb c 0) xs) name) (rest_of table start)

-- where no element passes, none of the rest does
none_in_rest : {X : Type 0} (p : X → Bool) (xs : List X) (k : ℕ) → list_any p xs ≡ false → list_any p (drop k xs) ≡ false
none_in_rest p xs zero h = h
none_in_rest p [] (suc k) h = h
none_in_rest p (x ∷ xs) (suc k) h =
    let rest : list_any p xs ≡ false = grind arith in
    none_in_rest p xs k rest

-- after a place with no zero byte from it on there is none
none_later : (table : List ℕ) (n start : ℕ) → has_zero_from table n ≡ false → n ≤ start → has_zero_from table start ≡ false
none_later table n start none later =
    let whole : n + (start - n) ≡ start = omega arith in
    ap (has_zero_from table) (sym whole) ∙ ap (list_any (λ c. eqb c 0)) (sym (drop-drop (start - n) n table))
    ∙ none_in_rest (λ c. eqb c 0) (drop n table) (start - n) none

-- a zero byte follows each place up to its own
stands_from : (table : List ℕ) (n start : ℕ) → n < length table → get_or table n 0 ≡ 0 → start ≤ n → has_zero_from table start ≡ true
stands_from table n start within is_zero before =
    let whole : start + (n - start) ≡ n = omega arith in
    let here : get_or (drop start table) (n - start) 0 ≡ 0 = get_or-drop start table (n - start) 0 ∙ ap (λ k. get_or table k 0) whole
    ∙ is_zero in
    let size : n - start < length (drop start table) = simp length-drop (omega arith) in
    list_any_at (λ c. eqb c 0) (drop start table) (n - start) 0 size (ap (λ c. eqb c 0) here)

-- a place past the last zero byte tells where a zero byte follows
pub zeros_end : (table : List ℕ) (n start : ℕ) → n ≤ length table → has_zero_from table n ≡ false →
    (0 < n → get_or table (n - 1) 0 ≡ 0) → has_zero_from table start ≡ ltb start n
zeros_end table n start within none last =
    let after : n ≤ start → has_zero_from table start ≡ false = none_later table n start none in
    let before : start < n → has_zero_from table start ≡ true =
    λ (lt : start < n). stands_from table (n - 1) start (omega arith) (last (omega arith)) (omega arith) in
    grind (arith, nat_tests, after, before)
