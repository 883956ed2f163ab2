-- Lists of bytes, and bytes from an address on.
use Rattle.std.proofs.Common.{◌≡◌, ◌≢◌, ℕ, zero, suc, ◌+◌, ◌-◌, ◌<◌, ◌≤◌, ◌&&◌, List, [], ◌∷◌, ◌++◌, length, take, drop, get_or, refl, sym, ap, ◌∙◌, arith, add-one, add-zero, add_assoc, add_comm, cond, ⊎_elim}
use Rattle.std.specs.Prelude.{nat_le, nat_lt, slice_set}
use Rattle.std.proofs.lemmas.List.{places, take_all}
use Rattle.std.proofs.lemmas.Bool.{cases_lt}
use Rattle.std.proofs.lemmas.Bool.Decides.{nat_tests}
use Rattle.std.proofs.Math.Seq.{drop-cons}
use Rattle.power_insns.specs.declared.meaning.Width.{Width}
use Rattle.power_insns.specs.declared.meaning.Width.TheVariants.{Byte, Half, Word, Long}
use Rattle.power_insns.specs.Arithmetic.{bytes_of}
use Rattle.power_machine.specs.Bytes.{over}
use Rattle.power_machine.specs.Memory.{bytes_from, put}

-- two numbers are equal or not
pub by_equal : {P : Type 0} (i j : ℕ) → (j ≡ i → P) → (j ≢ i → P) → P
by_equal i j f g =
    ⊎_elim (λ less. g (λ e. omega arith))
    (λ least. ⊎_elim (λ more. g (λ e. omega arith)) (λ most. f (omega arith)) (cases_lt i j))
    (cases_lt j i)

-- so many bytes of a list from a place on
pub front_is : (xs : List ℕ) (from n : ℕ) → from + n ≤ length xs → take n (drop from xs) ≡ bytes_from (λ k. get_or xs k 0) from n
front_is xs from zero h = refl
front_is xs from (suc n) h =
    let e = drop-cons xs from 0 (omega arith) in
    ap (take (suc n)) e ∙ ap (λ ys. get_or xs from 0 ∷ ys) (rw (← add-one) (front_is xs (from + 1) n (omega arith)))

pub same_bytes : {B : Type 0} (f g : ℕ → B) (a b n : ℕ) → ((k : ℕ) → k < n → f (a + k) ≡ g (b + k)) → bytes_from f a n ≡ bytes_from g b n
same_bytes f g a b zero h = refl
same_bytes f g a b (suc n) h =
    let first : f a ≡ g b = simp add-zero at (h 0 (omega arith)) in
    let rest : (k : ℕ) → k < n → f (a + 1 + k) ≡ g (b + 1 + k) = λ k l. rw (add_assoc, add_assoc, add_comm 1 k) (h (k + 1) (omega arith)) in
    ap (λ x. x ∷ bytes_from f (a + 1) n) first ∙ ap (λ xs. g b ∷ xs) (same_bytes f g (a + 1) (b + 1) n rest)

-- one byte more
one_more : {B : Type 0} (f : ℕ → B) (at n : ℕ) → bytes_from f at (suc n) ≡ bytes_from f at n ++ f (at + n) ∷ []
one_more f at zero = let e : at ≡ at + 0 = omega arith in ap (λ k. f k ∷ []) e
one_more f at (suc n) =
    let e : at + 1 + n ≡ at + suc n = omega arith in
    ap (λ xs. f at ∷ xs) (one_more f (at + 1) n ∙ ap (λ k. bytes_from f (at + 1) n ++ f k ∷ []) e)

pub bytes_more : {B : Type 0} (f : ℕ → B) (at n : ℕ) → bytes_from f at (n + 1) ≡ bytes_from f at n ++ f (at + n) ∷ []
bytes_more f at n = rw add-one (one_more f at n)

-- an element of a list with others from a place on
pub get_over :
    (old : List ℕ) (from : ℕ) (bytes : List ℕ) (k d : ℕ) →
    from + length bytes ≤ length old →
    get_or (over old from bytes) k 0 ≡ cond (nat_le from k && nat_lt k (from + length bytes))
    (get_or bytes (k - from) d) (get_or old k 0)
get_over old from bytes k d h = grind (arith, nat_tests, places)

pub length_over : (old : List ℕ) (from : ℕ) (bytes : List ℕ) → from + length bytes ≤ length old → length (over old from bytes) ≡ length old
length_over old from bytes h = grind (arith, nat_tests, places)

-- the same bytes, put by their distances from a base
pub put_shifted :
    (f g h : ℕ → ℕ) (base at a : ℕ) (bytes : List ℕ) →
    base ≤ at →
    base ≤ a →
    ((k : ℕ) → f k ≡ put g (at - base) bytes k) →
    h a ≡ g (a - base) →
    f (a - base) ≡ put h at bytes a
put_shifted f g h base at a bytes low le e same = let there = e (a - base) in
    let d : a - base - (at - base) ≡ a - at = omega arith in grind (arith, nat_tests)

pub more_read :
    {B : Type 0} (f : ℕ → B) (at n : ℕ) (done done' : List B) (b : B) →
    done' ≡ done ++ b ∷ [] →
    done ≡ bytes_from f at n →
    b ≡ f (at + n) →
    done' ≡ bytes_from f at (n + 1)
more_read f at n done done' b e read is =
    e ∙ ap (λ xs. xs ++ b ∷ []) read ∙ ap (λ x. bytes_from f at n ++ x ∷ []) is ∙ sym (bytes_more f at n)

taken_set : (xs : List ℕ) (i b : ℕ) → i < length xs → take (suc i) (slice_set xs i b) ≡ take i xs ++ b ∷ []
taken_set [] i b h = absurd (omega arith)
taken_set (x ∷ xs) zero b h = refl
taken_set (x ∷ xs) (suc i) b h = ap (λ ys. x ∷ ys) (taken_set xs i b (omega arith))

pub more_taken :
    (f : ℕ → ℕ) (at i : ℕ) (xs : List ℕ) (b : ℕ) →
    i < length xs →
    take i xs ≡ bytes_from f at i →
    b ≡ f (at + i) →
    take (i + 1) (slice_set xs i b) ≡ bytes_from f at (i + 1)
more_taken f at i xs b h read is = more_read f at i (take i xs) (take (i + 1) (slice_set xs i b)) b (rw add-one
    (taken_set xs i b h)) read is

no_byte : {B : Type 0} (f : ℕ → B) (at : ℕ) (bytes : List B) (a : ℕ) → length bytes ≡ 0 → f a ≡ put f at bytes a
no_byte f at bytes a h = grind (arith, nat_tests)

one_byte :
    (f : ℕ → ℕ) (at done count : ℕ) (xs : List ℕ) (a : ℕ) →
    done + count ≤ length xs →
    put (put f at (take done xs)) (at + done) (take count (drop done xs)) a ≡ put f at (take (done + count) xs) a
one_byte f at done count xs a fits = grind (arith, nat_tests, places)

-- no bytes change nothing
pub put_none : {B : Type 0} (f : ℕ → B) (at : ℕ) (bytes : List B) → length bytes ≡ 0 → f ≡ put f at bytes
put_none f at bytes h j a = (no_byte f at bytes a h) j

-- so many bytes more
pub put_more :
    (f g h : ℕ → ℕ) (at done count n : ℕ) (xs : List ℕ) →
    done + count ≤ length xs →
    n ≡ count →
    g ≡ put f at (take done xs) →
    h ≡ put g (at + done) (take n (drop done xs)) →
    h ≡ put f at (take (done + count) xs)
put_more f g h at done count n xs fits same first next =
    next ∙ ap (λ u. put u (at + done) (take n (drop done xs))) first
    ∙ ap (λ m. put (put f at (take done xs)) (at + done) (take m (drop done xs))) same
    ∙ (λ j a. (one_byte f at done count xs a fits) j)

pub put_all : (f g : ℕ → ℕ) (at done : ℕ) (xs : List ℕ) → length xs ≤ done → g ≡ put f at (take done xs) → g ≡ put f at xs
put_all f g at done xs h e = e ∙ ap (put f at) (take_all done xs h)

pub width_most : (width : Width) → bytes_of width ≤ 8
width_most Byte = omega arith
width_most Half = omega arith
width_most Word = omega arith
width_most Long = omega arith

-- bytes, and those behind them
pub bytes_join : {B : Type 0} (f : ℕ → B) (at n m : ℕ) → bytes_from f at n ++ bytes_from f (at + n) m ≡ bytes_from f at (n + m)
bytes_join f at zero m = let e : at + 0 ≡ at = omega arith in let d : 0 + m ≡ m = omega arith in
    ap (λ k. bytes_from f k m) e ∙ ap (bytes_from f at) (sym d)
bytes_join f at (suc n) m =
    let e : at + suc n ≡ at + 1 + n = omega arith in
    let d : suc n + m ≡ suc (n + m) = omega arith in
    ap (λ k. f at ∷ (bytes_from f (at + 1) n ++ bytes_from f k m)) e ∙ ap (λ xs. f at ∷ xs) (bytes_join f (at + 1) n m)
    ∙ ap (bytes_from f at) (sym d)

pub length-bytes : {B : Type 0} (f : ℕ → B) (at n : ℕ) → length (bytes_from f at n) ≡ n
length-bytes f at zero = refl
length-bytes f at (suc n) = let rest = length-bytes f (at + 1) n in omega (arith, rest)

pub more_pushed :
    (f : ℕ → ℕ) (from n at : ℕ) (done done' : List ℕ) →
    done ≡ bytes_from f from (length done) →
    at ≡ from + length done →
    done' ≡ done ++ bytes_from f at n →
    done' ≡ bytes_from f from (length done')
more_pushed f from n at done done' read is e =
    let joined : done' ≡ bytes_from f from (length done + n) =
    e ∙ ap (λ xs. xs ++ bytes_from f at n) read ∙ ap (λ k. bytes_from f from (length done) ++ bytes_from f k n) is
    ∙ bytes_join f from (length done) n in
    joined ∙ ap (bytes_from f from) (sym (ap length joined ∙ length-bytes f from (length done + n)))
