-- Lists that are related element by element, and memories that are related at each address.
use Rattle.std.proofs.Common.{◌≡◌, ℕ, zero, suc, ◌+◌, ◌-◌, ◌≤◌, Bool, true, false, ◌&&◌, cond, List, [], ◌∷◌, ◌++◌, length, map, take, drop, refl, ap, ◌∙◌, subst, arith, nat_le, nat_lt, slice_index_or, slice_set}
use Rattle.power_machine.specs.Bytes.{over}
use Rattle.power_machine.specs.Memory.{bytes_from, put}
use Rattle.power_machine.specs.laws.Related.{Pairwise, Bytewise}

pub pairwise_at :
    {X Y : Type 0} (R : X → Y → Type 0) (xs : List X) (ys : List Y) (i : ℕ) (x : X) (y : Y) →
    R x y →
    Pairwise R xs ys →
    R (slice_index_or xs i x) (slice_index_or ys i y)
pairwise_at R [] [] i x y h r = h
pairwise_at R [] (b ∷ ys) i x y h r = absurd r
pairwise_at R (a ∷ xs) [] i x y h r = absurd r
pairwise_at R (a ∷ xs) (b ∷ ys) zero x y h r = r.0
pairwise_at R (a ∷ xs) (b ∷ ys) (suc i) x y h r = pairwise_at R xs ys i x y h r.1

pub pairwise_set :
    {X Y : Type 0} (R : X → Y → Type 0) (xs : List X) (ys : List Y) (i : ℕ) (x : X) (y : Y) →
    R x y →
    Pairwise R xs ys →
    Pairwise R (slice_set xs i x) (slice_set ys i y)
pairwise_set R [] [] i x y h r = tt
pairwise_set R [] (b ∷ ys) i x y h r = absurd r
pairwise_set R (a ∷ xs) [] i x y h r = absurd r
pairwise_set R (a ∷ xs) (b ∷ ys) zero x y h r = (h, r.1)
pairwise_set R (a ∷ xs) (b ∷ ys) (suc i) x y h r = (r.0, pairwise_set R xs ys i x y h r.1)

pub pairwise_take :
    {X Y : Type 0} (R : X → Y → Type 0) (n : ℕ) (xs : List X) (ys : List Y) →
    Pairwise R xs ys →
    Pairwise R (take n xs) (take n ys)
pairwise_take R zero xs ys r = tt
pairwise_take R (suc n) [] [] r = tt
pairwise_take R (suc n) [] (b ∷ ys) r = absurd r
pairwise_take R (suc n) (a ∷ xs) [] r = absurd r
pairwise_take R (suc n) (a ∷ xs) (b ∷ ys) r = (r.0, pairwise_take R n xs ys r.1)

pub pairwise_drop :
    {X Y : Type 0} (R : X → Y → Type 0) (n : ℕ) (xs : List X) (ys : List Y) →
    Pairwise R xs ys →
    Pairwise R (drop n xs) (drop n ys)
pairwise_drop R zero xs ys r = r
pairwise_drop R (suc n) [] [] r = tt
pairwise_drop R (suc n) [] (b ∷ ys) r = absurd r
pairwise_drop R (suc n) (a ∷ xs) [] r = absurd r
pairwise_drop R (suc n) (a ∷ xs) (b ∷ ys) r = pairwise_drop R n xs ys r.1

pub pairwise_append :
    {X Y : Type 0} (R : X → Y → Type 0) (xs : List X) (ys : List Y) (us : List X) (vs : List Y) →
    Pairwise R xs ys →
    Pairwise R us vs →
    Pairwise R (xs ++ us) (ys ++ vs)
pairwise_append R [] [] us vs r q = q
pairwise_append R [] (b ∷ ys) us vs r q = absurd r
pairwise_append R (a ∷ xs) [] us vs r q = absurd r
pairwise_append R (a ∷ xs) (b ∷ ys) us vs r q = (r.0, pairwise_append R xs ys us vs r.1 q)

pub pairwise_length : {X Y : Type 0} (R : X → Y → Type 0) (xs : List X) (ys : List Y) → Pairwise R xs ys → length xs ≡ length ys
pairwise_length R [] [] r = refl
pairwise_length R [] (b ∷ ys) r = absurd r
pairwise_length R (a ∷ xs) [] r = absurd r
pairwise_length R (a ∷ xs) (b ∷ ys) r = ap suc (pairwise_length R xs ys r.1)

pub pairwise_over :
    {X Y : Type 0} (R : X → Y → Type 0) (xs : List X) (ys : List Y) (from : ℕ) (us : List X) (vs : List Y) →
    Pairwise R us vs →
    Pairwise R xs ys →
    Pairwise R (over xs from us) (over ys from vs)
pairwise_over R xs ys from us vs q r =
    let behind = pairwise_drop R (from + length us) xs ys r in
    let same = subst (λ n. Pairwise R (drop (from + length us) xs) (drop (from + n) ys)) (pairwise_length R us vs q) behind in
    pairwise_append R _ _ _ _ (pairwise_take R from xs ys r) (pairwise_append R us vs _ _ q same)

pub pairwise_bytes :
    {X Y : Type 0} (R : X → Y → Type 0) (f : ℕ → X) (g : ℕ → Y) (a n : ℕ) →
    Bytewise R f g →
    Pairwise R (bytes_from f a n) (bytes_from g a n)
pairwise_bytes R f g a zero h = tt
pairwise_bytes R f g a (suc n) h = (h a, pairwise_bytes R f g (a + 1) n h)

pub length-bytes_from : {X : Type 0} (f : ℕ → X) (a n : ℕ) → length (bytes_from f a n) ≡ n
length-bytes_from f a zero = refl
length-bytes_from f a (suc n) = ap suc (length-bytes_from f (a + 1) n)

pub choice_related : {X Y : Type 0} (R : X → Y → Type 0) (b : Bool) (x x' : X) (y y' : Y) → R x y → R x' y' → R (cond b x x') (cond b y y')
choice_related R true x x' y y' h k = h
choice_related R false x x' y y' h k = k

pub put_related :
    {X Y : Type 0} (R : X → Y → Type 0) (f : ℕ → X) (g : ℕ → Y) (at : ℕ) (xs : List X) (ys : List Y) →
    Pairwise R xs ys →
    Bytewise R f g →
    Bytewise R (put f at xs) (put g at ys)
put_related R f g at xs ys r h a =
    let P = λ (n : ℕ). R (put f at xs a) (cond (nat_le at a && nat_lt a (at + n)) (slice_index_or ys (a - at) (g a)) (g a)) in
    subst P (pairwise_length R xs ys r)
    (choice_related R (nat_le at a && nat_lt a (at + length xs)) _ _ _ _ (pairwise_at R xs ys (a - at) (f a) (g a) (h a) r) (h a))

-- what two functions give of one list
pub pairwise_map :
    {A X Y : Type 0} (R : X → Y → Type 0) (f : A → X) (g : A → Y) →
    ((a : A) → R (f a) (g a)) →
    (as' : List A) →
    Pairwise R (map f as') (map g as')
pairwise_map R f g h [] = tt
pairwise_map R f g h (a ∷ as') = (h a, pairwise_map R f g h as')

-- the first of many bytes
pub take-bytes_from : {X : Type 0} (f : ℕ → X) (a k n : ℕ) → k ≤ n → take k (bytes_from f a n) ≡ bytes_from f a k
take-bytes_from f a zero n le = refl
take-bytes_from f a (suc k) zero le = absurd (omega arith)
take-bytes_from f a (suc k) (suc n) le = ap (λ xs. f a ∷ xs) (take-bytes_from f (a + 1) k n (omega arith))

pub pairwise_same : {X : Type 0} (xs ys : List X) → xs ≡ ys → Pairwise (◌≡◌ {A = X}) xs ys
pairwise_same {X} xs ys h = subst (λ zs. Pairwise (◌≡◌ {A = X}) xs zs) h (itself xs) where
  itself : {X : Type 0} (zs : List X) → Pairwise (◌≡◌ {A = X}) zs zs
  itself [] = tt
  itself (z ∷ zs) = (refl, itself zs)

pub lists_same : {X : Type 0} (xs ys : List X) → Pairwise (◌≡◌ {A = X}) xs ys → xs ≡ ys
lists_same [] [] r = refl
lists_same [] (y ∷ ys) r = absurd r
lists_same (x ∷ xs) [] r = absurd r
lists_same (x ∷ xs) (y ∷ ys) r = ap (λ z. z ∷ xs) r.0 ∙ ap (λ zs. y ∷ zs) (lists_same xs ys r.1)
