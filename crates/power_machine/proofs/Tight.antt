-- Pages that hold something, each of them.
use Rattle.std.proofs.Common.{◌≡◌, ◌≢◌, ℕ, zero, suc, ◌+◌, ◌-◌, ◌*◌, ◌%◌, ◌<◌, ◌≤◌, Bool, true, false, ◌||◌, List, [], ◌∷◌, length, take, get_or, refl, sym, ap, ◌∙◌, arith, ⊎_elim}
use Rattle.std.specs.Prelude.{◌==◌}
use Rattle.std.proofs.lemmas.List.{places}
use Rattle.std.proofs.lemmas.Bool.{cases_lt}
use Rattle.std.proofs.lemmas.Bool.Decides.{nat_tests}
use Rattle.power_machine.specs.Memory.{put}
use Rattle.power_machine.specs.Paging.{page_of, byte_in, span_at, meets}
use Rattle.power_machine.specs.inside.Paged.{kept_in, IsBlankFrom, IsTight, KeepsAlso, has_some}

-- where no byte is other than zero
none_some : (bytes : List ℕ) (j : ℕ) → has_some bytes ≡ false → get_or bytes j 0 ≡ 0
none_some [] j h = refl
none_some (x ∷ xs) zero h = grind (arith, nat_tests)
none_some (x ∷ xs) (suc j) h = none_some xs j (grind (arith, nat_tests))

skipped : (f : ℕ → ℕ) (from : ℕ) (bytes : List ℕ) (a : ℕ) →
    ((k : ℕ) → from ≤ k → f k ≡ 0) →
    ((j : ℕ) → get_or bytes j 0 ≡ 0) →
    f a ≡ put f from bytes a
skipped f from bytes a blank none = let b = none (a - from) in let c = blank a in grind (arith, nat_tests, places)

pub skips : (pages : List (List ℕ)) (from : ℕ) (bytes : List ℕ) →
    IsBlankFrom from pages →
    has_some bytes ≡ false →
    byte_in pages ≡ put (byte_in pages) from bytes
skips pages from bytes blank none j a = (skipped (byte_in pages) from bytes a blank (λ k. none_some bytes k none)) j

-- the place of one that is
pub record SomePlace (bytes : List ℕ) : Type 0 where
  pub place : ℕ
  pub within : place < length bytes
  pub some : (d : ℕ) → get_or bytes place d ≢ 0

some_here : (x : ℕ) (xs : List ℕ) (b : Bool) → (x == 0) ≡ b → has_some (x ∷ xs) ≡ true → (has_some xs ≡ true →
    SomePlace xs) → SomePlace (x ∷ xs)
some_here x xs true e h rest =
    let r : SomePlace xs = rest (grind (arith, nat_tests)) in
    record { place = suc r.place; within = omega (arith, r.within); some = λ d. r.some d }
some_here x xs false e h rest =
    record { place = 0; within = omega arith; some = λ d z. absurd (grind (arith, nat_tests)) }

pub some_place : (bytes : List ℕ) → has_some bytes ≡ true → SomePlace bytes
some_place [] h = cc
some_place (x ∷ xs) h = some_here x xs (x == 0) refl h (some_place xs)

untouched : (f : ℕ → ℕ) (from k : ℕ) (bytes : List ℕ) → k < from → put f from bytes k ≡ f k
untouched f from k bytes h = grind (arith, nat_tests)

touched : (f : ℕ → ℕ) (from j : ℕ) (bytes : List ℕ) → j < length bytes → put f from bytes (from + j) ≡ get_or bytes j (f (from + j))
touched f from j bytes h = let e : from + j - from ≡ j = omega arith in grind (arith, nat_tests)

one_page : (from n i : ℕ) → from % 0x1000 + n ≤ 0x1000 → meets (span_at from n) i ≡ true → i ≡ page_of from
one_page from n i fits met =
    let a : (0 < n) × (from < i * 0x1000 + 0x1000) × (i * 0x1000 < from + n) = grind (arith, nat_tests) in
    omega (arith, a.0, a.1, fits)

before : (from k x : ℕ) → (from ≤ k → x ≡ 0) → x ≢ 0 → k < from
before from k x h some = ⊎_elim (λ less. less) (λ le. absurd (some (h le))) (cases_lt k from)

behind : (from done : ℕ) (bytes : List ℕ) (k : ℕ) → from + done ≤ k → put (λ k. 0) from (take done bytes) k ≡ 0
behind from done bytes k le = grind (arith, nat_tests, places)

tight_by :
    (old new : List (List ℕ)) (from : ℕ) (bytes : List ℕ) (i : ℕ) (b : Bool) →
    kept_in old i ≡ b →
    (b || meets (span_at from (length bytes)) i) ≡ true →
    from % 0x1000 + length bytes ≤ 0x1000 →
    IsBlankFrom from old →
    byte_in new ≡ put (byte_in old) from bytes →
    SomePlace bytes →
    IsTight old →
    (k : ℕ) × (page_of k ≡ i) × (byte_in new k ≢ 0)
tight_by old new from bytes i true kept also fits blank there some tight =
    let t = tight i kept in
    let low : t.0 < from = before from t.0 (byte_in old t.0) (λ le. blank t.0 le) t.2 in
    (t.0, t.1, λ z. t.2 (sym (ap (λ (f : ℕ → ℕ). f t.0) there ∙ untouched (byte_in old) from t.0 bytes low) ∙ z))
tight_by old new from bytes i false kept also fits blank there some tight =
    let k = from + some.place in
    let e : i ≡ page_of from = one_page from (length bytes) i fits also in
    let same : page_of k ≡ i = omega (arith, e, fits, some.within) in (
      k,
      same,
      λ z. some.some (byte_in old k) (sym (ap (λ (f : ℕ → ℕ). f k) there
          ∙ touched (byte_in old) from some.place bytes some.within) ∙ z),
    )

pub stays_tight :
    (old new : List (List ℕ)) (from : ℕ) (bytes : List ℕ) →
    from % 0x1000 + length bytes ≤ 0x1000 →
    IsBlankFrom from old →
    has_some bytes ≡ true →
    KeepsAlso old new from (length bytes) →
    byte_in new ≡ put (byte_in old) from bytes →
    IsTight old →
    IsTight new
stays_tight old new from bytes fits blank some kept there tight i h =
    tight_by old new from bytes i (kept_in old i) refl (sym (ap (λ (f : ℕ → Bool). f i) kept)
    ∙ h) fits blank there (some_place bytes some) tight

-- behind the bytes all is zero
pub blank_behind :
    (pages : List (List ℕ)) (from done : ℕ) (bytes : List ℕ) →
    byte_in pages ≡ put (λ k. 0) from (take done bytes) →
    IsBlankFrom (from + done) pages
blank_behind pages from done bytes e k le = ap (λ (f : ℕ → ℕ). f k) e ∙ behind from done bytes k le
