-- Bytes by pages: what a page's bytes are, and what a write to a page and fresh pages do.
use Rattle.std.proofs.Common.{◌≡◌, ◌≢◌, ℕ, zero, suc, ◌+◌, ◌-◌, ◌*◌, ◌%◌, ◌<◌, ◌≤◌, Bool, true, false, ◌&&◌, ◌||◌, List, [], ◌∷◌, ◌++◌, length, map, take, drop, get_or, Some, refl, sym, ap, ◌∙◌, subst, arith, cond, ⊎_elim, Fits, w64, ◌^◌}
use Rattle.std.specs.Prelude.{nat_le, nat_lt, ◌==◌, replicate, slice_set}
use Rattle.std.proofs.lemmas.List.{get_or-set_other, get_or_default, length-set, length-replicate, length-map, length-take, length-drop}
use Rattle.std.proofs.lemmas.Grind.{get_or-set_at}
use Rattle.std.proofs.lemmas.Bool.{cases_lt}
use Rattle.std.proofs.lemmas.Bool.Decides.{nat_tests}
use Rattle.ppc_bytes.specs.Bytes.{number}
use Rattle.power_machine.specs.Bytes.{over, spelled}
use Rattle.power_machine.specs.Memory.{bytes_from, put}
use Rattle.power_machine.specs.Paging.{page_of, page_in, is_kept, byte_in, span_at, meets, kept_with}
use Rattle.power_machine.specs.inside.Paged.{ArePages, IsWhole, zeros, byte_on, kept_in, made_of, made_from, fresh_for, also_from, IsTight}
use Rattle.power_machine.proofs.Lists.{by_equal, front_is, get_over, length_over, same_bytes}

number_none : (f : ℕ → ℕ) (at n : ℕ) → ((k : ℕ) → f k ≡ 0) → number (bytes_from f at n) ≡ 0
number_none f at zero h = refl
number_none f at (suc n) h = let a = h at in let b = number_none f (at + 1) n h in omega (arith, a, b)

pub not_kept : (page : List ℕ) → is_kept page ≡ false → page ≡ []
not_kept [] h = refl
not_kept (x ∷ xs) h = absurd (grind (arith, nat_tests))

pub some_kept : (page : List ℕ) → is_kept page ≡ true → 0 < length page
some_kept [] h = cc
some_kept (x ∷ xs) h = omega arith

-- bytes of a page that isn't kept spell 0
pub none_spells : (page : List ℕ) (at n : ℕ) → is_kept page ≡ false → 0 ≡ spelled (bytes_from (byte_on page) at n)
unfolding spelled
none_spells page at n h =
    sym (number_none (byte_on page) at n (λ k. ap (λ p. get_or p k 0) (not_kept page h)))

-- the tests of an address by its page, and by its place in it
same_tests :
    (q a k b l n : ℕ) →
    a ≡ q * 0x1000 + b →
    k ≡ q * 0x1000 + l →
    (nat_le b l && nat_lt l (b + n)) ≡ (nat_le a k && nat_lt k (a + n))
same_tests q a k b l n e f = grind (arith, nat_tests)

other_tests :
    (q r a k b l n : ℕ) →
    a ≡ q * 0x1000 + b →
    k ≡ r * 0x1000 + l →
    b + n ≤ 0x1000 →
    l < 0x1000 →
    r ≢ q →
    (nat_le a k && nat_lt k (a + n)) ≡ false
other_tests q r a k b l n e f fits low apart =
    ⊎_elim (λ less. grind (arith, nat_tests)) (λ most. ⊎_elim (λ more. grind (arith, nat_tests))
    (λ least. absurd (apart (omega arith))) (cases_lt q r)) (cases_lt r q)

piece_byte :
    (pages : List (List ℕ)) (at k : ℕ) (bytes : List ℕ) →
    page_of at < length pages →
    at % 0x1000 + length bytes ≤ 0x1000 →
    length (page_in pages (page_of at)) ≡ 0x1000 →
    byte_in (slice_set pages (page_of at) (over (page_in pages (page_of at)) (at % 0x1000) bytes)) k ≡ put (byte_in pages) at bytes k
piece_byte pages at k bytes within fits whole =
    let page = page_in pages (page_of at) in
    let new = over page (at % 0x1000) bytes in
    let e : at ≡ page_of at * 0x1000 + at % 0x1000 = omega arith in
    let f : k ≡ page_of k * 0x1000 + k % 0x1000 = omega arith in
    let b = byte_in pages k in
    by_equal (page_of at) (page_of k)
    (λ same.
    let g : k ≡ page_of at * 0x1000 + k % 0x1000 = omega arith in
    let d : k % 0x1000 - at % 0x1000 ≡ k - at = omega arith in
    ap (λ p. get_or p (k % 0x1000) 0) (get_or-set_at pages (page_of at) (page_of k) new [] same within)
    ∙ get_over page (at % 0x1000) bytes (k % 0x1000) b (omega (arith, whole, fits))
    ∙ ap (λ t. cond t (get_or bytes (k % 0x1000 - at % 0x1000) b) (get_or page (k % 0x1000) 0))
    (same_tests (page_of at) at k (at % 0x1000) (k % 0x1000) (length bytes) e g)
    ∙ ap (λ j. cond (nat_le at k && nat_lt k (at + length bytes)) (get_or bytes j b) (get_or page (k % 0x1000) 0)) d
    ∙ ap (λ i. cond (nat_le at k && nat_lt k (at + length bytes)) (get_or bytes (k - at) b) (get_or (page_in pages i)
    (k % 0x1000) 0)) (sym same))
    (λ apart.
    ap (λ p. get_or p (k % 0x1000) 0) (get_or-set_other pages (page_of at) (page_of k) new [] apart)
    ∙ sym (ap (λ t. cond t (get_or bytes (k - at) b) b)
    (other_tests (page_of at) (page_of k) at k (at % 0x1000) (k % 0x1000) (length bytes) e f fits (omega arith) apart)))

kept_within : (pages : List (List ℕ)) (i : ℕ) → kept_in pages i ≡ true → i < length pages
kept_within [] i h = cc
kept_within (p ∷ pages) zero h = omega arith
kept_within (p ∷ pages) (suc i) h = let rest = kept_within pages i h in omega (arith, rest)

-- what a write to a page does
pub record PieceThere (pages new : List (List ℕ)) (at : ℕ) (bytes : List ℕ) : Type 0 where
  pub len : length new ≡ length pages
  pub kept : kept_in new ≡ kept_in pages
  pub bytes_are : byte_in new ≡ put (byte_in pages) at bytes

pages_set :
    (pages : List (List ℕ)) (i j : ℕ) (page : List ℕ) →
    i < length pages →
    length page ≡ length (page_in pages i) →
    length (page_in (slice_set pages i page) j) ≡ length (page_in pages j)
pages_set pages i j page h long =
    by_equal i j
    (λ same. ap length (get_or-set_at pages i j page [] same h) ∙ long ∙ ap (λ k. length (page_in pages k)) (sym same))
    (λ apart. ap length (get_or-set_other pages i j page [] apart))

pub piece_there :
    (pages old : List (List ℕ)) (at : ℕ) (bytes page page' : List ℕ) →
    ArePages pages →
    pages ≡ old →
    kept_in old (page_of at) ≡ true →
    page ≡ get_or pages (page_of at) page →
    page' ≡ over page (at % 0x1000) bytes →
    at % 0x1000 + length bytes ≤ 0x1000 →
    PieceThere old (slice_set pages (page_of at) page') at bytes × ArePages (slice_set pages (page_of at) page')
piece_there pages old at bytes page page' are same kept is written fits =
    let i = page_of at in
    let within : i < length pages = kept_within pages i (subst (λ p. kept_in p i ≡ true) (sym same) kept) in
    let whole : length (page_in pages i) ≡ 0x1000 = are i (some_kept (page_in pages i) (subst (λ p. kept_in p i ≡ true) (sym same) kept)) in
    let here : page' ≡ over (page_in pages i) (at % 0x1000) bytes = written ∙ ap (λ p. over p (at % 0x1000) bytes) (is
    ∙ get_or_default pages i page [] within) in
    let long : length page' ≡ length (page_in pages i) = ap length here
    ∙ length_over (page_in pages i) (at % 0x1000) bytes (omega (arith, whole, fits)) in
    let there : PieceThere pages (slice_set pages i page') at bytes = record {
      len = length-set pages i page';
      kept = λ u j. ap (λ n. nat_lt 0 n) (pages_set pages i j page' within long) u;
      bytes_are = λ u k. (ap (λ p. byte_in (slice_set pages i p) k) here ∙ piece_byte pages at k bytes within fits whole) u;
    } in (
      subst (λ p. PieceThere p (slice_set pages i page') at bytes) same there,
      λ j some. let e = pages_set pages i j page' within long in omega (arith, e, are j (omega (arith, e, some))),
    )

-- the number 0
abbrev nought : ℕ
nought = 0

length-zeros : (n : ℕ) → length (zeros n) ≡ n
unfolding zeros
length-zeros n = length-replicate n nought

zero_among : (n i : ℕ) → get_or (replicate n nought) i nought ≡ nought
zero_among zero i = refl
zero_among (suc n) zero = refl
zero_among (suc n) (suc i) = zero_among n i

zero_in : (n i : ℕ) → get_or (zeros n) i nought ≡ nought
unfolding zeros
zero_in n i = zero_among n i

-- a fresh page changes no byte, and is kept
made_byte : (b : Bool) (page : List ℕ) (k : ℕ) → is_kept page ≡ b → get_or (made_of page) k 0 ≡ get_or page k 0
made_byte true page k h = ap (λ b. get_or (cond b page (zeros 0x1000)) k 0) h
made_byte false page k h =
    ap (λ b. get_or (cond b page (zeros 0x1000)) k 0) h ∙ zero_in 0x1000 k ∙ ap (λ p. get_or p k 0) (sym (not_kept page h))

made_kept : (b : Bool) (page : List ℕ) → is_kept page ≡ b → is_kept (made_of page) ≡ true
made_kept true page h = ap (λ b. is_kept (cond b page (zeros 0x1000))) h ∙ h
made_kept false page h = ap (λ b. is_kept (cond b page (zeros 0x1000))) h ∙ ap (λ n. nat_lt 0 n) (length-zeros 0x1000)

made_whole : (b : Bool) (page : List ℕ) → is_kept page ≡ b → IsWhole page → IsWhole (made_of page)
made_whole true page h whole = subst IsWhole (sym (ap (λ b. cond b page (zeros 0x1000)) h)) whole
made_whole false page h whole = subst IsWhole (sym (ap (λ b. cond b page (zeros 0x1000)) h)) (λ some. length-zeros 0x1000)

-- what made pages are
byte_either : (b : Bool) (page : List ℕ) (k : ℕ) → get_or (cond b (made_of page) page) k 0 ≡ get_or page k 0
byte_either true page k = made_byte (is_kept page) page k refl
byte_either false page k = refl

pub or_true : (b : Bool) → (b || true) ≡ true
or_true true = refl
or_true false = refl

or_false : (b : Bool) → (b || false) ≡ b
or_false true = refl
or_false false = refl

kept_either : (b : Bool) (page : List ℕ) → is_kept (cond b (made_of page) page) ≡ (is_kept page || b)
kept_either true page = made_kept (is_kept page) page refl ∙ sym (or_true (is_kept page))
kept_either false page = sym (or_false (is_kept page))

whole_either : (b : Bool) (page : List ℕ) → IsWhole page → IsWhole (cond b (made_of page) page)
whole_either true page h = made_whole (is_kept page) page refl h
whole_either false page h = h

pub made_bytes :
    (old new : List (List ℕ)) (first stop : ℕ) →
    ((i : ℕ) → page_in new i ≡ made_from old first stop i) →
    byte_in new ≡ byte_in old
made_bytes old new first stop h u k =
    (ap (λ p. get_or p (k % 0x1000) 0) (h (page_of k))
    ∙ byte_either (nat_le first (page_of k) && nat_lt (page_of k) stop) (page_in old (page_of k)) (k % 0x1000)) u

pub made_pages :
    (old new : List (List ℕ)) (first stop : ℕ) →
    ((i : ℕ) → page_in new i ≡ made_from old first stop i) →
    kept_in new ≡ also_from (kept_in old) first stop
made_pages old new first stop h u i =
    (ap is_kept (h i) ∙ kept_either (nat_le first i && nat_lt i stop) (page_in old i)) u

-- one fresh page in its place
pub record Installed (old new : List (List ℕ)) (index : ℕ) : Type 0 where
  pub made : (i : ℕ) → page_in new i ≡ made_from old index (index + 1) i
  pub whole : ArePages new

one_test : (index i : ℕ) → i ≡ index → (nat_le index i && nat_lt i (index + 1)) ≡ true
one_test index i h = grind (arith, nat_tests)

no_test : (index i : ℕ) → i ≢ index → (nat_le index i && nat_lt i (index + 1)) ≡ false
no_test index i h =
    ⊎_elim (λ less. grind (arith, nat_tests)) (λ most. ⊎_elim (λ more. grind (arith, nat_tests))
    (λ least. absurd (h (omega arith))) (cases_lt index i)) (cases_lt i index)

pub installed :
    (pages old : List (List ℕ)) (index : ℕ) (page : List ℕ) →
    ArePages pages →
    pages ≡ old →
    index < length pages →
    is_kept (page_in pages index) ≡ false →
    page ≡ fresh_for (page_in old index) →
    Installed old (slice_set pages index page) index
installed pages old index page are same within none fresh =
    let fresh' : page ≡ made_of (page_in pages index) =
    fresh ∙ ap (λ p. fresh_for (page_in p index)) (sym same)
    ∙ ap (λ b. cond b [] (zeros 0x1000)) none ∙ sym (ap (λ b. cond b (page_in pages index) (zeros 0x1000)) none) in
    let made : (i : ℕ) → page_in (slice_set pages index page) i ≡ made_from pages index (index + 1) i = λ i. by_equal index i
    (λ e. get_or-set_at pages index i page [] e within ∙ fresh' ∙ ap (λ j. made_of (page_in pages j)) (sym e)
    ∙ sym (ap (λ b. cond b (made_of (page_in pages i)) (page_in pages i)) (one_test index i e)))
    (λ apart. get_or-set_other pages index i page [] apart
    ∙ sym (ap (λ b. cond b (made_of (page_in pages i)) (page_in pages i)) (no_test index i apart))) in
    record {
      made = subst (λ p. (i : ℕ) → page_in (slice_set pages index page) i ≡ made_from p index (index + 1) i) same made;
      whole = λ i. subst IsWhole (sym (made i)) (whole_either (nat_le index i && nat_lt i (index + 1)) (page_in pages i) (are i));
    }

pub kept_before :
    (pages old : List (List ℕ)) (index : ℕ) →
    pages ≡ old →
    is_kept (page_in pages index) ≡ true →
    (i : ℕ) →
    page_in pages i ≡ made_from old index (index + 1) i
kept_before pages old index same kept i =
    let here : page_in pages i ≡ made_from pages index (index + 1) i = by_equal index i
    (λ e. let k : is_kept (page_in pages i) ≡ true = ap (λ j. is_kept (page_in pages j)) e ∙ kept in
    sym (ap (λ b. cond b (made_of (page_in pages i)) (page_in pages i)) (one_test index i e)
    ∙ ap (λ b. cond b (page_in pages i) (zeros 0x1000)) k))
    (λ apart. sym (ap (λ b. cond b (made_of (page_in pages i)) (page_in pages i)) (no_test index i apart))) in
    subst (λ p. page_in pages i ≡ made_from p index (index + 1) i) same here

pub kept_is :
    (pages : List (List ℕ)) (i : ℕ) (page : List ℕ) (b : Bool) →
    i < length pages →
    page ≡ get_or pages i page →
    b ≡ is_kept page →
    is_kept (page_in pages i) ≡ b
kept_is pages i page b within is e = sym (e ∙ ap is_kept (is ∙ get_or_default pages i page [] within))

-- fresh pages, one by one
not_yet : (first index : ℕ) → (nat_le first index && nat_lt index index) ≡ false
not_yet first index = grind (arith, nat_tests)

pub next_fresh :
    (old now : List (List ℕ)) (first index : ℕ) (page : List ℕ) (rest rest' : List (List ℕ)) →
    rest ≡ page ∷ rest' →
    ((i : ℕ) → page_in now i ≡ made_from old first index i) →
    ((i : ℕ) → i < length rest → page_in rest i ≡ fresh_for (page_in old (index + i))) →
    page ≡ fresh_for (page_in now index)
next_fresh old now first index page rest rest' e made fresh =
    let some : 0 < length rest = let l = ap length e in omega (arith, l) in
    let here : page ≡ fresh_for (page_in old (index + 0)) = sym (ap (λ r. page_in r 0) e) ∙ fresh 0 some in
    let same : index + 0 ≡ index = omega arith in
    here ∙ ap (λ i. fresh_for (page_in old i)) same
    ∙ sym (ap fresh_for (made index ∙ ap (λ b. cond b (made_of (page_in old index)) (page_in old index)) (not_yet first index)))

same_made : (first index i : ℕ) → i ≢ index → (nat_le first i && nat_lt i index) ≡ (nat_le first i && nat_lt i (index + 1))
same_made first index i h =
    ⊎_elim (λ less. grind (arith, nat_tests)) (λ most. ⊎_elim (λ more. grind (arith, nat_tests))
    (λ least. absurd (h (omega arith))) (cases_lt index i)) (cases_lt i index)

now_made : (first index i : ℕ) → i ≡ index → first ≤ index → (nat_le first i && nat_lt i (index + 1)) ≡ true
now_made first index i e least = grind (arith, nat_tests)

not_made : (first index i : ℕ) → i ≡ index → (nat_le first i && nat_lt i index) ≡ false
not_made first index i e = grind (arith, nat_tests)

made_next :
    (old now new : List (List ℕ)) (first index i : ℕ) →
    first ≤ index →
    page_in now i ≡ made_from old first index i →
    page_in new i ≡ made_from now index (index + 1) i →
    page_in new i ≡ made_from old first (index + 1) i
made_next old now new first index i least made next =
    by_equal index i
    (λ e. next ∙ ap (λ b. cond b (made_of (page_in now i)) (page_in now i)) (one_test index i e)
    ∙ ap made_of (made ∙ ap (λ b. cond b (made_of (page_in old i)) (page_in old i)) (not_made first index i e))
    ∙ sym (ap (λ b. cond b (made_of (page_in old i)) (page_in old i)) (now_made first index i e least)))
    (λ apart. next ∙ ap (λ b. cond b (made_of (page_in now i)) (page_in now i)) (no_test index i apart) ∙ made
    ∙ ap (λ b. cond b (made_of (page_in old i)) (page_in old i)) (same_made first index i apart))

pub more_made :
    (old now new : List (List ℕ)) (first index stop : ℕ) (page : List ℕ) (rest rest' : List (List ℕ)) →
    rest ≡ page ∷ rest' →
    index + length rest ≡ stop →
    first ≤ index →
    length now ≡ length old →
    ((i : ℕ) → page_in now i ≡ made_from old first index i) →
    ((i : ℕ) → i < length rest → page_in rest i ≡ fresh_for (page_in old (index + i))) →
    length new ≡ length now →
    ((i : ℕ) → page_in new i ≡ made_from now index (index + 1) i) →
    record {
      place : index + 1 + length rest' ≡ stop;
      least : first ≤ index + 1;
      len : length new ≡ length old;
      made : (i : ℕ) → page_in new i ≡ made_from old first (index + 1) i;
      fresh : (i : ℕ) → i < length rest' → page_in rest' i ≡ fresh_for (page_in old (index + 1 + i));
    }
more_made old now new first index stop page rest rest' e place least len made fresh len' made' =
    let l = ap length e in
    record {
      place = omega (arith, l, place);
      least = omega (arith, least);
      len = len' ∙ len;
      made = λ i. made_next old now new first index i least (made i) (made' i);
      fresh = λ i h.
          let h' : suc i < length rest = omega (arith, l, h) in
          let s : index + suc i ≡ index + 1 + i = omega arith in
          sym (ap (λ r. page_in r (suc i)) e) ∙ fresh (suc i) h' ∙ ap (λ j. fresh_for (page_in old j)) s;
    }

-- the pages of so many bytes
on_them :
    (from n k q r l : ℕ) →
    q * 0x1000 ≤ from →
    from + n ≤ l * 0x1000 →
    from ≤ k →
    k < from + n →
    r * 0x1000 ≤ k →
    k < r * 0x1000 + 0x1000 →
    from < q * 0x1000 + 0x1000 →
    (nat_le q r && nat_lt r l) ≡ true
on_them from n k q r l a b c d e f g = grind (arith, nat_tests)

pub also_kept :
    (old new : ℕ → Bool) (from n : ℕ) →
    0 < n →
    new ≡ also_from old (page_of from) (page_of (from + n - 1) + 1) →
    (k : ℕ) →
    from ≤ k →
    k < from + n →
    new (page_of k) ≡ true
also_kept old new from n some e k a b =
    ap (λ (f : ℕ → Bool). f (page_of k)) e
    ∙ ap (λ t. old (page_of k) || t) (on_them from n k (page_of from) (page_of k) (page_of (from + n - 1) + 1)
    (omega arith) (omega arith) a b (omega arith) (omega arith) (omega arith))
    ∙ or_true (old (page_of k))

met_tests :
    (from n q l i : ℕ) →
    0 < n →
    q * 0x1000 ≤ from →
    from < q * 0x1000 + 0x1000 →
    l * 0x1000 ≤ from + n - 1 →
    from + n - 1 < l * 0x1000 + 0x1000 →
    (nat_le q i && nat_lt i (l + 1)) ≡ meets (span_at from n) i
met_tests from n q l i some a b c d = grind (arith, nat_tests)

pub also_met :
    (old new : ℕ → Bool) (from n : ℕ) →
    0 < n →
    new ≡ also_from old (page_of from) (page_of (from + n - 1) + 1) →
    new ≡ kept_with old (Some (span_at from n))
also_met old new from n some e =
    e ∙ (λ j i. (ap (λ t. old i || t) (met_tests from n (page_of from) (page_of (from + n - 1)) i some
    (omega arith) (omega arith) (omega arith) (omega arith))) j)

pub none_met : (kept : ℕ → Bool) (from n : ℕ) → n ≡ 0 → kept ≡ kept_with kept (Some (span_at from n))
none_met kept from n e j i = (sym (ap (λ m. kept i || meets (span_at from m) i) e ∙ or_false (kept i))) j

pub fits_long : (n : ℕ) → n < 2 ^ 64 → Fits w64 n
fits_long n h = search

pub fresh_count :
    (pages fresh : List (List ℕ)) (first stop : ℕ) →
    fresh ≡ map fresh_for (take (stop - first) (drop first pages)) →
    stop ≤ length pages →
    first < stop →
    first + length fresh ≡ stop
fresh_count pages fresh first stop e within some =
    let l = ap length e in
    let m = length-map (take (stop - first) (drop first pages)) fresh_for in
    let t = length-take (stop - first) (drop first pages) in
    let d = length-drop first pages in
    omega (arith, l, m, t, d, within, some)

true_false : true ≡ false → ⊥
true_false h = cc

-- pages of which none is kept
pub none_in : (n i : ℕ) → page_in (replicate n []) i ≡ []
none_in zero i = refl
none_in (suc n) zero = refl
none_in (suc n) (suc i) = none_in n i

pub none_kept : (pages : List (List ℕ)) (n : ℕ) → pages ≡ replicate n [] → byte_in pages ≡ (λ k. 0)
none_kept pages n e j k = (ap (λ p. byte_in p k) e ∙ ap (λ p. get_or p (k % 0x1000) 0) (none_in n (page_of k))) j

pub none_tight : (pages : List (List ℕ)) (n : ℕ) → pages ≡ replicate n [] → IsTight pages
none_tight pages n e i kept = absurd (true_false (sym kept ∙ ap (λ p. kept_in p i) e ∙ ap is_kept (none_in n i)))

pub some_bytes : (n : ℕ) (b : Bool) → b ≡ (n == 0) → b ≡ false → 0 < n
some_bytes n b e none = grind (arith, nat_tests)

pub none_long : (pages : List (List ℕ)) (n : ℕ) → pages ≡ replicate n [] → length pages ≡ n
none_long pages n e = ap length e ∙ length-replicate n []

abbrev get_at : List ℕ → ℕ → ℕ
get_at page k = get_or page k 0

-- so many bytes of one page
pub page_bytes :
    (pages : List (List ℕ)) (at n : ℕ) →
    at % 0x1000 + n ≤ 0x1000 →
    bytes_from (byte_on (page_in pages (page_of at))) (at % 0x1000) n ≡ bytes_from (byte_in pages) at n
page_bytes pages at n fits = same_bytes _ _ _ _ n (λ k l.
    let p : page_of (at + k) ≡ page_of at = omega arith in
    let r : (at + k) % 0x1000 ≡ at % 0x1000 + k = omega arith in
    sym (ap (λ i. get_or (page_in pages i) ((at + k) % 0x1000) 0) p ∙ ap (get_at (page_in pages (page_of at))) r))

pub none_bytes : (page : List ℕ) (at n : ℕ) → is_kept page ≡ false → zeros n ≡ bytes_from (byte_on page) at n
unfolding zeros
none_bytes page at zero h = refl
none_bytes page at (suc n) h =
    ap (λ xs. 0 ∷ xs) (none_bytes page (at + 1) n h)
    ∙ ap (λ x. x ∷ bytes_from (byte_on page) (at + 1) n) (sym (ap (λ p. get_or p at 0) (not_kept page h)))

pub held_bytes :
    (page xs ys : List ℕ) (at n : ℕ) (done done' : List ℕ) →
    ys ≡ xs →
    xs ≡ page →
    is_kept page ≡ true →
    IsWhole page →
    at + n ≤ 0x1000 →
    done' ≡ done ++ take (at + n - at) (drop at ys) →
    done' ≡ done ++ bytes_from (byte_on page) at n
held_bytes page xs ys at n done done' e f kept whole fits read =
    let long : length page ≡ 0x1000 = whole (some_kept page kept) in
    let m : at + n - at ≡ n = omega arith in
    read ∙ ap (λ k. done ++ take k (drop at ys)) m ∙ ap (λ zs. done ++ take n (drop at zs)) (e ∙ f)
    ∙ ap (λ zs. done ++ zs) (front_is page at n (omega (arith, long, fits)))

pub page_pushed :
    (pages old : List (List ℕ)) (page : List ℕ) (at n : ℕ) (done done' : List ℕ) →
    pages ≡ old →
    page_of at < length pages →
    page ≡ get_or pages (page_of at) page →
    at % 0x1000 + n ≤ 0x1000 →
    done' ≡ done ++ bytes_from (byte_on page) (at % 0x1000) n →
    done' ≡ done ++ bytes_from (byte_in old) at n
page_pushed pages old page at n done done' same within is fits read =
    let there : page ≡ page_in pages (page_of at) = is ∙ get_or_default pages (page_of at) page [] within in
    read ∙ ap (λ p. done ++ bytes_from (byte_on p) (at % 0x1000) n) there ∙ ap (λ xs. done ++ xs) (page_bytes pages at n fits)
    ∙ ap (λ p. done ++ bytes_from (byte_in p) at n) same
