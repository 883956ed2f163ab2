-- The region that an access meets.
use Rattle.std.proofs.Common.{◌≡◌, ℕ, zero, suc, ◌+◌, ◌-◌, ◌*◌, ◌<◌, ◌≤◌, Bool, true, false, ◌&&◌, ◌||◌, not, List, [], ◌∷◌, length, map, get_or, Option, Some, None, refl, sym, ap, ◌∙◌, subst, arith, cond, ⊎_elim}
use Rattle.std.specs.Prelude.{is_some, nat_le, nat_lt, slice_set}
use Rattle.std.specs.List.{list_any, position, position_or_len}
use Rattle.std.proofs.lemmas.List.Quantifiers.{position-Some}
use Rattle.std.proofs.lemmas.List.{get_or_default, set-get_or}
use Rattle.std.proofs.lemmas.Bool.{cases_lt}
use Rattle.std.proofs.lemmas.Bool.Decides.{nat_tests}
use Rattle.power_machine.specs.declared.memory.Region.{Region}
use Rattle.std.proofs.Math.ListN.{get_or-map}
use Rattle.std.proofs.Math.Seq.{map-set_same}
use Rattle.std.proofs.lemmas.List.{length-map}
use Rattle.power_machine.specs.declared.memory.Purpose.{Purpose}
use Rattle.power_machine.specs.declared.memory.Purpose.TheVariants.{Storing}
use Rattle.power_machine.specs.Memory.{Range, stop_of, range_of, ranges_of, holds, allows, covers, base_of, byte_of, byte_at, bytes_from, put, keeps}
use Rattle.power_machine.specs.Paging.{page_of, span_at, meets, kept_with, byte_in}
use Rattle.power_machine.specs.inside.Paged.{kept_in}
use Rattle.power_machine.specs.inside.Regions.{BeginBy, InOrder, IsPlace, Puts, place_of}
use Rattle.power_machine.proofs.Lists.{same_bytes, put_shifted}

holds_parts : (purpose : Purpose) (at count : ℕ) (r : Range) → holds purpose at count r ≡ true → (r.start ≤ at) × (at + count ≤ r.stop)
holds_parts purpose at count r h = grind (arith, nat_tests)

position_within : {X : Type 0} (p : X → Bool) (xs : List X) (i : ℕ) → position p xs ≡ Some i → i < length xs
position_within p [] i h = cc
position_within p (x ∷ xs) i h = (position-Some p (x ∷ xs) i x h).0

pub place_found :
    (purpose : Purpose) (at count : ℕ) (regions : List Region) (index : ℕ) →
    InOrder regions →
    place_of purpose at count regions ≡ Some index →
    IsPlace purpose at count regions index
place_found purpose at count regions index order h =
    let inside : index < length regions = position_within _ regions index h in
    record {
      within = inside;
      starts = λ d. (holds_parts purpose at count _ (position-Some _ regions index d h).1).0;
      ends = λ d. (holds_parts purpose at count _ (position-Some _ regions index d h).1).1;
      low = λ d. order.low index d inside;
      paged = λ d. order.paged index d inside;
    }

any_map : {X Y : Type 0} (f : X → Y) (p : Y → Bool) (xs : List X) → list_any p (map f xs) ≡ list_any (λ x. p (f x)) xs
any_map f p [] = refl
any_map f p (x ∷ xs) = ap (λ b. p (f x) || b) (any_map f p xs)

one_more :
    (b c : Bool) (n m : ℕ) →
    c ≡ is_some (cond (nat_lt n m) (Some n) None) →
    (b || c) ≡ is_some (cond (nat_lt (cond (not b) (1 + n) 0) (suc m)) (Some (cond (not b) (1 + n) 0)) None)
one_more b c n m h = grind (arith, nat_tests)

any_position : {X : Type 0} (p : X → Bool) (xs : List X) → list_any p xs ≡ is_some (position p xs)
any_position p [] = refl
any_position p (x ∷ xs) = one_more (p x) (list_any p xs) (position_or_len p xs) (length xs) (any_position p xs)

none_passes : {X : Type 0} (p : X → Bool) (xs : List X) (i : ℕ) (d : X) → i < length xs → list_any p xs ≡ false → p (get_or xs i d) ≡ false
none_passes p [] i d h none = absurd (omega arith)
none_passes p (x ∷ xs) zero d h none = grind (arith, nat_tests)
none_passes p (x ∷ xs) (suc i) d h none = none_passes p xs i d (omega arith) (grind (arith, nat_tests))

-- regions begin in order
starts_rise :
    (regions : List Region) (i j : ℕ) (d : Region) →
    InOrder regions →
    i ≤ j →
    j < length regions →
    (get_or regions i d).start ≤ (get_or regions j d).start
starts_rise regions i j d order le h =
    ⊎_elim
    (λ less. let apart = order.apart i j d less h in omega arith)
    (λ most. let e : i ≡ j = omega arith in subst (λ k. (get_or regions i d).start ≤ (get_or regions k d).start) e (omega arith))
    (cases_lt i j)

start_with : (regions : List Region) (m : ℕ) (s d : Region) → m < length regions → (get_or regions m s).start ≡ (get_or regions m d).start
start_with regions m s d h = ap (λ (r : Region). r.start) (get_or_default regions m s d h)

-- those in front of one that begins at or below an address do so too
pub begun_to :
    (regions : List Region) (m at : ℕ) (s : Region) →
    InOrder regions →
    m < length regions →
    (get_or regions m s).start ≤ at →
    (i : ℕ) (d : Region) →
    i < m + 1 →
    (get_or regions i d).start ≤ at
begun_to regions m at s order h le i d less =
    let a = starts_rise regions i m d order (omega arith) h in let b = start_with regions m s d h in omega arith

-- and those behind one that begins behind it don't
pub ahead_from :
    (regions : List Region) (m at : ℕ) (s : Region) →
    InOrder regions →
    m < length regions →
    at < (get_or regions m s).start →
    (i : ℕ) (d : Region) →
    m ≤ i →
    i < length regions →
    at < (get_or regions i d).start
ahead_from regions m at s order h lt i d le within =
    let a = starts_rise regions m i d order le within in let b = start_with regions m s d h in omega arith

-- the place that holds bytes is the last that begins at or below them
place_is_last :
    (purpose : Purpose) (at count : ℕ) (regions : List Region) (n i : ℕ) (d : Region) →
    InOrder regions →
    0 < count →
    BeginBy regions at n →
    place_of purpose at count regions ≡ Some i →
    i + 1 ≡ n
place_is_last purpose at count regions n i d order some begun h =
    let place = place_found purpose at count regions i order h in
    let starts = place.starts d in
    let ends = place.ends d in
    ⊎_elim
    (λ less. ⊎_elim (λ lower. absurd
    (let a = order.apart i (n - 1) d lower (omega (arith, begun.within)) in
    let b = begun.begun (n - 1) d (omega arith) in omega arith)) (λ same. omega arith) (cases_lt i (n - 1)))
    (λ more. absurd (let a = begun.ahead i d more place.within in omega arith))
    (cases_lt i n)

place_by :
    (purpose : Purpose) (at count : ℕ) (regions : List Region) (n i : ℕ) (d : Region) (o : Option ℕ) →
    place_of purpose at count regions ≡ o →
    InOrder regions →
    0 < count →
    BeginBy regions at n →
    i + 1 ≡ n →
    cond (holds purpose at count (range_of (get_or regions i d))) (Some i) None ≡ o
place_by purpose at count regions n i d None h order some begun last =
    let any : list_any (λ r. holds purpose at count (range_of r)) regions ≡ false = any_position _ regions ∙ ap is_some h in
    ap (λ b. cond b (Some i) None) (none_passes (λ r. holds purpose at count (range_of r)) regions i d (omega (arith, begun.within)) any)
place_by purpose at count regions n i d (Some k) h order some begun last =
    let same : k ≡ i = omega (arith, place_is_last purpose at count regions n k d order some begun h) in
    let passes = (position-Some (λ r. holds purpose at count (range_of r)) regions k d h).1 in
    let here : holds purpose at count (range_of (get_or regions i d)) ≡ true = subst
    (λ j. holds purpose at count (range_of (get_or regions j d)) ≡ true) same passes in
    ap (λ b. cond b (Some i) None) here ∙ ap Some (sym same)

-- one test tells the place
pub place_tested :
    (purpose : Purpose) (at count : ℕ) (regions : List Region) (n i : ℕ) (d : Region) (b : Bool) →
    InOrder regions →
    0 < count →
    BeginBy regions at n →
    i + 1 ≡ n →
    b ≡ holds purpose at count (range_of (get_or regions i d)) →
    cond b (Some i) None ≡ place_of purpose at count regions
place_tested purpose at count regions n i d b order some begun last is =
    ap (λ b. cond b (Some i) None) is ∙ place_by purpose at count regions n i d (place_of purpose at count regions)
    refl order some begun last

none_begun :
    (purpose : Purpose) (at count : ℕ) (regions : List Region) (d : Region) (o : Option ℕ) →
    place_of purpose at count regions ≡ o →
    InOrder regions →
    0 < count →
    BeginBy regions at 0 →
    None ≡ o
none_begun purpose at count regions d None h order some begun = refl
none_begun purpose at count regions d (Some k) h order some begun =
    absurd (omega (arith, place_is_last purpose at count regions 0 k d order some begun h))

-- none begins at or below
-- some region, where one is wanted and which is all the same
abbrev pub some_region : Region
some_region = record { start = 0; size = 0; writable = true; executable = true; pages = [] }

pub no_place :
    (purpose : Purpose) (at count : ℕ) (regions : List Region) (d : Region) →
    InOrder regions →
    0 < count →
    BeginBy regions at 0 →
    None ≡ place_of purpose at count regions
no_place purpose at count regions d order some begun =
    none_begun purpose at count regions d (place_of purpose at count regions) refl order some begun

-- whether there is one is what the ranges say
pub allows_is :
    (purpose : Purpose) (at count : ℕ) (regions : List Region) (o : Option ℕ) →
    place_of purpose at count regions ≡ o →
    allows purpose at count (ranges_of regions) ≡ is_some o
allows_is purpose at count regions o h = any_map range_of (holds purpose at count) regions ∙ any_position _ regions ∙ ap is_some h

tail_order : (s : Region) (regions : List Region) → InOrder (s ∷ regions) → InOrder regions
tail_order s regions order = record {
  low = λ i d h. order.low (suc i) d (omega arith);
  apart = λ i j d h k. order.apart (suc i) (suc j) d (omega arith) (omega arith);
  paged = λ i d h. order.paged (suc i) d (omega arith);
}

-- the byte at an address that the region covers
pub byte_there :
    (regions : List Region) (i a : ℕ) (d : Region) →
    InOrder regions →
    i < length regions →
    (get_or regions i d).start ≤ a →
    a < stop_of (get_or regions i d) →
    byte_at regions a ≡ byte_of (get_or regions i d) a
byte_there [] i a d order h from to = absurd (omega arith)
byte_there (s ∷ regions) zero a d order h from to = grind (arith, nat_tests)
byte_there (s ∷ regions) (suc i) a d order h from to =
    let before : stop_of s ≤ (get_or regions i d).start = order.apart 0 (suc i) d (omega arith) h in
    let rest = byte_there regions i a d (tail_order s regions order) (omega arith) from to in
    grind (arith, nat_tests)

-- the bytes that a place has
pub bytes_there :
    (purpose : Purpose) (regions : List Region) (i at n : ℕ) (d : Region) →
    InOrder regions →
    IsPlace purpose at n regions i →
    bytes_from (byte_in (get_or regions i d).pages) (at - base_of (get_or regions i d).start) n ≡ bytes_from (byte_at regions) at n
bytes_there purpose regions i at n d order place =
    let from = place.starts d in
    let to = place.ends d in
    let r = get_or regions i d in
    same_bytes _ _ _ _ n (λ k l.
    let e : at - base_of r.start + k ≡ at + k - base_of r.start = omega arith in
    ap (byte_in r.pages) e ∙ sym (byte_there regions i (at + k) d order place.within (omega arith) (omega arith)))

-- a region whose pages have other bytes
abbrev pub with_pages : Region → List (List ℕ) → Region
with_pages s pages = record { start = s.start; size = s.size; writable = s.writable; executable = s.executable; pages = pages }

-- bytes put into a region's pages are put at their addresses
put_there :
    (s : Region) (pages : List (List ℕ)) (at : ℕ) (bytes : List ℕ) (a : ℕ) →
    s.start ≤ at →
    s.start ≤ a →
    byte_in pages ≡ put (byte_in s.pages) (at - base_of s.start) bytes →
    byte_of (with_pages s pages) a ≡ put (byte_of s) at bytes a
put_there s pages at bytes a from le e =
    put_shifted (byte_in pages) (byte_in s.pages) (byte_of s) (base_of s.start) at a bytes (omega arith) (omega arith)
    (λ k. ap (λ (f : ℕ → ℕ). f k) e) refl

covered :
    (s : Region) (pages : List (List ℕ)) (regions : List Region) (at : ℕ) (bytes : List ℕ) (a : ℕ) →
    s.start ≤ at →
    at + length bytes ≤ stop_of s →
    (s.start ≤ a → byte_of (with_pages s pages) a ≡ put (byte_of s) at bytes a) →
    byte_at (with_pages s pages ∷ regions) a ≡ put (byte_at (s ∷ regions)) at bytes a
covered s pages regions at bytes a from to there =
    ⊎_elim (λ less. grind (arith, nat_tests)) (λ le. let e = there le in grind (arith, nat_tests)) (cases_lt a s.start)

passed :
    (t : Region) (regions : List Region) (at : ℕ) (bytes : List ℕ) (a now : ℕ) →
    stop_of t ≤ at →
    now ≡ put (byte_at regions) at bytes a →
    cond (covers t a) (byte_of t a) now ≡ put (byte_at (t ∷ regions)) at bytes a
passed t regions at bytes a now before e = grind (arith, nat_tests)

kept_tests :
    (first start at n page : ℕ) (b : Bool) →
    first * 0x1000 ≤ start →
    start ≤ at →
    (nat_le first page && (b || meets (span_at (at - first * 0x1000) n) (page - first))) ≡ (nat_le first page && b || meets
    (span_at at n) page)
kept_tests first start at n page b low from =
    ⊎_elim (λ less. grind (arith, nat_tests)) (λ le. grind (arith, nat_tests)) (cases_lt page first)

or_swap : (x m y : Bool) → ((x || m) || y) ≡ ((x || y) || m)
or_swap true m y = refl
or_swap false true true = refl
or_swap false true false = refl
or_swap false false true = refl
or_swap false false false = refl

or_assoc : (x y m : Bool) → (x || (y || m)) ≡ ((x || y) || m)
or_assoc true y m = refl
or_assoc false y m = refl

-- the bytes after a store
pub stored_in :
    (regions : List Region) (i at : ℕ) (bytes : List ℕ) (pages : List (List ℕ)) (s d : Region) →
    InOrder regions →
    i < length regions →
    s ≡ get_or regions i d →
    s.start ≤ at →
    at + length bytes ≤ stop_of s →
    byte_in pages ≡ put (byte_in s.pages) (at - base_of s.start) bytes →
    (a : ℕ) →
    byte_at (slice_set regions i (with_pages s pages)) a ≡ put (byte_at regions) at bytes a
stored_in [] i at bytes pages s d order h is from to e a = absurd (omega arith)
stored_in (t ∷ regions) zero at bytes pages s d order h is from to e a =
    let there : (s.start ≤ a) → byte_of (with_pages s pages) a ≡ put
    (byte_of s) at bytes a = λ le. put_there s pages at bytes a from le e in
    subst (λ u. byte_at (with_pages s pages ∷ regions) a ≡ put (byte_at (u ∷ regions)) at bytes a) is
    (covered s pages regions at bytes a from to there)
stored_in (t ∷ regions) (suc i) at bytes pages s d order h is from to e a =
    let start : s.start ≡ (get_or regions i d).start = ap (λ (r : Region). r.start) is in
    let before : stop_of t ≤ (get_or regions i d).start = order.apart 0 (suc i) d (omega arith) h in
    let rest = stored_in regions i at bytes pages s d (tail_order t regions order) (omega arith) is from to e a in
    passed t regions at bytes a (byte_at (slice_set regions i (with_pages s pages)) a) (omega (arith, start, before, from)) rest

-- the pages that are kept after it
kept_there :
    (s : Region) (pages : List (List ℕ)) (at n page : ℕ) →
    s.start ≤ at →
    kept_in pages ≡ kept_with (kept_in s.pages) (Some (span_at (at - base_of s.start) n)) →
    keeps page (with_pages s pages) ≡ (keeps page s || meets (span_at at n) page)
kept_there s pages at n page from e =
    let now : kept_in pages (page - page_of s.start) ≡ (kept_in s.pages (page - page_of s.start)
    || meets (span_at (at - base_of s.start) n) (page - page_of s.start)) = ap (λ (f : ℕ → Bool). f (page - page_of s.start)) e in
    ap (λ b. nat_le (page_of s.start) page && b) now
    ∙ kept_tests (page_of s.start) s.start at n page (kept_in s.pages (page - page_of s.start)) (omega arith) from

any_set :
    {X : Type 0} (p : X → Bool) (xs : List X) (i : ℕ) (x y d : X) (m : Bool) →
    i < length xs →
    x ≡ get_or xs i d →
    p y ≡ (p x || m) →
    list_any p (slice_set xs i y) ≡ (list_any p xs || m)
any_set p [] i x y d m h is e = absurd (omega arith)
any_set p (z ∷ xs) zero x y d m h is e =
    ap (λ b. b || list_any p xs) (e ∙ ap (λ z. p z || m) is) ∙ or_swap (p z) m (list_any p xs)
any_set p (z ∷ xs) (suc i) x y d m h is e =
    ap (λ b. p z || b) (any_set p xs i x y d m (omega arith) is e) ∙ or_assoc (p z) (list_any p xs) m

-- what the ranges say of a look-up
pub allowed_is :
    (purpose : Purpose) (regions xs : List Region) (at count : ℕ) (o p : Option ℕ) →
    xs ≡ regions →
    o ≡ p →
    o ≡ place_of purpose at count xs →
    is_some p ≡ allows purpose at count (ranges_of regions)
allowed_is purpose regions xs at count o p same is e =
    sym (allows_is purpose at count regions p (subst (λ ys. place_of purpose at count ys ≡ p) same (sym e ∙ is)))

-- what is read, where it may be
abbrev pub read_by : {A : Type 0} → (List ℕ → A) → Purpose → List Region → ℕ → ℕ → ℕ → Option A
read_by f purpose regions at room count =
    cond (allows purpose at room (ranges_of regions)) (Some (f (bytes_from (byte_at regions) at count))) None

pub read_none :
    {A : Type 0} (f : List ℕ → A) (purpose : Purpose) (regions xs : List Region) (at room count : ℕ) (o : Option ℕ) →
    xs ≡ regions →
    o ≡ None →
    o ≡ place_of purpose at room xs →
    None ≡ read_by f purpose regions at room count
read_none f purpose regions xs at room count o same none e =
    ap (λ b. cond b (Some (f (bytes_from (byte_at regions) at count))) None) (allowed_is purpose regions xs at room o None same none e)

fewer :
    (purpose : Purpose) (regions : List Region) (at room count i : ℕ) →
    count ≤ room →
    IsPlace purpose at room regions i →
    IsPlace purpose at count regions i
fewer purpose regions at room count i le place =
    record { within = place.within; starts = place.starts; ends = λ d. omega (arith, place.ends d); low = place.low; paged = place.paged }

pub read_some :
    {A : Type 0} (f : List ℕ → A) (purpose : Purpose) (regions xs : List Region) (at room count : ℕ) (o : Option ℕ)
    (i : ℕ) (v : A) (s : Region) →
    InOrder regions →
    xs ≡ regions →
    o ≡ Some i →
    o ≡ place_of purpose at room xs →
    IsPlace purpose at room xs i →
    s ≡ get_or regions i s →
    count ≤ room →
    v ≡ f (bytes_from (byte_in s.pages) (at - base_of s.start) count) →
    Some v ≡ read_by f purpose regions at room count
read_some f purpose regions xs at room count o i v s order same some e place item le read =
    let place' : IsPlace purpose at room regions i = subst (λ ys. IsPlace purpose at room ys i) same place in
    ap Some (read ∙ ap (λ (t : Region). f (bytes_from (byte_in t.pages) (at - base_of t.start) count)) item
    ∙ ap f (bytes_there purpose regions i at count s order (fewer purpose regions at room count i le place')))
    ∙ ap (λ b. cond b (Some (f (bytes_from (byte_at regions) at count))) None)
    (allowed_is purpose regions xs at room o (Some i) same some e)

-- writes
pub ranges_set :
    (regions : List Region) (i : ℕ) (s s' : Region) →
    s ≡ get_or regions i s →
    range_of s' ≡ range_of s →
    ranges_of (slice_set regions i s') ≡ ranges_of regions
ranges_set regions i s s' item same = map-set_same range_of regions i s' s (same ∙ ap range_of item)

-- how many pages regions have
abbrev pub page_counts : List Region → List ℕ
page_counts regions = map (λ (r : Region). length r.pages) regions

pub order_kept : (xs ys : List Region) → ranges_of xs ≡ ranges_of ys → page_counts xs ≡ page_counts ys → InOrder ys → InOrder xs
order_kept xs ys e p order =
    let long : length xs ≡ length ys = sym (length-map xs range_of) ∙ ap length e ∙ length-map ys range_of in
    let at : (i : ℕ) (d : Region) → range_of (get_or xs i d) ≡ range_of (get_or ys i d) = λ i d. sym
    (get_or-map range_of xs i d) ∙ ap (λ l. get_or l i (range_of d)) e ∙ get_or-map range_of ys i d in
    let count : (i : ℕ) (d : Region) → length (get_or xs i d).pages ≡ length (get_or ys i d).pages = λ i d. sym
    (get_or-map (λ (r : Region). length r.pages) xs i d) ∙ ap (λ l. get_or l i (length d.pages)) p
    ∙ get_or-map (λ (r : Region). length r.pages) ys i d in
    record {
      low = λ i d h. let f = ap (λ (r : Range). r.stop) (at i d) in omega (arith, order.low i d (omega arith));
      apart = λ i j d h k.
          let f = ap (λ (r : Range). r.stop) (at i d) in
          let g = ap (λ (r : Range). r.start) (at j d) in
          omega (arith, order.apart i j d h (omega arith));
      paged = λ i d h.
          let f = ap (λ (r : Range). r.stop) (at i d) in
          let g = ap (λ (r : Range). r.start) (at i d) in
          let n = count i d in
          omega (arith, f, g, n, order.paged i d (omega arith));
    }

-- a write, from what the calls ensure
pub record StoredThere (regions : List Region) (at i : ℕ) (s : Region) (bytes : List ℕ) (pages : List (List ℕ)) : Type 0 where
  pub ranges : ranges_of (slice_set regions i (with_pages s pages)) ≡ ranges_of regions
  pub in_order : InOrder (slice_set regions i (with_pages s pages))
  pub puts : Puts regions (slice_set regions i (with_pages s pages)) at bytes

pub stored :
    (regions xs : List Region) (at room from i : ℕ) (s : Region) (bytes : List ℕ) (pages : List (List ℕ)) →
    InOrder regions →
    xs ≡ regions →
    IsPlace Storing at room xs i →
    s ≡ get_or regions i s →
    length bytes ≤ room →
    from ≡ at - base_of s.start →
    length pages ≡ length s.pages →
    kept_in pages ≡ kept_with (kept_in s.pages) (Some (span_at from (length bytes))) →
    byte_in pages ≡ put (byte_in s.pages) from bytes →
    StoredThere regions at i s bytes pages
stored regions xs at room from i s bytes pages order same place item le is count kept written =
    let place' : IsPlace Storing at room regions i = subst (λ ys. IsPlace Storing at room ys i) same place in
    let start : s.start ≡ (get_or regions i s).start = ap (λ (t : Region). t.start) item in
    let stop : stop_of s ≡ stop_of (get_or regions i s) = ap stop_of item in
    let begins : s.start ≤ at = omega (arith, start, place'.starts s) in
    let ends : at + length bytes ≤ stop_of s = omega (arith, stop, place'.ends s) in
    let ranges = ranges_set regions i s (with_pages s pages) item refl in
    let counts = map-set_same (λ (r : Region). length r.pages) regions i (with_pages s pages) s (count
    ∙ ap (λ (r : Region). length r.pages) item) in
    let written' : byte_in pages ≡ put (byte_in s.pages) (at - base_of s.start) bytes = written
    ∙ ap (λ n. put (byte_in s.pages) n bytes) is in
    let kept' : kept_in pages ≡ kept_with (kept_in s.pages) (Some (span_at (at - base_of s.start) (length bytes))) =
    kept ∙ ap (λ n. kept_with (kept_in s.pages) (Some (span_at n (length bytes)))) is in
    record {
      ranges = ranges;
      in_order = order_kept _ regions ranges counts order;
      puts = record {
        bytes_are = λ j a. stored_in regions i at bytes pages s s order place'.within item begins ends written' a j;
        pages_are = λ j page. any_set (keeps page) regions i s (with_pages s pages) s (meets (span_at at (length bytes)) page)
            place'.within item (kept_there s pages at (length bytes) page begins kept') j;
      };
    }

pub unchanged :
    (regions : List Region) (i : ℕ) (s : Region) (pages : List (List ℕ)) →
    s ≡ get_or regions i s →
    pages ≡ s.pages →
    slice_set regions i (with_pages s pages) ≡ regions
unchanged regions i s pages item same =
    ap (λ p. slice_set regions i (with_pages s p)) same ∙ ap (slice_set regions i) item ∙ set-get_or regions i s
