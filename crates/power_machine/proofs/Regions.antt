-- The regions of an executable's segments and of the stack, and what they stand for.
use Rattle.std.proofs.Common.{◌≡◌, ◌≢◌, ℕ, zero, suc, ◌+◌, ◌-◌, ◌%◌, ◌<◌, ◌≤◌, Bool, true, false, ◌&&◌, ◌||◌, List, [], ◌∷◌, ◌++◌, length, get_or, cond, refl, sym, ap, ◌∙◌, subst, arith, ⊎_elim, append_assoc}
use Rattle.std.specs.Prelude.{IsTrue, ◌↔◌, nat_le, nat_lt, replicate}
use Rattle.std.specs.List.{All, list_any}
use Rattle.std.proofs.lemmas.List.{length-append, places}
use Rattle.std.proofs.lemmas.List.Elements.{All-tail}
use Rattle.std.proofs.lemmas.Bool.{cases_lt}
use Rattle.std.proofs.lemmas.Bool.Decides.{nat_tests}
use Rattle.std.proofs.Math.ListN.{get_or-append}
use Rattle.std.proofs.Math.Seq.{get_or-append_right}
use Rattle.elf64_exec.specs.declared.layout.Segment.{Segment}
use Rattle.elf64_exec.specs.Executable.{end_of, IsSound, ArePlaced}
use Rattle.power_machine.specs.declared.memory.Region.{Region}
use Rattle.power_machine.specs.Memory.{Range, covers, stop_of, base_of, range_of, ranges_of, byte_of, byte_at, put, keeps, keeps_page}
use Rattle.power_machine.specs.Paging.{page_of, page_in, is_kept, byte_in}
use Rattle.power_machine.specs.Numbers.{NumberState}
use Rattle.power_machine.specs.Pages.{HasData}
use Rattle.power_machine.specs.Start.{start_registers, start_state, segment_range, start_ranges, start_byte}
use Rattle.power_machine.specs.inside.Loading.{AreRegionsOf, IsRegionOf, stack}
use Rattle.power_machine.specs.inside.Regions.{InOrder}
use Rattle.power_machine.proofs.Paging.{not_kept, or_true}
use Rattle.power_machine.proofs.Places.{byte_there}

-- a range by its parts
abbrev range_by : ℕ → ℕ → Bool → Bool → Range
range_by start stop writable executable = record { start = start; stop = stop; writable = writable; executable = executable }

range_is : (s : Segment) (r : Region) → IsRegionOf s r → range_of r ≡ segment_range s
range_is s r is =
    ap (λ n. range_by n (n + r.size) r.writable r.executable) is.start
    ∙ ap (λ n. range_by s.address (s.address + n) r.writable r.executable) is.size
    ∙ ap (λ b. range_by s.address (end_of s) b r.executable) is.writable
    ∙ ap (λ b. range_by s.address (end_of s) (segment_range s).writable b) is.executable

pub ranges_start :
    (segments : List Segment) (regions : List Region) →
    AreRegionsOf (segments ++ stack ∷ []) regions →
    ranges_of regions ≡ start_ranges segments
ranges_start [] [] are = absurd are
ranges_start [] (r ∷ []) are = ap (λ t. t ∷ []) (range_is stack r are.0)
ranges_start [] (r ∷ q ∷ regions) are = absurd are.1
ranges_start (s ∷ segments) [] are = absurd are
ranges_start (s ∷ segments) (r ∷ regions) are =
    ap (λ t. t ∷ ranges_of regions) (range_is s r are.0) ∙ ap (λ ts. segment_range s ∷ ts) (ranges_start segments regions are.1)

-- the number 0
abbrev nought : ℕ
nought = 0

nothing_put : (from k : ℕ) → put (λ k. nought) from [] k ≡ nought
nothing_put from k = grind (arith, nat_tests, places)

either_nought : (b : Bool) (x : ℕ) → x ≡ nought → cond b x nought ≡ nought
either_nought true x e = e
either_nought false x e = refl

-- the byte of a segment's region
covers_is : (s : Segment) (r : Region) (a : ℕ) → IsRegionOf s r → covers r a ≡ (nat_le s.address a && nat_lt a (end_of s))
covers_is s r a is =
    ap (λ n. nat_le n a && nat_lt a (n + r.size)) is.start ∙ ap (λ n. nat_le s.address a && nat_lt a (s.address + n)) is.size

put_is :
    (base from a : ℕ) (bytes : List ℕ) →
    base ≤ from →
    from ≤ a →
    put (λ k. 0) (from - base) bytes (a - base) ≡ get_or bytes (a - from) 0
put_is base from a bytes low le = let e : a - base - (from - base) ≡ a - from = omega arith in grind (arith, nat_tests, places)

byte_is :
    (s : Segment) (r : Region) (a : ℕ) →
    IsRegionOf s r →
    s.address ≤ a →
    byte_of r a ≡ get_or s.bytes (a - s.address) 0
byte_is s r a is le =
    ap (λ n. byte_in r.pages (a - base_of n)) is.start
    ∙ ap (λ (f : ℕ → ℕ). f (a - base_of s.address)) is.bytes
    ∙ put_is (base_of s.address) s.address a s.bytes (omega arith) le

under : (b : Bool) (from a stop x y rest : ℕ) → (nat_le from a && nat_lt a stop) ≡ b → (from ≤ a → x ≡ y) → cond b x rest ≡ cond b y rest
under true from a stop x y rest e h = h (grind (arith, nat_tests))
under false from a stop x y rest e h = refl

pub byte_start :
    (segments : List Segment) (regions : List Region) →
    AreRegionsOf (segments ++ stack ∷ []) regions →
    (a : ℕ) →
    byte_at regions a ≡ start_byte segments a
byte_start [] [] are a = absurd are
byte_start [] (r ∷ []) are a =
    either_nought (covers r a) (byte_of r a) (ap (λ (f : ℕ → ℕ). f (a - base_of r.start)) are.0.bytes
    ∙ nothing_put (stack.address - base_of stack.address) (a - base_of r.start))
byte_start [] (r ∷ q ∷ regions) are a = absurd are.1
byte_start (s ∷ segments) [] are a = absurd are
byte_start (s ∷ segments) (r ∷ regions) are a =
    let in_it = nat_le s.address a && nat_lt a (end_of s) in
    ap (λ b. cond b (byte_of r a) (byte_at regions a)) (covers_is s r a are.0)
    ∙ under in_it s.address a (end_of s) (byte_of r a) (get_or s.bytes (a - s.address) 0) (byte_at regions a) refl (byte_is s r a are.0)
    ∙ ap (λ x. cond in_it (get_or s.bytes (a - s.address) 0) x) (byte_start segments regions are.1 a)

-- the region with an index is that of the segment with it
empty : Segment
empty = record { flags = 0; address = 0; bytes = []; size = 0 }

region_there :
    (segments : List Segment) (regions : List Region) (i : ℕ) (d : Region) →
    AreRegionsOf segments regions →
    i < length regions →
    IsRegionOf (get_or segments i empty) (get_or regions i d)
region_there [] [] i d are h = absurd (omega arith)
region_there [] (r ∷ regions) i d are h = absurd are
region_there (s ∷ segments) [] i d are h = absurd are
region_there (s ∷ segments) (r ∷ regions) zero d are h = are.0
region_there (s ∷ segments) (r ∷ regions) (suc i) d are h = region_there segments regions i d are.1 (omega arith)

same_count : (segments : List Segment) (regions : List Region) → AreRegionsOf segments regions → length regions ≡ length segments
same_count [] [] are = refl
same_count [] (r ∷ regions) are = absurd are
same_count (s ∷ segments) [] are = absurd are
same_count (s ∷ segments) (r ∷ regions) are = let rest = same_count segments regions are.1 in omega (arith, rest)

at_segment : (xs : List Segment) (i : ℕ) → i < length xs → get_or (xs ++ stack ∷ []) i empty ≡ get_or xs i empty
at_segment xs i h = get_or-append xs (stack ∷ []) empty i h

at_stack : (xs : List Segment) (i : ℕ) → i ≡ length xs → get_or (xs ++ stack ∷ []) i empty ≡ stack
at_stack xs i e =
    let at : length xs ≤ i = omega arith in
    let none : i - length xs ≡ 0 = omega arith in
    get_or-append_right xs (stack ∷ []) i empty at ∙ ap (λ k. get_or (stack ∷ []) k empty) none

count_is : (xs : List Segment) → length (xs ++ stack ∷ []) ≡ length xs + 1
count_is xs = length-append xs (stack ∷ [])

-- where the regions end, and where they begin
ends_low : (xs : List Segment) (i : ℕ) → ArePlaced xs → i < length xs + 1 → end_of (get_or (xs ++ stack ∷ []) i empty) ≤ 0x80000000
ends_low xs i placed h =
    ⊎_elim
    (λ less. let e = ap end_of (at_segment xs i less) in omega (arith, e, (placed.sound i empty less).below))
    (λ most. let same : i ≡ length xs = omega arith in let e = ap end_of (at_stack xs i same) in omega (arith, e))
    (cases_lt i (length xs))

ends_before :
    (xs : List Segment) (i j : ℕ) →
    ArePlaced xs →
    i < j →
    j < length xs + 1 →
    end_of (get_or (xs ++ stack ∷ []) i empty) ≤ (get_or (xs ++ stack ∷ []) j empty).address
ends_before xs i j placed h k =
    let within : i < length xs = omega arith in
    let e = ap end_of (at_segment xs i within) in
    ⊎_elim
    (λ less. let f = ap (λ (s : Segment). s.address) (at_segment xs j less) in omega (arith, e, f, placed.apart i j empty h less))
    (λ most. let same : j ≡ length xs = omega arith in
    let f = ap (λ (s : Segment). s.address) (at_stack xs j same) in omega (arith, e, f, (placed.sound i empty within).below))
    (cases_lt j (length xs))

pub regions_in_order : (xs : List Segment) (regions : List Region) → ArePlaced xs →
    AreRegionsOf (xs ++ stack ∷ []) regions → InOrder regions
regions_in_order xs regions placed are =
    let all = xs ++ stack ∷ [] in
    let count : length regions ≡ length xs + 1 = same_count all regions are ∙ count_is xs in
    let stop : (i : ℕ) (d : Region) → i < length regions → stop_of (get_or regions i d) ≡ end_of (get_or all i empty) = λ i d h.
    (let r = region_there all regions i d are h in omega (arith, r.start, r.size)) in
    record {
      low = λ i d h. (let e = stop i d h in let l = ends_low xs i placed (omega (arith, count, h)) in omega (arith, e, l));
      apart = λ i j d h k.
          (let e = stop i d (omega arith) in
          let r = region_there all regions j d are k in
          let b = ends_before xs i j placed h (omega (arith, count, k)) in
          omega (arith, e, b, r.start));
      paged = λ i d h. (region_there all regions i d are h).paged;
    }

-- one segment more
pub regions_more :
    (all rest rest' : List Segment) (done done' : List Region) (s : Segment) (r : Region) →
    rest ≡ s ∷ rest' →
    done' ≡ done ++ r ∷ [] →
    IsRegionOf s r →
    ((more : List Region) → AreRegionsOf (rest ++ stack ∷ []) more → AreRegionsOf (all ++ stack ∷ []) (done ++ more)) →
    (more : List Region) →
    AreRegionsOf (rest' ++ stack ∷ []) more →
    AreRegionsOf (all ++ stack ∷ []) (done' ++ more)
regions_more all rest rest' done done' s r e f is so_far more are =
    let there : AreRegionsOf (rest ++ stack ∷ []) (r ∷ more) = subst (λ xs. AreRegionsOf (xs ++ stack ∷ []) (r ∷ more)) (sym e) (is, are) in
    subst (AreRegionsOf (all ++ stack ∷ [])) (sym (ap (λ xs. xs ++ more) f ∙ append_assoc done (r ∷ []) more)) (so_far (r ∷ more) there)

pub sound_more : (s : Segment) (rest rest' : List Segment) → rest ≡ s ∷ rest' → All IsSound rest → All IsSound rest'
sound_more s rest rest' e h = All-tail IsSound s rest' (subst (All IsSound) e h)

-- the state on those regions
abbrev pub loaded : ℕ → (ℕ → ℕ) → NumberState
loaded entry byte = record { at = entry; registers = start_registers entry; condition = replicate 32 false; byte = byte }

pub state_start :
    (entry : ℕ) (segments : List Segment) (regions : List Region) →
    AreRegionsOf (segments ++ stack ∷ []) regions →
    loaded entry (byte_at regions) ≡ start_state entry segments
state_start entry segments regions are = ap (loaded entry) (λ j a. byte_start segments regions are a j)

-- a byte that isn't zero has a page that is kept
zero_or_kept : (pages : List (List ℕ)) (k : ℕ) (b : Bool) → is_kept (page_in pages (page_of k)) ≡ b → byte_in pages k ≢ 0 → b ≡ true
zero_or_kept pages k true e some = refl
zero_or_kept pages k false e some = absurd (some (ap (λ p. get_or p (k % 0x1000) 0) (not_kept (page_in pages (page_of k)) e)))

first_test : (start a : ℕ) → start ≤ a → nat_le (page_of start) (page_of a) ≡ true
first_test start a le = let e : page_of start ≤ page_of a = omega arith in grind (arith, nat_tests)

kept_here : (r : Region) (a : ℕ) → r.start ≤ a → byte_of r a ≢ 0 → keeps (page_of a) r ≡ true
kept_here r a le some =
    let k = a - base_of r.start in
    let same : page_of k ≡ page_of a - page_of r.start = omega arith in
    let first : nat_le (page_of r.start) (page_of a) ≡ true = first_test r.start a le in
    ap (λ b. b && is_kept (page_in r.pages (page_of a - page_of r.start))) first
    ∙ ap (λ i. is_kept (page_in r.pages i)) (sym same)
    ∙ zero_or_kept r.pages k (is_kept (page_in r.pages (page_of k))) refl some

data_either :
    (r : Region) (regions : List Region) (a : ℕ) (b : Bool) →
    covers r a ≡ b →
    cond b (byte_of r a) (byte_at regions a) ≢ 0 →
    (byte_at regions a ≢ 0 → keeps_page regions (page_of a) ≡ true) →
    keeps_page (r ∷ regions) (page_of a) ≡ true
data_either r regions a true e some rest =
    ap (λ t. t || keeps_page regions (page_of a)) (kept_here r a (grind (arith, nat_tests)) some)
data_either r regions a false e some rest = ap (λ t. keeps (page_of a) r || t) (rest some) ∙ or_true (keeps (page_of a) r)

pub data_kept : (regions : List Region) (a : ℕ) → byte_at regions a ≢ 0 → keeps_page regions (page_of a) ≡ true
data_kept [] a some = absurd (some refl)
data_kept (r ∷ regions) a some = data_either r regions a (covers r a) refl some (data_kept regions a)

-- and a page that is kept has one
record SomeAt {X : Type 0} (p : X → Bool) (xs : List X) (d : X) : Type 0 where
  index : ℕ
  within : index < length xs
  passes : p (get_or xs index d) ≡ true

at_least : (n m : ℕ) → nat_le n m ≡ true → n ≤ m
at_least n m h = grind (arith, nat_tests)

any_there : {X : Type 0} (p : X → Bool) (x : X) (xs : List X) (d : X) (b : Bool) → p x ≡ b → (b || list_any p xs) ≡ true →
    (list_any p xs ≡ true → SomeAt p xs d) → SomeAt p (x ∷ xs) d
any_there p x xs d true e h rest = record { index = 0; within = omega arith; passes = e }
any_there p x xs d false e h rest =
    let r : SomeAt p xs d = rest h in record { index = suc r.index; within = omega (arith, r.within); passes = r.passes }

any_some : {X : Type 0} (p : X → Bool) (xs : List X) (d : X) → list_any p xs ≡ true → SomeAt p xs d
any_some p [] d h = cc
any_some p (x ∷ xs) d h = any_there p x xs d (p x) refl h (any_some p xs d)

and_parts : (b c : Bool) → (b && c) ≡ true → (b ≡ true) × (c ≡ true)
and_parts true c h = (refl, h)
and_parts false c h = cc

put_inside : (from k : ℕ) (bytes : List ℕ) (b : Bool) → (nat_le from k && nat_lt k (from + length bytes)) ≡ b →
    put (λ k. 0) from bytes k ≢ 0 →
    (from ≤ k) × (k < from + length bytes)
put_inside from k bytes true e some = grind (arith, nat_tests)
put_inside from k bytes false e some = absurd (some (ap (λ t. cond t (get_or bytes (k - from) 0) 0) e))

held_there : (xs : List Segment) (i : ℕ) → ArePlaced xs → i < length xs + 1 →
    length (get_or (xs ++ stack ∷ []) i empty).bytes ≤ (get_or (xs ++ stack ∷ []) i empty).size
held_there xs i placed h =
    ⊎_elim
    (λ less. let e = ap (λ (s : Segment). length s.bytes) (at_segment xs i less) in
    let f = ap (λ (s : Segment). s.size) (at_segment xs i less) in
    omega (arith, e, f, (placed.sound i empty less).held))
    (λ most. let same : i ≡ length xs = omega arith in
    let e = ap (λ (s : Segment). length s.bytes) (at_stack xs i same) in omega (arith, e))
    (cases_lt i (length xs))

nowhere : Region
nowhere = record { start = 0; size = 0; writable = false; executable = false; pages = [] }

pub kept_data :
    (segments : List Segment) (regions : List Region) (page : ℕ) →
    ArePlaced segments →
    AreRegionsOf (segments ++ stack ∷ []) regions →
    keeps_page regions page ≡ true →
    HasData segments page
kept_data segments regions page placed are kept =
    let all = segments ++ stack ∷ [] in
    let any : SomeAt (keeps page) regions nowhere = any_some (keeps page) regions nowhere kept in
    let r = get_or regions any.index nowhere in
    let s = get_or all any.index empty in
    let is : IsRegionOf s r = region_there all regions any.index nowhere are any.within in
    let count : length regions ≡ length segments + 1 = same_count all regions are ∙ count_is segments in
    let held : length s.bytes ≤ s.size = held_there segments any.index placed (omega (arith, count, any.within)) in
    let parts = and_parts (nat_le (page_of r.start) page) (is_kept (page_in r.pages (page - page_of r.start))) any.passes in
    let first : page_of r.start ≤ page = at_least (page_of r.start) page parts.0 in
    let t = is.tight (page - page_of r.start) parts.1 in
    let there : byte_in r.pages t.0 ≡ put (λ k. 0) (s.address - base_of s.address) s.bytes t.0 = ap (λ (f : ℕ → ℕ). f t.0) is.bytes in
    let in_it = put_inside (s.address - base_of s.address) t.0 s.bytes _ refl (λ z. t.2 (there ∙ z)) in
    let a = base_of r.start + t.0 in
    let same : page_of a ≡ page = omega (arith, first, t.1) in
    let back : a - base_of r.start ≡ t.0 = omega arith in
    let from : r.start ≤ a = omega (arith, is.start, in_it.0) in
    let to : a < stop_of r = omega (arith, is.start, is.size, in_it.1, held) in
    let byte : byte_at regions a ≡ byte_in r.pages t.0 =
    byte_there regions any.index a nowhere (regions_in_order segments regions placed are) any.within from to
    ∙ ap (byte_in r.pages) back in
    (a, same, λ z. t.2 (sym byte ∙ byte_start segments regions are a ∙ z))

-- so the pages that are kept are those with data
pub pages_start :
    (segments : List Segment) (regions : List Region) →
    ArePlaced segments →
    AreRegionsOf (segments ++ stack ∷ []) regions →
    (page : ℕ) →
    IsTrue (keeps_page regions page) ↔ HasData segments page
pages_start segments regions placed are page = (
  λ kept. kept_data segments regions page placed are kept,
  λ has. ap (keeps_page regions) (sym has.1) ∙ data_kept regions has.0 (λ z. has.2 (sym (byte_start segments regions are has.0) ∙ z)),
)
