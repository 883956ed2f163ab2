-- Bytes that are put into memory.
use Rattle.std.proofs.Common.{ℕ, ◌≡◌, ◌<◌, ◌≤◌, ◌+◌, ◌-◌, inl, inr, Bool, true, false, nat_lt, List, ◌++◌, length, take, drop, get_or, ap, sym, subst, ◌∙◌, refl, arith, if◌then◌else◌}
use Rattle.std.proofs.Common.{Vec, Global}
use Rattle.std.specs.Vec.{with_items}
use Rattle.std.proofs.lemmas.List.{with_items_is}
use Rattle.std.proofs.lemmas.Bool.{cases_lt}
use Rattle.std.proofs.lemmas.Bool.Decides.{nat_tests}
use Rattle.std.proofs.lemmas.List.{get_or_append_left, get_or-append_right, get_or-drop, get_or-take, length-take-le}
use Rattle.elf64_exec.specs.declared.memory_map.TheConstants.{IMAGE_START}
use Rattle.placed_bytes.specs.Patches.{Patch, patched, end_of}
use Rattle.placed_bytes.specs.laws.Patched.{length-patched}
use Rattle.toc_groups.specs.declared.pieces.DataEnds.{DataEnds}
use Rattle.toc_groups.specs.Contents.{bytes_between}
use Rattle.toc_groups.proofs.Planning.{same_list}
use Rattle.toc_groups.specs.inside.Memory.{TwoParts, IsShaped, byte_of, HasRange, Puts}

-- ---- a list with a patch

patch_before : (b : List ℕ) (p : Patch) (i : ℕ) → end_of p ≤ length b → i < p.at → get_or (patched b p) i 0 ≡ get_or b i 0
patch_before b p i room before =
    let front = length-take-le p.at b (omega (arith, room)) in
    get_or_append_left (take p.at b) (p.bytes ++ drop (end_of p) b) 0 i (omega (arith, front, before))
    ∙ get_or-take p.at b i 0 before

patch_from : (b : List ℕ) (p : Patch) (i : ℕ) → end_of p ≤ length b → p.at ≤ i →
    get_or (patched b p) i 0 ≡ get_or (p.bytes ++ drop (end_of p) b) (i - p.at) 0
patch_from b p i room from =
    let front = length-take-le p.at b (omega (arith, room)) in
    get_or-append_right (take p.at b) (p.bytes ++ drop (end_of p) b) p.at i 0 front from

patch_in : (b : List ℕ) (p : Patch) (k : ℕ) → end_of p ≤ length b → k < length p.bytes →
    get_or (patched b p) (p.at + k) 0 ≡ get_or p.bytes k 0
patch_in b p k room within =
    let e : p.at + k - p.at ≡ k = omega arith in
    patch_from b p (p.at + k) room (omega arith) ∙ ap (λ (i : ℕ). get_or (p.bytes ++ drop (end_of p) b) i 0) e
    ∙ get_or_append_left p.bytes (drop (end_of p) b) 0 k within

patch_after : (b : List ℕ) (p : Patch) (i : ℕ) → end_of p ≤ length b → end_of p ≤ i → get_or (patched b p) i 0 ≡ get_or b i 0
patch_after b p i room after =
    let e : end_of p + (i - p.at - length p.bytes) ≡ i = omega (arith, after) in
    patch_from b p i room (omega (arith, after))
    ∙ get_or-append_right p.bytes (drop (end_of p) b) (length p.bytes) (i - p.at) 0 refl (omega (arith, after))
    ∙ get_or-drop (end_of p) b (i - p.at - length p.bytes) 0 ∙ ap (λ (j : ℕ). get_or b j 0) e

patch_beside : (b : List ℕ) (p : Patch) (i : ℕ) → end_of p ≤ length b → ((p.at ≤ i) → (i < end_of p) → ⊥) →
    get_or (patched b p) i 0 ≡ get_or b i 0
patch_beside b p i room beside = elim (cases_lt i p.at) [
  | inl before ↦ patch_before b p i room before
  | inr from ↦ elim (cases_lt i (end_of p)) [
    | inl within ↦ absurd (beside from within)
    | inr after ↦ patch_after b p i room after
  ]
]

-- ---- an address in one of the two parts

byte_below : (m : TwoParts) (a : ℕ) → a < IMAGE_START → byte_of m a ≡ 0
unfolding byte_of
byte_below m a low =
    let test : nat_lt a IMAGE_START ≡ true = grind (arith, nat_tests, low) in
    ap (λ (t : Bool). if t then 0 else (if nat_lt a m.ends.writable_start then get_or m.read_only (a - IMAGE_START) 0
    else get_or m.writable (a - m.ends.writable_start) 0)) test

byte_first : (m : TwoParts) (a : ℕ) → IMAGE_START ≤ a → a < m.ends.writable_start → byte_of m a ≡ get_or m.read_only (a - IMAGE_START) 0
unfolding byte_of
byte_first m a from below =
    let test : nat_lt a IMAGE_START ≡ false = grind (arith, nat_tests, from) in
    let other : nat_lt a m.ends.writable_start ≡ true = grind (arith, nat_tests, below) in
    ap (λ (t : Bool). if t then 0 else (if nat_lt a m.ends.writable_start then get_or m.read_only (a - IMAGE_START) 0
    else get_or m.writable (a - m.ends.writable_start) 0)) test
    ∙ ap (λ (t : Bool). if t then get_or m.read_only (a - IMAGE_START) 0 else get_or m.writable (a - m.ends.writable_start) 0) other

byte_second : (m : TwoParts) (a : ℕ) → IMAGE_START ≤ a → m.ends.writable_start ≤ a →
    byte_of m a ≡ get_or m.writable (a - m.ends.writable_start) 0
unfolding byte_of
byte_second m a from after =
    let test : nat_lt a IMAGE_START ≡ false = grind (arith, nat_tests, from) in
    let other : nat_lt a m.ends.writable_start ≡ false = grind (arith, nat_tests, after) in
    ap (λ (t : Bool). if t then 0 else (if nat_lt a m.ends.writable_start then get_or m.read_only (a - IMAGE_START) 0
    else get_or m.writable (a - m.ends.writable_start) 0)) test
    ∙ ap (λ (t : Bool). if t then get_or m.read_only (a - IMAGE_START) 0 else get_or m.writable (a - m.ends.writable_start) 0) other

abbrev parts : DataEnds → List ℕ → List ℕ → TwoParts
parts ends first second = record { ends = ends; read_only = first; writable = second }

-- zeros
pub all_zero : (ends : DataEnds) (first second : List ℕ) → IMAGE_START ≤ ends.writable_start → ((k : ℕ) → get_or first k 0 ≡ 0) →
    ((k : ℕ) → get_or second k 0 ≡ 0) → (a : ℕ) → byte_of (parts ends first second) a ≡ 0
all_zero ends first second order none none_too a = elim (cases_lt a IMAGE_START) [
  | inl low ↦ byte_below (parts ends first second) a low
  | inr from ↦ elim (cases_lt a ends.writable_start) [
    | inl below ↦ byte_first (parts ends first second) a from below ∙ none (a - IMAGE_START)
    | inr after ↦ byte_second (parts ends first second) a from after ∙ none_too (a - ends.writable_start)
  ]
]

-- bytes put into the first part
pub puts_first : (ends : DataEnds) (first second : List ℕ) (at i : ℕ) (bytes : List ℕ) → IsShaped ends first second →
    at < ends.writable_start → 0 < length bytes → HasRange ends at (length bytes) → i ≡ at - IMAGE_START →
    Puts (byte_of (parts ends first second)) at bytes (byte_of (parts ends (patched first (record { at = i; bytes = bytes })) second))
puts_first ends first second at i bytes shaped low some (inr over) is = absurd (omega (arith, low, over.0))
puts_first ends first second at i bytes shaped low some (inl room) is =
    let p : Patch = record { at = i; bytes = bytes } in
    let old = parts ends first second in
    let new = parts ends (patched first p) second in
    let fits : end_of p ≤ length first = omega (arith, is, room.0, room.1, shaped.read_only_size) in
    record {
      inside = λ k within.
          let e : at + k - IMAGE_START ≡ i + k = omega (arith, is, room.0) in
          byte_first new (at + k) (omega (arith, room.0)) (omega (arith, room.1, within, shaped.order))
          ∙ ap (λ (j : ℕ). get_or (patched first p) j 0) e ∙ patch_in first p k fits within;
      outside = λ a beside. elim (cases_lt a IMAGE_START) [
        | inl below ↦ byte_below new a below ∙ sym (byte_below old a below)
        | inr from ↦ elim (cases_lt a ends.writable_start) [
          | inl before ↦ byte_first new a from before
              ∙ patch_beside first p (a - IMAGE_START) fits (λ least most.
              beside (record { from = omega (arith, least, is, from, room.0); below = omega (arith, most, is, from, room.0) }))
              ∙ sym (byte_first old a from before)
          | inr after ↦ byte_second new a from after ∙ sym (byte_second old a from after)
        ]
      ];
    }

pub puts_second : (ends : DataEnds) (first second : List ℕ) (at i : ℕ) (bytes : List ℕ) → IsShaped ends first second →
    ends.writable_start ≤ at → 0 < length bytes → HasRange ends at (length bytes) → i ≡ at - ends.writable_start →
    Puts (byte_of (parts ends first second)) at bytes (byte_of (parts ends first (patched second (record { at = i; bytes = bytes }))))
puts_second ends first second at i bytes shaped high some (inl over) is = absurd (omega (arith, high, over.1, shaped.order, some))
puts_second ends first second at i bytes shaped high some (inr room) is =
    let p : Patch = record { at = i; bytes = bytes } in
    let old = parts ends first second in
    let new = parts ends first (patched second p) in
    let start : IMAGE_START ≤ ends.writable_start = omega (arith, shaped.read_only_size, shaped.order) in
    let fits : end_of p ≤ length second = omega (arith, is, room.0, room.1, shaped.writable_size) in
    record {
      inside = λ k within.
          let e : at + k - ends.writable_start ≡ i + k = omega (arith, is, room.0) in
          byte_second new (at + k) (omega (arith, start, high)) (omega (arith, high))
          ∙ ap (λ (j : ℕ). get_or (patched second p) j 0) e ∙ patch_in second p k fits within;
      outside = λ a beside. elim (cases_lt a IMAGE_START) [
        | inl below ↦ byte_below new a below ∙ sym (byte_below old a below)
        | inr from ↦ elim (cases_lt a ends.writable_start) [
          | inl before ↦ byte_first new a from before ∙ sym (byte_first old a from before)
          | inr after ↦ byte_second new a from after
              ∙ patch_beside second p (a - ends.writable_start) fits (λ least most.
              beside (record { from = omega (arith, least, is, after, room.0); below = omega (arith, most, is, after, room.0) }))
              ∙ sym (byte_second old a from after)
        ]
      ];
    }

-- the shape stays
pub shaped_first : (ends : DataEnds) (first second : List ℕ) (i : ℕ) (bytes : List ℕ) → IsShaped ends first second →
    i + length bytes ≤ length first →
    IsShaped ends (patched first (record { at = i; bytes = bytes })) second
shaped_first ends first second i bytes shaped room = record {
  read_only_size = omega (arith, shaped.read_only_size, length-patched first (record { at = i; bytes = bytes }) room);
  writable_size = shaped.writable_size;
  order = shaped.order;
  limit = shaped.limit;
}

pub shaped_second : (ends : DataEnds) (first second : List ℕ) (i : ℕ) (bytes : List ℕ) → IsShaped ends first second →
    i + length bytes ≤ length second →
    IsShaped ends first (patched second (record { at = i; bytes = bytes }))
shaped_second ends first second i bytes shaped room = record {
  read_only_size = shaped.read_only_size;
  writable_size = omega (arith, shaped.writable_size, length-patched second (record { at = i; bytes = bytes }) room);
  order = shaped.order;
  limit = shaped.limit;
}

pub room_first : (ends : DataEnds) (first second : List ℕ) (at i n : ℕ) → IsShaped ends first second → at < ends.writable_start →
    HasRange ends at n → i ≡ at - IMAGE_START → i + n ≤ length first
room_first ends first second at i n shaped low (inl room) is = omega (arith, is, room.0, room.1, shaped.read_only_size)
room_first ends first second at i n shaped low (inr room) is = absurd (omega (arith, low, room.0))

pub room_second : (ends : DataEnds) (first second : List ℕ) (at i n : ℕ) → IsShaped ends first second → ends.writable_start ≤ at → 0 < n →
    HasRange ends at n → i ≡ at - ends.writable_start → i + n ≤ length second
room_second ends first second at i n shaped high some (inl room) is = absurd (omega (arith, high, room.1, shaped.order, some))
room_second ends first second at i n shaped high some (inr room) is = omega (arith, is, room.0, room.1, shaped.writable_size)

pub least_first : (ends : DataEnds) (first second : List ℕ) (at n : ℕ) → IsShaped ends first second → HasRange ends at n → IMAGE_START ≤ at
least_first ends first second at n shaped (inl room) = room.0
least_first ends first second at n shaped (inr room) = omega (arith, shaped.read_only_size, shaped.order, room.0)

-- ---- what the calls come to

pub wrote_first : (m : TwoParts) (ends : DataEnds) (first second : Vec ℕ Global) (b new bytes : List ℕ) (at i : ℕ) →
    parts ends first.items second.items ≡ m → IsShaped ends first.items second.items → at < ends.writable_start → 0 < length bytes →
    HasRange m.ends at (length bytes) → i ≡ at - IMAGE_START → b ≡ first.items → new ≡ patched b (record { at = i; bytes = bytes }) →
    Puts (byte_of m) at bytes (byte_of (parts ends (with_items first new).items second.items))
wrote_first m ends first second b new bytes at i view shaped low some room is read wrote =
    let p : Patch = record { at = i; bytes = bytes } in
    let range : HasRange ends at (length bytes) = subst (λ (n : TwoParts). HasRange n.ends at (length bytes)) (sym view) room in
    let inside = room_first ends first.items second.items at i (length bytes) shaped low range is in
    let there : new ≡ patched first.items p = wrote ∙ ap (λ (l : List ℕ). patched l p) read in
    let long : length new ≡ first.len = omega (arith, ap length there, length-patched first.items p inside, first.ok.0) in
    let items : (with_items first new).items ≡ patched first.items p = with_items_is first new long ∙ there in
    subst (λ (n : TwoParts). Puts (byte_of n) at bytes (byte_of (parts ends (with_items first new).items second.items))) view
    (subst (λ (l : List ℕ). Puts (byte_of (parts ends first.items second.items)) at bytes (byte_of (parts ends l second.items))) (sym items)
    (puts_first ends first.items second.items at i bytes shaped low some range is))

pub wrote_second : (m : TwoParts) (ends : DataEnds) (first second : Vec ℕ Global) (b new bytes : List ℕ) (at i : ℕ) →
    parts ends first.items second.items ≡ m → IsShaped ends first.items second.items → ends.writable_start ≤ at → 0 < length bytes →
    HasRange m.ends at (length bytes) → i ≡ at - ends.writable_start → b ≡ second.items →
    new ≡ patched b (record { at = i; bytes = bytes }) →
    Puts (byte_of m) at bytes (byte_of (parts ends first.items (with_items second new).items))
wrote_second m ends first second b new bytes at i view shaped high some room is read wrote =
    let p : Patch = record { at = i; bytes = bytes } in
    let range : HasRange ends at (length bytes) = subst (λ (n : TwoParts). HasRange n.ends at (length bytes)) (sym view) room in
    let inside = room_second ends first.items second.items at i (length bytes) shaped high some range is in
    let there : new ≡ patched second.items p = wrote ∙ ap (λ (l : List ℕ). patched l p) read in
    let long : length new ≡ second.len = omega (arith, ap length there, length-patched second.items p inside, second.ok.0) in
    let items : (with_items second new).items ≡ patched second.items p = with_items_is second new long ∙ there in
    subst (λ (n : TwoParts). Puts (byte_of n) at bytes (byte_of (parts ends first.items (with_items second new).items))) view
    (subst (λ (l : List ℕ). Puts (byte_of (parts ends first.items second.items)) at bytes (byte_of (parts ends first.items l))) (sym items)
    (puts_second ends first.items second.items at i bytes shaped high some range is))

-- ---- the bytes of both parts

pub between_first : (ends : DataEnds) (first second : List ℕ) → IsShaped ends first second →
    first ≡ bytes_between (byte_of (parts ends first second)) IMAGE_START ends.read_only
between_first ends first second shaped =
    let m = parts ends first second in
    same_list (byte_of m) 0 first IMAGE_START (ends.read_only - IMAGE_START) (omega (arith, shaped.read_only_size)) (λ i within.
    let e : IMAGE_START + i - IMAGE_START ≡ i = omega arith in
    sym (byte_first m (IMAGE_START + i) (omega arith) (omega (arith, within, shaped.read_only_size, shaped.order))
    ∙ ap (λ (j : ℕ). get_or first j 0) e))

pub between_second : (ends : DataEnds) (first second : List ℕ) → IsShaped ends first second →
    second ≡ bytes_between (byte_of (parts ends first second)) ends.writable_start ends.writable
between_second ends first second shaped =
    let m = parts ends first second in
    same_list (byte_of m) 0 second ends.writable_start (ends.writable - ends.writable_start) (omega (arith, shaped.writable_size))
    (λ i within.
    let e : ends.writable_start + i - ends.writable_start ≡ i = omega arith in
    sym (byte_second m (ends.writable_start + i) (omega (arith, shaped.read_only_size, shaped.order)) (omega arith)
    ∙ ap (λ (j : ℕ). get_or second j 0) e))
