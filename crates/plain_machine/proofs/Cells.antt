-- Cells of memory: numbers, and what isn't one over them.
use Rattle.std.proofs.Common.{◌≡◌, ◌⊎◌, inl, inr, ℕ, zero, suc, ◌+◌, ◌-◌, ◌<◌, ◌≤◌, Bool, true, false, not, ◌&&◌, ◌||◌, cond, List, [], ◌∷◌, length, map, drop, Some, None, refl, sym, ap, ◌∙◌, arith}
use Rattle.std.specs.Prelude.{◌==◌, nat_le, nat_lt, slice_index_or}
use Rattle.std.specs.List.{list_any}
use Rattle.std.proofs.lemmas.Bool.Decides.{nat_tests}
use Rattle.power_machine.specs.declared.memory.Purpose.{Purpose}
use Rattle.power_machine.specs.declared.memory.Region.{Region}
use Rattle.power_machine.specs.Bytes.{spelled}
use Rattle.power_machine.specs.Calls.{with_number}
use Rattle.power_machine.specs.declared.memory.Purpose.TheVariants.{Loading, Storing}
use Rattle.power_machine.specs.Memory.{Range, permits, holds, allows, allows_range, within, ranges_of, range_of, stop_of, byte_at, bytes_from, put}
use Rattle.plain_machine.specs.declared.kept.AddressRange.{AddressRange}
use Rattle.plain_machine.specs.Actions.{guarded, meets}
use Rattle.power_machine.specs.inside.Regions.{InOrder, range_read}
use Rattle.plain_machine.specs.declared.value.Cell.{Cell}
use Rattle.plain_machine.specs.declared.value.Cell.TheVariants as cell
use Rattle.plain_machine.specs.Plain.{cell_number, cell_numbers}
use Rattle.plain_machine.specs.inside.Memory.{told, are_special}
use Rattle.plain_machine.specs.inside.Others.{is_number, are_numbers}
use Rattle.plain_machine.proofs.Numbered.{each_number}
use Rattle.plain_machine.specs.Values.{same_cell, same_cells}

-- what is allowed lies below 2^31
pub both_true : (a b : Bool) → (a && b) ≡ true → (a ≡ true) × (b ≡ true)
both_true true true h = (refl, refl)
both_true true false h = cc
both_true false b h = cc

either : (a b : Bool) → (a || b) ≡ true → (a ≡ true) ⊎ (b ≡ true)
either true b h = inl refl
either false b h = inr h

below_stop : (purpose : Purpose) (at count : ℕ) (r : Range) → holds purpose at count r ≡ true → at + count ≤ r.stop
below_stop purpose at count r h =
    let front = both_true (nat_le r.start at && nat_le (at + count) r.stop) (permits purpose r) h in
    let ends = both_true (nat_le r.start at) (nat_le (at + count) r.stop) front.0 in
    let e = ends.1 in
    grind (arith, nat_tests, e)

allowed_low_by :
    (purpose : Purpose) (at count : ℕ) (regions : List Region) →
    ((i : ℕ) (d : Region) → i < length regions → stop_of (slice_index_or regions i d) ≤ 0x80000000) →
    allows purpose at count (ranges_of regions) ≡ true →
    at + count ≤ 0x80000000
allowed_low_by purpose at count [] low h = cc
allowed_low_by purpose at count (r ∷ regions) low h =
    by (either (holds purpose at count (range_of r)) (allows purpose at count (ranges_of regions)) h)
    (allowed_low_by purpose at count regions (λ i d within. low (suc i) d (omega (arith, within)))) where
      by : ((holds purpose at count (range_of r) ≡ true) ⊎ (allows purpose at count (ranges_of regions) ≡ true)) →
          (allows purpose at count (ranges_of regions) ≡ true → at + count ≤ 0x80000000) → at + count ≤ 0x80000000
      by (inl here) later = let e = below_stop purpose at count (range_of r) here in let l = low 0 r (omega arith) in omega (arith, e, l)
      by (inr there) later = later there

pub allowed_low :
    (purpose : Purpose) (at count : ℕ) (regions : List Region) →
    InOrder regions →
    allows purpose at count (ranges_of regions) ≡ true →
    at + count ≤ 0x80000000
allowed_low purpose at count regions order h = allowed_low_by purpose at count regions order.low h

-- one byte
pub byte_spelled : (b : ℕ) → spelled (b ∷ []) ≡ b
unfolding spelled
byte_spelled b = omega arith

pub read_when : (b : Bool) (x n : ℕ) → cond b (Some x) None ≡ Some n → n ≡ x
read_when true x n h = cc
read_when false x n h = cc

-- numbers that stand where no other cell is told
told_number : (c : Cell) (n : ℕ) → is_number c ≡ true → told c n ≡ cell.Number n
told_number (cell.Number k) n h = refl
told_number (cell.Code p i) n h = cc
told_number (cell.Slot p i) n h = cc
told_number (cell.Difference p m i) n h = cc
told_number cell.Junk n h = cc

number_told : (c : Cell) (n : ℕ) (b : Bool) → is_number c ≡ b → cell_number (told c n) ≡ cond b (Some n) None
number_told (cell.Number k) n true h = refl
number_told (cell.Number k) n false h = cc
number_told (cell.Code p i) n true h = cc
number_told (cell.Code p i) n false h = refl
number_told (cell.Slot p i) n true h = cc
number_told (cell.Slot p i) n false h = refl
number_told (cell.Difference p m i) n true h = cc
number_told (cell.Difference p m i) n false h = refl
number_told cell.Junk n true h = cc
number_told cell.Junk n false h = refl

with_both : (b c : Bool) (n : ℕ) (ns : List ℕ) → with_number (cond b (Some n) None) (cond c (Some ns) None) ≡ cond (b && c)
    (Some (n ∷ ns)) None
with_both true true n ns = refl
with_both true false n ns = refl
with_both false c n ns = refl

-- the numbers of cells, exactly where all are numbers
pub cells_numbers :
    (o : ℕ → Cell) (byte : ℕ → ℕ) (at n : ℕ) →
    cell_numbers (bytes_from (λ a. told (o a) (byte a)) at n) ≡ cond (are_numbers o at n) (Some (bytes_from byte at n)) None
cells_numbers o byte at zero = refl
cells_numbers o byte at (suc n) =
    ap (λ x. with_number x (cell_numbers (bytes_from (λ a. told (o a) (byte a)) (at + 1) n)))
    (number_told (o at) (byte at) (is_number (o at)) refl)
    ∙ ap (with_number (cond (is_number (o at)) (Some (byte at)) None)) (cells_numbers o byte (at + 1) n)
    ∙ with_both (is_number (o at)) (are_numbers o (at + 1) n) (byte at) (bytes_from byte (at + 1) n)

-- cells of which none is a number stand over whatever number
special_told : (c : Cell) (n : ℕ) → is_number c ≡ false → told c n ≡ c
special_told (cell.Number k) n h = cc
special_told (cell.Code p i) n h = refl
special_told (cell.Slot p i) n h = refl
special_told (cell.Difference p m i) n h = refl
special_told cell.Junk n h = refl

not_false : (b : Bool) → not b ≡ true → b ≡ false
not_false true h = cc
not_false false h = refl

special_at : (cells : List Cell) (i : ℕ) (c d : Cell) (n : ℕ) → are_special cells ≡ true → i < length cells →
    told (slice_index_or cells i c) n ≡ slice_index_or cells i d
special_at [] i c d n h within = absurd (omega (arith, within))
special_at (x ∷ cells) zero c d n h within = special_told x n (not_false (is_number x)
    (both_true (not (is_number x)) (are_special cells) h).0)
special_at (x ∷ cells) (suc i) c d n h within =
    special_at cells i c d n (both_true (not (is_number x)) (are_special cells) h).1 (omega (arith, within))

pub special_stand :
    (o o' : ℕ → Cell) (byte : ℕ → ℕ) (at a : ℕ) (cells : List Cell) →
    are_special cells ≡ true →
    o' a ≡ put o at cells a →
    told (o' a) (byte a) ≡ put (λ x. told (o x) (byte x)) at cells a
special_stand o o' byte at a cells special h =
    ap (λ c. told c (byte a)) h ∙ by (nat_le at a && nat_lt a (at + length cells)) refl where
      by : (b : Bool) → (nat_le at a && nat_lt a (at + length cells)) ≡ b →
          told (cond b (slice_index_or cells (a - at) (o a)) (o a)) (byte a) ≡ cond b
          (slice_index_or cells (a - at) (told (o a) (byte a))) (told (o a) (byte a))
      by true e =
          let inside = both_true (nat_le at a) (nat_lt a (at + length cells)) e in
          let i0 = inside.0 in
          let i1 = inside.1 in
          special_at cells (a - at) (o a) (told (o a) (byte a)) (byte a) special (grind (arith, nat_tests, i0, i1))
      by false e = refl

map_at : (bytes : List ℕ) (i n : ℕ) (c : Cell) → i < length bytes → cell.Number (slice_index_or bytes i n) ≡ slice_index_or
    (map cell.Number bytes) i c
map_at [] i n c within = absurd (omega (arith, within))
map_at (b ∷ bytes) zero n c within = refl
map_at (b ∷ bytes) (suc i) n c within = map_at bytes i n c (omega (arith, within))

length_map : (bytes : List ℕ) → length (map cell.Number bytes) ≡ length bytes
length_map [] = refl
length_map (b ∷ bytes) = ap suc (length_map bytes)

pub numbers_stand :
    (o o' : ℕ → Cell) (byte byte' : ℕ → ℕ) (at a : ℕ) (bytes : List ℕ) →
    (at ≤ a → a < at + length bytes → is_number (o' a) ≡ true) →
    ((a < at) ⊎ (at + length bytes ≤ a) → o' a ≡ o a) →
    byte' a ≡ put byte at bytes a →
    told (o' a) (byte' a) ≡ put (λ x. told (o x) (byte x)) at (map cell.Number bytes) a
numbers_stand o o' byte byte' at a bytes inside outside h =
    ap (told (o' a)) h ∙ by (nat_le at a) (nat_lt a (at + length bytes)) refl refl
    ∙ ap (λ n. cond (nat_le at a && nat_lt a (at + n)) (slice_index_or (map cell.Number bytes) (a - at) (told (o a) (byte a)))
    (told (o a) (byte a)))
    (sym (length_map bytes)) where
      by : (x y : Bool) → nat_le at a ≡ x → nat_lt a (at + length bytes) ≡ y →
          told (o' a) (cond (x && y) (slice_index_or bytes (a - at) (byte a)) (byte a))
          ≡ cond (x && y) (slice_index_or (map cell.Number bytes) (a - at) (told (o a) (byte a))) (told (o a) (byte a))
      by true true p q =
          let from : at ≤ a = grind (arith, nat_tests, p) in
          let below : a < at + length bytes = grind (arith, nat_tests, q) in
          told_number (o' a) _ (inside from below) ∙ map_at bytes (a - at) (byte a) _ (omega (arith, from, below))
      by true false p q = ap (λ c. told c (byte a)) (outside (inr (grind (arith, nat_tests, q))))
      by false y p q = ap (λ c. told c (byte a)) (outside (inl (grind (arith, nat_tests, p))))

-- a call's range that may be loaded from, and one that may be stored into
pub true_and : (b : Bool) → (b && true) ≡ b
true_and true = refl
true_and false = refl

not_zero : (n : ℕ) → 0 < n → (n == 0) ≡ false
not_zero n h = grind (arith, nat_tests, h)

or_second : (a b : Bool) → a ≡ false → (a || b) ≡ true → b ≡ true
or_second true b p h = cc
or_second false b p h = h

pub loading_allowed :
    (ranges : List Range) (kept : List AddressRange) (at room : ℕ) →
    0 < room →
    allows_range (guarded ranges kept) Loading at room ≡ true →
    allows Loading at room ranges ≡ true
loading_allowed ranges kept at room some h =
    sym (true_and (allows Loading at room ranges)) ∙ or_second (room == 0) _ (not_zero room some) h

pub storing_allowed :
    (ranges : List Range) (kept : List AddressRange) (at room : ℕ) →
    0 < room →
    allows_range (guarded ranges kept) Storing at room ≡ true →
    allows Storing at room ranges ≡ true
storing_allowed ranges kept at room some h =
    (both_true (allows Storing at room ranges) _ (or_second (room == 0) _ (not_zero room some) h)).0

pub range_allowed : (ranges : List Range) (purpose : Purpose) (at room : ℕ) → allows purpose at room ranges ≡ true →
    allows_range (within ranges) purpose at room ≡ true
range_allowed ranges purpose at room h = ap (λ b. (room == 0) || b) h ∙ or_true (room == 0) where
  or_true : (b : Bool) → (b || true) ≡ true
  or_true true = refl
  or_true false = refl

-- the numbers of a call's range
pub range_numbers :
    (o : ℕ → Cell) (regions : List Region) (at room count : ℕ) →
    allows Loading at room (ranges_of regions) ≡ true →
    are_numbers o at count ≡ true →
    range_read at room count regions ≡ cell_numbers (bytes_from (λ a. told (o a) (byte_at regions a)) at count)
range_numbers o regions at room count h all =
    ap (λ b. cond b (Some (bytes_from (byte_at regions) at count)) None) (range_allowed (ranges_of regions) Loading at room h)
    ∙ sym (cells_numbers o (byte_at regions) at count
    ∙ ap (λ b. cond b (Some (bytes_from (byte_at regions) at count)) None) all)

pub some_length : (n : ℕ) → (n == 0) ≡ false → 0 < n
some_length n h = grind (arith, nat_tests, h)

-- numbers that are put where all are numbers
pub numbers_over :
    (o : ℕ → Cell) (byte byte' : ℕ → ℕ) (at a : ℕ) (bytes : List ℕ) →
    are_numbers o at (length bytes) ≡ true →
    byte' a ≡ put byte at bytes a →
    told (o a) (byte' a) ≡ put (λ x. told (o x) (byte x)) at (map cell.Number bytes) a
numbers_over o byte byte' at a bytes all h =
    numbers_stand o o byte byte' at a bytes (λ from below. each_number o at (length bytes) a all from below) (λ away. refl) h

-- a store is granted where memory allows it and it meets none of the kept ranges
pub store_granted :
    (ranges : List Range) (kept : List AddressRange) (at count : ℕ) →
    allows Storing at count ranges ≡ true →
    list_any (meets at count) kept ≡ false →
    guarded ranges kept Storing at count ≡ true
store_granted ranges kept at count h k = ap (λ b. b && not (list_any (meets at count) kept)) h ∙ ap not k

-- a part of what may be loaded may be
part_held : (at count k : ℕ) (r : Range) → k < count → holds Loading at count r ≡ true → holds Loading (at + k) 1 r ≡ true
part_held at count k r h e =
    let front = both_true (nat_le r.start at && nat_le (at + count) r.stop) true e in
    let ends = both_true (nat_le r.start at) (nat_le (at + count) r.stop) front.0 in
    let from = ends.0 in
    let to = ends.1 in
    let starts : nat_le r.start (at + k) ≡ true = grind (arith, nat_tests, from) in
    let stops : nat_le (at + k + 1) r.stop ≡ true = grind (arith, nat_tests, to, h) in
    ap (λ b. b && nat_le (at + k + 1) r.stop && true) starts ∙ ap (λ b. b && true) stops

pub or_is_true : (b : Bool) → (b || true) ≡ true
or_is_true true = refl
or_is_true false = refl

pub part_allowed : (ranges : List Range) (at count k : ℕ) → k < count → allows Loading at count ranges ≡ true →
    allows Loading (at + k) 1 ranges ≡ true
part_allowed [] at count k h e = cc
part_allowed (r ∷ ranges) at count k h e =
    by (either (holds Loading at count r) (allows Loading at count ranges) e) (part_allowed ranges at count k h) where
      by : ((holds Loading at count r ≡ true) ⊎ (allows Loading at count ranges ≡ true)) →
          (allows Loading at count ranges ≡ true → allows Loading (at + k) 1 ranges ≡ true) → allows Loading (at + k) 1 (r ∷ ranges) ≡ true
      by (inl here) later = ap (λ b. b || allows Loading (at + k) 1 ranges) (part_held at count k r h here)
      by (inr there) later = ap (λ b. holds Loading (at + k) 1 r || b) (later there) ∙ or_is_true (holds Loading (at + k) 1 r)

-- cells in memory beside others, one by one
pub cells_beside :
    (f : ℕ → Cell) (cells : List Cell) (a i : ℕ) (c : Cell) →
    i < length cells →
    same_cells (bytes_from f a (length cells - i)) (drop i cells)
    ≡ (same_cell (f a) (slice_index_or cells i c) && same_cells (bytes_from f (a + 1) (length cells - (i + 1))) (drop (suc i) cells))
cells_beside f [] a i c h = absurd (omega (arith, h))
cells_beside f (x ∷ cells) a zero c h =
    let all : length (x ∷ cells) - 0 ≡ suc (length cells) = omega arith in
    let rest : length (x ∷ cells) - 1 ≡ length cells = omega arith in
    ap (λ n. same_cells (bytes_from f a n) (x ∷ cells)) all
    ∙ ap (λ n. same_cell (f a) x && same_cells (bytes_from f (a + 1) n) cells) (sym rest)
cells_beside f (x ∷ cells) a (suc i) c h =
    let left : length (x ∷ cells) - suc i ≡ length cells - i = omega arith in
    let more : length (x ∷ cells) - (suc i + 1) ≡ length cells - (i + 1) = omega arith in
    ap (λ n. same_cells (bytes_from f a n) (drop i cells)) left
    ∙ cells_beside f cells a i c (omega (arith, h))
    ∙ ap (λ n. same_cell (f a) (slice_index_or cells i c) && same_cells (bytes_from f (a + 1) n) (drop (suc i) cells)) (sym more)

pub none_beside : (f : ℕ → Cell) (cells : List Cell) (a i : ℕ) → length cells ≤ i →
    same_cells (bytes_from f a (length cells - i)) (drop i cells) ≡ true
none_beside f cells a i h =
    let none : length cells - i ≡ 0 = omega (arith, h) in
    ap (λ n. same_cells (bytes_from f a n) (drop i cells)) none ∙ ap (same_cells []) (none_dropped cells i h) where
      none_dropped : (xs : List Cell) (k : ℕ) → length xs ≤ k → drop k xs ≡ []
      none_dropped [] zero h = refl
      none_dropped [] (suc k) h = refl
      none_dropped (x ∷ xs) zero h = absurd (omega (arith, h))
      none_dropped (x ∷ xs) (suc k) h = none_dropped xs k (omega (arith, h))
