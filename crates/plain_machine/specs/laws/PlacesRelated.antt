-- The machine of places does what the machine of numbers does where text is laid out: their values are related as `power_machine` asks.
use Rattle.std.proofs.Common.{◌≡◌, ◌≢◌, ℕ, ◌+◌, ◌-◌, ◌*◌, ◌/◌, ◌<◌, ◌%◌, ◌^◌, Bool, true, false, not, ◌&&◌, ◌||◌, cond, List, [], ◌∷◌, map, take, Option, Some, None, refl, sym, ap, ◌∙◌, subst, arith}
use Rattle.std.specs.Prelude.{ℤ, int_lt, ◌==◌}
use Rattle.std.specs.Int.{w32, w64, cast_signed, cast_unsigned}
use Rattle.std.proofs.lemmas.Bool.Decides.{nat_tests}
use Rattle.std.proofs.lemmas.Int.{ints, of_z-to_z}
use Rattle.std.proofs.Math.Nat.{mod-add-mod}
use Rattle.power_insns.specs.declared.meaning.Width.{Width}
use Rattle.power_insns.specs.declared.meaning.Width.TheVariants.{Byte, Half, Word, Long}
use Rattle.power_insns.specs.declared.meaning.Sign.{Sign}
use Rattle.power_insns.specs.declared.meaning.Sign.TheVariants.{Unsigned, Signed}
use Rattle.power_insns.specs.declared.meaning.Function.{Function}
use Rattle.power_insns.specs.declared.meaning.Function.TheVariants.{Sum, RegisterSum, Difference as Less, Product, WordProduct, BitAnd, BitAndNot, BitOr, BitNotOr, BitXor, ShiftWordLeft, ShiftWordRight, ShiftLeft, ShiftRight, Extend, Rotate, RotateWord}
use Rattle.power_insns.specs.Arithmetic.{bytes_of, function_of, compared, widened, low_number, extended}
use Rattle.power_machine.specs.Bytes.{bytes_of_long, spelled}
use Rattle.power_machine.specs.Calls.{with_number}
use Rattle.power_machine.specs.Machines.{sum_address}
use Rattle.power_machine.specs.Numbers.{numbers}
use Rattle.power_machine.specs.laws.Related.{Pairwise, Known, Related}
use Rattle.plain_machine.specs.declared.place.TextPlace.{TextPlace}
use Rattle.plain_machine.specs.declared.value.Part.{Part as PartOf}
use Rattle.plain_machine.specs.declared.value.PlainValue.{PlainValue}
use Rattle.plain_machine.specs.declared.value.PlainValue.TheVariants.{Number, Code, Part, Pair, Difference, Junk}
use Rattle.plain_machine.specs.declared.value.Cell.{Cell}
use Rattle.plain_machine.specs.declared.value.Cell.TheVariants as cell
use Rattle.plain_machine.specs.Values.{same_place, same_cells, code_cells, difference_cells}
use Rattle.plain_machine.specs.Plain.{place_ahead, number_of, sum_of_registers, computed, calculated, cell_number, cell_numbers, joined_by, joined_pieces, joined_code, joined_difference, split, code_split, junk_cells, branch_place, is_inside, order_of, compared_long, compared_values, places}
use Rattle.plain_machine.specs.laws.Meaning.{IsSound, Means, MeansCell, MeansBit, MeansPlace, difference}
use Rattle.plain_machine.specs.laws.Pieces.{place_is, code_spelled, difference_spelled}

-- orders
less_or_more : (a b : ℤ) (less more : Bool) → int_lt a b ≡ less → int_lt b a ≡ more → a ≢ b → (less || more) ≡ true
less_or_more a b true more h k ne = refl
less_or_more a b false true h k ne = refl
less_or_more a b false false h k ne = absurd (ne (omega (arith, ints, h, k)))

not_less : (a : ℤ) (b : Bool) → int_lt a a ≡ b → b ≡ false
not_less a false h = refl
not_less a true h = absurd (omega (arith, ints, h))

neither : (a : ℤ) → not (int_lt a a || int_lt a a) ≡ true
neither a = ap (λ b. not (b || b)) (not_less a (int_lt a a) refl)

low_number_is : (sign : Sign) (m n : ℕ) → m < 2 ^ 64 → n < 2 ^ 64 → low_number Long sign m ≡ low_number Long sign n → m ≡ n
low_number_is Unsigned m n h k e = omega (arith, ints, e)
low_number_is Signed m n h k e = sym (of_z-to_z w64 m h) ∙ ap (λ z. cast_unsigned w64 z) e ∙ of_z-to_z w64 n k

-- equality as a comparison of registers tells it
equality_told : (sign : Sign) (m n : ℕ) → m ≡ n → true ≡ not (int_lt (low_number Long sign m) (low_number Long sign n) || int_lt
    (low_number Long sign n) (low_number Long sign m))
equality_told sign m n e =
    sym (ap (λ k. not (int_lt (low_number Long sign m) (low_number Long sign k) || int_lt (low_number Long sign k)
    (low_number Long sign m))) (sym e)
    ∙ neither (low_number Long sign m))

difference_told :
    (sign : Sign) (m n : ℕ) →
    m < 2 ^ 64 →
    n < 2 ^ 64 →
    m ≢ n →
    false ≡ not (int_lt (low_number Long sign m) (low_number Long sign n) || int_lt (low_number Long sign n) (low_number Long sign m))
difference_told sign m n h k ne =
    sym (ap not (less_or_more (low_number Long sign m) (low_number Long sign n) _ _ refl refl
    (λ e. ne (low_number_is sign m n h k e))))

-- bits of which nothing is known but the last
unknown_means : (width : Width) (sign : Sign) (m n : ℕ) → Pairwise MeansBit (None ∷ None ∷ None ∷ Some false ∷ []) (compared width sign m n)
unknown_means width sign m n = (tt, (tt, (tt, (refl, tt))))

bits_mean : (width : Width) (sign : Sign) (x y m n : ℕ) → x ≡ m → y ≡ n →
    Pairwise MeansBit (map Some (compared width sign x y)) (compared width sign m n)
bits_mean width sign x y m n h k =
    subst (λ z. Pairwise MeansBit (map Some (compared width sign x y)) (compared width sign z n)) h
    (subst (λ z. Pairwise MeansBit (map Some (compared width sign x y)) (compared width sign x z)) k (refl, (refl, (refl, (refl, tt)))))

module _ (size_of : ℕ → ℕ) (address : TextPlace → ℕ) (sound : IsSound size_of address)
    (IsPart : PartOf → ℕ → Type 0) (IsPair : TextPlace → ℕ → Type 0) (IsSlot : TextPlace → ℕ → ℕ → Type 0) where
  abbrev Is : PlainValue → ℕ → Type 0
  Is = Means address IsPart IsPair

  abbrev IsByte : Cell → ℕ → Type 0
  IsByte = MeansCell address IsSlot

  -- functions of numbers
  computed_means : (f : Function) (x y : PlainValue) (m n : ℕ) → Is x m → Is y n → Is (computed f x y) (function_of f m n)
  computed_means f (Number a) (Number b) m n h k = ap (λ z. function_of f z b) h ∙ ap (function_of f m) k
  computed_means f (Number a) (Code q) m n h k = tt
  computed_means f (Number a) (Part q) m n h k = tt
  computed_means f (Number a) (Pair q) m n h k = tt
  computed_means f (Number a) (Difference q d) m n h k = tt
  computed_means f (Number a) Junk m n h k = tt
  computed_means f (Code p) y m n h k = tt
  computed_means f (Part p) y m n h k = tt
  computed_means f (Pair p) y m n h k = tt
  computed_means f (Difference p d) y m n h k = tt
  computed_means f Junk y m n h k = tt

  -- a place from its difference from a number, and that number
  joined_means : (p : TextPlace) (d b m n : ℕ) → difference address p d ≡ m → b ≡ n →
      address (place_ahead p (b + (2 ^ 64 - d))) ≡ (m + n) % 2 ^ 64
  joined_means p d b m n h k =
      sound.ahead p (b + (2 ^ 64 - d))
      ∙ ap (λ z. z % 2 ^ 64) (regroup (address p) b (2 ^ 64 - d))
      ∙ sym (mod-add-mod (address p + (2 ^ 64 - d)) (2 ^ 64) b)
      ∙ ap (λ z. (z + b) % 2 ^ 64) h ∙ ap (λ z. (m + z) % 2 ^ 64) k
    where
      regroup : (a b c : ℕ) → a + (b + c) ≡ a + c + b
      regroup a b c = omega arith

  turned : (m n : ℕ) → (m + n) % 2 ^ 64 ≡ (n + m) % 2 ^ 64
  turned m n = ap (λ z. z % 2 ^ 64) (let e : m + n ≡ n + m = omega arith in e)

  sum_means : (x y : PlainValue) (m n : ℕ) → Is x m → Is y n → Is (sum_of_registers x y) ((m + n) % 2 ^ 64)
  sum_means (Number a) (Number b) m n h k = ap (λ z. (z + b) % 2 ^ 64) h ∙ ap (λ z. (m + z) % 2 ^ 64) k
  sum_means (Number a) (Difference q d) m n h k = joined_means q d a n m k h ∙ turned n m
  sum_means (Number a) (Code q) m n h k = tt
  sum_means (Number a) (Part q) m n h k = tt
  sum_means (Number a) (Pair q) m n h k = tt
  sum_means (Number a) Junk m n h k = tt
  sum_means (Difference p d) (Number b) m n h k = joined_means p d b m n h k
  sum_means (Difference p d) (Code q) m n h k = tt
  sum_means (Difference p d) (Part q) m n h k = tt
  sum_means (Difference p d) (Pair q) m n h k = tt
  sum_means (Difference p d) (Difference q e) m n h k = tt
  sum_means (Difference p d) Junk m n h k = tt
  sum_means (Code p) y m n h k = tt
  sum_means (Part p) y m n h k = tt
  sum_means (Pair p) y m n h k = tt
  sum_means Junk y m n h k = tt

  calculated_means : (f : Function) (x y : PlainValue) (m n : ℕ) → Is x m → Is y n → Is (calculated f x y) (function_of f m n)
  calculated_means RegisterSum x y m n h k = sum_means x y m n h k
  calculated_means Sum x y m n h k = computed_means Sum x y m n h k
  calculated_means Less x y m n h k = computed_means Less x y m n h k
  calculated_means Product x y m n h k = computed_means Product x y m n h k
  calculated_means WordProduct x y m n h k = computed_means WordProduct x y m n h k
  calculated_means BitAnd x y m n h k = computed_means BitAnd x y m n h k
  calculated_means BitAndNot x y m n h k = computed_means BitAndNot x y m n h k
  calculated_means BitOr x y m n h k = computed_means BitOr x y m n h k
  calculated_means BitNotOr x y m n h k = computed_means BitNotOr x y m n h k
  calculated_means BitXor x y m n h k = computed_means BitXor x y m n h k
  calculated_means ShiftWordLeft x y m n h k = computed_means ShiftWordLeft x y m n h k
  calculated_means ShiftWordRight x y m n h k = computed_means ShiftWordRight x y m n h k
  calculated_means ShiftLeft x y m n h k = computed_means ShiftLeft x y m n h k
  calculated_means ShiftRight x y m n h k = computed_means ShiftRight x y m n h k
  calculated_means (Extend w) x y m n h k = computed_means (Extend w) x y m n h k
  calculated_means (Rotate c) x y m n h k = computed_means (Rotate c) x y m n h k
  calculated_means (RotateWord c) x y m n h k = computed_means (RotateWord c) x y m n h k

  -- two places inside of their sections are the same exactly where their addresses are
  equality_means :
      (sign : Sign) (p q : TextPlace) (m n : ℕ) (b : Bool) →
      same_place p q ≡ b →
      is_inside size_of p ≡ true →
      is_inside size_of q ≡ true →
      address p ≡ m →
      address q ≡ n →
      b ≡ not (int_lt (low_number Long sign m) (low_number Long sign n) || int_lt (low_number Long sign n) (low_number Long sign m))
  equality_means sign p q m n true e i j h k = equality_told sign m n (sym h ∙ ap address (place_is p q e) ∙ k)
  equality_means sign p q m n false e i j h k =
      difference_told sign m n (subst (λ z. z < 2 ^ 64) h (sound.low p)) (subst (λ z. z < 2 ^ 64) k (sound.low q))
      (λ same. absurd (contradiction (sym e ∙ ap (same_place p) (sym (sound.apart p q i j (h ∙ same ∙ sym k))) ∙ same_itself p)))
    where
      contradiction : false ≡ true → ⊥
      contradiction h = cc

      same_itself : (p : TextPlace) → same_place p p ≡ true
      same_itself p = grind (arith, nat_tests)

  places_compared :
      (sign : Sign) (p q : TextPlace) (m n : ℕ) (i j : Bool) →
      is_inside size_of p ≡ i →
      is_inside size_of q ≡ j →
      address p ≡ m →
      address q ≡ n →
      Pairwise MeansBit (cond (i && j) (None ∷ None ∷ Some (same_place p q) ∷ Some false ∷ []) (None ∷ None ∷ None ∷ Some false ∷ []))
      (compared Long sign m n)
  places_compared sign p q m n true true e f h k = (tt, (tt, (equality_means sign p q m n (same_place p q) refl e f h k, (refl, tt))))
  places_compared sign p q m n true false e f h k = (tt, (tt, (tt, (refl, tt))))
  places_compared sign p q m n false j e f h k = (tt, (tt, (tt, (refl, tt))))

  zero_compared :
      (sign : Sign) (p : TextPlace) (a m n : ℕ) (i j : Bool) →
      is_inside size_of p ≡ i →
      (a == 0) ≡ j →
      address p ≡ m →
      a ≡ n →
      Pairwise MeansBit (cond (i && j) (None ∷ None ∷ Some false ∷ Some false ∷ []) (None ∷ None ∷ None ∷ Some false ∷ []))
      (compared Long sign m n)
      × Pairwise MeansBit (cond (i && j) (None ∷ None ∷ Some false ∷ Some false ∷ []) (None ∷ None ∷ None ∷ Some false ∷ []))
      (compared Long sign n m)
  zero_compared sign p a m n true true e f h k =
      let none : a ≡ 0 = grind (arith, nat_tests, f) in
      let low : m < 2 ^ 64 = subst (λ z. z < 2 ^ 64) h (sound.low p) in
      let nothing : n < 2 ^ 64 = omega (arith, k, none) in (
        (tt, (tt, (difference_told sign m n low nothing (λ same. sound.some p e (h ∙ same ∙ sym k ∙ none)), (refl, tt)))),
        (tt, (tt, (difference_told sign n m nothing low (λ same. sound.some p e (h ∙ sym same ∙ sym k ∙ none)), (refl, tt)))),
      )
  zero_compared sign p a m n true false e f h k = ((tt, (tt, (tt, (refl, tt)))), (tt, (tt, (tt, (refl, tt)))))
  zero_compared sign p a m n false j e f h k = ((tt, (tt, (tt, (refl, tt)))), (tt, (tt, (tt, (refl, tt)))))

  long_compared : (sign : Sign) (x y : PlainValue) (m n : ℕ) → Is x m → Is y n →
      Pairwise MeansBit (compared_long size_of x y) (compared Long sign m n)
  long_compared sign (Code p) (Code q) m n h k = places_compared sign p q m n (is_inside size_of p) (is_inside size_of q) refl refl h k
  long_compared sign (Code p) (Number a) m n h k = (zero_compared sign p a m n (is_inside size_of p) (a == 0) refl refl h k).0
  long_compared sign (Number a) (Code p) m n h k = (zero_compared sign p a n m (is_inside size_of p) (a == 0) refl refl k h).1
  long_compared sign (Code p) (Part q) m n h k = unknown_means Long sign m n
  long_compared sign (Code p) (Pair q) m n h k = unknown_means Long sign m n
  long_compared sign (Code p) (Difference q d) m n h k = unknown_means Long sign m n
  long_compared sign (Code p) Junk m n h k = unknown_means Long sign m n
  long_compared sign (Number a) (Number b) m n h k = unknown_means Long sign m n
  long_compared sign (Number a) (Part q) m n h k = unknown_means Long sign m n
  long_compared sign (Number a) (Pair q) m n h k = unknown_means Long sign m n
  long_compared sign (Number a) (Difference q d) m n h k = unknown_means Long sign m n
  long_compared sign (Number a) Junk m n h k = unknown_means Long sign m n
  long_compared sign (Part p) y m n h k = unknown_means Long sign m n
  long_compared sign (Pair p) y m n h k = unknown_means Long sign m n
  long_compared sign (Difference p d) y m n h k = unknown_means Long sign m n
  long_compared sign Junk y m n h k = unknown_means Long sign m n

  values_compared : (width : Width) (sign : Sign) (x y : PlainValue) (m n : ℕ) → Is x m → Is y n →
      Pairwise MeansBit (compared_values size_of width x y) (compared width sign m n)
  values_compared Long sign x y m n h k = long_compared sign x y m n h k
  values_compared Word sign x y m n h k = unknown_means Word sign m n
  values_compared Half sign x y m n h k = unknown_means Half sign m n
  values_compared Byte sign x y m n h k = unknown_means Byte sign m n

  compare_means : (width : Width) (sign : Sign) (x y : PlainValue) (m n : ℕ) → Is x m → Is y n →
      Pairwise MeansBit (order_of size_of width sign x y) (compared width sign m n)
  compare_means width sign (Number a) (Number b) m n h k = bits_mean width sign a b m n h k
  compare_means width sign (Number a) (Code q) m n h k = values_compared width sign (Number a) (Code q) m n h k
  compare_means width sign (Number a) (Part q) m n h k = values_compared width sign (Number a) (Part q) m n h k
  compare_means width sign (Number a) (Pair q) m n h k = values_compared width sign (Number a) (Pair q) m n h k
  compare_means width sign (Number a) (Difference q d) m n h k = values_compared width sign (Number a) (Difference q d) m n h k
  compare_means width sign (Number a) Junk m n h k = values_compared width sign (Number a) Junk m n h k
  compare_means width sign (Code p) y m n h k = values_compared width sign (Code p) y m n h k
  compare_means width sign (Part p) y m n h k = values_compared width sign (Part p) y m n h k
  compare_means width sign (Pair p) y m n h k = values_compared width sign (Pair p) y m n h k
  compare_means width sign (Difference p d) y m n h k = values_compared width sign (Difference p d) y m n h k
  compare_means width sign Junk y m n h k = values_compared width sign Junk y m n h k

  number_means : (x : PlainValue) (m : ℕ) → Is x m → Known (◌≡◌ {A = ℕ}) (number_of x) (Some m)
  number_means (Number a) m h = h
  number_means (Code p) m h = tt
  number_means (Part p) m h = tt
  number_means (Pair p) m h = tt
  number_means (Difference p d) m h = tt
  number_means Junk m h = tt

  bit_means : (b : Option Bool) (c : Bool) → MeansBit b c → Known (◌≡◌ {A = Bool}) b (Some c)
  bit_means None c h = tt
  bit_means (Some b) c h = h

  byte_means : (c : Cell) (m : ℕ) → IsByte c m → Known (◌≡◌ {A = ℕ}) (cell_number c) (Some m)
  byte_means (cell.Number n) m h = h
  byte_means (cell.Code p i) m h = tt
  byte_means (cell.Slot p i) m h = tt
  byte_means (cell.Difference p n i) m h = tt
  byte_means cell.Junk m h = tt

  place_means : (x : PlainValue) (m : ℕ) → Is x m → Known (MeansPlace address) (branch_place x) (Some (m / 4 * 4))
  place_means (Code p) m h = sound.aligned p ∙ ap (λ z. z / 4 * 4) h
  place_means (Number a) m h = tt
  place_means (Part p) m h = tt
  place_means (Pair p) m h = tt
  place_means (Difference p d) m h = tt
  place_means Junk m h = tt

  -- memory: cells that are all numbers spell one
  abbrev AreNumbers : Option (List ℕ) → List ℕ → Type 0
  AreNumbers None ys = Unit {0}
  AreNumbers (Some ns) ys = ns ≡ ys

  numbers_with : (o : Option ℕ) (m : ℕ) (l : Option (List ℕ)) (ys : List ℕ) → Known (◌≡◌ {A = ℕ}) o (Some m) → AreNumbers l ys →
      AreNumbers (with_number o l) (m ∷ ys)
  numbers_with None m l ys h k = tt
  numbers_with (Some n) m None ys h k = tt
  numbers_with (Some n) m (Some ns) ys h k = ap (λ z. z ∷ ns) h ∙ ap (λ zs. m ∷ zs) k

  cells_are_numbers : (cs : List Cell) (ys : List ℕ) → Pairwise IsByte cs ys → AreNumbers (cell_numbers cs) ys
  cells_are_numbers [] [] r = refl
  cells_are_numbers [] (y ∷ ys) r = absurd r
  cells_are_numbers (c ∷ cs) [] r = absurd r
  cells_are_numbers (c ∷ cs) (y ∷ ys) r = numbers_with (cell_number c) y (cell_numbers cs) ys (byte_means c y r.0)
      (cells_are_numbers cs ys r.1)

  -- a register of eight bytes holds what they spell, however its sign is read
  long_widened : (sign : Sign) (n : ℕ) → n < 2 ^ 64 → widened Long sign n ≡ n
  long_widened Unsigned n h = refl
  long_widened Signed n h = of_z-to_z w64 n h

  code_choice :
      (sign : Sign) (b : Bool) (p : TextPlace) (cs : List Cell) (ys : List ℕ) →
      same_cells cs (code_cells p) ≡ b →
      Pairwise IsByte cs ys →
      Is (cond b (Code p) Junk) (widened Long sign (spelled ys))
  code_choice sign true p cs ys h r =
      let e = code_spelled address IsSlot p cs ys (sound.low p) h r in
      sym (ap (widened Long sign) e ∙ long_widened sign (address p) (sound.low p))
  code_choice sign false p cs ys h r = tt

  code_joined : (sign : Sign) (cs : List Cell) (ys : List ℕ) → Pairwise IsByte cs ys → Is (joined_code cs) (widened Long sign (spelled ys))
  code_joined sign [] ys r = tt
  code_joined sign (cell.Code p i ∷ cs) ys r =
      code_choice sign (same_cells (cell.Code p i ∷ cs) (code_cells p)) p (cell.Code p i ∷ cs) ys refl r
  code_joined sign (cell.Number n ∷ cs) ys r = tt
  code_joined sign (cell.Slot p i ∷ cs) ys r = tt
  code_joined sign (cell.Difference p n i ∷ cs) ys r = tt
  code_joined sign (cell.Junk ∷ cs) ys r = tt

  -- a signed word that is read of the low bits of a number is that of the number
  word_again : (n : ℕ) → widened Word Signed (n % 2 ^ 32) ≡ widened Word Signed n
  word_again n = ap (λ z. extended (cast_signed w32 z)) (mod_twice n) where
    mod_twice : (n : ℕ) → n % 2 ^ 32 % 2 ^ 32 ≡ n % 2 ^ 32
    mod_twice n = omega arith

  difference_choice :
      (b : Bool) (p : TextPlace) (n i : ℕ) (cs : List Cell) (ys : List ℕ) →
      same_cells (cell.Difference p n i ∷ cs) (difference_cells p n) ≡ b →
      Pairwise IsByte (cell.Difference p n i ∷ cs) ys →
      Is (cond b (Difference p n) Junk) (widened Word Signed (spelled ys))
  difference_choice true p n i cs [] h r = absurd r
  difference_choice true p n i cs (y ∷ ys) h r =
      let e = difference_spelled address IsSlot p n (cell.Difference p n i ∷ cs) (y ∷ ys) h r in
      sym (ap (widened Word Signed) e ∙ word_again (difference address p n) ∙ r.0.1)
  difference_choice false p n i cs ys h r = tt

  difference_joined : (cs : List Cell) (ys : List ℕ) → Pairwise IsByte cs ys → Is (joined_difference cs) (widened Word Signed (spelled ys))
  difference_joined [] ys r = tt
  difference_joined (cell.Difference p n i ∷ cs) ys r =
      difference_choice (same_cells (cell.Difference p n i ∷ cs) (difference_cells p n)) p n i cs ys refl r
  difference_joined (cell.Number n ∷ cs) ys r = tt
  difference_joined (cell.Code p i ∷ cs) ys r = tt
  difference_joined (cell.Slot p i ∷ cs) ys r = tt
  difference_joined (cell.Junk ∷ cs) ys r = tt

  pieces_joined : (width : Width) (sign : Sign) (cs : List Cell) (ys : List ℕ) → Pairwise IsByte cs ys →
      Is (joined_pieces width sign cs) (widened width sign (spelled ys))
  pieces_joined Long sign cs ys r = code_joined sign cs ys r
  pieces_joined Word Signed cs ys r = difference_joined cs ys r
  pieces_joined Word Unsigned cs ys r = tt
  pieces_joined Half sign cs ys r = tt
  pieces_joined Byte sign cs ys r = tt

  join_by : (width : Width) (sign : Sign) (cs : List Cell) (ys : List ℕ) (o : Option (List ℕ)) → Pairwise IsByte cs ys → AreNumbers o ys →
      Is (joined_by width sign cs o) (widened width sign (spelled ys))
  join_by width sign cs ys None r h = pieces_joined width sign cs ys r
  join_by width sign cs ys (Some ns) r h = ap (λ zs. widened width sign (spelled zs)) h

  -- what a store puts
  numbers_split : (width : Width) (n m : ℕ) → n ≡ m → Pairwise IsByte (map cell.Number (take (bytes_of width) (bytes_of_long n)))
      (take (bytes_of width) (bytes_of_long m))
  numbers_split width n m h =
      subst (λ z. Pairwise IsByte (map cell.Number (take (bytes_of width) (bytes_of_long n))) (take (bytes_of width) (bytes_of_long z))) h
      (each (take (bytes_of width) (bytes_of_long n)))
    where
      each : (xs : List ℕ) → Pairwise IsByte (map cell.Number xs) xs
      each [] = tt
      each (x ∷ xs) = (refl, each xs)

  junk_split : (width : Width) (m : ℕ) → Pairwise IsByte (junk_cells width) (take (bytes_of width) (bytes_of_long m))
  unfolding bytes_of_long
  junk_split Byte m = (tt, tt)
  junk_split Half m = (tt, (tt, tt))
  junk_split Word m = (tt, (tt, (tt, (tt, tt))))
  junk_split Long m = (tt, (tt, (tt, (tt, (tt, (tt, (tt, (tt, tt))))))))

  pieces_split : (p : TextPlace) (m : ℕ) → address p ≡ m → Pairwise IsByte (code_cells p) (take 8 (bytes_of_long m))
  unfolding bytes_of_long
  pieces_split p m h =
      subst (λ z. Pairwise IsByte (code_cells p) (take 8 (bytes_of_long z))) h
      (refl, (refl, (refl, (refl, (refl, (refl, (refl, (refl, tt))))))))

  code_is_split : (width : Width) (p : TextPlace) (m : ℕ) → address p ≡ m →
      Pairwise IsByte (code_split width p) (take (bytes_of width) (bytes_of_long m))
  code_is_split Long p m h = pieces_split p m h
  code_is_split Word p m h = junk_split Word m
  code_is_split Half p m h = junk_split Half m
  code_is_split Byte p m h = junk_split Byte m

  split_means : (width : Width) (x : PlainValue) (m : ℕ) → Is x m → Pairwise IsByte (split width x)
      (take (bytes_of width) (bytes_of_long m))
  split_means width (Number n) m h = numbers_split width n m h
  split_means width (Code p) m h = code_is_split width p m h
  split_means width (Part p) m h = junk_split width m
  split_means width (Pair p) m h = junk_split width m
  split_means width (Difference p d) m h = junk_split width m
  split_means width Junk m h = junk_split width m

  -- all that two kinds of values must keep to make two machines match
  pub places_related : Related (places size_of) numbers Is IsByte MeansBit (MeansPlace address)
  places_related = record {
    num = λ n. refl;
    calculate = calculated_means;
    compare = compare_means;
    number = number_means;
    bit = bit_means;
    flag = λ b. refl;
    byte = λ n. refl;
    byte_number = byte_means;
    join = λ width sign xs ys long r. join_by width sign xs ys (cell_numbers xs) r (cells_are_numbers xs ys r);
    split = split_means;
    place = place_means;
    code = λ p q h. h;
    ahead = λ p q n h. sound.ahead p n ∙ ap (λ z. sum_address z n) h;
  }
