-- Pieces of an address in memory are its bytes.
use Rattle.std.proofs.Common.{◌≡◌, ℕ, ◌<◌, ◌/◌, ◌%◌, ◌^◌, Bool, true, false, ◌&&◌, List, [], ◌∷◌, take, refl, sym, ap, ◌∙◌, subst, arith}
use Rattle.std.specs.Prelude.{◌==◌}
use Rattle.std.proofs.lemmas.Bool.Decides.{nat_tests}
use Rattle.std.proofs.lemmas.Nat.{from_le_bytes-to_le_bytes_8}
use Rattle.std.specs.Int.{w64, from_le_bytes}
use Rattle.ppc_bytes.specs.Bytes.{number}
use Rattle.power_machine.specs.Bytes.{bytes_of_long, spelled}
use Rattle.plain_machine.specs.declared.place.TextPlace.{TextPlace}
use Rattle.plain_machine.specs.declared.value.Cell.{Cell}
use Rattle.plain_machine.specs.declared.value.Cell.TheVariants as cell
use Rattle.std.proofs.Math.Nat.{mod-lt}
use Rattle.power_machine.specs.laws.Related.{Pairwise}
use Rattle.plain_machine.specs.Values.{same_place, same_cell, same_cells, code_cells, difference_cells}
use Rattle.plain_machine.specs.laws.Meaning.{MeansCell, difference}

pub both : (a b : Bool) → (a && b) ≡ true → (a ≡ true) × (b ≡ true)
both true true h = (refl, refl)
both true false h = cc
both false b h = cc

pub equal : (i j : ℕ) → (i == j) ≡ true → i ≡ j
equal i j h = grind (arith, nat_tests)

pub place_is : (p q : TextPlace) → same_place p q ≡ true → p ≡ q
place_is p q h =
    let b = both _ _ h in
    let e = equal p.section q.section b.0 in
    let f = equal p.offset q.offset b.1 in
    λ i. record { section = e i; offset = f i }

eight : (a b c d e f g h : ℕ) →
    number (a ∷ b ∷ c ∷ d ∷ e ∷ f ∷ g ∷ h ∷ []) ≡ from_le_bytes w64 (a ∷ b ∷ c ∷ d ∷ e ∷ f ∷ g ∷ h ∷ [])
eight a b c d e f g h = omega arith

pub long_spelled : (n : ℕ) → n < 2 ^ 64 → spelled (bytes_of_long n) ≡ n
unfolding spelled bytes_of_long
long_spelled n h = eight _ _ _ _ _ _ _ _ ∙ from_le_bytes-to_le_bytes_8 n h

four : (a b c d e f g h : ℕ) → a < 256 → b < 256 → c < 256 → d < 256 →
    number (a ∷ b ∷ c ∷ d ∷ []) ≡ number (a ∷ b ∷ c ∷ d ∷ e ∷ f ∷ g ∷ h ∷ []) % 2 ^ 32
four a b c d e f g h s t u v = omega arith

byte_of : (n k : ℕ) → n / k % 256 < 256
byte_of n k = mod-lt (n / k) (omega arith)

word_spelled : (n : ℕ) → n < 2 ^ 64 → spelled (take 4 (bytes_of_long n)) ≡ n % 2 ^ 32
unfolding spelled bytes_of_long
word_spelled n h =
    four _ _ _ _ (n / 4294967296 % 256) (n / 1099511627776 % 256) (n / 281474976710656 % 256) (n / 72057594037927936 % 256)
    (mod-lt n (omega arith)) (byte_of n 256) (byte_of n 65536) (byte_of n 16777216)
    ∙ ap (λ m. m % 2 ^ 32) (eight _ _ _ _ _ _ _ _ ∙ from_le_bytes-to_le_bytes_8 n h)

pub cell_is : (c d : Cell) → same_cell c d ≡ true → c ≡ d
cell_is (cell.Number n) (cell.Number m) h = ap cell.Number (equal n m h)
cell_is (cell.Code p i) (cell.Code q j) h =
    let b = both _ _ h in ap (λ r. cell.Code r i) (place_is p q b.0) ∙ ap (cell.Code q) (equal i j b.1)
cell_is (cell.Slot p i) (cell.Slot q j) h =
    let b = both _ _ h in ap (λ r. cell.Slot r i) (place_is p q b.0) ∙ ap (cell.Slot q) (equal i j b.1)
cell_is (cell.Difference p n i) (cell.Difference q m j) h =
    let b = both _ _ h in
    let d = both _ _ b.1 in
    ap (λ r. cell.Difference r n i) (place_is p q b.0) ∙ ap (λ k. cell.Difference q k i) (equal n m d.0)
    ∙ ap (cell.Difference q m) (equal i j d.1)
cell_is (cell.Number n) (cell.Code q j) h = cc
cell_is (cell.Number n) (cell.Slot q j) h = cc
cell_is (cell.Number n) (cell.Difference q m j) h = cc
cell_is (cell.Number n) cell.Junk h = cc
cell_is (cell.Code p i) (cell.Number m) h = cc
cell_is (cell.Code p i) (cell.Slot q j) h = cc
cell_is (cell.Code p i) (cell.Difference q m j) h = cc
cell_is (cell.Code p i) cell.Junk h = cc
cell_is (cell.Slot p i) (cell.Number m) h = cc
cell_is (cell.Slot p i) (cell.Code q j) h = cc
cell_is (cell.Slot p i) (cell.Difference q m j) h = cc
cell_is (cell.Slot p i) cell.Junk h = cc
cell_is (cell.Difference p n i) (cell.Number m) h = cc
cell_is (cell.Difference p n i) (cell.Code q j) h = cc
cell_is (cell.Difference p n i) (cell.Slot q j) h = cc
cell_is (cell.Difference p n i) cell.Junk h = cc
cell_is cell.Junk d h = cc

-- a cell stands for this byte and no other
abbrev Tells : (Cell → ℕ → Type 0) → Cell → ℕ → Type 0
Tells R c b = (m : ℕ) → R c m → m ≡ b

cells_tell :
    (R : Cell → ℕ → Type 0) (cs ws : List Cell) (ys bs : List ℕ) →
    same_cells cs ws ≡ true →
    Pairwise R cs ys →
    Pairwise (Tells R) ws bs →
    ys ≡ bs
cells_tell R [] [] [] [] h r t = refl
cells_tell R [] [] (y ∷ ys) bs h r t = absurd r
cells_tell R [] [] [] (b ∷ bs) h r t = absurd t
cells_tell R [] (w ∷ ws) ys bs h r t = cc
cells_tell R (c ∷ cs) [] ys bs h r t = cc
cells_tell R (c ∷ cs) (w ∷ ws) [] bs h r t = absurd r
cells_tell R (c ∷ cs) (w ∷ ws) (y ∷ ys) [] h r t = absurd t
cells_tell R (c ∷ cs) (w ∷ ws) (y ∷ ys) (b ∷ bs) h r t =
    let e = both _ _ h in
    let first : y ≡ b = t.0 y (subst (λ d. R d y) (cell_is c w e.0) r.0) in
    ap (λ z. z ∷ ys) first ∙ ap (λ zs. b ∷ zs) (cells_tell R cs ws ys bs e.1 r.1 t.1)

module _ (address : TextPlace → ℕ) (IsSlot : TextPlace → ℕ → ℕ → Type 0) where
  code_cells_tell : (p : TextPlace) → Pairwise (Tells (MeansCell address IsSlot)) (code_cells p) (bytes_of_long (address p))
  unfolding bytes_of_long
  code_cells_tell p = (
    λ m h. sym h,
    (
      λ m h. sym h,
      (
        λ m h. sym h,
        (
          λ m h. sym h,
          (λ m h. sym h, (λ m h. sym h, (λ m h. sym h, (λ m h. sym h, tt)))),
        ),
      ),
    ),
  )

  difference_cells_tell :
      (p : TextPlace) (n : ℕ) →
      Pairwise (Tells (MeansCell address IsSlot)) (difference_cells p n) (take 4 (bytes_of_long (difference address p n)))
  unfolding bytes_of_long
  difference_cells_tell p n = (λ m h. sym h.0, (λ m h. sym h.0, (λ m h. sym h.0, (λ m h. sym h.0, tt))))

  -- cells that are a place's pieces spell its address
  pub code_spelled :
      (p : TextPlace) (cs : List Cell) (ys : List ℕ) →
      address p < 2 ^ 64 →
      same_cells cs (code_cells p) ≡ true →
      Pairwise (MeansCell address IsSlot) cs ys →
      spelled ys ≡ address p
  code_spelled p cs ys low h r =
      ap spelled (cells_tell (MeansCell address IsSlot) cs (code_cells p) ys (bytes_of_long (address p)) h r (code_cells_tell p))
      ∙ long_spelled (address p) low

  -- cells that are the pieces of a difference spell its low word
  pub difference_spelled :
      (p : TextPlace) (n : ℕ) (cs : List Cell) (ys : List ℕ) →
      same_cells cs (difference_cells p n) ≡ true →
      Pairwise (MeansCell address IsSlot) cs ys →
      spelled ys ≡ difference address p n % 2 ^ 32
  difference_spelled p n cs ys h r =
      ap spelled (cells_tell (MeansCell address IsSlot) cs (difference_cells p n) ys (take 4 (bytes_of_long (difference address p n))) h r
      (difference_cells_tell p n))
      ∙ word_spelled (difference address p n) (mod-lt _ (omega arith))
