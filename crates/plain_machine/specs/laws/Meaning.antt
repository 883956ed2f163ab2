-- What values, bytes and bits of the machine of places stand for where text is laid out: numbers of the machine of numbers.
use Rattle.std.specs.Prelude.{◌≡◌, ◌≢◌, ◌<◌, ℕ, ◌+◌, ◌-◌, ◌*◌, ◌/◌, ◌%◌, ◌^◌, Bool, true, Option, Some, None, slice_index}
use Rattle.power_insns.specs.declared.meaning.Width.TheVariants.{Word}
use Rattle.power_insns.specs.declared.meaning.Sign.TheVariants.{Signed}
use Rattle.power_insns.specs.Arithmetic.{widened}
use Rattle.power_machine.specs.Bytes.{bytes_of_long}
use Rattle.power_machine.specs.Machines.{sum_address}
use Rattle.plain_machine.specs.declared.place.TextPlace.{TextPlace}
use Rattle.plain_machine.specs.declared.value.Part.{Part as PartOf}
use Rattle.plain_machine.specs.declared.value.PlainValue.{PlainValue}
use Rattle.plain_machine.specs.declared.value.PlainValue.TheVariants.{Number, Code, Part, Pair, Difference, Junk}
use Rattle.plain_machine.specs.declared.value.Cell.{Cell}
use Rattle.plain_machine.specs.declared.value.Cell.TheVariants as cell
use Rattle.plain_machine.specs.Plain.{place_ahead, is_inside}

-- The address of each place of text: what must hold of it where text sections have these sizes. A section lies in one piece, at a multiple of
-- 4; what is inside of one lies nowhere else, and not at 0.
pub record IsSound (size_of : ℕ → ℕ) (address : TextPlace → ℕ) : Type 0 where
  pub low : (p : TextPlace) → address p < 2 ^ 64
  pub ahead : (p : TextPlace) (n : ℕ) → address (place_ahead p n) ≡ sum_address (address p) n
  pub aligned : (p : TextPlace) → address (record { section = p.section; offset = p.offset / 4 * 4 }) ≡ address p / 4 * 4
  pub apart : (p q : TextPlace) → is_inside size_of p ≡ true → is_inside size_of q ≡ true → address p ≡ address q → p ≡ q
  pub some : (p : TextPlace) → is_inside size_of p ≡ true → address p ≢ 0

module _ (address : TextPlace → ℕ) where
  abbrev pub difference : TextPlace → ℕ → ℕ
  difference p n = (address p + (2 ^ 64 - n)) % 2 ^ 64

  abbrev pub MeansPlace : TextPlace → ℕ → Type 0
  MeansPlace p m = address p ≡ m

  -- A byte, where `IsSlot` tells what may stand for a byte of a saved TOC base. A difference stands in four bytes, so it is a signed number
  -- of so many.
  abbrev pub MeansCell : (TextPlace → ℕ → ℕ → Type 0) → Cell → ℕ → Type 0
  MeansCell IsSlot (cell.Number n) m = n ≡ m
  MeansCell IsSlot (cell.Code p i) m = slice_index (bytes_of_long (address p)) i ≡ m
  MeansCell IsSlot (cell.Slot site i) m = IsSlot site i m
  MeansCell IsSlot (cell.Difference p n i) m =
      (slice_index (bytes_of_long (difference p n)) i ≡ m) × (widened Word Signed (difference p n) ≡ difference p n)
  MeansCell IsSlot cell.Junk m = Unit {0}

  -- A value, where `IsPart` and `IsPair` tell what may stand for a part of an address and for the address of a pair: that depends on what is
  -- rewritten. Junk stands for anything.
  abbrev pub Means : (PartOf → ℕ → Type 0) → (TextPlace → ℕ → Type 0) → PlainValue → ℕ → Type 0
  Means IsPart IsPair (Number n) m = n ≡ m
  Means IsPart IsPair (Code p) m = address p ≡ m
  Means IsPart IsPair (Part a) m = IsPart a m
  Means IsPart IsPair (Pair p) m = IsPair p m
  Means IsPart IsPair (Difference p n) m = difference p n ≡ m
  Means IsPart IsPair Junk m = Unit {0}

abbrev pub MeansBit : Option Bool → Bool → Type 0
MeansBit None b = Unit {0}
MeansBit (Some a) b = a ≡ b
