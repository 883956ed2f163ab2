-- The fields of a file while they are looked up.
use Rattle.std.specs.Prelude.{◌≡◌, ◌≢◌, ◌<◌, ◌≤◌, ◌+◌, ◌⊎◌, ℕ, Bool, ◌||◌, List, [], ◌∷◌, IsTrue, length, None, Some, Option}
use Rattle.std.specs.List.{list_any, AllAdjacentBelow}
use Rattle.std.specs.List.Sorted.{IsPermutation, IsNonDecreasingBy}
use Rattle.object_set.specs.Files.{file_at}
use Rattle.object_set.specs.Walks.{IsRecord}
use Rattle.symbol_table.specs.declared.places.FilePlace.{FilePlace}
use Rattle.symbol_table.specs.declared.fields.RecordField.{RecordField}
use Rattle.symbol_table.specs.Fields.{fields_of}
use Rattle.symbol_table.specs.inside.Places.{rank}

-- a file of a set
pub record FileOf : Type 0 where
  pub files : List (List ℕ)
  pub file : ℕ

-- where a field begins
abbrev pub place_of : RecordField → FilePlace
place_of f = record { section = f.id.section; offset = f.start }

abbrev pub rank_of : RecordField → ℕ
rank_of f = rank (place_of f)

-- a field of a record of a file of a set
pub record IsFieldOf (files : List (List ℕ)) (file : ℕ) (f : RecordField) : Type 0 where
  pub record_in : IsRecord files f.id
  pub file_is : f.id.file ≡ file
  pub width_most : f.width ≤ 8

-- fields of a file, in order of their places
pub record AreFileFields (files : List (List ℕ)) (file : ℕ) (items : List RecordField) : Type 0 where
  pub file_in : file < length files
  pub same : IsPermutation (fields_of file (file_at files file)) items
  pub sorted : IsNonDecreasingBy rank_of items

-- a field lies in an earlier section than another one, or ends where that one begins or before
abbrev pub EndsBefore : RecordField → RecordField → Type 0
EndsBefore f g = (f.id.section < g.id.section) ⊎ ((f.id.section ≡ g.id.section) × (f.start + f.width ≤ g.start))

-- each field ends before the next one
abbrev pub AreApart : List RecordField → Type 0
AreApart fields = AllAdjacentBelow EndsBefore fields (length fields)

-- fields of a file, with what is known of how they lie
pub record AreKeptFields (files : List (List ℕ)) (file : ℕ) (items : List RecordField) (apart : Bool) : Type 0 where
  pub fields : AreFileFields files file items
  pub apart_is : IsTrue apart → AreApart items

-- the two fields, where there are two
abbrev pub AreTwo : List RecordField → Option (RecordField × RecordField) → Type 0
AreTwo fields None = length fields ≢ 2
AreTwo fields (Some pair) = fields ≡ pair.0 ∷ pair.1 ∷ []

-- there are two, and these are they, in either order
pub record ArePair (fields : List RecordField) (f g : RecordField) : Type 0 where
  pub count : length fields ≡ 2
  pub pass : (test : RecordField → Bool) → list_any test fields ≡ (test f || test g)

abbrev pub AreOnlyTwo : List RecordField → Option (RecordField × RecordField) → Type 0
AreOnlyTwo fields None = length fields ≢ 2
AreOnlyTwo fields (Some pair) = ArePair fields pair.0 pair.1

-- up to two fields are held, of two the earlier one first
abbrev pub AreHeld : List RecordField → Option RecordField → Option RecordField → Type 0
AreHeld fields None None = fields ≡ []
AreHeld fields None (Some g) = fields ≡ g ∷ []
AreHeld fields (Some f) None = ⊥
AreHeld fields (Some f) (Some g) = fields ≡ f ∷ g ∷ []
