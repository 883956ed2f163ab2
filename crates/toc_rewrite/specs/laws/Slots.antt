-- What is so of foldable slots: the records that go into one only load it, and what is looked up is one.
use Rattle.std.proofs.Common.{◌≡◌, ◌<◌, ℕ, zero, suc, Bool, true, false, not, ◌&&◌, ◌||◌, eqb, List, [], ◌∷◌, map, filter, length, Option, Some, sym, ap, ◌∙◌, subst, refl, arith, if◌then◌else◌}
use Rattle.std.specs.List.{list_any, slice_index_or, All}
use Rattle.std.proofs.lemmas.Bool.{and_parts}
use Rattle.std.proofs.lemmas.List.Sorted.{list_any-IsPermutation, Contains-permutation, IsPermutation-sym}
use Rattle.object_set.specs.declared.places.RecordId.{RecordId}
use Rattle.object_set.specs.Walks.{IsRecord}
use Rattle.object_set.specs.laws.Walks.{all_records_in}
use Rattle.reloc_fields.specs.declared.kind.Kind.{Kind}
use Rattle.reloc_fields.specs.declared.kind.Kind.TheVariants.{Toc16Lo}
use Rattle.toc_rewrite.specs.declared.found.Slot.{Slot}
use Rattle.toc_rewrite.specs.Laid.{LaidFiles, base_of}
use Rattle.toc_rewrite.specs.Records.{kind_of, word_at, record_target, record_number, is_of_prologue, all_records}
use Rattle.toc_rewrite.specs.Folds.{is_orderly, fills_slot, fills_alone, reaches, slot_address, lies_in, is_number, loads_only, only_loads_slot, needs_slot, fills_foldable, slot_records}
use Rattle.toc_rewrite.specs.Folded.{FoldedSlots, slot_of, is_slot_named, IsNamedSlot, AreFolds}
use Rattle.toc_rewrite.specs.laws.Entries.{record_passes}

-- the parts of what makes a slot foldable
pub record IsFoldable (laid : LaidFiles) (s : RecordId) : Type 0 where
  pub fills : fills_slot laid.files s ≡ true
  pub alone : fills_alone laid.files s ≡ true
  pub orderly : is_orderly laid.files s.file ≡ true
  pub reach : reaches laid (base_of laid s.file) (record_target laid.files s) ≡ true
  pub free : list_any (needs_slot laid s.file (slot_address laid s)) (all_records laid.files) ≡ false

not_true : (b : Bool) → not b ≡ true → b ≡ false
not_true true is = cc
not_true false is = refl

pub foldable_parts : (laid : LaidFiles) (s : RecordId) → fills_foldable laid s ≡ true → IsFoldable laid s
foldable_parts laid s folds =
    let fills = fills_slot laid.files s in
    let alone = fills_alone laid.files s in
    let orderly = is_orderly laid.files s.file in
    let reach = reaches laid (base_of laid s.file) (record_target laid.files s) in
    let need = list_any (needs_slot laid s.file (slot_address laid s)) (all_records laid.files) in
    let a = and_parts (fills && alone && orderly && reach) (not need) folds in
    let b = and_parts (fills && alone && orderly) reach a.0 in
    let c = and_parts (fills && alone) orderly b.0 in
    let d = and_parts fills alone c.0 in
    record { fills = d.0; alone = d.1; orderly = c.1; reach = b.1; free = not_true need a.1 }

needed_case : (pro lies only : Bool) → pro ≡ false → lies ≡ true → (not pro && lies && not only) ≡ false → only ≡ true
needed_case true lies only own in_it none = cc
needed_case false false only own in_it none = cc
needed_case false true true own in_it none = refl
needed_case false true false own in_it none = cc

not_needed : (need all : Bool) → (need ≡ true → all ≡ true) → all ≡ false → need ≡ false
not_needed true all some none = let is = some refl in cc
not_needed false all some none = refl

-- a record of its own file that names its first byte, and only loads it
pub record IsLoad (laid : LaidFiles) (file address : ℕ) (r : RecordId) : Type 0 where
  pub file_is : eqb r.file file ≡ true
  pub names : is_number address (record_number laid r) ≡ true
  pub loads : loads_only (kind_of laid.files r) (word_at laid.files r) ≡ true

-- each record that goes into a foldable slot is such a one, but for those of recognised prologues
pub users_load : (laid : LaidFiles) (s r : RecordId) → fills_foldable laid s ≡ true → IsRecord laid.files r →
    is_of_prologue laid.files r ≡ false → lies_in (slot_address laid s) (record_number laid r) ≡ true →
    IsLoad laid s.file (slot_address laid s) r
users_load laid s r folds is own lies =
    let address = slot_address laid s in
    let test = needs_slot laid s.file address in
    let parts = foldable_parts laid s folds in
    let none : test r ≡ false =
    not_needed (test r) (list_any test (all_records laid.files)) (record_passes test laid.files r is) parts.free in
    let only = needed_case (is_of_prologue laid.files r) (lies_in address (record_number laid r))
    (only_loads_slot laid s.file address r) own lies none in
    let loads = loads_only (kind_of laid.files r) (word_at laid.files r) in
    let both = and_parts (eqb r.file s.file && is_number address (record_number laid r)) loads only in
    let first = and_parts (eqb r.file s.file) (is_number address (record_number laid r)) both.0 in
    record { file_is = first.0; names = first.1; loads = both.1 }

-- so no low half but that of an `ld` goes there
low_case : (o : Option Kind) (word : ℕ) → o ≡ Some Toc16Lo → loads_only o word ≡ false
low_case o word is = ap (λ (x : Option Kind). loads_only x word) is

low_lies : (laid : LaidFiles) (s r : RecordId) → fills_foldable laid s ≡ true → IsRecord laid.files r →
    is_of_prologue laid.files r ≡ false → kind_of laid.files r ≡ Some Toc16Lo → (b : Bool) →
    lies_in (slot_address laid s) (record_number laid r) ≡ b → b ≡ false
low_lies laid s r folds is own low false lies = refl
low_lies laid s r folds is own low true lies =
    let loads = (users_load laid s r folds is own lies).loads in
    let none = low_case (kind_of laid.files r) (word_at laid.files r) low in
    cc

pub no_low_half : (laid : LaidFiles) (s r : RecordId) → fills_foldable laid s ≡ true → IsRecord laid.files r →
    is_of_prologue laid.files r ≡ false → kind_of laid.files r ≡ Some Toc16Lo →
    lies_in (slot_address laid s) (record_number laid r) ≡ false
no_low_half laid s r folds is own low =
    low_lies laid s r folds is own low (lies_in (slot_address laid s) (record_number laid r)) refl

-- an element of a list that was picked out and made of others
record IsMade (laid : LaidFiles) (rs : List RecordId) (s : Slot) : Type 0 where
  of : RecordId
  within : IsRecord laid.files of
  folds : fills_foldable laid of ≡ true
  is : s ≡ slot_of laid of

made_case : (laid : LaidFiles) (r : RecordId) (rest : List RecordId) (b : Bool) (k : ℕ) (s : Slot) → fills_foldable laid r ≡ b →
    IsRecord laid.files r →
    ((i : ℕ) (t : Slot) → i < length (map (slot_of laid) (filter (fills_foldable laid) rest)) →
    slice_index_or (map (slot_of laid) (filter (fills_foldable laid) rest)) i t ≡ t → IsMade laid rest t) →
    k < length (map (slot_of laid) (if b then r ∷ filter (fills_foldable laid) rest else filter (fills_foldable laid) rest)) →
    slice_index_or (map (slot_of laid) (if b then r ∷ filter (fills_foldable laid) rest else filter (fills_foldable laid) rest)) k s ≡ s →
    IsMade laid (r ∷ rest) s
made_case laid r rest false k s folds is later within here =
    let made = later k s within here in record { of = made.of; within = made.within; folds = made.folds; is = made.is }
made_case laid r rest true zero s folds is later within here = record { of = r; within = is; folds = folds; is = sym here }
made_case laid r rest true (suc k) s folds is later within here =
    let made = later k s (omega arith) here in record { of = made.of; within = made.within; folds = made.folds; is = made.is }

made_at : (laid : LaidFiles) (rs : List RecordId) → All (IsRecord laid.files) rs → (k : ℕ) (s : Slot) →
    k < length (map (slot_of laid) (filter (fills_foldable laid) rs)) →
    slice_index_or (map (slot_of laid) (filter (fills_foldable laid) rs)) k s ≡ s → IsMade laid rs s
made_at laid [] all k s within here = absurd (omega arith)
made_at laid (r ∷ rs) all k s within here =
    made_case laid r rs (fills_foldable laid r) k s refl (all 0 r (omega arith))
    (made_at laid rs (λ i d inside. all (suc i) d (omega arith))) within here

-- what is looked up is a foldable slot of the file that begins at the number
pub record IsSlot (laid : LaidFiles) (file number : ℕ) (s : Slot) : Type 0 where
  pub within : IsRecord laid.files s.id
  pub folds : fills_foldable laid s.id ≡ true
  pub file_is : s.id.file ≡ file
  pub begins : slot_address laid s.id ≡ number
  pub is : s ≡ slot_of laid s.id

pub named_slot : (laid : LaidFiles) (f : FoldedSlots) (file number : ℕ) (s : Slot) → AreFolds laid f → IsNamedSlot f file number s →
    IsSlot laid file number s
named_slot laid f file number s are named =
    let slots = map (slot_of laid) (slot_records laid) in
    let one = Contains-permutation f.slots slots s (IsPermutation-sym slots f.slots are.slots) named.one in
    let made = made_at laid (all_records laid.files) (all_records_in laid.files) one.0 s one.1 one.2 in
    let id : s.id ≡ made.of = ap (λ (t : Slot). t.id) made.is in
    record {
      within = subst (IsRecord laid.files) (sym id) made.within;
      folds = ap (fills_foldable laid) id ∙ made.folds;
      file_is = named.file_is;
      begins = ap (slot_address laid) id ∙ sym (ap (λ (t : Slot). t.address) made.is) ∙ named.begins;
      is = made.is ∙ ap (slot_of laid) (sym id);
    }

any_mapped : (laid : LaidFiles) (test : Slot → Bool) (rs : List RecordId) →
    list_any test (map (slot_of laid) rs) ≡ list_any (λ r. test (slot_of laid r)) rs
any_mapped laid test [] = refl
any_mapped laid test (r ∷ rs) = ap (λ (b : Bool). test (slot_of laid r) || b) (any_mapped laid test rs)

-- where none is looked up there is none
pub none_named : (laid : LaidFiles) (f : FoldedSlots) (file number : ℕ) → AreFolds laid f →
    list_any (is_slot_named file number) f.slots ≡ false →
    list_any (λ r. eqb r.file file && eqb (slot_address laid r) number) (slot_records laid) ≡ false
none_named laid f file number are none =
    let slots = map (slot_of laid) (slot_records laid) in
    sym (any_mapped laid (is_slot_named file number) (slot_records laid))
    ∙ list_any-IsPermutation (is_slot_named file number) slots f.slots are.slots ∙ none
