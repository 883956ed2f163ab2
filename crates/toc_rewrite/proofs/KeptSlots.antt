-- Slots that are left are the foldable ones.
use Rattle.std.proofs.Common.{◌≡◌, ◌<◌, ◌≤◌, ◌^◌, ◌%◌, ◌-◌, ℕ, zero, suc, ◌+◌, Bool, true, false, not, ◌&&◌, ◌||◌, eqb, List, [], ◌∷◌, ◌++◌, map, filter, flat_map, length, slice_index, take, drop, None, sym, ap, ◌∙◌, subst, refl, arith, if◌then◌else◌}
use Rattle.std.specs.List.{list_any, slice_index_or, All, range_with_len}
use Rattle.std.specs.List.Sorted.{IsPermutation}
use Rattle.std.proofs.lemmas.Bool.{and_parts}
use Rattle.std.proofs.lemmas.Bool.Decides.{nat_tests}
use Rattle.std.proofs.lemmas.List.{length-map}
use Rattle.std.proofs.lemmas.List.FromFn.{length-range_with_len}
use Rattle.std.proofs.lemmas.List.Sorted.{list_any-IsPermutation, length_permutation}
use Rattle.elf64_records.specs.declared.headers.TheConstants.{FILE_LIMIT}
use Rattle.elf64_records.specs.First.{◌orelse◌, when}
use Rattle.elf64_records.specs.laws.First.{both_none}
use Rattle.elf64_records.specs.Sections.{section_bytes, has_bytes, sh_offset, sh_size}
use Rattle.object_set.specs.declared.places.RecordId.{RecordId}
use Rattle.object_set.specs.declared.refusal.Refusal.{Refusal}
use Rattle.object_set.specs.declared.refusal.Refusal.TheVariants.{FileTooLong}
use Rattle.object_set.specs.Files.{file_at}
use Rattle.object_set.specs.Refusals.{set_refusal, file_refusal, length_refusal, fault_refusal, sections_refusal, symbols_refusal}
use Rattle.object_set.specs.Sections.{sort_of}
use Rattle.object_set.specs.Walks.{IsRecord, section_walk, index_of}
use Rattle.object_set.specs.laws.Fit.{file_fit}
use Rattle.object_set.specs.laws.Walks.{all_records_in}
use Rattle.symbol_table.specs.Records.{records_refusal}
use Rattle.toc_rewrite.specs.declared.found.Slot.{Slot}
use Rattle.toc_rewrite.specs.declared.uses.SlotUse.{SlotUse}
use Rattle.toc_rewrite.specs.Laid.{LaidFiles, HasAddresses, base_of}
use Rattle.toc_rewrite.specs.Records.{facts_of, kind_of, record_target, all_records}
use Rattle.toc_rewrite.specs.Folds.{is_orderly, is_address, is_toc_sort, fills_slot, fills_alone, reaches, slot_address, needs_slot, fills_foldable, slot_records}
use Rattle.toc_rewrite.specs.Folded.{slot_of, is_slot_at, AreFolds}
use Rattle.toc_rewrite.specs.inside.Uses.{use_of, is_below, is_above}
use Rattle.toc_rewrite.specs.inside.Slots.{is_candidate, candidate_of, IsLowSlot, is_free}
use Rattle.toc_rewrite.proofs.LoneFields.{address_alone}
use Rattle.toc_rewrite.proofs.NeededSlots.{kept_needed}
use Rattle.toc_rewrite.proofs.Sections.{mapped_at}
use Rattle.toc_rewrite.proofs.SoundRecords.{address_lies, address_kind}

-- a file isn't long, nor are its sections
short_case : (test : Bool) (r : Refusal) → when test r ≡ None → test ≡ false
short_case true r none = cc
short_case false r none = refl

file_short : (file : ℕ) (b : List ℕ) → file_refusal file b ≡ None → length b ≤ FILE_LIMIT
unfolding file_refusal
file_short file b none =
    let first = both_none (length_refusal file b)
    (fault_refusal file b orelse (sections_refusal file b orelse symbols_refusal file b)) none in
    let short = short_case _ (FileTooLong file) first.0 in
    grind (arith, nat_tests, short)

take_short : (n : ℕ) (xs : List ℕ) → length (take n xs) ≤ length xs
take_short zero xs = omega arith
take_short (suc n) [] = omega arith
take_short (suc n) (x ∷ xs) = let rest = take_short n xs in omega (arith, rest)

drop_short : (n : ℕ) (xs : List ℕ) → length (drop n xs) ≤ length xs
drop_short zero xs = omega arith
drop_short (suc n) [] = omega arith
drop_short (suc n) (x ∷ xs) = let rest = drop_short n xs in omega (arith, rest)

bytes_case : (b : List ℕ) (i j : ℕ) (has : Bool) → length (if has then take j (drop i b) else []) ≤ length b
bytes_case b i j true = let front = take_short j (drop i b) in let rest = drop_short i b in omega (arith, front, rest)
bytes_case b i j false = omega arith

section_short : (b : List ℕ) (i : ℕ) → length (section_bytes b i) ≤ length b
section_short b i = bytes_case b (sh_offset b i) (sh_offset b i + sh_size b i - sh_offset b i) (has_bytes b i)

-- what is so of each candidate
module _ (laid : LaidFiles) (P : Slot → Type 0) where
  at_case : (s : Slot) (rest : List Slot) → P s → All P rest → (k : ℕ) (d : Slot) → k < suc (length rest) →
      P (slice_index_or (s ∷ rest) k d)
  at_case s rest this all zero d within = this
  at_case s rest this all (suc k) d within = all k d (omega arith)

  all_case : (r : RecordId) (rest : List Slot) (b : Bool) → is_candidate laid r ≡ b → (is_candidate laid r ≡ true → P (slot_of laid r)) →
      All P rest → All P ((if b then slot_of laid r ∷ [] else []) ++ rest)
  all_case r rest false is this all = all
  all_case r rest true is this all = λ k d within. at_case (slot_of laid r) rest (this is) all k d within

  pub all_candidates : (rs : List RecordId) → All (IsRecord laid.files) rs →
      ((r : RecordId) → IsRecord laid.files r → is_candidate laid r ≡ true → P (slot_of laid r)) → All P (flat_map (candidate_of laid) rs)
  all_candidates [] all each = λ k d within. absurd (omega arith)
  all_candidates (r ∷ rs) all each =
      all_case r (flat_map (candidate_of laid) rs) (is_candidate laid r) refl (each r (all 0 r (omega arith)))
      (all_candidates rs (λ k d within. all (suc k) d (omega arith)) each)

-- candidates that pass a test are the records that pass another one
module _ (laid : LaidFiles) (q : Slot → Bool) (p : RecordId → Bool) where
  kept_case : (r : RecordId) (more : List Slot) (rest : List RecordId) (c t u : Bool) → (c && t) ≡ u → q (slot_of laid r) ≡ t →
      filter q more ≡ map (slot_of laid) rest →
      filter q ((if c then slot_of laid r ∷ [] else []) ++ more) ≡ map (slot_of laid) (if u then r ∷ rest else rest)
  kept_case r more rest false t true same is before = cc
  kept_case r more rest false t false same is before = before
  kept_case r more rest true true true same is before =
      ap (λ (b : Bool). if b then slot_of laid r ∷ filter q more else filter q more) is ∙ ap (λ (l : List Slot). slot_of laid r ∷ l) before
  kept_case r more rest true false false same is before =
      ap (λ (b : Bool). if b then slot_of laid r ∷ filter q more else filter q more) is ∙ before
  kept_case r more rest true true false same is before = cc
  kept_case r more rest true false true same is before = cc

  pub kept_are : (rs : List RecordId) → All (IsRecord laid.files) rs →
      ((r : RecordId) → IsRecord laid.files r → (is_candidate laid r && q (slot_of laid r)) ≡ p r) →
      filter q (flat_map (candidate_of laid) rs) ≡ map (slot_of laid) (filter p rs)
  kept_are [] all each = refl
  kept_are (r ∷ rs) all each =
      kept_case r (flat_map (candidate_of laid) rs) (filter p rs) (is_candidate laid r) (q (slot_of laid r)) (p r)
      (each r (all 0 r (omega arith))) refl (kept_are rs (λ k d within. all (suc k) d (omega arith)) each)

-- an address and an offset that are low
room_of : (a o : ℕ) → a < 0x60000000 → o + 8 ≤ 0x10000000 → a + o + 8 < 2 ^ 64
room_of a o low small = omega arith

bool_case : (fills alone orderly reach need : Bool) → (fills ≡ true → alone ≡ true) →
    ((fills && reach) && (orderly && not need)) ≡ (fills && alone && orderly && reach && not need)
bool_case true true true true need lone = refl
bool_case true true true false need lone = refl
bool_case true true false true need lone = refl
bool_case true true false false need lone = refl
bool_case true false orderly reach need lone = let is = lone refl in cc
bool_case false alone orderly reach need lone = refl

any_mapped : (laid : LaidFiles) (test : Slot → Bool) (rs : List RecordId) →
    list_any test (map (slot_of laid) rs) ≡ list_any (λ r. test (slot_of laid r)) rs
any_mapped laid test [] = refl
any_mapped laid test (r ∷ rs) = ap (λ (b : Bool). test (slot_of laid r) || b) (any_mapped laid test rs)

-- whether a file is orderly is read
orderly_read : (xs : List Bool) (k : ℕ) (d e : Bool) → k < length xs → slice_index_or xs k d ≡ slice_index_or xs k e
orderly_read [] k d e within = absurd (omega arith)
orderly_read (x ∷ xs) zero d e within = refl
orderly_read (x ∷ xs) (suc k) d e within = orderly_read xs k d e (omega arith)

orderly_of : (files : List (List ℕ)) (orderly : List Bool) (file : ℕ) →
    orderly ≡ map (is_orderly files) (range_with_len 0 (length files)) → file < length files →
    slice_index_or orderly file false ≡ is_orderly files file
orderly_of files orderly file judged within =
    let count = ap length judged in
    let inside : file < length orderly =
    omega (arith, within, count, length-map (range_with_len 0 (length files)) (is_orderly files), length-range_with_len 0 (length files)) in
    mapped_at (is_orderly files) (length files) file orderly (slice_index_or orderly file false) judged within
    (orderly_read orderly file false (slice_index_or orderly file false) inside)

module _ (laid : LaidFiles) (whole : set_refusal laid.files ≡ None) (few : length laid.files ≤ 4096)
    (none : records_refusal laid.files ≡ None) (addresses : HasAddresses laid) where
  fills_parts : (r : RecordId) → fills_slot laid.files r ≡ true →
      (is_address (kind_of laid.files r) ≡ true) × (is_toc_sort (sort_of (file_at laid.files r.file) r.section) ≡ true)
  fills_parts r fills =
      let toc = is_toc_sort (sort_of (file_at laid.files r.file) r.section) in
      let parts = and_parts (is_address (kind_of laid.files r) && toc) (eqb ((facts_of laid.files r).offset % 8) 0) fills in
      and_parts (is_address (kind_of laid.files r)) toc parts.0

  -- a slot that a record fills is low
  low_slot : (r : RecordId) → IsRecord laid.files r → is_candidate laid r ≡ true → IsLowSlot (length laid.files) (slot_of laid r)
  low_slot r is candidate =
      let b = file_at laid.files r.file in
      let fills = and_parts (fills_slot laid.files r) (reaches laid (base_of laid r.file) (record_target laid.files r)) candidate in
      let parts = fills_parts r fills.0 in
      let lies = address_lies laid.files r whole none is parts.0 parts.1 in
      let short = section_short b r.section in
      let file = file_short r.file b (file_fit laid.files r.file whole is.file_in) in
      let low = addresses.low_pieces in
      let place = index_of section_walk laid.files r.file r.section in
      record {
        file_in = is.file_in;
        file_low = omega (arith, is.file_in, few);
        room = room_of (slice_index laid.pieces place) (facts_of laid.files r).offset (low place) (omega (arith, lies, short, file));
      }

  pub low_slots : (slots : List Slot) → slots ≡ flat_map (candidate_of laid) (all_records laid.files) →
      All (IsLowSlot (length laid.files)) slots
  low_slots slots is =
      subst (All (IsLowSlot (length laid.files))) (sym is)
      (all_candidates laid (IsLowSlot (length laid.files)) (all_records laid.files) (all_records_in laid.files) low_slot)

  -- a candidate that is free is foldable
  free_case : (orderly : List Bool) (uses : List SlotUse) →
      orderly ≡ map (is_orderly laid.files) (range_with_len 0 (length laid.files)) →
      IsPermutation (flat_map (use_of laid) (all_records laid.files)) uses → (r : RecordId) → IsRecord laid.files r →
      (is_candidate laid r && is_free orderly uses (slot_of laid r)) ≡ fills_foldable laid r
  free_case orderly uses judged same r is =
      let fills = fills_slot laid.files r in
      let reach = reaches laid (base_of laid r.file) (record_target laid.files r) in
      let address = slot_address laid r in
      let kept = list_any (is_below r.file address) uses || list_any (is_above r.file address) uses in
      let own : slice_index_or orderly r.file false ≡ is_orderly laid.files r.file =
      orderly_of laid.files orderly r.file judged is.file_in in
      let need : kept ≡ list_any (needs_slot laid r.file address) (all_records laid.files) =
      kept_needed laid r.file address (omega (arith, is.file_in, few)) few uses same in
      ap (λ (o : Bool). (fills && reach) && (o && not kept)) own
      ∙ ap (λ (n : Bool). (fills && reach) && (is_orderly laid.files r.file && not n)) need
      ∙ bool_case fills (fills_alone laid.files r) (is_orderly laid.files r.file) reach
      (list_any (needs_slot laid r.file address) (all_records laid.files))
      (λ does. address_alone laid.files none r is (address_kind (kind_of laid.files r) (fills_parts r does).0))

  -- the candidates that are free are the foldable slots
  pub free_are : (orderly : List Bool) (uses : List SlotUse) (slots free : List Slot) →
      orderly ≡ map (is_orderly laid.files) (range_with_len 0 (length laid.files)) →
      IsPermutation (flat_map (use_of laid) (all_records laid.files)) uses →
      slots ≡ flat_map (candidate_of laid) (all_records laid.files) → free ≡ filter (is_free orderly uses) slots →
      free ≡ map (slot_of laid) (slot_records laid)
  free_are orderly uses slots free judged same found are =
      are ∙ ap (filter (is_free orderly uses)) found
      ∙ kept_are laid (is_free orderly uses) (fills_foldable laid) (all_records laid.files) (all_records_in laid.files)
      (free_case orderly uses judged same)

-- the foldable slots in another order
pub sorted_folds : (laid : LaidFiles) (orderly : List Bool) (free slots : List Slot) →
    orderly ≡ map (is_orderly laid.files) (range_with_len 0 (length laid.files)) →
    free ≡ map (slot_of laid) (slot_records laid) → IsPermutation free slots →
    AreFolds laid (record { orderly = orderly; slots = slots })
sorted_folds laid orderly free slots judged are same = record {
  orderly = judged;
  slots = subst (λ (l : List Slot). IsPermutation l slots) are same;
  count = length_permutation free slots same ∙ ap length are ∙ length-map (slot_records laid) (slot_of laid);
  folded = λ file section offset.
      sym (list_any-IsPermutation (is_slot_at file section offset) free slots same)
      ∙ ap (list_any (is_slot_at file section offset)) are
      ∙ any_mapped laid (is_slot_at file section offset) (slot_records laid);
}
