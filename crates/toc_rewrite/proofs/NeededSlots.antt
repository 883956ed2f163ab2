-- Which uses keep a slot: those of records that do more than load it.
use Rattle.std.proofs.Common.{◌≡◌, ◌<◌, ◌≤◌, ℕ, ◌+◌, ◌*◌, ◌^◌, Bool, true, false, not, ◌&&◌, ◌||◌, eqb, leb, ltb, List, [], ◌∷◌, flat_map, length, Option, Some, None, sym, ap, ◌∙◌, refl, arith, suc, if◌then◌else◌}
use Rattle.std.specs.List.{list_any, slice_index_or, All}
use Rattle.std.specs.List.Sorted.{IsPermutation}
use Rattle.std.proofs.lemmas.Bool.Decides.{nat_tests}
use Rattle.std.proofs.lemmas.List.Folds.{list_any-append}
use Rattle.std.proofs.lemmas.List.Sorted.{list_any-IsPermutation}
use Rattle.object_set.specs.declared.places.RecordId.{RecordId}
use Rattle.object_set.specs.Walks.{IsRecord}
use Rattle.object_set.specs.laws.Walks.{all_records_in}
use Rattle.toc_rewrite.specs.declared.uses.SlotUse.{SlotUse}
use Rattle.toc_rewrite.specs.Laid.{LaidFiles}
use Rattle.toc_rewrite.specs.Records.{kind_of, word_at, record_number, is_of_prologue, all_records}
use Rattle.toc_rewrite.specs.Folds.{lies_in, is_number, loads_only, needs_slot}
use Rattle.toc_rewrite.specs.inside.Uses.{is_below, is_above, keeps, use_at, use_by, use_of}

module _ {X Y : Type 0} (p : Y → Bool) (f : X → List Y) where
  any_flat : (xs : List X) → list_any p (flat_map f xs) ≡ list_any (λ x. list_any p (f x)) xs
  any_flat [] = refl
  any_flat (x ∷ xs) = list_any-append p (f x) (flat_map f xs) ∙ ap (λ (b : Bool). list_any p (f x) || b) (any_flat xs)

module _ {X : Type 0} (p q : X → Bool) where
  same_any : (xs : List X) → All (λ x. p x ≡ q x) xs → list_any p xs ≡ list_any q xs
  same_any [] same = refl
  same_any (x ∷ xs) same =
      ap (λ (b : Bool). b || list_any p xs) (same 0 x (omega arith))
      ∙ ap (λ (b : Bool). q x || b) (same_any xs (λ k d within. same (suc k) d (omega arith)))

  or_step : (a b c d : Bool) → ((a || b) || (c || d)) ≡ ((a || c) || (b || d))
  or_step true b true d = refl
  or_step true b false d = refl
  or_step false true true d = refl
  or_step false false true d = refl
  or_step false true false d = refl
  or_step false false false d = refl

  any_or : (xs : List X) → (list_any p xs || list_any q xs) ≡ list_any (λ x. p x || q x) xs
  any_or [] = refl
  any_or (x ∷ xs) =
      or_step (p x) (list_any p xs) (q x) (list_any q xs) ∙ ap (λ (b : Bool). (p x || q x) || b) (any_or xs)

-- a use of a number by a file's load, and another one
own_load : (file address n rf : ℕ) → file < 2 ^ 31 → rf < 2 ^ 31 →
    ((leb (address * 2 ^ 33) (n * 2 ^ 33 + rf) && ltb (n * 2 ^ 33 + rf) (address * 2 ^ 33 + file))
    || (leb (address * 2 ^ 33 + (file + 1)) (n * 2 ^ 33 + rf) && ltb (n * 2 ^ 33 + rf) ((address + 8) * 2 ^ 33)))
    ≡ ((leb address n && ltb n (address + 8)) && not (eqb rf file && eqb n address && true))
own_load file address n rf low own = grind (arith, nat_tests)

other_use : (file address n : ℕ) (same : Bool) → file < 2 ^ 31 →
    ((leb (address * 2 ^ 33) (n * 2 ^ 33 + 2 ^ 32) && ltb (n * 2 ^ 33 + 2 ^ 32) (address * 2 ^ 33 + file))
    || (leb (address * 2 ^ 33 + (file + 1)) (n * 2 ^ 33 + 2 ^ 32) && ltb (n * 2 ^ 33 + 2 ^ 32) ((address + 8) * 2 ^ 33)))
    ≡ ((leb address n && ltb n (address + 8)) && not (same && eqb n address && false))
other_use file address n same low = grind (arith, nat_tests)

or_none : (b : Bool) → (b || false) ≡ b
or_none true = refl
or_none false = refl

none_needed : (p q : Bool) → false ≡ (not p && false && q)
none_needed true q = refl
none_needed false q = refl

use_case : (file address n rf : ℕ) (pro loads : Bool) → file < 2 ^ 31 → rf < 2 ^ 31 →
    list_any (keeps file address) (if pro then [] else use_at n rf loads ∷ [])
    ≡ (not pro && (leb address n && ltb n (address + 8)) && not (eqb rf file && eqb n address && loads))
use_case file address n rf true loads low own = refl
use_case file address n rf false true low own = or_none (keeps file address (use_at n rf true)) ∙ own_load file address n rf low own
use_case file address n rf false false low own =
    or_none (keeps file address (use_at n rf false)) ∙ other_use file address n (eqb rf file) low

module _ (laid : LaidFiles) (file address : ℕ) (low : file < 2 ^ 31) (few : length laid.files ≤ 4096) where
  number_case : (r : RecordId) (o : Option ℕ) → r.file < length laid.files →
      list_any (keeps file address) (use_by laid r o)
      ≡ (not (is_of_prologue laid.files r) && lies_in address o
      && not (eqb r.file file && is_number address o && loads_only (kind_of laid.files r) (word_at laid.files r)))
  number_case r None within =
      none_needed (is_of_prologue laid.files r)
      (not (eqb r.file file && false && loads_only (kind_of laid.files r) (word_at laid.files r)))
  number_case r (Some n) within =
      use_case file address n r.file (is_of_prologue laid.files r) (loads_only (kind_of laid.files r) (word_at laid.files r)) low
      (omega arith)

  -- the uses that keep a slot are those of the records that need it
  pub kept_needed : (uses : List SlotUse) → IsPermutation (flat_map (use_of laid) (all_records laid.files)) uses →
      (list_any (is_below file address) uses || list_any (is_above file address) uses)
      ≡ list_any (needs_slot laid file address) (all_records laid.files)
  kept_needed uses same =
      let rs = all_records laid.files in
      any_or (is_below file address) (is_above file address) uses
      ∙ sym (list_any-IsPermutation (keeps file address) (flat_map (use_of laid) rs) uses same)
      ∙ any_flat (keeps file address) (use_of laid) rs
      ∙ same_any (λ r. list_any (keeps file address) (use_of laid r)) (needs_slot laid file address) rs
      (λ k d within. let r = slice_index_or rs k d in
      let is : IsRecord laid.files r = all_records_in laid.files k d within in
      number_case r (record_number laid r) is.file_in)
