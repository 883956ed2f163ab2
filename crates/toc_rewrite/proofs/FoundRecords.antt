-- What records are found to be, list by list.
use Rattle.std.proofs.Common.{◌≡◌, ℕ, ◌+◌, List, [], ◌∷◌, ◌++◌, append_assoc, flat_map, sym, ap, ◌∙◌, subst, add-one}
use Rattle.std.proofs.lemmas.List.{append-nil}
use Rattle.std.proofs.lemmas.List.Concat.{flat_map-append}
use Rattle.elf64_records.specs.FileHeader.{e_shnum}
use Rattle.elf64_records.specs.Records.{record_count}
use Rattle.object_set.specs.declared.places.RecordId.{RecordId}
use Rattle.object_set.specs.Files.{file_at}
use Rattle.object_set.specs.Walks.{items_in, items_before, record_walk, record_id, records_in}
use Rattle.toc_rewrite.specs.declared.found.Found.{Found}
use Rattle.toc_rewrite.specs.Laid.{LaidFiles}
use Rattle.toc_rewrite.specs.inside.Uses.{use_of}
use Rattle.toc_rewrite.specs.inside.Slots.{candidate_of, HasFound}

module _ {X : Type 0} (f : RecordId → List X) where
  -- one record
  pub alone : (r : RecordId) → f r ≡ flat_map f (r ∷ [])
  alone r = sym (append-nil (f r))

  -- records behind others
  grown : (xs ys : List RecordId) (a b c : List X) → b ≡ a ++ flat_map f xs → c ≡ b ++ flat_map f ys → c ≡ a ++ flat_map f (xs ++ ys)
  grown xs ys a b c first second =
      second ∙ ap (λ (l : List X). l ++ flat_map f ys) first ∙ append_assoc a (flat_map f xs) (flat_map f ys)
      ∙ ap (λ (l : List X). a ++ l) (sym (flat_map-append f xs ys))

  pub joined : (xs ys : List RecordId) (b c : List X) → b ≡ flat_map f xs → c ≡ b ++ flat_map f ys → c ≡ flat_map f (xs ++ ys)
  joined xs ys b c first second = grown xs ys [] b c first second

module _ (laid : LaidFiles) where
  pub found_none : (a : Found) → HasFound laid [] a a
  found_none a = record { uses = sym (append-nil a.uses.items); slots = sym (append-nil a.slots.items) }

  pub found_more : (xs ys : List RecordId) (a b c : Found) → HasFound laid xs a b → HasFound laid ys b c → HasFound laid (xs ++ ys) a c
  found_more xs ys a b c first second = record {
    uses = grown (use_of laid) xs ys a.uses.items b.uses.items c.uses.items first.uses second.uses;
    slots = grown (candidate_of laid) xs ys a.slots.items b.slots.items c.slots.items first.slots second.slots;
  }

  -- one record of a section more
  pub entry_found : (file table n : ℕ) (r : RecordId) (a b c : Found) → r ≡ record_id file (file_at laid.files file) table n →
      HasFound laid (records_in file (file_at laid.files file) table n) a b → HasFound laid (r ∷ []) b c →
      HasFound laid (records_in file (file_at laid.files file) table (n + 1)) a c
  entry_found file table n r a b c is first second =
      let own = file_at laid.files file in
      let this = subst (λ (x : RecordId). HasFound laid (x ∷ []) b c) is second in
      subst (λ (m : ℕ). HasFound laid (records_in file own table m) a c) (sym (add-one n))
      (found_more (records_in file own table n) (record_id file own table n ∷ []) a b c first this)

  -- one section of a file more
  pub table_found : (file n : ℕ) (a b c : Found) →
      HasFound laid (items_in record_walk file (file_at laid.files file) n) a b →
      (let own = file_at laid.files file in HasFound laid (records_in file own n (record_count own n)) b c) →
      HasFound laid (items_in record_walk file (file_at laid.files file) (n + 1)) a c
  table_found file n a b c first second =
      let own = file_at laid.files file in
      subst (λ (m : ℕ). HasFound laid (items_in record_walk file own m) a c) (sym (add-one n))
      (found_more (items_in record_walk file own n) (records_in file own n (record_count own n)) a b c first second)

  -- one file more
  pub file_joined : {X : Type 0} (f : RecordId → List X) (n : ℕ) (b c : List X) →
      b ≡ flat_map f (items_before record_walk laid.files n) →
      (let own = file_at laid.files n in c ≡ b ++ flat_map f (items_in record_walk n own (e_shnum own))) →
      c ≡ flat_map f (items_before record_walk laid.files (n + 1))
  file_joined {X} f n b c first second =
      let own = file_at laid.files n in
      joined f (items_before record_walk laid.files n) (items_in record_walk n own (e_shnum own)) b c first second
      ∙ ap (λ (m : ℕ). flat_map f (items_before record_walk laid.files m)) (sym (add-one n))
