-- Memory while sections, slots and fields are put into it: each stands where it was put, since no two have an address in common.
use Rattle.std.proofs.Common.{ℕ, ◌≡◌, ◌≢◌, ◌<◌, ◌+◌, ◌⊎◌, inl, inr, Bool, true, List, length, Some, None, slice_get, ap, sym, subst, ◌∙◌, refl, arith, get_or}
use Rattle.std.proofs.lemmas.Option.{slice_get_within}
use Rattle.std.proofs.lemmas.Bool.{cases_lt}
use Rattle.byteorder.specs.Endian.{little_bytes}
use Rattle.byteorder.specs.Numbers.{length-bytes_low_first}
use Rattle.elf64_records.specs.FileHeader.{e_shnum}
use Rattle.elf64_records.specs.Sections.{section_bytes}
use Rattle.object_set.specs.declared.places.SectionId.{SectionId}
use Rattle.object_set.specs.declared.places.SymbolId.{SymbolId}
use Rattle.object_set.specs.declared.sort.Sort.{Sort}
use Rattle.object_set.specs.declared.sort.Sort.TheVariants.{Text, Zeroed, Toc, Writable, ReadOnly, Dropped}
use Rattle.object_set.specs.Files.{file_at}
use Rattle.object_set.specs.Refusals.{set_refusal}
use Rattle.object_set.specs.Sections.{sort_of, is_kept_sort}
use Rattle.symbol_table.specs.laws.Sections.{bytes_whole}
use Rattle.symbol_table.specs.Sites.{is_data_sort}
use Rattle.toc_groups.specs.Data.{group_slots}
use Rattle.toc_groups.specs.Parts.{Covers, is_laid_sort, slot_place, Takes}
use Rattle.toc_groups.specs.Parts.Part.{of_section, of_slot}
use Rattle.toc_groups.specs.Values.{symbol_address}
use Rattle.toc_groups.specs.Contents.{HoldsBytes, IsStored, IsSlot, section_start, section_size}
use Rattle.toc_groups.specs.inside.Memory.{Puts}
use Rattle.toc_groups.specs.inside.Filled.{SectionFirst, AreCopied, SlotFirst, AreSlotted}
use Rattle.toc_groups.proofs.Apart.{parts_apart}

pub laid_of_data : (s : Sort) → is_data_sort s ≡ true → is_laid_sort s ≡ true
laid_of_data Text is = cc
laid_of_data Zeroed is = cc
laid_of_data Toc is = refl
laid_of_data Writable is = refl
laid_of_data ReadOnly is = refl
laid_of_data Dropped is = cc

kept_of_data : (s : Sort) → is_data_sort s ≡ true → is_kept_sort s ≡ true
kept_of_data Text is = cc
kept_of_data Zeroed is = cc
kept_of_data Toc is = refl
kept_of_data Writable is = refl
kept_of_data ReadOnly is = refl
kept_of_data Dropped is = cc

abbrev pub section : ℕ → ℕ → SectionId
section file i = record { file = file; section = i }

pub same_section : (s t : SectionId) → s.file ≡ t.file → s.section ≡ t.section → s ≡ t
same_section s t file number =
    ap (λ (f : ℕ). section f s.section) file ∙ ap (λ (i : ℕ). section t.file i) number

module _ (files : List (List ℕ)) (span : ℕ) where
  pub stored_part : (s : SectionId) (a : ℕ) → IsStored files s → Covers (section_start files span s) (section_size files s) a →
      Takes files span (of_section s.file s.section) a
  stored_part s a is covers = record {
    is = (is.there.file_in, is.there.within, laid_of_data (sort_of (file_at files s.file) s.section) is.sort);
    covers = covers;
  }

  slot_part : (g k a : ℕ) (s : SymbolId) → IsSlot files span g k s → Covers (slot_place files span g k) 8 a →
      Takes files span (of_slot g k) a
  slot_part g k a s is covers = record {
    is = (is.group_in, slice_get_within (group_slots files span g) k s is.symbol);
    covers = covers;
  }

  pub one_stored : (s t : SectionId) (a : ℕ) → set_refusal files ≡ None → IsStored files s → IsStored files t →
      Covers (section_start files span s) (section_size files s) a → Covers (section_start files span t) (section_size files t) a → s ≡ t
  one_stored s t a whole is is' first second =
      let same = parts_apart files span (of_section s.file s.section) (of_section t.file t.section) a whole
      (stored_part s a is first) (stored_part t a is' second) in
      let file : s.file ≡ t.file = cc in
      let number : s.section ≡ t.section = cc in
      same_section s t file number

  pub slot_beside : (g k a : ℕ) (s : SymbolId) (t : SectionId) → set_refusal files ≡ None → IsSlot files span g k s → IsStored files t →
      Covers (slot_place files span g k) 8 a → Covers (section_start files span t) (section_size files t) a → ⊥
  slot_beside g k a s t whole is is' first second =
      let same = parts_apart files span (of_slot g k) (of_section t.file t.section) a whole (slot_part g k a s is first)
      (stored_part t a is' second) in
      cc

  pub one_slot : (g k h m a : ℕ) (s t : SymbolId) → set_refusal files ≡ None → IsSlot files span g k s → IsSlot files span h m t →
      Covers (slot_place files span g k) 8 a → Covers (slot_place files span h m) 8 a → (g ≡ h) × (k ≡ m)
  one_slot g k h m a s t whole is is' first second =
      let same = parts_apart files span (of_slot g k) (of_slot h m) a whole (slot_part g k a s is first) (slot_part h m a t is' second) in
      let group : g ≡ h = cc in
      let number : k ≡ m = cc in
      (group, number)

  pub same_symbol : (g k h m : ℕ) (s t : SymbolId) → IsSlot files span g k s → IsSlot files span h m t → g ≡ h → k ≡ m → s ≡ t
  same_symbol g k h m s t is is' group number =
      let there : slice_get (group_slots files span g) k ≡ Some t =
      ap (λ (n : ℕ). slice_get (group_slots files span n) k) group ∙ ap (slice_get (group_slots files span h)) number ∙ is'.symbol in
      let both : Some s ≡ Some t = sym is.symbol ∙ there in
      cc

  not_zeroed : (s : Sort) → is_data_sort s ≡ true → s ≢ Zeroed
  not_zeroed s stored is =
      let both : is_data_sort Zeroed ≡ true = sym (ap is_data_sort is) ∙ stored in
      cc

  -- a stored section has as many bytes as its header says
  pub stored_size : (s : SectionId) → set_refusal files ≡ None → IsStored files s →
      length (section_bytes (file_at files s.file) s.section) ≡ section_size files s
  stored_size s whole is =
      let b = file_at files s.file in
      let sort = sort_of b s.section in
      bytes_whole files s.file s.section whole is.there.file_in
      (record { within = is.there.within; kept = kept_of_data sort is.sort }) (not_zeroed sort is.sort)

  pub sort_stored : (set : List (List ℕ)) (file i : ℕ) (sort : Sort) (t : Bool) → set ≡ files → sort ≡ sort_of (file_at set file) i →
      t ≡ is_data_sort sort → t ≡ true → file < length files → i < e_shnum (file_at files file) → IsStored files (section file i)
  sort_stored set file i sort t same is test holds within inside = record {
    there = record { file_in = within; within = inside };
    sort = ap is_data_sort (sym (is ∙ ap (λ (s : List (List ℕ)). sort_of (file_at s file) i) same)) ∙ sym test ∙ holds;
  }

  -- ---- sections

  section_or : (file i : ℕ) (t : SectionId) → SectionFirst file (i + 1) t → SectionFirst file i t ⊎ ((t.file ≡ file) × (t.section ≡ i))
  section_or file i t (inl less) = inl (inl less)
  section_or file i t (inr same) = elim (cases_lt t.section i) [
    | inl less ↦ inl (inr (same.0, less))
    | inr most ↦ inr (same.0, (let e : t.section ≡ i = omega (arith, most, same.1) in e))
  ]

  section_later : (file i : ℕ) (t : SectionId) → SectionFirst file i t → SectionFirst file (i + 1) t
  section_later file i t (inl less) = inl less
  section_later file i t (inr same) = inr (same.0, omega (arith, same.1))

  not_itself : (file i : ℕ) → SectionFirst file i (section file i) → ⊥
  not_itself file i (inl less) = omega (arith, less)
  not_itself file i (inr same) = omega (arith, same.1)

  pub copied_none : (byte : ℕ → ℕ) → ((a : ℕ) → byte a ≡ 0) → AreCopied files span 0 0 byte
  copied_none byte none = record {
    sections = λ s k is first within. absurd (elim first [
      | inl less ↦ (let e : ⊥ = omega (arith, less) in e)
      | inr same ↦ (let e : ⊥ = omega (arith, same.1) in e)
    ]);
    zeros = λ a free. none a;
  }

  pub copied_more : (file i : ℕ) (old new : ℕ → ℕ) → set_refusal files ≡ None → IsStored files (section file i) →
      length (section_bytes (file_at files file) i) ≡ section_size files (section file i) →
      Puts old (section_start files span (section file i)) (section_bytes (file_at files file) i) new →
      AreCopied files span file i old → AreCopied files span file (i + 1) new
  copied_more file i old new whole is long puts before = record {
    sections = λ t k stored first within. elim (section_or file i t first) [
      | inl earlier ↦ (
          let a = section_start files span t + k in
          let here : Covers (section_start files span t) (section_size files t) a =
          record { from = omega arith; below = omega (arith, within) } in
          puts.outside a (λ covers. (
          let there : Covers (section_start files span (section file i)) (section_size files (section file i)) a =
          record { from = covers.from; below = omega (arith, covers.below, long) } in
          let same = one_stored t (section file i) a whole stored is here there in
          not_itself file i (subst (SectionFirst file i) same earlier)))
          ∙ before.sections t k stored earlier within)
      | inr this ↦ (
          let same = same_section t (section file i) this.0 this.1 in
          let P : SectionId → Type 0 = λ u. k < section_size files u →
          new (section_start files span u + k) ≡ get_or (section_bytes (file_at files u.file) u.section) k 0 in
          subst P (sym same) (λ inside. puts.inside k (omega (arith, inside, long))) within)
    ];
    zeros = λ a free.
        puts.outside a (λ covers. free (section file i) is (inr (refl, omega arith))
        (record { from = covers.from; below = omega (arith, covers.below, long) }))
        ∙ before.zeros a (λ t stored first covers. free t stored (section_later file i t first) covers);
  }

  -- the same of another place before which the same sections that aren't empty come
  copied_move : (file i file' j : ℕ) (byte : ℕ → ℕ) →
      ((t : SectionId) → IsStored files t → 0 < section_size files t → SectionFirst file' j t → SectionFirst file i t) →
      ((t : SectionId) → IsStored files t → SectionFirst file i t → SectionFirst file' j t) → AreCopied files span file i byte →
      AreCopied files span file' j byte
  copied_move file i file' j byte back on before = record {
    sections = λ t k stored first within. before.sections t k stored (back t stored (omega (arith, within)) first) within;
    zeros = λ a free. before.zeros a (λ t stored first covers. free t stored (on t stored first) covers);
  }

  pub copied_skip : (file i : ℕ) (byte : ℕ → ℕ) → (IsStored files (section file i) → 0 < section_size files (section file i) → ⊥) →
      AreCopied files span file i byte → AreCopied files span file (i + 1) byte
  copied_skip file i byte empty before =
      copied_move file i file (i + 1) byte
      (λ t stored some first. elim (section_or file i t first) [
        | inl earlier ↦ earlier
        | inr this ↦ (
            let same = same_section t (section file i) this.0 this.1 in
            absurd (empty (subst (IsStored files) same stored) (subst (λ (u : SectionId). 0 < section_size files u) same some)))
      ]) (λ t stored first. section_later file i t first) before

  in_file : (file : ℕ) (t : SectionId) → IsStored files t → SectionFirst (file + 1) 0 t → SectionFirst file (e_shnum (file_at files file)) t
  in_file file t stored (inl less) = elim (cases_lt t.file file) [
    | inl before ↦ inl before
    | inr most ↦ (
        let same : t.file ≡ file = omega (arith, less, most) in
        inr (same, subst (λ (f : ℕ). t.section < e_shnum (file_at files f)) same stored.there.within))
  ]
  in_file file t stored (inr same) = absurd (omega (arith, same.1))

  next_file : (file : ℕ) (t : SectionId) → SectionFirst file (e_shnum (file_at files file)) t → SectionFirst (file + 1) 0 t
  next_file file t (inl less) = inl (omega (arith, less))
  next_file file t (inr same) = inl (omega (arith, same.0))

  pub copied_file : (file : ℕ) (byte : ℕ → ℕ) → AreCopied files span file (e_shnum (file_at files file)) byte →
      AreCopied files span (file + 1) 0 byte
  copied_file file byte before =
      copied_move file (e_shnum (file_at files file)) (file + 1) 0 byte (λ t stored some first. in_file file t stored first)
      (λ t stored first. next_file file t first) before

  -- ---- slots

  module _ (text : List ℕ) where
    slot_long : (s : SymbolId) → length (little_bytes 8 (symbol_address files span text s.file s.symbol)) ≡ 8
    slot_long s = length-bytes_low_first 0 8 (symbol_address files span text s.file s.symbol)

    slot_or : (g k h m : ℕ) → SlotFirst g (k + 1) h m → SlotFirst g k h m ⊎ ((h ≡ g) × (m ≡ k))
    slot_or g k h m (inl less) = inl (inl less)
    slot_or g k h m (inr same) = elim (cases_lt m k) [
      | inl less ↦ inl (inr (same.0, less))
      | inr most ↦ inr (same.0, (let e : m ≡ k = omega (arith, most, same.1) in e))
    ]

    slot_later : (g k h m : ℕ) → SlotFirst g k h m → SlotFirst g (k + 1) h m
    slot_later g k h m (inl less) = inl less
    slot_later g k h m (inr same) = inr (same.0, omega (arith, same.1))

    other_slot : (g k h m : ℕ) → SlotFirst g k h m → g ≡ h → k ≡ m → ⊥
    other_slot g k h m (inl less) group number = omega (arith, less, group)
    other_slot g k h m (inr same) group number = omega (arith, same.1, number)

    pub slotted_none : (byte : ℕ → ℕ) → AreCopied files span (length files) 0 byte → AreSlotted files span text 0 0 byte
    slotted_none byte are = record {
      sections = λ s n stored within. are.sections s n stored (inl stored.there.file_in) within;
      slots = λ h m s is first. absurd (elim first [
        | inl less ↦ (let e : ⊥ = omega (arith, less) in e)
        | inr same ↦ (let e : ⊥ = omega (arith, same.1) in e)
      ]);
      zeros = λ a none free. are.zeros a (λ s stored first covers. none s stored covers);
    }

    pub slot_more : (g k : ℕ) (s : SymbolId) (old new : ℕ → ℕ) → set_refusal files ≡ None → IsSlot files span g k s →
        Puts old (slot_place files span g k) (little_bytes 8 (symbol_address files span text s.file s.symbol)) new →
        AreSlotted files span text g k old → AreSlotted files span text g (k + 1) new
    slot_more g k s old new whole is puts before =
        let slot : (a : ℕ) → Covers (slot_place files span g k) (length (little_bytes 8 (symbol_address files span text s.file s.symbol)))
        a →
        Covers (slot_place files span g k) 8 a =
        λ a covers. record { from = covers.from; below = omega (arith, covers.below, slot_long s) } in
        record {
          sections = λ t n stored within. (
              let a = section_start files span t + n in
              puts.outside a (λ covers. slot_beside g k a s t whole is stored (slot a covers)
              (record { from = omega arith; below = omega (arith, within) })) ∙ before.sections t n stored within);
          slots = λ h m t is' first. elim (slot_or g k h m first) [
            | inl earlier ↦ λ n within. (
                let a = slot_place files span h m + n in
                puts.outside a (λ covers. (
                let same = one_slot g k h m a s t whole is is' (slot a covers)
                (record { from = omega arith; below = omega (arith, within, slot_long t) }) in
                other_slot g k h m earlier same.0 same.1)) ∙ before.slots h m t is' earlier n within)
            | inr this ↦ (
                let same : t ≡ s = same_symbol h m g k t s is' is this.0 this.1 in
                let P : SymbolId → Type 0 =
                λ u. HoldsBytes new (slot_place files span h m) (little_bytes 8 (symbol_address files span text u.file u.symbol)) in
                let Q : ℕ → ℕ → Type 0 =
                λ i j. HoldsBytes new (slot_place files span i j) (little_bytes 8 (symbol_address files span text s.file s.symbol)) in
                subst P (sym same) (subst (λ (i : ℕ). Q i m) (sym this.0) (subst (Q g) (sym this.1) puts.inside)))
          ];
          zeros = λ a none free.
              puts.outside a (λ covers. free g k s is (inr (refl, omega arith)) (slot a covers))
              ∙ before.zeros a none (λ h m t is' first covers. free h m t is' (slot_later g k h m first) covers);
        }

    in_group : (g h m : ℕ) (s : SymbolId) → IsSlot files span h m s → SlotFirst (g + 1) 0 h m →
        SlotFirst g (length (group_slots files span g)) h m
    in_group g h m s is (inl less) = elim (cases_lt h g) [
      | inl before ↦ inl before
      | inr most ↦ (
          let same : h ≡ g = omega (arith, less, most) in
          let within = slice_get_within (group_slots files span h) m s is.symbol in
          inr (same, subst (λ (n : ℕ). m < length (group_slots files span n)) same within))
    ]
    in_group g h m s is (inr same) = absurd (omega (arith, same.1))

    next_group : (g h m : ℕ) → SlotFirst g (length (group_slots files span g)) h m → SlotFirst (g + 1) 0 h m
    next_group g h m (inl less) = inl (omega (arith, less))
    next_group g h m (inr same) = inl (omega (arith, same.0))

    pub slot_group : (g : ℕ) (byte : ℕ → ℕ) → AreSlotted files span text g (length (group_slots files span g)) byte →
        AreSlotted files span text (g + 1) 0 byte
    slot_group g byte are = record {
      sections = are.sections;
      slots = λ h m s is first. are.slots h m s is (in_group g h m s is first);
      zeros = λ a none free. are.zeros a none (λ h m s is first covers. free h m s is (next_group g h m first) covers);
    }
