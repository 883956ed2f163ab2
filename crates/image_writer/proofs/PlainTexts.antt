-- What a text is where nothing is rewritten, and that the recognised pairs tell it in whatever order they are listed.
use Rattle.std.proofs.Common.{ℕ, ℤ, ◌≡◌, Bool, true, false, List, [], ◌∷◌, ◌++◌, Contains, Option, None, Some, ap, sym, ◌∙◌, refl, if◌then◌else◌}
use Rattle.std.specs.List.{flat_map}
use Rattle.std.specs.Option.{option_map}
use Rattle.elf64_records.specs.First.{◌orelse◌, first_in}
use Rattle.object_set.specs.declared.places.RecordId.{RecordId}
use Rattle.object_set.specs.declared.refusal.Refusal.{Refusal}
use Rattle.object_set.specs.Walks.{all_items, record_walk}
use Rattle.reloc_fields.specs.declared.kind.Kind.{Kind}
use Rattle.reloc_fields.specs.declared.kind.Kind.TheVariants.{Toc16Ha, Toc16Lo, Toc16LoDs, Toc16Ds, GotPcrel34}
use Rattle.symbol_table.specs.Text.{text_index}
use Rattle.toc_rewrite.specs.Records.{word_at, record_number}
use Rattle.toc_rewrite.specs.Uses.{folds_slot, is_folded_load, rewrites_word, is_rewritten}
use Rattle.toc_rewrite.specs.Words.{only_loads}
use Rattle.pcrel_rewrite.specs.declared.text_pairs.TextPair.{TextPair}
use Rattle.pcrel_rewrite.specs.Pairs.{ArePairs}
use Rattle.pcrel_rewrite.specs.TextPairs.{tail_at, text_pair}
use Rattle.pcrel_rewrite.specs.laws.Pairs.{one_pair_at}
use Rattle.call_sites.specs.declared.site.CallSite.{CallSite}
use Rattle.toc_groups.specs.Plans.{LaidData}
use Rattle.toc_groups.specs.Values.{kind_overflow}
use Rattle.layout_rounds.specs.Shapes.{KeyedText}
use Rattle.layout_rounds.specs.Layout.{PlacedText}
use Rattle.placed_bytes.specs.Patches.{Patch, all_patched}
use Rattle.image_writer.specs.declared.got_loads.LoadWords.{LoadWords}
use Rattle.image_writer.specs.Fields.{text_kind, field_by, field_patch, field_overflow_at, field_overflow}
use Rattle.toc_rewrite.specs.Folds.{slot_at}
use Rattle.image_writer.specs.Rewriting.{no_rewriting, rewriting_of, laid_by}
use Rattle.image_writer.specs.TocLoads.{slot_distance, named_distance, toc_record, folded_patch}
use Rattle.image_writer.specs.GotLoads.{offset_of, load_by, rewritten_load}
use Rattle.image_writer.specs.Records.{load_or_field, record_by, record_patch, overflow_by, text_overflow_at, text_overflow}
use Rattle.image_writer.specs.Image.{text_with_calls, text_image, plain_text}
use Rattle.image_writer.proofs.Loads.{some_tail, tail_found}

flat_same : (f g : RecordId → List Patch) → ((r : RecordId) → f r ≡ g r) → (rs : List RecordId) → flat_map f rs ≡ flat_map g rs
flat_same f g same [] = refl
flat_same f g same (r ∷ rs) =
    ap (λ (l : List Patch). l ++ flat_map f rs) (same r) ∙ ap (λ (l : List Patch). g r ++ l) (flat_same f g same rs)

first_same : (f g : RecordId → Option Refusal) → ((r : RecordId) → f r ≡ g r) → (rs : List RecordId) → first_in f rs ≡ first_in g rs
first_same f g same [] = refl
first_same f g same (r ∷ rs) =
    ap (λ (o : Option Refusal). o orelse first_in f rs) (same r) ∙ ap (λ (o : Option Refusal). g r orelse o) (first_same f g same rs)

-- ---- nothing is rewritten

no_fold : (kind : Kind) (word : ℕ) → rewrites_word kind false (folds_slot kind word None) ≡ false
no_fold = elim [
  | Toc16Ha ↦ λ word. refl
  | Toc16Lo ↦ λ word. refl
  | Toc16LoDs ↦ λ word. refl
  | Toc16Ds ↦ λ word. refl
  | _ ↦ λ word. refl
]

module _ (files : List (List ℕ)) (span : ℕ) (text : List ℕ) (r : RecordId) where
  none_named : (number : Option ℕ) →
      option_map (slot_distance files span text r.file) (slot_at (laid_by files span) [] r.file number) ≡ None
  none_named None = refl
  none_named (Some number) = refl

  none_loaded : (b : Bool) (o : Option ℤ) → o ≡ None → (if b then o else None) ≡ None
  none_loaded true o is = is
  none_loaded false o is = refl

  no_slot : (kind : Kind) → (toc_record files span text [] r kind).slot ≡ None
  unfolding toc_record
  no_slot kind =
      none_loaded (only_loads kind (word_at files r)) (named_distance files span text [] r)
      (none_named (record_number (laid_by files span) r))

  not_folded : (kind : Kind) → is_folded_load (toc_record files span text [] r kind) ≡ false
  unfolding toc_record
  not_folded kind = ap (folds_slot kind (word_at files r)) (no_slot kind)

  not_rewritten : (kind : Kind) → is_rewritten (toc_record files span text [] r kind) false ≡ false
  unfolding toc_record
  not_rewritten kind = ap (λ (o : Option ℤ). rewrites_word kind false (folds_slot kind (word_at files r) o)) (no_slot kind)
      ∙ no_fold kind (word_at files r)

  no_load : (kind : Kind) → rewritten_load files span text no_rewriting r kind ≡ None
  unfolding rewritten_load
  no_load = elim [ GotPcrel34 ↦ refl | _ ↦ refl ]

  plain_case : (start : ℕ) (o : Option Kind) → record_by files span text no_rewriting start r o ≡ field_by files span text start r o
  plain_case start None = refl
  plain_case start (Some kind) =
      ap (λ (b : Bool). if b then folded_patch files span text start r (toc_record files span text [] r kind)
      else load_or_field files span text no_rewriting start r kind (rewritten_load files span text no_rewriting r kind))
      (not_rewritten kind)
      ∙ ap (load_or_field files span text no_rewriting start r kind) (no_load kind)

  overflow_case : (o : Option Kind) → overflow_by files span text no_rewriting r o ≡ kind_overflow files span text r o
  overflow_case None = refl
  overflow_case (Some kind) =
      ap (λ (b : Bool). if b then None else kind_overflow files span text r (Some kind)) (not_folded kind)

  overflow_same : text_overflow_at files span text no_rewriting r ≡ field_overflow_at files span text r
  unfolding text_overflow_at field_overflow_at
  overflow_same = overflow_case (text_kind files r)

-- a text of which nothing is rewritten has the fields of all records
pub plain : (files : List (List ℕ)) (plan : LaidData) (sites : List CallSite) (t : KeyedText) (F : ℕ → Bool) (p : PlacedText) →
    text_image files plan sites t F p no_rewriting ≡ plain_text files plan sites t F p
plain files plan sites t F p =
    ap (all_patched (text_with_calls files plan sites t F p))
    (flat_same (record_patch files plan.span p.sections no_rewriting plan.text_start)
    (field_patch files plan.span p.sections plan.text_start)
    (λ r. plain_case files plan.span p.sections r plan.text_start (text_kind files r)) (all_items record_walk files))

-- each of which is checked
pub plain_overflow : (files : List (List ℕ)) (span : ℕ) (text : List ℕ) →
    text_overflow files span text no_rewriting ≡ field_overflow files span text
plain_overflow files span text =
    first_same (text_overflow_at files span text no_rewriting) (field_overflow_at files span text)
    (λ r. overflow_same files span text r) (all_items record_walk files)

-- ---- the same pairs

module _ (files : List (List ℕ)) (a b : List TextPair) (are : ArePairs files a) (too : ArePairs files b) where
  one_of_b : (section offset tail other : ℕ) → Contains b (text_pair section offset tail) → Contains b (text_pair section offset other) →
      tail ≡ other
  one_of_b section offset tail other there also =
      one_pair_at files section offset tail other (too.each (text_pair section offset tail) there)
      (too.each (text_pair section offset other) also)

  one_of_a : (section offset tail other : ℕ) → Contains a (text_pair section offset tail) → Contains a (text_pair section offset other) →
      tail ≡ other
  one_of_a section offset tail other there also =
      one_pair_at files section offset tail other (are.each (text_pair section offset tail) there)
      (are.each (text_pair section offset other) also)

  tail_case : (section offset : ℕ) (o p : Option ℕ) → tail_at a section offset ≡ o → tail_at b section offset ≡ p → o ≡ p
  tail_case section offset None None here there = refl
  tail_case section offset (Some tail) p here there =
      let in_a = tail_found a section offset tail here in
      let in_b = too.all (text_pair section offset tail) (are.each (text_pair section offset tail) in_a) in
      sym (some_tail b section offset tail in_b (one_of_b section offset)) ∙ there
  tail_case section offset None (Some tail) here there =
      let in_b = tail_found b section offset tail there in
      let in_a = are.all (text_pair section offset tail) (too.each (text_pair section offset tail) in_b) in
      sym here ∙ some_tail a section offset tail in_a (one_of_a section offset)

  same_tail : (section offset : ℕ) → tail_at a section offset ≡ tail_at b section offset
  same_tail section offset = tail_case section offset (tail_at a section offset) (tail_at b section offset) refl refl

  module _ (span : ℕ) (text : List ℕ) (r : RecordId) where
    same_load : (kind : Kind) →
        rewritten_load files span text (rewriting_of files span a) r kind
        ≡ rewritten_load files span text (rewriting_of files span b) r kind
    unfolding rewritten_load
    same_load = elim [
      | GotPcrel34 ↦ ap (load_by files span text true r) (same_tail (text_index files r.file r.section) (offset_of files r))
      | _ ↦ refl
    ]

    same_case : (start : ℕ) (o : Option Kind) →
        record_by files span text (rewriting_of files span a) start r o ≡ record_by files span text (rewriting_of files span b) start r o
    same_case start None = refl
    same_case start (Some kind) =
        let w = rewriting_of files span a in
        let load = toc_record files span text w.slots r kind in
        ap (λ (o : Option LoadWords). if is_rewritten load (w.orderly r.file) then folded_patch files span text start r load
        else load_or_field files span text w start r kind o) (same_load kind)

-- one text for the recognised pairs in any order
pub one_text : (files : List (List ℕ)) (plan : LaidData) (sites : List CallSite) (t : KeyedText) (F : ℕ → Bool) (p : PlacedText)
    (a b : List TextPair) → ArePairs files a → ArePairs files b →
    text_image files plan sites t F p (rewriting_of files plan.span a) ≡ text_image files plan sites t F p (rewriting_of files plan.span b)
one_text files plan sites t F p a b are too =
    ap (all_patched (text_with_calls files plan sites t F p))
    (flat_same (record_patch files plan.span p.sections (rewriting_of files plan.span a) plan.text_start)
    (record_patch files plan.span p.sections (rewriting_of files plan.span b) plan.text_start)
    (λ r. same_case files a b are too plan.span p.sections r plan.text_start (text_kind files r)) (all_items record_walk files))
