-- The sections and the stubs of a text are apart, and lie in it.
use Rattle.std.proofs.Common.{ℕ, ◌≡◌, ◌<◌, ◌≤◌, ◌+◌, ◌-◌, ◌*◌, ◌/◌, Bool, List, ◌++◌, None, length, slice_index, All, AllPairs, sym, arith}
use Rattle.std.specs.List.{range_with_len}
use Rattle.std.proofs.lemmas.List.{length-take}
use Rattle.std.proofs.lemmas.List.Elements.{All-append, All-map}
use Rattle.byteorder.specs.Numbers.{length-bytes_low_first}
use Rattle.object_set.specs.Refusals.{set_refusal}
use Rattle.symbol_table.specs.Text.{text_sections}
use Rattle.call_sites.specs.declared.site.CallSite.{CallSite}
use Rattle.toc_groups.specs.Plans.{LaidData}
use Rattle.layout_rounds.specs.FarSets.{member}
use Rattle.layout_rounds.specs.Shapes.{KeyedText}
use Rattle.layout_rounds.specs.Layout.{PlacedText, section_size, key_count, stub_size, text_end}
use Rattle.placed_bytes.specs.Patches.{Patch, end_of, AreApart, ArePlaced}
use Rattle.image_writer.specs.Job.{IsJob}
use Rattle.image_writer.specs.Text.{section_patch, section_patches, word_patch, eight_words, stub_text, stub_patch, stub_patches}
use Rattle.image_writer.proofs.InSections.{LiesAt, LiesInStub, stub_lies, section_within, stub_within, lies_apart, beside_stub, stubs_apart, one_stub}
use Rattle.image_writer.proofs.PatchLists.{all_flat, all_range, pairs_append, pairs_flat, pairs_map, pairs_range}
use Rattle.image_writer.specs.inside.Gives.{LayoutGives}
use Rattle.image_writer.proofs.Room.{section_count_is, size_is}

module _ (files : List (List ℕ)) (plan : LaidData) (sites : List CallSite) (t : KeyedText) (far : List Bool) (places : PlacedText)
    (whole : set_refusal files ≡ None) (job : IsJob files plan sites t far places)
    (gives : LayoutGives t job.shape.sites.items job.span (member far)) where
  abbrev At : ℕ → ℕ → ℕ → Patch → Type 0
  At = LiesAt files plan sites t far places whole job gives

  abbrev InStub : ℕ → ℕ → ℕ → Patch → Type 0
  InStub = LiesInStub files plan sites t far places whole job gives

  abbrev Fits : Patch → Type 0
  Fits p = end_of p ≤ text_end t (member far) - plan.text_start

  -- ---- sections

  pub section_at : (s : ℕ) → s < length (text_sections files) →
      At s 0 (section_size t s) (section_patch files places.sections plan.text_start s)
  section_at s lt =
      let size = size_is files plan sites t far places whole job gives s lt in
      let count = section_count_is files plan sites t far places whole job gives in
      record {
        section_in = omega (arith, lt, count);
        within = omega arith;
        at = omega arith;
        size = sym size;
      }

  abbrev IsOfSection : Patch → Type 0
  IsOfSection p = (s : ℕ) × At s 0 (section_size t s) p

  sections_are : All IsOfSection (section_patches files places.sections plan.text_start)
  sections_are =
      let n = length (text_sections files) in
      let f = section_patch files places.sections plan.text_start in
      All-map IsOfSection f (range_with_len 0 n)
      (all_range (λ s. IsOfSection (f s)) 0 n (λ s from below. (s, section_at s (omega (arith, below)))))

  sections_apart : AllPairs AreApart (section_patches files places.sections plan.text_start)
  sections_apart =
      let n = length (text_sections files) in
      let f = section_patch files places.sections plan.text_start in
      pairs_map AreApart f (range_with_len 0 n)
      (pairs_range (λ s r. AreApart (f s) (f r)) 0 n (λ s r from less below.
      lies_apart files plan sites t far places whole job gives s 0 (section_size t s) (f s) r 0 (section_size t r) (f r)
      (section_at s (omega (arith, less, below))) (section_at r (omega (arith, below)))
      (λ same. absurd (omega (arith, less, same)))))

  -- ---- stubs

  pub stub_word_at : (k i : ℕ) → k < key_count t → i < length (stub_text files plan.bases t (member far) places k) →
      InStub k (4 * i) 4 (word_patch (slice_index places.stubs k - plan.text_start) (stub_text files plan.bases t (member far) places k) i)
  stub_word_at k i key_in lt =
      let words = stub_text files plan.bases t (member far) places k in
      let count = length-take (stub_size t (member far) k / 4) (eight_words files plan.bases t (member far) places k) in
      let room : 4 * i + 4 ≤ stub_size t (member far) k = omega (arith, count, lt) in
      let lies = stub_lies files plan sites t far places whole job gives k key_in (omega (arith, room)) in
      record {
        key_in = key_in;
        some = omega arith;
        within = room;
        at = omega (arith, lies.from);
        size = length-bytes_low_first 0 4 (slice_index words i);
      }

  abbrev IsOfStub : ℕ → Patch → Type 0
  IsOfStub k p = (o : ℕ) × InStub k o 4 p

  stub_are : (k : ℕ) → k < key_count t → All (IsOfStub k) (stub_patch files plan.bases t (member far) places plan.text_start k)
  stub_are k key_in =
      let words = stub_text files plan.bases t (member far) places k in
      let f = word_patch (slice_index places.stubs k - plan.text_start) words in
      All-map (IsOfStub k) f (range_with_len 0 (length words))
      (all_range (λ i. IsOfStub k (f i)) 0 (length words) (λ i from below. (4 * i, stub_word_at k i key_in (omega (arith, below)))))

  stub_apart : (k : ℕ) → k < key_count t → AllPairs AreApart (stub_patch files plan.bases t (member far) places plan.text_start k)
  stub_apart k key_in =
      let words = stub_text files plan.bases t (member far) places k in
      let f = word_patch (slice_index places.stubs k - plan.text_start) words in
      pairs_map AreApart f (range_with_len 0 (length words))
      (pairs_range (λ i j. AreApart (f i) (f j)) 0 (length words) (λ i j from less below.
      one_stub files plan sites t far places whole job gives k (4 * i) 4 (f i) (4 * j) 4 (f j)
      (stub_word_at k i key_in (omega (arith, less, below))) (stub_word_at k j key_in (omega (arith, below))) (omega (arith, less))))

  abbrev IsOfSomeStub : Patch → Type 0
  IsOfSomeStub p = (k : ℕ) × IsOfStub k p

  pub stubs_are : All IsOfSomeStub (stub_patches files plan.bases t (member far) places plan.text_start)
  stubs_are =
      let f = stub_patch files plan.bases t (member far) places plan.text_start in
      all_flat IsOfSomeStub f (range_with_len 0 (key_count t))
      (all_range (λ k. All IsOfSomeStub (f k)) 0 (key_count t) (λ k from below. λ i d within.
      (k, stub_are k (omega (arith, below)) i d within)))

  all_stubs_apart : AllPairs AreApart (stub_patches files plan.bases t (member far) places plan.text_start)
  all_stubs_apart =
      let f = stub_patch files plan.bases t (member far) places plan.text_start in
      pairs_flat AreApart f (range_with_len 0 (key_count t))
      (all_range (λ k. AllPairs AreApart (f k)) 0 (key_count t) (λ k from below. stub_apart k (omega (arith, below))))
      (pairs_range (λ j k. All (λ a. All (AreApart a) (f k)) (f j)) 0 (key_count t) (λ j k from less below. λ x d within. λ y e inside.
      (let one = stub_are j (omega (arith, less, below)) x d within in
      let other = stub_are k (omega (arith, below)) y e inside in
      stubs_apart files plan sites t far places whole job gives j one.0 4 _ k other.0 4 _ one.1 other.1 less)))

  -- ---- both

  pub ground_placed : ArePlaced (text_end t (member far) - plan.text_start)
      (section_patches files places.sections plan.text_start ++ stub_patches files plan.bases t (member far) places plan.text_start)
  ground_placed =
      let first = section_patches files places.sections plan.text_start in
      let second = stub_patches files plan.bases t (member far) places plan.text_start in
      record {
        within = All-append Fits first second
            (λ i d within. (let one = sections_are i d within in
            section_within files plan sites t far places whole job gives one.0 0 (section_size t one.0) _ one.1))
            (λ i d within. (let one = stubs_are i d within in
            stub_within files plan sites t far places whole job gives one.0 one.1.0 4 _ one.1.1));
        apart = pairs_append AreApart first second sections_apart all_stubs_apart (λ i d within. λ j e inside.
            (let one = sections_are i d within in
            let other = stubs_are j e inside in
            beside_stub files plan sites t far places whole job gives one.0 0 (section_size t one.0) _ other.0 other.1.0 4 _
            one.1 other.1.1));
      }
