-- What stands at each place of a text: patches that are apart stand where they were put, and all else is as it was.
use Rattle.std.proofs.Common.{ℕ, ◌≡◌, ◌<◌, ◌≤◌, ◌+◌, ◌-◌, ◌*◌, ◌⊎◌, inl, inr, Bool, true, false, List, [], ◌∷◌, ◌++◌, Option, Some, None, IfSome, length, drop, slice_index, All, if◌then◌else◌, ap, sym, ◌∙◌, subst, refl, arith}
use Rattle.std.specs.List.{range_with_len, slice_index_or}
use Rattle.std.proofs.lemmas.Bool.{cases_lt}
use Rattle.std.proofs.lemmas.List.{get_or-take, get_or-drop, get_or-replicate, length-replicate}
use Rattle.std.proofs.lemmas.List.Elements.{All-append, All-cons, All-contains, All-head, All-map, All-nil, All-tail}
use Rattle.byteorder.specs.Endian.{little_bytes}
use Rattle.byteorder.specs.Numbers.{length-bytes_low_first}
use Rattle.ppc_bytes.specs.declared.constants.TheConstants.{NOP}
use Rattle.object_set.specs.declared.places.RecordId.{RecordId}
use Rattle.object_set.specs.Refusals.{set_refusal}
use Rattle.object_set.specs.Walks.{all_items, record_walk, IsRecord}
use Rattle.object_set.specs.laws.Walks.{all_records_in}
use Rattle.reloc_fields.specs.declared.kind.Kind.{Kind}
use Rattle.reloc_fields.specs.Table.{line_of}
use Rattle.symbol_table.specs.Text.{text_sections}
use Rattle.call_sites.specs.declared.site.CallSite.{CallSite}
use Rattle.call_sites.specs.Words.{branch_word, slot_word}
use Rattle.toc_groups.specs.Contents.{HoldsBytes, field_bytes}
use Rattle.toc_groups.specs.Parts.{Covers}
use Rattle.toc_groups.specs.Plans.{LaidData}
use Rattle.toc_groups.specs.Values.{field_address, record_value}
use Rattle.toc_rewrite.specs.Uses.{number_of, is_folded_load, is_rewritten}
use Rattle.toc_rewrite.specs.Words.{folded_word}
use Rattle.layout_rounds.specs.FarSets.{member}
use Rattle.layout_rounds.specs.Shapes.{KeyedText}
use Rattle.layout_rounds.specs.Layout.{PlacedText, key_count, stub_size, text_end}
use Rattle.placed_bytes.specs.Patches.{Patch, number_patch, part, ArePlaced, IsBeside, IsPatched}
use Rattle.placed_bytes.specs.laws.Patched.{apart_back, patches_stand}
use Rattle.image_writer.specs.declared.got_loads.LoadWords.{LoadWords}
use Rattle.image_writer.specs.Calls.{call_at, call_number, call_address, displacement, slot_patch, call_patch, call_patches}
use Rattle.image_writer.specs.Fields.{text_kind}
use Rattle.image_writer.specs.GotLoads.{nop_patch, load_patches, rewritten_load}
use Rattle.image_writer.specs.Image.{blank_text, text_with_sections, text_image}
use Rattle.image_writer.specs.Job.{IsJob}
use Rattle.image_writer.specs.Places.{byte_at, HoldsWord, HoldsLoad, RewritesPairs, bytes_of, IsTextRecord, IsFolded, IsNewLoad, IsPlainField, IsSpared, IsPadding, HoldsText}
use Rattle.image_writer.specs.Records.{load_or_field, record_by, record_patch, record_patches}
use Rattle.image_writer.specs.Rewriting.{Rewriting}
use Rattle.image_writer.specs.Text.{section_patch, section_patches, word_patch, stub_text, stub_patch, stub_patches}
use Rattle.image_writer.specs.TocLoads.{toc_record, folded_patch}
use Rattle.image_writer.proofs.CallClaims.{record_at, slot_all}
use Rattle.image_writer.proofs.GroundPatches.{ground_placed, stub_word_at, stubs_are}
use Rattle.image_writer.proofs.InSections.{LiesInStub, section_lies, stub_lies, beside_stub}
use Rattle.image_writer.proofs.OverPatches.{over_lies, over_placed}
use Rattle.image_writer.proofs.Patching.{append_patches}
use Rattle.image_writer.proofs.PatchLists.{all_left, all_right, flat_all, map_all, range_all, all_flat, all_range}
use Rattle.image_writer.proofs.RecordClaims.{place, record_all}
use Rattle.image_writer.proofs.RecordList.{record_in}
use Rattle.image_writer.specs.inside.Gives.{LayoutGives}
use Rattle.image_writer.proofs.Room.{section_count_is, size_is}

-- ---- parts of a list

-- element k of a part
part_at : (at n k : ℕ) (b : List ℕ) → k < n → slice_index (part at n b) k ≡ slice_index b (at + k)
part_at at n k b within = get_or-take n (drop at b) k 0 within ∙ get_or-drop at b k 0

-- one element
one_of : (at : ℕ) (a b : List ℕ) → part at 1 a ≡ part at 1 b → slice_index a at ≡ slice_index b at
one_of at a b same =
    let here : at ≡ at + 0 = omega arith in
    ap (slice_index a) here ∙ sym (part_at at 1 0 a (omega arith)) ∙ ap (λ (l : List ℕ). slice_index l 0) same
    ∙ part_at at 1 0 b (omega arith) ∙ ap (slice_index b) (sym here)

-- what stands in a text that starts somewhere is held at its address
held : (start address at : ℕ) (bytes text : List ℕ) → start ≤ address → at ≡ address - start → part at (length bytes) text ≡ bytes →
    HoldsBytes (byte_at start text) address bytes
held start address at bytes text from here stands = λ k within.
    let place : address + k - start ≡ at + k = omega (arith, from, here) in
    ap (slice_index text) place ∙ sym (part_at at (length bytes) k text within) ∙ ap (λ (l : List ℕ). slice_index l k) stands

-- an address that so many bytes don't cover lies before or behind them
uncovered : (from size a : ℕ) → (Covers from size a → ⊥) → (from + size ≤ a) ⊎ (a < from)
uncovered from size a none =
    elim (cases_lt a from) [
      | inl before ↦ inr before
      | inr most ↦ elim (cases_lt a (from + size)) [
        | inl below ↦ absurd (none (record { from = most; below = below }))
        | inr behind ↦ inl behind
      ]
    ]

-- so a patch that lies among them, in a text that starts somewhere, doesn't have it
spares : (start from size a offset count : ℕ) (p : Patch) → start ≤ from → start ≤ a → p.at ≡ from + offset - start →
    length p.bytes ≡ count →
    offset + count ≤ size → (Covers from size a → ⊥) → IsBeside (a - start) 1 p
spares start from size a offset count p least low here long fits none =
    elim (uncovered from size a none) [
      | inl behind ↦ inl (omega (arith, least, low, here, long, fits, behind))
      | inr before ↦ inr (omega (arith, least, low, here, long, fits, before))
    ]

module _ (files : List (List ℕ)) (plan : LaidData) (sites : List CallSite) (t : KeyedText) (far : List Bool) (places : PlacedText)
    (whole : set_refusal files ≡ None) (job : IsJob files plan sites t far places)
    (gives : LayoutGives t job.shape.sites.items job.span (member far))
    (w : Rewriting) (pairs : RewritesPairs files w.pairs) where
  abbrev sections : List Patch
  sections = section_patches files places.sections plan.text_start

  abbrev stubs : List Patch
  stubs = stub_patches files plan.bases t (member far) places plan.text_start

  abbrev calls : List Patch
  calls = call_patches files plan.bases t (member far) places plan.text_start sites

  abbrev records : List Patch
  records = record_patches files plan.span places.sections w plan.text_start

  abbrev blank : List ℕ
  blank = blank_text files plan sites t (member far) places

  abbrev ground : List ℕ
  ground = text_with_sections files plan sites t (member far) places

  abbrev text : List ℕ
  text = text_image files plan sites t (member far) places w

  abbrev start : ℕ
  start = plan.text_start

  blank_size : length blank ≡ text_end t (member far) - start
  blank_size = length-replicate (text_end t (member far) - start) 0

  -- sections and stubs stand
  ground_stands : IsPatched blank (sections ++ stubs) ground
  ground_stands =
      subst (IsPatched blank (sections ++ stubs)) (append_patches blank sections stubs)
      (patches_stand blank (sections ++ stubs)
      (subst (λ (n : ℕ). ArePlaced n (sections ++ stubs)) (sym blank_size)
      (ground_placed files plan sites t far places whole job gives)))

  ground_size : length ground ≡ text_end t (member far) - start
  ground_size = ground_stands.size ∙ blank_size

  -- and calls and records over them
  text_stands : IsPatched ground (calls ++ records) text
  text_stands =
      subst (IsPatched ground (calls ++ records)) (append_patches ground calls records)
      (patches_stand ground (calls ++ records)
      (subst (λ (n : ℕ). ArePlaced n (calls ++ records)) (sym ground_size)
      (over_placed files plan sites t far places whole job gives w pairs)))

  abbrev Stands : Patch → Type 0
  Stands p = part p.at (length p.bytes) text ≡ p.bytes

  abbrev StandsBelow : Patch → Type 0
  StandsBelow p = part p.at (length p.bytes) ground ≡ p.bytes

  -- ---- stubs

  -- a word of a stub
  over_beside : (k o n : ℕ) (p : Patch) → LiesInStub files plan sites t far places whole job gives k o n p →
      All (IsBeside p.at (length p.bytes)) (calls ++ records)
  over_beside k o n p is = λ x d within.
      (let q = slice_index_or (calls ++ records) x d in
      let over = over_lies files plan sites t far places whole job gives w pairs x d within in
      apart_back q p (beside_stub files plan sites t far places whole job gives over.section over.start over.count q k o n p over.lies is))

  abbrev words : ℕ → List ℕ
  words k = stub_text files plan.bases t (member far) places k

  stub_word : (k i : ℕ) → k < key_count t → i < length (words k) →
      HoldsWord (byte_at start text) (slice_index places.stubs k + 4 * i) (slice_index (words k) i)
  stub_word k i key_in lt =
      let at = slice_index places.stubs k - start in
      let p = word_patch at (words k) i in
      let is = stub_word_at files plan sites t far places whole job gives k i key_in lt in
      let within = is.within in
      let lies = stub_lies files plan sites t far places whole job gives k key_in (omega (arith, within)) in
      let all = flat_all StandsBelow (stub_patch files plan.bases t (member far) places start) (range_with_len 0 (key_count t))
      (all_right StandsBelow sections stubs ground_stands.put) in
      let own : All StandsBelow (stub_patch files plan.bases t (member far) places start k) =
      range_all (λ m. All StandsBelow (stub_patch files plan.bases t (member far) places start m)) 0 (key_count t) k all (omega arith)
      (omega (arith, key_in)) in
      let below : StandsBelow p =
      range_all (λ m. StandsBelow (word_patch at (words k) m)) 0 (length (words k)) i
      (map_all StandsBelow (word_patch at (words k)) (range_with_len 0 (length (words k))) own) (omega arith) (omega (arith, lt)) in
      let stands : Stands p = text_stands.kept p.at (length p.bytes) (over_beside k (4 * i) 4 p is) ∙ below in
      held start (slice_index places.stubs k + 4 * i) p.at p.bytes text (omega (arith, lies.from)) (omega (arith, lies.from)) stands

  -- ---- calls

  call_from : (i : ℕ) → i < length sites → start ≤ call_address files plan.bases t (member far) places (call_at sites i)
  call_from i lt =
      let own = record_at files plan sites t far places whole job gives i lt in
      let counted = section_count_is files plan sites t far places whole job gives in
      let number_in = own.number_in in
      let lies = section_lies files plan sites t far places whole job gives (call_at sites i).section
      (omega (arith, number_in, counted)) in
      omega (arith, lies.from)

  abbrev call_place : ℕ → ℕ
  call_place i = call_address files plan.bases t (member far) places (call_at sites i) - start

  abbrev branch_of : ℕ → ℕ
  branch_of i =
      let site = call_at sites i in
      branch_word site.class site.link (displacement files plan.bases t (member far) places site (call_number sites i))

  abbrev behind_of : ℕ → List Patch
  behind_of i = slot_patch (call_place i + 4) (slot_word (call_at sites i).slot (call_at sites i).restore)

  call_stands : (i : ℕ) → i < length sites → All Stands (call_patch files plan.bases t (member far) places start sites i)
  call_stands i lt =
      range_all (λ m. All Stands (call_patch files plan.bases t (member far) places start sites m)) 0 (length sites) i
      (flat_all Stands (call_patch files plan.bases t (member far) places start sites) (range_with_len 0 (length sites))
      (all_left Stands calls records text_stands.put)) (omega arith) (omega (arith, lt))

  call_word : (i : ℕ) → i < length sites →
      HoldsWord (byte_at start text) (call_address files plan.bases t (member far) places (call_at sites i)) (branch_of i)
  call_word i lt =
      held start (call_address files plan.bases t (member far) places (call_at sites i)) (call_place i) (little_bytes 4 (branch_of i)) text
      (call_from i lt) refl
      (All-head Stands (number_patch 4 (call_place i) (branch_of i)) (behind_of i) (call_stands i lt))

  behind_word : (i word : ℕ) → i < length sites → slot_word (call_at sites i).slot (call_at sites i).restore ≡ Some word →
      HoldsWord (byte_at start text) (call_address files plan.bases t (member far) places (call_at sites i) + 4) word
  behind_word i word lt is =
      let from = call_from i lt in
      let all = All-tail Stands (number_patch 4 (call_place i) (branch_of i)) (behind_of i) (call_stands i lt) in
      let own : All Stands (slot_patch (call_place i + 4) (Some word)) =
      subst (λ (o : Option ℕ). All Stands (slot_patch (call_place i + 4) o)) is all in
      held start (call_address files plan.bases t (member far) places (call_at sites i) + 4) (call_place i + 4) (little_bytes 4 word) text
      (omega (arith, from)) (omega (arith, from)) (All-head Stands (number_patch 4 (call_place i + 4) word) [] own)

  -- ---- records

  abbrev field_place : RecordId → ℕ
  field_place r = field_address files plan.span places.sections r - start

  record_from : (r : RecordId) (k : Kind) → IsTextRecord files r k → start ≤ field_address files plan.span places.sections r
  record_from r k is =
      let there = place files plan sites t far places whole job gives w pairs r k is in
      omega (arith, there.address, there.from)

  abbrev by_kind : RecordId → Option Kind → List Patch
  by_kind r o = record_by files plan.span places.sections w start r o

  record_stands : (r : RecordId) (k : Kind) → IsTextRecord files r k → All Stands (by_kind r (Some k))
  record_stands r k is =
      let all = flat_all Stands (record_patch files plan.span places.sections w start) (all_items record_walk files)
      (all_right Stands calls records text_stands.put) in
      let own = All-contains (λ (q : RecordId). All Stands (record_patch files plan.span places.sections w start q))
      (all_items record_walk files) r all (record_in files r is.there) in
      subst (λ (o : Option Kind). All Stands (by_kind r o)) is.kind_is own

  -- by whether its word is rewritten, and its load is
  abbrev by_test : RecordId → Kind → Bool → List Patch
  by_test r k b =
      if b then folded_patch files plan.span places.sections start r (toc_record files plan.span places.sections w.slots r k)
      else load_or_field files plan.span places.sections w start r k (rewritten_load files plan.span places.sections w r k)

  folded_stands : (r : RecordId) (k : Kind) → IsFolded files plan sites t (member far) places w r k →
      (let load = toc_record files plan.span places.sections w.slots r k in
      HoldsWord (byte_at start text) (field_address files plan.span places.sections r)
      (folded_word load.kind load.word (number_of load (record_value files plan.span places.sections r load.kind)) (is_folded_load load)))
  folded_stands r k is =
      let load = toc_record files plan.span places.sections w.slots r k in
      let word = folded_word load.kind load.word (number_of load (record_value files plan.span places.sections r load.kind))
      (is_folded_load load) in
      let own : All Stands (by_test r k true) =
      subst (λ (b : Bool). All Stands (by_test r k b)) is.rewritten (record_stands r k is.is) in
      held start (field_address files plan.span places.sections r) (field_place r) (little_bytes 4 word) text (record_from r k is.is) refl
      (All-head Stands (number_patch 4 (field_place r) word) [] own)

  loads_stand : (r : RecordId) (k : Kind) → IsTextRecord files r k →
      is_rewritten (toc_record files plan.span places.sections w.slots r k) (w.orderly r.file) ≡ false → (o : Option LoadWords) →
      rewritten_load files plan.span places.sections w r k ≡ o →
      All Stands (load_or_field files plan.span places.sections w start r k o)
  loads_stand r k is other o load_is =
      let own : All Stands (by_test r k false) = subst (λ (b : Bool). All Stands (by_test r k b)) other (record_stands r k is) in
      subst (λ (x : Option LoadWords). All Stands (load_or_field files plan.span places.sections w start r k x)) load_is own

  field_stands : (r : RecordId) (k : Kind) → IsPlainField files plan sites t (member far) places w r k →
      HoldsBytes (byte_at start text) (field_address files plan.span places.sections r) (field_bytes files plan.span places.sections r k)
  field_stands r k is =
      let bytes = field_bytes files plan.span places.sections r k in
      held start (field_address files plan.span places.sections r) (field_place r) bytes text (record_from r k is.is) refl
      (All-head Stands (record { at = field_place r; bytes = bytes }) [] (loads_stand r k is.is is.other None is.no_load))

  access_stands : (r : RecordId) (o : Option ℕ) → start ≤ field_address files plan.span places.sections r →
      All Stands (nop_patch (field_place r) o) →
      IfSome o (λ distance. HoldsWord (byte_at start text) (field_address files plan.span places.sections r + distance) NOP)
  access_stands r None from all = tt
  access_stands r (Some distance) from all =
      held start (field_address files plan.span places.sections r + distance) (field_place r + distance) (little_bytes 4 NOP) text
      (omega (arith, from)) (omega (arith, from)) (All-head Stands (number_patch 4 (field_place r + distance) NOP) [] all)

  load_stands : (r : RecordId) (k : Kind) (load : LoadWords) → IsNewLoad files plan sites t (member far) places w r k load →
      HoldsLoad (byte_at start text) (field_address files plan.span places.sections r) load
  load_stands r k load is =
      let from = record_from r k is.is in
      let first = number_patch 4 (field_place r) load.prefix in
      let second = number_patch 4 (field_place r + 4) load.suffix in
      let last = nop_patch (field_place r) load.nop in
      let all : All Stands (load_patches (field_place r) load) = loads_stand r k is.is is.other (Some load) is.load_is in
      let rest : All Stands (second ∷ last) = All-tail Stands first (second ∷ last) all in
      record {
        prefix = held start (field_address files plan.span places.sections r) (field_place r) (little_bytes 4 load.prefix) text from refl
            (All-head Stands first (second ∷ last) all);
        suffix = held start (field_address files plan.span places.sections r + 4) (field_place r + 4) (little_bytes 4 load.suffix) text
            (omega (arith, from)) (omega (arith, from)) (All-head Stands second last rest);
        access = access_stands r load.nop from (All-tail Stands second last rest);
      }

  -- ---- other bytes of sections

  section_stands : (s : ℕ) → s < length (text_sections files) → StandsBelow (section_patch files places.sections start s)
  section_stands s lt =
      range_all (λ m. StandsBelow (section_patch files places.sections start m)) 0 (length (text_sections files)) s
      (map_all StandsBelow (section_patch files places.sections start) (range_with_len 0 (length (text_sections files)))
      (all_left StandsBelow sections stubs ground_stands.put)) (omega arith) (omega (arith, lt))

  module _ (a : ℕ) (low : start ≤ a) (spared : IsSpared files plan sites t (member far) places w a) where
    call_spares : (i : ℕ) → i < length sites →
        All (IsBeside (a - start) 1) (call_patch files plan.bases t (member far) places start sites i)
    call_spares i lt =
        let site = call_at sites i in
        let address = call_address files plan.bases t (member far) places site in
        let from = call_from i lt in
        All-cons (IsBeside (a - start) 1) (number_patch 4 (call_place i) (branch_of i)) (behind_of i)
        (spares start address 4 a 0 4 (number_patch 4 (call_place i) (branch_of i)) from low (omega (arith, from))
        (length-bytes_low_first 0 4 (branch_of i)) (omega arith) (spared.calls i lt))
        (slot_all (IsBeside (a - start) 1) (call_place i + 4) site.slot site.restore (λ has word.
        spares start (address + 4) 4 a 0 4 (number_patch 4 (call_place i + 4) word) (omega (arith, from)) low (omega (arith, from))
        (length-bytes_low_first 0 4 word) (omega arith) (spared.slots i lt has)))

    kind_spares : (r : RecordId) (o : Option Kind) → IsRecord files r → text_kind files r ≡ o → All (IsBeside (a - start) 1) (by_kind r o)
    kind_spares r None here is = All-nil (IsBeside (a - start) 1)
    kind_spares r (Some k) here is =
        let own : IsTextRecord files r k = record { there = here; kind_is = is } in
        let from = record_from r k own in
        let address = field_address files plan.span places.sections r in
        record_all files plan sites t far places whole job gives w pairs r k own (IsBeside (a - start) 1)
        (λ offset count p at size fits. spares start address (line_of k).width a offset count p from low (omega (arith, from, at)) size fits
        (spared.records r k own))
        (λ load distance new nop. spares start (address + distance) 4 a 0 4 (number_patch 4 (field_place r + distance) NOP)
        (omega (arith, from)) low (omega (arith, from)) (length-bytes_low_first 0 4 NOP) (omega arith)
        (spared.accesses r k load distance new nop))

    over_spares : All (IsBeside (a - start) 1) (calls ++ records)
    over_spares =
        All-append (IsBeside (a - start) 1) calls records
        (all_flat (IsBeside (a - start) 1) (call_patch files plan.bases t (member far) places start sites) (range_with_len 0 (length sites))
        (all_range (λ i. All (IsBeside (a - start) 1) (call_patch files plan.bases t (member far) places start sites i)) 0 (length sites)
        (λ i from below. call_spares i (omega (arith, below)))))
        (all_flat (IsBeside (a - start) 1) (record_patch files plan.span places.sections w start) (all_items record_walk files)
        (λ k d within. (let r = slice_index_or (all_items record_walk files) k d in
        kind_spares r (text_kind files r) (all_records_in files k d within) refl)))

  section_byte : (s k : ℕ) → s < length (text_sections files) → k < length (bytes_of files s) →
      IsSpared files plan sites t (member far) places w (slice_index places.sections s + k) →
      byte_at start text (slice_index places.sections s + k) ≡ slice_index (bytes_of files s) k
  section_byte s k lt within spared =
      let counted = section_count_is files plan sites t far places whole job gives in
      let lies = section_lies files plan sites t far places whole job gives s (omega (arith, lt, counted)) in
      let a = slice_index places.sections s + k in
      let same = text_stands.kept (a - start) 1 (over_spares a (omega (arith, lies.from)) spared) in
      let at = slice_index places.sections s - start in
      let place_is : a - start ≡ at + k = omega (arith, lies.from) in
      one_of (a - start) text ground same ∙ ap (slice_index ground) place_is
      ∙ sym (part_at at (length (bytes_of files s)) k ground within) ∙ ap (λ (l : List ℕ). slice_index l k) (section_stands s lt)

  -- ---- padding

  module _ (a : ℕ) (low : start ≤ a) (high : a < text_end t (member far))
      (free : IsPadding files plan sites t (member far) places w a) where
    over_free : All (IsBeside (a - start) 1) (calls ++ records)
    over_free = λ x d within.
        (let over = over_lies files plan sites t far places whole job gives w pairs x d within in
        let lies = over.lies in
        let section_in = lies.section_in in
        let counted = section_count_is files plan sites t far places whole job gives in
        let number_in : over.section < length (text_sections files) = omega (arith, section_in, counted) in
        let size = size_is files plan sites t far places whole job gives over.section number_in in
        let here = section_lies files plan sites t far places whole job gives over.section section_in in
        spares start (slice_index places.sections over.section) (length (bytes_of files over.section)) a over.start over.count
        (slice_index_or (calls ++ records) x d) here.from low lies.at lies.size (omega (arith, lies.within, size))
        (free.sections over.section number_in))

    sections_free : All (IsBeside (a - start) 1) sections
    sections_free =
        let f = section_patch files places.sections start in
        All-map (IsBeside (a - start) 1) f (range_with_len 0 (length (text_sections files)))
        (all_range (λ s. IsBeside (a - start) 1 (f s)) 0 (length (text_sections files)) (λ s from below.
        (let lt : s < length (text_sections files) = omega (arith, below) in
        let counted = section_count_is files plan sites t far places whole job gives in
        let here = section_lies files plan sites t far places whole job gives s (omega (arith, lt, counted)) in
        spares start (slice_index places.sections s) (length (bytes_of files s)) a 0 (length (bytes_of files s)) (f s) here.from low
        (omega arith) refl (omega arith) (free.sections s lt))))

    stubs_free : All (IsBeside (a - start) 1) stubs
    stubs_free = λ x d within.
        (let one = stubs_are files plan sites t far places whole job gives x d within in
        let is = one.1.1 in
        let room = is.within in
        let some = is.some in
        let here = stub_lies files plan sites t far places whole job gives one.0 is.key_in (omega (arith, room, some)) in
        spares start (slice_index places.stubs one.0) (stub_size t (member far) one.0) a one.1.0 4 (slice_index_or stubs x d) here.from low
        is.at is.size room (free.stubs one.0 is.key_in))

    padding_byte : byte_at start text a ≡ 0
    padding_byte =
        one_of (a - start) text ground (text_stands.kept (a - start) 1 over_free)
        ∙ one_of (a - start) ground blank
        (ground_stands.kept (a - start) 1 (All-append (IsBeside (a - start) 1) sections stubs sections_free stubs_free))
        ∙ get_or-replicate (text_end t (member far) - start) (a - start) 0 0 (omega (arith, low, high))

  -- place by place
  pub text_holds : HoldsText files plan sites t (member far) places w (byte_at start text)
  text_holds = record {
    stubs = stub_word;
    calls = call_word;
    slots = behind_word;
    folds = folded_stands;
    loads = load_stands;
    fields = field_stands;
    sections = section_byte;
    padding = padding_byte;
  }
