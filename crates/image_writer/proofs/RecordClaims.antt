-- What a record puts into text: bytes of its own field, and the nop in the place of the access of its pair.
use Rattle.std.proofs.Common.{ℕ, ◌≡◌, ◌<◌, ◌≤◌, ◌+◌, ◌-◌, inl, inr, Bool, true, false, ◌&&◌, List, [], ◌∷◌, Option, Some, None, length, slice_index, All, AllPairs, if◌then◌else◌, ap, sym, ◌∙◌, subst, refl, arith}
use Rattle.std.proofs.lemmas.List.Elements.{All-nil, All-cons}
use Rattle.std.proofs.lemmas.List.Kept.{AllPairs-cons}
use Rattle.byteorder.specs.Numbers.{length-bytes_low_first}
use Rattle.ppc_bytes.specs.declared.constants.TheConstants.{NOP}
use Rattle.ppc_bytes.specs.Bytes.{number_at}
use Rattle.elf64_records.specs.Records.{rela_of}
use Rattle.elf64_records.specs.Sections.{section_bytes}
use Rattle.object_set.specs.declared.places.RecordId.{RecordId}
use Rattle.object_set.specs.declared.places.SectionId.{SectionId}
use Rattle.object_set.specs.Files.{file_at}
use Rattle.object_set.specs.Refusals.{set_refusal}
use Rattle.object_set.specs.Walks.{IsRecord}
use Rattle.reloc_fields.specs.declared.kind.Kind.{Kind}
use Rattle.reloc_fields.specs.declared.kind.Kind.TheVariants.{Toc16Ha, Toc16Lo, Toc16LoDs, Toc16Ds}
use Rattle.reloc_fields.specs.Table.{line_of, filled}
use Rattle.symbol_table.specs.Text.{text_index}
use Rattle.symbol_table.specs.laws.Sections.{record_about}
use Rattle.symbol_table.specs.laws.Text.{text_index_found}
use Rattle.call_sites.specs.declared.site.CallSite.{CallSite}
use Rattle.toc_groups.specs.Contents.{field_bytes}
use Rattle.toc_groups.specs.Plans.{LaidData}
use Rattle.toc_groups.specs.Values.{field_address, record_value, is_signed}
use Rattle.toc_rewrite.specs.declared.loads.TocRecord.{TocRecord}
use Rattle.toc_rewrite.specs.Uses.{number_of, is_folded_load, rewrites_word, is_rewritten}
use Rattle.toc_rewrite.specs.Words.{folded_word}
use Rattle.pcrel_rewrite.specs.Pairs.{IsPair, IsRecognised}
use Rattle.pcrel_rewrite.specs.TextPairs.{tail_at, text_pair}
use Rattle.layout_rounds.specs.FarSets.{member}
use Rattle.layout_rounds.specs.Shapes.{KeyedText}
use Rattle.layout_rounds.specs.Layout.{PlacedText, section_size}
use Rattle.placed_bytes.specs.Patches.{Patch, number_patch, AreApart}
use Rattle.image_writer.specs.declared.got_loads.LoadWords.{LoadWords}
use Rattle.image_writer.specs.Fields.{text_kind}
use Rattle.image_writer.specs.GotLoads.{offset_of, pair_load, near_load, load_distance, pair_distance, sum_by, load_by, nop_patch, load_patches, rewritten_load}
use Rattle.image_writer.specs.Job.{IsJob}
use Rattle.image_writer.specs.Places.{IsTextRecord, IsNewLoad, RewritesPairs}
use Rattle.image_writer.specs.Records.{load_or_field, record_by, record_patch}
use Rattle.image_writer.specs.Rewriting.{Rewriting}
use Rattle.image_writer.specs.TocLoads.{toc_record, folded_patch}
use Rattle.image_writer.proofs.CallClaims.{field_within}
use Rattle.image_writer.proofs.Claims.{Claims}
use Rattle.image_writer.proofs.Fielding.{text_field}
use Rattle.image_writer.proofs.FieldRooms.{own_section, address_is}
use Rattle.image_writer.proofs.FieldsApart.{begin_of, own_section as place_of, IsField}
use Rattle.image_writer.proofs.InSections.{section_lies}
use Rattle.image_writer.proofs.Loads.{tail_found, load_case}
use Rattle.image_writer.proofs.PatchLists.{pairs_one}
use Rattle.image_writer.specs.inside.Gives.{LayoutGives}
use Rattle.image_writer.proofs.Room.{text_low}

-- a word that the rewriting of TOC loads changes is the whole field
rewritten_wide : (kind : Kind) (orderly folded : Bool) → rewrites_word kind orderly folded ≡ true → (line_of kind).width ≡ 4
rewritten_wide = elim [
  | Toc16Ha ↦ λ orderly folded is. refl
  | Toc16Lo ↦ λ orderly folded is. refl
  | Toc16LoDs ↦ λ orderly folded is. refl
  | Toc16Ds ↦ λ orderly folded is. refl
  | _ ↦ λ orderly folded is. cc
]

pub folded_wide : (files : List (List ℕ)) (span : ℕ) (text : List ℕ) (slots : List RecordId) (r : RecordId) (kind : Kind) (orderly : Bool) →
    is_rewritten (toc_record files span text slots r kind) orderly ≡ true → (line_of kind).width ≡ 4
unfolding toc_record
folded_wide files span text slots r kind orderly is =
    rewritten_wide kind orderly (is_folded_load (toc_record files span text slots r kind)) is

pub field_size : (files : List (List ℕ)) (span : ℕ) (text : List ℕ) (r : RecordId) (kind : Kind) →
    length (field_bytes files span text r kind) ≡ (line_of kind).width
unfolding field_bytes
field_size files span text r kind =
    length-bytes_low_first 0 (line_of kind).width
    (filled (line_of kind).filling
    (number_at (line_of kind).width (section_bytes (file_at files r.file) r.section)
    (rela_of (file_at files r.file) r.table r.entry).offset)
    (record_value files span text r kind))

-- ---- the access of a load's pair

module _ (files : List (List ℕ)) (span : ℕ) (text : List ℕ) (r : RecordId) where
  -- where it stands
  pub record HasTail (o : Option ℕ) (distance : ℕ) : Type 0 where
    pub tail : ℕ
    pub is : o ≡ Some tail
    pub distance_is : distance ≡ tail - offset_of files r

  sum_has_none : (t : Bool) (load : LoadWords) (distance : ℕ) → (if t then Some (near_load files span text r) else None) ≡ Some load →
      load.nop ≡ Some distance → ⊥
  sum_has_none true load distance is nop =
      let same : near_load files span text r ≡ load = cc in
      let none = ap (λ (l : LoadWords). l.nop) same in
      cc
  sum_has_none false load distance is nop = cc

  pair_case : (t sums : Bool) (tail : ℕ) (load : LoadWords) (distance : ℕ) →
      (if t then Some (pair_load files span text r tail) else sum_by files span text sums r) ≡ Some load →
      load.nop ≡ Some distance → HasTail (Some tail) distance
  pair_case true sums tail load distance is nop =
      let same : pair_load files span text r tail ≡ load = cc in
      let here : Some (tail - offset_of files r) ≡ Some distance = ap (λ (l : LoadWords). l.nop) same ∙ nop in
      let equal : tail - offset_of files r ≡ distance = cc in
      record { tail = tail; is = refl; distance_is = sym equal }
  pair_case false sums tail load distance is nop =
      absurd (sum_has_none (sums && is_signed 34 (load_distance files span text r)) load distance is nop)

  pub tail_case : (o : Option ℕ) (sums : Bool) (load : LoadWords) (distance : ℕ) → load_by files span text sums r o ≡ Some load →
      load.nop ≡ Some distance → HasTail o distance
  tail_case None sums load distance is nop =
      absurd (sum_has_none (sums && is_signed 34 (load_distance files span text r)) load distance is nop)
  tail_case (Some tail) sums load distance is nop =
      pair_case (is_signed 34 (pair_distance files span text r tail)) sums tail load distance is nop

nop_all : (P : Patch → Type 0) (at : ℕ) (o : Option ℕ) → ((distance : ℕ) → o ≡ Some distance → P (number_patch 4 (at + distance) NOP)) →
    All P (nop_patch at o)
nop_all P at None each = All-nil P
nop_all P at (Some distance) each = All-cons P (number_patch 4 (at + distance) NOP) [] (each distance refl) (All-nil P)

nop_pairs : (at : ℕ) (o : Option ℕ) → AllPairs AreApart (nop_patch at o)
nop_pairs at None = λ i j d before within. absurd (omega (arith, within))
nop_pairs at (Some distance) = pairs_one AreApart (number_patch 4 (at + distance) NOP)

section_same : (s u : SectionId) → Some s ≡ Some u → s ≡ u
section_same s u both = cc

module _ (files : List (List ℕ)) (plan : LaidData) (sites : List CallSite) (t : KeyedText) (far : List Bool) (places : PlacedText)
    (whole : set_refusal files ≡ None) (job : IsJob files plan sites t far places)
    (gives : LayoutGives t job.shape.sites.items job.span (member far))
    (w : Rewriting) (pairs : RewritesPairs files w.pairs) where
  abbrev ClaimsOf : RecordId → Patch → Type 0
  ClaimsOf = Claims files plan sites t far places whole job gives

  pub field_is : (r : RecordId) (k : Kind) → IsTextRecord files r k → IsField files r k
  field_is r k is =
      let field = text_field files r k is.kind_is in
      record { here = is.there; text = field.text; known = field.known; fills = field.fills }

  -- the pair whose load is a record's
  pub pair_at : (r : RecordId) (k : Kind) (tail : ℕ) → IsTextRecord files r k →
      tail_at w.pairs (text_index files r.file r.section) (offset_of files r) ≡ Some tail →
      IsPair files (place_of files r) (begin_of files r) tail
  pair_at r k tail is found =
      let n = text_index files r.file r.section in
      let field = text_field files r k is.kind_is in
      let about = record_about files r whole is.there in
      let known : IsRecognised files (text_pair n (offset_of files r) tail) =
      pairs (text_pair n (offset_of files r) tail) (tail_found w.pairs n (offset_of files r) tail found) in
      let same = section_same known.place (place_of files r)
      (sym known.place_is ∙ text_index_found files r.file r.section is.there.file_in about.within field.text) in
      subst (λ (s : SectionId). IsPair files s (begin_of files r) tail) same known.is

  module _ (r : RecordId) (k : Kind) (is : IsTextRecord files r k) where
    abbrev at : ℕ
    at = field_address files plan.span places.sections r - plan.text_start

    -- where the field lies
    pub record HasPlace : Type 0 where
      pub counted : text_index files r.file r.section < length t.sections
      pub within : begin_of files r + (line_of k).width ≤ section_size t (text_index files r.file r.section)
      pub address : field_address files plan.span places.sections r
          ≡ slice_index places.sections (text_index files r.file r.section) + begin_of files r
      pub from : plan.text_start ≤ slice_index places.sections (text_index files r.file r.section)

    pub place : HasPlace
    place =
        let field = field_is r k is in
        let n = text_index files r.file r.section in
        let own = own_section files plan sites t far places whole job gives r field.here field.text in
        let lies = section_lies files plan sites t far places whole job gives n own.counted in
        let low = text_low files plan sites t far places whole job gives in
        let within = field_within files plan sites t far places whole job gives r k field in
        record {
          counted = own.counted;
          within = within;
          address = address_is files plan sites t far places whole job gives r field.text
              (omega (arith, within, lies.to, low, field.fills));
          from = lies.from;
        }

    -- bytes of the field
    in_field : (offset count : ℕ) (p : Patch) → p.at ≡ at + offset → length p.bytes ≡ count → offset + count ≤
        (line_of k).width → ClaimsOf r p
    in_field offset count p here size fits =
        let there = place in
        inl (record {
          kind = k;
          field = field_is r k is;
          start = begin_of files r + offset;
          count = count;
          from = omega arith;
          to = omega (arith, fits);
          lies = record {
            section_in = there.counted;
            within = omega (arith, there.within, fits);
            at = omega (arith, here, there.address, there.from);
            size = size;
          };
        })

    -- the access of the pair
    module _ (load : LoadWords) (load_is : rewritten_load files plan.span places.sections w r k ≡ Some load) where
      load_wide : (line_of k).width ≡ 8
      load_wide = ap (λ (x : Kind). (line_of x).width) (load_case files plan.span places.sections r w k load load_is).kind_is

      pub tail_of : (distance : ℕ) → load.nop ≡ Some distance →
          HasTail files plan.span places.sections r (tail_at w.pairs (text_index files r.file r.section) (offset_of files r)) distance
      tail_of distance nop =
          tail_case files plan.span places.sections r
          (tail_at w.pairs (text_index files r.file r.section) (offset_of files r)) w.sums load distance
          (load_case files plan.span places.sections r w k load load_is).load_is nop

      access_far : (distance : ℕ) → load.nop ≡ Some distance → 8 ≤ distance
      access_far distance nop =
          let has = tail_of distance nop in
          let near = (pair_at r k has.tail is has.is).words.near in
          omega (arith, has.distance_is, near.least)

      access_at : (distance : ℕ) → load.nop ≡ Some distance → ClaimsOf r (number_patch 4 (at + distance) NOP)
      access_at distance nop =
          let has = tail_of distance nop in
          let pair = pair_at r k has.tail is has.is in
          let least = pair.words.near.least in
          let inside = pair.words.within in
          let there = place in
          let field = field_is r k is in
          let own = own_section files plan sites t far places whole job gives r field.here field.text in
          inr (inr (record {
            kind = k;
            field = field;
            tail = has.tail;
            pair = pair;
            lies = record {
              section_in = there.counted;
              within = omega (arith, inside, own.size);
              at = omega (arith, there.address, there.from, has.distance_is, least);
              size = length-bytes_low_first 0 4 NOP;
            };
          }))

      load_apart : AllPairs AreApart (load_patches at load)
      load_apart =
          let size = length-bytes_low_first 0 4 load.prefix in
          let size_too = length-bytes_low_first 0 4 load.suffix in
          AllPairs-cons AreApart (number_patch 4 at load.prefix) (number_patch 4 (at + 4) load.suffix ∷ nop_patch at load.nop)
          (All-cons (AreApart (number_patch 4 at load.prefix)) (number_patch 4 (at + 4) load.suffix) (nop_patch at load.nop)
          (inr (omega (arith, size)))
          (nop_all (AreApart (number_patch 4 at load.prefix)) at load.nop (λ distance nop.
          (let least = access_far distance nop in inr (omega (arith, size, least))))))
          (AllPairs-cons AreApart (number_patch 4 (at + 4) load.suffix) (nop_patch at load.nop)
          (nop_all (AreApart (number_patch 4 (at + 4) load.suffix)) at load.nop (λ distance nop.
          (let least = access_far distance nop in inr (omega (arith, size_too, least)))))
          (nop_pairs at load.nop))

    load_or_field_apart : (o : Option LoadWords) → rewritten_load files plan.span places.sections w r k ≡ o →
        AllPairs AreApart (load_or_field files plan.span places.sections w plan.text_start r k o)
    load_or_field_apart None load_is = pairs_one AreApart (record { at = at; bytes = field_bytes files plan.span places.sections r k })
    load_or_field_apart (Some load) load_is = load_apart load load_is

    abbrev pub seen : TocRecord
    seen = toc_record files plan.span places.sections w.slots r k

    -- what the record puts, by whether its word is rewritten
    abbrev pub by_test : Bool → List Patch
    by_test b =
        if b then folded_patch files plan.span places.sections plan.text_start r seen
        else load_or_field files plan.span places.sections w plan.text_start r k (rewritten_load files plan.span places.sections w r k)

    test_apart : (b : Bool) → AllPairs AreApart (by_test b)
    test_apart true =
        pairs_one AreApart (number_patch 4 at
        (folded_word seen.kind seen.word (number_of seen (record_value files plan.span places.sections r seen.kind)) (is_folded_load seen)))
    test_apart false = load_or_field_apart (rewritten_load files plan.span places.sections w r k) refl

    -- what is so of bytes of the field and of the access is so of all that is put
    module _ (P : Patch → Type 0)
        (field : (offset count : ℕ) (p : Patch) → p.at ≡ at + offset → length p.bytes ≡ count → offset + count ≤ (line_of k).width → P p)
        (access : (load : LoadWords) (distance : ℕ) → IsNewLoad files plan sites t (member far) places w r k load →
        load.nop ≡ Some distance → P (number_patch 4 (at + distance) NOP)) where
      load_or_field_all : (o : Option LoadWords) → is_rewritten seen (w.orderly r.file) ≡ false →
          rewritten_load files plan.span places.sections w r k ≡ o →
          All P (load_or_field files plan.span places.sections w plan.text_start r k o)
      load_or_field_all None other load_is =
          let p : Patch = record { at = at; bytes = field_bytes files plan.span places.sections r k } in
          All-cons P p []
          (field 0 (line_of k).width p (omega arith) (field_size files plan.span places.sections r k) (omega arith)) (All-nil P)
      load_or_field_all (Some load) other load_is =
          let wide = load_wide load load_is in
          let new : IsNewLoad files plan sites t (member far) places w r k load = record { is = is; other = other; load_is = load_is } in
          All-cons P (number_patch 4 at load.prefix) (number_patch 4 (at + 4) load.suffix ∷ nop_patch at load.nop)
          (field 0 4 (number_patch 4 at load.prefix) (omega arith) (length-bytes_low_first 0 4 load.prefix) (omega (arith, wide)))
          (All-cons P (number_patch 4 (at + 4) load.suffix) (nop_patch at load.nop)
          (field 4 4 (number_patch 4 (at + 4) load.suffix) refl (length-bytes_low_first 0 4 load.suffix) (omega (arith, wide)))
          (nop_all P at load.nop (λ distance nop. access load distance new nop)))

      test_all : (b : Bool) → is_rewritten seen (w.orderly r.file) ≡ b → All P (by_test b)
      test_all true rewritten =
          let word = folded_word seen.kind seen.word
          (number_of seen (record_value files plan.span places.sections r seen.kind)) (is_folded_load seen) in
          let wide = folded_wide files plan.span places.sections w.slots r k (w.orderly r.file) rewritten in
          All-cons P (number_patch 4 at word) []
          (field 0 4 (number_patch 4 at word) (omega arith) (length-bytes_low_first 0 4 word) (omega (arith, wide))) (All-nil P)
      test_all false rewritten = load_or_field_all (rewritten_load files plan.span places.sections w r k) rewritten refl

      pub record_all : All P (record_by files plan.span places.sections w plan.text_start r (Some k))
      record_all = test_all (is_rewritten seen (w.orderly r.file)) refl

  -- what a record puts that is in text
  pub record IsPutBy (r : RecordId) (p : Patch) : Type 0 where
    pub kind : Kind
    pub is : IsTextRecord files r kind
    pub claims : ClaimsOf r p

  kind_claims : (r : RecordId) (o : Option Kind) → IsRecord files r → text_kind files r ≡ o →
      All (IsPutBy r) (record_by files plan.span places.sections w plan.text_start r o)
  kind_claims r None here is = All-nil (IsPutBy r)
  kind_claims r (Some k) here is =
      let own : IsTextRecord files r k = record { there = here; kind_is = is } in
      record_all r k own (IsPutBy r)
      (λ offset count p at size fits. record { kind = k; is = own; claims = in_field r k own offset count p at size fits })
      (λ load distance new nop. record { kind = k; is = own; claims = access_at r k own load new.load_is distance nop })

  kind_apart : (r : RecordId) (o : Option Kind) → IsRecord files r → text_kind files r ≡ o →
      AllPairs AreApart (record_by files plan.span places.sections w plan.text_start r o)
  kind_apart r None here is = λ i j d before within. absurd (omega (arith, within))
  kind_apart r (Some k) here is =
      let own : IsTextRecord files r k = record { there = here; kind_is = is } in
      test_apart r k own (is_rewritten (toc_record files plan.span places.sections w.slots r k) (w.orderly r.file))

  pub record_claims : (r : RecordId) → IsRecord files r →
      All (IsPutBy r) (record_patch files plan.span places.sections w plan.text_start r)
  record_claims r here = kind_claims r (text_kind files r) here refl

  pub record_apart : (r : RecordId) → IsRecord files r →
      AllPairs AreApart (record_patch files plan.span places.sections w plan.text_start r)
  record_apart r here = kind_apart r (text_kind files r) here refl
