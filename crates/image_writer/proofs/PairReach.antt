-- What the access of a recognised pair does is in reach of one instruction, so that the pair becomes one.
use Rattle.std.proofs.Common.{ℕ, ℤ, pos, ◌≡◌, ◌<◌, ◌≤◌, ◌+◌, ◌*◌, ◌/◌, ◌%◌, ◌^◌, ◌&&◌, not, Bool, true, false, List, length, Option, Some, None, slice_index, ap, sym, ◌∙◌, subst, refl, arith, if◌then◌else◌}
use Rattle.std.specs.Prelude.{neg_ℤ, int_lt, nat_lt, ◌+ℤ◌, ◌-ℤ◌, IsSome}
use Rattle.std.proofs.lemmas.Int.{ints}
use Rattle.ppc_bytes.specs.Bytes.{InSigned}
use Rattle.ppc_bytes.specs.Halves.{signed_of}
use Rattle.ppc_bytes.specs.laws.Halves.{signed_of-InSigned}
use Rattle.elf64_records.specs.Records.{rela_of}
use Rattle.elf64_records.specs.laws.Whole.{symbol_in_range}
use Rattle.object_set.specs.declared.places.RecordId.{RecordId}
use Rattle.object_set.specs.Files.{file_at}
use Rattle.object_set.specs.Refusals.{set_refusal}
use Rattle.object_set.specs.Sections.{is_text}
use Rattle.reloc_fields.specs.declared.kind.Kind.{Kind}
use Rattle.reloc_fields.specs.declared.kind.Kind.TheVariants.{GotPcrel34}
use Rattle.reloc_fields.specs.Table.{line_of}
use Rattle.symbol_table.specs.declared.target.Target.{Target}
use Rattle.symbol_table.specs.Fields.{kind_numbered}
use Rattle.symbol_table.specs.Targets.{target_of, definition_of}
use Rattle.symbol_table.specs.Text.{text_sections, text_index}
use Rattle.call_sites.specs.declared.site.CallSite.{CallSite}
use Rattle.toc_groups.specs.PlacedData.{IsPlacedData}
use Rattle.toc_groups.specs.Plans.{LaidData}
use Rattle.toc_groups.specs.Values.{is_signed, symbol_address, field_address}
use Rattle.toc_groups.proofs.Bounds.{whole_file}
use Rattle.toc_groups.proofs.Reading.{target_in}
use Rattle.toc_groups.proofs.RecordValues.{record_goes}
use Rattle.toc_rewrite.specs.declared.words.TheConstants.{LD_FORMS}
use Rattle.pcrel_rewrite.specs.Pairs.{IsPair, is_number}
use Rattle.layout_rounds.specs.FarSets.{member}
use Rattle.layout_rounds.specs.Shapes.{KeyedText}
use Rattle.layout_rounds.specs.Layout.{PlacedText}
use Rattle.image_writer.specs.GotLoads.{displacement_of, word_by, offset_of, pair_distance, pair_load, sum_by, load_by, rewritten_load}
use Rattle.image_writer.specs.Job.{IsJob}
use Rattle.image_writer.specs.Places.{IsTextRecord, RewritesPairs, IsPairLoad, bytes_of}
use Rattle.pcrel_rewrite.specs.TextPairs.{tail_at}
use Rattle.image_writer.specs.Rewriting.{Rewriting}
use Rattle.image_writer.proofs.FieldsApart.{begin_of, own_section, IsField, one_field}
use Rattle.image_writer.proofs.InSections.{section_lies}
use Rattle.image_writer.proofs.LowAddresses.{symbol_low}
use Rattle.image_writer.proofs.RecordClaims.{field_is, pair_at, place}
use Rattle.image_writer.specs.inside.Gives.{LayoutGives}
use Rattle.image_writer.proofs.Room.{section_count_is, size_is, text_low}

-- a number of 34 bits passes the test
fits_case : (x : ℤ) (below above : Bool) → int_lt x (neg_ℤ (pos (2 ^ 33))) ≡ below → int_lt x (pos (2 ^ 33)) ≡ above → InSigned 34 x →
    (not below && above) ≡ true
fits_case x false true b a fits = refl
fits_case x true above b a fits = (let low = fits.low in absurd (omega (arith, ints, b, low)))
fits_case x false false b a fits = (let high = fits.high in absurd (omega (arith, ints, a, high)))

passes_34 : (x : ℤ) → InSigned 34 x → is_signed 34 x ≡ true
passes_34 x fits = fits_case x (int_lt x (neg_ℤ (pos (2 ^ 33)))) (int_lt x (pos (2 ^ 33))) refl refl fits

-- a displacement of 16 bits
low_case : (b : Bool) (low : ℕ) → low < 2 ^ 16 → InSigned 16 (signed_of 16 (if b then low else low / 4 * 4))
low_case true low below = signed_of-InSigned 16 low (omega arith) below
low_case false low below = signed_of-InSigned 16 (low / 4 * 4) (omega arith) (omega (arith, below))

displacement_fits : (word : ℕ) → InSigned 16 (displacement_of word)
displacement_fits word =
    low_case (nat_lt (word / 2 ^ 26) LD_FORMS) (word % 2 ^ 16) (omega arith)

-- from one low address to another, and on
sum_fits : (symbol at : ℕ) (disp : ℤ) → symbol ≤ 0x60000000 → at ≤ 0x60000000 → InSigned 16 disp →
    InSigned 34 ((pos symbol -ℤ pos at) +ℤ disp)
sum_fits symbol at disp below here fits =
    let low = fits.low in
    let high = fits.high in
    record { low = omega (arith, ints, low, below, here); high = omega (arith, ints, high, below, here) }

got_kind : (number : ℕ) → number ≡ (line_of GotPcrel34).number → kind_numbered number ≡ Some GotPcrel34
unfolding kind_numbered
got_kind number is = subst (λ (n : ℕ). kind_numbered n ≡ Some GotPcrel34) (sym is) refl

some_of : (o : Option Target) → IsSome o → (t : Target) × (o ≡ Some t)
some_of None some = cc
some_of (Some t) some = (t, refl)

module _ (files : List (List ℕ)) (plan : LaidData) (sites : List CallSite) (t : KeyedText) (far : List Bool) (places : PlacedText)
    (whole : set_refusal files ≡ None) (job : IsJob files plan sites t far places)
    (gives : LayoutGives t job.shape.sites.items job.span (member far))
    (w : Rewriting) (pairs : RewritesPairs files w.pairs) (placed : IsPlacedData files plan.span) where
  -- text ends low
  section_end : (s : ℕ) → s < length (text_sections files) → slice_index places.sections s + length (bytes_of files s) ≤ 0x60000000
  section_end s lt =
      let counted = section_count_is files plan sites t far places whole job gives in
      let lies = section_lies files plan sites t far places whole job gives s (omega (arith, lt, counted)) in
      let size = size_is files plan sites t far places whole job gives s lt in
      let low = text_low files plan sites t far places whole job gives in
      omega (arith, lies.to, size, low)

  module _ (r : RecordId) (k : Kind) (is : IsTextRecord files r k) (tail : ℕ)
      (found : tail_at w.pairs (text_index files r.file r.section) (offset_of files r) ≡ Some tail) where
    pair : IsPair files (own_section files r) (begin_of files r) tail
    pair = pair_at files plan sites t far places whole job gives w pairs r k tail is found

    -- the load of the pair is the record's
    load_field : IsField files pair.load.record_id GotPcrel34
    load_field =
        let q = pair.load.record_id in
        let here = pair.load.here in
        let field = field_is files plan sites t far places whole job gives w pairs r k is in
        let number = ap (λ (f : ℕ). (rela_of (file_at files f) q.table q.entry).kind) here.file_is ∙ here.kind_is in
        record {
          here = here.record_in;
          text = ap (λ (f : ℕ). is_text (file_at files f) q.section) here.file_is
              ∙ ap (is_text (file_at files r.file)) here.section_is ∙ field.text;
          known = got_kind (rela_of (file_at files q.file) q.table q.entry).kind number;
          fills = omega arith;
        }

    same_record : pair.load.record_id ≡ r
    same_record =
        let q = pair.load.record_id in
        let here = pair.load.here in
        let field = field_is files plan sites t far places whole job gives w pairs r k is in
        let begin = ap (λ (f : ℕ). (rela_of (file_at files f) q.table q.entry).offset) here.file_is ∙ here.offset_is in
        one_field files whole job.records q r GotPcrel34 k load_field field here.file_is here.section_is begin

    kind_same : k ≡ GotPcrel34
    kind_same =
        let field = field_is files plan sites t far places whole job gives w pairs r k is in
        let both : Some GotPcrel34 ≡ Some k =
        sym load_field.known
        ∙ ap (λ (q : RecordId). kind_numbered (rela_of (file_at files q.file) q.table q.entry).kind) same_record ∙ field.known in
        cc

    abbrev symbol : ℕ
    symbol = (rela_of (file_at files r.file) r.table r.entry).symbol

    -- the symbol's address is low
    low : symbol_address files plan.span places.sections r.file symbol ≤ 0x60000000
    low =
        let there = is.there in
        let field = load_field in
        let own : IsField files r GotPcrel34 = subst (λ (q : RecordId). IsField files q GotPcrel34) same_record field in
        let none : is_number files (definition_of files r.file symbol) ≡ false =
        ap (λ (q : RecordId). is_number files
        (definition_of files r.file (rela_of (file_at files r.file) q.table q.entry).symbol)) (sym same_record)
        ∙ pair.load.address in
        let inside = symbol_in_range (file_at files r.file) r.table r.entry
        (whole_file files r.file whole there.file_in).fault there.table_in
        there.within in
        let goes = some_of (target_of files r.file symbol (pos 0))
        (record_goes files r GotPcrel34 job.records there own.known own.fills refl) in
        symbol_low files plan.span places.sections whole placed section_end r.file symbol goes.0 there.file_in inside
        (target_in files r.file symbol (pos 0) goes.0 whole there.file_in inside goes.1) goes.1 none

    distance_fits : InSigned 34 (pair_distance files plan.span places.sections r tail)
    distance_fits =
        let there = place files plan sites t far places whole job gives w pairs r k is in
        let lies = section_lies files plan sites t far places whole job gives (text_index files r.file r.section) there.counted in
        let end = text_low files plan sites t far places whole job gives in
        let here : field_address files plan.span places.sections r ≤ 0x60000000 =
        omega (arith, there.address, there.within, lies.to, end) in
        sum_fits (symbol_address files plan.span places.sections r.file symbol) (field_address files plan.span places.sections r)
        (displacement_of (word_by files r tail)) low here (displacement_fits (word_by files r tail))

    load_case : (kind : Kind) → kind ≡ GotPcrel34 →
        rewritten_load files plan.span places.sections w r GotPcrel34 ≡ Some (pair_load files plan.span places.sections r tail) →
        rewritten_load files plan.span places.sections w r kind ≡ Some (pair_load files plan.span places.sections r tail)
    load_case kind same load = ap (rewritten_load files plan.span places.sections w r) same ∙ load

    becomes : rewritten_load files plan.span places.sections w r GotPcrel34 ≡ Some (pair_load files plan.span places.sections r tail)
    unfolding rewritten_load
    becomes =
        ap (load_by files plan.span places.sections w.sums r) found
        ∙ ap (λ (b : Bool). if b then Some (pair_load files plan.span places.sections r tail)
        else sum_by files plan.span places.sections w.sums r)
        (passes_34 (pair_distance files plan.span places.sections r tail) distance_fits)

    pub pair_reaches : IsPairLoad files plan sites t (member far) places w r k tail
    pair_reaches = record { kind_is = kind_same; fits = distance_fits; load_is = load_case k kind_same becomes }
