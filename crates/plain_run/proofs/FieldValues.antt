-- Where the records of a job go, and their values where text sections are taken to lie at 0, read of its plan.
use Rattle.std.proofs.Common.{◌≡◌, ◌<◌, ◌+◌, ◌%◌, ◌^◌, ℕ, ℤ, Bool, true, false, List, [], get_or, Option, None, Some, slice_get, slice_index, sym, ap, ◌∙◌, subst, refl, arith, if◌then◌else◌, to_z, of_z}
use Rattle.std.specs.Prelude.{pos, negsuc, neg_ℤ, unwrap_or, ◌+ℤ◌, ◌≤ℤ◌, ◌<ℤ◌}
use Rattle.std.specs.Int.{int_div_euclid, w128}
use Rattle.std.specs.Int.Signed.{shr_z}
use Rattle.std.proofs.lemmas.Int.{ints, to_z-of_z}
use Rattle.std.proofs.lemmas.Option.{get_or_from_slice_get, unwrap_or-slice_get}
use Rattle.elf64_records.specs.Records.{rela_of}
use Rattle.object_set.specs.declared.places.RecordId.{RecordId}
use Rattle.object_set.specs.declared.places.SectionId.{SectionId}
use Rattle.object_set.specs.declared.sort.Sort.TheVariants.{Dropped}
use Rattle.object_set.specs.Files.{file_at}
use Rattle.object_set.specs.Refusals.{set_refusal}
use Rattle.object_set.specs.Sections.{is_kept_sort, is_text, sort_of}
use Rattle.object_set.specs.Walks.{IsRecord, section_walk, index_of}
use Rattle.ppc_bytes.specs.Bytes.{InSigned}
use Rattle.ppc_bytes.specs.Halves.{whole_ha}
use Rattle.reloc_fields.specs.declared.kind.Kind.{Kind}
use Rattle.reloc_fields.specs.Table.{Formula, value}
use Rattle.reloc_fields.specs.Table.Formula.{no_value, symbol, from_place, from_toc, toc_base, addend as its_addend}
use Rattle.symbol_table.specs.declared.target.Piece.{Piece}
use Rattle.symbol_table.specs.declared.target.Piece.TheVariants.{Section, Common}
use Rattle.symbol_table.specs.declared.target.Target.{Target}
use Rattle.symbol_table.specs.declared.target.Target.TheVariants.{Data, Code, Number, TocBase, WeakNone}
use Rattle.symbol_table.specs.Records.{is_slot_kind, looks_at_symbol}
use Rattle.symbol_table.specs.Targets.{plus_addend, target_of}
use Rattle.symbol_table.specs.Text.{text_index, text_sections}
use Rattle.symbol_table.specs.laws.Sections.{record_about}
use Rattle.symbol_table.specs.laws.Text.{text_section_at}
use Rattle.call_sites.specs.Sites.{no_section}
use Rattle.toc_groups.specs.Data.{piece_address, target_address, section_address, slot_address}
use Rattle.toc_groups.specs.Parts.{IsPieceOf, IsTargetOf}
use Rattle.toc_groups.specs.Plans.{LaidData, IsPlan, address_in}
use Rattle.toc_groups.specs.Values.{code_address, symbol_address, section_place, field_address, source_address}
use Rattle.toc_groups.proofs.Reading.{base_is, first_is, piece_is, address_is}
use Rattle.toc_groups.proofs.RecordValues.{address_read}
use Rattle.toc_rewrite.specs.Laid.{number_of, piece_address as laid_piece}
use Rattle.toc_rewrite.specs.Records.{record_target, record_number, number_in}
use Rattle.toc_rewrite.proofs.Sections.{index_from_first}
use Rattle.plain_machine.specs.declared.place.TextPlace.{TextPlace}
use Rattle.plain_run.specs.Places.{laid}
use Rattle.plain_run.specs.Standing.{section_at}
use Rattle.plain_run.specs.inside.Text.{IsFieldAt}

-- ---- numbers to which targets go

module _ (files : List (List ℕ)) (plan : LaidData) (is : IsPlan files plan.span plan) where
  laid_is : (piece : Piece) → IsPieceOf files piece → laid_piece (laid files plan) piece ≡ piece_address files plan.span piece
  laid_is (Section file i) within =
      let first = first_is files plan.span plan is file within.0 in
      let behind = index_from_first files file i in
      let index : index_of section_walk files file i ≡ get_or plan.firsts file 0 + i = omega (arith, first, behind) in
      ap (slice_index plan.pieces) index ∙ piece_is files plan.span plan is (Section file i) within
  laid_is (Common c) within =
      ap (λ (n : ℕ). slice_index plan.pieces (n + c)) (sym is.commons) ∙ piece_is files plan.span plan is (Common c) within

  number_is : (target : Target) → IsTargetOf files target →
      number_of (laid files plan) target ≡ target_address files plan.span target
  number_is (Data piece addend) within = ap (λ (x : ℕ). Some (plus_addend x addend)) (laid_is piece within)
  number_is (Code section offset) within = refl
  number_is (Number n) within = refl
  number_is (TocBase file addend) within =
      ap (λ (x : ℕ). Some (plus_addend x addend)) (base_is files plan.span plan is file within)
  number_is (WeakNone addend) within = refl

  -- what the plan tells of where a record goes
  pub number_told : (r : RecordId) (target : Target) (number : Option ℕ) → Some target ≡ record_target files r →
      IsTargetOf files target → number ≡ address_in plan target → record_number (laid files plan) r ≡ number
  number_told r target number goes there read =
      ap (number_in (laid files plan)) (sym goes) ∙ number_is target there
      ∙ sym (address_is files plan.span plan is target there) ∙ sym read

-- ---- the address of a symbol where text sections are taken to lie at 0

module _ (files : List (List ℕ)) (plan : LaidData) (is : IsPlan files plan.span plan) (file j : ℕ) (t : Target)
    (there : IsTargetOf files t) (goes : target_of files file j (pos 0) ≡ Some t) where
  pub source_number : (n : ℕ) → Some n ≡ address_in plan t → n ≡ symbol_address files plan.span [] file j
  source_number n read =
      address_read files plan.span [] plan file j n t is there goes
      (ap (λ (o : Option ℕ). unwrap_or o (code_address [] t)) read)

  pub source_place : (section offset : ℕ) → t ≡ Code section offset → offset < 2 ^ 64 →
      offset ≡ symbol_address files plan.span [] file j
  source_place section offset same low =
      address_read files plan.span [] plan file j offset t is there goes
      (let kept : offset ≡ (0 + offset) % 2 ^ 64 = omega (arith, low) in
      kept ∙ ap (λ (u : Target). unwrap_or (address_in plan u) (code_address [] u)) (sym same))

-- ---- values

-- section 0 isn't kept
null_dropped : (b : List ℕ) → sort_of b 0 ≡ Dropped
unfolding sort_of
null_dropped b = refl

section_case : (files : List (List ℕ)) (p : TextPlace) (r : RecordId) (o : Option SectionId) → set_refusal files ≡ None →
    IsRecord files r → section_at files p ≡ record { file = r.file; section = r.section } →
    slice_get (text_sections files) p.section ≡ o → is_text (file_at files r.file) r.section ≡ true
section_case files p r (Some s) whole is own found =
    let here : section_at files p ≡ s = get_or_from_slice_get (text_sections files) p.section s no_section found in
    let same : s ≡ record { file = r.file; section = r.section } = sym here ∙ own in
    subst (λ (t : SectionId). is_text (file_at files t.file) t.section ≡ true) same
    (text_section_at files p.section s found).text
section_case files p r None whole is own found =
    let b = file_at files r.file in
    let past : section_at files p ≡ no_section =
    sym (unwrap_or-slice_get (text_sections files) p.section no_section)
    ∙ ap (λ (o : Option SectionId). unwrap_or o no_section) found in
    let zeroth : r.section ≡ 0 = ap (λ (s : SectionId). s.section) (sym own ∙ past) in
    let kept = (record_about files r whole is).kept in
    let dropped = ap (λ (i : ℕ). is_kept_sort (sort_of b i)) zeroth ∙ ap is_kept_sort (null_dropped b) in
    cc

-- the section of a field that begins at a place is text
pub field_text : (files : List (List ℕ)) (p : TextPlace) (r : RecordId) (kind : Kind) → set_refusal files ≡ None →
    IsFieldAt files p r kind → is_text (file_at files r.file) r.section ≡ true
field_text files p r kind whole field =
    section_case files p r (slice_get (text_sections files) p.section) whole field.there field.section_is refl

-- so its address is its offset
pub field_offset : (files : List (List ℕ)) (span : ℕ) (p : TextPlace) (r : RecordId) (kind : Kind) → set_refusal files ≡ None →
    IsFieldAt files p r kind → p.offset < 2 ^ 64 → p.offset ≡ field_address files span [] r
field_offset files span p r kind whole field low =
    let b = file_at files r.file in
    let place : section_place files span [] r.file r.section ≡ 0 =
    ap (λ (t : Bool). if t then slice_index [] (text_index files r.file r.section) else section_address files span r.file b r.section)
    (field_text files p r kind whole field) in
    let kept : (0 + p.offset) % 2 ^ 64 ≡ p.offset = omega (arith, low) in
    sym (ap (λ (x : ℕ). (x + (rela_of b r.table r.entry).offset) % 2 ^ 64) place
    ∙ ap (λ (x : ℕ). (0 + x) % 2 ^ 64) field.offset_is ∙ kept)

-- what the value of a kind that looks at a symbol, and loads from no slot, begins with
pub source_symbol : (files : List (List ℕ)) (span : ℕ) (r : RecordId) (kind : Kind) (j x : ℕ) → is_slot_kind kind ≡ false →
    looks_at_symbol kind ≡ true → j ≡ (rela_of (file_at files r.file) r.table r.entry).symbol →
    x ≡ symbol_address files span [] r.file j → x ≡ source_address files span [] r kind
source_symbol files span r kind j x no_slot looks symbol_is read =
    let own = (rela_of (file_at files r.file) r.table r.entry).symbol in
    read ∙ ap (symbol_address files span [] r.file) symbol_is
    ∙ sym (ap (λ (t : Bool). if t then unwrap_or (slot_address files span r.file own) 0
    else (if looks_at_symbol kind then symbol_address files span [] r.file own else 0)) no_slot
    ∙ ap (λ (t : Bool). if t then symbol_address files span [] r.file own else 0) looks)

-- a value is made of numbers of 64 bits
pub value_near : (f : Formula) (s : ℕ) (a : ℤ) (p toc : ℕ) → s < 2 ^ 64 → InSigned 64 a → p < 2 ^ 64 → toc < 2 ^ 64 →
    InSigned 68 (value f s a p toc)
value_near no_value s a p toc fits_s fits_a fits_p fits_toc = record { low = omega (arith, ints); high = omega (arith, ints) }
value_near symbol s a p toc fits_s fits_a fits_p fits_toc =
    record { low = omega (arith, ints, fits_a.low, fits_a.high); high = omega (arith, ints, fits_a.low, fits_a.high) }
value_near from_place s a p toc fits_s fits_a fits_p fits_toc =
    record { low = omega (arith, ints, fits_a.low, fits_a.high); high = omega (arith, ints, fits_a.low, fits_a.high) }
value_near from_toc s a p toc fits_s fits_a fits_p fits_toc =
    record { low = omega (arith, ints, fits_a.low, fits_a.high); high = omega (arith, ints, fits_a.low, fits_a.high) }
value_near toc_base s a p toc fits_s fits_a fits_p fits_toc = record { low = omega (arith, ints); high = omega (arith, ints) }
value_near its_addend s a p toc fits_s fits_a fits_p fits_toc =
    record { low = omega (arith, ints, fits_a.low, fits_a.high); high = omega (arith, ints, fits_a.low, fits_a.high) }

-- ---- high halves

-- a shift rounds down
shift_div : (z : ℤ) → shr_z z 0x10000 ≡ int_div_euclid z (pos 0x10000)
shift_div (pos n) = refl
shift_div (negsuc n) = refl

-- a number is near 0
record IsNear (z : ℤ) : Type 0 where
  low : neg_ℤ (pos (2 ^ 69)) ≤ℤ z
  high : z <ℤ pos (2 ^ 69)

quotient_near : (z : ℤ) → IsNear z → InSigned 64 (int_div_euclid z (pos 0x10000))
quotient_near (pos n) near =
    let less = near.high in record { low = omega (arith, ints); high = omega (arith, ints, less) }
quotient_near (negsuc n) near =
    let least = near.low in record { low = omega (arith, ints, least); high = omega (arith, ints) }

-- a high half as it is computed
abbrev pub shifted_half : ℤ → ℤ
shifted_half x =
    to_z w128 (of_z w128 (shr_z (to_z w128 (of_z w128 (to_z w128 (of_z w128 x) +ℤ pos 0x8000))) 0x10000))

pub half_near : (x : ℤ) → InSigned 68 x → InSigned 64 (whole_ha x)
half_near x near =
    let least = near.low in
    let less = near.high in
    quotient_near (x +ℤ pos 0x8000) (record { low = omega (arith, ints, least); high = omega (arith, ints, less) })

pub half_is : (x : ℤ) → InSigned 68 x → shifted_half x ≡ whole_ha x
half_is x near =
    let least = near.low in
    let less = near.high in
    let own : to_z w128 (of_z w128 x) ≡ x = omega (arith, ints, least, less) in
    let more : to_z w128 (of_z w128 (x +ℤ pos 0x8000)) ≡ x +ℤ pos 0x8000 = omega (arith, ints, least, less) in
    let half = half_near x near in
    let low = half.low in
    let high = half.high in
    let kept : to_z w128 (of_z w128 (whole_ha x)) ≡ whole_ha x = to_z-of_z w128 (whole_ha x) (omega (arith, ints, low, high)) in
    ap (λ (z : ℤ). to_z w128 (of_z w128 (shr_z (to_z w128 (of_z w128 (z +ℤ pos 0x8000))) 0x10000))) own
    ∙ ap (λ (z : ℤ). to_z w128 (of_z w128 (shr_z z 0x10000))) more
    ∙ ap (λ (z : ℤ). to_z w128 (of_z w128 z)) (shift_div (x +ℤ pos 0x8000)) ∙ kept
