use Rattle.std.proofs.Common.{ℕ, ◌≡◌, Bool, true, false, List, length, Option, None, Some, Contains, ap, sym, ◌∙◌, subst, arith, to_z, of_z, if◌then◌else◌}
use Rattle.std.specs.Int.{w128}
use Rattle.std.proofs.lemmas.Int.{ints}
use Rattle.elf64_records.specs.Sections.{section_bytes}
use Rattle.object_set.specs.Files.{file_at}
use Rattle.object_set.specs.Refusals.{set_refusal}
use Rattle.object_set.specs.Sections.{is_text}
use Rattle.reloc_fields.specs.declared.kind.Kind.TheVariants.{GotPcrel34}
use Rattle.symbol_table.specs.Text.{text_index, text_number}
use Rattle.pcrel_rewrite.specs.TextPairs.{text_pair}
use Rattle.image_writer.specs.inside.Loads.{IsAccessAt}
use Rattle.image_writer.proofs.Fielding.{text_field}
use Rattle.image_writer.proofs.Loads.{access_at, one_access, got_pair, got_sum}
use Rattle.image_writer.proofs.TextFields.{text_lies}
use Rattle.image_writer.proofs.got_loads.got_load.Goals as goal

-- a section that is text has a number
number_case : (t : Bool) (n : ℕ) (o : Option ℕ) → t ≡ true → o ≡ (if t then Some n else None) → o ≡ Some n
number_case true n o text is = is
number_case false n o text is = cc

record IsNumbered (files : List (List ℕ)) (file section n : ℕ) : Type 0 where
  text : is_text (file_at files file) section ≡ true
  number : n ≡ text_index files file section

text_of : (files : List (List ℕ)) (file section here : ℕ) → section ≡ here → is_text (file_at files file) here ≡ true →
    is_text (file_at files file) section ≡ true
text_of files file section here same text = ap (is_text (file_at files file)) same ∙ text

some_number : (n k : ℕ) → Some n ≡ Some k → n ≡ k
some_number n k same = cc

numbered : (files : List (List ℕ)) (file section here n : ℕ) → section ≡ here → is_text (file_at files file) here ≡ true →
    Some n ≡ text_number files file section → IsNumbered files file section n
numbered files file section here n same text is =
    let own = text_of files file section here same text in
    record {
      text = own;
      number = some_number n (text_index files file section)
          (number_case (is_text (file_at files file) section) (text_index files file section) (Some n) own is);
    }

no_number : (files : List (List ℕ)) (file section here : ℕ) → section ≡ here → is_text (file_at files file) here ≡ true →
    None ≡ text_number files file section → ⊥
no_number files file section here same text is =
    let some = number_case (is_text (file_at files file) section) (text_index files file section) None
    (text_of files file section here same text) is in
    cc

-- a load stands in text
pub returns-in_err-section : goal.returns-in_err-section
returns-in_err-section c =
    let files = c.args.res.now.files in
    absurd (no_number files c.args.id.file c.section_of.result c.args.id.section c.section_of.ensures.section
    (text_field files c.args.id GotPcrel34 c.requires.kind).text c.in_err-section.ensures)

-- a pair that is found there has its access in the section
pub paired_load-requires-clause-access : goal.paired_load-requires-clause-access
paired_load-requires-clause-access c = λ tail there.
    let files = c.args.res.now.files in
    let id = c.args.id in
    let offset = c.record_of-offset.result.offset in
    let is = numbered files id.file c.section_of.result id.section c.in_ok-section.section c.section_of.ensures.section
    (text_field files id GotPcrel34 c.requires.kind).text c.in_ok-section.ensures in
    let bytes = c.requires.bytes ∙ ap (section_bytes (file_at files id.file)) (sym c.section_of.ensures.section) in
    subst (λ (b : List ℕ). IsAccessAt b offset tail) (sym bytes)
    (access_at files c.args.pairs.now c.requires.pairs id.file c.section_of.result
    c.requires.record.file_in c.section_of.ensures.about.within
    is.text offset tail (subst (λ (n : ℕ). Contains c.args.pairs.now (text_pair n offset tail)) is.number there))

-- and is the only one there
pub paired_load-requires-clause-one : goal.paired_load-requires-clause-one
paired_load-requires-clause-one c = λ tail other there too.
    let files = c.args.res.now.files in
    let id = c.args.id in
    let offset = c.record_of-offset.result.offset in
    let is = numbered files id.file c.section_of.result id.section c.in_ok-section.section c.section_of.ensures.section
    (text_field files id GotPcrel34 c.requires.kind).text c.in_ok-section.ensures in
    one_access files c.args.pairs.now c.requires.pairs id.file c.section_of.result
    c.requires.record.file_in c.section_of.ensures.about.within
    is.text offset tail other (subst (λ (n : ℕ). Contains c.args.pairs.now (text_pair n offset tail)) is.number there)
    (subst (λ (n : ℕ). Contains c.args.pairs.now (text_pair n offset other)) is.number too)

-- both words of a load lie in the section
pub sum_of-requires : goal.sum_of-requires
sum_of-requires c =
    let files = c.args.res.now.files in
    let whole = ap set_refusal (sym c.set.ensures) ∙ c.file_count-files.ensures.whole in
    let lies = text_lies files c.args.id GotPcrel34 whole c.requires.of_files.records c.requires.record c.requires.kind in
    let bytes = ap (λ (l : List ℕ). length l) c.requires.bytes in
    omega (arith, lies, bytes, c.record_of-offset.ensures.offset)

-- the load of its pair
pub returns-in-Some : goal.returns-in-Some
returns-in-Some c =
    let files = c.args.res.now.files in
    let id = c.args.id in
    let is = numbered files id.file c.section_of.result id.section c.in_ok-section.section c.section_of.ensures.section
    (text_field files id GotPcrel34 c.requires.kind).text c.in_ok-section.ensures in
    let far = c.load_distance-distance.result in
    let kept : to_z w128 (of_z w128 far) ≡ far = omega (arith, ints, c.load_distance-distance.type_inv) in
    got_pair files c.args.plan.now.span c.args.places.now.sections id c.args.pairs.now c.in_ok-section.section
    c.record_of-offset.result.offset (to_z w128 (of_z w128 far)) c.args.bytes.now
    (is.number ∙ ap (text_index files id.file) c.section_of.ensures.section) c.record_of-offset.ensures.offset
    (kept ∙ c.load_distance-distance.ensures.distance) c.requires.bytes c.in-Some.load c.in-Some.ensures

-- or a sum
pub returns-in-None : goal.returns-in-None
returns-in-None c =
    let files = c.args.res.now.files in
    let id = c.args.id in
    let is = numbered files id.file c.section_of.result id.section c.in_ok-section.section c.section_of.ensures.section
    (text_field files id GotPcrel34 c.requires.kind).text c.in_ok-section.ensures in
    let far = c.load_distance-distance.result in
    let kept : to_z w128 (of_z w128 far) ≡ far = omega (arith, ints, c.load_distance-distance.type_inv) in
    c.sum_of.ensures
    ∙ got_sum files c.args.plan.now.span c.args.places.now.sections id c.args.pairs.now c.in_ok-section.section
    c.record_of-offset.result.offset (to_z w128 (of_z w128 far)) c.args.bytes.now
    (is.number ∙ ap (text_index files id.file) c.section_of.ensures.section) c.record_of-offset.ensures.offset
    (kept ∙ c.load_distance-distance.ensures.distance) c.requires.bytes c.in-None.ensures
