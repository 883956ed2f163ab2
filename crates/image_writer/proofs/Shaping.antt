-- The shape of a job is sound.
use Rattle.std.proofs.Common.{ℕ, ◌≡◌, ◌<◌, ◌≤◌, ◌^◌, true, List, None, length, sym, subst, arith}
use Rattle.std.proofs.lemmas.Bool.Decides.{nat_tests}
use Rattle.std.proofs.lemmas.List.{get_or-map, length-map}
use Rattle.std.proofs.lemmas.Option.{slice_get-get_or}
use Rattle.object_set.specs.Files.{file_at}
use Rattle.object_set.specs.Refusals.{set_refusal}
use Rattle.object_set.specs.Sections.{align_of, is_text, sort_of}
use Rattle.object_set.specs.laws.Fit.{section_fit, file_fit}
use Rattle.symbol_table.specs.Text.{text_sections}
use Rattle.symbol_table.specs.laws.Text.{IsTextSection, text_section_at}
use Rattle.symbol_table.specs.laws.Sections.{text_about, text_sort}
use Rattle.call_sites.specs.laws.TextSizes.{text_small}
use Rattle.layout_rounds.specs.Shapes.{no_section as no_shape, section_of, IsSoundSection, AreSound}
use Rattle.image_writer.specs.JobShape.{section_shape, shape_sections}
use Rattle.image_writer.specs.Text.{no_section, text_section}

-- a text section is one of its file
pub is_section : (files : List (List ℕ)) (s : ℕ) → s < length (text_sections files) →
    IsTextSection files s (text_section files s).file (text_section files s).section
is_section files s lt =
    text_section_at files s (text_section files s) (slice_get-get_or (text_sections files) s no_section lt)

text_align : (b : List ℕ) (i : ℕ) → is_text b i ≡ true → 4 ≤ align_of b i
text_align b i text = grind (arith, nat_tests, text)

section_sound : (files : List (List ℕ)) (groups : List ℕ) (s : ℕ) → set_refusal files ≡ None → s < length (text_sections files) →
    IsSoundSection (section_shape files groups (text_section files s))
section_sound files groups s whole lt =
    let id = text_section files s in
    let b = file_at files id.file in
    let is = is_section files s lt in
    let about = text_about b id.section is.within is.text in
    let fit = section_fit id.file b id.section (file_fit files id.file whole is.file_in) is.within about.kept in
    let small = text_small files id.file id.section whole is.file_in is.within is.text in
    record {
      size = omega (arith, small);
      whole = fit.text_whole (text_sort (sort_of b id.section) is.text);
      power = fit.align;
      least = text_align b id.section is.text;
      most = fit.align_most;
    }

-- a section of the shape is that of the text section
pub shaped : (files : List (List ℕ)) (groups : List ℕ) (s : ℕ) → s < length (text_sections files) →
    section_of (shape_sections files groups) s ≡ section_shape files groups (text_section files s)
shaped files groups s lt = get_or-map (section_shape files groups) (text_sections files) s no_section no_shape lt

pub sections_sound : (files : List (List ℕ)) (groups : List ℕ) → set_refusal files ≡ None → length (text_sections files) < 2 ^ 28 →
    AreSound (shape_sections files groups)
sections_sound files groups whole few =
    let count = length-map (text_sections files) (section_shape files groups) in
    record {
      few = omega (arith, count, few);
      each = λ s lt. (let within : s < length (text_sections files) = omega (arith, count, lt) in
          subst IsSoundSection (sym (shaped files groups s within)) (section_sound files groups s whole within));
    }
