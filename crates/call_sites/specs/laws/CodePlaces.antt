-- A place of text that is an instruction's.
use Rattle.std.proofs.Common.{◌≡◌, ◌<◌, ◌≤◌, ◌%◌, ℕ, true, List, length, Option, None, Some, slice_get, refl, arith}
use Rattle.std.specs.Prelude.{◌&&◌, ◌==◌, nat_lt}
use Rattle.std.proofs.lemmas.Bool.{and_parts}
use Rattle.std.proofs.lemmas.Bool.Decides.{nat_tests}
use Rattle.std.proofs.lemmas.Option.{slice_get_within}
use Rattle.elf64_records.specs.Sections.{sh_size}
use Rattle.object_set.specs.declared.places.SectionId.{SectionId}
use Rattle.object_set.specs.Files.{file_at}
use Rattle.object_set.specs.Refusals.{set_refusal}
use Rattle.object_set.specs.Sections.{is_text}
use Rattle.symbol_table.specs.Records.{is_code, is_code_in}
use Rattle.symbol_table.specs.Text.{text_sections}
use Rattle.symbol_table.specs.laws.Text.{IsTextSection, text_section_at}
use Rattle.call_sites.specs.laws.TextSizes.{text_small}

-- an instruction of text section k, which is a section of a file
pub record IsCodePlace (files : List (List ℕ)) (k offset : ℕ) (s : SectionId) : Type 0 where
  pub number : k < length (text_sections files)
  pub found : slice_get (text_sections files) k ≡ Some s
  pub lies : IsTextSection files k s.file s.section
  pub aligned : offset % 4 ≡ 0
  pub within : offset < sh_size (file_at files s.file) s.section
  pub small : sh_size (file_at files s.file) s.section ≤ 0x1000_0000

place_case : (files : List (List ℕ)) (k offset : ℕ) (o : Option SectionId) → set_refusal files ≡ None →
    slice_get (text_sections files) k ≡ o → is_code_in files offset o ≡ true → (s : SectionId) × IsCodePlace files k offset s
place_case files k offset None whole found is = cc
place_case files k offset (Some s) whole found is =
    let b = file_at files s.file in
    let all = and_parts (is_text b s.section && offset % 4 == 0) (nat_lt offset (sh_size b s.section)) is in
    let first = and_parts (is_text b s.section) (offset % 4 == 0) all.0 in
    let lies = text_section_at files k s found in
    let whole_word = first.1 in
    let inside = all.1 in (
      s,
      record {
        number = slice_get_within (text_sections files) k s found;
        found = found;
        lies = lies;
        aligned = grind (arith, nat_tests, whole_word);
        within = grind (arith, nat_tests, inside);
        small = text_small files s.file s.section whole lies.file_in lies.within lies.text;
      },
    )

pub code_place : (files : List (List ℕ)) (k offset : ℕ) → set_refusal files ≡ None → is_code files k offset ≡ true →
    (s : SectionId) × IsCodePlace files k offset s
code_place files k offset whole is = place_case files k offset (slice_get (text_sections files) k) whole refl is
