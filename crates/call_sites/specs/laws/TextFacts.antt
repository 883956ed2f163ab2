-- What each text section of a link has: what the layout of text asks of it.
use Rattle.std.proofs.Common.{◌≡◌, ◌≤◌, ◌%◌, ℕ, Bool, true, false, max, List, None, Some, slice_get, refl, arith, if◌then◌else◌}
use Rattle.ppc_bytes.specs.Bytes.{IsPowerOfTwo}
use Rattle.elf64_records.specs.Sections.{sh_size, sh_addralign}
use Rattle.object_set.specs.declared.places.SectionId.{SectionId}
use Rattle.object_set.specs.declared.sort.Sort.{Sort}
use Rattle.object_set.specs.declared.sort.Sort.TheVariants.{Text}
use Rattle.object_set.specs.Files.{file_at}
use Rattle.object_set.specs.Refusals.{set_refusal}
use Rattle.object_set.specs.Sections.{align_of, is_text, is_text_sort, sort_of}
use Rattle.object_set.specs.laws.Fit.{file_fit, section_fit}
use Rattle.symbol_table.specs.Text.{text_sections}
use Rattle.symbol_table.specs.laws.Sections.{text_about}
use Rattle.symbol_table.specs.laws.Text.{text_section_at}
use Rattle.call_sites.specs.laws.TextSizes.{text_small}

-- a text section's size and alignment
pub record IsFitText (files : List (List ℕ)) (s : SectionId) : Type 0 where
  pub small : sh_size (file_at files s.file) s.section ≤ 0x1000_0000
  pub whole : sh_size (file_at files s.file) s.section % 4 ≡ 0
  pub power : IsPowerOfTwo (align_of (file_at files s.file) s.section)
  pub least : 4 ≤ align_of (file_at files s.file) s.section
  pub most : align_of (file_at files s.file) s.section ≤ 0x10000

text_is : (sort : Sort) → is_text_sort sort ≡ true → sort ≡ Text
text_is = elim [ Text ↦ λ _. refl | _ ↦ λ text. cc ]

least_case : (text : Bool) (align : ℕ) → text ≡ true → 4 ≤ max (if text then 4 else 1) align
least_case true align text = omega arith
least_case false align text = cc

-- text section k
pub text_fit : (files : List (List ℕ)) (k : ℕ) (s : SectionId) → set_refusal files ≡ None → slice_get (text_sections files) k ≡ Some s →
    IsFitText files s
text_fit files k s whole found =
    let b = file_at files s.file in
    let lies = text_section_at files k s found in
    let about = text_about b s.section lies.within lies.text in
    let fit = section_fit s.file b s.section (file_fit files s.file whole lies.file_in) lies.within about.kept in
    record {
      small = text_small files s.file s.section whole lies.file_in lies.within lies.text;
      whole = fit.text_whole (text_is (sort_of b s.section) lies.text);
      power = fit.align;
      least = least_case (is_text b s.section) (sh_addralign b s.section) lies.text;
      most = fit.align_most;
    }
