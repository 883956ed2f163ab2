-- A job whose text is laid out for a closed set of far keys.
use Rattle.std.specs.Prelude.{ℕ, ◌≡◌, ◌+◌, ◌<◌, ◌≤◌, Bool, true, None, List, length, slice_index}
use Rattle.ppc_bytes.specs.declared.constants.TheConstants.{TEXT_LIMIT}
use Rattle.elf64_records.specs.Sections.{section_bytes}
use Rattle.object_set.specs.Files.{file_at}
use Rattle.symbol_table.specs.Records.{records_refusal}
use Rattle.symbol_table.specs.Text.{text_sections}
use Rattle.toc_groups.specs.Plans.{LaidData, IsPlan}
use Rattle.toc_groups.specs.Data.{data_refusal}
use Rattle.toc_groups.specs.declared.extents.TheConstants.{DATA_END}
use Rattle.call_sites.specs.declared.site.CallSite.{CallSite}
use Rattle.call_sites.specs.Sites.{call_sites}
use Rattle.layout_rounds.specs.declared.shape.Shape.{Shape}
use Rattle.layout_rounds.specs.FarSets.{member}
use Rattle.layout_rounds.specs.Shapes.{KeyedText, keyed_text, IsSound, IsSpan}
use Rattle.layout_rounds.specs.Layout.{PlacedText, key_count, text_end, IsLayout}
use Rattle.layout_rounds.specs.Reach.{IsClosed}
use Rattle.layout_rounds.specs.Settled.{call_reaches}
use Rattle.image_writer.specs.JobShape.{shape_sections, shape_sites}
use Rattle.image_writer.specs.Text.{text_section}

-- a shape is that of files with a plan of data and these call sites
pub record IsShapeOf (files : List (List ℕ)) (plan : LaidData) (sites : List CallSite) (shape : Shape) : Type 0 where
  pub start : shape.start ≡ plan.text_start
  pub sections : shape.sections.items ≡ shape_sections files plan.groups
  pub sites_are : shape.sites.items ≡ shape_sites sites

-- no record of the files is refused, and these are their plan of data and their call sites; the text of their shape is laid out for a
-- closed set of far keys, is within its limit, and each call reaches where it branches
pub record IsJob (files : List (List ℕ)) (plan : LaidData) (sites : List CallSite) (t : KeyedText) (far : List Bool)
    (places : PlacedText) : Type 0 where
  pub shape : Shape
  pub span : ℕ
  pub records : records_refusal files ≡ None
  pub plan_is : IsPlan files plan.span plan
  pub data_fits : data_refusal files plan.span ≡ None
  pub sites_are : sites ≡ call_sites files plan.groups
  pub shape_is : IsShapeOf files plan sites shape
  pub sound : IsSound shape
  pub is_span : IsSpan span
  pub keyed_is : t ≡ keyed_text shape span
  pub far_count : length far ≡ key_count t
  pub closed : IsClosed t shape.sites.items span (member far)
  pub laid : IsLayout t (member far) places
  pub within : text_end t (member far) ≤ shape.start + TEXT_LIMIT
  pub reached : (i : ℕ) → i < length shape.sites.items → call_reaches t shape.sites.items (member far) span i ≡ true

-- where the text of a job lies: behind its data, within the limit of text, and each text section in it
pub record IsPlacedText (files : List (List ℕ)) (plan : LaidData) (t : KeyedText) (far : List Bool) (places : PlacedText) : Type 0 where
  pub far_count : length far ≡ key_count t
  pub start_low : plan.text_start ≤ DATA_END
  pub start : plan.text_start ≤ text_end t (member far)
  pub limit : text_end t (member far) ≤ plan.text_start + TEXT_LIMIT
  pub count : length places.sections ≡ length (text_sections files)
  pub from : (s : ℕ) → s < length places.sections → plan.text_start ≤ slice_index places.sections s
  pub to : (s : ℕ) → s < length places.sections →
      slice_index places.sections s + length (section_bytes (file_at files (text_section files s).file) (text_section files s).section)
      ≤ text_end t (member far)
