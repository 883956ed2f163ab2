-- The bytes of a job's text: zeros with its sections and stubs at their addresses, and over them the branches of calls and what all
-- other records put. No two of these that lie over one another have a byte in common, so that the order tells nothing.
use Rattle.std.specs.Prelude.{ℕ, ◌-◌, Bool, List, replicate}
use Rattle.call_sites.specs.declared.site.CallSite.{CallSite}
use Rattle.toc_groups.specs.Plans.{LaidData}
use Rattle.layout_rounds.specs.Shapes.{KeyedText}
use Rattle.layout_rounds.specs.Layout.{PlacedText, text_end}
use Rattle.placed_bytes.specs.Patches.{all_patched}
use Rattle.image_writer.specs.Text.{section_patches, stub_patches}
use Rattle.image_writer.specs.Calls.{call_patches}
use Rattle.image_writer.specs.Fields.{field_patches}
use Rattle.image_writer.specs.Records.{record_patches}
use Rattle.image_writer.specs.Rewriting.{Rewriting}

module _ (files : List (List ℕ)) (plan : LaidData) (sites : List CallSite) (t : KeyedText) (F : ℕ → Bool) (p : PlacedText) where
  -- zeros, from the start of text to its end
  abbrev pub blank_text : List ℕ
  blank_text = replicate (text_end t F - plan.text_start) 0

  -- with the sections and the stubs
  abbrev pub text_with_sections : List ℕ
  text_with_sections =
      all_patched (all_patched blank_text (section_patches files p.sections plan.text_start))
      (stub_patches files plan.bases t F p plan.text_start)

  -- with the calls
  abbrev pub text_with_calls : List ℕ
  text_with_calls = all_patched text_with_sections (call_patches files plan.bases t F p plan.text_start sites)

  -- with what all other records put, where this is rewritten
  abbrev pub text_image : Rewriting → List ℕ
  text_image w = all_patched text_with_calls (record_patches files plan.span p.sections w plan.text_start)

  -- and with their fields, where nothing is
  abbrev pub plain_text : List ℕ
  plain_text = all_patched text_with_calls (field_patches files plan.span p.sections plan.text_start)
