-- What the layout of a job gives for the places of its text.
use Rattle.std.proofs.Common.{ℕ, ◌≡◌, ◌<◌, Bool, List, ◌++◌, None, length, arith}
use Rattle.std.specs.List.{slice_index_or}
use Rattle.object_set.specs.Refusals.{set_refusal}
use Rattle.symbol_table.specs.Text.{text_sections}
use Rattle.call_sites.specs.declared.site.CallSite.{CallSite}
use Rattle.toc_groups.specs.Plans.{LaidData}
use Rattle.layout_rounds.specs.FarSets.{member}
use Rattle.layout_rounds.specs.Shapes.{KeyedText}
use Rattle.layout_rounds.specs.Layout.{PlacedText}
use Rattle.image_writer.specs.Calls.{call_patches}
use Rattle.image_writer.specs.Job.{IsJob}
use Rattle.image_writer.specs.Places.{AreApartPatches, RewritesPairs}
use Rattle.image_writer.specs.Records.{record_patches}
use Rattle.image_writer.specs.Rewriting.{Rewriting}
use Rattle.image_writer.proofs.GroundPatches.{ground_placed}
use Rattle.image_writer.proofs.InSections.{section_lies}
use Rattle.image_writer.proofs.OverPatches.{over_lies, over_placed}
use Rattle.image_writer.specs.inside.Gives.{LayoutGives}
use Rattle.image_writer.proofs.Room.{section_count_is, size_is}

module _ (files : List (List ℕ)) (plan : LaidData) (sites : List CallSite) (t : KeyedText) (far : List Bool) (places : PlacedText)
    (whole : set_refusal files ≡ None) (job : IsJob files plan sites t far places)
    (gives : LayoutGives t job.shape.sites.items job.span (member far))
    (w : Rewriting) (pairs : RewritesPairs files w.pairs) where
  pub all_apart : AreApartPatches files plan sites t (member far) places w
  all_apart =
      let over = call_patches files plan.bases t (member far) places plan.text_start sites
      ++ record_patches files plan.span places.sections w plan.text_start in
      record {
        ground = ground_placed files plan sites t far places whole job gives;
        over = over_placed files plan sites t far places whole job gives w pairs;
        inside = λ x d within.
            (let q = slice_index_or over x d in
            let there = over_lies files plan sites t far places whole job gives w pairs x d within in
            let lies = there.lies in
            let section_in = lies.section_in in
            let counted = section_count_is files plan sites t far places whole job gives in
            let number_in : there.section < length (text_sections files) = omega (arith, section_in, counted) in
            let size = size_is files plan sites t far places whole job gives there.section number_in in
            let here = section_lies files plan sites t far places whole job gives there.section section_in in
            record {
              section = there.section;
              section_in = number_in;
              from = omega (arith, lies.at, here.from);
              to = omega (arith, lies.at, lies.size, lies.within, here.from, size);
            });
      }
