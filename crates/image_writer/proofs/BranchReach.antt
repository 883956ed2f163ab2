-- Branches of a text go from instruction to instruction, and reach.
use Rattle.std.proofs.Common.{ℕ, ◌≡◌, ◌<◌, Bool, List, None, length, slice_index}
use Rattle.object_set.specs.Refusals.{set_refusal}
use Rattle.call_sites.specs.declared.site.CallSite.{CallSite}
use Rattle.toc_groups.specs.Plans.{LaidData}
use Rattle.layout_rounds.specs.FarSets.{member}
use Rattle.layout_rounds.specs.Layout.{PlacedText, key_count, stub_size}
use Rattle.layout_rounds.specs.Shapes.{KeyedText}
use Rattle.image_writer.specs.Branches.{CallReaches, StubReaches, BranchesReach}
use Rattle.image_writer.specs.Job.{IsJob}
use Rattle.image_writer.specs.Rewriting.{Rewriting}
use Rattle.image_writer.specs.inside.Gives.{LayoutGives}
use Rattle.image_writer.proofs.Giving.{each_sound}
use Rattle.image_writer.proofs.Room.{branch_whole, call_low, call_ready, stub_ready}

module _ (files : List (List ℕ)) (plan : LaidData) (sites : List CallSite) (t : KeyedText) (far : List Bool) (places : PlacedText)
    (whole : set_refusal files ≡ None) (job : IsJob files plan sites t far places)
    (gives : LayoutGives t job.shape.sites.items job.span (member far)) (w : Rewriting)
    (low : (file : ℕ) → slice_index plan.bases file < 0x60000000) where
  call_reaches : (i : ℕ) → i < length sites → CallReaches files plan sites t (member far) places w i
  call_reaches i lt =
      let sound = each_sound files plan.groups sites whole job.records job.sites_are i lt in
      let ready = call_ready files plan sites t far places whole job gives low i lt sound in
      record {
        at_whole = (call_low files plan sites t far places whole job gives low i lt sound).fourth;
        to_whole = λ class is. branch_whole files plan sites t far places whole job gives low i lt sound class is;
        reaches = ready.reaches;
      }

  stub_reaches : (k : ℕ) → k < key_count t → 0 < stub_size t (member far) k → StubReaches files plan sites t (member far) places w k
  stub_reaches k lt some =
      let ready = stub_ready files plan sites t far places whole job gives low k lt some in
      record {
        at_whole = ready.at_whole;
        to_whole = ready.to_whole;
        reaches = ready.reaches;
        at_low = ready.at_low;
        to_low = ready.to_low;
        base_low = ready.base_low;
        to_base_low = ready.to_base_low;
      }

  pub branches_reach : BranchesReach files plan sites t (member far) places w
  branches_reach = record { calls = call_reaches; stubs = stub_reaches }
