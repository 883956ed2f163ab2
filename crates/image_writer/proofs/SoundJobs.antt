-- The shape of a job with few text sections is sound, and a text that is laid out for its far set is that of a job.
use Rattle.std.proofs.Common.{ℕ, ◌≡◌, ◌<◌, ◌≤◌, ◌+◌, ◌^◌, Bool, true, List, None, length, sym, subst}
use Rattle.ppc_bytes.specs.declared.constants.TheConstants.{TEXT_LIMIT}
use Rattle.object_set.specs.Refusals.{set_refusal}
use Rattle.symbol_table.specs.Text.{text_sections}
use Rattle.call_sites.specs.declared.site.CallSite.{CallSite}
use Rattle.toc_groups.specs.PlacedData.{IsPlacedData}
use Rattle.toc_groups.specs.Plans.{LaidData}
use Rattle.layout_rounds.specs.declared.shape.Shape.{Shape}
use Rattle.layout_rounds.specs.FarSets.{member}
use Rattle.layout_rounds.specs.Layout.{PlacedText, text_end}
use Rattle.layout_rounds.specs.Reach.{IsClosed}
use Rattle.layout_rounds.specs.Settled.{call_reaches}
use Rattle.layout_rounds.specs.Shapes.{KeyedText, AreSound, IsSound, IsSpan}
use Rattle.image_writer.specs.Job.{IsShapeOf, IsJob}
use Rattle.image_writer.specs.LaidText.{HasCalls, IsLaidText}
use Rattle.image_writer.proofs.Shaping.{sections_sound}
use Rattle.image_writer.proofs.SoundShape.{shape_sound}

module _ (files : List (List ℕ)) (plan : LaidData) (sites : List CallSite) (whole : set_refusal files ≡ None)
    (has : HasCalls files plan sites)
    (placed : IsPlacedData files plan.span) (few : length (text_sections files) < 2 ^ 28) where
  pub sound_shape : (shape : Shape) → IsShapeOf files plan sites shape → IsSound shape
  sound_shape shape is =
      shape_sound files plan sites shape whole has placed is (subst AreSound (sym is.sections) (sections_sound files plan.groups whole few))

  pub laid_job : (span : ℕ) (t : KeyedText) (far : List Bool) (places : PlacedText) → IsSpan span →
      IsLaidText files plan sites span t far places → IsJob files plan sites t far places
  laid_job span t far places is_span is =
      let laid = is.laid in
      let accepted = is.accepted in
      record {
        shape = is.shape;
        span = span;
        records = has.records;
        plan_is = has.plan_is;
        data_fits = has.plan_is.fits;
        sites_are = has.sites_are;
        shape_is = is.shape_is;
        sound = sound_shape is.shape is.shape_is;
        is_span = is_span;
        keyed_is = laid.keyed_is;
        far_count = laid.far_count;
        closed = subst (λ (k : KeyedText). IsClosed k is.shape.sites.items span (member far)) (sym laid.keyed_is) laid.far_is.closed;
        laid = laid.places_are;
        within = subst (λ (k : KeyedText). text_end k (member far) ≤ is.shape.start + TEXT_LIMIT) (sym laid.keyed_is) accepted.within;
        reached = subst (λ (k : KeyedText). (i : ℕ) → i < length is.shape.sites.items →
            call_reaches k is.shape.sites.items (member far) span i ≡ true) (sym laid.keyed_is) accepted.reached;
      }
