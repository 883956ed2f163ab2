-- The shape of a job is sound.
use Rattle.std.proofs.Common.{ℕ, ◌≡◌, ◌<◌, ◌+◌, ◌%◌, None, List, length, add-one, ap, sym, ◌∙◌, subst, arith}
use Rattle.std.proofs.lemmas.List.{length-map}
use Rattle.object_set.specs.Refusals.{set_refusal}
use Rattle.symbol_table.specs.Records.{records_refusal}
use Rattle.symbol_table.specs.Text.{text_sections}
use Rattle.toc_groups.specs.PlacedData.{IsPlacedData}
use Rattle.toc_groups.specs.Plans.{LaidData}
use Rattle.layout_rounds.specs.declared.shape.Shape.{Shape}
use Rattle.layout_rounds.specs.declared.shape.ShapeSection.{ShapeSection}
use Rattle.layout_rounds.specs.declared.shape.ShapeSite.{ShapeSite}
use Rattle.layout_rounds.specs.Shapes.{site_of, AreSound, IsInText, IsNotAfter, IsSound}
use Rattle.call_sites.specs.declared.site.CallSite.{CallSite}
use Rattle.call_sites.specs.Sites.{call_sites}
use Rattle.call_sites.specs.laws.SiteFacts.{IsInstruction}
use Rattle.call_sites.specs.laws.SiteOrder.{site_sound_at, sites_ordered_at, StandsBefore}
use Rattle.image_writer.specs.Calls.{call_at, no_call}
use Rattle.image_writer.specs.Job.{IsShapeOf}
use Rattle.image_writer.specs.JobShape.{section_shape, shape_sections, shape_sites}
use Rattle.image_writer.specs.LaidText.{HasCalls}
use Rattle.image_writer.proofs.Shaping.{shaped}
use Rattle.image_writer.proofs.Sited.{IsFit, IsFitCall, AreOrdered, sites_few, sites_fit, sites_ordered}

-- an instruction of the files is one of the shape
in_shape : (files : List (List ℕ)) (groups : List ℕ) (k offset : ℕ) → IsInstruction files k offset →
    IsInText (shape_sections files groups) k offset
in_shape files groups k offset is =
    let count = length-map (text_sections files) (section_shape files groups) in
    let number = is.number in
    let within = is.within in
    record {
      section_in = omega (arith, count, number);
      within = subst (λ (s : ShapeSection). offset < s.size) (sym (shaped files groups k number)) within;
      whole = is.whole;
    }

module _ (files : List (List ℕ)) (groups : List ℕ) (whole : set_refusal files ≡ None) (none : records_refusal files ≡ None) where
  call_fits : (i : ℕ) → i < length (call_sites files groups) →
      IsFitCall (shape_sections files groups) (call_at (call_sites files groups) i)
  call_fits i lt class is =
      let sound = site_sound_at files groups whole none i no_call lt in
      record {
        from = in_shape files groups (call_at (call_sites files groups) i).section
            (call_at (call_sites files groups) i).offset sound.stands;
        to = in_shape files groups (call_at (call_sites files groups) i).to_section (call_at (call_sites files groups) i).to_offset
            (sound.goes class is);
      }

  calls_ordered : AreOrdered (call_sites files groups)
  calls_ordered i lt =
      subst (λ (n : ℕ). StandsBefore (call_at (call_sites files groups) i) (call_at (call_sites files groups) n)) (add-one i)
      (sites_ordered_at files groups whole none i no_call (omega arith))

pub shape_sound : (files : List (List ℕ)) (plan : LaidData) (sites : List CallSite) (shape : Shape) → set_refusal files ≡ None →
    HasCalls files plan sites → IsPlacedData files plan.span → IsShapeOf files plan sites shape →
    AreSound shape.sections.items → IsSound shape
shape_sound files plan sites shape whole has placed is sections =
    let none = has.records in
    let start : shape.start ≡ plan.text_start = is.start in
    let planned = has.plan_is.text_start in
    let page = placed.text_page in
    let limit = placed.text_limit in
    let few = has.few in
    let fewer = sites_few sites in
    let count = ap (λ (l : List ShapeSite). length l) is.sites_are in
    let fit : (i : ℕ) → i < length (shape_sites sites) → IsFit (shape_sections files plan.groups) (site_of (shape_sites sites) i) =
    subst (λ (l : List CallSite). (i : ℕ) → i < length (shape_sites l) →
    IsFit (shape_sections files plan.groups) (site_of (shape_sites l) i))
    (sym has.sites_are) (sites_fit (shape_sections files plan.groups) (call_sites files plan.groups)
    (call_fits files plan.groups whole none)) in
    let fits : (i : ℕ) → i < length shape.sites.items → IsFit shape.sections.items (site_of shape.sites.items i) =
    subst (λ (l : List ShapeSite). (i : ℕ) → i < length l → IsFit shape.sections.items (site_of l i)) (sym is.sites_are)
    (subst (λ (s : List ShapeSection). (i : ℕ) → i < length (shape_sites sites) → IsFit s (site_of (shape_sites sites) i))
    (sym is.sections) fit) in
    record {
      start_whole = ap (λ (n : ℕ). n % 0x10000) (start ∙ planned) ∙ page;
      start_low = omega (arith, start, planned, limit);
      sections = sections;
      few_sites = omega (arith, few, fewer, count);
      from = λ i lt. (fits i lt).from;
      to = λ i lt. (fits i lt).to;
      ordered = subst (λ (l : List ShapeSite). (i : ℕ) → i + 1 < length l → IsNotAfter (site_of l i) (site_of l (i + 1))) (sym is.sites_are)
          (sites_ordered sites (subst AreOrdered (sym has.sites_are) (calls_ordered files plan.groups whole none)));
    }
