-- The text of a job is laid out in one way, or refused for one reason.
use Rattle.std.proofs.Common.{ℕ, suc, ◌≡◌, ◌≢◌, ◌<◌, ◌≤◌, ◌+◌, ◌⊎◌, inl, inr, Bool, List, [], ◌∷◌, length, Some, None, sym, ap, ◌∙◌, refl, subst, arith}
use Rattle.std.specs.Prelude.{◌/◌}
use Rattle.std.specs.List.{find, range_with_len}
use Rattle.ppc_bytes.specs.declared.constants.TheConstants.{TEXT_LIMIT}
use Rattle.std.proofs.lemmas.Grind.{same_number_lists}
use Rattle.object_set.specs.declared.refusal.Refusal.{Refusal}
use Rattle.object_set.specs.declared.refusal.Refusal.TheVariants.{TextTooBig, StubReach, Memory}
use Rattle.object_set.specs.declared.refusal.Site.{Site}
use Rattle.layout_rounds.specs.declared.settling.LayoutFault.{LayoutFault}
use Rattle.layout_rounds.specs.declared.settling.LayoutFault.TheVariants as fault
use Rattle.layout_rounds.specs.declared.shape.Shape.{Shape}
use Rattle.layout_rounds.specs.declared.shape.ShapeSection.{ShapeSection}
use Rattle.layout_rounds.specs.declared.shape.ShapeSite.{ShapeSite}
use Rattle.layout_rounds.specs.FarSets.{member}
use Rattle.layout_rounds.specs.Layout.{PlacedText, IsLayout, key_count, text_end}
use Rattle.layout_rounds.specs.Reach.{IsLeastClosed, IsFarSet}
use Rattle.layout_rounds.specs.Settled.{IsAccepted, IsRefusedBy, is_out}
use Rattle.layout_rounds.specs.Shapes.{KeyedText, keyed_parts, keyed_text, spots_of, keys_of, numbers_of}
use Rattle.layout_rounds.proofs.FarLayouts.{same_set}
use Rattle.toc_groups.specs.Plans.{LaidData}
use Rattle.call_sites.specs.declared.site.CallSite.{CallSite}
use Rattle.image_writer.specs.Calls.{call_at}
use Rattle.image_writer.specs.Job.{IsShapeOf}
use Rattle.image_writer.specs.JobShape.{classed_sites, shape_sections, shape_sites}
use Rattle.image_writer.specs.LaidText.{TextLayout, layout_of, IsTextLayout, IsRefusedJob, IsFirstOut, IsTextRefusal}

same_flags : (xs ys : List Bool) → length xs ≡ length ys → ((k : ℕ) → member xs k ≡ member ys k) → xs ≡ ys
same_flags [] [] count same = refl
same_flags [] (y ∷ ys) count same = cc
same_flags (x ∷ xs) [] count same = cc
same_flags (x ∷ xs) (y ∷ ys) count same =
    ap (λ (b : Bool). b ∷ xs) (same 0) ∙ ap (λ (l : List Bool). y ∷ l) (same_flags xs ys (omega (arith, count)) (λ k. same (suc k)))

abbrev made_places : List ℕ → List ℕ → List ℕ → List ℕ → ℕ → PlacedText
made_places a b c d e = record { starts = a; areas = b; sections = c; stubs = d; end = e }

-- a layout has one list of each kind of places
places_are_one : (t : KeyedText) (F : ℕ → Bool) (p q : PlacedText) → IsLayout t F p → IsLayout t F q → p ≡ q
places_are_one t F p q one other =
    let starts : p.starts ≡ q.starts =
    same_number_lists p.starts q.starts (one.start_count ∙ sym other.start_count)
    (λ g within. one.starts g (omega (arith, one.start_count)) ∙ sym (other.starts g (omega (arith, one.start_count)))) in
    let areas : p.areas ≡ q.areas =
    same_number_lists p.areas q.areas (one.area_count ∙ sym other.area_count)
    (λ g within. one.areas g (omega (arith, one.area_count)) ∙ sym (other.areas g (omega (arith, one.area_count)))) in
    let sections : p.sections ≡ q.sections =
    same_number_lists p.sections q.sections (one.section_count_is ∙ sym other.section_count_is)
    (λ s within. one.sections s (omega (arith, one.section_count_is)) ∙ sym (other.sections s (omega (arith, one.section_count_is)))) in
    let stubs : p.stubs ≡ q.stubs =
    same_number_lists p.stubs q.stubs (one.stub_count ∙ sym other.stub_count)
    (λ k within. one.stubs k (omega (arith, one.stub_count)) ∙ sym (other.stubs k (omega (arith, one.stub_count)))) in
    let end : p.end ≡ q.end = one.end_is ∙ sym other.end_is in
    ap (λ (x : List ℕ). made_places x p.areas p.sections p.stubs p.end) starts
    ∙ ap (λ (x : List ℕ). made_places q.starts x p.sections p.stubs p.end) areas
    ∙ ap (λ (x : List ℕ). made_places q.starts q.areas x p.stubs p.end) sections
    ∙ ap (λ (x : List ℕ). made_places q.starts q.areas q.sections x p.end) stubs
    ∙ ap (made_places q.starts q.areas q.sections q.stubs) end

-- what a text in stub groups depends on
abbrev keyed_by : ℕ → List ShapeSection → List ShapeSite → ℕ → KeyedText
keyed_by start sections sites span =
    let spots = spots_of sections (span / 2) in
    let keys = keys_of spots sites in
    keyed_parts start (span / 2) sections spots keys (numbers_of spots keys sites)

module _ (files : List (List ℕ)) (plan : LaidData) (sites : List CallSite) (span : ℕ) where
  keyed_same : (one other : Shape) → IsShapeOf files plan sites one → IsShapeOf files plan sites other →
      keyed_text one span ≡ keyed_text other span
  keyed_same one other a b =
      let start : one.start ≡ other.start = a.start ∙ sym b.start in
      let sections : one.sections.items ≡ other.sections.items = a.sections ∙ sym b.sections in
      let calls : one.sites.items ≡ other.sites.items = a.sites_are ∙ sym b.sites_are in
      ap (λ (n : ℕ). keyed_by n one.sections.items one.sites.items span) start
      ∙ ap (λ (l : List ShapeSection). keyed_by other.start l one.sites.items span) sections
      ∙ ap (λ (l : List ShapeSite). keyed_by other.start other.sections.items l span) calls

  -- a far set of one shape of the job is one of the other
  far_same : (one other : Shape) (F : ℕ → Bool) → IsShapeOf files plan sites one → IsShapeOf files plan sites other →
      IsFarSet other span F → IsFarSet one span F
  far_same one other F a b far =
      let calls : one.sites.items ≡ other.sites.items = a.sites_are ∙ sym b.sites_are in
      subst (λ (t : KeyedText). IsLeastClosed t one.sites.items span F) (sym (keyed_same one other a b))
      (subst (λ (l : List ShapeSite). IsLeastClosed (keyed_text other span) l span F) (sym calls) far)

  -- how the shape of a job is refused, by its parts
  abbrev RefusedOver : ℕ → KeyedText → List ShapeSite → (ℕ → Bool) → LayoutFault → Type 0
  RefusedOver start t calls F fault.TextTooBig = start + TEXT_LIMIT < text_end t F
  RefusedOver start t calls F (fault.StubReach i) =
      (text_end t F ≤ start + TEXT_LIMIT) × (find (is_out t calls F span) (range_with_len 0 (length calls)) ≡ Some i)
  RefusedOver start t calls F fault.Memory = Unit {0}

  abbrev AcceptedOver : ℕ → KeyedText → List ShapeSite → (ℕ → Bool) → Type 0
  AcceptedOver start t calls F =
      (text_end t F ≤ start + TEXT_LIMIT) × (find (is_out t calls F span) (range_with_len 0 (length calls)) ≡ None)

  plain : (shape : Shape) (F : ℕ → Bool) (why : LayoutFault) → IsRefusedBy shape span F why →
      RefusedOver shape.start (keyed_text shape span) shape.sites.items F why
  plain shape F fault.TextTooBig refused = refused
  plain shape F (fault.StubReach i) refused = (refused.within, refused.first)
  plain shape F fault.Memory refused = tt

  abbrev whole : KeyedText
  whole = keyed_by plan.text_start (shape_sections files plan.groups) (shape_sites sites) span

  keyed_whole : (shape : Shape) → IsShapeOf files plan sites shape → keyed_text shape span ≡ whole
  keyed_whole shape a =
      ap (λ (n : ℕ). keyed_by n shape.sections.items shape.sites.items span) a.start
      ∙ ap (λ (l : List ShapeSection). keyed_by plan.text_start l shape.sites.items span) a.sections
      ∙ ap (λ (l : List ShapeSite). keyed_by plan.text_start (shape_sections files plan.groups) l span) a.sites_are

  over_parts : (P : ℕ → KeyedText → List ShapeSite → Type 0) (shape : Shape) → IsShapeOf files plan sites shape →
      P shape.start (keyed_text shape span) shape.sites.items → P plan.text_start whole (shape_sites sites)
  over_parts P shape a holds =
      subst (λ (n : ℕ). P n whole (shape_sites sites)) a.start
      (subst (λ (t : KeyedText). P shape.start t (shape_sites sites)) (keyed_whole shape a)
      (subst (P shape.start (keyed_text shape span)) a.sites_are holds))

  accepted_over : (shape : Shape) (F : ℕ → Bool) → IsShapeOf files plan sites shape → IsAccepted shape span F →
      AcceptedOver plan.text_start whole (shape_sites sites) F
  accepted_over shape F a accepted =
      over_parts (λ (n : ℕ) (t : KeyedText) (l : List ShapeSite). AcceptedOver n t l F) shape a (accepted.within, accepted.none_out)

  -- there is one
  sets_same : (one other : Shape) (F G : ℕ → Bool) → IsShapeOf files plan sites one → IsShapeOf files plan sites other →
      IsFarSet one span F → IsFarSet other span G → F ≡ G
  sets_same one other F G a b f g =
      same_set (keyed_text one span) one.sites.items span F G f (far_same one other G a b g)

  pub one_layout : (one other : TextLayout) → IsTextLayout files plan sites span one → IsTextLayout files plan sites span other →
      one ≡ other
  one_layout one other a b =
      let keyed : one.keyed ≡ other.keyed =
      a.laid.keyed_is ∙ keyed_same a.shape b.shape a.shape_is b.shape_is ∙ sym b.laid.keyed_is in
      let count : length one.far ≡ length other.far =
      a.laid.far_count ∙ ap (λ (t : KeyedText). key_count t) keyed ∙ sym b.laid.far_count in
      let set : member one.far ≡ member other.far =
      sets_same a.shape b.shape (member one.far) (member other.far) a.shape_is b.shape_is a.laid.far_is b.laid.far_is in
      let far : one.far ≡ other.far = same_flags one.far other.far count (λ k. ap (λ (F : ℕ → Bool). F k) set) in
      let there : IsLayout one.keyed (member one.far) other.places =
      subst (λ (t : KeyedText). IsLayout t (member one.far) other.places) (sym keyed)
      (subst (λ (F : ℕ → Bool). IsLayout other.keyed F other.places) (sym set) b.laid.places_are) in
      let places : one.places ≡ other.places = places_are_one one.keyed (member one.far) one.places other.places a.laid.places_are there in
      ap (λ (t : KeyedText). layout_of t one.far one.places) keyed
      ∙ ap (λ (l : List Bool). layout_of other.keyed l one.places) far
      ∙ ap (layout_of other.keyed other.far) places

  -- a refusal of the job in the layout of the far set of another shape of the job
  job_over : (why : LayoutFault) (shape : Shape) (F : ℕ → Bool) → IsShapeOf files plan sites shape → IsFarSet shape span F →
      IsRefusedJob files plan sites span why → RefusedOver plan.text_start whole (shape_sites sites) F why
  job_over why shape F a far refused =
      let set : refused.far ≡ F = sets_same refused.shape shape refused.far F refused.shape_is a refused.far_is far in
      subst (λ (G : ℕ → Bool). RefusedOver plan.text_start whole (shape_sites sites) G why) set
      (over_parts (λ (n : ℕ) (t : KeyedText) (l : List ShapeSite). RefusedOver n t l refused.far why) refused.shape refused.shape_is
      (plain refused.shape refused.far why refused.refused))

  cause : (r : Refusal) → r ≢ Memory → IsTextRefusal files plan sites span r →
      ((r ≡ TextTooBig) × IsRefusedJob files plan sites span fault.TextTooBig)
      ⊎ ((site : Site) × (r ≡ StubReach site) × IsFirstOut files plan sites span site)
  cause TextTooBig stated is = inl (refl, is)
  cause (StubReach site) stated is = inr (site, refl, is)
  cause Memory stated is = absurd (stated refl)
  cause r stated is = absurd is

  big_or_out : {i : ℕ} → IsRefusedJob files plan sites span fault.TextTooBig → IsRefusedJob files plan sites span (fault.StubReach i) → ⊥
  big_or_out {i} big out =
      let over = job_over fault.TextTooBig out.shape out.far out.shape_is out.far_is big in
      let within = job_over (fault.StubReach i) out.shape out.far out.shape_is out.far_is out in
      omega (arith, over, within.0)

  same_site : (site site' : Site) → IsFirstOut files plan sites span site → IsFirstOut files plan sites span site' → site ≡ site'
  same_site site site' one other =
      let first =
      job_over (fault.StubReach one.number) one.refused.shape one.refused.far one.refused.shape_is one.refused.far_is one.refused in
      let second =
      job_over (fault.StubReach other.number) one.refused.shape one.refused.far one.refused.shape_is one.refused.far_is other.refused in
      let found = first.1 in
      let found' = second.1 in
      let same : one.number ≡ other.number = cc in
      one.site_is ∙ ap (λ (n : ℕ). (call_at (classed_sites sites) n).site) same ∙ sym other.site_is

  pub one_refusal : (one other : Refusal) → one ≢ Memory → other ≢ Memory → IsTextRefusal files plan sites span one →
      IsTextRefusal files plan sites span other → one ≡ other
  one_refusal one other stated stated' a b =
      elim (cause one stated a) [
        | inl big ↦
            elim (cause other stated' b) [
              | inl big' ↦ big.0 ∙ sym big'.0
              | inr out ↦ absurd (big_or_out big.1 (out.2).refused)
            ]
        | inr out ↦
            elim (cause other stated' b) [
              | inl big ↦ absurd (big_or_out big.1 (out.2).refused)
              | inr out' ↦ out.1 ∙ ap StubReach (same_site out.0 out'.0 out.2 out'.2) ∙ sym out'.1
            ]
      ]

  pub not_both : (text : TextLayout) (refusal : Refusal) → refusal ≢ Memory → IsTextLayout files plan sites span text →
      IsTextRefusal files plan sites span refusal → ⊥
  not_both text refusal stated laid refused =
      elim (cause refusal stated refused) [
        | inl big ↦
            let over = job_over fault.TextTooBig laid.shape (member text.far) laid.shape_is laid.laid.far_is big.1 in
            let within = accepted_over laid.shape (member text.far) laid.shape_is laid.accepted in
            omega (arith, over, within.0)
        | inr out ↦
            let over =
            job_over (fault.StubReach (out.2).number) laid.shape (member text.far) laid.shape_is laid.laid.far_is (out.2).refused in
            let within = accepted_over laid.shape (member text.far) laid.shape_is laid.accepted in
            let none = within.1 in
            let some = over.1 in
            cc
      ]
