-- A job has a layout of its text, or a reason why there is none.
use Rattle.std.proofs.Common.{ℕ, zero, suc, ◌≡◌, ◌<◌, ◌≤◌, ◌+◌, ◌⊎◌, inl, inr, Bool, true, false, List, [], ◌∷◌, length, map, Option, Some, None, ap, sym, ◌∙◌, refl, arith}
use Rattle.std.specs.List.{range_with_len}
use Rattle.std.proofs.lemmas.Bool.{cases_lt}
use Rattle.std.proofs.lemmas.List.FromFn.{get_or-map-range_with_len, length-map-range_with_len}
use Rattle.ppc_bytes.specs.declared.constants.TheConstants.{TEXT_LIMIT}
use Rattle.object_set.specs.declared.refusal.Refusal.TheVariants.{TextTooBig, StubReach}
use Rattle.call_sites.specs.declared.site.CallSite.{CallSite}
use Rattle.toc_groups.specs.Plans.{LaidData}
use Rattle.layout_rounds.specs.declared.shape.Shape.{Shape}
use Rattle.layout_rounds.specs.declared.shape.ShapeSite.{ShapeSite}
use Rattle.layout_rounds.specs.FarSets.{member, ◌⊆◌}
use Rattle.layout_rounds.specs.Layout.{PlacedText, IsLayout, key_count, group_count, section_count, group_start, address, area_start, section_address, stub_address, text_end}
use Rattle.layout_rounds.specs.Reach.{reaches_near, IsFarSet}
use Rattle.layout_rounds.specs.Settled.{is_out, stub_reach}
use Rattle.layout_rounds.specs.Shapes.{KeyedText, keyed_text, IsSound, IsSpan}
use Rattle.layout_rounds.proofs.Called.{are_calls}
use Rattle.layout_rounds.proofs.StubsOut.{find_all, reached_by}
use Rattle.image_writer.specs.Calls.{call_at}
use Rattle.image_writer.specs.Job.{IsShapeOf}
use Rattle.image_writer.specs.JobShape.{classed_sites}
use Rattle.image_writer.specs.LaidText.{HasTextLayout, HasTextRefusal}
use Rattle.image_writer.proofs.Refusing.{find_within}
use Rattle.image_writer.proofs.Sited.{sites_count}

-- the flags of the first n keys of a set
abbrev flags : (ℕ → Bool) → ℕ → List Bool
flags F n = map F (range_with_len 0 n)

flag_there : (F : ℕ → Bool) (n k : ℕ) → k < n → member (flags F n) k ≡ F k
flag_there F n k within = get_or-map-range_with_len F 0 n k k false within (omega arith)

past_end : (far : List Bool) (k : ℕ) → length far ≤ k → member far k ≡ false
past_end [] k past = refl
past_end (f ∷ far) zero past = absurd (omega (arith, past))
past_end (f ∷ far) (suc k) past = past_end far k (omega (arith, past))

flags_within : (F : ℕ → Bool) (n : ℕ) → member (flags F n) ⊆ F
flags_within F n k is =
    elim (cases_lt k n) [
      | inl within ↦ sym (flag_there F n k within) ∙ is
      | inr past ↦ (
          let none = past_end (flags F n) k (omega (arith, past, length-map-range_with_len F 0 n)) in
          cc)
    ]

-- the places of a layout
abbrev places_of : KeyedText → (ℕ → Bool) → PlacedText
places_of t F = record {
  starts = map (group_start t F) (range_with_len 0 (group_count t + 1));
  areas = map (λ g. address t F (area_start t g)) (range_with_len 0 (group_count t));
  sections = map (section_address t F) (range_with_len 0 (section_count t));
  stubs = map (stub_address t F) (range_with_len 0 (key_count t));
  end = text_end t F;
}

laid : (t : KeyedText) (F : ℕ → Bool) → IsLayout t F (places_of t F)
laid t F = record {
  start_count = length-map-range_with_len (group_start t F) 0 (group_count t + 1);
  starts = λ g within. get_or-map-range_with_len (group_start t F) 0 (group_count t + 1) g g 0 (omega (arith, within)) (omega arith);
  area_count = length-map-range_with_len (λ g. address t F (area_start t g)) 0 (group_count t);
  areas = λ g within. get_or-map-range_with_len (λ g. address t F (area_start t g)) 0 (group_count t) g g 0 within (omega arith);
  section_count_is = length-map-range_with_len (section_address t F) 0 (section_count t);
  sections = λ s within. get_or-map-range_with_len (section_address t F) 0 (section_count t) s s 0 within (omega arith);
  stub_count = length-map-range_with_len (stub_address t F) 0 (key_count t);
  stubs = λ k within. get_or-map-range_with_len (stub_address t F) 0 (key_count t) k k 0 within (omega arith);
  end_is = refl;
}

module _ (files : List (List ℕ)) (plan : LaidData) (sites : List CallSite) (span : ℕ) (shape : Shape)
    (is : IsShapeOf files plan sites shape)
    (sound : IsSound shape) (is_span : IsSpan span) (far : (F : ℕ → Bool) × IsFarSet shape span F)
    (shrinks : (F G : ℕ → Bool) → F ⊆ G → (k : ℕ) → k < key_count (keyed_text shape span) →
    reaches_near (keyed_text shape span) shape.sites.items span G k ≡ true →
    reaches_near (keyed_text shape span) shape.sites.items span F k ≡ true) where
  abbrev t : KeyedText
  t = keyed_text shape span

  abbrev set : List Bool
  set = flags far.0 (key_count t)

  -- its flags are the far set
  set_is : IsFarSet shape span (member set)
  set_is = record {
    closed = λ k within none. shrinks (member set) far.0 (flags_within far.0 (key_count t)) k within
        (far.1.closed k within (sym (flag_there far.0 (key_count t) k within) ∙ none));
    least = λ G closed k in_set. far.1.least G closed k (flags_within far.0 (key_count t) k in_set);
  }

  abbrev Outcome : Type 0
  Outcome = HasTextLayout files plan sites span ⊎ HasTextRefusal files plan sites span

  by_reach : (o : Option ℕ) → stub_reach shape span (member set) ≡ o → text_end t (member set) ≤ shape.start + TEXT_LIMIT → Outcome
  by_reach None found within = inl (record {
    text = record { keyed = t; far = set; places = places_of t (member set) };
    is = record {
      shape = shape;
      shape_is = is;
      laid = record {
        keyed_is = refl;
        far_count = length-map-range_with_len far.0 0 (key_count t);
        far_is = set_is;
        places_are = laid t (member set);
      };
      accepted = record {
        within = within;
        none_out = found;
        reached = λ i lt. reached_by t shape.sites.items (member set) span i (are_calls shape span sound) set_is.closed lt
            (find_all (is_out t shape.sites.items (member set) span) (length shape.sites.items) 0 i found (omega arith)
            (omega (arith, lt)));
      };
    };
  })
  by_reach (Some i) found within =
      let lt = find_within (is_out t shape.sites.items (member set) span) (length shape.sites.items) 0 i found in
      let all = sites_count sites in
      let count = ap (λ (l : List ShapeSite). length l) is.sites_are in
      inr (record {
        refusal = StubReach (call_at (classed_sites sites) i).site;
        is = record {
          number = i;
          within = omega (arith, lt, all, count);
          refused = record {
            shape = shape;
            far = member set;
            shape_is = is;
            far_is = set_is;
            refused = record { within = within; first = found };
          };
          site_is = refl;
        };
        stated = λ same. cc;
      })

  pub some_text : Outcome
  some_text =
      elim (cases_lt (shape.start + TEXT_LIMIT) (text_end t (member set))) [
        | inl big ↦ inr (record {
          refusal = TextTooBig;
          is = record { shape = shape; far = member set; shape_is = is; far_is = set_is; refused = big };
          stated = λ same. cc;
        })
        | inr within ↦ by_reach (stub_reach shape span (member set)) refl within
      ]
