-- The calls of the text that is made of a shape.
use Rattle.std.proofs.Common.{ℕ, zero, suc, ◌≡◌, ◌<◌, inl, inr, List, length, slice_index, get_or, refl}
use Rattle.std.proofs.Common.{ap, sym, ◌∙◌, subst, arith}
use Rattle.std.specs.List.{position_or_len}
use Rattle.std.proofs.lemmas.List.{get_or-map, length-map}
use Rattle.std.proofs.lemmas.List.Sums.{passes_at_first}
use Rattle.layout_rounds.specs.declared.shape.Shape.{Shape}
use Rattle.layout_rounds.specs.declared.shape.ShapeSite.{ShapeSite}
use Rattle.layout_rounds.specs.declared.grouping.Spot.{Spot}
use Rattle.layout_rounds.specs.Shapes.{KeyedText, keyed_text, site_of, no_site, key_of, same_key, keys_upto, keys_of, with_key}
use Rattle.layout_rounds.specs.Shapes.{number_of, IsSound}
use Rattle.layout_rounds.specs.Layout.{no_key, key_at}
use Rattle.layout_rounds.specs.inside.Calls.{AreCalls}
use Rattle.layout_rounds.proofs.KeyNumbers.{sorted_from_same}
use Rattle.layout_rounds.proofs.KeysUpto.{keys_few, with_long, with_kept, with_found, keys_sound}
use Rattle.layout_rounds.proofs.Cases.{split}

-- each call's key is one of them
pub found_upto : (spots : List Spot) (sites : List ShapeSite) (j n : ℕ) →
    j < n →
    position_or_len (same_key (key_of spots (site_of sites j))) (keys_upto spots sites n) < length (keys_upto spots sites n)
found_upto spots sites j zero lt = absurd (omega (arith, lt))
found_upto spots sites j (suc n) lt =
    let keys = keys_upto spots sites n in
    let key = key_of spots (site_of sites n) in
    elim (split j n (omega (arith, lt))) [
      | inl below ↦
          let ih = found_upto spots sites j n below in
          let kept = with_kept (same_key (key_of spots (site_of sites j))) keys key ih in
          let long = with_long keys key in
          omega (arith, ih, kept, long.0)
      | inr same ↦ subst
          (λ (i : ℕ). position_or_len (same_key (key_of spots (site_of sites i))) (with_key keys key) < length
          (with_key keys key))
          (sym same) (with_found keys key)
    ]

pub are_calls : (shape : Shape) (span : ℕ) → IsSound shape → AreCalls (keyed_text shape span) shape.sites.items
are_calls shape span sound =
    let t = keyed_text shape span in
    let sites = shape.sites.items in
    let keys = keys_of t.spots sites in
    let number : (i : ℕ) → i < length sites → slice_index t.numbers i ≡ number_of t.spots keys (site_of sites i) =
    λ i lt. get_or-map (number_of t.spots keys) sites i no_site 0 lt in
    let found : (i : ℕ) → i < length sites → number_of t.spots keys (site_of sites i) < length keys =
    λ i lt. found_upto t.spots sites i (length sites) lt in
    record {
      keyed = record {
        start_whole = sound.start_whole;
        start_low = sound.start_low;
        sections = sound.sections;
        spots = refl;
        few_keys = let few = keys_few t.spots sites (length sites) in omega (arith, few, sound.few_sites);
        keys = keys_sound shape t.spots (no_key t) sound (length sites) (omega arith);
      };
      count = length-map sites (number_of t.spots keys);
      from = sound.from;
      numbered = λ i lt. let is = number i lt in let within = found i lt in omega (arith, is, within);
      group = λ i lt.
          ap (λ (k : ℕ). (key_at t k).group) (number i lt)
          ∙ sym (ap (λ (x : (ℕ × ℕ) × (ℕ × ℕ)). x.0.0)
          (sorted_from_same (key_of t.spots (site_of sites i))
          (get_or keys (number_of t.spots keys (site_of sites i)) (no_key t))
          (passes_at_first (same_key (key_of t.spots (site_of sites i))) keys (no_key t) (found i lt))));
    }

-- those of a text that is known to be that one
pub calls_at : (shape : Shape) (span : ℕ) (t : KeyedText) →
    IsSound shape →
    t ≡ keyed_text shape span →
    AreCalls t shape.sites.items
calls_at shape span t sound is =
    subst (λ (x : KeyedText). AreCalls x shape.sites.items) (sym is) (are_calls shape span sound)
