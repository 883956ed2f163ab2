-- What a layout gives, from the laws of layouts.
use Rattle.std.proofs.Common.{ℕ, zero, suc, ◌≡◌, ◌<◌, ◌≤◌, ◌+◌, ◌%◌, Bool, true, List, length, slice_index, ap, sym, ◌∙◌, subst, arith, None}
use Rattle.std.specs.Prelude.{pos, ◌-ℤ◌}
use Rattle.ppc_bytes.specs.Bytes.{InSigned}
use Rattle.stub_kinds.specs.Stubs.{BranchReaches}
use Rattle.call_sites.specs.declared.site.CallSite.{CallSite}
use Rattle.toc_groups.specs.PlacedData.{IsPlacedData}
use Rattle.toc_groups.specs.Plans.{LaidData}
use Rattle.layout_rounds.specs.declared.shape.Shape.{Shape}
use Rattle.layout_rounds.specs.declared.shape.ShapeSite.{ShapeSite}
use Rattle.layout_rounds.specs.FarSets.{member}
use Rattle.layout_rounds.specs.Shapes.{KeyedText, keyed_text, section_of, IsSound, IsSpan}
use Rattle.layout_rounds.specs.Layout.{PlacedText, section_count, section_size, key_count, key_at, stub_size, sections_end, text_end, address, point_in, section_address, stub_address, IsKeyed}
use Rattle.layout_rounds.specs.Lying.{AreApart, IsInLayout}
use Rattle.layout_rounds.specs.Reach.{reaches, IsClosed}
use Rattle.image_writer.specs.Job.{IsJob}
use Rattle.object_set.specs.Refusals.{set_refusal}
use Rattle.image_writer.specs.inside.Ready.{HasRooms}
use Rattle.image_writer.specs.inside.Gives.{LayoutGives}
use Rattle.image_writer.proofs.Room.{section_count_is, start_is, places_count, section_from, section_to, stub_ready, stub_room, call_ready, call_room}
use Rattle.image_writer.proofs.FieldRooms.{field_room, text_addresses}
use Rattle.image_writer.specs.Calls.{call_at, no_call}
use Rattle.symbol_table.specs.Records.{records_refusal}
use Rattle.call_sites.specs.Sites.{call_sites}
use Rattle.call_sites.specs.laws.SiteFacts.{IsSoundSite}
use Rattle.call_sites.specs.laws.SiteOrder.{site_sound_at}

-- text ends no earlier than it starts
end_least : (t : KeyedText) (F : ℕ → Bool) (n : ℕ) → t.start ≤ sections_end t F n
end_least t F zero = omega arith
end_least t F (suc n) = let ih = end_least t F n in omega (arith, ih)

pub text_least : (t : KeyedText) (F : ℕ → Bool) → t.start ≤ text_end t F
text_least t F = let least = end_least t F (section_count t) in omega (arith, least)

pub layout_gives : (files : List (List ℕ)) (plan : LaidData) (sites : List CallSite) (t : KeyedText) (far : List Bool) (places : PlacedText)
    (job : IsJob files plan sites t far places) →
    ((shape : Shape) (span : ℕ) → IsSound shape → IsKeyed (keyed_text shape span)) →
    ((shape : Shape) (span : ℕ) → IsSound shape → length (keyed_text shape span).numbers ≡ length shape.sites.items) →
    ((shape : Shape) (span i : ℕ) → IsSound shape → i < length shape.sites.items →
    slice_index (keyed_text shape span).numbers i < key_count (keyed_text shape span)) →
    ((t : KeyedText) (F : ℕ → Bool) (s : ℕ) → IsKeyed t → s < section_count t →
    IsInLayout t F (section_address t F s) (section_size t s) (section_of t.sections s).align) →
    ((t : KeyedText) (F : ℕ → Bool) (s : ℕ) → IsKeyed t → s < section_count t → section_address t F s % 4 ≡ 0) →
    ((t : KeyedText) (F : ℕ → Bool) (k : ℕ) → IsKeyed t → k < key_count t →
    0 < stub_size t F k → IsInLayout t F (stub_address t F k) (stub_size t F k) 16) →
    ((span at to : ℕ) → IsSpan span → reaches span at to ≡ true → InSigned 26 (pos to -ℤ pos at)) →
    ((t : KeyedText) (sites : List ShapeSite) (span : ℕ) (F : ℕ → Bool) → IsKeyed t → IsSpan span → IsClosed t sites span F →
    (k : ℕ) → k < key_count t → BranchReaches (key_at t k).class (F k) (stub_address t F k)
    (address t F (point_in t (key_at t k).section (key_at t k).offset))) →
    ((t : KeyedText) (F : ℕ → Bool) (s r : ℕ) → IsKeyed t → s < r →
    r < section_count t → section_address t F s + section_size t s ≤ section_address t F r) →
    ((t : KeyedText) (F : ℕ → Bool) (s k : ℕ) → IsKeyed t → s < section_count t →
    k < key_count t → AreApart (section_address t F s) (section_size t s) (stub_address t F k) (stub_size t F k)) →
    ((t : KeyedText) (F : ℕ → Bool) (j k : ℕ) → IsKeyed t → j < k → k < key_count t →
    AreApart (stub_address t F j) (stub_size t F j) (stub_address t F k) (stub_size t F k)) →
    LayoutGives t job.shape.sites.items job.span (member far)
layout_gives files plan sites t far places job keyed count numbered sections fourths stubs calls branches first beside others =
    let shape = job.shape in
    let is : IsKeyed t = subst IsKeyed (sym job.keyed_is) (keyed shape job.span job.sound) in
    record {
      keyed = is;
      count = ap (λ (k : KeyedText). length k.numbers) job.keyed_is ∙ count shape job.span job.sound;
      numbered = λ i lt. subst (λ (k : KeyedText). slice_index k.numbers i < key_count k) (sym job.keyed_is)
          (numbered shape job.span i job.sound lt);
      sections = λ s lt. sections t (member far) s is lt;
      instructions = λ s lt. fourths t (member far) s is lt;
      stubs = λ k lt some. stubs t (member far) k is lt some;
      calls = λ at to holds. calls job.span at to job.is_span holds;
      branches = λ k lt. branches t shape.sites.items job.span (member far) is job.is_span job.closed k lt;
      sections_apart = λ s r less lt. first t (member far) s r is less lt;
      stubs_beside = λ s k lt in_keys. beside t (member far) s k is lt in_keys;
      stubs_apart = λ j k less in_keys. others t (member far) j k is less in_keys;
    }

pub each_sound : (files : List (List ℕ)) (groups : List ℕ) (sites : List CallSite) → set_refusal files ≡ None →
    records_refusal files ≡ None →
    sites ≡ call_sites files groups → (i : ℕ) → i < length sites → IsSoundSite files groups (call_at sites i)
each_sound files groups sites whole none are i lt =
    subst (λ (l : List CallSite). IsSoundSite files groups (call_at l i)) (sym are)
    (site_sound_at files groups whole none i no_call (subst (λ (l : List CallSite). i < length l) are lt))

pub rooms : (files : List (List ℕ)) (plan : LaidData) (sites : List CallSite) (t : KeyedText) (far : List Bool) (places : PlacedText)
    (whole : set_refusal files ≡ None) (job : IsJob files plan sites t far places) →
    LayoutGives t job.shape.sites.items job.span (member far) → ((file : ℕ) → slice_index plan.bases file < 0x60000000) →
    IsPlacedData files plan.span → HasRooms files plan sites t far places
rooms files plan sites t far places whole job gives low placed =
    let least = text_least t (member far) in
    let sound : (i : ℕ) → i < length sites → IsSoundSite files plan.groups (call_at sites i) =
    λ i lt. each_sound files plan.groups sites whole job.records job.sites_are i lt in
    let start = start_is files plan sites t far places whole job gives in
    record {
      start = omega (arith, least, start);
      end = job.laid.end_is;
      far_count = job.far_count;
      texts = section_count_is files plan sites t far places whole job gives;
      count = places_count files plan sites t far places whole job gives;
      from = section_from files plan sites t far places whole job gives;
      to = section_to files plan sites t far places whole job gives;
      ready = stub_ready files plan sites t far places whole job gives low;
      room = stub_room files plan sites t far places whole job gives;
      calls_ready = λ i lt. call_ready files plan sites t far places whole job gives low i lt (sound i lt);
      calls_room = λ i lt. call_room files plan sites t far places whole job gives low i lt (sound i lt);
      addresses = text_addresses files plan sites t far places whole job gives placed;
      fields_room = field_room files plan sites t far places whole job gives;
    }
