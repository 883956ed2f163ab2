-- The keys of the calls so far, and their numbers.
use Rattle.std.proofs.Common.{ℕ, zero, suc, ◌≡◌, ◌<◌, ◌≤◌, ◌+◌, ◌⊎◌, inl, inr, Bool, List, [], ◌∷◌, ◌++◌, length, map, get_or}
use Rattle.std.proofs.Common.{ap, sym, ◌∙◌, refl, subst, arith, add-one, if◌then◌else◌}
use Rattle.std.specs.List.{list_any, position_or_len}
use Rattle.std.proofs.lemmas.List.{get_or-map, length-map, ext_get_or}
use Rattle.stub_kinds.specs.declared.class.Key.{Key}
use Rattle.layout_rounds.specs.declared.shape.ShapeSection.{ShapeSection}
use Rattle.layout_rounds.specs.declared.shape.ShapeSite.{ShapeSite}
use Rattle.layout_rounds.specs.declared.shape.Shape.{Shape}
use Rattle.layout_rounds.specs.declared.grouping.Spot.{Spot}
use Rattle.layout_rounds.specs.Shapes.{keyed_parts, spots_of, unit_upto, AreSound, site_of, no_site, key_of, same_key, with_key, keys_upto}
use Rattle.layout_rounds.specs.Shapes.{keys_of, number_of, numbers_of, IsKeyIn, IsSound}
use Rattle.stub_kinds.specs.declared.class.Class.TheVariants.{Same}
use Rattle.layout_rounds.specs.inside.Texts.{IsKeyedWith}
use Rattle.layout_rounds.specs.inside.Placed.{AreFirst}
use Rattle.layout_rounds.proofs.KeyNumbers.{known, first_kept, first_new, with_old, with_new, same_itself, first_most}
use Rattle.layout_rounds.proofs.Cases.{below_or_same, split}
use Rattle.layout_rounds.proofs.Pushed.{pushed_length, pushed_before, pushed_last}
use Rattle.layout_rounds.proofs.Placements.{one_more}

-- the keys of the first n calls, and the number of each call's key
pub record AreKeyed (spots : List Spot) (sites : List ShapeSite) (n : ℕ) (keys : List Key) (numbers : List ℕ) :
    Type 0 where
  pub keys_are : keys ≡ keys_upto spots sites n
  pub few : length keys ≤ n
  pub numbers_are : AreFirst (λ j. number_of spots keys (site_of sites j)) n numbers
  pub found : (j : ℕ) → j < n → position_or_len (same_key (key_of spots (site_of sites j))) keys < length keys

with_either : (keys : List Key) (key : Key) → (with_key keys key ≡ keys) ⊎ (with_key keys key ≡ keys ++ key ∷ [])
with_either keys key = elim (known (list_any (same_key key) keys)) [
  | inl any ↦ inl (ap (λ (b : Bool). if b then keys else keys ++ key ∷ []) any)
  | inr none ↦ inr (ap (λ (b : Bool). if b then keys else keys ++ key ∷ []) none)
]

long_as : (xs ys : List Key) → xs ≡ ys → length xs ≡ length ys
long_as xs ys e = ap (λ (zs : List Key). length zs) e

pub with_long : (keys : List Key) (key : Key) →
    (length keys ≤ length (with_key keys key)) × (length (with_key keys key) ≤ length keys + 1)
with_long keys key = elim (with_either keys key) [
  | inl e ↦ let long = long_as (with_key keys key) keys e in (omega (arith, long), omega (arith, long))
  | inr e ↦ let long = long_as (with_key keys key) (keys ++ key ∷ []) e in
      let more = pushed_length keys key in
      (omega (arith, long, more), omega (arith, long, more))
]

pub with_kept : (p : Key → Bool) (keys : List Key) (key : Key) →
    position_or_len p keys < length keys →
    position_or_len p (with_key keys key) ≡ position_or_len p keys
with_kept p keys key lt = elim (with_either keys key) [
  | inl e ↦ ap (λ (zs : List Key). position_or_len p zs) e
  | inr e ↦ ap (λ (zs : List Key). position_or_len p zs) e ∙ first_kept p keys key lt
]

pub with_found : (keys : List Key) (key : Key) →
    position_or_len (same_key key) (with_key keys key) < length (with_key keys key)
with_found keys key = elim (below_or_same (position_or_len (same_key key) keys) (length keys)
    (first_most (same_key key) keys)) [
      | inl lt ↦ subst (λ (zs : List Key). position_or_len (same_key key) zs < length zs) (sym (with_old keys key lt)) lt
      | inr none ↦ subst (λ (zs : List Key). position_or_len (same_key key) zs < length zs) (sym (with_new keys key none))
          (let at = first_new (same_key key) keys key none (same_itself key) in
          let more = pushed_length keys key in
          omega (arith, at, more))
    ]

keys_next : (spots : List Spot) (sites : List ShapeSite) (n : ℕ) →
    keys_upto spots sites (n + 1) ≡ with_key (keys_upto spots sites n) (key_of spots (site_of sites n))
keys_next spots sites n = rw (add-one n) refl

-- one more call
pub keyed_more : (spots : List Spot) (sites : List ShapeSite) (n : ℕ) (keys keys_new : List Key)
    (numbers numbers_new : List ℕ) (key : Key) (number : ℕ) →
    AreKeyed spots sites n keys numbers →
    key ≡ key_of spots (site_of sites n) →
    keys_new ≡ with_key keys key →
    number ≡ position_or_len (same_key key) keys_new →
    numbers_new ≡ numbers ++ number ∷ [] →
    AreKeyed spots sites (n + 1) keys_new numbers_new
keyed_more spots sites n keys keys_new numbers numbers_new key number so_far key_is with number_is more =
    let long = with_long keys key in
    let new_long = long_as keys_new (with_key keys key) with in
    let kept : (j : ℕ) → j < n →
    position_or_len (same_key (key_of spots (site_of sites j))) keys_new ≡ position_or_len
    (same_key (key_of spots (site_of sites j))) keys =
    λ j lt. ap (λ (zs : List Key). position_or_len (same_key (key_of spots (site_of sites j))) zs) with
    ∙ with_kept (same_key (key_of spots (site_of sites j))) keys key (so_far.found j lt) in
    let last : number ≡ position_or_len (same_key (key_of spots (site_of sites n))) keys_new =
    number_is ∙ ap (λ (x : Key). position_or_len (same_key x) keys_new) key_is in
    let found_last : position_or_len (same_key (key_of spots (site_of sites n))) keys_new < length keys_new =
    subst (λ (x : Key). position_or_len (same_key x) keys_new < length keys_new) key_is
    (subst (λ (zs : List Key). position_or_len (same_key key) zs < length zs) (sym with) (with_found keys key)) in
    record {
      keys_are =
          with
          ∙ ap (λ (zs : List Key). with_key zs key) so_far.keys_are
          ∙ ap (λ (x : Key). with_key (keys_upto spots sites n) x) key_is
          ∙ sym (keys_next spots sites n);
      few = omega (arith, long.1, new_long, so_far.few);
      numbers_are = one_more (λ j. number_of spots keys_new (site_of sites j)) n numbers numbers_new number (record {
        count = so_far.numbers_are.count;
        each = λ j lt. so_far.numbers_are.each j lt ∙ sym (kept j lt);
      }) more last;
      found = λ j lt. elim (split j n lt) [
        | inl below ↦ let e = kept j below in omega (arith, e, so_far.found j below, long.0, new_long)
        | inr same ↦ subst (λ (i : ℕ). position_or_len (same_key (key_of spots (site_of sites i))) keys_new <
            length keys_new) (sym same) found_last
      ];
    }

-- the numbers of all calls
pub numbers_all : (spots : List Spot) (sites : List ShapeSite) (keys : List Key) (numbers : List ℕ) →
    AreFirst (λ j. number_of spots keys (site_of sites j)) (length sites) numbers →
    numbers ≡ numbers_of spots keys sites
numbers_all spots sites keys numbers all =
    ext_get_or 0 numbers (map (number_of spots keys) sites)
    (all.count ∙ sym (length-map sites (number_of spots keys)))
    (λ j lt. let within : j < length sites = omega (arith, lt, all.count) in
    all.each j within ∙ sym (get_or-map (number_of spots keys) sites j no_site 0 within))

-- there are no more keys than calls
pub keys_few : (spots : List Spot) (sites : List ShapeSite) (n : ℕ) → length (keys_upto spots sites n) ≤ n
keys_few spots sites zero = omega arith
keys_few spots sites (suc n) =
    let ih = keys_few spots sites n in
    let long = with_long (keys_upto spots sites n) (key_of spots (site_of sites n)) in
    omega (arith, ih, long.1)

-- ---- each key is one of a call

with_all : (P : Key → Type 0) (keys : List Key) (key d : Key) →
    ((k : ℕ) → k < length keys → P (get_or keys k d)) →
    P key →
    (k : ℕ) → k < length (with_key keys key) → P (get_or (with_key keys key) k d)
with_all P keys key d before last k lt = elim (with_either keys key) [
  | inl e ↦ subst (λ (zs : List Key). P (get_or zs k d)) (sym e)
      (let long = long_as (with_key keys key) keys e in before k (omega (arith, lt, long)))
  | inr e ↦ subst (λ (zs : List Key). P (get_or zs k d)) (sym e)
      (let long = long_as (with_key keys key) (keys ++ key ∷ []) e in
      let more = pushed_length keys key in
      elim (split k (length keys) (omega (arith, lt, long, more))) [
        | inl below ↦ subst P (sym (pushed_before keys key d k below)) (before k below)
        | inr same ↦ subst (λ (i : ℕ). P (get_or (keys ++ key ∷ []) i d)) (sym same)
            (subst P (sym (pushed_last keys key d (length keys) refl)) last)
      ])
]

pub keys_sound : (shape : Shape) (spots : List Spot) (d : Key) →
    IsSound shape →
    (n : ℕ) → n ≤ length shape.sites.items →
    (k : ℕ) → k < length (keys_upto spots shape.sites.items n) →
    IsKeyIn shape.sections.items spots (get_or (keys_upto spots shape.sites.items n) k d)
keys_sound shape spots d sound zero le k lt = absurd (omega (arith, lt))
keys_sound shape spots d sound (suc n) le k lt =
    let sites = shape.sites.items in
    let within : n < length sites = omega (arith, le) in
    let here : IsKeyIn shape.sections.items spots (key_of spots (site_of sites n)) = record {
      group_in = ((site_of sites n).section, (sound.from n within).section_in, refl);
      place = sound.to n within;
    } in
    with_all (λ (x : Key). IsKeyIn shape.sections.items spots x) (keys_upto spots sites n)
    (key_of spots (site_of sites n)) d
    (keys_sound shape spots d sound n (omega (arith, le))) here k lt

-- ---- the text that is made of a shape

keys_in : (shape : Shape) (sections : List ShapeSection) (spots : List Spot) (keys : List Key) (d : Key) →
    IsSound shape →
    sections ≡ shape.sections.items →
    keys ≡ keys_of spots shape.sites.items →
    (k : ℕ) → k < length keys → IsKeyIn sections spots (get_or keys k d)
keys_in shape sections spots keys d sound sections_are keys_are =
    subst (λ (xs : List ShapeSection). (k : ℕ) → k < length keys → IsKeyIn xs spots (get_or keys k d))
    (sym sections_are)
    (subst (λ (zs : List Key). (k : ℕ) → k < length zs → IsKeyIn shape.sections.items spots (get_or zs k d))
    (sym keys_are)
    (keys_sound shape spots d sound (length shape.sites.items) (omega arith)))

pub text_keyed : (shape : Shape) (reach u : ℕ) (sections : List ShapeSection) (spots : List Spot) (keys : List Key)
    (numbers : List ℕ) →
    IsSound shape →
    sections ≡ shape.sections.items →
    spots ≡ spots_of shape.sections.items reach →
    keys ≡ keys_of spots shape.sites.items →
    u ≡ unit_upto shape.sections.items (length shape.sections.items) →
    IsKeyedWith (keyed_parts shape.start reach sections spots keys numbers) u
text_keyed shape reach u sections spots keys numbers sound sections_are spots_are keys_are unit_is = record {
  keyed = record {
    start_whole = sound.start_whole;
    start_low = sound.start_low;
    sections = subst AreSound (sym sections_are) sound.sections;
    spots = spots_are ∙ ap (λ (xs : List ShapeSection). spots_of xs reach) (sym sections_are);
    few_keys =
        let long = long_as keys (keys_of spots shape.sites.items) keys_are in
        let few = keys_few spots shape.sites.items (length shape.sites.items) in
        omega (arith, long, few, sound.few_sites);
    keys = keys_in shape sections spots keys (record { group = 0; class = Same; section = 0; offset = 0 }) sound
        sections_are keys_are;
  };
  unit_is = unit_is ∙ ap (λ (xs : List ShapeSection). unit_upto xs (length xs)) (sym sections_are);
}
