-- Which calls reach what they branch to.
use Rattle.std.proofs.Common.{ℕ, zero, suc, ◌≡◌, ◌≢◌, ◌<◌, ◌≤◌, ◌+◌, ◌^◌, inl, inr, Bool, true, false, cond, List, length}
use Rattle.std.proofs.Common.{Some, None, is_some, slice_index, refl, ap, sym, ◌∙◌, arith, nat_lt, not, ◌&&◌, if◌then◌else◌}
use Rattle.std.specs.List.{find, range_with_len}
use Rattle.std.proofs.lemmas.Bool.{false≢true}
use Rattle.std.proofs.lemmas.Bool.Decides.{nat_tests}
use Rattle.stub_kinds.specs.declared.class.Class.{Class}
use Rattle.stub_kinds.specs.declared.class.Class.TheVariants.{Same, Switch, Save, NearN, EntrySave, EntryBare, EntryN}
use Rattle.stub_kinds.specs.declared.class.Key.{Key}
use Rattle.stub_kinds.specs.Stubs.{size_of}
use Rattle.layout_rounds.specs.declared.shape.Shape.{Shape}
use Rattle.layout_rounds.specs.declared.shape.ShapeSite.{ShapeSite}
use Rattle.layout_rounds.specs.FarSets.{member}
use Rattle.layout_rounds.specs.Shapes.{KeyedText, site_of, IsSound}
use Rattle.layout_rounds.specs.Layout.{Point, PlacedText, key_count, key_at, section_count, address, point_in, stub_size, stub_address}
use Rattle.layout_rounds.specs.Reach.{reaches, calls_reach, reaches_by, IsClosed}
use Rattle.layout_rounds.specs.Settled.{call_address, has_stub, call_reaches, is_out, IsFarLayout}
use Rattle.layout_rounds.specs.inside.Calls.{AreCalls}
use Rattle.layout_rounds.proofs.KeyNumbers.{known}
use Rattle.layout_rounds.proofs.Bounds.{section_low, stub_low as stub_ends_low}
use Rattle.layout_rounds.proofs.Called.{calls_at}
use Rattle.layout_rounds.proofs.WaysStand.{calls_give}
use Rattle.layout_rounds.proofs.Cases.{below_or_same}

-- ---- the first number that passes

module _ (p : ℕ → Bool) where
  pub find_none : (n a : ℕ) →
      ((j : ℕ) → a ≤ j → j < a + n → p j ≡ false) →
      find p (range_with_len a n) ≡ None
  find_none zero a none = refl
  find_none (suc n) a none =
      ap (λ (b : Bool). cond b (Some a) (find p (range_with_len (a + 1) n))) (none a (omega arith) (omega arith))
      ∙ find_none n (a + 1) (λ j le lt. none j (omega (arith, le)) (omega (arith, lt)))

  pub find_first : (n a i : ℕ) →
      a ≤ i →
      i < a + n →
      p i ≡ true →
      ((j : ℕ) → a ≤ j → j < i → p j ≡ false) →
      find p (range_with_len a n) ≡ Some i
  find_first zero a i le lt here before = absurd (omega (arith, le, lt))
  find_first (suc n) a i le lt here before = elim (below_or_same a i le) [
    | inl later ↦
        ap (λ (b : Bool). cond b (Some a) (find p (range_with_len (a + 1) n))) (before a (omega arith) later)
        ∙ find_first n (a + 1) i (omega (arith, later)) (omega (arith, lt)) here
        (λ j from to. before j (omega (arith, from)) to)
    | inr same ↦
        ap (λ (b : Bool). cond b (Some a) (find p (range_with_len (a + 1) n))) (ap p same ∙ here) ∙ ap Some same
  ]

  pub find_all : (n a j : ℕ) →
      find p (range_with_len a n) ≡ None →
      a ≤ j →
      j < a + n →
      p j ≡ false
  find_all zero a j none le lt = absurd (omega (arith, le, lt))
  find_all (suc n) a j none le lt = elim (known (p a)) [
    | inl here ↦ absurd (false≢true
        (ap is_some (sym none ∙ ap (λ (b : Bool). cond b (Some a) (find p (range_with_len (a + 1) n))) here)))
    | inr out ↦ elim (below_or_same a j le) [
      | inl later ↦ find_all n (a + 1) j
          (sym (ap (λ (b : Bool). cond b (Some a) (find p (range_with_len (a + 1) n))) out) ∙ none)
          (omega (arith, later)) (omega (arith, lt))
      | inr same ↦ ap p (sym same) ∙ out
    ]
  ]

-- ---- the addresses of a call and of its stub

module _ (shape : Shape) (span : ℕ) (t : KeyedText) (far : List Bool) (places : PlacedText) (sound : IsSound shape)
    (laid : IsFarLayout shape span t far places) (i : ℕ) (lt : i < length shape.sites.items) where
  calls_here : AreCalls t shape.sites.items
  calls_here = calls_at shape span t sound laid.keyed_is

  pub key_in : slice_index t.numbers i < key_count t
  key_in = calls_here.numbered i lt

  pub section_in : (site_of shape.sites.items i).section < section_count t
  section_in = (calls_here.from i lt).section_in

  pub address_is : (site : ShapeSite) (at : ℕ) →
      site ≡ site_of shape.sites.items i →
      at ≡ slice_index places.sections site.section →
      at + site.offset ≡ call_address t shape.sites.items (member far) i
  address_is site at site_is at_is =
      let section = ap (λ (x : ShapeSite). slice_index places.sections x.section) site_is in
      let offset = ap (λ (x : ShapeSite). x.offset) site_is in
      let placed = laid.places_are.sections (site_of shape.sites.items i).section section_in in
      omega (arith, section, offset, placed, at_is)

  address_small : call_address t shape.sites.items (member far) i < 2 ^ 62
  address_small =
      let small = section_low t calls_here.keyed (member far) (site_of shape.sites.items i).section section_in in
      omega (arith, small, (calls_here.from i lt).within)

  pub address_low : (site : ShapeSite) (at : ℕ) →
      site ≡ site_of shape.sites.items i →
      at ≡ slice_index places.sections site.section →
      at + site.offset < 2 ^ 62
  address_low site at site_is at_is = omega (arith, address_is site at site_is at_is, address_small)

  pub stub_is : (k at : ℕ) →
      k ≡ slice_index t.numbers i →
      at ≡ slice_index places.stubs k →
      at ≡ stub_address t (member far) (slice_index t.numbers i)
  stub_is k at k_is at_is =
      at_is ∙ ap (slice_index places.stubs) k_is ∙ laid.places_are.stubs (slice_index t.numbers i) key_in

  pub stub_low : stub_address t (member far) (slice_index t.numbers i) < 2 ^ 62
  stub_low =
      let k = slice_index t.numbers i in
      let small = stub_ends_low t calls_here.keyed (member far) k key_in in
      omega (arith, small)

module _ (t : KeyedText) (sites : List ShapeSite) (F : ℕ → Bool) (span i : ℕ) where
  -- the size of the stub that is read
  pub size_is : (size k : ℕ) (key : Key) (held : Bool) →
      size ≡ size_of key.class held →
      key ≡ key_at t k →
      held ≡ F k →
      k ≡ slice_index t.numbers i →
      size ≡ stub_size t F (slice_index t.numbers i)
  size_is size k key held is key_is held_is k_is =
      is
      ∙ ap (λ (x : Key). size_of x.class held) key_is
      ∙ ap (λ (b : Bool). size_of (key_at t k).class b) held_is
      ∙ ap (λ (n : ℕ). size_of (key_at t n).class (F n)) k_is

  some_size : (size : ℕ) → size ≢ 0 → nat_lt 0 size ≡ true
  some_size size some = grind (arith, nat_tests, some)

  -- a call that branches to its stub is out of reach where that is
  pub out_is : (size at to : ℕ) →
      size ≡ stub_size t F (slice_index t.numbers i) →
      size ≢ 0 →
      at ≡ call_address t sites F i →
      to ≡ stub_address t F (slice_index t.numbers i) →
      not (reaches span at to) ≡ is_out t sites F span i
  out_is size at to size_here some at_is to_is =
      let k = slice_index t.numbers i in
      let place = address t F (point_in t (key_at t k).section (key_at t k).offset) in
      let has : has_stub t sites F i ≡ true = ap (λ (n : ℕ). nat_lt 0 n) (sym size_here) ∙ some_size size some in
      ap (λ (a : ℕ). not (reaches span a to)) at_is
      ∙ ap (λ (a : ℕ). not (reaches span (call_address t sites F i) a)) to_is
      ∙ ap (λ (b : Bool). b && not (reaches span (call_address t sites F i)
      (if b then stub_address t F k else place))) (sym has)

  -- ---- a call that isn't out of reach reaches what it branches to

  not_out : (a b : Bool) → a ≡ true → a && not b ≡ false → b ≡ true
  not_out true true h out = refl
  not_out true false h out = absurd (false≢true (sym out))
  not_out false b h out = absurd (false≢true h)

  -- only calls of near keys of class Same and NearN branch to the place itself
  direct_by : (class : Class) (far : Bool) (k : ℕ) (to : Point) →
      nat_lt 0 (size_of class far) ≡ false →
      (far ≡ false) × (reaches_by t sites span F class k to ≡ calls_reach t sites span F k to (length sites))
  direct_by Same false k to h = (refl, refl)
  direct_by Same true k to h = absurd (false≢true (sym h))
  direct_by NearN false k to h = (refl, refl)
  direct_by NearN true k to h = absurd (false≢true (sym h))
  direct_by Switch false k to h = absurd (false≢true (sym h))
  direct_by Switch true k to h = absurd (false≢true (sym h))
  direct_by Save false k to h = absurd (false≢true (sym h))
  direct_by Save true k to h = absurd (false≢true (sym h))
  direct_by EntrySave far k to h = absurd (false≢true (sym h))
  direct_by EntryBare far k to h = absurd (false≢true (sym h))
  direct_by EntryN far k to h = absurd (false≢true (sym h))

  pub reached_by : AreCalls t sites →
      IsClosed t sites span F →
      i < length sites →
      is_out t sites F span i ≡ false →
      call_reaches t sites F span i ≡ true
  reached_by calls closed lt out =
      let k = slice_index t.numbers i in
      let to = point_in t (key_at t k).section (key_at t k).offset in
      elim (known (has_stub t sites F i)) [
        | inl has ↦ not_out (has_stub t sites F i) (call_reaches t sites F span i) has out
        | inr direct ↦
            let near = direct_by (key_at t k).class (F k) k to direct in
            let all = sym near.1 ∙ closed k (calls.numbered i lt) near.0 in
            ap (λ (b : Bool). reaches span (call_address t sites F i)
            (if b then stub_address t F k else address t F to)) direct
            ∙ calls_give t sites span F k to (length sites) i lt refl all
      ]
