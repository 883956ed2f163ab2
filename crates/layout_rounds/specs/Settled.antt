-- The layout of the far set of a shape, and why a shape is refused (stubs and the reach of calls: ELFv2 ABI, "Function Call").
use Rattle.std.specs.Prelude.{◌≡◌, ℕ, ◌+◌, ◌<◌, ◌≤◌, List, length, Bool, true, ◌&&◌, not, nat_lt, if◌then◌else◌}
use Rattle.std.specs.Prelude.{Option, Some, None, slice_index}
use Rattle.std.specs.List.{find, range_with_len}
use Rattle.ppc_bytes.specs.declared.constants.TheConstants.{TEXT_LIMIT}
use Rattle.layout_rounds.specs.declared.shape.Shape.{Shape}
use Rattle.layout_rounds.specs.declared.shape.ShapeSite.{ShapeSite}
use Rattle.layout_rounds.specs.declared.settling.LayoutFault.{LayoutFault}
use Rattle.layout_rounds.specs.declared.settling.LayoutFault.TheVariants.{TextTooBig, StubReach, Memory}
use Rattle.layout_rounds.specs.FarSets.{member}
use Rattle.layout_rounds.specs.Shapes.{KeyedText, keyed_text, site_of}
use Rattle.layout_rounds.specs.Layout.{PlacedText, key_count, key_at, point_in, stub_size, address, stub_address, text_end, IsLayout}
use Rattle.layout_rounds.specs.Reach.{reaches, IsFarSet}

module _ (t : KeyedText) (sites : List ShapeSite) (F : ℕ → Bool) where
  -- the address of call i
  abbrev pub call_address : ℕ → ℕ
  call_address i = let site = site_of sites i in address t F (point_in t site.section site.offset)

  -- the key of call i has a stub that isn't empty: then the call branches to that stub, else to the key's place itself
  abbrev pub has_stub : ℕ → Bool
  has_stub i = nat_lt 0 (stub_size t F (slice_index t.numbers i))

  -- the address to which call i branches
  abbrev pub branch_target : ℕ → ℕ
  branch_target i =
      let k = slice_index t.numbers i in
      let key = key_at t k in
      if has_stub i then stub_address t F k else address t F (point_in t key.section key.offset)

  -- the branch of call i reaches that address
  abbrev pub call_reaches : ℕ → ℕ → Bool
  call_reaches span i = reaches span (call_address i) (branch_target i)

  -- call i branches to a stub, and doesn't reach it
  abbrev pub is_out : ℕ → ℕ → Bool
  is_out span i = has_stub i && not (call_reaches span i)

-- the first call of a shape that doesn't reach its stub in the layout of F
abbrev pub stub_reach : Shape → ℕ → (ℕ → Bool) → Option ℕ
stub_reach shape span F =
    let sites = shape.sites.items in
    find (is_out (keyed_text shape span) sites F span) (range_with_len 0 (length sites))

-- the keyed text of a shape, its far set, and the layout of that set
pub record IsFarLayout (shape : Shape) (span : ℕ) (keyed : KeyedText) (far : List Bool) (places : PlacedText) :
    Type 0 where
  pub keyed_is : keyed ≡ keyed_text shape span
  pub far_count : length far ≡ key_count keyed
  pub far_is : IsFarSet shape span (member far)
  pub places_are : IsLayout keyed (member far) places

-- in the layout of F the text is within its limit, and each call reaches what it branches to
pub record IsAccepted (shape : Shape) (span : ℕ) (F : ℕ → Bool) : Type 0 where
  pub within : text_end (keyed_text shape span) F ≤ shape.start + TEXT_LIMIT
  pub none_out : stub_reach shape span F ≡ None
  pub reached : (i : ℕ) → i < length shape.sites.items →
      call_reaches (keyed_text shape span) shape.sites.items F span i ≡ true

-- the text is within its limit, and this is the first call that doesn't reach its stub
pub record IsOut (shape : Shape) (span : ℕ) (F : ℕ → Bool) (i : ℕ) : Type 0 where
  pub within : text_end (keyed_text shape span) F ≤ shape.start + TEXT_LIMIT
  pub first : stub_reach shape span F ≡ Some i

-- why a shape is refused in the layout of F
abbrev pub IsRefusedBy : Shape → ℕ → (ℕ → Bool) → LayoutFault → Type 0
IsRefusedBy shape span F TextTooBig = shape.start + TEXT_LIMIT < text_end (keyed_text shape span) F
IsRefusedBy shape span F (StubReach i) = IsOut shape span F i
IsRefusedBy shape span F Memory = Unit {0}

-- that is so in the layout of its far set
abbrev pub IsRefused : Shape → ℕ → LayoutFault → Type 0
IsRefused shape span fault = (F : ℕ → Bool) → IsFarSet shape span F → IsRefusedBy shape span F fault
