-- What is laid out, list by list.
use Rattle.std.specs.Prelude.{◌≡◌, ℕ, ◌+◌, ◌<◌, List, length, Bool, slice_index}
use Rattle.layout_rounds.specs.Shapes.{KeyedText}
use Rattle.layout_rounds.specs.Layout.{group_count, key_at, size_upto, stub_bytes, group_start, address, area_start, section_address}
use Rattle.layout_rounds.specs.Layout.{stub_address}

-- these are the first n values of f
pub record AreFirst (f : ℕ → ℕ) (n : ℕ) (xs : List ℕ) : Type 0 where
  pub count : length xs ≡ n
  pub each : (i : ℕ) → i < n → slice_index xs i ≡ f i

-- how many bytes the first n sections take in each group
abbrev pub AreSizes : KeyedText → ℕ → List ℕ → Type 0
AreSizes t n sizes = AreFirst (λ g. size_upto t g n) (group_count t) sizes

module _ (t : KeyedText) (F : ℕ → Bool) where
  -- how many bytes the stubs of the first n keys have in each area
  abbrev pub AreBytes : ℕ → List ℕ → Type 0
  AreBytes n bytes = AreFirst (λ g. stub_bytes t F g n) (group_count t) bytes

  -- where the stubs of the first n keys begin in their areas
  abbrev pub AreOffsets : ℕ → List ℕ → Type 0
  AreOffsets n offsets = AreFirst (λ k. stub_bytes t F (key_at t k).group k) n offsets

  -- where the stub areas of the first n groups start
  abbrev pub AreAreaStarts : ℕ → List ℕ → Type 0
  AreAreaStarts n areas = AreFirst (λ g. address t F (area_start t g)) n areas

  -- where the first n groups start
  abbrev pub AreGroupStarts : ℕ → List ℕ → Type 0
  AreGroupStarts n starts = AreFirst (group_start t F) n starts

  -- the addresses of the first n sections
  abbrev pub AreSections : ℕ → List ℕ → Type 0
  AreSections n sections = AreFirst (section_address t F) n sections

  -- the addresses of the stubs of the first n keys
  abbrev pub AreStubs : ℕ → List ℕ → Type 0
  AreStubs n stubs = AreFirst (stub_address t F) n stubs

-- the stubs of the first n keys: where they begin in their areas, and how many bytes they have in each
pub record AreAreas (t : KeyedText) (F : ℕ → Bool) (n : ℕ) (offsets bytes : List ℕ) : Type 0 where
  pub offsets_are : AreOffsets t F n offsets
  pub bytes_are : AreBytes t F n bytes

-- where groups and their stub areas start, and where the last group ends
pub record AreStarts (t : KeyedText) (F : ℕ → Bool) (starts areas : List ℕ) : Type 0 where
  pub starts_are : AreGroupStarts t F (group_count t + 1) starts
  pub areas_are : AreAreaStarts t F (group_count t) areas
