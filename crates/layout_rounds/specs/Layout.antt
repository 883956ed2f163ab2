-- The layout of a set of far keys.
use Rattle.std.specs.Prelude.{◌≡◌, ◌^◌, ℕ, zero, suc, ◌+◌, ◌<◌, ◌≤◌, List, length, Bool, ◌==◌, nat_lt, max, if◌then◌else◌, slice_index, ◌%◌}
use Rattle.std.specs.List.{slice_index_or}
use Rattle.stub_kinds.specs.declared.class.Class.TheVariants.{Same}
use Rattle.stub_kinds.specs.declared.class.Key.{Key}
use Rattle.stub_kinds.specs.Stubs.{size_of}
use Rattle.layout_rounds.specs.Shapes.{KeyedText, aligned, section_of, spot_of, unit_upto, spots_of, AreSound, IsKeyIn}

-- a place of text: how many bytes past the start of a stub group
pub record Point : Type 0 where
  pub group : ℕ
  pub offset : ℕ

module _ (t : KeyedText) where
  abbrev pub section_count : ℕ
  section_count = length t.sections

  abbrev pub key_count : ℕ
  key_count = length t.keys

  abbrev pub no_key : Key
  no_key = record { group = 0; class = Same; section = 0; offset = 0 }

  abbrev pub key_at : ℕ → Key
  key_at k = slice_index_or t.keys k no_key

  abbrev pub section_size : ℕ → ℕ
  section_size s = (section_of t.sections s).size

  abbrev pub group_at : ℕ → ℕ
  group_at s = (spot_of t.spots s).group

  abbrev pub offset_at : ℕ → ℕ
  offset_at s = (spot_of t.spots s).offset

  -- the alignment of stub groups and stub areas
  abbrev pub unit : ℕ
  unit = unit_upto t.sections section_count

  abbrev pub padded : ℕ → ℕ
  padded n = aligned n unit

  -- how many bytes the first n sections take that stand in group g: the greatest end of one of them
  abbrev pub size_upto : ℕ → ℕ → ℕ
  size_upto g zero = 0
  size_upto g (suc n) = max (size_upto g n) (if group_at n == g then offset_at n + section_size n else 0)

  abbrev pub group_size : ℕ → ℕ
  group_size g = size_upto g section_count

  -- how many groups the first n sections make
  abbrev pub groups_upto : ℕ → ℕ
  groups_upto zero = 0
  groups_upto (suc n) = group_at n + 1

  abbrev pub group_count : ℕ
  group_count = groups_upto section_count

module _ (t : KeyedText) where
  -- an offset of a section
  abbrev pub point_in : ℕ → ℕ → Point
  point_in s offset = record { group = group_at t s; offset = offset_at t s + offset }

  -- the start of a group's stub area
  abbrev pub area_start : ℕ → Point
  area_start g = record { group = g; offset = padded t (group_size t g) }

-- its padded end, where the next group starts
abbrev pub area_end : ℕ → Point
area_end g = record { group = suc g; offset = 0 }

module _ (t : KeyedText) (F : ℕ → Bool) where
  -- how many bytes the stub of key k has
  abbrev pub stub_size : ℕ → ℕ
  stub_size k = size_of (key_at t k).class (F k)

  -- how many bytes the stubs of the first n keys have in the area of group g
  abbrev pub stub_bytes : ℕ → ℕ → ℕ
  stub_bytes g zero = 0
  stub_bytes g (suc n) = stub_bytes g n + (if (key_at t n).group == g then stub_size n else 0)

  -- the padded size of that area
  abbrev pub area : ℕ → ℕ
  area g = padded t (stub_bytes g (key_count t))

  -- where group g starts: behind the sections and the stub area of the group before
  abbrev pub group_start : ℕ → ℕ
  group_start zero = t.start
  group_start (suc g) = group_start g + padded t (group_size t g) + area g

  abbrev pub address : Point → ℕ
  address p = group_start p.group + p.offset

  -- the address of section s
  abbrev pub section_address : ℕ → ℕ
  section_address s = address (point_in t s 0)

  -- the address of the stub of key k: stubs stand one behind the other, in the order of their keys
  abbrev pub stub_address : ℕ → ℕ
  stub_address k = address (area_start t (key_at t k).group) + stub_bytes (key_at t k).group k

  -- the greatest end of one of the first n sections, and of one of the first n stubs that aren't empty
  abbrev pub sections_end : ℕ → ℕ
  sections_end zero = t.start
  sections_end (suc n) = max (sections_end n) (section_address n + section_size t n)

  abbrev pub stubs_end : ℕ → ℕ
  stubs_end zero = t.start
  stubs_end (suc n) = max (stubs_end n) (if nat_lt 0 (stub_size n) then stub_address n + stub_size n else 0)

  -- the end of text
  abbrev pub text_end : ℕ
  text_end = max (sections_end (section_count t)) (stubs_end (key_count t))

-- what a text keeps that was made of a sound shape
pub record IsKeyed (t : KeyedText) : Type 0 where
  pub start_whole : t.start % 0x10000 ≡ 0
  pub start_low : t.start < 0x60000000
  pub sections : AreSound t.sections
  pub spots : t.spots ≡ spots_of t.sections t.reach
  pub few_keys : length t.keys < 2 ^ 32
  pub keys : (k : ℕ) → k < key_count t → IsKeyIn t.sections t.spots (key_at t k)

-- the addresses of groups, stub areas, sections and stubs, and the end of text
pub record PlacedText : Type 0 where
  pub starts : List ℕ
  pub areas : List ℕ
  pub sections : List ℕ
  pub stubs : List ℕ
  pub end : ℕ

-- these are the places of a text in the layout of F
pub record IsLayout (t : KeyedText) (F : ℕ → Bool) (p : PlacedText) : Type 0 where
  pub start_count : length p.starts ≡ group_count t + 1
  pub starts : (g : ℕ) → g ≤ group_count t → slice_index p.starts g ≡ group_start t F g
  pub area_count : length p.areas ≡ group_count t
  pub areas : (g : ℕ) → g < group_count t → slice_index p.areas g ≡ address t F (area_start t g)
  pub section_count_is : length p.sections ≡ section_count t
  pub sections : (s : ℕ) → s < section_count t → slice_index p.sections s ≡ section_address t F s
  pub stub_count : length p.stubs ≡ key_count t
  pub stubs : (k : ℕ) → k < key_count t → slice_index p.stubs k ≡ stub_address t F k
  pub end_is : p.end ≡ text_end t F
