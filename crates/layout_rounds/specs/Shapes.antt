-- The text of a link: its sections, stub groups and call keys. None of it depends on which keys are far.
use Rattle.std.specs.Prelude.{◌≡◌, ◌⊎◌, ℕ, zero, suc, ◌+◌, ◌-◌, ◌*◌, ◌/◌, ◌%◌, ◌^◌, ◌<◌, ◌≤◌, List, [], ◌∷◌, ◌++◌, length, map, Bool, true}
use Rattle.std.specs.Prelude.{false, ◌&&◌, ◌==◌, nat_le, max, if◌then◌else◌}
use Rattle.std.specs.List.{slice_index_or, list_any, position_or_len, range_with_len}
use Rattle.ppc_bytes.specs.Bytes.{IsPowerOfTwo}
use Rattle.stub_kinds.specs.declared.class.Class.{Class}
use Rattle.stub_kinds.specs.declared.class.Class.TheVariants.{Same, Switch, Save, NearN, EntrySave, EntryBare, EntryN}
use Rattle.stub_kinds.specs.declared.class.Key.{Key}
use Rattle.layout_rounds.specs.declared.shape.Shape.{Shape}
use Rattle.layout_rounds.specs.declared.shape.ShapeSection.{ShapeSection}
use Rattle.layout_rounds.specs.declared.shape.ShapeSite.{ShapeSite}
use Rattle.layout_rounds.specs.declared.grouping.Spot.{Spot}

-- the least multiple of an alignment from n on
abbrev pub aligned : ℕ → ℕ → ℕ
aligned n a = (n + (a - 1)) / a * a

-- what stands past the last section, and past the last call
abbrev pub no_section : ShapeSection
no_section = record { size = 0; align = 4; toc = 0 }

abbrev pub section_of : List ShapeSection → ℕ → ShapeSection
section_of sections s = slice_index_or sections s no_section

abbrev pub no_site : ShapeSite
no_site = record { section = 0; offset = 0; class = Same; to_section = 0; to_offset = 0 }

abbrev pub site_of : List ShapeSite → ℕ → ShapeSite
site_of sites i = slice_index_or sites i no_site

-- A section joins the stub group of the section before it where both are of one TOC group and it ends at most so far past the
-- group's start; it stands there at its alignment. Else it begins the next group.
abbrev pub next_spot : ℕ → Spot → ShapeSection → ShapeSection → Spot
next_spot reach last before section =
    let at = aligned (last.offset + before.size) section.align in
    if (before.toc == section.toc) && nat_le (at + section.size) reach
    then record { group = last.group; offset = at }
    else record { group = last.group + 1; offset = 0 }

-- the stub group of section s, and how far the section is past the group's start
abbrev pub spot_at : List ShapeSection → ℕ → ℕ → Spot
spot_at sections reach zero = record { group = 0; offset = 0 }
spot_at sections reach (suc s) =
    next_spot reach (spot_at sections reach s) (section_of sections s) (section_of sections (suc s))

-- those of all sections
abbrev pub spots_of : List ShapeSection → ℕ → List Spot
spots_of sections reach = map (spot_at sections reach) (range_with_len 0 (length sections))

abbrev pub no_spot : Spot
no_spot = record { group = 0; offset = 0 }

abbrev pub spot_of : List Spot → ℕ → Spot
spot_of spots s = slice_index_or spots s no_spot

-- two classes are the same
abbrev pub same_class : Class → Class → Bool
same_class Same Same = true
same_class Switch Switch = true
same_class Save Save = true
same_class NearN NearN = true
same_class EntrySave EntrySave = true
same_class EntryBare EntryBare = true
same_class EntryN EntryN = true
same_class a b = false

abbrev pub same_key : Key → Key → Bool
same_key a b = (a.group == b.group) && same_class a.class b.class && (a.section == b.section) && (a.offset == b.offset)

-- the alignment of stub groups and stub areas: the largest of the first n sections, and at least 64
abbrev pub unit_upto : List ShapeSection → ℕ → ℕ
unit_upto sections zero = 64
unit_upto sections (suc n) = max (unit_upto sections n) (section_of sections n).align

-- the key of a call: its stub group, its class and its place
abbrev pub key_of : List Spot → ShapeSite → Key
key_of spots site = record {
  group = (spot_of spots site.section).group;
  class = site.class;
  section = site.to_section;
  offset = site.to_offset;
}

-- keys and one more, where it is new
abbrev pub with_key : List Key → Key → List Key
with_key keys key = if list_any (same_key key) keys then keys else keys ++ key ∷ []

-- the keys of the first n calls, in order of their first calls
abbrev pub keys_upto : List Spot → List ShapeSite → ℕ → List Key
keys_upto spots sites zero = []
keys_upto spots sites (suc n) = with_key (keys_upto spots sites n) (key_of spots (site_of sites n))

abbrev pub keys_of : List Spot → List ShapeSite → List Key
keys_of spots sites = keys_upto spots sites (length sites)

-- the number of a call's key
abbrev pub number_of : List Spot → List Key → ShapeSite → ℕ
number_of spots keys site = position_or_len (same_key (key_of spots site)) keys

-- those of all calls
abbrev pub numbers_of : List Spot → List Key → List ShapeSite → List ℕ
numbers_of spots keys sites = map (number_of spots keys) sites

-- a text in stub groups with its keys: where it starts, how long a group may be, its sections and where they stand, its keys,
-- and the number of each call's key
pub record KeyedText : Type 0 where
  pub start : ℕ
  pub reach : ℕ
  pub sections : List ShapeSection
  pub spots : List Spot
  pub keys : List Key
  pub numbers : List ℕ

abbrev pub keyed_parts : ℕ → ℕ → List ShapeSection → List Spot → List Key → List ℕ → KeyedText
keyed_parts start reach sections spots keys numbers = record {
  start = start;
  reach = reach;
  sections = sections;
  spots = spots;
  keys = keys;
  numbers = numbers;
}

-- the text of a shape with a branch span: a group is at most half of the span long, where its first section isn't longer
abbrev pub keyed_text : Shape → ℕ → KeyedText
keyed_text shape span =
    let sections = shape.sections.items in
    let sites = shape.sites.items in
    let spots = spots_of sections (span / 2) in
    let keys = keys_of spots sites in
    keyed_parts shape.start (span / 2) sections spots keys (numbers_of spots keys sites)

-- a section that a shape may have
pub record IsSoundSection (section : ShapeSection) : Type 0 where
  pub size : section.size < 2 ^ 32
  pub whole : section.size % 4 ≡ 0
  pub power : IsPowerOfTwo section.align
  pub least : 4 ≤ section.align
  pub most : section.align ≤ 0x10000

-- sections that a shape may have
pub record AreSound (sections : List ShapeSection) : Type 0 where
  pub few : length sections < 2 ^ 28
  pub each : (s : ℕ) → s < length sections → IsSoundSection (section_of sections s)

-- an instruction's place in one of the sections
pub record IsInText (sections : List ShapeSection) (section offset : ℕ) : Type 0 where
  pub section_in : section < length sections
  pub within : offset < (section_of sections section).size
  pub whole : offset % 4 ≡ 0

-- one call stands no later than another
abbrev pub IsNotAfter : ShapeSite → ShapeSite → Type 0
IsNotAfter a b = (a.section < b.section) ⊎ ((a.section ≡ b.section) × (a.offset ≤ b.offset))

-- a shape of which a text can be laid out
pub record IsSound (shape : Shape) : Type 0 where
  pub start_whole : shape.start % 0x10000 ≡ 0
  pub start_low : shape.start < 0x60000000
  pub sections : AreSound shape.sections.items
  pub few_sites : length shape.sites.items < 2 ^ 32
  pub from : (i : ℕ) → i < length shape.sites.items →
      IsInText shape.sections.items (site_of shape.sites.items i).section (site_of shape.sites.items i).offset
  pub to : (i : ℕ) → i < length shape.sites.items →
      IsInText shape.sections.items (site_of shape.sites.items i).to_section (site_of shape.sites.items i).to_offset
  pub ordered : (i : ℕ) → i + 1 < length shape.sites.items →
      IsNotAfter (site_of shape.sites.items i) (site_of shape.sites.items (i + 1))

-- a branch span that may be asked for
pub record IsSpan (span : ℕ) : Type 0 where
  pub whole : span % 4 ≡ 0
  pub least : 0x100 ≤ span
  pub most : span ≤ 0x2000000

-- a key of a text: its stub group is there, and its place is an instruction's
pub record IsKeyIn (sections : List ShapeSection) (spots : List Spot) (key : Key) : Type 0 where
  pub group_in : (s : ℕ) × (s < length sections) × (key.group ≡ (spot_of spots s).group)
  pub place : IsInText sections key.section key.offset
