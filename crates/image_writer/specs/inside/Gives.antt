-- What the layout of a job gives.
use Rattle.std.specs.Prelude.{ℕ, pos, ◌≡◌, ◌<◌, ◌≤◌, ◌+◌, ◌%◌, ◌-ℤ◌, Bool, true, List, length, slice_index}
use Rattle.ppc_bytes.specs.Bytes.{InSigned}
use Rattle.stub_kinds.specs.Stubs.{BranchReaches}
use Rattle.layout_rounds.specs.declared.shape.ShapeSite.{ShapeSite}
use Rattle.layout_rounds.specs.Layout.{IsKeyed, address, key_at, key_count, point_in, section_address, section_count, section_size, stub_address, stub_size}
use Rattle.layout_rounds.specs.Lying.{AreApart, IsInLayout}
use Rattle.layout_rounds.specs.Reach.{reaches}
use Rattle.layout_rounds.specs.Shapes.{KeyedText, section_of}

-- what the layout gives: its text is keyed, sections and stubs lie in the text, apart from one another, and branches reach
pub record LayoutGives (t : KeyedText) (sites : List ShapeSite) (span : ℕ) (F : ℕ → Bool) : Type 0 where
  pub keyed : IsKeyed t
  pub count : length t.numbers ≡ length sites
  pub numbered : (i : ℕ) → i < length sites → slice_index t.numbers i < key_count t
  pub sections : (s : ℕ) → s < section_count t →
      IsInLayout t F (section_address t F s) (section_size t s) (section_of t.sections s).align
  pub instructions : (s : ℕ) → s < section_count t → section_address t F s % 4 ≡ 0
  pub stubs : (k : ℕ) → k < key_count t → 0 < stub_size t F k → IsInLayout t F (stub_address t F k) (stub_size t F k) 16
  pub calls : (at to : ℕ) → reaches span at to ≡ true → InSigned 26 (pos to -ℤ pos at)
  pub branches : (k : ℕ) → k < key_count t → BranchReaches (key_at t k).class (F k) (stub_address t F k)
      (address t F (point_in t (key_at t k).section (key_at t k).offset))
  pub sections_apart : (s r : ℕ) → s < r → r < section_count t → section_address t F s + section_size t s ≤ section_address t F r
  pub stubs_beside : (s k : ℕ) → s < section_count t → k < key_count t →
      AreApart (section_address t F s) (section_size t s) (stub_address t F k) (stub_size t F k)
  pub stubs_apart : (j k : ℕ) → j < k → k < key_count t →
      AreApart (stub_address t F j) (stub_size t F j) (stub_address t F k) (stub_size t F k)
