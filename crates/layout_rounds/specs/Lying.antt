-- Where parts of a text lie: in the text, apart from one another, and each at its alignment.
use Rattle.std.specs.Prelude.{◌≡◌, ◌⊎◌, ℕ, ◌+◌, ◌≤◌, ◌%◌, Bool}
use Rattle.layout_rounds.specs.Shapes.{KeyedText}
use Rattle.layout_rounds.specs.Layout.{text_end}

-- so many bytes from an address on lie in the text of F, and begin at a multiple of an alignment
pub record IsInLayout (t : KeyedText) (F : ℕ → Bool) (at size align : ℕ) : Type 0 where
  pub from : t.start ≤ at
  pub to : at + size ≤ text_end t F
  pub whole : at % align ≡ 0

-- so many bytes from an address on and so many from another have no address in common
abbrev pub AreApart : ℕ → ℕ → ℕ → ℕ → Type 0
AreApart at size other other_size = (at + size ≤ other) ⊎ (other + other_size ≤ at)
