-- What is counted in a layout.
use Rattle.std.specs.Prelude.{ℕ, Bool}
use Rattle.std.specs.List.{range_with_len, sum_by}
use Rattle.layout_rounds.specs.Shapes.{KeyedText}
use Rattle.layout_rounds.specs.Layout.{stub_size}

-- the bytes of the stubs of the first n keys, without padding
abbrev pub stubs_size : KeyedText → (ℕ → Bool) → ℕ → ℕ
stubs_size t F n = sum_by (stub_size t F) (range_with_len 0 n)
