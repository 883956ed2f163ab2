-- Names, and the keys that refer to them.
use Rattle.std.specs.Prelude.{ℕ, List, map}
use Rattle.std.specs.Borrow.{Bor}

-- the names to which keys refer
abbrev pub named : List (Bor (List ℕ)) → List (List ℕ)
named keys = map (λ k. k.now) keys
