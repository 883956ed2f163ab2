-- Words while they are looked at one by one.
use Rattle.std.specs.Prelude.{◌<◌, ◌+◌, ◌*◌, ℕ, List}
use Rattle.ppc_bytes.specs.Bytes.{number_at}
use Rattle.pcrel_rewrite.specs.declared.words.Uses.{Uses}
use Rattle.pcrel_rewrite.specs.Words.{IsPassed}

-- an access may be made before so many words from a place on
abbrev pub ArePassed : List ℕ → ℕ → ℕ → Uses → Type 0
ArePassed bytes from count uses = (k : ℕ) → k < count → IsPassed uses (number_at 4 bytes (from + 4 * k))
