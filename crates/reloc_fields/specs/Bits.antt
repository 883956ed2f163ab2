-- Numbers by their bits. Bit 0 is the lowest.
use Rattle.std.specs.Prelude.{◌≡◌, ℕ, ◌<◌, ◌==◌, if◌then◌else◌}
use Rattle.std.specs.Int.{bit_at}

-- new has the bits of field where mask has a one, and elsewhere the bits of old
abbrev pub Fills : ℕ → ℕ → ℕ → ℕ → Type 0
Fills mask old field new = (i : ℕ) → i < 64 →
    bit_at new i ≡ (if bit_at mask i == 1 then bit_at field i else bit_at old i)
