-- align_up-requires: the unit is a power of two of at most 64 KiB. returns: the least multiple is the quotient's.
use Rattle.std.proofs.Common.{ℕ, ◌≡◌, ◌<◌, sym, subst, arith}
use Rattle.ppc_bytes.specs.Bytes.{IsPowerOfTwo}
use Rattle.layout_rounds.specs.Shapes.{aligned}
use Rattle.layout_rounds.proofs.Aligned.{aligned_is}
use Rattle.layout_rounds.proofs.Bounds.{unit_power_of_two, unit_small, unit_some}
use Rattle.layout_rounds.proofs.keys.Keyed.padded.Goals as goal

pub align_up-requires-clause-power : goal.align_up-requires-clause-power
align_up-requires-clause-power c =
    subst IsPowerOfTwo (sym c.self.invariant.unit_is) (unit_power_of_two _ c.self.invariant.keyed)

pub align_up-requires-clause-limit : goal.align_up-requires-clause-limit
align_up-requires-clause-limit c = omega (arith, c.self.invariant.unit_is, unit_small _ c.self.invariant.keyed)

pub returns : goal.returns
returns c =
    let some : 0 < c.self.inside.unit = omega (arith, c.self.invariant.unit_is, unit_some _ c.self.invariant.keyed) in
    rw (← c.self.view_is) (subst (λ (a : ℕ). c.align_up.result ≡ aligned c.args.n a) c.self.invariant.unit_is
    (aligned_is c.args.n c.self.inside.unit c.align_up.result some c.align_up.ensures))
