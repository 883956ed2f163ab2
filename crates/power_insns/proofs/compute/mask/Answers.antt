-- The powers of two of a mask: which is larger, and that they fit.
use Rattle.std.proofs.Common.{◌-◌, ◌≤◌, ◌^◌, arith}
use Rattle.std.proofs.lemmas.Nat.{pow_below, pow_pos}
use Rattle.std.proofs.Math.Pow.{pow_mono}
use Rattle.power_insns.proofs.compute.mask.Goals as goal

pub overflow_sub-result : goal.overflow_sub-result
overflow_sub-result c =
    let order = pow_below (63 - c.args.last) (64 - c.args.first) (omega arith) in
    let fits = pow_below (64 - c.args.first) 128 (omega arith) in
    omega (arith, order, fits)

pub overflow_cast-result : goal.overflow_cast-result
overflow_cast-result c =
    let first = pow_below (64 - c.args.first) 65 (omega arith) in
    let last = pow_below (63 - c.args.last) 64 (omega arith) in
    let most : 2 ^ (64 - c.args.first) ≤ 2 ^ 64 = pow_mono {i = 64 - c.args.first} {j = 64} (omega arith) in
    omega (arith, first, last, most, pow_pos (63 - c.args.last))

pub overflow_sub-result-else-first-last : goal.overflow_sub-result-else-first-last
overflow_sub-result-else-first-last c =
    let order : 2 ^ (64 - c.args.first) ≤ 2 ^ (63 - c.args.last) = pow_mono (omega arith) in
    let fits = pow_below (63 - c.args.last) 128 (omega arith) in
    omega (arith, order, fits)
