-- The fields of both words tell the instruction.
use Rattle.std.proofs.Common.{◌≡◌, Some, sym, ap, ◌∙◌, arith, rules}
use Rattle.std.proofs.lemmas.Int.{ints}
use mir.Val.{to_z, of_z}
use mir.Syntax.{w64}
use Rattle.prefixed_insns.specs.declared.instruction.PInsn.{PInsn}
use Rattle.prefixed_insns.specs.Table.{prefix_of, suffix_of, Fits}
use Rattle.prefixed_insns.specs.laws.Pairs.{insn_with, one_pair}
use Rattle.prefixed_insns.proofs.decoding.decode_pair.Goals as goal

pub returns-clause-only : goal.returns-clause-only
returns-clause-only c i fits p s =
    let j : PInsn = insn_with c.in_ok-op.op c.field-rt.result c.field-ra.result c.bit-relative.result c.displacement-disp.result in
    let fits_j : Fits j = search rules in
    let prefix : prefix_of j ≡ c.args.prefix = search rules in
    let suffix : suffix_of j ≡ c.args.suffix = search rules in
    let within = c.displacement-disp.ensures.fits in
    let kept : to_z w64 (of_z w64 c.displacement-disp.result) ≡ c.displacement-disp.result = omega (arith, ints, within) in
    ap (λ d. Some (insn_with c.in_ok-op.op c.field-rt.result c.field-ra.result c.bit-relative.result d)) kept
    ∙ ap (λ x. Some x) (one_pair j i fits_j fits (prefix ∙ sym p) (suffix ∙ sym s))
