-- A blank is cut off, and what ends with no blank stays.
use Rattle.std.proofs.Common.{◌≡◌, ℕ, ◌-◌, ◌<◌, suc, length, take, sym, ap, ◌∙◌, arith}
use Rattle.ppc_archive.specs.Archive.{trimmed}
use Rattle.ppc_archive.proofs.FieldText.{trimmed_step, trimmed_end}
use Rattle.ppc_archive.proofs.fields.trimmed.Goals as goal

pub returns-then-not-is_blank-clause-text : goal.returns-then-not-is_blank-clause-text
returns-then-not-is_blank-clause-text c =
    let bytes = c.args.bytes.now in
    let inside = c.loop-end.invariant.within in
    let within : c.loop-end.end - 1 < length bytes = omega (arith, inside) in
    let last : suc (c.loop-end.end - 1) ≡ c.loop-end.end = omega arith in
    ap (λ (n : ℕ). take n bytes) (sym last)
    ∙ trimmed_end bytes (c.loop-end.end - 1) _ within (sym c.is_blank.ensures ∙ c.if-not-is_blank.true)
    ∙ ap (λ (n : ℕ). trimmed (take n bytes)) last ∙ c.loop-end.invariant.same

pub loop-end-preserved : goal.loop-end-preserved
loop-end-preserved c =
    let bytes = c.args.bytes.now in
    let inside = c.loop-end.invariant.within in
    let within : c.loop-end.end - 1 < length bytes = omega (arith, inside) in
    let last : suc (c.loop-end.end - 1) ≡ c.loop-end.end = omega arith in
    record {
      within = omega (arith, inside);
      same = trimmed_step bytes (c.loop-end.end - 1) _ within (sym c.is_blank.ensures ∙ c.if-not-is_blank.false)
          ∙ ap (λ (n : ℕ). trimmed (take n bytes)) last ∙ c.loop-end.invariant.same;
    }
