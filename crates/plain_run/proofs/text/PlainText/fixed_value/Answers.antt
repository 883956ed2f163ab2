-- source-requires: the symbol goes somewhere. base_of-requires: each file has a base. returns: the value is made of these numbers.
use Rattle.std.proofs.Common.{◌≡◌, ◌<◌, ◌^◌, [], ℕ, arith, rules, ap, subst, sym, ◌∙◌, to_z, of_z, w64}
use Rattle.std.specs.Prelude.{IsSome, pos}
use Rattle.std.specs.Int.{w128}
use Rattle.std.proofs.lemmas.Int.{ints}
use Rattle.ppc_bytes.specs.Bytes.{InSigned}
use Rattle.reloc_fields.specs.Table.{line_of}
use Rattle.symbol_table.specs.Targets.{target_of}
use Rattle.toc_groups.specs.Values.{record_value, symbol_address}
use Rattle.toc_groups.proofs.Reading.{bases_long, base_is}
use Rattle.toc_groups.proofs.RecordValues.{record_goes, value_made}
use Rattle.plain_run.specs.Jobs.{PlainJob}
use Rattle.plain_run.specs.inside.Text.{IsFieldAt}
use Rattle.plain_run.proofs.FieldValues.{field_offset, source_symbol, value_near}
use Rattle.plain_run.proofs.text.PlainText.fixed_value.Goals as goal

pub source-source-requires-clause-stands : goal.source-source-requires-clause-stands
source-source-requires-clause-stands c =
    let files = c.self.inside.res.now.files in
    let id = c.args.id in
    let field = subst (λ (j : PlainJob). IsFieldAt j.files c.args.p id c.args.kind) (sym c.self.view_is) c.requires.field in
    subst (λ (j : PlainJob). IsSome (target_of j.files id.file c.record_of-rela.result.symbol (pos 0))) c.self.view_is
    (subst (λ (s : ℕ). IsSome (target_of files id.file s (pos 0))) (sym c.record_of-rela.ensures.symbol)
    (record_goes files id c.args.kind c.self.invariant.job_is.records field.there field.kind_is field.fills c.requires.symbol))

pub base_of-base-requires : goal.base_of-base-requires
base_of-base-requires c =
    let files = c.self.inside.res.now.files in
    let plan = c.self.inside.plan.now in
    let field = subst (λ (j : PlainJob). IsFieldAt j.files c.args.p c.args.id c.args.kind) (sym c.self.view_is) c.requires.field in
    omega (arith, field.there.file_in, bases_long files plan.span plan c.self.invariant.job_is.plan_is)

pub returns-clause-value : goal.returns-clause-value
returns-clause-value c =
    let files = c.self.inside.res.now.files in
    let plan = c.self.inside.plan.now in
    let id = c.args.id in
    let kind = c.args.kind in
    let field = subst (λ (j : PlainJob). IsFieldAt j.files c.args.p id kind) (sym c.self.view_is) c.requires.field in
    let symbol = c.record_of-rela.result.symbol in
    let source =
    c.source-source.ensures ∙ ap (λ (j : PlainJob). symbol_address j.files j.plan.span [] id.file symbol) (sym c.self.view_is) in
    let addend = c.record_of-rela.result.addend in
    let same : to_z w64 (of_z w64 addend) ≡ addend = omega (arith, ints, c.record_of-rela.type_inv) in
    let kept : to_z w128 (of_z w128 c.value_of.result) ≡ c.value_of.result = omega (arith, ints, c.value_of.type_inv) in
    let low : c.args.p.offset < 2 ^ 64 = search rules in
    kept ∙ value_made files plan.span [] id kind c.value_of.result (to_z w64 (of_z w64 addend)) c.source-source.result c.args.p.offset
    c.base_of-base.result plan.bases c.value_of.ensures
    (source_symbol files plan.span id kind c.record_of-rela.result.symbol c.source-source.result c.requires.no_slot c.requires.symbol
    c.record_of-rela.ensures.symbol source)
    (same ∙ c.record_of-rela.ensures.addend)
    (field_offset files plan.span c.args.p id kind c.self.invariant.job_is.whole field low)
    c.base_of-base.ensures (base_is files plan.span plan c.self.invariant.job_is.plan_is id.file field.there.file_in)
    ∙ ap (λ (j : PlainJob). record_value j.files j.plan.span [] id kind) c.self.view_is

pub returns-clause-near : goal.returns-clause-near
returns-clause-near c =
    let addend = c.record_of-rela.result.addend in
    let same : to_z w64 (of_z w64 addend) ≡ addend = omega (arith, ints, c.record_of-rela.type_inv) in
    let kept : to_z w128 (of_z w128 c.value_of.result) ≡ c.value_of.result = omega (arith, ints, c.value_of.type_inv) in
    let low : c.args.p.offset < 2 ^ 64 = search rules in
    subst (InSigned 68) (sym (kept ∙ c.value_of.ensures))
    (value_near (line_of c.args.kind).formula c.source-source.result (to_z w64 (of_z w64 addend)) c.args.p.offset c.base_of-base.result
    (search rules)
    (record {
      low = omega (arith, ints, same, c.record_of-rela.type_inv);
      high = omega (arith, ints, same, c.record_of-rela.type_inv);
    })
    low (search rules))
