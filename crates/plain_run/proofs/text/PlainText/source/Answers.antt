-- address-requires: a symbol goes to a target of the files. returns: its address, or its offset in text.
use Rattle.std.proofs.Common.{◌<◌, ◌^◌, rules, [], length, ap, subst, sym, ◌∙◌}
use Rattle.std.specs.Prelude.{pos}
use Rattle.elf64_records.specs.Symbols.{symbol_count}
use Rattle.object_set.specs.Files.{file_at}
use Rattle.toc_groups.specs.Values.{symbol_address}
use Rattle.toc_groups.proofs.Reading.{laid_target, target_in}
use Rattle.plain_run.specs.Jobs.{PlainJob}
use Rattle.plain_run.proofs.FieldValues.{source_number, source_place}
use Rattle.plain_run.proofs.text.PlainText.source.Goals as goal

pub address-requires : goal.address-requires
address-requires c =
    let files = c.self.inside.res.now.files in
    let plan = c.self.inside.plan.now in
    let file_in = subst (λ (j : PlainJob). c.args.file < length j.files) (sym c.self.view_is) c.requires.file in
    let symbol_in = subst (λ (j : PlainJob). c.args.symbol < symbol_count (file_at j.files c.args.file)) (sym c.self.view_is)
    c.requires.symbol in
    laid_target files plan.span plan c.self.invariant.job_is.plan_is c.target-target.result
    (target_in files c.args.file c.args.symbol (pos 0) c.target-target.result c.self.invariant.job_is.whole file_in symbol_in
    c.target-target.ensures)

pub returns-in-Some-default : goal.returns-in-Some-default
returns-in-Some-default c =
    let files = c.self.inside.res.now.files in
    let plan = c.self.inside.plan.now in
    let file_in = subst (λ (j : PlainJob). c.args.file < length j.files) (sym c.self.view_is) c.requires.file in
    let symbol_in = subst (λ (j : PlainJob). c.args.symbol < symbol_count (file_at j.files c.args.file)) (sym c.self.view_is)
    c.requires.symbol in
    source_number files plan c.self.invariant.job_is.plan_is c.args.file c.args.symbol c.target-target.result
    (target_in files c.args.file c.args.symbol (pos 0) c.target-target.result c.self.invariant.job_is.whole file_in symbol_in
    c.target-target.ensures)
    c.target-target.ensures c.in-Some-default.n (sym c.in-Some-default.is-0 ∙ c.address.ensures)
    ∙ ap (λ (j : PlainJob). symbol_address j.files j.plan.span [] c.args.file c.args.symbol) c.self.view_is

pub returns-in-None-Code : goal.returns-in-None-Code
returns-in-None-Code c =
    let files = c.self.inside.res.now.files in
    let plan = c.self.inside.plan.now in
    let file_in = subst (λ (j : PlainJob). c.args.file < length j.files) (sym c.self.view_is) c.requires.file in
    let symbol_in = subst (λ (j : PlainJob). c.args.symbol < symbol_count (file_at j.files c.args.file)) (sym c.self.view_is)
    c.requires.symbol in
    source_place files plan c.self.invariant.job_is.plan_is c.args.file c.args.symbol c.target-target.result
    (target_in files c.args.file c.args.symbol (pos 0) c.target-target.result c.self.invariant.job_is.whole file_in symbol_in
    c.target-target.ensures)
    c.target-target.ensures c.in-None-Code.section-1 c.in-None-Code.offset c.in-None-Code.is-1
    (let low : c.in-None-Code.offset < 2 ^ 64 = search rules in low)
    ∙ ap (λ (j : PlainJob). symbol_address j.files j.plan.span [] c.args.file c.args.symbol) c.self.view_is
