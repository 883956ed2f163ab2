-- target-requires-clause-stands: a call goes somewhere. returns-clause-enters: and where it goes it may enter.
use Rattle.std.proofs.Common.{ℤ, to_z, of_z, w64, List, ℕ, sym, ap, subst, rules, ◌∙◌, ◌≡◌, Some}
use Rattle.std.specs.Prelude.{IsSome}
use Rattle.elf64_records.specs.Records.{RecordFacts}
use Rattle.object_set.specs.Files.{file_at}
use Rattle.symbol_table.specs.Targets.{target_of}
use Rattle.call_sites.specs.Sites.{facts_of, call_target}
use Rattle.call_sites.specs.inside.Calls.{IsCall, MayEnter}
use Rattle.call_sites.specs.inside.Ready.{GroupedFiles}
use Rattle.call_sites.proofs.CallTargets.{call_goes, call_enters}
use Rattle.call_sites.proofs.callees.Calls.target.Goals as goal

pub target-requires-clause-stands : goal.target-requires-clause-stands
target-requires-clause-stands c =
    let same = ap (λ (g : GroupedFiles). g.files) c.self.view_is in
    let files = c.self.inside.res.now.files in
    let is = subst (λ (l : List (List ℕ)). IsCall l c.args.call) (sym same) c.requires in
    let goes = call_goes files c.args.call c.self.invariant.whole c.self.invariant.sound is in
    let rela = c.rela-rela.result in
    let facts = c.rela-rela.ensures.facts in
    let said = facts_of (file_at files c.args.call.id.file) c.args.call in
    let here = ap (λ (l : List (List ℕ)). facts_of (file_at l c.args.call.id.file) c.args.call) (sym same) in
    let round : to_z w64 (of_z w64 rela.addend) ≡ rela.addend = search rules in
    let symbol : rela.symbol ≡ said.symbol = facts.symbol ∙ ap (λ (f : RecordFacts). f.symbol) here in
    let addend : to_z w64 (of_z w64 rela.addend) ≡ said.addend = round ∙ facts.addend ∙ ap (λ (f : RecordFacts). f.addend) here in
    subst (λ (z : ℤ). IsSome (target_of files c.args.call.id.file rela.symbol z)) (sym addend)
    (subst (λ (j : ℕ). IsSome (target_of files c.args.call.id.file j said.addend)) (sym symbol) goes)

pub returns-clause-enters : goal.returns-clause-enters
returns-clause-enters c =
    let same = ap (λ (g : GroupedFiles). g.files) c.self.view_is in
    let files = c.self.inside.res.now.files in
    let is = subst (λ (l : List (List ℕ)). IsCall l c.args.call) (sym same) c.requires in
    let found : call_target files c.args.call ≡ Some c.target.result = search rules in
    subst (λ (l : List (List ℕ)). MayEnter l c.target.result) same
    (call_enters files c.args.call c.target.result c.self.invariant.whole c.self.invariant.sound is found)
