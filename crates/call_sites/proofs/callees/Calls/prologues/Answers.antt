-- index-requires, returns: there is one for each file.
use Rattle.std.proofs.Common.{◌∙◌, List, ℕ, length, ap, arith}
use Rattle.call_sites.specs.inside.Ready.{GroupedFiles, file_of}
use Rattle.call_sites.proofs.ReadyFiles.{as_many, kept_at}
use Rattle.call_sites.proofs.callees.Calls.prologues.Goals as goal

pub index-requires : goal.index-requires
index-requires c =
    let many = as_many c.self.inside.res.now.files c.self.inside.prologues.items c.self.invariant.prologues_are in
    let same = ap (λ (g : GroupedFiles). length g.files) c.self.view_is in
    omega (arith, many, same, c.self.inside.prologues.ok.0, c.requires)

pub returns : goal.returns
returns c =
    let files = c.self.inside.res.now.files in
    let same = ap (λ (g : GroupedFiles). g.files) c.self.view_is in
    let count = ap (λ (g : GroupedFiles). length g.files) c.self.view_is in
    c.index.ensures
    ∙ kept_at files c.self.inside.prologues.items c.args.file c.index.result.now c.self.invariant.prologues_are
    (omega (arith, count, c.requires))
    ∙ ap (λ (l : List (List ℕ)). file_of l c.args.file) same
