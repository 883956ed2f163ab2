-- returns: the sites of all calls of the file.
use Rattle.std.proofs.Common.{◌≡◌, ◌++◌, ℕ, List, map, take, ap, ◌∙◌}
use Rattle.std.proofs.lemmas.List.{take_all}
use Rattle.object_set.specs.Files.{file_at}
use Rattle.symbol_table.specs.declared.fields.RecordField.{RecordField}
use Rattle.call_sites.specs.Sites.{call_site}
use Rattle.call_sites.specs.inside.Calls.{file_calls}
use Rattle.call_sites.specs.inside.Ready.{GroupedFiles}
use Rattle.call_sites.proofs.callees.Calls.push_file.Goals as goal

pub returns : goal.returns
returns c =
    let f = call_site c.args.self.now.files c.args.self.now.groups in
    let file = c.args.file in
    let items = c.deref-call-items.result.now in
    let here = c.set.ensures ∙ ap (λ (g : GroupedFiles). g.files) c.self.view_is in
    let all : take c.loop-call.call-index items ≡ file_calls file (file_at c.args.self.now.files file) =
    take_all c.loop-call.call-index items c.loop-call-test.false ∙ c.deref-call-items.ensures.value ∙ c.in_ok-calls.ensures.calls
    ∙ ap (λ (l : List (List ℕ)). file_calls file (file_at l file)) here in
    c.loop-call.invariant ∙ ap (λ (l : List RecordField). c.args.sites.now.items ++ map f l) all
