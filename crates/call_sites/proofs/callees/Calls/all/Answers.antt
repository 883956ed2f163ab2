-- loop-file-preserved: the sites of one file more. returns: those of all files.
use Rattle.std.proofs.Common.{◌++◌, ℕ, List, map, sym, ap, ◌∙◌, add-one}
use Rattle.std.proofs.lemmas.List.{map-append}
use Rattle.object_set.specs.Files.{file_at}
use Rattle.object_set.specs.Walks.{items_before}
use Rattle.call_sites.specs.declared.site.CallSite.{CallSite}
use Rattle.call_sites.specs.Sites.{call_site, call_walk}
use Rattle.call_sites.specs.inside.Calls.{file_calls}
use Rattle.call_sites.proofs.callees.Calls.all.Goals as goal

pub loop-file-preserved : goal.loop-file-preserved
loop-file-preserved c =
    let files = c.args.self.now.files in
    let f = call_site files c.args.self.now.groups in
    let n = c.loop-file.file in
    let more = map f (file_calls n (file_at files n)) in
    c.in_ok-push_file.ensures ∙ ap (λ (l : List CallSite). l ++ more) c.loop-file.invariant
    ∙ sym (map-append f (items_before call_walk files n) (file_calls n (file_at files n)))
    ∙ ap (λ (m : ℕ). map f (items_before call_walk files m)) (sym (add-one n))
