-- The names of one candidate more.
use Rattle.std.proofs.Common.{◌≡◌, ℕ, List, [], arith, sym, ap, ◌∙◌, add-one, zero-add}
use Rattle.std.proofs.lemmas.List.{get_or_default}
use Rattle.elf64_records.specs.First.{◌orelse◌, when, first_from}
use Rattle.object_set.specs.Files.{file_at}
use Rattle.ppc_archive.specs.declared.names.Provider.TheVariants.{Candidate}
use Rattle.ppc_archive.specs.Choice.{provides}
use Rattle.ppc_archive.specs.inside.Givers.{provider_in, provider_at}
use Rattle.ppc_archive.proofs.Firsts.{orelse_assoc, first_more}
use Rattle.ppc_archive.proofs.names.note_candidates.Goals as goal

pub loop-c-preserved : goal.loop-c-preserved
loop-c-preserved c = λ other.
    let candidates = c.args.candidates.now in
    let k = c.loop-c.c in
    let before = provider_in c.args.providers.now other in
    let f = provider_at candidates other in
    let here : c.index-candidates-c.result ≡ file_at candidates k = c.index-candidates-c.is
    ∙ get_or_default candidates k c.index-candidates-c.result [] (omega arith) in
    c.in_ok-note_names.ensures other
    ∙ ap (λ o. o orelse when (provides c.index-candidates-c.result other) (Candidate k)) (c.loop-c.invariant other)
    ∙ ap (λ (b : List ℕ). (before orelse first_from f 0 k) orelse when (provides b other) (Candidate k)) here
    ∙ orelse_assoc before (first_from f 0 k) (f k)
    ∙ ap (λ (n : ℕ). before orelse (first_from f 0 k orelse f n)) (sym (zero-add k))
    ∙ ap (λ o. before orelse o) (sym (first_more f 0 k))
    ∙ ap (λ (n : ℕ). before orelse first_from f 0 n) (sym (add-one k))
