-- Objects come before candidates.
use Rattle.std.proofs.Common.{◌≡◌, ℕ, List, length, None, ap, ◌∙◌}
use Rattle.std.specs.List.{list_any}
use Rattle.std.specs.Map.{lookup}
use Rattle.std.specs.Str.{bytes_eq}
use Rattle.elf64_records.specs.First.{◌orelse◌, when, first_from}
use Rattle.ppc_archive.specs.declared.names.Provider.TheVariants.{Object}
use Rattle.ppc_archive.specs.Choice.{provides}
use Rattle.ppc_archive.specs.inside.Givers.{provider_in, provider_at}
use Rattle.ppc_archive.specs.inside.Pools.{pool_of}
use Rattle.ppc_archive.proofs.Closing.{noted_givers}
use Rattle.ppc_archive.proofs.choice.first_providers.Goals as goal

pub returns : goal.returns
returns c = λ entry name.
    let files = c.args.files.now in
    let empty : provider_in c.new-providers.result name ≡ None =
    ap (lookup (λ key. bytes_eq name key.now)) c.new-providers.ensures.empty in
    let objects = c.in_ok-note_objects.ensures name
    ∙ ap (λ (l : List (List ℕ)). provider_in c.new-providers.result name orelse when (list_any (λ b. provides b name) l) Object)
    c.deref.ensures.value
    ∙ ap (λ o. o orelse when (list_any (λ b. provides b name) files.objects.items) Object) empty in
    let all = c.in_ok-note_candidates.ensures name
    ∙ ap (λ (l : List (List ℕ)). provider_in c.note_objects.new.providers name orelse first_from (provider_at l name) 0
    (length l)) c.deref-2.ensures.value in
    noted_givers (pool_of files entry) name (provider_in c.note_objects.new.providers name)
    (provider_in c.note_candidates.new.providers name) objects all
