-- The names of one symbol more.
use Rattle.std.proofs.Common.{ℕ, sym, ap, ◌∙◌, add-one}
use Rattle.std.specs.List.{list_any}
use Rattle.std.specs.Str.{bytes_eq}
use Rattle.elf64_records.specs.First.{◌orelse◌, when}
use Rattle.ppc_archive.specs.Choice.{provides_at, name_where, names_where}
use Rattle.ppc_archive.specs.inside.Givers.{provider_in}
use Rattle.ppc_archive.proofs.Firsts.{noted_more}
use Rattle.ppc_archive.proofs.names.note_names.Goals as goal

pub loop-j-preserved : goal.loop-j-preserved
loop-j-preserved c = λ other.
    let b = c.args.view.now in
    let j = c.loop-j.j in
    noted_more (provider_in c.args.providers.now other) (provider_in c.loop-j.providers other) _ (bytes_eq other)
    (names_where (provides_at b) b j) (name_where (provides_at b) b j) c.args.provider (c.loop-j.invariant other)
    (c.in_ok-note_symbol.ensures other)
    ∙ ap (λ (n : ℕ). provider_in c.args.providers.now other orelse when
    (list_any (bytes_eq other) (names_where (provides_at b) b n)) c.args.provider)
    (sym (add-one j))
