-- A candidate of the map is one of those that there are.
use Rattle.std.proofs.Common.{Some, ap, sym, ◌∙◌}
use Rattle.ppc_archive.specs.declared.names.Provider.{Provider}
use Rattle.ppc_archive.specs.inside.Givers.{candidate_of}
use Rattle.ppc_archive.proofs.choice.Choice.take_name.Goals as goal

pub take-requires : goal.take-requires
take-requires c = c.requires c.args.name.now c.in-Some-Candidate.c
    (ap candidate_of (sym c.in-Some-Candidate.ensures.value)
    ∙ ap (λ (p : Provider). candidate_of (Some p)) c.in-Some-Candidate.field-0-is)
