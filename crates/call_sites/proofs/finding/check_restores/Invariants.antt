use Rattle.std.proofs.Common.{◌≡◌, drop}
use Rattle.elf64_records.specs.First.{first_in}
use Rattle.call_sites.specs.Refusals.{restore_refusal}
use Rattle.call_sites.proofs.finding.check_restores.Given as goal

-- what is left refuses as all does
abbrev pub invariant-loop-site : goal.invariant-loop-site
invariant-loop-site l = first_in restore_refusal (drop l.site-index l.sites) ≡ first_in restore_refusal l.sites
