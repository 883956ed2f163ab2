use Rattle.std.proofs.Common.{◌≡◌, map}
use Rattle.std.specs.List.{range_with_len}
use Rattle.call_sites.specs.inside.Ready.{file_of}
use Rattle.plain_run.proofs.text.all_prologues.Given as goal

-- the prologues of the first files are here
abbrev pub invariant-loop-file : goal.invariant-loop-file
invariant-loop-file l = l.prologues.items ≡ map (file_of l.set) (range_with_len 0 l.file)
