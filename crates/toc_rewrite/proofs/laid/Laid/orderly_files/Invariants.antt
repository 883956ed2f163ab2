use Rattle.std.proofs.Common.{◌≡◌, map}
use Rattle.std.specs.List.{range_with_len}
use Rattle.toc_rewrite.specs.Folds.{is_orderly}
use Rattle.toc_rewrite.proofs.laid.Laid.orderly_files.Given as goal

-- the first files are judged
abbrev pub invariant-loop-file : goal.invariant-loop-file
invariant-loop-file l = l.orderly.items ≡ map (is_orderly l.self.files) (range_with_len 0 l.file)
