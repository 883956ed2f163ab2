-- loop-file-preserved: one file more.
use Rattle.toc_rewrite.specs.Folds.{is_orderly}
use Rattle.toc_rewrite.proofs.Sections.{map_more}
use Rattle.toc_rewrite.proofs.laid.Laid.orderly_files.Goals as goal

pub loop-file-preserved : goal.loop-file-preserved
loop-file-preserved c =
    map_more (is_orderly c.args.self.now.files) c.loop-file.file c.loop-file.orderly.items c.push.new.self.items c.is_orderly.result
    c.loop-file.invariant c.in_ok-push.ensures.items c.is_orderly.ensures
