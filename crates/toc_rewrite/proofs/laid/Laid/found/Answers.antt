-- loop-file-preserved: one file more.
use Rattle.toc_rewrite.specs.inside.Uses.{use_of}
use Rattle.toc_rewrite.specs.inside.Slots.{candidate_of}
use Rattle.toc_rewrite.proofs.FoundRecords.{file_joined}
use Rattle.toc_rewrite.proofs.laid.Laid.found.Goals as goal

pub loop-file-preserved : goal.loop-file-preserved
loop-file-preserved c =
    let laid = c.args.self.now in
    let before = c.loop-file.invariant in
    record {
      uses = file_joined laid (use_of laid) c.loop-file.file c.loop-file.found.uses.items c.push_file.new.found.uses.items before.uses
          c.in_ok-push_file.ensures.uses;
      slots = file_joined laid (candidate_of laid) c.loop-file.file c.loop-file.found.slots.items c.push_file.new.found.slots.items
          before.slots c.in_ok-push_file.ensures.slots;
    }
