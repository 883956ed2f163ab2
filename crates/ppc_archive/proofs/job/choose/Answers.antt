-- Files that aren't refused are whole.
use Rattle.std.proofs.Common.{ap, sym, ◌∙◌, List}
use Rattle.object_set.specs.declared.files.FileBytes.{FileBytes}
use Rattle.ppc_archive.specs.Expand.{named_files, fetched_refusals}
use Rattle.ppc_archive.proofs.Replacing.{passing_whole}
use Rattle.ppc_archive.proofs.job.choose.Goals as goal

pub expanded-requires-clause-whole : goal.expanded-requires-clause-whole
expanded-requires-clause-whole c =
    passing_whole 0 (named_files c.args.files.items)
    (sym (ap (λ (l : List FileBytes). fetched_refusals 0 (named_files l)) c.as_slice.ensures.value) ∙ c.in_ok-flags.ensures.fault)
