use Rattle.std.proofs.Common.{◌≡◌}
use Rattle.toc_groups.specs.inside.Filled.{AreCopied}
use Rattle.toc_groups.specs.inside.Memory.{byte_of}
use Rattle.toc_groups.proofs.contents.copy_sections.Given as goal

-- the first files' sections are copied
abbrev pub invariant-loop-file : goal.invariant-loop-file
invariant-loop-file l = record {
  ends : l.memory.ends ≡ l.plan.ends;
  copied : AreCopied l.res.files l.plan.span l.file 0 (byte_of l.memory);
}
