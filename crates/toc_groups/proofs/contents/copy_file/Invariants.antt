use Rattle.std.proofs.Common.{◌≡◌}
use Rattle.toc_groups.specs.inside.Filled.{AreCopied}
use Rattle.toc_groups.specs.inside.Memory.{byte_of}
use Rattle.toc_groups.proofs.contents.copy_file.Given as goal

-- the first sections of the file are copied
abbrev pub invariant-loop-section : goal.invariant-loop-section
invariant-loop-section l = record {
  ends : l.memory.ends ≡ l.plan.ends;
  copied : AreCopied l.res.files l.plan.span l.file l.section (byte_of l.memory);
}
