use Rattle.std.proofs.Common.{◌≡◌, ◌+◌, ◌*◌, ◌≤◌, ◌++◌, length, drop}
use Rattle.elf64_exec.specs.Executable.{contents}
use Rattle.elf64_exec.proofs.writing.push_contents.Given as goal

-- what the file holds and what the rest adds are the whole
abbrev pub invariant-loop-segment : goal.invariant-loop-segment
invariant-loop-segment l =
    (l.file.items ++ contents (length l.file.items) (drop l.segment-index l.list) ≡ l.initial.file.items ++
    contents (length l.initial.file.items) l.list)
    × (length l.file.items ≤ 0x10000 + 0x80000000 * l.segment-index)
