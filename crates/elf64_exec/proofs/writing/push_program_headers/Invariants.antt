use Rattle.std.proofs.Common.{◌≡◌, ◌+◌, ◌*◌, ◌≤◌, ◌++◌, drop}
use Rattle.elf64_exec.specs.Executable.{header_length, program_headers, file_end}
use Rattle.elf64_exec.proofs.writing.push_program_headers.Given as goal

-- what the file holds and what the rest adds are the whole
abbrev pub invariant-loop-segment : goal.invariant-loop-segment
invariant-loop-segment l =
    (l.file.items ++ program_headers l.end (drop l.segment-index l.list) ≡ l.initial.file.items ++
    program_headers (header_length l.list) l.list)
    × (file_end l.end (drop l.segment-index l.list) ≡ file_end (header_length l.list) l.list)
    × (l.end ≤ 0x10000 + 0x80000000 * l.segment-index)
