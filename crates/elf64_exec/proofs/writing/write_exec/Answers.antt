-- overflow_sub-end: the file's end is no less than the length of its headers.
-- push_contents-requires-clause-start: the headers are shorter than a page.
-- returns: what was pushed, header by header and segment by segment, is the executable.
use Rattle.std.proofs.Common.{◌≤◌, length, ap, ◌∙◌, arith}
use Rattle.elf64_exec.specs.Executable.{header_length}
use Rattle.elf64_exec.proofs.Lengths.{headers_are, length-both, file_end_above, executable_is}
use Rattle.elf64_exec.proofs.writing.write_exec.Goals as goal

pub overflow_sub-end : goal.overflow_sub-end
overflow_sub-end c =
    let list = c.as_slice-list.result.now in
    let size = length-both c.args.segments.now.entry list _ _ _ _ c.as_slice-list.ensures.value
    c.new-file.ensures.items c.in_ok-push_file_header.ensures c.in_ok-end.ensures.headers in
    let above = file_end_above (header_length list) list in
    let end = c.in_ok-end.ensures.end in
    omega (arith, size, above, end, c.len.ensures, c.push_program_headers.new.file.ok)

pub push_contents-requires-clause-start : goal.push_contents-requires-clause-start
push_contents-requires-clause-start c =
    let size = length-both c.args.segments.now.entry c.as_slice-list.result.now _ _ _ _
    c.as_slice-list.ensures.value c.new-file.ensures.items c.in_ok-push_file_header.ensures
    c.in_ok-end.ensures.headers in
    let few : length c.args.segments.now.list.items ≤ 3 = c.requires.few in
    omega (arith, size, few, ap length c.as_slice-list.ensures.value, ap length c.reserve_exact.ensures.items)

pub returns : goal.returns
returns c =
    let both = headers_are c.args.segments.now.entry c.as_slice-list.result.now _ _ _ _
    c.as_slice-list.ensures.value c.new-file.ensures.items c.in_ok-push_file_header.ensures
    c.in_ok-end.ensures.headers in
    executable_is c.args.segments.now.entry c.as_slice-list.result.now _ _ _ c.as_slice-list.ensures.value
    (c.reserve_exact.ensures.items ∙ both) c.in_ok-push_contents.ensures
