-- loop-file: at the start all files are left.
use Rattle.std.proofs.Common.{◌≡◌, ◌-◌, length, ap, sym, ◌∙◌, arith}
use Rattle.elf64_records.specs.First.{first_from}
use Rattle.symbol_table.specs.laws.RecordWalk.{first_of_records}
use Rattle.toc_groups.specs.Values.{data_overflow_at}
use Rattle.toc_groups.specs.inside.Filled.{file_overflow}
use Rattle.toc_groups.proofs.contents.fill_fields.Goals as goal

pub loop-file-init : goal.loop-file-init
loop-file-init c =
    let files = c.args.res.now.files in
    let span = c.args.plan.now.span in
    let text = c.args.text.now.sections in
    let e : length files - 0 ≡ length files = omega arith in
    record {
      ends = c.requires.ends;
      filled = c.requires.before;
      left = ap (first_from (file_overflow files span text) 0) e ∙ sym (first_of_records files (data_overflow_at files span text));
    }
