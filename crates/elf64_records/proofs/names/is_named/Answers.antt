-- As much of the table as the name asked for is long, and a byte, tells whether it is the name there.
use Rattle.std.proofs.Common.{◌∙◌}
use Rattle.elf64_records.proofs.Zeros.{named_by_front}
use Rattle.elf64_records.proofs.names.is_named.Goals as goal

pub returns : goal.returns
returns c =
    c.eq.ensures
    ∙ named_by_front c.args.table.now c.args.name.now c.args.start c.min.result c.length_to_zero.result c.min.ensures
    c.length_to_zero.ensures.value
