-- A name that was new has the file, and each other name what it had.
use Rattle.std.proofs.Common.{rules}
use Rattle.ppc_archive.proofs.NameMaps.{noted}
use Rattle.ppc_archive.proofs.names.note_name.Goals as goal

pub returns-in_ok-insert : goal.returns-in_ok-insert
returns-in_ok-insert c =
    noted c.args.providers.now c.insert.new.self c.args.name.now c.args.provider (search rules) c.in_ok-insert.ensures.updates
