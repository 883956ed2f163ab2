-- returns: the calls in order are those at each offset of each section, and are calls of the set.
use Rattle.std.proofs.Common.{List, subst}
use Rattle.symbol_table.specs.declared.fields.RecordField.{RecordField}
use Rattle.call_sites.specs.inside.Calls.{IsInOrder}
use Rattle.call_sites.proofs.FileCalls.{sorted_calls, sorted_are}
use Rattle.call_sites.proofs.calls.file_calls.Goals as goal

pub returns-clause-calls : goal.returns-clause-calls
returns-clause-calls c =
    let new = c.sort_calls.new.calls.items in
    sorted_calls c.args.set.now c.args.file new c.file_count-files.ensures.whole c.requires.sound c.requires.file
    (subst (λ (l : List RecordField). IsInOrder l new) c.in_ok-calls.ensures c.in_ok-sort_calls.ensures)

pub returns-clause-each : goal.returns-clause-each
returns-clause-each c =
    let new = c.sort_calls.new.calls.items in
    sorted_are c.args.set.now c.args.file new c.file_count-files.ensures.whole c.requires.sound c.requires.file
    (subst (λ (l : List RecordField). IsInOrder l new) c.in_ok-calls.ensures c.in_ok-sort_calls.ensures)
