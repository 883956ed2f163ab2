-- loop-file-preserved: those of one file more. returns: those of all files.
use Rattle.std.proofs.Common.{◌≡◌, ◌∷◌, [], ◌++◌, List, map, arith}
use Rattle.std.specs.List.{range_with_len}
use Rattle.std.proofs.lemmas.List.FromFn.{map-range_with_len_more}
use Rattle.symbol_table.specs.inside.Fields.{FileOf}
use Rattle.call_sites.specs.inside.Ready.{file_of}
use Rattle.plain_run.proofs.text.all_prologues.Goals as goal

pub loop-file-preserved : goal.loop-file-preserved
loop-file-preserved c =
    let files = c.set-set.result.now in
    let n = c.loop-file.file in
    let before : List FileOf = c.loop-file.prologues.items in
    let so_far : before ≡ map (file_of files) (range_with_len 0 n) = c.loop-file.invariant in
    let one : c.in_ok-of_file.field-0 ≡ file_of files n = c.in_ok-of_file.ensures in
    let pushed : c.push.new.self.items ≡ before ++ c.in_ok-of_file.field-0 ∷ [] = c.in_ok-push.ensures.items in
    let more = map-range_with_len_more (file_of files) 0 n n (omega arith) in
    cc
