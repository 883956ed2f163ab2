-- The section of a symbol that isn't refused is one of its file.
use Rattle.std.proofs.Common.{arith}
use Rattle.std.proofs.lemmas.Bool.Decides.{nat_tests}
use Rattle.object_set.specs.Files.{file_at}
use Rattle.object_set.specs.laws.Fit.{file_fit, symbol_fit}
use Rattle.object_set.proofs.set.ObjectSet.section_of.Goals as goal

pub returns-else-symbol-eq0-clause-within : goal.returns-else-symbol-eq0-clause-within
returns-else-symbol-eq0-clause-within c =
    let set = c.args.self.now in
    let whole = file_fit set c.args.file c.file_count-files.ensures.whole c.requires.file in
    let fit = symbol_fit c.args.file (file_at set c.args.file) c.args.symbol whole (omega arith) c.requires.symbol in
    let inside = fit.section in
    grind (arith, nat_tests, inside)
