-- A symbol of that name is undefined.
use Rattle.std.proofs.Common.{arith}
use Rattle.std.proofs.lemmas.Bool.Decides.{nat_tests}
use Rattle.object_set.specs.Files.{file_at}
use Rattle.object_set.specs.laws.Fit.{file_fit, symbol_fit}
use Rattle.object_set.proofs.set.ObjectSet.is_toc_base.Goals as goal

pub returns-then-not-is_undefined : goal.returns-then-not-is_undefined
returns-then-not-is_undefined c =
    let set = c.args.self.now in
    let whole = file_fit set c.args.file c.file_count-files.ensures.whole c.requires.file in
    let fit = symbol_fit c.args.file (file_at set c.args.file) c.args.symbol whole (omega arith) c.requires.symbol in
    let named = fit.toc_base in
    grind (arith, nat_tests, named)
