use Rattle.std.proofs.Common.{ap, ◌+◌, ◌++◌, ◌∙◌, sym, subst}
use Rattle.object_set.specs.Files.{file_at}
use Rattle.object_set.specs.Walks.{items_in}
use Rattle.symbol_table.specs.Externals.{external_walk}
use Rattle.symbol_table.specs.Candidates.{names_seen}
use Rattle.symbol_table.specs.inside.Names.{AreNameNumbers}
use Rattle.symbol_table.proofs.Numbers.{numbers_more, external_step}
use Rattle.symbol_table.proofs.table.read_file.Goals as goal

-- one symbol more of the file is read
pub loop-j-preserved : goal.loop-j-preserved
loop-j-preserved c =
    let b = file_at c.args.set.now c.args.file in
    let j = c.loop-j.j in
    let before = c.loop-j.invariant in
    let now = c.in_ok-number.ensures in
    let more = numbers_more c.loop-j.table.names c.read_symbol.new.table.names b j c.loop-j.items.items c.in_ok-number.number
    before.numbers now.keeps now.number in
    record {
      seen = λ symbols is.
          now.seen (symbols ++ items_in external_walk c.args.file b j) (before.seen symbols is)
          ∙ ap names_seen (external_step symbols c.args.file b j);
      keeps = λ k name found. now.keeps k name (before.keeps k name found);
      numbers = subst (AreNameNumbers c.read_symbol.new.table.names b (j + 1)) (sym c.in_ok-push.ensures.items) more;
      paired = now.paired;
      places = now.places;
    }
