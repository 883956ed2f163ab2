use Rattle.std.proofs.Common.{◌≡◌, List, length, arith, ap, ℕ, ◌+◌, ◌∙◌, sym, subst, add-one}
use Rattle.object_set.specs.Walks.{items_before}
use Rattle.symbol_table.specs.Externals.{external_walk, names_of}
use Rattle.symbol_table.specs.Candidates.{NamesSeen, names_seen}
use Rattle.symbol_table.specs.inside.Names.{AreAllNameNumbers}
use Rattle.symbol_table.proofs.Numbers.{all_numbers_more}
use Rattle.symbol_table.proofs.table.name_table.Goals as goal

-- one file more is read
pub loop-file-preserved : goal.loop-file-preserved
loop-file-preserved c =
    let set = c.args.set.now in
    let file = c.loop-file.file in
    let before = c.loop-file.invariant in
    let now = c.in_ok-row.ensures in
    let more = all_numbers_more c.loop-file.table.names c.read_file.new.table.names set file c.loop-file.numbers.items c.in_ok-row.row
    before.numbers now.keeps now.numbers in
    record {
      seen = now.seen (items_before external_walk set file) before.seen
          ∙ ap (λ (n : ℕ). names_seen (items_before external_walk set n)) (sym (add-one file));
      numbers = subst (AreAllNameNumbers c.read_file.new.table.names set (file + 1)) (sym c.in_ok-push.ensures.items) more;
    }

-- all files are read
pub returns-clause-numbers : goal.returns-clause-numbers
returns-clause-numbers c =
    let set = c.args.set.now in
    let file = c.loop-file.file in
    let rows = c.loop-file.numbers.items in
    let past = c.loop-file-test.false in
    let few = c.loop-file.auto.file-end in
    let count = c.file_count-file-end.ensures.count in
    let all : file ≡ length set = omega (arith, past, few, count) in
    let names : c.loop-file.table.names ≡ names_of (items_before external_walk set file) =
    ap (λ (t : NamesSeen). t.names) c.loop-file.invariant.seen in
    let before : AreAllNameNumbers (names_of (items_before external_walk set file)) set file rows =
    subst (λ (l : List (List ℕ)). AreAllNameNumbers l set file rows) names c.loop-file.invariant.numbers in
    subst (λ (n : ℕ). AreAllNameNumbers (names_of (items_before external_walk set n)) set n rows) all before
