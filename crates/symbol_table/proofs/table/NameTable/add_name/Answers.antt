use Rattle.std.proofs.Common.{ap, List, ℕ, ◌≢◌, ◌∙◌, length, arith}
use Rattle.symbol_table.specs.Candidates.{NamesSeen}
use Rattle.symbol_table.specs.Externals.{with_name}
use Rattle.symbol_table.proofs.NameTables.{no_more}
use Rattle.symbol_table.proofs.table.NameTable.add_name.Goals as goal

-- a name that was there already adds nothing
pub returns-else-number-len-clause-named : goal.returns-else-number-len-clause-named
returns-else-number-len-clause-named c =
    let names = ap (λ (t : NamesSeen). t.names) c.self.view_is in
    record {
      names = c.in_ok-number.ensures.names ∙ ap (λ (l : List (List ℕ)). with_name l c.args.name.now) names;
      candidates = (no_more c.args.self.now c.self.inside.names c.add.new.self c.self.inside.candidates.items c.args.name.now
          c.in_ok-number.number names (ap (λ (t : NamesSeen). t.candidates) c.self.view_is) c.requires
          (let other : c.in_ok-number.number ≢ length c.self.inside.candidates.items = omega arith in
          other) c.in_ok-number.ensures.names c.in_ok-number.ensures.number).0;
      number = c.in_ok-number.ensures.number;
    }

-- and something is said of each name still
pub returns-else-number-len-clause-paired : goal.returns-else-number-len-clause-paired
returns-else-number-len-clause-paired c =
    (no_more c.args.self.now c.self.inside.names c.add.new.self c.self.inside.candidates.items c.args.name.now c.in_ok-number.number
    (ap (λ (t : NamesSeen). t.names) c.self.view_is) (ap (λ (t : NamesSeen). t.candidates) c.self.view_is) c.requires
    (let other : c.in_ok-number.number ≢ length c.self.inside.candidates.items = omega arith in
    other) c.in_ok-number.ensures.names c.in_ok-number.ensures.number).1
