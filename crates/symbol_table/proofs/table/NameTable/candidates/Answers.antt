use Rattle.std.proofs.Common.{◌≡◌, ap, List, ℕ, ◌∙◌, sym, false}
use Rattle.std.specs.List.{list_any}
use Rattle.std.specs.Str.{bytes_eq}
use Rattle.symbol_table.specs.Externals.{names_of}
use Rattle.symbol_table.specs.Candidates.{NamesSeen}
use Rattle.symbol_table.proofs.Steps.{unseen}
use Rattle.symbol_table.proofs.table.NameTable.candidates.Goals as goal

-- nothing is said of a name that no symbol bears
pub returns-in-None : goal.returns-in-None
returns-in-None c = λ symbols is.
    let names : c.self.inside.names ≡ names_of symbols = ap (λ (t : NamesSeen). t.names) (c.self.view_is ∙ is) in
    let none : list_any (bytes_eq c.args.name.now) (names_of symbols) ≡ false =
    ap (λ (l : List (List ℕ)). list_any (bytes_eq c.args.name.now) l) (sym names) ∙ c.in-None.ensures in
    c.none.ensures ∙ sym (unseen c.args.name.now symbols none)
