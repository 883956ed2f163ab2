use Rattle.std.proofs.Common.{ap, List, ℕ, slice_get, slice_set, ◌∙◌, ◌<◌, length, refl, arith}
use Rattle.std.proofs.lemmas.Option.{slice_get_read}
use Rattle.symbol_table.specs.declared.candidates.Candidates.{Candidates}
use Rattle.symbol_table.specs.Candidates.{NamesSeen}
use Rattle.symbol_table.specs.inside.Names.{external_of}
use Rattle.symbol_table.proofs.NameTables.{table_step}
use Rattle.symbol_table.proofs.table.NameTable.add_symbol.Goals as goal

-- the table is that of one symbol more
pub returns-clause-seen : goal.returns-clause-seen
returns-clause-seen c =
    let names = ap (λ (t : NamesSeen). t.names) c.self.view_is in
    let candidates = ap (λ (t : NamesSeen). t.candidates) c.self.view_is in
    let same = ap length candidates in
    let lengths = c.requires.paired in
    let inside = c.requires.within in
    let within : c.args.number < length c.self.inside.candidates.items = omega (arith, inside, same, lengths) in
    λ old name numbered symbols is.
    table_step symbols (external_of name c.args.symbol) old c.self.inside.names c.self.inside.candidates.items
    (slice_set c.self.inside.candidates.items c.args.number c.with-candidates.result) c.args.number c.index.result.now is
    (names ∙ numbered.names) (candidates ∙ numbered.candidates)
    (ap (λ (l : List (List ℕ)). slice_get l c.args.number) names ∙ numbered.number)
    (slice_get_read c.self.inside.candidates.items (length c.self.inside.candidates.items) c.args.number c.index.result.now refl
    within c.index.ensures)
    (ap (λ (v : Candidates). slice_set c.self.inside.candidates.items c.args.number v) (c.with-candidates.ensures name))
