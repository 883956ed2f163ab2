use Rattle.std.proofs.Common.{◌≡◌, ℕ, List, Some, slice_get, sym, ap, ◌∙◌, subst}
use Rattle.elf64_records.specs.Symbols.{symbol_of}
use Rattle.object_set.specs.Files.{file_at}
use Rattle.object_set.specs.Symbols.{name_of}
use Rattle.symbol_table.specs.Externals.{External}
use Rattle.symbol_table.specs.inside.Names.{SeesMore, AreNamePlaces, external_of}
use Rattle.symbol_table.proofs.Numbers.{keeps_with_name, one_external}
use Rattle.symbol_table.proofs.table.read_symbol.Goals as goal

-- the table is that of one symbol more
pub returns-clause-seen : goal.returns-clause-seen
returns-clause-seen c =
    let b = file_at c.args.set.now c.args.file in
    let name = (symbol_of b c.args.j).name in
    let this = one_external c.args.file b c.args.j (external_of name c.external_symbol.result)
    (sym c.is_local.ensures ∙ c.if-is_local.false) c.external_symbol.ensures in
    subst (λ (more : List External). SeesMore c.args.table.now c.add_symbol.new.self more) this
    (c.add_symbol.ensures.seen c.args.table.now name c.in_ok-number.ensures.named)

-- names keep their numbers
pub returns-clause-keeps : goal.returns-clause-keeps
returns-clause-keeps c =
    let b = file_at c.args.set.now c.args.file in
    keeps_with_name c.args.table.now.names c.add_symbol.new.self.names (symbol_of b c.args.j).name
    (c.add_symbol.ensures.names ∙ c.in_ok-number.ensures.named.names)

-- the number is that of the symbol's name
pub returns-clause-number : goal.returns-clause-number
returns-clause-number c =
    let b = file_at c.args.set.now c.args.file in
    let name : (symbol_of b c.args.j).name ≡ name_of b c.args.j = ap (λ (e : External). e.name) c.external_symbol.ensures in
    λ external. ap (λ (l : List (List ℕ)). slice_get l c.in_ok-number.number) c.add_symbol.ensures.names
    ∙ c.in_ok-number.ensures.named.number ∙ ap Some name

-- places stay known
pub returns-clause-places : goal.returns-clause-places
returns-clause-places c =
    let b = file_at c.args.set.now c.args.file in
    subst (λ (l : List (List ℕ)). AreNamePlaces l b c.read_name.new.places) (sym c.add_symbol.ensures.names)
    c.in_ok-number.ensures.places
