use Rattle.std.proofs.Common.{◌<◌, arith, length, ap, ◌∙◌, sym, refl, subst, List, ℕ}
use Rattle.std.proofs.lemmas.Option.{slice_get_within, slice_get_read}
use Rattle.std.proofs.lemmas.List.{length-map}
use Rattle.object_set.specs.Files.{file_at}
use Rattle.object_set.specs.Symbols.{name_of}
use Rattle.symbol_table.specs.Externals.{names_of, external_symbols}
use Rattle.symbol_table.specs.Candidates.{candidates_of, all_candidates, commons_before}
use Rattle.symbol_table.specs.inside.Commons.{AreCommons}
use Rattle.symbol_table.proofs.Distinct.{position_once}
use Rattle.symbol_table.proofs.Steps.{once_names}
use Rattle.symbol_table.proofs.Numbers.{read_at}
use Rattle.symbol_table.proofs.resolutions.Resolutions.common_number.Goals as goal

-- as many commons stand before the name as its number says
pub returns : goal.returns
returns c =
    let files = c.args.self.now in
    let names = names_of (external_symbols files) in
    let name = name_of (file_at files c.args.file) c.args.j in
    let k = c.name_number-number.result in
    let numbers = c.self.inside.commons.numbers.items in
    let are = (subst (λ (f : List (List ℕ)). AreCommons (all_candidates f) c.self.inside.commons) c.self.view_is
    c.self.invariant.commons_are).numbers in
    let within = slice_get_within names k name c.name_number-number.ensures in
    let count = length-map names (candidates_of (external_symbols files)) in
    let inside : k < length numbers = omega (arith, within, count, are.count) in
    let among : k < length (all_candidates files) = omega (arith, within, count) in
    let read = slice_get_read numbers (length numbers) k c.index.result.now refl inside c.index.ensures in
    let place = position_once names k name (once_names (external_symbols files)) c.name_number-number.ensures in
    sym (read_at numbers k c.index.result.now 0 read) ∙ are.each k among
    ∙ ap (λ (i : ℕ). length (commons_before (all_candidates files) i)) (sym place)
