use Rattle.std.proofs.Common.{◌≡◌, ℕ, List, Some, slice_get, sym, ap, ◌∙◌, subst}
use Rattle.std.specs.BTreeMap.{get}
use Rattle.std.specs.Ordering.{nat_cmp}
use Rattle.elf64_records.specs.Names.{name_at}
use Rattle.elf64_records.specs.Symbols.{st_name, symbol_names, symbol_of}
use Rattle.object_set.specs.Files.{file_at}
use Rattle.symbol_table.specs.inside.Names.{IsNumbered}
use Rattle.symbol_table.proofs.Numbers.{numbered_known, places_kept, keeps_with_name}
use Rattle.symbol_table.proofs.table.read_name.Goals as goal

-- a place that is known gives the number of the name that begins there
pub returns-in-Some-clause-named : goal.returns-in-Some-clause-named
returns-in-Some-clause-named c =
    let b = file_at c.args.set.now c.args.file in
    let place : c.symbol_name_place-place.result ≡ st_name b c.args.j =
    c.symbol_name_place-place.ensures ∙ ap (λ (f : List ℕ). st_name f c.args.j) c.view-view.ensures in
    let gives : get nat_cmp c.args.places.now (st_name b c.args.j) ≡ Some c.in-Some.number.now =
    ap (λ (p : ℕ). get nat_cmp c.args.places.now p) (sym place) ∙ sym c.in-Some.ensures.value in
    numbered_known c.args.table.now (symbol_of b c.args.j).name c.in-Some.number.now
    (c.requires.places (st_name b c.args.j) c.in-Some.number.now gives)

-- the name that is read gets a number
pub returns-clause-named : goal.returns-clause-named
returns-clause-named c =
    let b = file_at c.args.set.now c.args.file in
    let name : c.symbol.result.name.now ≡ (symbol_of b c.args.j).name =
    c.symbol.ensures.name ∙ ap (λ (f : List ℕ). (symbol_of f c.args.j).name) c.view-view.ensures in
    subst (λ (n : List ℕ). IsNumbered c.args.table.now c.add_name.new.self n c.in_ok-number.number) name c.in_ok-number.ensures.named

-- and its place is known
pub returns-clause-places : goal.returns-clause-places
returns-clause-places c =
    let b = file_at c.args.set.now c.args.file in
    let named = c.in_ok-number.ensures.named in
    let place : c.symbol_name_place-place.result ≡ st_name b c.args.j =
    c.symbol_name_place-place.ensures ∙ ap (λ (f : List ℕ). st_name f c.args.j) c.view-view.ensures in
    let name : c.symbol.result.name.now ≡ (symbol_of b c.args.j).name =
    c.symbol.ensures.name ∙ ap (λ (f : List ℕ). (symbol_of f c.args.j).name) c.view-view.ensures in
    let found : slice_get c.add_name.new.self.names c.in_ok-number.number
    ≡ Some (name_at (symbol_names b) c.symbol_name_place-place.result) =
    named.number ∙ ap Some name ∙ ap (λ (p : ℕ). Some (name_at (symbol_names b) p)) (sym place) in
    c.in_ok-note_place.ensures c.add_name.new.self.names b
    (places_kept c.args.table.now.names c.add_name.new.self.names b c.args.places.now c.requires.places
    (keeps_with_name c.args.table.now.names c.add_name.new.self.names c.symbol.result.name.now named.names)) found
