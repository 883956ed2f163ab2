-- view-requires, symbol_entry-requires: a definition is a symbol of one of the files. returns-in-Some: its entry points.
use Rattle.std.proofs.Common.{◌≡◌, ◌<◌, ◌/◌, ℕ, List, length, Some, sym, ap, ◌∙◌, subst}
use Rattle.std.specs.Option.{option_map}
use Rattle.elf64_records.specs.Symbols.{symbol_count, st_other}
use Rattle.object_set.specs.Files.{file_at}
use Rattle.symbol_table.specs.Resolved.{pair_of}
use Rattle.symbol_table.specs.Targets.{definition_of}
use Rattle.symbol_table.specs.laws.Definitions.{IsDefinition}
use Rattle.symbol_table.specs.laws.Targets.{symbol_definition}
use Rattle.call_sites.specs.Sites.{definition_entries}
use Rattle.call_sites.specs.laws.TextSections.{definition_told}
use Rattle.call_sites.proofs.callees.definition_entries.Goals as goal

-- the symbol that a definition's numbers name
named : (files : List (List ℕ)) (file symbol : ℕ) (p : ℕ × ℕ) → Some p ≡ option_map pair_of (definition_of files file symbol) →
    file < length files → symbol < symbol_count (file_at files file) → IsDefinition files (record { file = p.0; symbol = p.1 })
named files file symbol p is file_in within =
    symbol_definition files file symbol (record { file = p.0; symbol = p.1 }) file_in within
    (definition_told (definition_of files file symbol) p is)

pub view-requires : goal.view-requires
view-requires c =
    let p : ℕ × ℕ = (c.in-Some.file, c.in-Some.symbol) in
    let is = named c.args.res.now.files c.args.file c.args.symbol p (sym c.in-Some.is ∙ c.definition.ensures) c.requires.file
    c.requires.symbol in
    subst (λ (l : List (List ℕ)). p.0 < length l) (sym c.set.ensures) is.placed.file_in

pub symbol_entry-requires : goal.symbol_entry-requires
symbol_entry-requires c =
    let p : ℕ × ℕ = (c.in-Some.file, c.in-Some.symbol) in
    let is = named c.args.res.now.files c.args.file c.args.symbol p (sym c.in-Some.is ∙ c.definition.ensures) c.requires.file
    c.requires.symbol in
    let here = c.view.ensures ∙ ap (λ (l : List (List ℕ)). file_at l p.0) c.set.ensures in
    subst (λ (b : List ℕ). p.1 < symbol_count b) (sym here) is.placed.within

pub returns-in-Some : goal.returns-in-Some
returns-in-Some c =
    let files = c.args.res.now.files in
    let p : ℕ × ℕ = (c.in-Some.file, c.in-Some.symbol) in
    let told = definition_told (definition_of files c.args.file c.args.symbol) p (sym c.in-Some.is ∙ c.definition.ensures) in
    let here = c.view.ensures ∙ ap (λ (l : List (List ℕ)). file_at l p.0) c.set.ensures in
    c.from.ensures ∙ ap (λ (n : ℕ). n / 32) (c.symbol_entry.ensures.other ∙ ap (λ (b : List ℕ). st_other b p.1) here)
    ∙ ap (definition_entries files) (sym told)
