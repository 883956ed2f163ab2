-- The definition for which a symbol stands, as its file and number.
use Rattle.std.proofs.Common.{◌≡◌, ◌<◌, ℕ, List, Option, None, Some, length, sym, ap, ◌∙◌}
use Rattle.std.specs.Option.{option_map}
use Rattle.object_set.specs.declared.places.SymbolId.{SymbolId}
use Rattle.elf64_records.specs.Symbols.{symbol_count}
use Rattle.object_set.specs.Files.{file_at}
use Rattle.symbol_table.specs.Resolved.{pair_of}
use Rattle.symbol_table.specs.Targets.{definition_of, IsPlaced}
use Rattle.symbol_table.specs.laws.Targets.{symbol_definition}

abbrev symbol_id : ℕ → ℕ → SymbolId
symbol_id file symbol = record { file = file; symbol = symbol }

paired : (o : Option SymbolId) (file symbol : ℕ) → option_map pair_of o ≡ Some (file, symbol) → o ≡ Some (symbol_id file symbol)
paired None file symbol is = cc
paired (Some d) file symbol is =
    let same : pair_of d ≡ (file, symbol) = cc in
    let files : d.file ≡ file = ap (λ (p : ℕ × ℕ). p.0) same in
    let symbols : d.symbol ≡ symbol = ap (λ (p : ℕ × ℕ). p.1) same in
    ap (λ (f : ℕ). Some (symbol_id f d.symbol)) files ∙ ap (λ (s : ℕ). Some (symbol_id file s)) symbols

-- it is one of the files' symbols
pub definition_here : (files : List (List ℕ)) (file j f s : ℕ) → file < length files → j < symbol_count (file_at files file) →
    Some (f, s) ≡ option_map pair_of (definition_of files file j) →
    (definition_of files file j ≡ Some (symbol_id f s)) × IsPlaced files f s
definition_here files file j f s file_in within is =
    let this = paired (definition_of files file j) f s (sym is) in
    (this, (symbol_definition files file j (symbol_id f s) file_in within this).placed)
