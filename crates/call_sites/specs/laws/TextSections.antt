-- Text sections by their numbers, and places in them.
use Rattle.std.proofs.Common.{◌≡◌, ◌<◌, ℕ, zero, suc, Bool, true, false, List, [], ◌∷◌, length, Option, None, Some, slice_get, sym, ap, if◌then◌else◌}
use Rattle.std.specs.List.{slice_index_or}
use Rattle.std.specs.Option.{option_map}
use Rattle.elf64_records.specs.FileHeader.{e_shnum}
use Rattle.object_set.specs.declared.places.SymbolId.{SymbolId}
use Rattle.object_set.specs.Files.{file_at}
use Rattle.object_set.specs.Sections.{is_text}
use Rattle.symbol_table.specs.Resolved.{pair_of}
use Rattle.symbol_table.specs.Text.{text_sections, text_index, text_number}
use Rattle.symbol_table.specs.laws.Text.{text_index_found}
use Rattle.call_sites.specs.Sites.{text_section, no_section}

module _ {X : Type 0} where
  -- what stands at a place of a list
  pub at_get : (xs : List X) (k : ℕ) (x d : X) → slice_get xs k ≡ Some x → slice_index_or xs k d ≡ x
  at_get [] k x d found = cc
  at_get (y ∷ xs) zero x d found = cc
  at_get (y ∷ xs) (suc k) x d found = at_get xs k x d found

number_case : (files : List (List ℕ)) (file section k : ℕ) (text : Bool) →
    Some k ≡ (if text then Some (text_index files file section) else None) → k ≡ text_index files file section
number_case files file section k true is = cc
number_case files file section k false is = cc

-- the number of a text section is its index
pub number_is : (files : List (List ℕ)) (file section k : ℕ) → Some k ≡ text_number files file section → k ≡ text_index files file section
number_is files file section k is = number_case files file section k (is_text (file_at files file) section) is

-- a text section has one
pub number_there : (files : List (List ℕ)) (file section : ℕ) → None ≡ text_number files file section →
    is_text (file_at files file) section ≡ true → ⊥
number_there files file section is text =
    let some : text_number files file section ≡ Some (text_index files file section) =
    ap (λ (t : Bool). if t then Some (text_index files file section) else None) text in
    cc

-- the section at its index is the section
pub section_there : (files : List (List ℕ)) (file section : ℕ) → file < length files → section < e_shnum (file_at files file) →
    is_text (file_at files file) section ≡ true →
    text_section files (text_index files file section) ≡ record { file = file; section = section }
section_there files file section file_in within text =
    at_get (text_sections files) (text_index files file section) (record { file = file; section = section }) no_section
    (text_index_found files file section file_in within text)

-- a definition, told by its numbers
pub definition_told : (o : Option SymbolId) (p : ℕ × ℕ) → Some p ≡ option_map pair_of o → o ≡ Some (record { file = p.0; symbol = p.1 })
definition_told None p is = cc
definition_told (Some d) p is =
    let same : p ≡ pair_of d = cc in
    ap (λ (q : ℕ × ℕ). Some (record { file = q.0; symbol = q.1 })) (sym same)
