-- GOT slots (ELFv2 ABI, 3.3 "GOT" and "Relocation Types Table": R_PPC64_GOT_PCREL34): eight bytes of a TOC group that hold the address of
-- a symbol, for code that loads it from there.
use Rattle.std.specs.Prelude.{ℕ, zero, suc, ◌+◌, Bool, not, List, [], ◌∷◌, ◌++◌, ◌||◌, ◌&&◌, ◌==◌, fold, if◌then◌else◌}
use Rattle.std.specs.List.{list_any}
use Rattle.std.specs.Str.{bytes_eq}
use Rattle.elf64_records.specs.FileHeader.{e_shnum}
use Rattle.elf64_records.specs.Records.{record_count, r_type, r_symbol}
use Rattle.reloc_fields.specs.declared.kind.Kind.TheVariants.{GotPcrel34}
use Rattle.reloc_fields.specs.Table.{line_of}
use Rattle.object_set.specs.declared.places.SymbolId.{SymbolId}
use Rattle.object_set.specs.Files.{file_at}
use Rattle.object_set.specs.Symbols.{name_of, is_local}
use Rattle.object_set.specs.Walks.{Walk, items_in}

-- a relocation of this number loads from a slot
abbrev pub is_got_load : ℕ → Bool
is_got_load number = number == (line_of GotPcrel34).number

abbrev pub symbol_id : ℕ → ℕ → SymbolId
symbol_id file j = record { file = file; symbol = j }

-- the symbol that record k of section i of a file names for such a load
abbrev pub named_at : ℕ → List ℕ → ℕ → ℕ → List SymbolId
named_at file b i k = if is_got_load (r_type b i k) then symbol_id file (r_symbol b i k) ∷ [] else []

-- those that the first n records of the section name
abbrev pub named_by : ℕ → List ℕ → ℕ → ℕ → List SymbolId
named_by file b i zero = []
named_by file b i (suc n) = named_by file b i n ++ named_at file b i n

-- those that all records of a file name, in record order
abbrev pub named_walk : Walk SymbolId
named_walk = record { count = e_shnum; items = λ file b i. named_by file b i (record_count b i) }

abbrev pub named_symbols : List (List ℕ) → ℕ → List SymbolId
named_symbols files file = items_in named_walk file (file_at files file) (e_shnum (file_at files file))

-- two symbols share a slot: they are one, or other files see both of them and they have one name
abbrev pub shares_slot : List (List ℕ) → SymbolId → SymbolId → Bool
shares_slot files a b =
    let x = file_at files a.file in
    let y = file_at files b.file in
    (a.file == b.file && a.symbol == b.symbol)
    || (not (is_local x a.symbol) && not (is_local y b.symbol) && bytes_eq (name_of x a.symbol) (name_of y b.symbol))

-- the slots, each told by the symbol that was named for it first, and one for a symbol more, where it shares none of them
abbrev pub with_slot : List (List ℕ) → List SymbolId → SymbolId → List SymbolId
with_slot files slots symbol = if list_any (shares_slot files symbol) slots then slots else slots ++ symbol ∷ []

abbrev pub with_slots : List (List ℕ) → List SymbolId → List SymbolId → List SymbolId
with_slots files slots symbols = fold (with_slot files) slots symbols

-- the slots of n files, the first of which is this one
abbrev pub slots_of : List (List ℕ) → ℕ → ℕ → List SymbolId
slots_of files first zero = []
slots_of files first (suc n) = with_slots files (slots_of files first n) (named_symbols files (first + n))

-- a load of a file names symbol j of it
abbrev pub names_symbol : List (List ℕ) → ℕ → ℕ → Bool
names_symbol files file j = list_any (λ s. s.symbol == j) (named_symbols files file)
