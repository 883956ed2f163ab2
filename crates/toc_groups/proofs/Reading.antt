-- What is read of a plan is what the files have: addresses of pieces and targets, bases and slots.
use Rattle.std.proofs.Common.{ℕ, ℤ, zero, suc, ◌≡◌, ◌<◌, ◌+◌, ◌*◌, Bool, true, false, ◌==◌, List, [], ◌∷◌, length, length-append, map, get_or, Option, Some, None, slice_get, ap, sym, subst, ◌∙◌, refl, arith, if◌then◌else◌}
use Rattle.std.specs.List.{range_with_len}
use Rattle.std.specs.Option.{option_map}
use Rattle.std.proofs.lemmas.Bool.Decides.{nat_tests}
use Rattle.std.proofs.lemmas.List.{length-map}
use Rattle.std.proofs.lemmas.List.FromFn.{get_or-map-range_with_len, length-map-range_with_len}
use Rattle.std.proofs.lemmas.Option.{slice_get_within, get_or_from_slice_get}
use Rattle.elf64_records.specs.FileHeader.{e_shnum}
use Rattle.elf64_records.specs.Symbols.{symbol_count, st_value}
use Rattle.object_set.specs.declared.places.SymbolId.{SymbolId}
use Rattle.object_set.specs.declared.sort.Sort.{Sort}
use Rattle.object_set.specs.declared.sort.Sort.TheVariants.{Text, Zeroed, Toc, Writable, ReadOnly, Dropped}
use Rattle.object_set.specs.Files.{file_at}
use Rattle.object_set.specs.Refusals.{set_refusal}
use Rattle.object_set.specs.Sections.{sort_of}
use Rattle.object_set.specs.Symbols.{name_of, is_local, is_weak, has_section, section_index, index_of as symbol_section, is_absolute, is_toc_base}
use Rattle.object_set.specs.Walks.{items_in, items_before, all_items, index_of, section_walk}
use Rattle.object_set.specs.laws.Fit.{file_fit, symbol_fit}
use Rattle.object_set.specs.laws.Walks.{item_at, get_left, get_right}
use Rattle.symbol_table.specs.declared.candidates.Resolution.{Resolution}
use Rattle.symbol_table.specs.declared.candidates.Resolution.TheVariants as resolution
use Rattle.symbol_table.specs.declared.target.Piece.{Piece}
use Rattle.symbol_table.specs.declared.target.Piece.TheVariants.{Section, Common}
use Rattle.symbol_table.specs.declared.target.Target.{Target}
use Rattle.symbol_table.specs.declared.target.Target.TheVariants.{Data, Code, Number, TocBase, WeakNone}
use Rattle.symbol_table.specs.Candidates.{stands_for, all_commons, common_number}
use Rattle.symbol_table.specs.Targets.{IsPlaced, plus_addend, section_target, index_target, own_target, named_target, external_target, target_of}
use Rattle.symbol_table.specs.laws.Definitions.{definition_placed}
use Rattle.toc_groups.specs.Sections.{commons_of, common_extent}
use Rattle.toc_groups.specs.Groups.{group_number, group_count}
use Rattle.toc_groups.specs.Data.{group_start, group_slots, base_of, section_address, address_walk, common_address, piece_address, target_address, slot_number, slot_row, slot_address}
use Rattle.toc_groups.specs.Plans.{LaidData, IsPlan, IsLaidPiece, IsLaidTarget, IsLaidSymbol, piece_index, address_in, row_in, slot_in}
use Rattle.toc_groups.specs.Parts.{IsPieceOf, IsTargetOf}
use Rattle.symbol_table.specs.laws.Targets.{code_within}
use Rattle.toc_groups.proofs.CommonNumbers.{common_below}
use Rattle.toc_groups.proofs.GroupFiles.{number_below}
use Rattle.toc_groups.proofs.ReadPlaces.{address_count}

module _ (files : List (List ℕ)) (span : ℕ) (plan : LaidData) (is : IsPlan files span plan) where
  -- ---- lists of files and groups

  files_read : (f : ℕ → ℕ) (xs : List ℕ) (file : ℕ) → xs ≡ map f (range_with_len 0 (length files)) → file < length files →
      get_or xs file 0 ≡ f file
  files_read f xs file are within =
      ap (λ (l : List ℕ). get_or l file 0) are ∙ get_or-map-range_with_len f 0 (length files) file file 0 within (omega arith)

  files_long : (f : ℕ → ℕ) (xs : List ℕ) → xs ≡ map f (range_with_len 0 (length files)) → length xs ≡ length files
  files_long f xs are = ap (λ (l : List ℕ). length l) are ∙ length-map-range_with_len f 0 (length files)

  pub group_is : (file : ℕ) → file < length files → get_or plan.groups file 0 ≡ group_number files span file
  group_is file within = files_read (group_number files span) plan.groups file is.groups within

  pub base_is : (file : ℕ) → file < length files → get_or plan.bases file 0 ≡ base_of files span file
  base_is file within = files_read (base_of files span) plan.bases file is.bases within

  pub bases_long : length plan.bases ≡ length files
  bases_long = files_long (base_of files span) plan.bases is.bases

  pub first_is : (file : ℕ) → file < length files → get_or plan.firsts file 0 ≡ length (items_before section_walk files file) + 0
  first_is file within = files_read (λ f. index_of section_walk files f 0) plan.firsts file is.firsts within

  pub start_is : (g : ℕ) → g < group_count files span → get_or plan.starts g 0 ≡ group_start files span g
  start_is g within =
      ap (λ (l : List ℕ). get_or l g 0) is.starts
      ∙ get_or-map-range_with_len (group_start files span) 0 (group_count files span) g g 0 within (omega arith)

  -- ---- addresses of pieces

  section_items : (file : ℕ) (b : List ℕ) (n : ℕ) → length (items_in section_walk file b n) ≡ n
  section_items file b zero = refl
  section_items file b (suc n) =
      let one = length-append (items_in section_walk file b n) (section_walk.items file b n) in
      omega (arith, one, section_items file b n)

  address_items : (file : ℕ) (b : List ℕ) (n : ℕ) → length (items_in (address_walk files span) file b n) ≡ n
  address_items file b zero = refl
  address_items file b (suc n) =
      let one = length-append (items_in (address_walk files span) file b n) (section_address files span file b n ∷ []) in
      omega (arith, one, address_items file b n)

  -- which address is a section's
  index_is : (file i : ℕ) → file < length files → get_or plan.firsts file 0 + i ≡ index_of (address_walk files span) files file i
  index_is file i within =
      omega (arith, first_is file within, address_count files span file, address_items file (file_at files file) i)

  abbrev commons_there : List ℕ
  commons_there = map (common_address files span) (range_with_len 0 (length (commons_of files)))

  pub section_found : (file i : ℕ) → file < length files → i < e_shnum (file_at files file) →
      slice_get plan.pieces (get_or plan.firsts file 0 + i) ≡ Some (section_address files span file (file_at files file) i)
  section_found file i within inside =
      let b = file_at files file in
      let here = item_at (address_walk files span) files file i 0 (section_address files span file b i) within inside refl in
      let k : index_of (address_walk files span) files file i + 0 ≡ get_or plan.firsts file 0 + i =
      omega (arith, index_is file i within) in
      ap (λ (l : List ℕ). slice_get l (get_or plan.firsts file 0 + i)) is.pieces
      ∙ get_left (all_items (address_walk files span) files) commons_there (get_or plan.firsts file 0 + i)
      (section_address files span file b i)
      (ap (slice_get (all_items (address_walk files span) files)) (sym k) ∙ here)

  commons_count : plan.commons ≡ length (all_items (address_walk files span) files)
  commons_count = is.commons ∙ sym (address_count files span (length files))

  range_found : (f : ℕ → ℕ) (first n k : ℕ) → k < n → slice_get (map f (range_with_len first n)) k ≡ Some (f (first + k))
  range_found f first zero k within = absurd (omega (arith, within))
  range_found f first (suc n) zero within = ap (λ (x : ℕ). Some (f x)) (let e : first ≡ first + 0 = omega arith in e)
  range_found f first (suc n) (suc k) within =
      range_found f (first + 1) n k (omega (arith, within))
      ∙ ap (λ (x : ℕ). Some (f x)) (let e : first + 1 + k ≡ first + suc k = omega arith in e)

  pub common_found : (c : ℕ) → c < length (commons_of files) → slice_get plan.pieces (plan.commons + c) ≡ Some (common_address files span c)
  common_found c within =
      let there = range_found (common_address files span) 0 (length (commons_of files)) c within in
      let e : 0 + c ≡ c = omega arith in
      ap (λ (l : List ℕ). slice_get l (plan.commons + c)) is.pieces
      ∙ get_right (all_items (address_walk files span) files) commons_there (plan.commons + c) c (common_address files span c)
      (omega (arith, commons_count)) (there ∙ ap (λ (x : ℕ). Some (common_address files span x)) e)

  pub firsts_long : length plan.firsts ≡ length files
  firsts_long = files_long (λ f. index_of section_walk files f 0) plan.firsts is.firsts

  pub laid_piece : (piece : Piece) → IsPieceOf files piece → IsLaidPiece plan piece
  laid_piece (Section file i) within = (
    omega (arith, within.0, firsts_long),
    slice_get_within plan.pieces (get_or plan.firsts file 0 + i) (section_address files span file (file_at files file) i)
        (section_found file i within.0 within.1),
  )
  laid_piece (Common c) within =
      slice_get_within plan.pieces (plan.commons + c) (common_address files span c) (common_found c within)

  pub piece_is : (piece : Piece) → IsPieceOf files piece → get_or plan.pieces (piece_index plan piece) 0 ≡ piece_address files span piece
  piece_is (Section file i) within =
      get_or_from_slice_get plan.pieces (get_or plan.firsts file 0 + i) (section_address files span file (file_at files file) i) 0
      (section_found file i within.0 within.1)
  piece_is (Common c) within =
      get_or_from_slice_get plan.pieces (plan.commons + c) (common_address files span c) 0 (common_found c within)

  -- ---- targets

  pub laid_target : (target : Target) → IsTargetOf files target → IsLaidTarget plan target
  laid_target (Data piece addend) within = laid_piece piece within
  laid_target (Code section offset) within = tt
  laid_target (Number n) within = tt
  laid_target (TocBase file addend) within = omega (arith, within, bases_long)
  laid_target (WeakNone addend) within = tt

  -- where a target lies is read of the plan
  pub address_is : (target : Target) → IsTargetOf files target → address_in plan target ≡ target_address files span target
  address_is (Data piece addend) within = ap (λ (x : ℕ). Some (plus_addend x addend)) (piece_is piece within)
  address_is (Code section offset) within = refl
  address_is (Number n) within = refl
  address_is (TocBase file addend) within = ap (λ (x : ℕ). Some (plus_addend x addend)) (base_is file within)
  address_is (WeakNone addend) within = refl

  -- ---- slots

  row_is : (file : ℕ) → file < length files → row_in plan file ≡ slot_row files span file
  row_is file within =
      ap (λ (l : List (List (Option ℕ))). get_or l file []) is.slots
      ∙ get_or-map-range_with_len (slot_row files span) 0 (length files) file file [] within (omega arith)

  row_long : (file : ℕ) → file < length files → length (row_in plan file) ≡ symbol_count (file_at files file)
  row_long file within =
      ap (λ (l : List (Option ℕ)). length l) (row_is file within)
      ∙ length-map-range_with_len (slot_number files span file) 0 (symbol_count (file_at files file))

  pub laid_symbol : (file j : ℕ) → file < length files → j < symbol_count (file_at files file) → IsLaidSymbol plan file j
  laid_symbol file j within inside = record {
    file_in = omega (arith, within, files_long (group_number files span) plan.groups is.groups);
    within = omega (arith, inside, row_long file within);
  }

  -- where a slot lies is read of the plan
  pub slot_is : (file j : ℕ) → file < length files → j < symbol_count (file_at files file) →
      slot_in plan file j ≡ slot_address files span file j
  slot_is file j within inside =
      let number : get_or (row_in plan file) j None ≡ slot_number files span file j =
      ap (λ (l : List (Option ℕ)). get_or l j None) (row_is file within)
      ∙ get_or-map-range_with_len (slot_number files span file) 0 (symbol_count (file_at files file)) j j None inside (omega arith) in
      let start : get_or plan.starts (get_or plan.groups file 0) 0 ≡ group_start files span (group_number files span file) =
      ap (λ (g : ℕ). get_or plan.starts g 0) (group_is file within)
      ∙ start_is (group_number files span file) (number_below files span file within) in
      ap (λ (s : ℕ). option_map (λ k. s + 8 * k) (get_or (row_in plan file) j None)) start
      ∙ ap (option_map (λ k. group_start files span (group_number files span file) + 8 * k)) number

-- ---- where symbols go is in the files

section_data : (files : List (List ℕ)) (file at i : ℕ) (sort : Sort) (piece : Piece) (addend : ℤ) → file < length files →
    i < e_shnum (file_at files file) → section_target files file at i sort ≡ Some (Data piece addend) → IsPieceOf files piece
section_data files file at i Text piece addend within inside is = cc
section_data files file at i Zeroed piece addend within inside is =
    let this : Section file i ≡ piece = cc in subst (IsPieceOf files) this (within, inside)
section_data files file at i Toc piece addend within inside is =
    let this : Section file i ≡ piece = cc in subst (IsPieceOf files) this (within, inside)
section_data files file at i Writable piece addend within inside is =
    let this : Section file i ≡ piece = cc in subst (IsPieceOf files) this (within, inside)
section_data files file at i ReadOnly piece addend within inside is =
    let this : Section file i ≡ piece = cc in subst (IsPieceOf files) this (within, inside)
section_data files file at i Dropped piece addend within inside is = cc

index_data : (files : List (List ℕ)) (file j at : ℕ) (piece : Piece) (addend : ℤ) (has : Bool) → has_section (file_at files file) j ≡ has →
    set_refusal files ≡ None → IsPlaced files file j →
    index_target files file at (if has then Some (symbol_section (file_at files file) j) else None) ≡ Some (Data piece addend) →
    IsPieceOf files piece
index_data files file j at piece addend false has whole placed is = cc
index_data files file j at piece addend true has whole placed is =
    let b = file_at files file in
    let i = symbol_section b j in
    section_data files file at i (sort_of b i) piece addend placed.file_in
    ((symbol_fit file b j (file_fit files file whole placed.file_in) placed.some placed.within).section has) is

own_data : (files : List (List ℕ)) (file j : ℕ) (a : ℤ) (piece : Piece) (addend : ℤ) (absolute : Bool) → set_refusal files ≡ None →
    IsPlaced files file j →
    (if absolute then Some (Number (plus_addend (st_value (file_at files file) j) a))
    else index_target files file (plus_addend (st_value (file_at files file) j) a) (section_index (file_at files file) j))
    ≡ Some (Data piece addend) → IsPieceOf files piece
own_data files file j a piece addend true whole placed is = cc
own_data files file j a piece addend false whole placed is =
    index_data files file j (plus_addend (st_value (file_at files file) j) a) piece addend (has_section (file_at files file) j) refl whole
    placed is

named_data : (files : List (List ℕ)) (name : List ℕ) (weak : Bool) (stands : Resolution) (a : ℤ) (piece : Piece) (addend : ℤ) →
    set_refusal files ≡ None → stands_for files name ≡ stands →
    named_target files name weak stands a ≡ Some (Data piece addend) → IsPieceOf files piece
named_data files name weak (resolution.Definition s) a piece addend whole stands is =
    own_data files s.file s.symbol a piece addend (is_absolute (file_at files s.file) s.symbol) whole
    (definition_placed files name s stands) is
named_data files name weak (resolution.Common common) a piece addend whole stands is =
    let this : Common (common_number files name) ≡ piece = cc in
    let below = common_below files name common stands in
    let long = length-map (all_commons files) common_extent in
    subst (IsPieceOf files) this (omega (arith, below, long))
named_data files name true resolution.Undefined a piece addend whole stands is = cc
named_data files name false resolution.Undefined a piece addend whole stands is = cc

target_data : (files : List (List ℕ)) (file j : ℕ) (a : ℤ) (piece : Piece) (addend : ℤ) (none base local : Bool) → (j == 0) ≡ none →
    set_refusal files ≡ None → file < length files → j < symbol_count (file_at files file) →
    (if none then Some (Number (plus_addend 0 a))
    else (if base then Some (TocBase file a)
    else (if local then own_target files file j a
    else external_target files file j a))) ≡ Some (Data piece addend) → IsPieceOf files piece
target_data files file j a piece addend true base local zeroth whole within inside is = cc
target_data files file j a piece addend false true local zeroth whole within inside is = cc
target_data files file j a piece addend false false true zeroth whole within inside is =
    let some : 0 < j = grind (arith, nat_tests, zeroth) in
    own_data files file j a piece addend (is_absolute (file_at files file) j) whole
    (record { file_in = within; some = some; within = inside }) is
target_data files file j a piece addend false false false zeroth whole within inside is =
    let b = file_at files file in
    named_data files (name_of b j) (is_weak b j) (stands_for files (name_of b j)) a piece addend whole refl is

section_base : (files : List (List ℕ)) (file at i : ℕ) (sort : Sort) (f : ℕ) (addend : ℤ) →
    section_target files file at i sort ≡ Some (TocBase f addend) → ⊥
section_base files file at i Text f addend is = cc
section_base files file at i Zeroed f addend is = cc
section_base files file at i Toc f addend is = cc
section_base files file at i Writable f addend is = cc
section_base files file at i ReadOnly f addend is = cc
section_base files file at i Dropped f addend is = cc

index_base : (files : List (List ℕ)) (file at : ℕ) (o : Option ℕ) (f : ℕ) (addend : ℤ) →
    index_target files file at o ≡ Some (TocBase f addend) → ⊥
index_base files file at None f addend is = cc
index_base files file at (Some i) f addend is = section_base files file at i (sort_of (file_at files file) i) f addend is

own_base : (files : List (List ℕ)) (file at : ℕ) (o : Option ℕ) (absolute : Bool) (f : ℕ) (addend : ℤ) →
    (if absolute then Some (Number at) else index_target files file at o) ≡ Some (TocBase f addend) → ⊥
own_base files file at o true f addend is = cc
own_base files file at o false f addend is = index_base files file at o f addend is

named_base : (files : List (List ℕ)) (name : List ℕ) (weak : Bool) (stands : Resolution) (a : ℤ) (f : ℕ) (addend : ℤ) →
    named_target files name weak stands a ≡ Some (TocBase f addend) → ⊥
named_base files name weak (resolution.Definition s) a f addend is =
    let b = file_at files s.file in
    own_base files s.file (plus_addend (st_value b s.symbol) a) (section_index b s.symbol) (is_absolute b s.symbol) f addend is
named_base files name weak (resolution.Common common) a f addend is = cc
named_base files name true resolution.Undefined a f addend is = cc
named_base files name false resolution.Undefined a f addend is = cc

target_base : (files : List (List ℕ)) (file j : ℕ) (a : ℤ) (f : ℕ) (addend : ℤ) (none base local : Bool) →
    (if none then Some (Number (plus_addend 0 a))
    else (if base then Some (TocBase file a)
    else (if local then own_target files file j a
    else external_target files file j a))) ≡ Some (TocBase f addend) → file ≡ f
target_base files file j a f addend true base local is = cc
target_base files file j a f addend false true local is = cc
target_base files file j a f addend false false true is =
    let b = file_at files file in
    absurd (own_base files file (plus_addend (st_value b j) a) (section_index b j) (is_absolute b j) f addend is)
target_base files file j a f addend false false false is =
    let b = file_at files file in
    absurd (named_base files (name_of b j) (is_weak b j) (stands_for files (name_of b j)) a f addend is)

-- where a symbol goes is a target of the files
pub target_in : (files : List (List ℕ)) (file j : ℕ) (a : ℤ) (target : Target) → set_refusal files ≡ None → file < length files →
    j < symbol_count (file_at files file) → target_of files file j a ≡ Some target → IsTargetOf files target
target_in files file j a (Data piece addend) whole within inside is =
    let b = file_at files file in
    target_data files file j a piece addend (j == 0) (is_toc_base b j) (is_local b j) refl whole within inside is
target_in files file j a (Code section offset) whole within inside is = code_within files file j a section offset whole within inside is
target_in files file j a (Number n) whole within inside is = tt
target_in files file j a (TocBase f addend) whole within inside is =
    let b = file_at files file in
    omega (arith, within, target_base files file j a f addend (j == 0) (is_toc_base b j) (is_local b j) is)
target_in files file j a (WeakNone addend) whole within inside is = tt

named_range : (f : ℕ → List SymbolId) (first n k : ℕ) → k < n → slice_get (map f (range_with_len first n)) k ≡ Some (f (first + k))
named_range f first zero k within = absurd (omega (arith, within))
named_range f first (suc n) zero within = ap (λ (x : ℕ). Some (f x)) (let e : first ≡ first + 0 = omega arith in e)
named_range f first (suc n) (suc k) within =
    named_range f (first + 1) n k (omega (arith, within))
    ∙ ap (λ (x : ℕ). Some (f x)) (let e : first + 1 + k ≡ first + suc k = omega arith in e)

module _ (files : List (List ℕ)) (span : ℕ) (plan : LaidData) (is : IsPlan files span plan) where
  -- groups and their slots
  pub named_found : (g : ℕ) → g < group_count files span → slice_get plan.named g ≡ Some (group_slots files span g)
  named_found g within =
      ap (λ (l : List (List SymbolId)). slice_get l g) is.named ∙ named_range (group_slots files span) 0 (group_count files span) g within
      ∙ ap (λ (k : ℕ). Some (group_slots files span k)) (let e : 0 + g ≡ g = omega arith in e)

  pub named_long : length plan.named ≡ group_count files span
  named_long =
      ap (λ (l : List (List SymbolId)). length l) is.named ∙ length-map-range_with_len (group_slots files span) 0 (group_count files span)

  pub starts_long : length plan.starts ≡ group_count files span
  starts_long = ap (λ (l : List ℕ). length l) is.starts ∙ length-map-range_with_len (group_start files span) 0 (group_count files span)

  -- what is read as the slots of a group
  pub slots_read : (g : ℕ) (xs : List SymbolId) → g < group_count files span → slice_get plan.named g ≡ Some xs →
      xs ≡ group_slots files span g
  slots_read g xs within read =
      let both : Some (group_slots files span g) ≡ Some xs = sym (named_found g within) ∙ read in
      cc
