-- What a name stands for is a definition: a symbol of one of the files that is absolute or lies in a kept section.
use Rattle.std.proofs.Common.{◌≡◌, ◌<◌, ℕ, zero, suc, Bool, true, false, List, [], ◌∷◌, ◌&&◌, length, Option, Some, None}
use Rattle.std.proofs.Common.{slice_get, filter, sym, ap, ◌∙◌, refl, arith, subst, if◌then◌else◌}
use Rattle.std.specs.Str.{bytes_eq}
use Rattle.std.specs.Option.{option_map}
use Rattle.std.proofs.lemmas.Bool.{and_parts}
use Rattle.elf64_records.specs.Symbols.{symbol_count}
use Rattle.object_set.specs.Files.{file_at}
use Rattle.object_set.specs.Symbols.{is_local, is_global, is_common}
use Rattle.object_set.specs.declared.places.SymbolId.{SymbolId}
use Rattle.object_set.specs.laws.Walks.{item_from}
use Rattle.symbol_table.specs.declared.candidates.CommonSize.{CommonSize}
use Rattle.symbol_table.specs.declared.role.Role.{Role}
use Rattle.symbol_table.specs.declared.role.Role.TheVariants as role
use Rattle.symbol_table.specs.declared.candidates.Resolution.TheVariants as resolution
use Rattle.symbol_table.specs.Targets.{IsPlaced, is_defined}
use Rattle.symbol_table.specs.Externals.{External, role_of, external_symbol, external_walk, external_symbols}
use Rattle.symbol_table.specs.Candidates.{bearing, is_global_role, is_common_role, is_weak_role, id_of, common_of, first_resolution}
use Rattle.symbol_table.specs.Candidates.{stands_for}

-- a symbol of one of the files, with what it does for its name
record IsExternal (set : List (List ℕ)) (s : External) : Type 0 where
  placed : IsPlaced set s.file s.number
  role : s.role ≡ role_of (file_at set s.file) s.number

-- each of a list is such a symbol
abbrev AllExternal : List (List ℕ) → List External → Type 0
AllExternal set symbols = (k : ℕ) (s : External) → slice_get symbols k ≡ Some s → IsExternal set s

external_case : (set : List (List ℕ)) (file n : ℕ) (b : List ℕ) (local : Bool) → is_local b n ≡ local → b ≡ file_at set file →
    file < length set → n < symbol_count b →
    AllExternal set (if local then [] else external_symbol file b n ∷ [])
external_case set file n b true is same within below k s found = cc
external_case set file zero b false is same within below k s found = cc
external_case set file (suc n) b false is same within below zero s found =
    let this : external_symbol file b (suc n) ≡ s = cc in
    let f : s.file ≡ file = ap (λ (t : External). t.file) (sym this) in
    let j : s.number ≡ suc n = ap (λ (t : External). t.number) (sym this) in
    let r : s.role ≡ role_of b (suc n) = ap (λ (t : External). t.role) (sym this) in
    let bytes : file_at set s.file ≡ b = ap (file_at set) f ∙ sym same in
    let count : symbol_count (file_at set s.file) ≡ symbol_count b = ap symbol_count bytes in
    record {
      placed = record { file_in = omega (arith, f, within); some = omega (arith, j); within = omega (arith, j, count, below) };
      role = r ∙ ap (λ (i : ℕ). role_of b i) (sym j) ∙ ap (λ (c : List ℕ). role_of c s.number) (sym bytes);
    }
external_case set file (suc n) b false is same within below (suc k) s found = cc

-- the symbols that other files see are such symbols
all_external : (set : List (List ℕ)) → AllExternal set (external_symbols set)
all_external set k s found =
    let is = item_from external_walk set k s found in
    let b = file_at set is.file in
    external_case set is.file is.number b (is_local b is.number) refl refl is.file_in is.within is.offset s is.here

-- each of those that pass a test
record IsPicked (set : List (List ℕ)) (p : External → Bool) (s : External) : Type 0 where
  external : IsExternal set s
  passes : p s ≡ true

filter_case : (set : List (List ℕ)) (p : External → Bool) (x : External) (xs : List External) (b : Bool) → p x ≡ b → IsExternal set x →
    ((k : ℕ) (s : External) → slice_get (filter p xs) k ≡ Some s → IsPicked set p s) → (k : ℕ) (s : External) →
    slice_get (if b then x ∷ filter p xs else filter p xs) k ≡ Some s → IsPicked set p s
filter_case set p x xs false is first rest k s found = rest k s found
filter_case set p x xs true is first rest zero s found =
    let this : x ≡ s = cc in
    subst (λ (t : External). IsPicked set p t) this (record { external = first; passes = is })
filter_case set p x xs true is first rest (suc k) s found = rest k s found

filter_picks : (set : List (List ℕ)) (p : External → Bool) (xs : List External) → AllExternal set xs → (k : ℕ) (s : External) →
    slice_get (filter p xs) k ≡ Some s →
    IsPicked set p s
filter_picks set p [] all k s found = cc
filter_picks set p (x ∷ xs) all k s found =
    filter_case set p x xs (p x) refl (all 0 x refl) (filter_picks set p xs (λ i t f. all (suc i) t f)) k s found

-- a definition: a symbol of one of the files that is a place or a number by itself
pub record IsDefinition (set : List (List ℕ)) (d : SymbolId) : Type 0 where
  pub placed : IsPlaced set d.file d.symbol
  pub defined : is_defined (file_at set d.file) d.symbol ≡ true

-- what is said of a name's definitions by their roles
abbrev IsDefining : (Role → Bool) → Type 0
IsDefining does = (common defines global : Bool) →
    does (if common then role.Common else (if defines then (if global then role.Global else role.Weak) else role.Reference)) ≡ true →
    defines ≡ true

defining_global : IsDefining is_global_role
defining_global true defines global does = cc
defining_global false true global does = refl
defining_global false false global does = cc

defining_weak : IsDefining is_weak_role
defining_weak true defines global does = cc
defining_weak false true global does = refl
defining_weak false false global does = cc

role_defined : (does : Role → Bool) (b : List ℕ) (j : ℕ) → IsDefining does → does (role_of b j) ≡ true → is_defined b j ≡ true
unfolding role_of
role_defined does b j defining is = defining (is_common b j) (is_defined b j) (is_global b j) is

picked_definition : (set : List (List ℕ)) (does : Role → Bool) (name : List ℕ) (s : External) → IsDefining does →
    IsPicked set (λ t. bytes_eq name t.name && does t.role) s →
    IsDefinition set (id_of s)
picked_definition set does name s defining picked =
    let does_so : does s.role ≡ true = (and_parts (bytes_eq name s.name) (does s.role) picked.passes).1 in
    record {
      placed = picked.external.placed;
      defined = role_defined does (file_at set s.file) s.number defining (ap does (sym picked.external.role) ∙ does_so);
    }

first_definition : (set : List (List ℕ)) (does : Role → Bool) (name : List ℕ) (o : Option External) (d : SymbolId) → IsDefining does →
    slice_get (bearing does name (external_symbols set)) 0 ≡ o → option_map id_of o ≡ Some d → IsDefinition set d
first_definition set does name None d defining read is = cc
first_definition set does name (Some s) d defining read is =
    let all : AllExternal set (external_symbols set) = all_external set in
    let this : id_of s ≡ d = cc in
    let picked = filter_picks set (λ t. bytes_eq name t.name && does t.role) (external_symbols set) all 0 s read in
    subst (IsDefinition set) this (picked_definition set does name s defining picked)

resolution_case : (set : List (List ℕ)) (g w : Option SymbolId) (c : Option CommonSize) (d : SymbolId) →
    ((p : SymbolId) → g ≡ Some p → IsDefinition set p) → ((p : SymbolId) → w ≡ Some p → IsDefinition set p) →
    first_resolution g c w ≡ resolution.Definition d → IsDefinition set d
resolution_case set (Some p) w c d first last is =
    let this : p ≡ d = cc in
    subst (IsDefinition set) this (first p refl)
resolution_case set None w (Some c) d first last is = cc
resolution_case set None (Some p) None d first last is =
    let this : p ≡ d = cc in
    subst (IsDefinition set) this (last p refl)
resolution_case set None None None d first last is = cc

-- what a name stands for is a definition
pub name_definition : (set : List (List ℕ)) (name : List ℕ) (d : SymbolId) → stands_for set name ≡ resolution.Definition d →
    IsDefinition set d
name_definition set name d is =
    let symbols = external_symbols set in
    resolution_case set (option_map id_of (slice_get (bearing is_global_role name symbols) 0))
    (option_map id_of (slice_get (bearing is_weak_role name symbols) 0))
    (common_of (bearing is_common_role name symbols)) d
    (λ p at. first_definition set is_global_role name (slice_get (bearing is_global_role name symbols) 0) p defining_global refl at)
    (λ p at. first_definition set is_weak_role name (slice_get (bearing is_weak_role name symbols) 0) p defining_weak refl at) is

pub definition_placed : (set : List (List ℕ)) (name : List ℕ) (d : SymbolId) → stands_for set name ≡ resolution.Definition d →
    IsPlaced set d.file d.symbol
definition_placed set name d is = (name_definition set name d is).placed
