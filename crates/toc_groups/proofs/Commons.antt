-- Commons may be laid out: their alignment is that of one of their symbols.
use Rattle.std.proofs.Common.{ℕ, zero, suc, ◌≡◌, ◌<◌, ◌≤◌, ◌+◌, inl, inr, Bool, true, false, ◌&&◌, List, [], ◌∷◌, ◌++◌, length, take, map, max}
use Rattle.std.proofs.Common.{Option, Some, None, slice_get, if◌then◌else◌, ap, sym, subst, ◌∙◌, refl, arith, add-one}
use Rattle.std.specs.Prelude.{filter_map}
use Rattle.std.specs.Option.{option_map}
use Rattle.std.specs.List.{AllByRecursion, cons_option}
use Rattle.std.specs.Str.{bytes_eq}
use Rattle.std.proofs.lemmas.Bool.{cases_lt}
use Rattle.std.proofs.lemmas.Bool.Decides.{nat_tests}
use Rattle.std.proofs.Math.Seq.{take-length}
use Rattle.ppc_bytes.specs.Bytes.{IsPowerOfTwo}
use Rattle.elf64_records.specs.Symbols.{symbol_count}
use Rattle.object_set.specs.declared.places.SymbolId.{SymbolId}
use Rattle.object_set.specs.Files.{file_at}
use Rattle.object_set.specs.Refusals.{set_refusal}
use Rattle.object_set.specs.Symbols.{is_local, is_common}
use Rattle.object_set.specs.Walks.{items_in, items_before}
use Rattle.object_set.specs.laws.Fit.{file_fit, symbol_fit}
use Rattle.symbol_table.specs.declared.candidates.CommonSize.{CommonSize}
use Rattle.symbol_table.specs.declared.candidates.Candidates.{Candidates}
use Rattle.symbol_table.specs.Externals.{External, role_of, external_symbol, external_at, external_walk, external_symbols, names_of}
use Rattle.symbol_table.specs.Candidates.{is_common_role, bearing, largest, common_of, candidates_of, first_resolution, resolution_of, common_in, all_candidates, all_commons}
use Rattle.symbol_table.specs.Resolved.{size_pair}
use Rattle.toc_groups.specs.declared.extents.Extent.{Extent}
use Rattle.toc_groups.specs.Runs.{IsFitExtent}
use Rattle.toc_groups.specs.Sections.{common_extent, commons_of}
use Rattle.toc_groups.proofs.Every.{all_append}

pub record IsFitAlign (a : ℕ) : Type 0 where
  pub power : IsPowerOfTwo a
  pub most : a ≤ 0x10000

-- the value of a common symbol is its alignment
abbrev IsFitCommon : External → Type 0
IsFitCommon s = is_common_role s.role ≡ true → IsFitAlign s.value

common_role : (b : List ℕ) (j : ℕ) → is_common_role (role_of b j) ≡ true → is_common b j ≡ true
unfolding role_of
common_role b j is = grind (arith, is)

symbol_case : (files : List (List ℕ)) (file j : ℕ) (own : Bool) → set_refusal files ≡ None → file < length files →
    j < symbol_count (file_at files file) → is_local (file_at files file) j ≡ own →
    AllByRecursion IsFitCommon (if own then [] else external_symbol file (file_at files file) j ∷ [])
symbol_case files file j true whole within inside is = tt
symbol_case files file j false whole within inside is =
    let b = file_at files file in
    let above : 1 ≤ j = grind (arith, nat_tests, is) in (
      λ role.
          let fit = symbol_fit file b j (file_fit files file whole within) above inside in
          let common = common_role b j role in
          record { power = fit.common_align common; most = fit.common_align_most common },
      tt,
    )

symbols_in : (files : List (List ℕ)) (file n : ℕ) → set_refusal files ≡ None → file < length files →
    n ≤ symbol_count (file_at files file) → AllByRecursion IsFitCommon (items_in external_walk file (file_at files file) n)
symbols_in files file zero whole within few = tt
symbols_in files file (suc n) whole within few =
    let b = file_at files file in
    all_append IsFitCommon (items_in external_walk file b n) (external_at file b n)
    (symbols_in files file n whole within (omega (arith, few)))
    (symbol_case files file n (is_local b n) whole within (omega (arith, few)) refl)

symbols_before : (files : List (List ℕ)) (n : ℕ) → set_refusal files ≡ None → n ≤ length files →
    AllByRecursion IsFitCommon (items_before external_walk files n)
symbols_before files zero whole few = tt
symbols_before files (suc n) whole few =
    let b = file_at files n in
    all_append IsFitCommon (items_before external_walk files n) (items_in external_walk n b (symbol_count b))
    (symbols_before files n whole (omega (arith, few))) (symbols_in files n (symbol_count b) whole (omega (arith, few)) (omega arith))

-- those that bear a name
abbrev HasFitAlign : External → Type 0
HasFitAlign s = IsFitAlign s.value

and_false : (b : Bool) → (b && false) ≡ false
and_false true = refl
and_false false = refl

bearing_case : (name : List ℕ) (s : External) (xs : List External) (t role : Bool) → IsFitCommon s → AllByRecursion HasFitAlign xs →
    is_common_role s.role ≡ role → (bytes_eq name s.name && role) ≡ t → AllByRecursion HasFitAlign (if t then s ∷ xs else xs)
bearing_case name s xs true true fit rest is test = (fit is, rest)
bearing_case name s xs true false fit rest is test =
    let same : (bytes_eq name s.name && false) ≡ false = and_false (bytes_eq name s.name) in
    cc
bearing_case name s xs false role fit rest is test = rest

bearing_fit : (name : List ℕ) (xs : List External) → AllByRecursion IsFitCommon xs →
    AllByRecursion HasFitAlign (bearing is_common_role name xs)
bearing_fit name [] fit = tt
bearing_fit name (s ∷ xs) fit =
    bearing_case name s (bearing is_common_role name xs) (bytes_eq name s.name && is_common_role s.role) (is_common_role s.role) fit.0
    (bearing_fit name xs fit.1) refl refl

max_case : (a b : ℕ) → IsFitAlign a → IsFitAlign b → IsFitAlign (max a b)
max_case a b first second = elim (cases_lt a b) [
  | inl less ↦ (let is : b ≡ max a b = omega (arith, less) in subst IsFitAlign is second)
  | inr most ↦ (let is : a ≡ max a b = omega (arith, most) in subst IsFitAlign is first)
]

largest_fit : (s : External) (xs : List External) → HasFitAlign s → AllByRecursion HasFitAlign xs → IsFitAlign (largest (s ∷ xs)).align
largest_fit s [] this rest = (let is : s.value ≡ max s.value 0 = omega arith in subst IsFitAlign is this)
largest_fit s (t ∷ xs) this rest = max_case s.value (largest (t ∷ xs)).align this (largest_fit t xs rest.0 rest.1)

common_case : (xs : List External) (common : CommonSize) → AllByRecursion HasFitAlign xs → common_of xs ≡ Some common →
    IsFitAlign common.align
common_case [] common fit is = cc
common_case (s ∷ xs) common fit is =
    let same : largest (s ∷ xs) ≡ common = cc in
    subst (λ (c : CommonSize). IsFitAlign c.align) same (largest_fit s xs fit.0 fit.1)

resolution_case : (global : Option SymbolId) (o : Option CommonSize) (weak : Option SymbolId) (common : CommonSize) →
    common_in (first_resolution global o weak) ≡ Some common → o ≡ Some common
resolution_case (Some g) o weak common is = cc
resolution_case None (Some c) weak common is = is
resolution_case None None (Some w) common is = cc
resolution_case None None None common is = cc

abbrev HasFit : CommonSize → Type 0
HasFit common = IsFitAlign common.align

names_case : (symbols : List External) (name : List ℕ) (o : Option CommonSize) (rest : List CommonSize) →
    common_in (resolution_of (candidates_of symbols name)) ≡ o → AllByRecursion IsFitCommon symbols → AllByRecursion HasFit rest →
    AllByRecursion HasFit (cons_option o rest)
names_case symbols name None rest is fit others = others
names_case symbols name (Some common) rest is fit others =
    let c = candidates_of symbols name in
    let found : c.common ≡ Some common = resolution_case c.global c.common c.weak common is in
    (common_case (bearing is_common_role name symbols) common (bearing_fit name symbols fit) found, others)

names_fit : (symbols : List External) (names : List (List ℕ)) → AllByRecursion IsFitCommon symbols →
    AllByRecursion HasFit (filter_map (λ c. common_in (resolution_of c)) (map (candidates_of symbols) names))
names_fit symbols [] fit = tt
names_fit symbols (name ∷ names) fit =
    names_case symbols name (common_in (resolution_of (candidates_of symbols name)))
    (filter_map (λ c. common_in (resolution_of c)) (map (candidates_of symbols) names)) refl fit (names_fit symbols names fit)

all_fit : (files : List (List ℕ)) → set_refusal files ≡ None → AllByRecursion HasFit (all_commons files)
all_fit files whole =
    let candidates = all_candidates files in
    let all : take (length candidates) candidates ≡ candidates = take-length candidates in
    subst (λ (cs : List Candidates). AllByRecursion HasFit (filter_map (λ c. common_in (resolution_of c)) cs)) (sym all)
    (names_fit (external_symbols files) (names_of (external_symbols files)) (symbols_before files (length files) whole (omega arith)))

extents_fit : (commons : List CommonSize) → AllByRecursion HasFit commons → AllByRecursion IsFitExtent (map common_extent commons)
extents_fit [] fit = tt
extents_fit (c ∷ commons) fit = (record { power = fit.0.power; most = fit.0.most }, extents_fit commons fit.1)

-- the commons of files may be laid out
pub commons_fit : (files : List (List ℕ)) → set_refusal files ≡ None → AllByRecursion IsFitExtent (commons_of files)
commons_fit files whole = extents_fit (all_commons files) (all_fit files whole)

-- one common more
common_next : (commons : List CommonSize) (c size align : ℕ) → c < length commons →
    option_map size_pair (slice_get commons c) ≡ Some (size, align) →
    map common_extent (take (suc c) commons) ≡ map common_extent (take c commons) ++ (record { size = size; align = align }) ∷ []
common_next [] c size align within is = absurd (omega (arith, within))
common_next (x ∷ commons) zero size align within is =
    let pair : (x.size, x.align) ≡ (size, align) = cc in
    ap (λ (p : ℕ × ℕ). (record { size = p.0; align = p.1 }) ∷ []) pair
common_next (x ∷ commons) (suc c) size align within is =
    ap (λ (l : List Extent). common_extent x ∷ l) (common_next commons c size align (omega (arith, within)) is)

pub commons_more : (commons : List CommonSize) (c size align : ℕ) (old new : List Extent) → c < length commons →
    option_map size_pair (slice_get commons c) ≡ Some (size, align) → old ≡ map common_extent (take c commons) →
    new ≡ old ++ (record { size = size; align = align }) ∷ [] → new ≡ map common_extent (take (c + 1) commons)
commons_more commons c size align old new within is before next =
    next ∙ ap (λ (l : List Extent). l ++ (record { size = size; align = align }) ∷ []) before
    ∙ sym (common_next commons c size align within is) ∙ ap (λ (n : ℕ). map common_extent (take n commons)) (sym (add-one c))
