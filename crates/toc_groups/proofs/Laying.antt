-- Runs grow with each piece, and what passes the end of data stays past it.
use Rattle.std.proofs.Common.{ℕ, zero, suc, ◌≡◌, ◌<◌, ◌≤◌, ◌+◌, ◌-◌, ◌%◌, Bool, true, false, ◌==◌, List, [], ◌∷◌, ◌++◌, length, take, map, get_or}
use Rattle.std.proofs.Common.{Some, None, if◌then◌else◌, inl, inr, ap, sym, subst, ◌∙◌, refl, arith, append_assoc}
use Rattle.std.specs.List.{AllByRecursion, range_with_len}
use Rattle.std.proofs.lemmas.Bool.{cases_lt}
use Rattle.std.proofs.lemmas.Bool.Decides.{nat_tests}
use Rattle.std.proofs.lemmas.List.{take_more}
use Rattle.std.proofs.lemmas.List.FromFn.{map-range_with_len_more}
use Rattle.std.proofs.lemmas.Nat.{div-add-mod'}
use Rattle.elf64_records.specs.FileHeader.{e_shnum}
use Rattle.object_set.specs.declared.refusal.Refusal.{Refusal}
use Rattle.object_set.specs.declared.refusal.Refusal.TheVariants.{DataTooBig}
use Rattle.object_set.specs.declared.sort.Sort.{Sort}
use Rattle.object_set.specs.declared.sort.Sort.TheVariants.{Text, Zeroed, Toc, Writable, ReadOnly, Dropped}
use Rattle.object_set.specs.Files.{file_at}
use Rattle.object_set.specs.Refusals.{set_refusal}
use Rattle.object_set.specs.Sections.{sort_of, is_kept_sort}
use Rattle.object_set.specs.Walks.{items_in, items_before}
use Rattle.object_set.specs.laws.Fit.{file_fit, section_fit}
use Rattle.layout_rounds.specs.Shapes.{aligned}
use Rattle.layout_rounds.proofs.Aligned.{power_pos}
use Rattle.toc_groups.specs.declared.extents.Extent.{Extent}
use Rattle.toc_groups.specs.declared.extents.TheConstants.{DATA_END}
use Rattle.toc_groups.specs.Runs.{placed, behind, run_end, run_place, no_piece, IsFitExtent}
use Rattle.toc_groups.specs.Sections.{same_sort, section_extent, extent_at, sort_walk, sections_of}
use Rattle.toc_groups.specs.inside.Limits.{past_limit}
use Rattle.toc_groups.proofs.Begins.{Begins, in_all, before_all, take_begins}
use Rattle.toc_groups.proofs.Every.{all_append, all_right}
use Rattle.toc_groups.proofs.Runs.{run_end-append}

-- ---- runs grow

pub aligned_least : (n a : ℕ) → 0 < a → n ≤ aligned n a
aligned_least n a some =
    let parts = div-add-mod' (n + (a - 1)) a in
    let rest : (n + (a - 1)) % a < a = omega (arith, some) in
    omega (arith, parts, rest, some)

grows_case : (end : ℕ) (piece : Extent) (none : Bool) → end ≤ placed end piece →
    end ≤ (if none then end else placed end piece + piece.size)
grows_case end piece true low = omega arith
grows_case end piece false low = omega (arith, low)

pub behind_least : (end : ℕ) (piece : Extent) → IsFitExtent piece → end ≤ behind end piece
behind_least end piece fit =
    grows_case end piece (piece.size == 0) (aligned_least end piece.align (power_pos piece.align fit.power))

pub run_grows : (pieces : List Extent) (end : ℕ) → AllByRecursion IsFitExtent pieces → end ≤ run_end end pieces
run_grows [] end fit = omega arith
run_grows (x ∷ xs) end fit = omega (arith, behind_least end x fit.0, run_grows xs (behind end x) fit.1)

pub prefix_low : (start : ℕ) (xs ys : List Extent) → AllByRecursion IsFitExtent ys → run_end start xs ≤ run_end start (xs ++ ys)
prefix_low start xs ys fit = omega (arith, run_end-append start xs ys, run_grows ys (run_end start xs) fit)

-- ---- the end of data

pub within_limit : (end : ℕ) → past_limit end ≡ None → end ≤ DATA_END
within_limit end is = grind (arith, nat_tests, is)

pub not_past : (end : ℕ) → end ≤ DATA_END → past_limit end ≡ None
not_past end low = grind (arith, nat_tests, low)

pub passes : (end : ℕ) → DATA_END < end → past_limit end ≡ Some DataTooBig
passes end over = grind (arith, nat_tests, over)

pub passed : (end : ℕ) (r : Refusal) → past_limit end ≡ Some r → (DATA_END < end) × (DataTooBig ≡ r)
passed end r is = elim (cases_lt DATA_END end) [
  | inl over ↦ (over, (let this : Some DataTooBig ≡ Some r = sym (passes end over) ∙ is in cc))
  | inr low ↦ (let none : None ≡ Some r = sym (not_past end low) ∙ is in cc)
]

pub past_later : (end later : ℕ) (r : Refusal) → end ≤ later → past_limit end ≡ Some r → past_limit later ≡ Some r
past_later end later r grows is =
    let this = passed end r is in
    passes later (omega (arith, this.0, grows)) ∙ ap Some this.1

pub past_more : (start : ℕ) (xs ys : List Extent) (r : Refusal) → AllByRecursion IsFitExtent ys →
    past_limit (run_end start xs) ≡ Some r → past_limit (run_end start (xs ++ ys)) ≡ Some r
past_more start xs ys r fit is = past_later (run_end start xs) (run_end start (xs ++ ys)) r (prefix_low start xs ys fit) is

-- ---- sections that fit
-- two sorts that are the same
pub sort_is : (s t : Sort) → same_sort s t ≡ true → s ≡ t
sort_is Text Text is = refl
sort_is Zeroed Zeroed is = refl
sort_is Toc Toc is = refl
sort_is Writable Writable is = refl
sort_is ReadOnly ReadOnly is = refl
sort_is Dropped Dropped is = refl
sort_is s t is = cc

-- a kept section may be laid out
pub fit_section : (files : List (List ℕ)) (file i : ℕ) (sort : Sort) → set_refusal files ≡ None → file < length files →
    i < e_shnum (file_at files file) → is_kept_sort sort ≡ true → sort_of (file_at files file) i ≡ sort →
    IsFitExtent (section_extent (file_at files file) i)
fit_section files file i sort whole within inside kept is =
    let b = file_at files file in
    let fit = section_fit file b i (file_fit files file whole within) inside (ap is_kept_sort is ∙ kept) in
    record { power = fit.align; most = fit.align_most }

fit_case : (files : List (List ℕ)) (file i : ℕ) (sort : Sort) (t : Bool) → set_refusal files ≡ None → file < length files →
    i < e_shnum (file_at files file) → is_kept_sort sort ≡ true → same_sort (sort_of (file_at files file) i) sort ≡ t →
    AllByRecursion IsFitExtent (if t then section_extent (file_at files file) i ∷ [] else [])
fit_case files file i sort true whole within inside kept is =
    (fit_section files file i sort whole within inside kept (sort_is (sort_of (file_at files file) i) sort is), tt)
fit_case files file i sort false whole within inside kept is = tt

pub fit_in : (files : List (List ℕ)) (file : ℕ) (sort : Sort) (n : ℕ) → set_refusal files ≡ None → file < length files →
    n ≤ e_shnum (file_at files file) → is_kept_sort sort ≡ true →
    AllByRecursion IsFitExtent (items_in (sort_walk sort) file (file_at files file) n)
fit_in files file sort zero whole within few kept = tt
fit_in files file sort (suc n) whole within few kept =
    let b = file_at files file in
    all_append IsFitExtent (items_in (sort_walk sort) file b n) (extent_at sort file b n)
    (fit_in files file sort n whole within (omega (arith, few)) kept)
    (fit_case files file n sort (same_sort (sort_of b n) sort) whole within (omega (arith, few)) kept refl)

pub fit_before : (files : List (List ℕ)) (sort : Sort) (n : ℕ) → set_refusal files ≡ None → n ≤ length files → is_kept_sort sort ≡ true →
    AllByRecursion IsFitExtent (items_before (sort_walk sort) files n)
fit_before files sort zero whole few kept = tt
fit_before files sort (suc n) whole few kept =
    let b = file_at files n in
    all_append IsFitExtent (items_before (sort_walk sort) files n) (items_in (sort_walk sort) n b (e_shnum b))
    (fit_before files sort n whole (omega (arith, few)) kept)
    (fit_in files n sort (e_shnum b) whole (omega (arith, few)) (omega arith) kept)

-- a run that passes the end of data with the first pieces does with all
pub past_begins : (start : ℕ) (xs zs : List Extent) (r : Refusal) → Begins xs zs → AllByRecursion IsFitExtent zs →
    past_limit (run_end start xs) ≡ Some r → past_limit (run_end start zs) ≡ Some r
past_begins start xs zs r begins fit is =
    let fits : AllByRecursion IsFitExtent begins.rest =
    all_right IsFitExtent xs begins.rest (subst (AllByRecursion IsFitExtent) begins.is fit) in
    ap (λ (l : List Extent). past_limit (run_end start l)) begins.is ∙ past_more start xs begins.rest r fits is

-- and the first pieces end no later than all
pub low_begins : (start : ℕ) (xs zs : List Extent) → Begins xs zs → AllByRecursion IsFitExtent zs → run_end start xs ≤ run_end start zs
low_begins start xs zs begins fit =
    let fits : AllByRecursion IsFitExtent begins.rest =
    all_right IsFitExtent xs begins.rest (subst (AllByRecursion IsFitExtent) begins.is fit) in
    subst (λ (l : List Extent). run_end start xs ≤ run_end start l) (sym begins.is) (prefix_low start xs begins.rest fits)

-- ---- pieces one after the other

pub fit_at : (pieces : List Extent) (k : ℕ) (d : Extent) → AllByRecursion IsFitExtent pieces → k < length pieces →
    IsFitExtent (get_or pieces k d)
fit_at [] k d fit within = absurd (omega (arith, within))
fit_at (x ∷ xs) zero d fit within = fit.0
fit_at (x ∷ xs) (suc k) d fit within = fit_at xs k d fit.1 (omega (arith, within))

pub next_end : (start : ℕ) (pieces : List Extent) (k : ℕ) (d : Extent) → k < length pieces →
    run_end start (take (k + 1) pieces) ≡ behind (run_end start (take k pieces)) (get_or pieces k d)
next_end start pieces k d within =
    ap (run_end start) (take_more pieces k d within) ∙ run_end-append start (take k pieces) (get_or pieces k d ∷ [])

pub default_same : (pieces : List Extent) (k : ℕ) (d e : Extent) → k < length pieces → get_or pieces k d ≡ get_or pieces k e
default_same [] k d e within = absurd (omega (arith, within))
default_same (x ∷ xs) zero d e within = refl
default_same (x ∷ xs) (suc k) d e within = default_same xs k d e (omega (arith, within))

-- a section more of a file, and a file more
module _ (sort : Sort) (files : List (List ℕ)) where
  pub section_end : (file i start end : ℕ) → end ≡ run_end start (items_in (sort_walk sort) file (file_at files file) i) →
      run_end end (extent_at sort file (file_at files file) i)
      ≡ run_end start (items_in (sort_walk sort) file (file_at files file) (suc i))
  section_end file i start end is =
      let b = file_at files file in
      ap (λ (e : ℕ). run_end e (extent_at sort file b i)) is
      ∙ sym (run_end-append start (items_in (sort_walk sort) file b i) (extent_at sort file b i))

  pub file_end : (file start end : ℕ) → end ≡ run_end start (items_before (sort_walk sort) files file) →
      run_end end (items_in (sort_walk sort) file (file_at files file) (e_shnum (file_at files file)))
      ≡ run_end start (items_before (sort_walk sort) files (suc file))
  file_end file start end is =
      let b = file_at files file in
      ap (λ (e : ℕ). run_end e (items_in (sort_walk sort) file b (e_shnum b))) is
      ∙ sym (run_end-append start (items_before (sort_walk sort) files file) (items_in (sort_walk sort) file b (e_shnum b)))

  -- a section that passes the end of data shows that the file does
  pub section_past : (file i start end : ℕ) (r : Refusal) → set_refusal files ≡ None → file < length files →
      i < e_shnum (file_at files file) → is_kept_sort sort ≡ true →
      end ≡ run_end start (items_in (sort_walk sort) file (file_at files file) i) →
      past_limit (run_end end (extent_at sort file (file_at files file) i)) ≡ Some r →
      past_limit (run_end start (items_in (sort_walk sort) file (file_at files file) (e_shnum (file_at files file)))) ≡ Some r
  section_past file i start end r whole within inside kept is past =
      let b = file_at files file in
      past_begins start (items_in (sort_walk sort) file b (suc i)) (items_in (sort_walk sort) file b (e_shnum b)) r
      (in_all (sort_walk sort) files file (suc i) (omega (arith, inside)))
      (fit_in files file sort (e_shnum b) whole within (omega arith) kept)
      (sym (ap past_limit (section_end file i start end is)) ∙ past)

  -- and a file that all do
  pub file_past : (file start end : ℕ) (r : Refusal) → set_refusal files ≡ None → file < length files → is_kept_sort sort ≡ true →
      end ≡ run_end start (items_before (sort_walk sort) files file) →
      past_limit (run_end end (items_in (sort_walk sort) file (file_at files file) (e_shnum (file_at files file)))) ≡ Some r →
      past_limit (run_end start (sections_of files sort)) ≡ Some r
  file_past file start end r whole within kept is past =
      past_begins start (items_before (sort_walk sort) files (suc file)) (sections_of files sort) r
      (before_all (sort_walk sort) files (suc file) (omega (arith, within)))
      (fit_before files sort (length files) whole (omega arith) kept)
      (sym (ap past_limit (file_end file start end is)) ∙ past)

-- one piece more of a list
pub piece_past : (start : ℕ) (pieces : List Extent) (k end : ℕ) (d : Extent) (r : Refusal) → k < length pieces →
    AllByRecursion IsFitExtent pieces → end ≡ run_end start (take k pieces) → past_limit (behind end (get_or pieces k d)) ≡ Some r →
    past_limit (run_end start pieces) ≡ Some r
piece_past start pieces k end d r within fit is past =
    let this : run_end start (take (k + 1) pieces) ≡ behind end (get_or pieces k d) =
    next_end start pieces k d within ∙ ap (λ (e : ℕ). behind e (get_or pieces k d)) (sym is) in
    past_begins start (take (k + 1) pieces) pieces r (take_begins pieces (k + 1)) fit (ap past_limit this ∙ past)

pub piece_placed : (start : ℕ) (pieces : List Extent) (k end address : ℕ) (d : Extent) → k < length pieces →
    end ≡ run_end start (take k pieces) → address ≡ placed end (get_or pieces k d) → address ≡ run_place start pieces k
piece_placed start pieces k end address d within is at =
    at ∙ ap (λ (e : ℕ). placed e (get_or pieces k d)) is
    ∙ ap (placed (run_end start (take k pieces))) (default_same pieces k d no_piece within)

pub piece_end : (start : ℕ) (pieces : List Extent) (k end new : ℕ) (d : Extent) → k < length pieces →
    end ≡ run_end start (take k pieces) → new ≡ behind end (get_or pieces k d) → new ≡ run_end start (take (k + 1) pieces)
piece_end start pieces k end new d within is next =
    next ∙ ap (λ (e : ℕ). behind e (get_or pieces k d)) is ∙ sym (next_end start pieces k d within)

pub places_more : (f : ℕ → ℕ) (k address : ℕ) (old addresses new : List ℕ) → addresses ≡ old ++ map f (range_with_len 0 k) →
    new ≡ addresses ++ address ∷ [] → address ≡ f k → new ≡ old ++ map f (range_with_len 0 (k + 1))
places_more f k address old addresses new are is at =
    is ∙ ap (λ (l : List ℕ). l ++ address ∷ []) are ∙ append_assoc old (map f (range_with_len 0 k)) (address ∷ [])
    ∙ ap (λ (x : ℕ). old ++ (map f (range_with_len 0 k) ++ x ∷ [])) at
    ∙ ap (λ (l : List ℕ). old ++ l) (sym (map-range_with_len_more f 0 k k (omega arith)))
