-- The sections of a sort stand in order of file and number.
use Rattle.std.proofs.Common.{ℕ, suc, ◌≡◌, ◌<◌, ◌≤◌, ◌+◌, ◌-◌, ◌⊎◌, inl, inr, Bool, true, List, [], ◌∷◌, ◌++◌, length, None, ap, sym, subst, ◌∙◌, refl, arith, append_assoc, if◌then◌else◌}
use Rattle.std.specs.List.{AllByRecursion}
use Rattle.elf64_records.specs.FileHeader.{e_shnum}
use Rattle.elf64_records.specs.Sections.{sh_size}
use Rattle.object_set.specs.declared.sort.Sort.{Sort}
use Rattle.object_set.specs.declared.sort.Sort.TheVariants.{Text, Zeroed, Toc, Writable, ReadOnly, Dropped}
use Rattle.object_set.specs.Files.{file_at}
use Rattle.object_set.specs.Refusals.{set_refusal}
use Rattle.object_set.specs.Sections.{sort_of, is_kept_sort}
use Rattle.object_set.specs.Walks.{items_in, items_before}
use Rattle.toc_groups.specs.declared.extents.Extent.{Extent}
use Rattle.toc_groups.specs.Runs.{placed, run_end, IsFitExtent}
use Rattle.toc_groups.specs.Sections.{same_sort, section_extent, extent_at, sort_walk, sections_of, sections_before}
use Rattle.toc_groups.proofs.Laying.{fit_before, fit_section}
use Rattle.toc_groups.proofs.Begins.{Begins, begins_all, begins_behind, begins_before, begun, in_begins, before_begins, in_all, number_begins}
use Rattle.toc_groups.proofs.RunOrder.{in_run_order, in_run}

pub same_itself : (s : Sort) → same_sort s s ≡ true
same_itself Text = refl
same_itself Zeroed = refl
same_itself Toc = refl
same_itself Writable = refl
same_itself ReadOnly = refl
same_itself Dropped = refl

-- section i of a file is of a sort
pub one_section : (sort : Sort) (file : ℕ) (b : List ℕ) (i : ℕ) → sort_of b i ≡ sort → extent_at sort file b i ≡ section_extent b i ∷ []
one_section sort file b i is =
    let test : same_sort (sort_of b i) sort ≡ true = ap (λ (s : Sort). same_sort s sort) is ∙ same_itself sort in
    ap (λ (t : Bool). if t then section_extent b i ∷ [] else []) test

-- a place among sections comes before another
abbrev pub IsBefore : ℕ → ℕ → ℕ → ℕ → Type 0
IsBefore file i file' j = (file < file') ⊎ ((file ≡ file') × (i < j))

module _ (files : List (List ℕ)) (sort : Sort) where
  next_section : (file i : ℕ) → sort_of (file_at files file) i ≡ sort →
      sections_before files sort file (suc i) ≡ sections_before files sort file i ++ section_extent (file_at files file) i ∷ []
  next_section file i is =
      let b = file_at files file in
      let front = items_before (sort_walk sort) files file in
      ap (λ (l : List Extent). front ++ (items_in (sort_walk sort) file b i ++ l)) (one_section sort file b i is)
      ∙ sym (append_assoc front (items_in (sort_walk sort) file b i) (section_extent b i ∷ []))

  section_begins : (file i : ℕ) → file < length files → i < e_shnum (file_at files file) → sort_of (file_at files file) i ≡ sort →
      Begins (sections_before files sort file i ++ section_extent (file_at files file) i ∷ []) (sections_of files sort)
  section_begins file i within inside is =
      subst (λ (l : List Extent). Begins l (sections_of files sort)) (next_section file i is)
      (number_begins (sort_walk sort) files file (suc i) within (omega (arith, inside)))

  before_section : (file i file' j : ℕ) → IsBefore file i file' j → i < e_shnum (file_at files file) →
      sort_of (file_at files file) i ≡ sort →
      Begins (sections_before files sort file i ++ section_extent (file_at files file) i ∷ []) (sections_before files sort file' j)
  before_section file i file' j (inl less) inside is =
      let w = sort_walk sort in
      let b = file_at files file in
      let front = items_before w files file in
      let here = in_all w files file (suc i) (omega (arith, inside)) in
      let first : Begins (front ++ items_in w file b (suc i)) (items_before w files (suc file)) =
      begins_behind front (items_in w file b (suc i)) (items_in w file b (e_shnum b)) here in
      let e : suc file + (file' - suc file) ≡ file' = omega (arith, less) in
      let more : Begins (items_before w files (suc file)) (items_before w files file') =
      subst (λ (n : ℕ). Begins (items_before w files (suc file)) (items_before w files n)) e
      (before_begins w files (suc file) (file' - suc file)) in
      subst (λ (l : List Extent). Begins l (sections_before files sort file' j)) (next_section file i is)
      (begins_before (front ++ items_in w file b (suc i)) (items_before w files file') (items_in w file' (file_at files file') j)
      (begins_all (front ++ items_in w file b (suc i)) (items_before w files (suc file)) (items_before w files file') first more))
  before_section file i file' j (inr same) inside is =
      let w = sort_walk sort in
      let b = file_at files file in
      let front = items_before w files file in
      let e : suc i + (j - suc i) ≡ j = omega (arith, same.1) in
      let inner : Begins (items_in w file b (suc i)) (items_in w file b j) =
      subst (λ (n : ℕ). Begins (items_in w file b (suc i)) (items_in w file b n)) e (in_begins w files file (suc i) (j - suc i)) in
      let all : Begins (sections_before files sort file (suc i)) (sections_before files sort file j) =
      begins_behind front (items_in w file b (suc i)) (items_in w file b j) inner in
      subst (λ (l : List Extent). Begins l (sections_before files sort file' j)) (next_section file i is)
      (subst (λ (f : ℕ). Begins (sections_before files sort file (suc i)) (sections_before files sort f j)) same.0 all)

  pub sections_fit : set_refusal files ≡ None → is_kept_sort sort ≡ true → AllByRecursion IsFitExtent (sections_of files sort)
  sections_fit whole kept = fit_before files sort (length files) whole (omega arith) kept

  -- of two sections of a sort the one that comes first ends before the other begins
  pub sections_order : (start file i file' j : ℕ) → set_refusal files ≡ None → is_kept_sort sort ≡ true → IsBefore file i file' j →
      i < e_shnum (file_at files file) → sort_of (file_at files file) i ≡ sort → file' < length files →
      j < e_shnum (file_at files file') → sort_of (file_at files file') j ≡ sort → 0 < sh_size (file_at files file) i →
      placed (run_end start (sections_before files sort file i)) (section_extent (file_at files file) i) + sh_size (file_at files file) i
      ≤ placed (run_end start (sections_before files sort file' j)) (section_extent (file_at files file') j)
  sections_order start file i file' j whole kept before inside is within' inside' is' some =
      let there = number_begins (sort_walk sort) files file' j within' (omega (arith, inside')) in
      in_run_order start (sections_before files sort file i) (sections_before files sort file' j) (section_extent (file_at files file) i)
      (section_extent (file_at files file') j) (before_section file i file' j before inside is)
      (begun IsFitExtent (sections_before files sort file' j) (sections_of files sort) there (sections_fit whole kept))
      (fit_section files file' j sort whole within' inside' kept is') some

  pub section_in : (start file i : ℕ) → set_refusal files ≡ None → is_kept_sort sort ≡ true → file < length files →
      i < e_shnum (file_at files file) → sort_of (file_at files file) i ≡ sort → 0 < sh_size (file_at files file) i →
      (start ≤ placed (run_end start (sections_before files sort file i)) (section_extent (file_at files file) i))
      × (placed (run_end start (sections_before files sort file i)) (section_extent (file_at files file) i) + sh_size (file_at files file) i
      ≤ run_end start (sections_of files sort))
  section_in start file i whole kept within inside is some =
      in_run start (sections_before files sort file i) (sections_of files sort) (section_extent (file_at files file) i)
      (section_begins file i within inside is) (sections_fit whole kept) some
