-- A file comes to a TOC group.
use Rattle.std.proofs.Common.{ℕ, suc, ◌≡◌, ◌<◌, ◌≤◌, ◌+◌, ◌*◌, ◌^◌, Bool, true, List, [], ◌∷◌, ◌++◌, length, ap, sym, subst, ◌∙◌, arith}
use Rattle.std.proofs.Common.{if◌then◌else◌, append_assoc, add-one}
use Rattle.std.specs.Prelude.{Option, None}
use Rattle.elf64_records.specs.FileHeader.{e_shnum}
use Rattle.object_set.specs.declared.sort.Sort.TheVariants.{Toc}
use Rattle.object_set.specs.Files.{file_at}
use Rattle.object_set.specs.Refusals.{set_refusal}
use Rattle.object_set.specs.Sections.{sort_of}
use Rattle.object_set.specs.Walks.{items_in}
use Rattle.toc_groups.specs.declared.extents.Extent.{Extent}
use Rattle.toc_groups.specs.Runs.{run_end, IsFitExtent}
use Rattle.toc_groups.specs.Sections.{same_sort, section_extent, extent_at, sort_walk}
use Rattle.toc_groups.specs.Slots.{named_symbols, with_slots, slots_of}
use Rattle.toc_groups.specs.Groups.{tocs_of}
use Rattle.toc_groups.specs.inside.Ends.{AreEnds, AreLow}
use Rattle.toc_groups.specs.inside.Numbered.{SlotList, slot_list, IsRow, Notes, Adds}
use Rattle.toc_groups.specs.inside.Open.{IsOpen, IsNumbered}
use Rattle.toc_groups.proofs.Bounds.{IsSmallToc, tocs_low, slots_few}

-- a section that is a `.toc`
pub one_toc : (file : ℕ) (b : List ℕ) (i : ℕ) → same_sort (sort_of b i) Toc ≡ true → extent_at Toc file b i ≡ section_extent b i ∷ []
one_toc file b i is = ap (λ (t : Bool). if t then section_extent b i ∷ [] else []) is

-- one section more
pub next_toc : (files : List (List ℕ)) (file i : ℕ) (sections : List Extent) (ends : List ℕ) →
    AreEnds ((sections ++ items_in (sort_walk Toc) file (file_at files file) i) ++ extent_at Toc file (file_at files file) i) ends →
    AreEnds (sections ++ items_in (sort_walk Toc) file (file_at files file) (i + 1)) ends
next_toc files file i sections ends are =
    let b = file_at files file in
    subst (λ (n : ℕ). AreEnds (sections ++ items_in (sort_walk Toc) file b n) ends) (sym (add-one i))
    (subst (λ (l : List Extent). AreEnds l ends) (append_assoc sections (items_in (sort_walk Toc) file b i) (extent_at Toc file b i)) are)

-- so far the ends are low
pub ends_low : (files : List (List ℕ)) (first n file s : ℕ) (ends : List ℕ) → set_refusal files ≡ None → first + n ≡ file →
    file < length files → length files ≤ 4096 → s ≤ e_shnum (file_at files file) →
    AreEnds (tocs_of files first n ++ items_in (sort_walk Toc) file (file_at files file) s) ends → AreLow ends
ends_low files first n file s ends whole is within few sections are =
    let inside : first + n < length files = omega (arith, is, within) in
    let part : s ≤ e_shnum (file_at files (first + n)) =
    subst (λ (f : ℕ). s ≤ e_shnum (file_at files f)) (sym is) sections in
    let here : AreEnds (tocs_of files first n ++ items_in (sort_walk Toc) (first + n) (file_at files (first + n)) s) ends =
    subst (λ (f : ℕ). AreEnds (tocs_of files first n ++ items_in (sort_walk Toc) f (file_at files f) s) ends) (sym is) are in
    record {
      count = here.count;
      low = λ i lt.
          let this = here.each i lt in
          let low = tocs_low files first n s (8 * i) whole inside few part (omega (arith, lt)) in
          omega (arith, this, low);
    }

-- the slots of one file more
pub more_slots : (files : List (List ℕ)) (first n file : ℕ) (old new : SlotList) → old ≡ slot_list files (slots_of files first n) →
    first + n ≡ file → new ≡ slot_list old.files (with_slots old.files old.slots (named_symbols old.files file)) →
    new ≡ slot_list files (slots_of files first (suc n))
more_slots files first n file old new old_is is new_is =
    let next : new ≡ slot_list files (with_slots files (slots_of files first n) (named_symbols files file)) =
    subst (λ (l : SlotList). new ≡ slot_list l.files (with_slots l.files l.slots (named_symbols l.files file))) old_is new_is in
    subst (λ (f : ℕ). new ≡ slot_list files (with_slots files (slots_of files first n) (named_symbols files f))) (sym is) next

-- and its `.toc` sections
pub more_tocs : (files set : List (List ℕ)) (first n file : ℕ) (old new : List ℕ) → set ≡ files → first + n ≡ file →
    AreEnds (tocs_of files first n) old →
    ((sections : List Extent) → AreEnds sections old →
    AreEnds (sections ++ items_in (sort_walk Toc) file (file_at set file) (e_shnum (file_at set file))) new) →
    AreEnds (tocs_of files first (suc n)) new
more_tocs files set first n file old new same is are follows =
    let here : AreEnds (tocs_of files first n ++ items_in (sort_walk Toc) file (file_at files file) (e_shnum (file_at files file))) new =
    subst (λ (s : List (List ℕ)).
    AreEnds (tocs_of files first n ++ items_in (sort_walk Toc) file (file_at s file) (e_shnum (file_at s file))) new) same
    (follows (tocs_of files first n) are) in
    subst (λ (f : ℕ). AreEnds (tocs_of files first n ++ items_in (sort_walk Toc) f (file_at files f) (e_shnum (file_at files f))) new)
    (sym is) here

pub tocs_are_low : (files : List (List ℕ)) (first n file : ℕ) (ends : List ℕ) → set_refusal files ≡ None → first + n ≡ file →
    file < length files → length files ≤ 4096 → AreEnds (tocs_of files first (suc n)) ends → AreLow ends
tocs_are_low files first n file ends whole is within few are =
    ends_low files first n file (e_shnum (file_at files file)) ends whole is within few (omega arith)
    (subst (λ (f : ℕ). AreEnds (tocs_of files first n ++ items_in (sort_walk Toc) f (file_at files f) (e_shnum (file_at files f))) ends)
    is are)

pub few_slots : (files : List (List ℕ)) (first n file count : ℕ) (new : SlotList) → set_refusal files ≡ None → first + n ≡ file →
    file < length files → length files ≤ 4096 → new ≡ slot_list files (slots_of files first (suc n)) → count ≡ length new.slots →
    count ≤ 2 ^ 58
few_slots files first n file count new whole is within few new_is count_is =
    let most = slots_few files first (suc n) whole (omega (arith, is, within)) in
    let long = ap (λ (l : SlotList). length l.slots) new_is in
    omega (arith, most, long, count_is, is, within, few)

-- the group with the file
pub opened_more : (files : List (List ℕ)) (first n file count size : ℕ) (slots : SlotList) (ends : List ℕ) → set_refusal files ≡ None →
    first + n ≡ file → file < length files → slots ≡ slot_list files (slots_of files first (suc n)) →
    AreEnds (tocs_of files first (suc n)) ends → count ≡ length slots.slots →
    size ≡ run_end (8 * count) (tocs_of files first (suc n)) →
    IsOpen files (file + 1) (record { first = first; slots = slots; ends = ends; size = size })
opened_more files first n file count size slots ends whole is within slots_are ends_are count_is size_is = record {
  count = suc n;
  end_is = omega (arith, is);
  slots = slots_are;
  ends = ends_are;
  size = size_is ∙ ap (λ (c : ℕ). run_end (8 * c) (tocs_of files first (suc n)))
      (count_is ∙ ap (λ (l : SlotList). length l.slots) slots_are);
}

-- and the numbers of its slots
pub numbered_there : (files : List (List ℕ)) (first n m file number : ℕ) (old new : SlotList) (row : List (Option ℕ)) →
    old.files ≡ files → first + n ≡ file → first + m ≡ file → new ≡ slot_list files (slots_of files first (suc n)) →
    Adds (named_symbols old.files file) file old new [] row →
    IsNumbered files (record { number = number; first = first; count = suc m }) file row
numbered_there files first n m file number old new row same is at new_is adds =
    let count : n ≡ m = omega (arith, is, at) in
    subst (λ (k : ℕ). IsNumbered files (record { number = number; first = first; count = suc k }) file row) count (record {
      is_row = subst (λ (l : SlotList). IsRow l file row) new_is adds.row;
      named = subst (λ (f : List (List ℕ)). Notes (named_symbols f file) [] row) same adds.noted;
    })

-- a `.toc` section may be laid out as any piece
pub fit_toc : (piece : Extent) → IsSmallToc piece → IsFitExtent piece
fit_toc piece small = record { power = small.fit.power; most = omega (arith, small.fit.most) }
