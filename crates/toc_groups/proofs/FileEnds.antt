-- Where the sections of a file begin and end, of each sort.
use Rattle.std.proofs.Common.{ℕ, suc, ◌≡◌, ◌≢◌, ◌<◌, ◌+◌, ◌-◌, ◌*◌, ◌⊎◌, inl, inr, Bool, true, false, ◌||◌, ◌==◌, nat_le, List, [], ◌++◌}
use Rattle.std.proofs.Common.{length, if◌then◌else◌, ap, sym, subst, ◌∙◌, refl, arith, add-one}
use Rattle.std.proofs.lemmas.Bool.Decides.{nat_tests}
use Rattle.std.proofs.lemmas.List.{append-nil}
use Rattle.elf64_records.specs.FileHeader.{e_shnum}
use Rattle.elf64_exec.specs.declared.memory_map.TheConstants.{IMAGE_START}
use Rattle.object_set.specs.declared.places.SymbolId.{SymbolId}
use Rattle.object_set.specs.declared.sort.Sort.{Sort}
use Rattle.object_set.specs.declared.sort.Sort.TheVariants.{Zeroed, Toc, Writable, ReadOnly}
use Rattle.object_set.specs.Files.{file_at}
use Rattle.object_set.specs.Walks.{items_in, items_before}
use Rattle.toc_groups.specs.declared.groups.TocGroup.{TocGroup}
use Rattle.toc_groups.specs.declared.pieces.Ends.{Ends}
use Rattle.toc_groups.specs.Runs.{run_end}
use Rattle.toc_groups.specs.Sections.{sort_walk, sections_before}
use Rattle.toc_groups.specs.Groups.{Group, tocs_of, slot_bytes, group_size, group_after, group_with, group_number, group_at}
use Rattle.toc_groups.specs.Data.{groups_end, writable_end, toc_before}
use Rattle.toc_groups.specs.inside.Laid.{toc_start, AreEndsAt, AreEndsBefore}
use Rattle.toc_groups.specs.inside.Open.{IsGroup}
use Rattle.toc_groups.proofs.Grouping.{either, group_end, group_some, number_step}
use Rattle.toc_groups.proofs.GroupFiles.{stays_in, whole_of}
use Rattle.toc_groups.proofs.Placing.{slots_there, tocs_there}

module _ (files : List (List ℕ)) (span : ℕ) where
  either_case : (last : Group) (file : ℕ) (stays : Bool) →
      ((either last file stays).number ≡ last.number) ⊎ ((either last file stays).first ≡ file)
  either_case last file true = inl refl
  either_case last file false = inr refl

  stays_or : (n : ℕ) → (group_number files span n ≡ (group_after files span n).number) ⊎ ((group_with files span n).first ≡ n)
  stays_or n =
      let last = group_after files span n in
      either_case last n (last.count == 0 || nat_le (group_size files last.first (suc last.count)) span)

  toc_case : (file toc : ℕ) (group : TocGroup) (first : Bool) → IsGroup files (group_at files span (group_number files span file)) group →
      file < length files → (group.first == file) ≡ first →
      (0 < (group_after files span file).count →
      toc ≡ run_end (slot_bytes files (group_at files span (group_after files span file).number).first
      (group_at files span (group_after files span file).number).count)
      (tocs_of files (group_after files span file).first (group_after files span file).count)) →
      (if first then 8 * length group.slots.items else toc) ≡ toc_before files span file 0
  toc_case file toc group true is within test before =
      let whole = whole_of files span file within in
      let begun : group.first ≡ file = grind (arith, nat_tests, test) in
      let end = group_end files span (suc file) in
      let some = group_some files span file in
      let none : (group_with files span file).count - 1 ≡ 0 = omega (arith, begun, is.first, whole.first, end, some) in
      let empty : tocs_there files span file ++ [] ≡ [] =
      append-nil (tocs_there files span file) ∙ ap (tocs_of files (group_with files span file).first) none in
      ap (λ (l : List SymbolId). 8 * length l) is.slots ∙ sym (ap (run_end (slots_there files span file)) empty)
  toc_case file toc group false is within test before =
      let last = group_after files span file in
      let whole = whole_of files span file within in
      let other : group.first ≢ file = grind (arith, nat_tests, test) in
      let step = number_step files span file in
      let now = stays_or file in
      elim now [
        | inl stays ↦ (
            let this = stays_in files span file stays in
            let some = group_some files span file in
            let end = group_end files span file in
            let first_is : last.first ≢ file = λ same. other (is.first ∙ whole.first ∙ this.0 ∙ same) in
            let any : 0 < last.count = grind (arith, end, first_is) in
            let less : (group_with files span file).count - 1 ≡ last.count = omega (arith, this.1) in
            before any
            ∙ ap (λ (g : ℕ). run_end (slot_bytes files (group_at files span g).first (group_at files span g).count)
            (tocs_of files last.first last.count)) (sym stays)
            ∙ ap (run_end (slots_there files span file)) (sym (append-nil (tocs_there files span file)
            ∙ ap (λ (f : ℕ). tocs_of files f ((group_with files span file).count - 1)) this.0
            ∙ ap (tocs_of files last.first) less)))
        | inr begins ↦ absurd (other (is.first ∙ whole.first ∙ begins))
      ]

  pub file_begins : (file : ℕ) (ends : Ends) (group : TocGroup) → file < length files → AreEndsBefore files span file ends →
      IsGroup files (group_at files span (group_number files span file)) group →
      AreEndsAt files span file 0 (record ends { toc = toc_start group file ends.toc })
  file_begins file ends group within are is = record {
    read_only = are.read_only;
    toc = toc_case file ends.toc group (group.first == file) is within refl are.toc;
    writable = are.writable;
    zeroed = are.zeroed;
  }

  before_end : (sort : Sort) (file start end : ℕ) →
      end ≡ run_end start (sections_before files sort file (e_shnum (file_at files file))) →
      end ≡ run_end start (sections_before files sort (suc file) 0)
  before_end sort file start end is = is ∙ ap (run_end start) (sym (append-nil (items_before (sort_walk sort) files (suc file))))

  pub file_ends : (file : ℕ) (ends : Ends) → AreEndsAt files span file (e_shnum (file_at files file)) ends →
      AreEndsBefore files span (file + 1) ends
  file_ends file ends are =
      let now = group_with files span file in
      let some = group_some files span file in
      let end = group_end files span (suc file) in
      let at : now.first + (now.count - 1) ≡ file = omega (arith, some, end) in
      let last : suc (now.count - 1) ≡ now.count = omega (arith, some) in
      let tocs : tocs_there files span file ++ items_in (sort_walk Toc) file (file_at files file) (e_shnum (file_at files file))
      ≡ tocs_of files now.first now.count =
      sym (ap (tocs_of files now.first) (sym last)
      ∙ ap (λ (f : ℕ). tocs_there files span file ++ items_in (sort_walk Toc) f (file_at files f) (e_shnum (file_at files f))) at) in
      subst (λ (n : ℕ). AreEndsBefore files span n ends) (sym (add-one file)) (record {
        read_only = before_end ReadOnly file IMAGE_START ends.read_only are.read_only;
        toc = λ any. are.toc ∙ ap (run_end (slots_there files span file)) tocs;
        writable = before_end Writable file (groups_end files span) ends.writable are.writable;
        zeroed = before_end Zeroed file (writable_end files span) ends.zeroed are.zeroed;
      })
