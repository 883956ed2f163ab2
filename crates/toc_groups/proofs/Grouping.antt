-- TOC groups as files join.
use Rattle.std.proofs.Common.{ℕ, zero, suc, ◌≡◌, ◌≢◌, ◌<◌, ◌≤◌, ◌+◌, ◌⊎◌, inl, inr, Bool, true, false, ◌||◌, ◌==◌, nat_le, List, [], ◌∷◌, ◌++◌}
use Rattle.std.proofs.Common.{length, map, take, Option, Some, None, option_to_list, slice_get, if◌then◌else◌, ap, sym, subst, ◌∙◌, refl, arith}
use Rattle.std.proofs.Common.{add-one, length-append}
use Rattle.std.proofs.Math.Seq.{take-length}
use Rattle.std.specs.List.{range_with_len}
use Rattle.std.proofs.lemmas.Bool.Decides.{nat_tests}
use Rattle.std.proofs.lemmas.List.FromFn.{map-range_with_len_more, length-map-range_with_len}
use Rattle.std.proofs.lemmas.Option.{slice_get_within}
use Rattle.object_set.specs.declared.places.SymbolId.{SymbolId}
use Rattle.object_set.specs.laws.Walks.{get_split}
use Rattle.toc_groups.specs.declared.groups.TocGroup.{TocGroup}
use Rattle.toc_groups.specs.declared.groups.TocGroups.{TocGroups}
use Rattle.toc_groups.specs.declared.groups.OpenGroup.{OpenGroup}
use Rattle.toc_groups.specs.Slots.{slots_of}
use Rattle.toc_groups.specs.Groups.{Group, group_size, group_after, group_with, group_number, groups_after, group_among}
use Rattle.toc_groups.specs.inside.Numbered.{SlotList}
use Rattle.toc_groups.specs.inside.Open.{IsOpen, IsGroup, IsNumbered, IsFull, IsJoined, AreJoined, AreGroups}
use Rattle.toc_groups.proofs.Slotting.{take_extended, slots_extend}

abbrev pub group : ℕ → ℕ → ℕ → Group
group number first count = record { number = number; first = first; count = count }

abbrev pub either : Group → ℕ → Bool → Group
either last file stays = if stays then group last.number last.first (suc last.count) else group (suc last.number) file 1

end_case : (last : Group) (file : ℕ) (stays : Bool) → last.first + last.count ≡ file →
    (either last file stays).first + (either last file stays).count ≡ suc file
end_case last file true is = omega (arith, is)
end_case last file false is = omega arith

number_case : (last : Group) (file : ℕ) (stays : Bool) →
    (last.number ≤ (either last file stays).number) × ((either last file stays).number ≤ suc last.number)
number_case last file true = (omega arith, omega arith)
number_case last file false = (omega arith, omega arith)

some_case : (last : Group) (file : ℕ) (stays : Bool) → 0 < (either last file stays).count
some_case last file true = omega arith
some_case last file false = omega arith

first_case : (last : Group) (file : ℕ) (stays : Bool) → last.first ≤ file → (either last file stays).first ≤ file
first_case last file true is = is
first_case last file false is = omega arith

module _ (files : List (List ℕ)) (span : ℕ) where
  -- the files of the last group are those from its first one up to the next
  pub group_end : (n : ℕ) → (group_after files span n).first + (group_after files span n).count ≡ n
  group_end zero = refl
  group_end (suc n) =
      let last = group_after files span n in
      end_case last n (last.count == 0 || nat_le (group_size files last.first (suc last.count)) span) (group_end n)

  -- a group with a file has one
  pub group_some : (file : ℕ) → 0 < (group_with files span file).count
  group_some file =
      let last = group_after files span file in
      some_case last file (last.count == 0 || nat_le (group_size files last.first (suc last.count)) span)

  -- numbers rise by at most one
  pub number_step : (n : ℕ) → ((group_after files span n).number ≤ group_number files span n)
      × (group_number files span n ≤ suc (group_after files span n).number)
  number_step n =
      let last = group_after files span n in
      number_case last n (last.count == 0 || nat_le (group_size files last.first (suc last.count)) span)

  pub number_most : (n : ℕ) → (group_after files span n).number ≤ n
  number_most zero = omega arith
  number_most (suc n) = omega (arith, (number_step n).1, number_most n)

  -- a file joins the last group
  pub joins : (file : ℕ) →
      (file ≡ (group_after files span file).first)
      ⊎ (group_size files (group_after files span file).first (suc (group_after files span file).count) ≤ span) →
      group_with files span file ≡ group (group_after files span file).number (group_after files span file).first
      (suc (group_after files span file).count)
  joins file fits =
      let last = group_after files span file in
      let end = group_end file in
      let test : (last.count == 0 || nat_le (group_size files last.first (suc last.count)) span) ≡ true =
      elim fits [
        | inl first ↦ (
            let none : last.count ≡ 0 = omega (arith, first, end) in
            grind (arith, nat_tests, none))
        | inr small ↦ grind (arith, nat_tests, small)
      ] in
      ap (either last file) test

  -- or begins the next
  pub begins : (file : ℕ) → (file ≡ (group_after files span file).first → ⊥) →
      span < group_size files (group_after files span file).first (suc (group_after files span file).count) →
      (group_with files span file ≡ group (suc (group_after files span file).number) file 1) × (0 < (group_after files span file).count)
  begins file other large =
      let last = group_after files span file in
      let end = group_end file in
      let some : 0 < last.count = grind (arith, other, end) in
      let test : (last.count == 0 || nat_le (group_size files last.first (suc last.count)) span) ≡ false =
      grind (arith, nat_tests, some, large) in
      (ap (either last file) test, some)

  -- ---- one file more

  -- the file stays in the group
  pub stays : (file first : ℕ) (open_group : OpenGroup) (row : List (Option ℕ)) →
      first ≡ (group_after files span file).first → open_group.first ≡ first → IsOpen files (file + 1) open_group →
      ((number n : ℕ) → first + n ≡ file → IsNumbered files (group number first (suc n)) file row) →
      ((file ≡ open_group.first) ⊎ (open_group.size ≤ span)) →
      IsJoined files span file (record { open_group = open_group; row = row; full = None })
  stays file first open_group row first_is same is numbered fits =
      let last = group_after files span file in
      let end = group_end file in
      let count : is.count ≡ suc last.count = omega (arith, is.end_is, same, first_is, end) in
      let size : open_group.size ≡ group_size files last.first (suc last.count) =
      is.size ∙ ap (λ (x : ℕ). group_size files x is.count) (same ∙ first_is) ∙ ap (group_size files last.first) count in
      let now : group_with files span file ≡ group last.number last.first (suc last.count) =
      joins file (elim fits [
        | inl begun ↦ inl (begun ∙ same ∙ first_is)
        | inr small ↦ inr (omega (arith, size, small))
      ]) in
      record {
        open_group = is;
        first = same ∙ first_is ∙ sym (ap (λ (g : Group). g.first) now);
        row = subst (λ (g : Group). IsNumbered files g file row) (sym now)
            (subst (λ (x : ℕ). IsNumbered files (group last.number x (suc last.count)) file row) first_is
            (numbered last.number last.count (omega (arith, first_is, end))));
        full = ap (λ (g : Group). g.number) now;
      }

  -- the slots that were there before a file came
  pub before_fits : (file slots : ℕ) (before after : OpenGroup) → after.first ≡ before.first → IsOpen files file before →
      IsOpen files (file + 1) after → slots ≡ length before.slots.slots → slots ≤ length after.slots.slots
  before_fits file slots before after same was is slots_is =
      let count : is.count ≡ was.count + 1 = omega (arith, is.end_is, was.end_is, same) in
      let extends = slots_extend files before.first was.count 1 in
      let new_slots : after.slots.slots ≡ slots_of files before.first was.count ++ extends.more =
      ap (λ (l : SlotList). l.slots) is.slots ∙ ap (λ (x : ℕ). slots_of files x is.count) same
      ∙ ap (slots_of files before.first) count ∙ extends.is in
      let old = ap (λ (l : SlotList). length l.slots) was.slots in
      let long = ap (λ (l : List SymbolId). length l) new_slots ∙ length-append (slots_of files before.first was.count) extends.more in
      omega (arith, long, old, slots_is)

  -- the group is full, and the file begins the next
  pub fills : (file : ℕ) (next : OpenGroup) (row : List (Option ℕ)) (whole : TocGroup) (before after : OpenGroup) (slots size : ℕ) →
      before.first ≡ (group_after files span file).first → after.first ≡ before.first → IsOpen files file before →
      IsOpen files (file + 1) after →
      (file ≡ after.first → ⊥) → span < after.size →
      IsOpen files (file + 1) next → next.first ≡ file →
      ((number n : ℕ) → file + n ≡ file → IsNumbered files (group number file (suc n)) file row) →
      slots ≡ length before.slots.slots → size ≡ before.size →
      whole.first ≡ after.first → whole.slots.items ≡ take slots after.slots.slots → whole.size ≡ size →
      IsJoined files span file (record { open_group = next; row = row; full = Some whole })
  fills file next row whole before after slots size first_is same was is other large begun at numbered slots_is size_is
      whole_first whole_slots whole_size =
      let last = group_after files span file in
      let end = group_end file in
      let count : is.count ≡ suc last.count = omega (arith, is.end_is, same, first_is, end) in
      let old_count : was.count ≡ last.count = omega (arith, was.end_is, first_is, end) in
      let now_size : after.size ≡ group_size files last.first (suc last.count) =
      is.size ∙ ap (λ (x : ℕ). group_size files x is.count) (same ∙ first_is) ∙ ap (group_size files last.first) count in
      let now = begins file (λ begun_at. other (begun_at ∙ sym (same ∙ first_is))) (omega (arith, now_size, large)) in
      let old_slots : before.slots.slots ≡ slots_of files last.first last.count =
      ap (λ (l : SlotList). l.slots) was.slots ∙ ap (λ (x : ℕ). slots_of files x was.count) first_is
      ∙ ap (slots_of files last.first) old_count in
      let new_slots : after.slots.slots ≡ slots_of files last.first (last.count + 1) =
      ap (λ (l : SlotList). l.slots) is.slots ∙ ap (λ (x : ℕ). slots_of files x is.count) (same ∙ first_is)
      ∙ ap (slots_of files last.first) (let e : is.count ≡ last.count + 1 = omega (arith, count) in e) in
      record {
        open_group = begun;
        first = at ∙ sym (ap (λ (g : Group). g.first) now.0);
        row = subst (λ (g : Group). IsNumbered files g file row) (sym now.0) (numbered (suc last.number) 0 (omega arith));
        full = (
          now.1,
          ap (λ (g : Group). g.number) now.0,
          record {
            first = whole_first ∙ same ∙ first_is;
            slots = whole_slots ∙ ap (λ (n : ℕ). take n after.slots.slots) (slots_is ∙ ap (λ (l : List SymbolId). length l) old_slots)
                ∙ ap (take (length (slots_of files last.first last.count))) new_slots
                ∙ take_extended (slots_of files last.first last.count) (slots_of files last.first (last.count + 1))
                (slots_extend files last.first last.count 1);
            size = whole_size ∙ size_is ∙ was.size ∙ ap (λ (x : ℕ). group_size files x was.count) first_is
                ∙ ap (group_size files last.first) old_count;
          },
        );
      }

  -- ---- all files

  among_later : (g n : ℕ) → group_number files span n ≢ g → group_among files span g (suc n) ≡ group_among files span g n
  among_later g n other =
      let test : (group_number files span n == g) ≡ false = grind (arith, nat_tests, other) in
      ap (λ (t : Bool). if t then group_with files span n else group_among files span g n) test

  among_last : (n : ℕ) → 0 < (group_after files span n).count →
      group_among files span (group_after files span n).number n ≡ group_after files span n
  among_last zero some = absurd (omega (arith, some))
  among_last (suc n) some =
      let g = group_number files span n in
      let test : (g == g) ≡ true = grind (arith, nat_tests) in
      ap (λ (t : Bool). if t then group_with files span n else group_among files span g n) test

  pub none_joined : AreJoined files span 0 [] [] []
  none_joined = record {
    count = refl;
    each = λ g whole found. cc;
    numbers_are = refl;
    row_count = refl;
    numbered = λ file row found. cc;
  }

  pub full_count : (n : ℕ) (groups : List TocGroup) (full : Option TocGroup) → length groups ≡ (group_after files span n).number →
      IsFull files span n full → length (groups ++ option_to_list full) ≡ group_number files span n
  full_count n groups None count is = omega (arith, count, is, length-append groups [])
  full_count n groups (Some whole) count is = omega (arith, count, is.1, length-append groups (whole ∷ []))

  one_get : {X : Type 0} (x y : X) (i : ℕ) → slice_get (x ∷ []) i ≡ Some y → (i ≡ 0) × (x ≡ y)
  one_get x y zero found = (refl, cc)
  one_get x y (suc i) found = cc

  last_full : (n i : ℕ) (full : Option TocGroup) (whole : TocGroup) → IsFull files span n full →
      slice_get (option_to_list full) i ≡ Some whole →
      (i ≡ 0) × (0 < (group_after files span n).count) × (group_number files span n ≡ suc (group_after files span n).number)
      × IsGroup files (group_after files span n) whole
  last_full n i None whole is found = cc
  last_full n i (Some w) whole is found =
      let this = one_get w whole i found in
      (this.0, is.0, is.1, subst (IsGroup files (group_after files span n)) this.1 is.2)

  each_more : (n : ℕ) (groups : List TocGroup) (full : Option TocGroup) → length groups ≡ (group_after files span n).number →
      ((g : ℕ) (whole : TocGroup) → slice_get groups g ≡ Some whole → IsGroup files (group_among files span g n) whole) →
      IsFull files span n full → (g : ℕ) (whole : TocGroup) → slice_get (groups ++ option_to_list full) g ≡ Some whole →
      IsGroup files (group_among files span g (suc n)) whole
  each_more n groups full count each is g whole found =
      let last = group_after files span n in
      elim (get_split groups (option_to_list full) g whole found) [
        | inl old ↦ (
            let within = slice_get_within groups g whole old in
            let other : group_number files span n ≢ g = λ same. omega (arith, same, within, count, (number_step n).0) in
            subst (λ (x : Group). IsGroup files x whole) (sym (among_later g n other)) (each g whole old))
        | inr new ↦ (
            let this = last_full n new.0 full whole is new.2 in
            let at : g ≡ last.number = omega (arith, new.1, this.0, count) in
            let other : group_number files span n ≢ g = λ same. omega (arith, same, at, this.2) in
            subst (λ (x : Group). IsGroup files x whole)
            (sym (among_later g n other ∙ ap (λ (x : ℕ). group_among files span x n) at ∙ among_last n this.1)) this.3)
      ]

  numbered_more : (n : ℕ) (rows : List (List (Option ℕ))) (new : List (Option ℕ)) → length rows ≡ n →
      ((file : ℕ) (row : List (Option ℕ)) → slice_get rows file ≡ Some row → IsNumbered files (group_with files span file) file row) →
      IsNumbered files (group_with files span n) n new → (file : ℕ) (row : List (Option ℕ)) → slice_get (rows ++ new ∷ []) file ≡ Some row →
      IsNumbered files (group_with files span file) file row
  numbered_more n rows new count each this file row found =
      elim (get_split rows (new ∷ []) file row found) [
        | inl old ↦ each file row old
        | inr last ↦ (
            let here = one_get new row last.0 last.2 in
            let at : n ≡ file = omega (arith, last.1, here.0, count) in
            subst (λ (x : ℕ). IsNumbered files (group_with files span x) x row) at
            (subst (IsNumbered files (group_with files span n) n) here.1 this))
      ]

  -- one file more has joined
  pub more_joined : (n number : ℕ) (groups groups' : List TocGroup) (numbers numbers' : List ℕ) (rows rows' : List (List (Option ℕ)))
      (open_group : OpenGroup) (row : List (Option ℕ)) (full : Option TocGroup) → AreJoined files span n groups numbers rows →
      IsJoined files span n (record { open_group = open_group; row = row; full = full }) →
      groups' ≡ groups ++ option_to_list full → number ≡ length groups' → numbers' ≡ numbers ++ number ∷ [] → rows' ≡ rows ++ row ∷ [] →
      AreJoined files span (n + 1) groups' numbers' rows'
  more_joined n number groups groups' numbers numbers' rows rows' open_group row full are is groups_are number_is numbers_are rows_are =
      let count = full_count n groups full are.count is.full in
      let this : number ≡ group_number files span n = number_is ∙ ap (λ (l : List TocGroup). length l) groups_are ∙ count in
      subst (λ (m : ℕ). AreJoined files span m groups' numbers' rows') (sym (add-one n)) (record {
        count = ap (λ (l : List TocGroup). length l) groups_are ∙ count;
        each = λ g whole found. each_more n groups full are.count are.each is.full g whole
            (ap (λ (l : List TocGroup). slice_get l g) (sym groups_are) ∙ found);
        numbers_are = numbers_are ∙ ap (λ (l : List ℕ). l ++ number ∷ []) are.numbers_are
            ∙ ap (λ (x : ℕ). map (group_number files span) (range_with_len 0 n) ++ x ∷ []) this
            ∙ sym (map-range_with_len_more (group_number files span) 0 n n (omega arith))
            ∙ ap (λ (m : ℕ). map (group_number files span) (range_with_len 0 m)) (add-one n);
        row_count = ap (λ (l : List (List (Option ℕ))). length l) rows_are ∙ length-append rows (row ∷ [])
            ∙ (let e : length rows + 1 ≡ suc n = omega (arith, are.row_count) in e);
        numbered = λ file r found. numbered_more n rows row are.row_count are.numbered is.row file r
            (ap (λ (l : List (List (Option ℕ))). slice_get l file) (sym rows_are) ∙ found);
      })

  last_some : (n : ℕ) → 0 < n → 0 < (group_after files span n).count
  last_some zero none = absurd (omega (arith, none))
  last_some (suc n) some = group_some n

  count_after : (n : ℕ) → 0 < n → groups_after files span n ≡ suc (group_after files span n).number
  count_after zero some = absurd (omega (arith, some))
  count_after (suc n) some = refl

  -- the last group is whole when all files have joined
  pub last_whole : (last : OpenGroup) (whole : TocGroup) (slots size : ℕ) → IsOpen files (length files) last →
      last.first ≡ (group_after files span (length files)).first → slots ≡ length last.slots.slots → size ≡ last.size →
      whole.first ≡ last.first → whole.slots.items ≡ take slots last.slots.slots → whole.size ≡ size →
      IsGroup files (group_after files span (length files)) whole
  last_whole last whole slots size is first slots_is size_is whole_first whole_slots whole_size =
      let now = group_after files span (length files) in
      let end = group_end (length files) in
      let count : is.count ≡ now.count = omega (arith, is.end_is, first, end) in
      record {
        first = whole_first ∙ first;
        slots = whole_slots ∙ ap (λ (n : ℕ). take n last.slots.slots) slots_is ∙ take-length last.slots.slots
            ∙ ap (λ (l : SlotList). l.slots) is.slots ∙ ap (λ (x : ℕ). slots_of files x is.count) first
            ∙ ap (slots_of files now.first) count;
        size = whole_size ∙ size_is ∙ is.size ∙ ap (λ (x : ℕ). group_size files x is.count) first ∙ ap (group_size files now.first) count;
      }

  pub all_joined : (before : TocGroups) (whole : TocGroup) (laid : TocGroups) →
      AreJoined files span (length files) before.groups.items before.numbers.items before.rows.items → 0 < length files →
      IsGroup files (group_after files span (length files)) whole → laid.groups.items ≡ before.groups.items ++ whole ∷ [] →
      laid.numbers.items ≡ before.numbers.items → laid.rows.items ≡ before.rows.items → laid.span ≡ span →
      AreGroups files span laid
  all_joined before whole laid are some is items laid_numbers laid_rows laid_span =
      let n = length files in
      let last = group_after files span n in
      let count : 0 < last.count = last_some n some in
      record {
        span_is = laid_span;
        count = ap (λ (l : List TocGroup). length l) items ∙ length-append before.groups.items (whole ∷ [])
            ∙ (let e : length before.groups.items + 1 ≡ suc last.number = omega (arith, are.count) in e) ∙ sym (count_after n some);
        each = λ g w found.
            elim (get_split before.groups.items (whole ∷ []) g w (ap (λ (l : List TocGroup). slice_get l g) (sym items) ∙ found)) [
              | inl old ↦ are.each g w old
              | inr new ↦ (
                  let this = one_get whole w new.0 new.2 in
                  let at : g ≡ last.number = omega (arith, new.1, this.0, are.count) in
                  subst (λ (x : Group). IsGroup files x w) (sym (ap (λ (x : ℕ). group_among files span x n) at ∙ among_last n count))
                  (subst (IsGroup files last) this.1 is))
            ];
        numbers_are = laid_numbers ∙ are.numbers_are;
        row_count = ap (λ (l : List (List (Option ℕ))). length l) laid_rows ∙ are.row_count;
        numbered = λ file r found. are.numbered file r (ap (λ (l : List (List (Option ℕ))). slice_get l file) (sym laid_rows) ∙ found);
      }

  -- where there are no files, there are no groups
  pub none_at_all : (laid : TocGroups) →
      AreJoined files span (length files) laid.groups.items laid.numbers.items laid.rows.items → length laid.numbers.items ≡ 0 →
      laid.span ≡ span → AreGroups files span laid
  none_at_all laid are none laid_span =
      let all = ap (λ (l : List ℕ). length l) are.numbers_are ∙ length-map-range_with_len (group_number files span) 0 (length files) in
      let files_none : length files ≡ 0 = omega (arith, all, none) in
      let number : (group_after files span (length files)).number ≡ 0 = ap (λ (m : ℕ). (group_after files span m).number) files_none in
      record {
        span_is = laid_span;
        count = are.count ∙ number ∙ sym (ap (groups_after files span) files_none);
        each = are.each;
        numbers_are = are.numbers_are;
        row_count = are.row_count;
        numbered = are.numbered;
      }

  pub some_files : (laid : TocGroups) (count : ℕ) →
      AreJoined files span (length files) laid.groups.items laid.numbers.items laid.rows.items → count ≡ length laid.numbers.items →
      false ≡ (count == 0) → 0 < length files
  some_files laid count are is some =
      let all = ap (λ (l : List ℕ). length l) are.numbers_are ∙ length-map-range_with_len (group_number files span) 0 (length files) in
      let any : 0 < count = grind (arith, nat_tests, some) in
      omega (arith, all, is, any)
