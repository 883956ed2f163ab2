-- The plan of data, and its numbers.
use Rattle.std.proofs.Common.{ℕ, zero, suc, ◌≡◌, ◌<◌, ◌≤◌, ◌+◌, ◌^◌, inl, inr, Bool, true, false, ◌==◌, List, [], ◌∷◌, length, map, get_or}
use Rattle.std.proofs.Common.{Option, Some, None, is_some, position, slice_get, if◌then◌else◌, ap, sym, subst, ◌∙◌, refl, arith, cond, nat_lt}
use Rattle.std.specs.List.{range_with_len, position_or_len}
use Rattle.std.proofs.lemmas.Bool.{cases_lt}
use Rattle.std.proofs.lemmas.Bool.Decides.{nat_tests}
use Rattle.std.proofs.lemmas.List.FromFn.{get_or-map-range_with_len, length-map-range_with_len}
use Rattle.ppc_bytes.specs.Bytes.{IsAlignedUp}
use Rattle.elf64_exec.specs.declared.memory_map.TheConstants.{PAGE}
use Rattle.elf64_records.specs.Symbols.{symbol_count}
use Rattle.object_set.specs.declared.places.SymbolId.{SymbolId}
use Rattle.object_set.specs.Files.{file_at}
use Rattle.object_set.specs.Refusals.{set_refusal}
use Rattle.layout_rounds.specs.Shapes.{aligned}
use Rattle.layout_rounds.proofs.Aligned.{aligned_is}
use Rattle.toc_groups.specs.declared.extents.TheConstants.{DATA_END}
use Rattle.toc_groups.specs.declared.groups.TocGroup.{TocGroup}
use Rattle.toc_groups.specs.declared.groups.TocGroups.{TocGroups}
use Rattle.toc_groups.specs.declared.pieces.LaidPieces.{LaidPieces}
use Rattle.toc_groups.specs.Slots.{symbol_id, shares_slot, slots_of, names_symbol}
use Rattle.toc_groups.specs.Groups.{Group, group_with, group_number, group_count, group_at}
use Rattle.toc_groups.specs.declared.pieces.DataEnds.{DataEnds}
use Rattle.toc_groups.specs.Data.{read_only_end, writable_start, groups_end, writable_end, commons_end, group_start, group_slots, base_of, data_end, text_start, slot_number, slot_row, data_refusal}
use Rattle.toc_groups.specs.Plans.{IsPlan, data_ends}
use Rattle.toc_groups.specs.inside.Named.{slots_in}
use Rattle.toc_groups.specs.inside.Laid.{AreGroupStarts, AreLaid, data_end_in, base_at}
use Rattle.toc_groups.specs.inside.Open.{IsNumbered, AreGroups}
use Rattle.toc_groups.specs.inside.Plans.{IsSafe}
use Rattle.toc_groups.proofs.Bounds.{slots_few}
use Rattle.toc_groups.proofs.Slotting.{slots_extend, position_extended}
use Rattle.toc_groups.proofs.Grouping.{group_end}
use Rattle.toc_groups.proofs.GroupFiles.{whole_of, number_below}
use Rattle.toc_groups.proofs.GroupPlaces.{start_low}

-- ---- lists by their elements

past_end : {X : Type 0} (xs : List X) (k : ℕ) (d : X) → length xs ≤ k → get_or xs k d ≡ d
past_end [] k d over = refl
past_end (x ∷ xs) zero d over = absurd (omega (arith, over))
past_end (x ∷ xs) (suc k) d over = past_end xs k d (omega (arith, over))

pub slice_get_at : {X : Type 0} (xs : List X) (k : ℕ) (d : X) → k < length xs → slice_get xs k ≡ Some (get_or xs k d)
slice_get_at [] k d within = absurd (omega (arith, within))
slice_get_at (x ∷ xs) zero d within = refl
slice_get_at (x ∷ xs) (suc k) d within = slice_get_at xs k d (omega (arith, within))

pub same_list : {X : Type 0} (f : ℕ → X) (d : X) (xs : List X) (first n : ℕ) → length xs ≡ n →
    ((i : ℕ) → i < n → get_or xs i d ≡ f (first + i)) → xs ≡ map f (range_with_len first n)
same_list f d [] first zero long each = refl
same_list f d [] first (suc n) long each = absurd (omega (arith, long))
same_list f d (x ∷ xs) first zero long each = absurd (omega (arith, long))
same_list f d (x ∷ xs) first (suc n) long each =
    let here = each 0 (omega arith) ∙ ap f (let e : first + 0 ≡ first = omega arith in e) in
    let rest = same_list f d xs (first + 1) n (omega (arith, long))
    (λ i within. each (suc i) (omega (arith, within)) ∙ ap f (let e : first + suc i ≡ first + 1 + i = omega arith in e)) in
    ap (λ y. y ∷ xs) here ∙ ap (λ l. f first ∷ l) rest

pub same_maps : (f g h : ℕ → ℕ) (first n : ℕ) → ((i : ℕ) → first ≤ i → i < first + n → f (g i) ≡ h i) →
    map f (map g (range_with_len first n)) ≡ map h (range_with_len first n)
same_maps f g h first zero each = refl
same_maps f g h first (suc n) each =
    ap (λ x. x ∷ map f (map g (range_with_len (first + 1) n))) (each first (omega arith) (omega arith))
    ∙ ap (λ l. h first ∷ l) (same_maps f g h (first + 1) n (λ i low high. each i (omega (arith, low)) (omega (arith, high))))

-- a place that is found is one of the list
position_case : (at n k : ℕ) → cond (nat_lt at n) (Some at) None ≡ Some k → k < n
position_case at n k is = elim (cases_lt at n) [
  | inl less ↦ (
      let test : nat_lt at n ≡ true = grind (arith, nat_tests, less) in
      let both : Some at ≡ Some k = sym (ap (λ (b : Bool). cond b (Some at) None) test) ∙ is in
      let same : at ≡ k = cc in
      omega (arith, same, less))
  | inr over ↦ (
      let test : nat_lt at n ≡ false = grind (arith, nat_tests, over) in
      let both : None ≡ Some k = sym (ap (λ (b : Bool). cond b (Some at) None) test) ∙ is in
      cc)
]

pub position_within : {X : Type 0} (p : X → Bool) (xs : List X) (k : ℕ) → position p xs ≡ Some k → k < length xs
position_within p xs k is = position_case (position_or_len p xs) (length xs) k is

module _ (files : List (List ℕ)) (span : ℕ) where
  -- ---- groups and starts

  pub number_read : (laid : TocGroups) (file : ℕ) → AreGroups files span laid → file < length files →
      get_or laid.numbers.items file 0 ≡ group_number files span file
  number_read laid file are within =
      ap (λ (l : List ℕ). get_or l file 0) are.numbers_are
      ∙ get_or-map-range_with_len (group_number files span) 0 (length files) file file 0 within (omega arith)

  numbers_long : (laid : TocGroups) → AreGroups files span laid → length laid.numbers.items ≡ length files
  numbers_long laid are =
      ap (λ (l : List ℕ). length l) are.numbers_are ∙ length-map-range_with_len (group_number files span) 0 (length files)

  starts_long : (starts : List ℕ) → AreGroupStarts files span starts → length starts ≡ group_count files span
  starts_long starts are = ap (λ (l : List ℕ). length l) are ∙ length-map-range_with_len (group_start files span) 0 (group_count files span)

  pub known_start : (laid : TocGroups) (starts : List ℕ) → AreGroups files span laid → AreGroupStarts files span starts → (file : ℕ) →
      file < length laid.numbers.items → get_or laid.numbers.items file 0 < length starts
  known_start laid starts are starts_are file within =
      let inside : file < length files = omega (arith, within, numbers_long laid are) in
      omega (arith, number_read laid file are inside, number_below files span file inside, starts_long starts starts_are)

  start_read : (starts : List ℕ) (g : ℕ) → AreGroupStarts files span starts → g < group_count files span →
      get_or starts g 0 ≡ group_start files span g
  start_read starts g are within =
      ap (λ (l : List ℕ). get_or l g 0) are
      ∙ get_or-map-range_with_len (group_start files span) 0 (group_count files span) g g 0 within (omega arith)

  pub starts_are_low : (starts : List ℕ) → AreGroupStarts files span starts → groups_end files span ≤ DATA_END → (g : ℕ) →
      get_or starts g 0 < 2 ^ 62
  starts_are_low starts are low g = elim (cases_lt g (group_count files span)) [
    | inl within ↦ omega (arith, start_read starts g are within, start_low files span g within low)
    | inr over ↦ omega (arith, past_end starts g 0 (omega (arith, over, starts_long starts are)))
  ]

  pub bases_are : (laid : TocGroups) (starts bases : List ℕ) → AreGroups files span laid → AreGroupStarts files span starts →
      bases ≡ map (base_at starts) laid.numbers.items → bases ≡ map (base_of files span) (range_with_len 0 (length files))
  bases_are laid starts bases are starts_are is =
      is ∙ ap (map (base_at starts)) are.numbers_are
      ∙ same_maps (base_at starts) (group_number files span) (base_of files span) 0 (length files) (λ file low high.
      let within : file < length files = omega (arith, high) in
      ap (λ (s : ℕ). s + 0x8000) (start_read starts (group_number files span file) starts_are (number_below files span file within)))

  -- ---- rows of slots

  row_found : (laid : TocGroups) (file : ℕ) → AreGroups files span laid → file < length files →
      IsNumbered files (group_with files span file) file (get_or laid.rows.items file [])
  row_found laid file are within =
      let row = get_or laid.rows.items file [] in
      are.numbered file row (slice_get_at laid.rows.items file [] (omega (arith, within, are.row_count)))

  number_case : (file j : ℕ) (o : Option ℕ) (named : Bool) (whole : Group) → is_some o ≡ named →
      ((k : ℕ) → o ≡ Some k → position (shares_slot files (symbol_id file j)) (slots_of files whole.first whole.count) ≡ Some k) →
      o ≡ (if named then position (shares_slot files (symbol_id file j)) (slots_of files whole.first whole.count) else None)
  number_case file j None true whole is found = cc
  number_case file j None false whole is found = refl
  number_case file j (Some k) true whole is found = sym (found k refl)
  number_case file j (Some k) false whole is found = cc

  slot_read : (file j k : ℕ) (row : List (Option ℕ)) → file < length files → IsNumbered files (group_with files span file) file row →
      get_or row j None ≡ Some k →
      position (shares_slot files (symbol_id file j))
      (slots_of files (group_at files span (group_number files span file)).first (group_at files span (group_number files span file)).count)
      ≡ Some k
  slot_read file j k row within is found =
      let now = group_with files span file in
      let all = group_at files span (group_number files span file) in
      let whole = whole_of files span file within in
      let extends = slots_extend files now.first now.count whole.more in
      let there : slots_of files now.first (now.count + whole.more) ≡ slots_of files all.first all.count =
      sym (ap (λ (f : ℕ). slots_of files f all.count) whole.first ∙ ap (slots_of files now.first) whole.count) in
      ap (position (shares_slot files (symbol_id file j))) (sym there)
      ∙ position_extended (shares_slot files (symbol_id file j)) (slots_of files now.first now.count)
      (slots_of files now.first (now.count + whole.more)) k extends (is.is_row.some j k found)

  row_is : (file : ℕ) (row : List (Option ℕ)) → file < length files → IsNumbered files (group_with files span file) file row →
      row ≡ slot_row files span file
  row_is file row within is =
      same_list (slot_number files span file) None row 0 (symbol_count (file_at files file)) is.is_row.count (λ j inside.
      let at : 0 + j ≡ j = omega arith in
      number_case file j (get_or row j None) (names_symbol files file j) (group_at files span (group_number files span file))
      (is.named.each j (omega (arith, inside, is.is_row.count)))
      (λ k found. slot_read file j k row within is found)
      ∙ ap (slot_number files span file) (sym at))

  pub rows_are : (laid : TocGroups) → AreGroups files span laid →
      laid.rows.items ≡ map (slot_row files span) (range_with_len 0 (length files))
  rows_are laid are =
      same_list (slot_row files span) [] laid.rows.items 0 (length files) are.row_count (λ file within.
      row_is file (get_or laid.rows.items file []) within (row_found laid file are within)
      ∙ ap (slot_row files span) (let e : file ≡ 0 + file = omega arith in e))

  -- ---- a plan can be read

  pub safe : (laid : TocGroups) (starts : List ℕ) → set_refusal files ≡ None → length files ≤ 4096 → AreGroups files span laid →
      AreGroupStarts files span starts → groups_end files span ≤ DATA_END → IsSafe laid.numbers.items starts laid.rows.items
  safe laid starts whole few are starts_are low = record {
    known = known_start laid starts are starts_are;
    rows = are.row_count ∙ sym (numbers_long laid are);
    low = λ file j k found.
        elim (cases_lt file (length files)) [
          | inl within ↦ (
              let all = group_at files span (group_number files span file) in
              let is = row_found laid file are within in
              let at = position_within (shares_slot files (symbol_id file j)) (slots_of files all.first all.count) k
              (slot_read file j k (get_or laid.rows.items file []) within is found) in
              let there = whole_of files span file within in
              let end = group_end files span (suc file) in
              let inside : all.first + all.count ≤ length files = omega (arith, there.first, there.count, there.last, end) in
              let most = slots_few files all.first all.count whole inside in
              let start = starts_are_low starts starts_are low (get_or laid.numbers.items file 0) in
              omega (arith, start, at, most, inside, few))
          | inr over ↦ (
              let empty : get_or laid.rows.items file [] ≡ [] = past_end laid.rows.items file [] (omega (arith, over, are.row_count)) in
              let none : None ≡ Some k = sym (ap (λ (r : List (Option ℕ)). get_or r j None) empty) ∙ found in
              cc)
        ];
  }

  -- the symbols of the slots of each group
  named_from : (groups : List TocGroup) (f : ℕ → List SymbolId) (first n : ℕ) → length groups ≡ n →
      ((i : ℕ) (g : TocGroup) → slice_get groups i ≡ Some g → slots_in g ≡ f (first + i)) →
      map slots_in groups ≡ map f (range_with_len first n)
  named_from [] f first zero long each = refl
  named_from [] f first (suc n) long each = absurd (omega (arith, long))
  named_from (g ∷ groups) f first zero long each = absurd (omega (arith, long))
  named_from (g ∷ groups) f first (suc n) long each =
      let here : slots_in g ≡ f first = each 0 g refl ∙ ap f (let e : first + 0 ≡ first = omega arith in e) in
      let rest = named_from groups f (first + 1) n (omega (arith, long))
      (λ i x found. each (suc i) x found ∙ ap f (let e : first + suc i ≡ first + 1 + i = omega arith in e)) in
      ap (λ (x : List SymbolId). x ∷ map slots_in groups) here ∙ ap (λ (l : List (List SymbolId)). f first ∷ l) rest

  pub named_are : (laid : TocGroups) → AreGroups files span laid →
      map slots_in laid.groups.items ≡ map (group_slots files span) (range_with_len 0 (group_count files span))
  named_are laid are =
      named_from laid.groups.items (group_slots files span) 0 (group_count files span) are.count
      (λ i g found. (are.each i g found).slots ∙ ap (group_slots files span) (let e : i ≡ 0 + i = omega arith in e))

  -- where the runs of data begin and end
  ends_are : (laid : LaidPieces) → AreLaid files span laid → laid.ends ≡ data_ends files span
  ends_are laid are =
      let made : ℕ → ℕ → ℕ → ℕ → DataEnds = λ a b c d. record { read_only = a; writable_start = b; writable = c; commons = d } in
      ap (λ (x : ℕ). made x laid.ends.writable_start laid.ends.writable laid.ends.commons) are.read_only
      ∙ ap (λ (x : ℕ). made (read_only_end files) x laid.ends.writable laid.ends.commons) are.writable_start_is
      ∙ ap (λ (x : ℕ). made (read_only_end files) (writable_start files) x laid.ends.commons) are.writable
      ∙ ap (made (read_only_end files) (writable_start files) (writable_end files span)) are.commons_end_is

  -- where text starts
  pub text_is : (laid : LaidPieces) (end start : ℕ) → AreLaid files span laid → end ≡ data_end_in laid.ends → IsAlignedUp end PAGE start →
      start ≡ text_start files span
  text_is laid end start are is up =
      let choose : ℕ → ℕ → ℕ → ℕ = λ commons begin read_only. if commons == begin then read_only else commons in
      let all : end ≡ data_end files span =
      is ∙ ap (λ (x : ℕ). choose x laid.ends.writable_start laid.ends.read_only) are.commons_end_is
      ∙ ap (λ (x : ℕ). choose (commons_end files span) x laid.ends.read_only) are.writable_start_is
      ∙ ap (λ (x : ℕ). choose (commons_end files span) (writable_start files) x) are.read_only in
      aligned_is end PAGE start (omega arith) up ∙ ap (λ (n : ℕ). aligned n PAGE) all

  -- the plan of the files
  pub is_plan : (laid : TocGroups) (pieces : LaidPieces) (bases : List ℕ) (end start : ℕ) → AreGroups files span laid →
      AreLaid files span pieces → bases ≡ map (base_at pieces.starts.items) laid.numbers.items → end ≡ data_end_in pieces.ends →
      IsAlignedUp end PAGE start → data_refusal files span ≡ None → IsPlan files span (record {
        span = laid.span;
        groups = laid.numbers.items;
        bases = bases;
        pieces = pieces.addresses.pieces.items;
        firsts = pieces.addresses.firsts.items;
        commons = pieces.commons;
        starts = pieces.starts.items;
        named = map slots_in laid.groups.items;
        slots = laid.rows.items;
        ends = pieces.ends;
        text_start = start;
      })
  is_plan laid pieces bases end start groups are bases_is end_is up fits = record {
    span_is = groups.span_is;
    groups = groups.numbers_are;
    bases = bases_are laid pieces.starts.items bases groups are.starts bases_is;
    pieces = are.pieces;
    firsts = are.firsts;
    commons = are.commons;
    starts = are.starts;
    named = named_are laid groups;
    slots = rows_are laid groups;
    ends = ends_are pieces are;
    text_start = text_is pieces end start are end_is up;
    fits = fits;
  }

-- what is laid out for a set of files and a span is that of the files and the span that they are
pub record IsLaidOut (files : List (List ℕ)) (span : ℕ) (laid : TocGroups) (pieces : LaidPieces) : Type 0 where
  pub groups : AreGroups files span laid
  pub pieces_are : AreLaid files span pieces

pub laid_out : (files set : List (List ℕ)) (span from : ℕ) (laid : TocGroups) (pieces : LaidPieces) → AreGroups set from laid →
    set ≡ files →
    from ≡ span → AreLaid files laid.span pieces → IsLaidOut files span laid pieces
laid_out files set span from laid pieces groups_are same is pieces_are =
    let groups : AreGroups files span laid =
    subst (λ (s : ℕ). AreGroups files s laid) is (subst (λ (f : List (List ℕ)). AreGroups f from laid) same groups_are) in
    record { groups = groups; pieces_are = subst (λ (s : ℕ). AreLaid files s pieces) groups.span_is pieces_are }
