-- What an ordered walk over a set passes: each item has its index, and what stands at an index comes from a place.
use Rattle.std.proofs.Common.{◌≡◌, ◌<◌, ◌≤◌, ◌⊎◌, inl, inr, ℕ, zero, suc, ◌+◌, List, [], ◌∷◌, ◌++◌, length, length-append, append_assoc, Option, Some, slice_get, sym, ap, ◌∙◌, refl, arith, subst, add-one, add-zero}
use Rattle.std.specs.List.{All, flat_map, slice_index_or}
use Rattle.std.proofs.Math.Nat.{zero-add}
use Rattle.std.proofs.lemmas.Bool.{cases_lt}
use Rattle.std.proofs.lemmas.List.{append-nil}
use Rattle.std.proofs.lemmas.List.Concat.{flat_map-append}
use Rattle.object_set.specs.Files.{file_at}
use Rattle.elf64_records.specs.FileHeader.{e_shnum}
use Rattle.elf64_records.specs.Sections.{sh_info}
use Rattle.elf64_records.specs.Records.{record_count}
use Rattle.object_set.specs.declared.places.SectionId.{SectionId}
use Rattle.object_set.specs.declared.places.SymbolId.{SymbolId}
use Rattle.object_set.specs.declared.places.RecordId.{RecordId}
use Rattle.object_set.specs.Walks.{Walk, items_in, items_before, all_items, index_of, section_walk, symbol_walk, record_walk, record_id, records_in, IsSection, IsSymbol, IsRecord}
use Rattle.object_set.specs.inside.Left.{numbers_left, files_left}

module _ {X : Type 0} where
  -- an element of two lists is one of the first, or one of the second
  pub get_left : (xs ys : List X) (k : ℕ) (x : X) → slice_get xs k ≡ Some x → slice_get (xs ++ ys) k ≡ Some x
  get_left [] ys k x found = cc
  get_left (y ∷ xs) ys zero x found = found
  get_left (y ∷ xs) ys (suc k) x found = get_left xs ys k x found

  pub get_right : (xs ys : List X) (k i : ℕ) (x : X) → k ≡ length xs + i → slice_get ys i ≡ Some x → slice_get (xs ++ ys) k ≡ Some x
  get_right [] ys k i x place found = ap (slice_get ys) (place ∙ zero-add i) ∙ found
  get_right (y ∷ xs) ys zero i x place found = absurd (omega arith)
  get_right (y ∷ xs) ys (suc k) i x place found = get_right xs ys k i x (omega arith) found

  pub get_split : (xs ys : List X) (k : ℕ) (x : X) → slice_get (xs ++ ys) k ≡ Some x →
      (slice_get xs k ≡ Some x) ⊎ ((i : ℕ) × (k ≡ length xs + i) × (slice_get ys i ≡ Some x))
  get_split [] ys k x found = inr (k, sym (zero-add k), found)
  get_split (y ∷ xs) ys zero x found = inl found
  get_split (y ∷ xs) ys (suc k) x found =
      elim (get_split xs ys k x found) [
        | inl here ↦ inl here
        | inr past ↦ inr (past.0, omega (arith, past.1), past.2)
      ]

module _ {X : Type 0} (P : X → Type 0) where
  -- what is so of each element of a list is so of the first and of each of the rest
  pub first_of : (xs rest : List X) (x : X) → All P xs → xs ≡ x ∷ rest → P x
  first_of [] rest x all is = cc
  first_of (y ∷ xs) rest x all is = let same : y ≡ x = cc in subst P same (all 0 y (omega arith))

  rest_case : (xs rest : List X) → xs ≡ rest → ((k : ℕ) (d : X) → k < length xs → P (slice_index_or xs k d)) → All P rest
  rest_case xs rest same all = subst (λ (l : List X). All P l) same all

  pub rest_of : (xs rest : List X) (x : X) → All P xs → xs ≡ x ∷ rest → All P rest
  rest_of [] rest x all is = cc
  rest_of (y ∷ xs) rest x all is = let same : xs ≡ rest = cc in rest_case xs rest same (λ k d within. all (suc k) d (omega arith))

  get_at : (xs : List X) (k : ℕ) (d : X) → k < length xs → slice_get xs k ≡ Some (slice_index_or xs k d)
  get_at [] k d within = absurd (omega arith)
  get_at (x ∷ xs) zero d within = refl
  get_at (x ∷ xs) (suc k) d within = get_at xs k d (omega arith)

  -- what is so of what stands at each index is so of each element
  pub all_of : (xs : List X) → ((k : ℕ) (x : X) → slice_get xs k ≡ Some x → P x) → All P xs
  all_of xs each = λ k d within. each k (slice_index_or xs k d) (get_at xs k d within)

-- item x of a walk, which stands at index k of all: it is item i at number n of a file
pub record IsItem {X : Type 0} (w : Walk X) (set : List (List ℕ)) (k : ℕ) (x : X) : Type 0 where
  pub file : ℕ
  pub number : ℕ
  pub offset : ℕ
  pub file_in : file < length set
  pub within : number < w.count (file_at set file)
  pub here : slice_get (w.items file (file_at set file) number) offset ≡ Some x
  pub index : index_of w set file number + offset ≡ k

-- an item that stands among the items at the first n numbers of a file
record IsItemIn {X : Type 0} (w : Walk X) (file : ℕ) (b : List ℕ) (n k : ℕ) (x : X) : Type 0 where
  number : ℕ
  offset : ℕ
  within : number < n
  here : slice_get (w.items file b number) offset ≡ Some x
  index : length (items_in w file b number) + offset ≡ k

module _ {X : Type 0} (w : Walk X) where
  -- one number more, and one file more
  pub items_step : (set : List (List ℕ)) (file n : ℕ) →
      (items_before w set file ++ items_in w file (file_at set file) n) ++ w.items file (file_at set file) n
      ≡ items_before w set file ++ items_in w file (file_at set file) (n + 1)
  items_step set file n =
      append_assoc (items_before w set file) (items_in w file (file_at set file) n) (w.items file (file_at set file) n)
      ∙ ap (λ (m : ℕ). items_before w set file ++ items_in w file (file_at set file) m) (sym (add-one n))

  pub files_step : (set : List (List ℕ)) (file : ℕ) →
      items_before w set file ++ items_in w file (file_at set file) (w.count (file_at set file)) ≡ items_before w set (file + 1)
  files_step set file = ap (items_before w set) (sym (add-one file))

  -- the index of a place is the number of items before it
  pub length-items : (set : List (List ℕ)) (file n : ℕ) →
      length (items_before w set file ++ items_in w file (file_at set file) n) ≡ index_of w set file n
  length-items set file n = length-append (items_before w set file) (items_in w file (file_at set file) n)

  in_at : (file : ℕ) (b : List ℕ) (n m i : ℕ) (x : X) → m < n → slice_get (w.items file b m) i ≡ Some x →
      slice_get (items_in w file b n) (length (items_in w file b m) + i) ≡ Some x
  in_at file b zero m i x within found = absurd (omega arith)
  in_at file b (suc n) m i x within found =
      elim (cases_lt m n) [
        | inl less ↦ get_left (items_in w file b n) (w.items file b n) (length (items_in w file b m) + i) x
            (in_at file b n m i x less found)
        | inr most ↦ (
            let same : m ≡ n = omega arith in
            let P : ℕ → Type 0 = λ j. slice_get (items_in w file b j ++ w.items file b j) (length (items_in w file b m) + i) ≡ Some x in
            subst P same (get_right (items_in w file b m) (w.items file b m) (length (items_in w file b m) + i) i x refl found))
      ]

  before_at : (set : List (List ℕ)) (n file k : ℕ) (x : X) → file < n →
      slice_get (items_in w file (file_at set file) (w.count (file_at set file))) k ≡ Some x →
      slice_get (items_before w set n) (length (items_before w set file) + k) ≡ Some x
  before_at set zero file k x within found = absurd (omega arith)
  before_at set (suc n) file k x within found =
      let all : ℕ → List X = λ m. items_in w m (file_at set m) (w.count (file_at set m)) in
      elim (cases_lt file n) [
        | inl less ↦ get_left (items_before w set n) (all n) (length (items_before w set file) + k) x (before_at set n file k x less found)
        | inr most ↦ (
            let same : file ≡ n = omega arith in
            let P : ℕ → Type 0 = λ m. slice_get (items_before w set m ++ all m) (length (items_before w set file) + k) ≡ Some x in
            subst P same (get_right (items_before w set file) (all file) (length (items_before w set file) + k) k x refl found))
      ]

  -- item i at a number of a file stands i past the number's index
  pub item_at : (set : List (List ℕ)) (file n i : ℕ) (x : X) → file < length set → n < w.count (file_at set file) →
      slice_get (w.items file (file_at set file) n) i ≡ Some x → slice_get (all_items w set) (index_of w set file n + i) ≡ Some x
  item_at set file n i x file_in within found =
      let b = file_at set file in
      let inside = in_at file b (w.count b) n i x within found in
      let all = before_at set (length set) file (length (items_in w file b n) + i) x file_in inside in
      let place : length (items_before w set file) + (length (items_in w file b n) + i) ≡ index_of w set file n + i = omega arith in
      ap (slice_get (all_items w set)) (sym place) ∙ all

  in_from : (file : ℕ) (b : List ℕ) (n k : ℕ) (x : X) → slice_get (items_in w file b n) k ≡ Some x → IsItemIn w file b n k x
  in_from file b zero k x found = cc
  in_from file b (suc n) k x found =
      elim (get_split (items_in w file b n) (w.items file b n) k x found) [
        | inl here ↦ (
            let before = in_from file b n k x here in
            record {
              number = before.number;
              offset = before.offset;
              within = omega (arith, before.within);
              here = before.here;
              index =
                  before.index;
            })
        | inr past ↦ record { number = n; offset = past.0; within = omega arith; here = past.2; index = sym past.1 }
      ]

  before_from : (set : List (List ℕ)) (n k : ℕ) (x : X) → n ≤ length set → slice_get (items_before w set n) k ≡ Some x → IsItem w set k x
  before_from set zero k x few found = cc
  before_from set (suc n) k x few found =
      let b = file_at set n in
      elim (get_split (items_before w set n) (items_in w n b (w.count b)) k x found) [
        | inl here ↦ before_from set n k x (omega arith) here
        | inr past ↦ (
            let this = in_from n b (w.count b) past.0 x past.2 in
            record {
              file = n;
              number = this.number;
              offset = this.offset;
              file_in = omega arith;
              within = this.within;
              here = this.here;
              index = omega (arith, past.1, this.index);
            })
      ]

  -- what stands at an index comes from a place
  pub item_from : (set : List (List ℕ)) (k : ℕ) (x : X) → slice_get (all_items w set) k ≡ Some x → IsItem w set k x
  item_from set k x found = before_from set (length set) k x (omega arith) found

  -- the items at the first numbers of a file and those at the rest are those at all
  numbers_joined : (set : List (List ℕ)) (file n count : ℕ) →
      items_in w file (file_at set file) n ++ numbers_left w set file n count ≡ items_in w file (file_at set file) (n + count)
  numbers_joined set file n zero =
      append-nil (items_in w file (file_at set file) n) ∙ ap (items_in w file (file_at set file)) (sym (add-zero n))
  numbers_joined set file n (suc count) =
      let b = file_at set file in
      let more : n + 1 + count ≡ n + suc count = omega arith in
      sym (append_assoc (items_in w file b n) (w.items file b n) (numbers_left w set file (n + 1) count))
      ∙ ap (λ (m : ℕ). items_in w file b m ++ numbers_left w set file (n + 1) count) (sym (add-one n))
      ∙ numbers_joined set file (n + 1) count ∙ ap (items_in w file b) more

  -- and so are those of the first files and of the rest
  files_joined : (set : List (List ℕ)) (file count : ℕ) →
      items_before w set file ++ files_left w set file count ≡ items_before w set (file + count)
  files_joined set file zero = append-nil (items_before w set file) ∙ ap (items_before w set) (sym (add-zero file))
  files_joined set file (suc count) =
      let b = file_at set file in
      let here : numbers_left w set file 0 (w.count b) ≡ items_in w file b (w.count b) =
      numbers_joined set file 0 (w.count b) ∙ ap (items_in w file b) (zero-add (w.count b)) in
      let more : file + 1 + count ≡ file + suc count = omega arith in
      ap (λ (l : List X). items_before w set file ++ (l ++ files_left w set (file + 1) count)) here
      ∙ sym (append_assoc (items_before w set file) (items_in w file b (w.count b)) (files_left w set (file + 1) count))
      ∙ ap (λ (l : List X). l ++ files_left w set (file + 1) count) (files_step set file)
      ∙ files_joined set (file + 1) count ∙ ap (items_before w set) more

  -- what is left at the start is all
  pub all_left : (set : List (List ℕ)) → files_left w set 0 (length set) ≡ all_items w set
  all_left set = files_joined set 0 (length set) ∙ ap (items_before w set) (zero-add (length set))

-- a walk that has, at each number, what another one's items there give, has what all of these give
module _ {X Y : Type 0} (v : Walk Y) (w : Walk X) (set : List (List ℕ)) (f : Y → List X) where
  in_given : (file : ℕ) → ((n : ℕ) → flat_map f (v.items file (file_at set file) n) ≡ w.items file (file_at set file) n) → (n : ℕ) →
      flat_map f (items_in v file (file_at set file) n) ≡ items_in w file (file_at set file) n
  in_given file each zero = refl
  in_given file each (suc n) =
      let b = file_at set file in
      flat_map-append f (items_in v file b n) (v.items file b n)
      ∙ ap (λ (l : List X). l ++ flat_map f (v.items file b n)) (in_given file each n)
      ∙ ap (λ (l : List X). items_in w file b n ++ l) (each n)

  before_given : ((file : ℕ) → v.count (file_at set file) ≡ w.count (file_at set file)) →
      ((file n : ℕ) → flat_map f (v.items file (file_at set file) n) ≡ w.items file (file_at set file) n) → (n : ℕ) →
      flat_map f (items_before v set n) ≡ items_before w set n
  before_given counts each zero = refl
  before_given counts each (suc n) =
      let b = file_at set n in
      flat_map-append f (items_before v set n) (items_in v n b (v.count b))
      ∙ ap (λ (l : List X). l ++ flat_map f (items_in v n b (v.count b))) (before_given counts each n)
      ∙ ap (λ (l : List X). items_before w set n ++ l) (in_given n (each n) (v.count b))
      ∙ ap (λ (m : ℕ). items_before w set n ++ items_in w n b m) (counts n)

  pub all_given : ((file : ℕ) → v.count (file_at set file) ≡ w.count (file_at set file)) →
      ((file n : ℕ) → flat_map f (v.items file (file_at set file) n) ≡ w.items file (file_at set file) n) →
      flat_map f (all_items v set) ≡ all_items w set
  all_given counts each = before_given counts each (length set)

module _ {X : Type 0} where
  one_case : (x y : X) (i : ℕ) → slice_get (x ∷ []) i ≡ Some y → x ≡ y
  one_case x y zero found = cc
  one_case x y (suc i) found = cc

section_case : (set : List (List ℕ)) (k : ℕ) (s : SectionId) → IsItem section_walk set k s → IsSection set s
section_case set k s is =
    let this : record { file = is.file; section = is.number } ≡ s = one_case _ s is.offset is.here in
    subst (IsSection set) this (record { file_in = is.file_in; within = is.within })

-- each of the sections is one of a file
pub all_sections_in : (set : List (List ℕ)) → All (IsSection set) (all_items section_walk set)
all_sections_in set =
    all_of (IsSection set) (all_items section_walk set) (λ k s found. section_case set k s (item_from section_walk set k s found))

symbol_case : (set : List (List ℕ)) (k : ℕ) (s : SymbolId) → IsItem symbol_walk set k s → IsSymbol set s
symbol_case set k s is =
    let this : record { file = is.file; symbol = is.number } ≡ s = one_case _ s is.offset is.here in
    subst (IsSymbol set) this (record { file_in = is.file_in; within = is.within })

-- each of the symbols is one of a file
pub all_symbols_in : (set : List (List ℕ)) → All (IsSymbol set) (all_items symbol_walk set)
all_symbols_in set =
    all_of (IsSymbol set) (all_items symbol_walk set) (λ k s found. symbol_case set k s (item_from symbol_walk set k s found))

-- what stands among the first records of a section
record_case : (file : ℕ) (b : List ℕ) (i n k : ℕ) (r : RecordId) → slice_get (records_in file b i n) k ≡ Some r →
    (j : ℕ) × (j < n) × (record_id file b i j ≡ r)
record_case file b i zero k r found = cc
record_case file b i (suc n) k r found =
    elim (get_split (records_in file b i n) (record_id file b i n ∷ []) k r found) [
      | inl here ↦ (let before = record_case file b i n k r here in (before.0, omega (arith, before.1), before.2))
      | inr past ↦ (n, omega arith, one_case _ r past.0 past.2)
    ]

record_item : (set : List (List ℕ)) (k : ℕ) (r : RecordId) → IsItem record_walk set k r → IsRecord set r
record_item set k r is =
    let b = file_at set is.file in
    let this = record_case is.file b is.number (record_count b is.number) is.offset r is.here in
    subst (IsRecord set) this.2 (record { file_in = is.file_in; table_in = is.within; within = this.1; section_is = refl })

-- each of the records is one of a section of a file
pub all_records_in : (set : List (List ℕ)) → All (IsRecord set) (all_items record_walk set)
all_records_in set =
    all_of (IsRecord set) (all_items record_walk set) (λ k r found. record_item set k r (item_from record_walk set k r found))

-- a loop that puts behind others what each of the rest gives
pub put_more : {X Y : Type 0} (f : Y → List X) (out all : List X) (xs rest : List Y) (x : Y) → out ++ flat_map f xs ≡ all → xs ≡ x ∷ rest →
    (out ++ f x) ++ flat_map f rest ≡ all
put_more f out all xs rest x so_far is =
    append_assoc out (f x) (flat_map f rest) ∙ ap (λ l. out ++ flat_map f l) (sym is) ∙ so_far
