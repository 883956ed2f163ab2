-- Sections in order of file and number.
use Rattle.std.proofs.Common.{◌≡◌, ◌<◌, ◌≤◌, ℕ, zero, suc, ◌+◌, List, [], ◌∷◌, ◌++◌, map, length, length-append, slice_index, sym, ap, ◌∙◌, refl, arith, add-one}
use Rattle.std.specs.List.{range_with_len, slice_index_or}
use Rattle.std.proofs.lemmas.List.{map-append}
use Rattle.std.proofs.lemmas.List.FromFn.{length-range_with_len, get_or-range_with_len}
use Rattle.elf64_records.specs.FileHeader.{e_shnum}
use Rattle.object_set.specs.declared.places.SectionId.{SectionId}
use Rattle.object_set.specs.Files.{file_at}
use Rattle.object_set.specs.Walks.{section_walk, items_in, items_before, index_of}

-- a file has as many sections before a number as the number says
length-sections : (file : ℕ) (b : List ℕ) (n : ℕ) → length (items_in section_walk file b n) ≡ n
length-sections file b zero = refl
length-sections file b (suc n) =
    let before = length-sections file b n in
    let this : SectionId = record { file = file; section = n } in
    omega (arith, length-append (items_in section_walk file b n) (this ∷ []), before)

-- a section's place is that of its file's first section and its number
pub index_from_first : (files : List (List ℕ)) (file i : ℕ) →
    index_of section_walk files file i ≡ index_of section_walk files file 0 + i
index_from_first files file i = let count = length-sections file (file_at files file) i in omega (arith, count)

-- the sections of one file more
pub first_more : (files : List (List ℕ)) (file : ℕ) →
    index_of section_walk files file 0 + e_shnum (file_at files file) ≡ index_of section_walk files (file + 1) 0
first_more files file =
    let b = file_at files file in
    let count = length-sections file b (e_shnum b) in
    let both = length-append (items_before section_walk files file) (items_in section_walk file b (e_shnum b)) in
    let step : length (items_before section_walk files (file + 1)) ≡ length (items_before section_walk files (suc file)) =
    ap (λ (n : ℕ). length (items_before section_walk files n)) (add-one file) in
    omega (arith, count, both, step)

-- one number more
range_more : (a n : ℕ) → range_with_len a (n + 1) ≡ range_with_len a n ++ (a + n) ∷ []
range_more a zero = let same : a ≡ a + 0 = omega arith in ap (λ (m : ℕ). m ∷ []) same
range_more a (suc n) =
    let same : a + 1 + n ≡ a + suc n = omega arith in
    let more : suc n + 1 ≡ suc (n + 1) = omega arith in
    ap (range_with_len a) more
    ∙ ap (λ (l : List ℕ). a ∷ l) (range_more (a + 1) n ∙ ap (λ (m : ℕ). range_with_len (a + 1) n ++ m ∷ []) same)

-- a list of what each of the first numbers has, with one more
pub map_more : {X : Type 0} (f : ℕ → X) (n : ℕ) (old new : List X) (x : X) → old ≡ map f (range_with_len 0 n) → new ≡ old ++ x ∷ [] →
    x ≡ f n →
    new ≡ map f (range_with_len 0 (n + 1))
map_more {X} f n old new x before is this =
    let zeroth : n ≡ 0 + n = omega arith in
    is ∙ ap (λ (l : List X). l ++ x ∷ []) before
    ∙ ap (λ (y : X). map f (range_with_len 0 n) ++ y ∷ []) (this ∙ ap f zeroth)
    ∙ sym (map-append f (range_with_len 0 n) ((0 + n) ∷ []))
    ∙ ap (map f) (sym (range_more 0 n))

-- numbers up to a bound, and one more
pub bounded_more : (xs : List ℕ) (x bound : ℕ) → ((k : ℕ) → slice_index xs k ≤ bound) → x ≤ bound → (k : ℕ) →
    slice_index (xs ++ x ∷ []) k ≤ bound
bounded_more [] x bound all this zero = this
bounded_more [] x bound all this (suc k) = omega arith
bounded_more (y ∷ xs) x bound all this zero = all 0
bounded_more (y ∷ xs) x bound all this (suc k) = bounded_more xs x bound (λ j. all (suc j)) this k

mapped_read : {X : Type 0} (f : ℕ → X) (ns : List ℕ) (k : ℕ) (x : X) (d : ℕ) → k < length ns →
    slice_index_or (map f ns) k x ≡ f (slice_index_or ns k d)
mapped_read f [] k x d within = absurd (omega arith)
mapped_read f (n ∷ ns) zero x d within = refl
mapped_read f (n ∷ ns) (suc k) x d within = mapped_read f ns k x d (omega arith)

-- what is read of a list of what each of the first numbers has
pub mapped_at : {X : Type 0} (f : ℕ → X) (n k : ℕ) (xs : List X) (x : X) → xs ≡ map f (range_with_len 0 n) → k < n →
    x ≡ slice_index_or xs k x → x ≡ f k
mapped_at {X} f n k xs x is within read =
    let numbers = range_with_len 0 n in
    let inside : k < length numbers = omega (arith, within, length-range_with_len 0 n) in
    let number : slice_index_or numbers k 0 ≡ k = get_or-range_with_len 0 n k 0 within ∙ omega arith in
    read ∙ ap (λ (l : List X). slice_index_or l k x) is ∙ mapped_read f numbers k x 0 inside ∙ ap f number

-- and of numbers up to a bound
pub low_at : (xs : List ℕ) (k x bound : ℕ) → slice_index xs k ≤ bound → x ≡ slice_index_or xs k x → k < length xs → x ≤ bound
low_at [] k x bound low read within = absurd (omega arith)
low_at (y ∷ xs) zero x bound low read within = omega (arith, low, read)
low_at (y ∷ xs) (suc k) x bound low read within = low_at xs k x bound low read (omega arith)
