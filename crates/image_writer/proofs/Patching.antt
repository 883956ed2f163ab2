-- One more patch.
use Rattle.std.proofs.Common.{ℕ, zero, suc, add-one, ◌≡◌, ◌+◌, ◌/◌, take, List, [], ◌∷◌, ◌++◌, map, ap, sym, ◌∙◌, refl, arith}
use Rattle.std.specs.List.{range_with_len, flat_map, sum_by}
use Rattle.std.proofs.lemmas.List.{append-nil}
use Rattle.std.proofs.lemmas.List.Concat.{flat_map-append}
use Rattle.std.proofs.lemmas.List.FromFn.{map-range_with_len_more}
use Rattle.std.proofs.lemmas.List.Sums.{sum_by-append}
use Rattle.placed_bytes.specs.Patches.{Patch, patched, all_patched}
use Rattle.image_writer.specs.Text.{word_patches}

pub push_patch : (b : List ℕ) (ps : List Patch) (p : Patch) → all_patched b (ps ++ p ∷ []) ≡ patched (all_patched b ps) p
push_patch b [] p = refl
push_patch b (q ∷ qs) p = push_patch (patched b q) qs p

-- the patches by their numbers
pub next_patch : (f : ℕ → Patch) (b text : List ℕ) (n : ℕ) → text ≡ all_patched b (map f (range_with_len 0 n)) →
    patched text (f n) ≡ all_patched b (map f (range_with_len 0 (n + 1)))
next_patch f b text n so_far =
    ap (λ (t : List ℕ). patched t (f n)) so_far ∙ sym (push_patch b (map f (range_with_len 0 n)) (f n))
    ∙ ap (all_patched b) (sym (map-range_with_len_more f 0 n n (omega arith)))

-- the patches of a list's elements
pub append_patches : (b : List ℕ) (ps qs : List Patch) → all_patched b (ps ++ qs) ≡ all_patched (all_patched b ps) qs
append_patches b [] qs = refl
append_patches b (p ∷ ps) qs = append_patches (patched b p) ps qs

-- a patch by its parts
pub same_patch : (at at' : ℕ) (bytes bytes' : List ℕ) → at ≡ at' → bytes ≡ bytes' → (patch : Patch) →
    patch ≡ record { at = at'; bytes = bytes' } → record { at = at; bytes = bytes } ≡ patch
same_patch at at' bytes bytes' same_at same patch is = cc

-- numbers from one on, and one more
range_push : (a n : ℕ) → range_with_len a (suc n) ≡ range_with_len a n ++ (a + n) ∷ []
range_push a zero = let e : a + 0 ≡ a = omega arith in rw e refl
range_push a (suc n) =
    let e : a + 1 + n ≡ a + suc n = omega arith in
    ap (λ (l : List ℕ). a ∷ l) (range_push (a + 1) n ∙ ap (λ (m : ℕ). range_with_len (a + 1) n ++ m ∷ []) e)

pub range_next : (n : ℕ) → range_with_len 0 (n + 1) ≡ range_with_len 0 n ++ n ∷ []
range_next n =
    let e : 0 + n ≡ n = omega arith in
    ap (range_with_len 0) (add-one n) ∙ range_push 0 n ∙ ap (λ (m : ℕ). range_with_len 0 n ++ m ∷ []) e

-- a sum over numbers, and one more
pub sum_next : (f : ℕ → ℕ) (n : ℕ) → sum_by f (range_with_len 0 (n + 1)) ≡ sum_by f (range_with_len 0 n) + f n
sum_next f n =
    let all = ap (sum_by f) (range_next n) ∙ sum_by-append f (range_with_len 0 n) (n ∷ []) in
    omega (arith, all)

-- several patches for each number
pub next_patches : (f : ℕ → List Patch) (b text : List ℕ) (n : ℕ) → text ≡ all_patched b (flat_map f (range_with_len 0 n)) →
    all_patched text (f n) ≡ all_patched b (flat_map f (range_with_len 0 (n + 1)))
next_patches f b text n so_far =
    let all : flat_map f (range_with_len 0 (n + 1)) ≡ flat_map f (range_with_len 0 n) ++ f n =
    ap (flat_map f) (range_next n) ∙ flat_map-append f (range_with_len 0 n) (n ∷ [])
    ∙ ap (λ (l : List Patch). flat_map f (range_with_len 0 n) ++ l) (append-nil (f n)) in
    ap (λ (t : List ℕ). all_patched t (f n)) so_far ∙ sym (append_patches b (flat_map f (range_with_len 0 n)) (f n))
    ∙ ap (all_patched b) (sym all)

-- words by where they begin, how many they are, and what they are
pub same_words : (b : List ℕ) (at at' size size' : ℕ) (words words' : List ℕ) → at ≡ at' → size ≡ size' → words ≡ words' →
    all_patched b (word_patches at (take (size / 4) words)) ≡ all_patched b (word_patches at' (take (size' / 4) words'))
same_words b at at' size size' words words' same_at same_size same =
    ap (λ (a : ℕ). all_patched b (word_patches a (take (size / 4) words))) same_at
    ∙ ap (λ (n : ℕ). all_patched b (word_patches at' (take (n / 4) words))) same_size
    ∙ ap (λ (l : List ℕ). all_patched b (word_patches at' (take (size' / 4) l))) same

-- a patch by its place and its bytes
pub same_patched : (b : List ℕ) (at at' : ℕ) (bytes bytes' : List ℕ) → at ≡ at' → bytes ≡ bytes' →
    patched b (record { at = at; bytes = bytes }) ≡ patched b (record { at = at'; bytes = bytes' })
same_patched b at at' bytes bytes' same_at same =
    ap (λ (a : ℕ). patched b (record { at = a; bytes = bytes })) same_at
    ∙ ap (λ (l : List ℕ). patched b (record { at = at'; bytes = l })) same
