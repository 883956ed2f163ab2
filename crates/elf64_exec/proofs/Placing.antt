-- The segments of a file without fault are in order, apart and sound.
use Rattle.std.proofs.Common.{ℕ, zero, suc, ◌+◌, ◌≡◌, ◌<◌, ⊎_elim, List, [], ◌∷◌, ◌++◌, drop, None, refl, sym, ap, ◌∙◌, subst, add-one, arith}
use Rattle.std.specs.List.{All, AllPairs}
use Rattle.std.specs.Option.{option_to_list}
use Rattle.std.proofs.lemmas.List.{append-nil, length-take}
use Rattle.std.proofs.lemmas.List.Elements.{All-push, All-nil, All-weaker}
use Rattle.std.proofs.lemmas.List.Quantifiers.{all_pairs_push}
use Rattle.std.proofs.lemmas.Bool.{cases_lt}
use Rattle.std.proofs.lemmas.Bool.Decides.{eqb_tells}
use Rattle.elf64_exec.specs.declared.layout.Segment.{Segment}
use Rattle.elf64_exec.specs.Executable.{end_of, IsSound, IsBefore, ArePlaced}
use Rattle.elf64_exec.specs.Loading.{p_type, p_offset, p_filesz, p_memsz, IsLoad, load_end, CanLoad, IsGood, segment_of, segments_upto, e_phnum, Loads}
use Rattle.elf64_exec.proofs.ReadHeaders.{read_segment, none_of_other, none_of_empty, some_of_load, segments_more}

-- a segment is that of a header below k
abbrev IsOfHeader : List ℕ → ℕ → Segment → Type 0
IsOfHeader file k s = (j : ℕ) × (j < k) × IsLoad file j × (load_end file j ≡ end_of s)

record PlacedSoFar (file : List ℕ) (k : ℕ) (segments : List Segment) : Type 0 where
  sound : All IsSound segments
  apart : AllPairs IsBefore segments
  known : All (IsOfHeader file k) segments

later : (file : List ℕ) (k : ℕ) (s : Segment) → IsOfHeader file k s → IsOfHeader file (k + 1) s
later file k s h = (h.0, (let lt : h.0 < k + 1 = omega (arith, h.1) in lt), h.2, h.3)

-- a header without a segment
placed_same : (file : List ℕ) (k : ℕ) (segments : List Segment) →
    PlacedSoFar file k segments →
    PlacedSoFar file (k + 1) segments
placed_same file k segments so_far = record {
  sound = so_far.sound;
  apart = so_far.apart;
  known = All-weaker (IsOfHeader file k) (IsOfHeader file (k + 1)) (later file k) segments so_far.known;
}

sound_segment : (file : List ℕ) (k : ℕ) → CanLoad file k → 0 < p_memsz file k → IsSound (read_segment file k)
sound_segment file k can some = record {
  some = some;
  below = can.below;
  held = let taken = length-take (p_filesz file k) (drop (p_offset file k) file) in omega (arith, taken, can.held);
}

-- a header with one
placed_more : (file : List ℕ) (k : ℕ) (segments : List Segment) →
    PlacedSoFar file k segments →
    IsLoad file k →
    CanLoad file k →
    0 < p_memsz file k →
    PlacedSoFar file (k + 1) (segments ++ read_segment file k ∷ [])
placed_more file k segments so_far load can some = record {
  sound = All-push IsSound segments (read_segment file k) so_far.sound (sound_segment file k can some);
  apart = all_pairs_push IsBefore segments (read_segment file k) so_far.apart
      (λ i d h. let known = so_far.known i d h in let after = can.after known.0 known.1 known.2 in
      omega (arith, after, known.3));
  known = All-push (IsOfHeader file (k + 1)) segments (read_segment file k) (placed_same file k segments so_far).known
      (k, (let lt : k < k + 1 = omega arith in lt), load, refl);
}

-- the next header, whatever it is
placed_next : (file : List ℕ) (k : ℕ) →
    PlacedSoFar file k (segments_upto file k) →
    IsGood file k →
    PlacedSoFar file (k + 1) (segments_upto file (k + 1))
placed_next file k so_far good =
    let P : List Segment → Type 0 = PlacedSoFar file (k + 1) in
    let upto = segments_upto file k in
    let same = λ (none : segment_of file k ≡ None). subst P
    (sym (segments_more file k ∙ ap (λ o. upto ++ option_to_list o) none ∙ append-nil upto))
    (placed_same file k upto so_far) in
    ⊎_elim
    (λ load. ⊎_elim
    (λ some. subst P (sym (segments_more file k ∙
    ap (λ o. upto ++ option_to_list o)
    (some_of_load (p_type file k) (p_memsz file k) (read_segment file k) load.1 some)))
    (placed_more file k upto so_far load.1 (good load.1) some))
    (λ empty. same (none_of_empty (p_type file k) (p_memsz file k) (read_segment file k) (omega (arith, empty))))
    (cases_lt 0 (p_memsz file k)))
    (λ other. same (none_of_other (p_type file k) (p_memsz file k) (read_segment file k) other.1))
    (eqb_tells (p_type file k) 1)

placed_upto : (file : List ℕ) (k : ℕ) → ((i : ℕ) → i < k → IsGood file i) → PlacedSoFar file k (segments_upto file k)
placed_upto file zero good = record {
  sound = All-nil IsSound;
  apart = λ i j d before within. absurd (omega arith);
  known = All-nil (IsOfHeader file 0);
}
placed_upto file (suc k) good =
    let before = placed_upto file k (λ i h. good i (omega arith)) in
    subst (λ (n : ℕ). PlacedSoFar file n (segments_upto file n)) (add-one k)
    (placed_next file k before (good k (omega arith)))

pub segments_placed : (file : List ℕ) (k : ℕ) → ((i : ℕ) → i < k → IsGood file i) → ArePlaced (segments_upto file k)
segments_placed file k good = let p = placed_upto file k good in record { sound = p.sound; apart = p.apart }

-- what a file loads as is in order, apart and sound
pub Loads-placed : (file : List ℕ) (entry : ℕ) (segments : List Segment) →
    Loads file entry segments →
    ArePlaced segments
Loads-placed file entry segments loads =
    subst ArePlaced (sym loads.segments_are) (segments_placed file (e_phnum file) loads.good)
