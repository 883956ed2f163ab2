-- What callers may cite about segments that a program may have, and about those of which an executable is made.
use Rattle.std.proofs.Common.{◌<◌, ◌≤◌, slice_index_or, List, [], ◌∷◌, ◌++◌, zero, suc, arith}
use Rattle.std.specs.List.{All, AllPairs}
use Rattle.std.proofs.lemmas.List.Elements.{All-cons, All-push}
use Rattle.std.proofs.lemmas.List.Quantifiers.{all_pairs_push}
use Rattle.elf64_exec.specs.declared.layout.Segment.{Segment}
use Rattle.elf64_exec.specs.Executable.{end_of, IsSound, IsBefore, ArePlaced, HasBytes, IsImage}

-- one sound segment with a byte makes an executable
pub IsImage-one : (s : Segment) → IsSound s → HasBytes s → IsImage (s ∷ [])
IsImage-one s sound bytes = record {
  placed = record {
    sound = λ k d h. elim k as (λ k. k < 1 → IsSound (slice_index_or (s ∷ []) k d)) [
      | zero ↦ λ h. sound
      | suc k ↦ λ h. absurd (omega arith)
    ] h;
    apart = λ i j d before within. absurd (omega arith);
  };
  some = omega arith;
  few = omega arith;
  ends = λ d. bytes;
}

-- no segments, one more before, and one more behind
pub ArePlaced-nil : ArePlaced []
ArePlaced-nil = record {
  sound = λ k d h. absurd (omega arith);
  apart = λ i j d before within. absurd (omega arith);
}

pub ArePlaced-cons : (s : Segment) (rest : List Segment) →
    IsSound s →
    All (λ t. end_of s ≤ t.address) rest →
    ArePlaced rest →
    ArePlaced (s ∷ rest)
ArePlaced-cons s rest sound before placed = record {
  sound = All-cons IsSound s rest sound placed.sound;
  apart = pairs;
}
  where
    pairs : AllPairs IsBefore (s ∷ rest)
    pairs zero zero d lt within = absurd (omega arith)
    pairs zero (suc j) d lt within = before j d (omega arith)
    pairs (suc i) zero d lt within = absurd (omega arith)
    pairs (suc i) (suc j) d lt within = placed.apart i j d (omega arith) (omega arith)

pub ArePlaced-push : (segments : List Segment) (s : Segment) →
    ArePlaced segments →
    IsSound s →
    All (λ t. end_of t ≤ s.address) segments →
    ArePlaced (segments ++ s ∷ [])
ArePlaced-push segments s placed sound after = record {
  sound = All-push IsSound segments s placed.sound sound;
  apart = all_pairs_push IsBefore segments s placed.apart after;
}
