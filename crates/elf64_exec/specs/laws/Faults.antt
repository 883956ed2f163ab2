-- What callers may cite about the faults of an executable.
use Rattle.std.proofs.Common.{ℕ, ◌≡◌, ◌≢◌, ◌<◌, ◌≤◌, ⊎_elim, List, refl, ap, arith}
use Rattle.std.proofs.lemmas.Bool.{cases_lt}
use Rattle.elf64_exec.specs.declared.layout.Segment.{Segment}
use Rattle.elf64_exec.specs.declared.layout.ExecFault.{ExecFault}
use Rattle.elf64_exec.specs.declared.layout.ExecFault.TheVariants.{NotElf, NotExec, BadSegment, Memory}
use Rattle.elf64_exec.specs.Loading.{IsGood, HasFault, Loads}

-- a file that loads has no fault
pub no_fault : (file : List ℕ) (entry : ℕ) (segments : List Segment) (fault : ExecFault) →
    Loads file entry segments →
    HasFault file fault →
    fault ≡ Memory
no_fault file entry segments NotElf loads has = absurd (has loads.magic)
no_fault file entry segments NotExec loads has = absurd (has.1 loads.header)
no_fault file entry segments (BadSegment i) loads has = absurd (has.3 (loads.good i has.2))
no_fault file entry segments Memory loads has = refl

-- the first bad header is one
first_bad : (file : List ℕ) (i j : ℕ) →
    ¬ IsGood file i →
    ((k : ℕ) → k < i → IsGood file k) →
    ¬ IsGood file j →
    ((k : ℕ) → k < j → IsGood file k) →
    i ≡ j
first_bad file i j bad before bad' before' =
    ⊎_elim
    (λ (below : i < j). absurd (bad (before' i below)))
    (λ (from : j ≤ i). ⊎_elim
    (λ (below : j < i). absurd (bad' (before j below)))
    (λ (upto : i ≤ j). omega arith)
    (cases_lt j i))
    (cases_lt i j)

-- no file has two faults
pub one_fault : (file : List ℕ) (a b : ExecFault) →
    HasFault file a →
    HasFault file b →
    a ≢ Memory →
    b ≢ Memory →
    a ≡ b
one_fault file NotElf NotElf has has' real real' = refl
one_fault file NotElf NotExec has has' real real' = absurd (has has'.0)
one_fault file NotElf (BadSegment j) has has' real real' = absurd (has has'.0)
one_fault file NotExec NotElf has has' real real' = absurd (has' has.0)
one_fault file NotExec NotExec has has' real real' = refl
one_fault file NotExec (BadSegment j) has has' real real' = absurd (has.1 has'.1)
one_fault file (BadSegment i) NotElf has has' real real' = absurd (has' has.0)
one_fault file (BadSegment i) NotExec has has' real real' = absurd (has'.1 has.1)
one_fault file (BadSegment i) (BadSegment j) has has' real real' =
    ap (λ n. BadSegment n) (first_bad file i j has.3 has.4 has'.3 has'.4)
one_fault file Memory b has has' real real' = absurd (real refl)
one_fault file a Memory has has' real real' = absurd (real' refl)
