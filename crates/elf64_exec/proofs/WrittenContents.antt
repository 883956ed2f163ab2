-- Where the segments' bytes stand in a written executable.
use Rattle.std.proofs.Common.{ℕ, zero, suc, ◌+◌, ◌-◌, ◌≡◌, ◌<◌, ◌≤◌, List, [], ◌∷◌, ◌++◌, length, get_or, take, drop, replicate, refl, ap, ◌∙◌, subst, append_assoc, arith}
use Rattle.std.proofs.lemmas.List.{drop_at, take_at, length-append, length-replicate}
use Rattle.elf64_exec.specs.declared.layout.Segment.{Segment}
use Rattle.elf64_exec.specs.Executable.{page_up, contents}
use Rattle.elf64_exec.proofs.Lengths.{page_up_above}
use Rattle.elf64_exec.proofs.WrittenHeaders.{offset_at}

-- the bytes of a segment stand at its offset, wholly within the file
pub record IsStored (file : List ℕ) (offset : ℕ) (bytes : List ℕ) : Type 0 where
  pub found : take (length bytes) (drop offset file) ≡ bytes
  pub inside : offset + length bytes ≤ length file

stored_behind : (offset : ℕ) (front bytes rest : List ℕ) →
    length front ≡ offset →
    IsStored (front ++ (bytes ++ rest)) offset bytes
stored_behind offset front bytes rest size = record {
  found = ap (take (length bytes)) (drop_at front (bytes ++ rest) offset size) ∙ take_at bytes rest (length bytes) refl;
  inside = simp length-append (omega (arith, size));
}

pub contents_stored : (end : ℕ) (segments : List Segment) (front : List ℕ) (i : ℕ) (d : Segment) →
    length front ≡ end →
    i < length segments →
    IsStored (front ++ contents end segments) (offset_at end segments i) (get_or segments i d).bytes
contents_stored end [] front i d size within = absurd (omega arith)
contents_stored end (s ∷ others) front zero d size within =
    let zeros = replicate (page_up end - end) 0 in
    let more = contents (page_up end + length s.bytes) others in
    let longer : length (front ++ zeros) ≡ page_up end =
    simp length-append (omega (arith, size, length-replicate {A = ℕ} (page_up end - end) 0, page_up_above end)) in
    let here = stored_behind (page_up end) (front ++ zeros) s.bytes more longer in
    let same : (front ++ zeros) ++ (s.bytes ++ more) ≡ front ++ ((zeros ++ s.bytes) ++ more) = simp append_assoc in
    subst (λ (l : List ℕ). IsStored l (page_up end) s.bytes) same here
contents_stored end (s ∷ others) front (suc i) d size within =
    let zeros = replicate (page_up end - end) 0 in
    let next = page_up end + length s.bytes in
    let more = contents next others in
    let longer : length (front ++ (zeros ++ s.bytes)) ≡ next =
    simp length-append (omega (arith, size, length-replicate {A = ℕ} (page_up end - end) 0, page_up_above end)) in
    let there = contents_stored next others (front ++ (zeros ++ s.bytes)) i d longer (omega arith) in
    let same : (front ++ (zeros ++ s.bytes)) ++ more ≡ front ++ ((zeros ++ s.bytes) ++ more) =
    append_assoc front (zeros ++ s.bytes) more in
    subst (λ (l : List ℕ). IsStored l (offset_at next others i) (get_or others i d).bytes) same there
