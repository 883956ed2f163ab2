-- How long the bytes of a section are.
use Rattle.std.proofs.Common.{◌≡◌, ◌<◌, ◌≤◌, ◌+◌, ◌-◌, ℕ, Bool, true, false, List, [], length, take, drop, None, arith, length-drop, if◌then◌else◌}
use Rattle.std.proofs.lemmas.Bool.Decides.{nat_tests}
use Rattle.std.proofs.lemmas.List.{length-take}
use Rattle.elf64_records.specs.First.{◌orelse◌}
use Rattle.elf64_records.specs.laws.First.{both_none}
use Rattle.elf64_records.specs.Sections.{section_bytes, has_bytes, sh_offset, sh_size}
use Rattle.object_set.specs.Files.{file_at}
use Rattle.object_set.specs.Refusals.{set_refusal, file_refusal, length_refusal, fault_refusal, sections_refusal, symbols_refusal}
use Rattle.object_set.specs.laws.Fit.{file_fit}

file_short : (file : ℕ) (b : List ℕ) → file_refusal file b ≡ None → length b ≤ 0x10000000
unfolding file_refusal
file_short file b fit =
    let first = (both_none (length_refusal file b)
    (fault_refusal file b orelse (sections_refusal file b orelse symbols_refusal file b)) fit).0 in
    grind (arith, nat_tests, first)

part_short : (b : List ℕ) (i : ℕ) (has : Bool) →
    length (if has then take (sh_offset b i + sh_size b i - sh_offset b i) (drop (sh_offset b i) b) else []) ≤ length b
part_short b i true = simp (length-take, length-drop) (omega arith)
part_short b i false = omega arith

-- no section of a set has more bytes than a file may
pub section_short : (files : List (List ℕ)) (file i : ℕ) → set_refusal files ≡ None → file < length files →
    length (section_bytes (file_at files file) i) ≤ 0x10000000
section_short files file i whole file_in =
    let b = file_at files file in
    let all = file_short file b (file_fit files file whole file_in) in
    let part = part_short b i (has_bytes b i) in
    omega (arith, all, part)
