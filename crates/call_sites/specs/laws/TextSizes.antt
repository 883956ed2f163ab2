-- A text section has no more bytes than a file may have.
use Rattle.std.proofs.Common.{◌≡◌, ◌<◌, ◌≤◌, ℕ, ◌+◌, ◌-◌, Bool, true, false, List, [], length, drop, None, arith}
use Rattle.std.specs.Prelude.{slice_range, if◌then◌else◌}
use Rattle.std.proofs.lemmas.Bool.Decides.{nat_tests}
use Rattle.std.proofs.lemmas.List.{length-take, length-drop}
use Rattle.elf64_records.specs.First.{◌orelse◌}
use Rattle.elf64_records.specs.laws.First.{both_none}
use Rattle.elf64_records.specs.FileHeader.{e_shnum}
use Rattle.elf64_records.specs.Sections.{sh_size, sh_offset, has_bytes, section_bytes}
use Rattle.object_set.specs.Files.{file_at}
use Rattle.object_set.specs.Refusals.{set_refusal, file_refusal, length_refusal, fault_refusal, sections_refusal, symbols_refusal}
use Rattle.object_set.specs.Sections.{is_text}
use Rattle.object_set.specs.laws.Fit.{file_fit}
use Rattle.symbol_table.specs.laws.Sections.{bytes_whole, text_about, text_stored}

file_small : (file : ℕ) (b : List ℕ) → file_refusal file b ≡ None → length b ≤ 0x1000_0000
unfolding file_refusal
file_small file b fit =
    let first = both_none (length_refusal file b)
    (fault_refusal file b orelse (sections_refusal file b orelse symbols_refusal file b)) fit in
    let few = first.0 in
    grind (arith, nat_tests, few)

part_small : (b : List ℕ) (t : Bool) (from to : ℕ) → length (if t then slice_range b from to else []) ≤ length b
part_small b true from to = omega (arith, length-take (to - from) (drop from b), length-drop from b)
part_small b false from to = omega arith

-- its bytes are those of the file, as many as its header says
pub text_whole : (set : List (List ℕ)) (file section : ℕ) → set_refusal set ≡ None → file < length set →
    section < e_shnum (file_at set file) → is_text (file_at set file) section ≡ true →
    length (section_bytes (file_at set file) section) ≡ sh_size (file_at set file) section
text_whole set file section whole file_in within text =
    let b = file_at set file in
    bytes_whole set file section whole file_in (text_about b section within text) (text_stored b section text)

pub text_small : (set : List (List ℕ)) (file section : ℕ) → set_refusal set ≡ None → file < length set →
    section < e_shnum (file_at set file) → is_text (file_at set file) section ≡ true → sh_size (file_at set file) section ≤ 0x1000_0000
text_small set file section whole file_in within text =
    let b = file_at set file in
    let stored = text_whole set file section whole file_in within text in
    let part = part_small b (has_bytes b section) (sh_offset b section) (sh_offset b section + sh_size b section) in
    let all = file_small file b (file_fit set file whole file_in) in
    omega (arith, stored, part, all)
