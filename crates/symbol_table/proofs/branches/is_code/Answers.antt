use Rattle.std.proofs.Common.{◌<◌, List, ℕ, length, sym, subst}
use Rattle.elf64_records.specs.FileHeader.{e_shnum}
use Rattle.object_set.specs.Files.{file_at}
use Rattle.symbol_table.specs.Resolved.{section_id}
use Rattle.symbol_table.specs.laws.Text.{text_section_at}
use Rattle.symbol_table.proofs.branches.is_code.Goals as goal

-- a text section is one of its file
pub is_instruction-requires-clause-file : goal.is_instruction-requires-clause-file
is_instruction-requires-clause-file c =
    let r = c.text_of-file.result in
    let is = text_section_at c.args.resolved.now.files c.args.section (section_id r) c.text_of-file.ensures in
    subst (λ (s : List (List ℕ)). r.0 < length s) (sym c.set.ensures) is.file_in

pub is_instruction-requires-clause-section : goal.is_instruction-requires-clause-section
is_instruction-requires-clause-section c =
    let r = c.text_of-file.result in
    let is = text_section_at c.args.resolved.now.files c.args.section (section_id r) c.text_of-file.ensures in
    subst (λ (s : List (List ℕ)). r.1 < e_shnum (file_at s r.0)) (sym c.set.ensures) is.within
