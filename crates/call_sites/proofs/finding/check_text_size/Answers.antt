-- returns-then-size-total: the sections so far and this one are too much already.
use Rattle.std.proofs.Common.{◌≡◌, ◌<◌, ℕ, List, ap, ◌∙◌, arith}
use Rattle.std.proofs.lemmas.List.Sums.{sum_by_more_le}
use Rattle.elf64_records.specs.First.{when}
use Rattle.elf64_records.specs.Sections.{sh_size}
use Rattle.object_set.specs.Files.{file_at}
use Rattle.object_set.specs.declared.refusal.Refusal.TheVariants.{TextTooBig}
use Rattle.symbol_table.specs.Text.{text_sections}
use Rattle.ppc_bytes.specs.declared.constants.TheConstants.{TEXT_LIMIT}
use Rattle.call_sites.specs.Sites.{no_section, text_section}
use Rattle.call_sites.specs.Refusals.{section_size, text_size}
use Rattle.call_sites.proofs.finding.check_text_size.Goals as goal
use borrow.Author.Tests.{lt-ltb}

pub returns-then-size-total : goal.returns-then-size-total
returns-then-size-total c =
    let files = c.args.res.now.files in
    let number = c.loop-number.number in
    let s = c.text_section-file.result in
    let file = c.view.ensures ∙ ap (λ (l : List (List ℕ)). file_at l s.file) c.set.ensures in
    let size : c.section_header-size.result.size ≡ section_size files (text_section files number) =
    c.section_header-size.ensures.size ∙ ap (λ (b : List ℕ). sh_size b s.section) file
    ∙ ap (section_size files) c.text_section-file.ensures.section in
    let more = sum_by_more_le (section_size files) (text_sections files) number no_section
    (omega (arith, c.loop-number-test.true, c.text_count-number-end.ensures)) in
    let over : TEXT_LIMIT < text_size files =
    omega (arith, more, size, c.if-size-total.true, c.loop-number.invariant.total, c.loop-number.invariant.small) in
    ap (λ t. when t TextTooBig) (lt-ltb TEXT_LIMIT (text_size files) over)
