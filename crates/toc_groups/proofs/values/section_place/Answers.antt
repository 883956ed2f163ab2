-- section_at-requires: a text section has an address. piece_address-requires: another section is laid out. returns: its address.
use Rattle.std.proofs.Common.{Bool, ap, sym, ◌∙◌, arith, slice_index, if◌then◌else◌}
use Rattle.object_set.specs.Files.{file_at}
use Rattle.object_set.specs.Sections.{is_text}
use Rattle.symbol_table.specs.declared.target.Piece.TheVariants.{Section}
use Rattle.symbol_table.specs.Text.{text_index}
use Rattle.symbol_table.specs.laws.Text.{text_index_within}
use Rattle.toc_groups.specs.Data.{section_address}
use Rattle.toc_groups.proofs.Reading.{laid_piece, piece_is}
use Rattle.toc_groups.proofs.RecordValues.{some_case, none_case}
use Rattle.toc_groups.proofs.values.section_place.Goals as goal

pub section_at-requires : goal.section_at-requires
section_at-requires c =
    let files = c.args.res.now.files in
    let i = c.args.section in
    let this = some_case (is_text (file_at files c.args.file) i) (text_index files c.args.file i) c.in-Some.number c.in-Some.ensures in
    omega (arith, this.1, text_index_within files c.args.file i c.requires.file c.requires.section this.0, c.requires.of_files.texts)

pub piece_address-requires : goal.piece_address-requires
piece_address-requires c =
    laid_piece c.args.res.now.files c.args.plan.now.span c.args.plan.now c.requires.of_files.plan_is (Section c.args.file c.args.section)
    (c.requires.file, c.requires.section)

pub returns-in-None : goal.returns-in-None
returns-in-None c =
    let files = c.args.res.now.files in
    let span = c.args.plan.now.span in
    let b = file_at files c.args.file in
    let i = c.args.section in
    let other = none_case (is_text b i) (text_index files c.args.file i) c.in-None.ensures in
    c.piece_address.ensures
    ∙ piece_is files span c.args.plan.now c.requires.of_files.plan_is (Section c.args.file i) (c.requires.file, c.requires.section)
    ∙ sym (ap (λ (t : Bool). if t then slice_index c.args.text.now.sections (text_index files c.args.file i)
    else section_address files span c.args.file b i) other)
