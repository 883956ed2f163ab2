-- returns: a section that isn't data, or is empty, changes nothing, and another is copied. piece_address-requires: it is laid out.
-- put-requires: its bytes lie in a segment.
use Rattle.std.proofs.Common.{ℕ, ◌≡◌, ◌<◌, List, true, false, length, ap, sym, subst, ◌∙◌, arith}
use Rattle.std.proofs.lemmas.Bool.Decides.{nat_tests}
use Rattle.elf64_records.specs.Sections.{section_bytes, sh_size}
use Rattle.object_set.specs.Files.{file_at}
use Rattle.object_set.specs.Refusals.{set_refusal}
use Rattle.object_set.specs.Sections.{sort_of}
use Rattle.symbol_table.specs.declared.target.Piece.TheVariants.{Section}
use Rattle.symbol_table.specs.Sites.{is_data_sort}
use Rattle.toc_groups.specs.declared.pieces.DataEnds.{DataEnds}
use Rattle.toc_groups.specs.Data.{section_address}
use Rattle.toc_groups.specs.Plans.{data_ends}
use Rattle.toc_groups.specs.inside.Memory.{HasRange, Puts, byte_of}
use Rattle.toc_groups.proofs.Filling.{section, copied_more, copied_skip, sort_stored, stored_size}
use Rattle.toc_groups.proofs.Reading.{laid_piece, piece_is}
use Rattle.toc_groups.proofs.Rooms.{stored_range}
use Rattle.toc_groups.proofs.contents.copy_section.Goals as goal

pub returns-then-not-is_data_sort-clause-copied : goal.returns-then-not-is_data_sort-clause-copied
returns-then-not-is_data_sort-clause-copied c =
    let files = c.args.res.now.files in
    let sort : sort_of (file_at c.set-set.result.now c.args.file) c.args.section ≡ sort_of (file_at files c.args.file) c.args.section =
    ap (λ (s : List (List ℕ)). sort_of (file_at s c.args.file) c.args.section) c.set-set.ensures in
    let no : is_data_sort (sort_of (file_at files c.args.file) c.args.section) ≡ false =
    sym (ap is_data_sort (c.sort_of.ensures ∙ sort)) ∙ sym c.is_data_sort.ensures ∙ c.if-not-is_data_sort.true in
    copied_skip files c.args.plan.now.span c.args.file c.args.section (byte_of c.args.memory.now)
    (λ stored some. (let both : false ≡ true = sym no ∙ stored.sort in cc)) c.requires.before

pub returns-then-is_empty-clause-copied : goal.returns-then-is_empty-clause-copied
returns-then-is_empty-clause-copied c =
    let files = c.args.res.now.files in
    let whole = ap set_refusal (sym c.set-set.ensures) ∙ c.file_count-files.ensures.whole in
    let file : c.view.result.now ≡ file_at files c.args.file =
    c.view.ensures ∙ ap (λ (s : List (List ℕ)). file_at s c.args.file) c.set-set.ensures in
    let bytes = ap (λ (l : List ℕ). length l) (c.section.ensures.bytes ∙ ap (λ (b : List ℕ). section_bytes b c.args.section) file) in
    let test = c.is_empty.ensures in
    let yes = c.if-is_empty.true in
    let none : length c.section.result.bytes.now ≡ 0 = grind (arith, nat_tests, test, yes) in
    copied_skip files c.args.plan.now.span c.args.file c.args.section (byte_of c.args.memory.now)
    (λ stored some.
    let size = stored_size files c.args.plan.now.span (section c.args.file c.args.section) whole stored in
    omega (arith, some, bytes, none, size))
    c.requires.before

pub piece_address-address-requires : goal.piece_address-address-requires
piece_address-address-requires c =
    laid_piece c.args.res.now.files c.args.plan.now.span c.args.plan.now c.requires.plan (Section c.args.file c.args.section)
    (c.requires.file, c.requires.section)

pub put-requires-clause-room : goal.put-requires-clause-room
put-requires-clause-room c =
    let files = c.args.res.now.files in
    let span = c.args.plan.now.span in
    let whole = ap set_refusal (sym c.set-set.ensures) ∙ c.file_count-files.ensures.whole in
    let file : c.view.result.now ≡ file_at files c.args.file =
    c.view.ensures ∙ ap (λ (s : List (List ℕ)). file_at s c.args.file) c.set-set.ensures in
    let bytes = ap (λ (l : List ℕ). length l) (c.section.ensures.bytes ∙ ap (λ (b : List ℕ). section_bytes b c.args.section) file) in
    let is = sort_stored files c.args.plan.now.span c.set-set.result.now c.args.file c.args.section c.sort_of.result
    c.is_data_sort.result c.set-set.ensures c.sort_of.ensures c.is_data_sort.ensures c.if-not-is_data_sort.false c.requires.file
    c.requires.section in
    let size = stored_size files span (section c.args.file c.args.section) whole is in
    let test = c.is_empty.ensures in
    let no = c.if-is_empty.false in
    let some : 0 < length c.section.result.bytes.now = grind (arith, nat_tests, test, no) in
    let long : sh_size (file_at files c.args.file) c.args.section ≡ length c.section.result.bytes.now = omega (arith, bytes, size) in
    let range = stored_range files span c.args.file c.args.section whole c.requires.file c.requires.section is.sort
    (omega (arith, some, long)) in
    let at = section_address files span c.args.file (file_at files c.args.file) c.args.section in
    let address : c.piece_address-address.result ≡ at =
    c.piece_address-address.ensures
    ∙ piece_is files span c.args.plan.now c.requires.plan (Section c.args.file c.args.section) (c.requires.file, c.requires.section) in
    subst (λ (e : DataEnds). HasRange e c.piece_address-address.result (length c.section.result.bytes.now))
    (sym (c.requires.ends ∙ c.requires.plan.ends))
    (subst (λ (a : ℕ). HasRange (data_ends files span) a (length c.section.result.bytes.now)) (sym address)
    (subst (λ (n : ℕ). HasRange (data_ends files span) at n) long range))

pub returns-clause-copied : goal.returns-clause-copied
returns-clause-copied c =
    let files = c.args.res.now.files in
    let span = c.args.plan.now.span in
    let whole = ap set_refusal (sym c.set-set.ensures) ∙ c.file_count-files.ensures.whole in
    let file : c.view.result.now ≡ file_at files c.args.file =
    c.view.ensures ∙ ap (λ (s : List (List ℕ)). file_at s c.args.file) c.set-set.ensures in
    let bytes : c.section.result.bytes.now ≡ section_bytes (file_at files c.args.file) c.args.section =
    c.section.ensures.bytes ∙ ap (λ (b : List ℕ). section_bytes b c.args.section) file in
    let at = section_address files span c.args.file (file_at files c.args.file) c.args.section in
    let address : c.piece_address-address.result ≡ at =
    c.piece_address-address.ensures
    ∙ piece_is files span c.args.plan.now c.requires.plan (Section c.args.file c.args.section) (c.requires.file, c.requires.section) in
    let is = sort_stored files c.args.plan.now.span c.set-set.result.now c.args.file c.args.section c.sort_of.result
    c.is_data_sort.result c.set-set.ensures c.sort_of.ensures c.is_data_sort.ensures c.if-not-is_data_sort.false c.requires.file
    c.requires.section in
    copied_more files span c.args.file c.args.section (byte_of c.args.memory.now) (byte_of c.put.new.self) whole is
    (stored_size files span (section c.args.file c.args.section) whole is)
    (subst (λ (l : List ℕ). Puts (byte_of c.args.memory.now) at l (byte_of c.put.new.self)) bytes
    (subst (λ (a : ℕ). Puts (byte_of c.args.memory.now) a c.section.result.bytes.now (byte_of c.put.new.self)) address c.put.ensures.puts))
    c.requires.before
