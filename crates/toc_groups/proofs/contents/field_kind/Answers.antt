-- returns: a record fills a field in data exactly if its section is data and its kind has bytes.
use Rattle.std.proofs.Common.{◌≡◌, ◌≢◌, ℕ, Some, List, ap, sym, ◌∙◌, arith}
use Rattle.elf64_records.specs.Records.{rela_of}
use Rattle.object_set.specs.Files.{file_at}
use Rattle.object_set.specs.Sections.{sort_of}
use Rattle.reloc_fields.specs.declared.kind.Kind.{Kind}
use Rattle.reloc_fields.specs.Table.{line_of}
use Rattle.symbol_table.specs.Sites.{is_data_sort}
use Rattle.symbol_table.proofs.KindNumbers.{kind_found, kind_number}
use Rattle.toc_groups.proofs.contents.field_kind.Goals as goal

pub returns-then-width-eq0-clause-none : goal.returns-then-width-eq0-clause-none
returns-then-width-eq0-clause-none c = λ kind is.
    let here = kind_found (rela_of (file_at c.args.res.now.files c.args.id.file) c.args.id.table c.args.id.entry).kind c.in-Some.kind
    (c.in-Some.ensures.known ∙ c.record_of.ensures.kind) in
    let both : Some c.in-Some.kind ≡ Some kind = sym here ∙ is.kind_is in
    let same : c.in-Some.kind ≡ kind = cc in
    let width = ap (λ (k : Kind). (line_of k).width) same in
    omega (arith, width, c.width.ensures, c.if-width-eq0.true, is.fills)

pub returns-else-width-eq0-clause-some : goal.returns-else-width-eq0-clause-some
returns-else-width-eq0-clause-some c =
    let files = c.args.res.now.files in
    let sort : sort_of (file_at c.set.result.now c.args.id.file) c.section_of-section.result
    ≡ sort_of (file_at files c.args.id.file) c.args.id.section =
    ap (λ (s : List (List ℕ)). sort_of (file_at s c.args.id.file) c.section_of-section.result) c.set.ensures
    ∙ ap (sort_of (file_at files c.args.id.file)) c.section_of-section.ensures.section in
    let some : c.width.result ≢ 0 = c.if-width-eq0.false in
    let width = c.width.ensures in
    record {
      there = c.requires;
      kind_is = kind_found (rela_of (file_at files c.args.id.file) c.args.id.table c.args.id.entry).kind c.in-Some.kind
          (c.in-Some.ensures.known ∙ c.record_of.ensures.kind);
      fills = grind (arith, some, width);
      sort = ap is_data_sort (sym (c.sort_of.ensures ∙ sort)) ∙ sym c.is_data_sort.ensures ∙ c.if-not-is_data_sort.false;
    }

pub returns-in-None-clause-none : goal.returns-in-None-clause-none
returns-in-None-clause-none c = λ kind is.
    c.in-None.ensures.unknown kind
    (kind_number (rela_of (file_at c.args.res.now.files c.args.id.file) c.args.id.table c.args.id.entry).kind kind is.kind_is
    ∙ sym c.record_of.ensures.kind)
