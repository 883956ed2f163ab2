use Rattle.std.proofs.Common.{◌≡◌, ◌≢◌, true, List, ℕ, length, sym, ap, ◌∙◌, subst, arith}
use Rattle.elf64_records.specs.Sections.{sh_size, section_bytes}
use Rattle.object_set.specs.declared.sort.Sort.TheVariants.{Zeroed}
use Rattle.object_set.specs.Files.{file_at}
use Rattle.object_set.specs.Sections.{sort_of}
use Rattle.object_set.specs.Walks.{IsRecord}
use Rattle.symbol_table.specs.declared.sites.SiteRule.{SiteRule}
use Rattle.symbol_table.specs.Sites.{admits}
use Rattle.symbol_table.specs.inside.Fields.{FileOf}
use Rattle.symbol_table.specs.laws.Sections.{record_about, bytes_whole}
use Rattle.symbol_table.proofs.JudgedRecords.{fills_stored, room_left}
use Rattle.symbol_table.proofs.records.FileRecords.is_outside.Goals as goal

-- a section with other bytes than zeroes has as many as its header says
pub returns-else-size-width-clause-within : goal.returns-else-size-width-clause-within
returns-else-size-width-clause-within c = λ inside.
    let id = c.args.id in
    let files = c.self.inside.resolved.now.files in
    let b = file_at files id.file in
    let same = sym c.self.invariant.same ∙ ap (λ (f : FileOf). f.files) c.self.view_is in
    let is = subst (λ (s : List (List ℕ)). IsRecord s id) (sym same) c.requires.filling.record_in in
    let own = c.section-section.ensures.section in
    let sort : c.sort_of.result ≡ sort_of b id.section =
    c.sort_of.ensures ∙ ap (λ (s : List (List ℕ)). sort_of (file_at s id.file) c.section-section.result) c.set-set.ensures
    ∙ ap (sort_of b) own in
    let stands : admits c.rule_of.result.stand (sort_of b id.section) ≡ true =
    ap (admits c.rule_of.result.stand) (sym sort) ∙ sym c.admits.ensures ∙ c.if-not-admits.false in
    let stored : sort_of b id.section ≢ Zeroed =
    fills_stored c.args.kind (sort_of b id.section) c.requires.filling.fills
    (subst (λ (r : SiteRule). admits r.stand (sort_of b id.section) ≡ true) c.rule_of.ensures stands) in
    let whole = bytes_whole files id.file id.section c.self.invariant.whole is.file_in
    (record_about files id c.self.invariant.whole is) stored in
    let bytes : c.args.bytes.now ≡ section_bytes b id.section =
    c.requires.bytes ∙ ap (λ (s : List (List ℕ)). section_bytes (file_at s id.file) id.section) (sym same) in
    let here = c.view.ensures ∙ ap (λ (s : List (List ℕ)). file_at s id.file) c.set-set.ensures in
    let size : c.section_header-size.result.size ≡ sh_size b id.section =
    c.section_header-size.ensures.size ∙ ap (λ (l : List ℕ). sh_size l c.section-section.result) here ∙ ap (sh_size b) own in
    let length_is : length c.args.bytes.now ≡ c.section_header-size.result.size = ap length bytes ∙ whole ∙ sym size in
    let room = room_left c.section_header-size.result.size c.from-width.result c.rela.result.offset c.if-size-width.false inside in
    omega (arith, room, length_is, c.from-width.ensures, c.width.ensures, c.rela.ensures.offset)
