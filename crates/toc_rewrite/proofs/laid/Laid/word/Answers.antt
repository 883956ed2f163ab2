-- word_at-requires: the word lies in the section.
use Rattle.std.proofs.Common.{◌≡◌, None, length, sym, ap, ◌∙◌, arith}
use Rattle.object_set.specs.Refusals.{set_refusal}
use Rattle.toc_rewrite.proofs.SoundRecords.{word_lies}
use Rattle.toc_rewrite.proofs.laid.Laid.word.Goals as goal

pub word_at-requires : goal.word_at-requires
word_at-requires c =
    let files = c.args.self.now.files in
    let whole : set_refusal files ≡ None =
    ap set_refusal (sym (c.set.ensures ∙ c.resolved.ensures.files)) ∙ c.file_count-files.ensures.whole in
    let lies = word_lies files c.args.id c.args.kind whole c.resolved-resolved.ensures.whole c.requires.record c.requires.kind
    c.requires.user in
    let bytes = ap length c.requires.bytes in
    omega (arith, lies, bytes, c.facts.ensures.offset)
