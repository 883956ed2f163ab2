-- returns: all sections of the file are copied.
use Rattle.std.proofs.Common.{ℕ, ◌≡◌, List, ap, subst, ◌∙◌, arith}
use Rattle.elf64_records.specs.FileHeader.{e_shnum}
use Rattle.object_set.specs.Files.{file_at}
use Rattle.toc_groups.specs.inside.Filled.{AreCopied}
use Rattle.toc_groups.specs.inside.Memory.{byte_of}
use Rattle.toc_groups.proofs.Filling.{copied_file}
use Rattle.toc_groups.proofs.contents.copy_file.Goals as goal

pub returns-clause-copied : goal.returns-clause-copied
returns-clause-copied c =
    let files = c.args.res.now.files in
    let count = c.section_count-section-end.ensures.count
    ∙ ap e_shnum (c.view.ensures ∙ ap (λ (s : List (List ℕ)). file_at s c.args.file) c.set.ensures) in
    let all : c.loop-section.section ≡ e_shnum (file_at files c.args.file) =
    omega (arith, count, c.loop-section.auto.section-end, c.loop-section-test.false) in
    copied_file files c.args.plan.now.span c.args.file (byte_of c.loop-section.memory)
    (subst (λ (i : ℕ). AreCopied files c.args.plan.now.span c.args.file i (byte_of c.loop-section.memory)) all
    c.loop-section.invariant.copied)
