use Rattle.std.proofs.Common.{◌<◌, List, ℕ, length, sym, ap, ◌∙◌, subst}
use Rattle.elf64_records.specs.Symbols.{symbol_count}
use Rattle.object_set.specs.Files.{file_at}
use Rattle.object_set.specs.Symbols.{is_absolute}
use Rattle.pcrel_rewrite.specs.Pairs.{is_number}
use Rattle.pcrel_rewrite.proofs.Definitions.{definition_here}
use Rattle.pcrel_rewrite.proofs.gathered.is_number.Goals as goal

-- a definition is a symbol of one of the files
pub is_absolute-requires-clause-file : goal.is_absolute-requires-clause-file
is_absolute-requires-clause-file c =
    let here = definition_here c.args.resolved.now.files c.args.file c.args.symbol c.in-Some.file c.in-Some.symbol c.requires.file
    c.requires.symbol c.in-Some.ensures in
    subst (λ (s : List (List ℕ)). c.in-Some.file < length s) (sym c.set.ensures) here.1.file_in

pub is_absolute-requires-clause-symbol : goal.is_absolute-requires-clause-symbol
is_absolute-requires-clause-symbol c =
    let here = definition_here c.args.resolved.now.files c.args.file c.args.symbol c.in-Some.file c.in-Some.symbol c.requires.file
    c.requires.symbol c.in-Some.ensures in
    subst (λ (s : List (List ℕ)). c.in-Some.symbol < symbol_count (file_at s c.in-Some.file)) (sym c.set.ensures) here.1.within

-- and tells whether it is a number
pub returns-in-Some : goal.returns-in-Some
returns-in-Some c =
    let here = definition_here c.args.resolved.now.files c.args.file c.args.symbol c.in-Some.file c.in-Some.symbol c.requires.file
    c.requires.symbol c.in-Some.ensures in
    c.is_absolute.ensures ∙ ap (λ (s : List (List ℕ)). is_absolute (file_at s c.in-Some.file) c.in-Some.symbol) c.set.ensures
    ∙ ap (is_number c.args.resolved.now.files) (sym here.0)
