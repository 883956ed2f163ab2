use Rattle.std.proofs.Common.{List, ℕ, ap, ◌∙◌}
use Rattle.object_set.specs.Files.{file_at}
use Rattle.object_set.specs.Symbols.{name_of}
use Rattle.symbol_table.specs.Candidates.{common_number}
use Rattle.symbol_table.specs.Resolved.{ResolvedFiles}
use Rattle.symbol_table.proofs.resolved.Resolved.common_number.Goals as goal

-- names and text sections are of the same files
pub returns : goal.returns
returns c =
    let same = c.self.invariant.same ∙ ap (λ (r : ResolvedFiles). r.files) c.self.view_is in
    c.common_number.ensures ∙ ap (λ (f : List (List ℕ)). common_number f (name_of (file_at f c.args.file) c.args.symbol)) same
