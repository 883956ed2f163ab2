-- What a name stands for is a symbol of one of the files: the file is one of them, and the symbol's number one of that file.
use Rattle.std.proofs.Common.{List, ℕ, sym, ap, ◌∙◌, subst}
use Rattle.object_set.specs.Files.{file_at}
use Rattle.object_set.specs.Symbols.{name_of}
use Rattle.symbol_table.specs.Targets.{IsPlaced}
use Rattle.symbol_table.specs.Resolved.{ResolvedFiles}
use Rattle.symbol_table.specs.laws.Definitions.{definition_placed}
use Rattle.symbol_table.proofs.resolved.Resolved.external_target.Goals as goal

pub own_target-requires : goal.own_target-requires
own_target-requires c =
    let same = ap (λ (r : ResolvedFiles). r.files) (sym c.self.view_is) in
    let placed = subst (λ (f : List (List ℕ)). IsPlaced f c.in-Definition.definition.file c.in-Definition.definition.symbol) same
    (definition_placed c.args.self.now.files (name_of (file_at c.args.self.now.files c.args.file) c.args.symbol)
    c.in-Definition.definition (sym c.resolution_at.ensures ∙ c.in-Definition.is)) in
    record { file = placed.file_in; within = placed.within }
