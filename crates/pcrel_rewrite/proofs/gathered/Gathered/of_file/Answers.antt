use Rattle.std.proofs.Common.{◌≡◌, ℕ, List, [], ap, ◌∙◌, subst, arith}
use Rattle.elf64_records.specs.FileHeader.{e_shnum}
use Rattle.object_set.specs.Files.{file_at}
use Rattle.symbol_table.specs.declared.target.CodePlace.{CodePlace}
use Rattle.pcrel_rewrite.specs.declared.text_pairs.TextPair.{TextPair}
use Rattle.pcrel_rewrite.specs.inside.Joins.{Joins, Before}
use Rattle.pcrel_rewrite.specs.inside.Gathered.{AskedIn, LoadedIn}
use Rattle.pcrel_rewrite.proofs.Gathering.{gathers_more}
use Rattle.pcrel_rewrite.proofs.gathered.Gathered.of_file.Goals as goal

-- one section more
pub loop-table-preserved : goal.loop-table-preserved
loop-table-preserved c =
    let files = c.args.resolved.now.files in
    gathers_more (AskedIn files c.args.file) (LoadedIn files c.args.file) c.loop-table.table _ c.loop-table.gathered c.add_table.new.self
    c.loop-table.invariant c.in_ok-add_table.ensures

-- those of all sections
pub returns : goal.returns
returns c =
    let files = c.args.resolved.now.files in
    let file = c.args.file in
    let count = c.section_count-table-end.ensures.count ∙ ap e_shnum c.view.ensures
    ∙ ap (λ (s : List (List ℕ)). e_shnum (file_at s file)) c.set.ensures in
    let all : c.loop-table.table ≡ e_shnum (file_at files file) = omega (arith, count) in
    record {
      asked_are =
          subst (λ (n : ℕ). Joins (Before (AskedIn files file) n) [] c.loop-table.gathered.asked.items) all
          (subst (λ (l : List TextPair). Joins (Before (AskedIn files file) c.loop-table.table) l c.loop-table.gathered.asked.items)
          c.new.ensures.items c.loop-table.invariant.asked_too);
      loads_are =
          subst (λ (n : ℕ). Joins (Before (LoadedIn files file) n) [] c.loop-table.gathered.loads.items) all
          (subst (λ (l : List CodePlace). Joins (Before (LoadedIn files file) c.loop-table.table) l c.loop-table.gathered.loads.items)
          c.new-2.ensures.items c.loop-table.invariant.loads_too);
    }
