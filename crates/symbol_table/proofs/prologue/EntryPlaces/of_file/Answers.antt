use Rattle.std.proofs.Common.{◌≡◌, ℕ, sym, ap, ◌∙◌, arith}
use Rattle.std.specs.List.{list_any, range_with_len}
use Rattle.std.proofs.lemmas.List.Sorted.{list_any-IsPermutation}
use Rattle.elf64_records.specs.Symbols.{symbol_count}
use Rattle.object_set.specs.Files.{file_at}
use Rattle.symbol_table.specs.Prologue.{stands_at}
use Rattle.symbol_table.specs.inside.Places.{is_place}
use Rattle.symbol_table.proofs.EntryPlaces.{entries_more}
use Rattle.symbol_table.proofs.prologue.EntryPlaces.of_file.Goals as goal

-- the place of one symbol more
pub loop-j-preserved : goal.loop-j-preserved
loop-j-preserved c = λ section at.
    entries_more (file_at c.args.set.now c.args.file) section at c.loop-j.j c.loop-j.items.items c.push_entry.new.items.items
    c.in_ok-push_entry.ensures (c.loop-j.invariant section at)

-- those of all symbols, in order
pub returns : goal.returns
returns c = λ section at.
    let b = file_at c.args.set.now c.args.file in
    let count = c.symbol_count-j-end.ensures ∙ ap symbol_count c.view.ensures in
    let all : c.loop-j.j ≡ symbol_count b = omega (arith, count) in
    sym (list_any-IsPermutation (is_place section at) c.loop-j.items.items c.sort_places.new.items.items c.sort_places.ensures.same)
    ∙ c.loop-j.invariant section at
    ∙ ap (λ (n : ℕ). list_any (stands_at b section at) (range_with_len 0 n)) all
