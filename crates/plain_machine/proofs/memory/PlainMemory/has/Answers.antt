-- A part of what may be loaded may be, and lies low; a cell that differs tells all apart; a turn passes one that doesn't.
use Rattle.std.proofs.Common.{ℕ, suc, ◌≡◌, ◌∙◌, sym, ap, arith, slice_index_or, length, drop, ◌&&◌, true, ◌+◌, ◌-◌}
use Rattle.power_machine.specs.declared.memory.Purpose.TheVariants.{Loading}
use Rattle.power_machine.specs.Memory.{bytes_from, ranges_of}
use Rattle.plain_machine.specs.declared.value.Cell.{Cell}
use Rattle.plain_machine.specs.declared.value.Cell.TheVariants as cell
use Rattle.plain_machine.specs.Values.{same_cell, same_cells}
use Rattle.plain_machine.specs.inside.Memory.{cell_at}
use Rattle.plain_machine.proofs.Cells.{allowed_low, both_true, part_allowed, cells_beside, none_beside}
use Rattle.plain_machine.proofs.SameCells.{and_left, and_not}
use Rattle.plain_machine.proofs.memory.PlainMemory.has.Goals as goal

pub overflow_add-at : goal.overflow_add-at
overflow_add-at c =
    let m = c.args.self.now in
    let within = c.loop-i-test.true in
    let low = allowed_low Loading c.args.at _ m.numbers.regions.items m.numbers.in_order (both_true _ _ c.requires).0 in
    omega (arith, low, within)

pub cell-requires : goal.cell-requires
cell-requires c =
    let m = c.args.self.now in
    ap (λ b. b && true) (part_allowed (ranges_of m.numbers.regions.items) c.args.at _ c.loop-i.i c.loop-i-test.true
    (both_true _ _ c.requires).0)

pub returns-then-not-same_cell : goal.returns-then-not-same_cell
returns-then-not-same_cell c =
    let m = c.args.self.now in
    sym (sym c.loop-i.invariant
    ∙ cells_beside (cell_at m) c.args.cells.now (c.args.at + c.loop-i.i) c.loop-i.i (cell.Number 0) c.loop-i-test.true
    ∙ and_not _ _ (ap (λ (d : Cell). same_cell d (slice_index_or c.args.cells.now c.loop-i.i (cell.Number 0))) (sym c.cell.ensures)
    ∙ sym c.same_cell.ensures ∙ c.if-not-same_cell.true))

pub loop-i-preserved : goal.loop-i-preserved
loop-i-preserved c =
    let m = c.args.self.now in
    let i = c.loop-i.i in
    let cells = c.args.cells.now in
    let plus : i + 1 ≡ suc i = omega arith in
    let there : c.args.at + (i + 1) ≡ c.args.at + i + 1 = omega arith in
    let passed : same_cell (cell_at m (c.args.at + i)) (slice_index_or cells i (cell.Number 0)) ≡ true =
    ap (λ (d : Cell). same_cell d (slice_index_or cells i (cell.Number 0))) (sym c.cell.ensures)
    ∙ sym c.same_cell.ensures ∙ c.if-not-same_cell.false in
    let step = sym (cells_beside (cell_at m) cells (c.args.at + i) i (cell.Number 0) c.loop-i-test.true ∙ and_left _ _ passed)
    ∙ c.loop-i.invariant in
    ap (λ (a : ℕ). same_cells (bytes_from (cell_at m) a (length cells - (i + 1))) (drop (i + 1) cells)) there
    ∙ ap (λ (k : ℕ). same_cells (bytes_from (cell_at m) (c.args.at + i + 1) (length cells - (i + 1))) (drop k cells)) plus ∙ step

pub returns : goal.returns
returns c =
    sym (none_beside (cell_at c.args.self.now) c.args.cells.now (c.args.at + c.loop-i.i) c.loop-i.i (omega (arith, c.loop-i-test.false)))
    ∙ c.loop-i.invariant
