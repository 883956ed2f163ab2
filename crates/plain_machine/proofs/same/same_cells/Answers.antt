-- Lists of different lengths aren't the same; nor are those that differ at one place; a turn passes one place where they don't; at the end
-- nothing is left.
use Rattle.std.proofs.Common.{◌∙◌, sym, add-one, arith}
use Rattle.plain_machine.proofs.SameCells.{different_lengths, cells_left, none_left, and_left, and_not}
use Rattle.plain_machine.proofs.same.same_cells.Goals as goal

pub returns-then-a-b : goal.returns-then-a-b
returns-then-a-b c = sym (different_lengths c.args.a.now c.args.b.now c.if-a-b.true)

pub returns-then-not-same_cell : goal.returns-then-not-same_cell
returns-then-not-same_cell c =
    sym (sym c.loop-i.invariant
    ∙ cells_left c.args.a.now c.args.b.now c.loop-i.i _ _ c.loop-i-test.true c.if-a-b.false
    ∙ and_not _ _ (sym c.same_cell.ensures ∙ c.if-not-same_cell.true))

pub loop-i-preserved : goal.loop-i-preserved
loop-i-preserved c =
    let step = sym (and_left _ _ (sym c.same_cell.ensures ∙ c.if-not-same_cell.false)) in
    rw add-one (step ∙ sym (cells_left c.args.a.now c.args.b.now c.loop-i.i _ _ c.loop-i-test.true c.if-a-b.false) ∙ c.loop-i.invariant)

pub returns : goal.returns
returns c =
    sym (none_left c.args.a.now c.args.b.now c.loop-i.i (omega (arith, c.loop-i-test.false)) c.if-a-b.false) ∙ c.loop-i.invariant
