-- The TOC base is saved where it doesn't stand yet.
use Rattle.std.proofs.Common.{List, Bool, Option, Some, true, ◌∙◌, sym, ap, subst, length}
use Rattle.std.specs.Bool.{beq}
use Rattle.std.specs.Option.{option_eq}
use Rattle.plain_machine.specs.declared.value.Cell.{Cell}
use Rattle.plain_machine.specs.inside.Memory.{Stores, held_at}
use Rattle.plain_machine.proofs.Performing.{saves_by}
use Rattle.plain_machine.proofs.state.PlainCore.save.Goals as goal

pub returns : goal.returns
returns c =
    let old = c.args.self.now in
    record {
      saved = saves_by old c.put.new.self c.args.base c.args.at c.put.result
          (sym c.may_store.ensures ∙ c.if-not-may_store.false)
          (ap (λ (o : Option Bool). option_eq beq o (Some true))
          (ap (held_at old.memory c.args.at) (sym c.number_cells.ensures) ∙ sym c.holds.ensures)
          ∙ sym c.eq.ensures ∙ c.if-eq.false)
          (subst (λ (cells : List Cell). Stores old.memory c.put.new.self c.args.at (length cells) cells c.put.result) c.slot_cells.ensures
          c.put.ensures);
    }
