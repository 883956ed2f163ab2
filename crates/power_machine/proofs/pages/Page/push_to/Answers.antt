-- The bytes of a kept page are its own ..
use Rattle.std.proofs.Common.{sym, ◌∙◌, ap, ◌++◌}
use Rattle.power_machine.proofs.Paging.{held_bytes, none_bytes}
use Rattle.power_machine.proofs.pages.Page.push_to.Goals as goal

pub returns-in_ok-extend_from_slice : goal.returns-in_ok-extend_from_slice
returns-in_ok-extend_from_slice c =
    held_bytes c.args.self.now _ _ c.args.at c.args.count c.args.bytes.now.items _ c.deref.ensures.value c.self.view_is
    (sym c.is_kept.ensures ∙ c.if-is_kept.true) c.requires.whole c.requires.within c.in_ok-extend_from_slice.ensures.items

-- .. and those of another are zeros.
pub returns-in_ok-push_zeros : goal.returns-in_ok-push_zeros
returns-in_ok-push_zeros c =
    c.in_ok-push_zeros.ensures
    ∙ ap (λ xs. c.args.bytes.now.items ++ xs) (none_bytes c.args.self.now c.args.at c.args.count (sym c.is_kept.ensures
    ∙ c.if-is_kept.false))
