-- A write to one page changes its bytes alone ..
use Rattle.power_machine.proofs.Paging.{piece_there}
use Rattle.power_machine.proofs.pages.Pages.put_on.Goals as goal

pub invariant_of-self : goal.invariant_of-self
invariant_of-self c =
    (piece_there c.self.inside.list.items c.args.self.now c.args.at c.args.bytes.now _ _ c.self.invariant c.self.view_is
    c.requires.kept c.index_mut.ensures.value c.write.ensures c.requires.within).1

-- .. and all pages are kept as before.
pub returns-clause-kept : goal.returns-clause-kept
returns-clause-kept c =
    (piece_there c.self.inside.list.items c.args.self.now c.args.at c.args.bytes.now _ _ c.self.invariant c.self.view_is
    c.requires.kept c.index_mut.ensures.value c.write.ensures c.requires.within).0.kept

pub returns-clause-bytes : goal.returns-clause-bytes
returns-clause-bytes c =
    (piece_there c.self.inside.list.items c.args.self.now c.args.at c.args.bytes.now _ _ c.self.invariant c.self.view_is
    c.requires.kept c.index_mut.ensures.value c.write.ensures c.requires.within).0.bytes_are
