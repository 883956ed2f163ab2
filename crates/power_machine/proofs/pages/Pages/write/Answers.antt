-- The pages of the bytes are made first ..
use Rattle.std.proofs.Common.{◌∙◌, length}
use Rattle.power_machine.specs.inside.Paged.{kept_in}
use Rattle.power_machine.proofs.Paging.{also_kept, also_met, some_bytes}
use Rattle.power_machine.proofs.pages.Pages.write.Goals as goal

pub put-requires-clause-kept : goal.put-requires-clause-kept
put-requires-clause-kept c =
    also_kept (kept_in c.args.self.now) _ c.args.from (length c.args.bytes.now)
    (some_bytes _ _ c.is_empty.ensures c.if-is_empty.false) c.in_ok-make.ensures.kept

-- .. and no other is kept.
pub returns-clause-kept : goal.returns-clause-kept
returns-clause-kept c =
    c.put.ensures.kept ∙ also_met (kept_in c.args.self.now) _ c.args.from (length c.args.bytes.now)
    (some_bytes _ _ c.is_empty.ensures c.if-is_empty.false) c.in_ok-make.ensures.kept
