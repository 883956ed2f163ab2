-- The pages of the bytes are kept, so each piece can be put ..
use Rattle.std.proofs.Common.{◌+◌, ◌-◌, [], refl, ap, ◌∙◌, arith, ℕ, Bool}
use Rattle.power_machine.specs.Paging.{page_of, byte_in}
use Rattle.power_machine.proofs.Lists.{put_more, put_none, put_all}
use Rattle.power_machine.proofs.pages.Pages.put.Goals as goal

pub put_on-requires-clause-kept : goal.put_on-requires-clause-kept
put_on-requires-clause-kept c =
    ap (λ (f : ℕ → Bool). f (page_of (c.args.from + c.loop-done.done))) c.loop-done.invariant.kept
    ∙ c.requires.kept (c.args.from + c.loop-done.done) (omega arith) (omega arith)

-- .. at first none is there ..
pub loop-done-init : goal.loop-done-init
loop-done-init c = record {
  within = omega arith;
  len = refl;
  kept = refl;
  bytes_are = put_none
      (byte_in c.args.self.now) c.args.from [] refl;
}

-- .. then a piece more ..
pub loop-done-preserved : goal.loop-done-preserved
loop-done-preserved c = record {
  within = omega arith;
  len = c.put_on.ensures.len ∙ c.loop-done.invariant.len;
  kept = c.put_on.ensures.kept ∙ c.loop-done.invariant.kept;
  bytes_are = put_more (byte_in c.args.self.now) (byte_in c.loop-done.self) _ c.args.from c.loop-done.done c.count_on_page-count.result
      (c.loop-done.done + c.count_on_page-count.result - c.loop-done.done) c.args.bytes.now (omega arith) (omega arith)
      c.loop-done.invariant.bytes_are c.put_on.ensures.bytes;
}

-- .. and in the end all are.
pub returns-clause-bytes : goal.returns-clause-bytes
returns-clause-bytes c =
    put_all (byte_in c.args.self.now) _ c.args.from c.loop-done.done c.args.bytes.now c.loop-done-test.false
    c.loop-done.invariant.bytes_are
