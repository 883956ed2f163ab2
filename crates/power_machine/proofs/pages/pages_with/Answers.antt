-- At first no page is kept ..
use Rattle.std.proofs.Common.{◌+◌, ◌-◌, ◌∙◌, arith, refl, []}
use Rattle.power_machine.specs.Paging.{byte_in}
use Rattle.power_machine.proofs.Lists.{put_none, put_more, put_all}
use Rattle.power_machine.proofs.Paging.{none_kept, none_tight, none_long}
use Rattle.power_machine.proofs.Tight.{blank_behind}
use Rattle.power_machine.proofs.pages.pages_with.Goals as goal

pub loop-done-init : goal.loop-done-init
loop-done-init c = record {
  within = omega arith;
  len = none_long c.in_ok-pages.pages c.args.count c.in_ok-pages.ensures;
  bytes_are = none_kept c.in_ok-pages.pages c.args.count c.in_ok-pages.ensures ∙ put_none _ c.args.from [] refl;
  tight = none_tight c.in_ok-pages.pages c.args.count c.in_ok-pages.ensures;
}

-- .. then a piece more is there ..
pub load-requires-clause-nothing : goal.load-requires-clause-nothing
load-requires-clause-nothing c =
    blank_behind c.loop-done.pages c.args.from c.loop-done.done c.args.bytes.now c.loop-done.invariant.bytes_are

pub loop-done-preserved : goal.loop-done-preserved
loop-done-preserved c =
    let size = c.count_on_page-size.result in
    record {
      within = omega arith;
      len = c.in_ok-load.ensures.len ∙ c.loop-done.invariant.len;
      bytes_are = put_more (λ k. 0) (byte_in c.loop-done.pages) _ c.args.from c.loop-done.done size
          (c.loop-done.done + size - c.loop-done.done) c.args.bytes.now (omega arith) (omega arith)
          c.loop-done.invariant.bytes_are c.in_ok-load.ensures.bytes;
      tight = c.in_ok-load.ensures.tight c.loop-done.invariant.tight;
    }

-- .. and in the end all are.
pub returns-clause-bytes : goal.returns-clause-bytes
returns-clause-bytes c =
    put_all (λ k. 0) _ c.args.from c.loop-done.done c.args.bytes.now c.loop-done-test.false c.loop-done.invariant.bytes_are
