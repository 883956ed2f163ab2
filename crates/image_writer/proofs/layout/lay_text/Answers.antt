use Rattle.std.proofs.Common.{ℕ, ◌≡◌, ◌+◌, ◌<◌, ◌≤◌, true, length, sym, subst, arith}
use Rattle.ppc_bytes.specs.declared.constants.TheConstants.{TEXT_LIMIT}
use Rattle.layout_rounds.specs.FarSets.{member}
use Rattle.layout_rounds.specs.Layout.{text_end}
use Rattle.layout_rounds.specs.Reach.{IsClosed}
use Rattle.layout_rounds.specs.Settled.{call_reaches, IsRefused}
use Rattle.image_writer.specs.Calls.{no_call}
use Rattle.layout_rounds.specs.declared.settling.LayoutFault.TheVariants.{TextTooBig, StubReach}
use Rattle.image_writer.proofs.Refusing.{call_within, refused_job}
use Rattle.image_writer.proofs.layout.lay_text.Goals as goal

-- a layout of the far set is one of a closed set
pub returns-in-Ok-settle-clause-job : goal.returns-in-Ok-settle-clause-job
returns-in-Ok-settle-clause-job g c =
    let laid = c.in-Ok-settle.ensures.layout in
    let accepted = c.in-Ok-settle.ensures.accepted in
    record {
      shape = c.in-Ok.shape;
      span = c.args.span;
      records = c.requires.calls.records;
      plan_is = c.requires.calls.plan_is;
      data_fits = c.requires.calls.plan_is.fits;
      sites_are = c.requires.calls.sites_are;
      shape_is = c.in-Ok.ensures.shape;
      sound = c.in-Ok.ensures.sound;
      is_span = c.requires.span;
      keyed_is = laid.keyed_is;
      far_count = laid.far_count;
      closed = subst (λ t. IsClosed t c.in-Ok.shape.sites.items c.args.span (member c.in-Ok-settle.settled.far))
          (sym laid.keyed_is) laid.far_is.closed;
      laid = laid.places_are;
      within = subst (λ t. text_end t (member c.in-Ok-settle.settled.far) ≤ c.in-Ok.shape.start + TEXT_LIMIT)
          (sym laid.keyed_is) accepted.within;
      reached = subst (λ t. (i : ℕ) → i < length c.in-Ok.shape.sites.items →
          call_reaches t c.in-Ok.shape.sites.items (member c.in-Ok-settle.settled.far) c.args.span i ≡ true)
          (sym laid.keyed_is) accepted.reached;
    }

-- each placement is counted for a call of the shape
pub returns-in-Ok-settle-clause-ticks : goal.returns-in-Ok-settle-clause-ticks
returns-in-Ok-settle-clause-ticks g c = omega (arith, c.settle.ensures.ticks, c.in-Ok.ensures.few)

pub returns-in-Err-TextTooBig-clause-ticks : goal.returns-in-Err-TextTooBig-clause-ticks
returns-in-Err-TextTooBig-clause-ticks g c = omega (arith, c.settle.ensures.ticks, c.in-Ok.ensures.few)

pub returns-in-Err-StubReach-clause-ticks : goal.returns-in-Err-StubReach-clause-ticks
returns-in-Err-StubReach-clause-ticks g c = omega (arith, c.settle.ensures.ticks, c.in-Ok.ensures.few)

pub returns-clause-ticks : goal.returns-clause-ticks
returns-clause-ticks g c = omega (arith, c.settle.ensures.ticks, c.in-Ok.ensures.few)

-- a text over its limit is that of the shape
pub returns-in-Err-TextTooBig-clause-refusal : goal.returns-in-Err-TextTooBig-clause-refusal
returns-in-Err-TextTooBig-clause-refusal g c =
    refused_job c.args.res.now.files c.args.plan.now c.args.sites.now c.args.span c.in-Ok.shape TextTooBig c.in-Ok.ensures.shape
    (c.some_far_set.ensures c.in-Ok.shape c.args.span c.in-Ok.ensures.sound c.requires.span)
    (subst (IsRefused c.in-Ok.shape c.args.span) c.in-Err-TextTooBig.field-0-is c.in-Err-TextTooBig.ensures.refused)

-- the call is one of the shape, and so of the job
pub call_numbered-requires : goal.call_numbered-requires
call_numbered-requires g c =
    call_within c.args.sites.now c.in-Ok.shape c.args.span c.in-Err-StubReach.i c.in-Ok.ensures.shape.sites_are
    (c.some_far_set.ensures c.in-Ok.shape c.args.span c.in-Ok.ensures.sound c.requires.span)
    (subst (IsRefused c.in-Ok.shape c.args.span) c.in-Err-StubReach.field-0-is c.in-Err-StubReach.ensures.refused)

pub returns-in-Err-StubReach-clause-refusal : goal.returns-in-Err-StubReach-clause-refusal
returns-in-Err-StubReach-clause-refusal g c = record {
  number = c.in-Err-StubReach.i;
  within = call_within c.args.sites.now c.in-Ok.shape c.args.span c.in-Err-StubReach.i c.in-Ok.ensures.shape.sites_are
      (c.some_far_set.ensures c.in-Ok.shape c.args.span c.in-Ok.ensures.sound c.requires.span)
      (subst (IsRefused c.in-Ok.shape c.args.span) c.in-Err-StubReach.field-0-is c.in-Err-StubReach.ensures.refused);
  refused = refused_job c.args.res.now.files c.args.plan.now c.args.sites.now c.args.span c.in-Ok.shape (StubReach c.in-Err-StubReach.i)
      c.in-Ok.ensures.shape (c.some_far_set.ensures c.in-Ok.shape c.args.span c.in-Ok.ensures.sound c.requires.span)
      (subst (IsRefused c.in-Ok.shape c.args.span) c.in-Err-StubReach.field-0-is c.in-Err-StubReach.ensures.refused);
  site_is = c.call_numbered.ensures no_call;
}
