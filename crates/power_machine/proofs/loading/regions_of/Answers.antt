-- One more segment gives one more region.
use Rattle.power_machine.proofs.Regions.{regions_more, sound_more}
use Rattle.power_machine.proofs.loading.regions_of.Goals as goal

pub loop-segment-preserved : goal.loop-segment-preserved
loop-segment-preserved c = record {
  whole = regions_more c.args.segments.items c.loop-segment.segment-iterator.rest.items _ c.loop-segment.regions.items _ c.in-Some.segment _
      c.in-Some.ensures.steps.0 c.in_ok-push.ensures.items c.in_ok-region_of.ensures c.loop-segment.invariant.whole;
  sound = sound_more c.in-Some.segment c.loop-segment.segment-iterator.rest.items _ c.in-Some.ensures.steps.0
      c.loop-segment.invariant.sound;
}
