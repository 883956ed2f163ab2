-- start-requires: segments of data are placed. returns: the machine holds what data holds.
use Rattle.std.proofs.Common.{ℕ, List, Vec, ap, ◌∙◌}
use Rattle.std.specs.List.{fold}
use Rattle.std.specs.declared.alloc.Global.{Global}
use Rattle.plain_machine.specs.declared.kept.AddressRange.{AddressRange}
use Rattle.plain_machine.specs.declared.place.TextPlace.{TextPlace}
use Rattle.plain_machine.specs.declared.pointer.PlacedPointer.{PlacedPointer}
use Rattle.plain_machine.specs.Actions.{guarded}
use Rattle.plain_machine.specs.Plain.{PlainState}
use Rattle.plain_machine.specs.Start.{start_state, held_state}
use Rattle.power_machine.specs.Start.{start_ranges}
use Rattle.plain_run.specs.Data.{entry_place}
use Rattle.plain_run.proofs.start.start_machine.Goals as goal

pub start-requires : goal.start-requires
start-requires c =
    let files = c.args.res.now.files in
    let plan = c.args.plan.now in
    let some = c.requires.segments in
    (c.data_segments_are_placed.ensures files plan.span some.0 c.args.segments.items c.requires.plan.whole c.requires.plan.plan_is.fits
    some.1).placed

pub returns : goal.returns
returns c =
    let segments = c.args.segments.items in
    let started = c.in_ok-machine.ensures in
    let program = c.in_ok-program in
    let held = c.hold_all.ensures in
    let pointers = c.in_ok-data_pointers in
    record {
      state = c.in_ok-hold_all.ensures.state
          ∙ ap (λ (s : PlainState). fold held_state s c.deref.result.now)
          (started.state ∙ ap (λ (p : TextPlace). start_state p segments) program.ensures.entry)
          ∙ ap (λ (l : List PlacedPointer). fold held_state (start_state (entry_place c.args.res.now.entry) segments) l)
          (c.deref.ensures.value ∙ pointers.ensures.pointers);
      may = held.may ∙ started.may
          ∙ ap (λ (l : List AddressRange). guarded (start_ranges segments) l) (program.ensures.kept ∙ c.requires.toc);
      sizes = held.sizes ∙ ap (λ (v : Vec ℕ Global). v.items) started.sizes ∙ program.ensures.sizes;
      events = held.events ∙ started.events;
      ended = held.ended ∙ started.ended;
    }
