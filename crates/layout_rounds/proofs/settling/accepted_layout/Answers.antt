-- returns-then-end-shape-clause-refused and returns-in-Some-clause-refused: the layout that was judged is that of the far set, since
-- there is one. returns-in-None-clause-accepted: no call is out of reach, and the others reach since the set is closed.
use Rattle.std.proofs.Common.{ℕ, ◌<◌, ◌≤◌, ◌+◌, Bool, sym, subst, arith, length}
use Rattle.ppc_bytes.specs.declared.constants.TheConstants.{TEXT_LIMIT}
use Rattle.layout_rounds.specs.FarSets.{member}
use Rattle.layout_rounds.specs.Shapes.{KeyedText, keyed_text}
use Rattle.layout_rounds.specs.Layout.{text_end}
use Rattle.layout_rounds.specs.Settled.{is_out, IsOut}
use Rattle.layout_rounds.proofs.Called.{are_calls}
use Rattle.layout_rounds.proofs.FarLayouts.{same_set}
use Rattle.layout_rounds.proofs.StubsOut.{find_all, reached_by}
use Rattle.layout_rounds.proofs.settling.accepted_layout.Goals as goal

pub returns-then-end-shape-clause-refused : goal.returns-then-end-shape-clause-refused
returns-then-end-shape-clause-refused c = λ F is_far.
    let shape = c.args.shape.now in
    let laid = c.requires.layout in
    subst (λ (H : ℕ → Bool). shape.start + TEXT_LIMIT < text_end (keyed_text shape c.args.span) H)
    (same_set (keyed_text shape c.args.span) shape.sites.items c.args.span (member c.args.settled.far) F laid.far_is
    is_far)
    (subst (λ (x : KeyedText). shape.start + TEXT_LIMIT < text_end x (member c.args.settled.far)) laid.keyed_is
    (omega (arith, c.if-end-shape.true, c.end.ensures, laid.places_are.end_is)))

pub returns-in-Some-clause-refused : goal.returns-in-Some-clause-refused
returns-in-Some-clause-refused c = λ F is_far.
    let shape = c.args.shape.now in
    let laid = c.requires.layout in
    subst (λ (H : ℕ → Bool). IsOut shape c.args.span H c.in-Some.site)
    (same_set (keyed_text shape c.args.span) shape.sites.items c.args.span (member c.args.settled.far) F laid.far_is
    is_far)
    (record {
      within = subst (λ (x : KeyedText). text_end x (member c.args.settled.far) ≤ shape.start + TEXT_LIMIT)
          laid.keyed_is (omega (arith, c.if-end-shape.false, c.end.ensures, laid.places_are.end_is));
      first = sym c.in-Some.ensures;
    })

pub returns-in-None-clause-accepted : goal.returns-in-None-clause-accepted
returns-in-None-clause-accepted c =
    let shape = c.args.shape.now in
    let span = c.args.span in
    let t = keyed_text shape span in
    let sites = shape.sites.items in
    let F = member c.args.settled.far in
    let laid = c.requires.layout in
    record {
      within = subst (λ (x : KeyedText). text_end x F ≤ shape.start + TEXT_LIMIT) laid.keyed_is
          (omega (arith, c.if-end-shape.false, c.end.ensures, laid.places_are.end_is));
      none_out = sym c.in-None.ensures;
      reached = λ i lt. reached_by t sites F span i (are_calls shape span c.requires.sound) laid.far_is.closed lt
          (find_all (is_out t sites F span) (length sites) 0 i (sym c.in-None.ensures) (omega arith) (omega (arith, lt)));
    }
