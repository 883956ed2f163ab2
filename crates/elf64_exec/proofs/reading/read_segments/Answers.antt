-- returns-then-not-can_follow-clause-fault: the header that can't follow is the first bad one.
-- loop-i-preserved: a header is taken, or skipped as one of another type or as an empty segment.
-- returns-clause-good: each header was passed. returns-clause-placed: so the segments are in order, without overlap.
use Rattle.std.proofs.Common.{ℕ, ◌<◌, sym, subst, refl, ◌∙◌, arith, ap}
use Rattle.std.proofs.lemmas.Bool.{false≢true}
use Rattle.elf64_exec.specs.Loading.{e_phnum, HasFault}
use Rattle.elf64_exec.specs.declared.layout.ExecFault.TheVariants.{BadSegment}
use Rattle.elf64_exec.proofs.ReadHeaders.{numbered, refused, skipped, loaded_empty, loaded_segment}
use Rattle.elf64_exec.specs.Executable.{ArePlaced}
use Rattle.elf64_exec.proofs.Placing.{segments_placed}
use Rattle.elf64_exec.proofs.reading.read_segments.Goals as goal
use Rattle.elf64_exec.proofs.reading.read_segments.Goals.{then-header-eq-PT_LOAD+else-not-can_follow+then-header-gt0+in_ok-segment+in_ok-push, then-header-eq-PT_LOAD+else-not-can_follow+else-header-gt0, else-header-eq-PT_LOAD}

pub returns-then-not-can_follow-clause-fault : goal.returns-then-not-can_follow-clause-fault
returns-then-not-can_follow-clause-fault c =
    let file = c.args.bytes.now in
    let is = numbered file c.loop-i.i c.long_at-start.result c.read-header.result c.long_at-start.ensures
    c.read-header.ensures in
    let within : c.loop-i.i < e_phnum file = omega (arith, c.half_at-i-end.ensures) in
    let fault = refused file c.loop-i.i c.loop-i.top _ _ c.read-header.result c.requires.magic c.requires.header
    within c.loop-i.invariant is c.if-header-eq-PT_LOAD.true refl
    (λ follows. false≢true (c.if-not-can_follow.ensures.1 follows)) in
    subst (λ (n : ℕ). HasFault file (BadSegment n)) (sym c.from.ensures) fault

pub loop-i-preserved : goal.loop-i-preserved
loop-i-preserved c =
    let file = c.args.bytes.now in
    let is = numbered file c.loop-i.i c.long_at-start.result c.read-header.result c.long_at-start.ensures
    c.read-header.ensures in
    elim c.if-header-eq-PT_LOAD.branch [
      | then-header-eq-PT_LOAD+else-not-can_follow+then-header-gt0+in_ok-segment+in_ok-push w ↦
          loaded_segment file c.loop-i.i c.loop-i.top _ _ _ c.read-header.result w.in_ok-segment.field-0 _
          c.loop-i.invariant is w.if-header-eq-PT_LOAD.true refl (w.if-not-can_follow.ensures.0 refl) w.top-is
          w.if-header-gt0.true w.in_ok-segment.ensures.segment
          (ap (λ v. v.items) w.list-is ∙ w.in_ok-push.ensures.items)
      | then-header-eq-PT_LOAD+else-not-can_follow+else-header-gt0 w ↦
          loaded_empty file c.loop-i.i c.loop-i.top _ _ _ c.read-header.result _ c.loop-i.invariant is
          w.if-header-eq-PT_LOAD.true refl (w.if-not-can_follow.ensures.0 refl) w.top-is w.if-header-gt0.false
          (ap (λ v. v.items) w.list-is)
      | else-header-eq-PT_LOAD w ↦
          rw (w.list-is, w.top-is)
          (skipped file c.loop-i.i c.loop-i.top _ c.loop-i.invariant
          (λ load. w.if-header-eq-PT_LOAD.false (is.kind ∙ load)))
    ]

pub returns-clause-good : goal.returns-clause-good
returns-clause-good c = λ i h. c.loop-i.invariant.good i
    (let lt : i < c.loop-i.i = omega (arith, c.half_at-i-end.ensures) in lt)

pub returns-clause-placed : goal.returns-clause-placed
returns-clause-placed c =
    let file = c.args.bytes.now in
    let placed = segments_placed file c.loop-i.i c.loop-i.invariant.good in
    subst ArePlaced (sym c.loop-i.invariant.segments_are) placed
