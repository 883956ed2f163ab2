-- Past the last record of a section the next section follows; what is left is the first record and the rest.
use Rattle.std.proofs.Common.{◌≡◌, ◌<◌, ℕ, List, length, ap, sym, ◌∙◌, subst, arith}
use Rattle.std.specs.List.{All}
use Rattle.elf64_records.specs.FileHeader.{e_shnum}
use Rattle.elf64_records.specs.Sections.{sh_info}
use Rattle.elf64_records.specs.Records.{record_count}
use Rattle.object_set.specs.declared.places.SectionId.{SectionId}
use Rattle.object_set.specs.declared.places.RecordId.{RecordId}
use Rattle.object_set.specs.Walks.{IsSection}
use Rattle.object_set.specs.laws.Walks.{first_of, rest_of}
use Rattle.object_set.specs.inside.Records.{all_records_left}
use Rattle.object_set.proofs.RecordsLeft.{records_none, records_next, records_step}
use Rattle.object_set.proofs.walk.RecordIds.advance.Goals as goal

pub loop-self-init : goal.loop-self-init
loop-self-init c = record { left = c.self.view_is; within = c.self.invariant }

pub view-view-requires : goal.view-view-requires
view-view-requires c =
    let s = c.loop-self.self-inside in
    (first_of (IsSection s.set.now) s.sections c.next.new.self c.in-Some.field-0 c.loop-self.invariant.within.each
    c.in-Some.ensures.steps).file_in

pub loop-self-smaller : goal.loop-self-smaller
loop-self-smaller c = let step = ap length c.in-Some.ensures.steps in omega (arith, step)

pub record_count-self-inside-requires : goal.record_count-self-inside-requires
record_count-self-inside-requires c =
    let s = c.loop-self.self-inside in
    let this = first_of (IsSection s.set.now) s.sections c.next.new.self c.in-Some.field-0
    c.loop-self.invariant.within.each c.in-Some.ensures.steps in
    subst (λ (b : List ℕ). c.in-Some.field-0.section < e_shnum b) (sym c.view-view.ensures) this.within

pub section_header-requires : goal.section_header-requires
section_header-requires c =
    let s = c.loop-self.self-inside in
    let this = first_of (IsSection s.set.now) s.sections c.next.new.self c.in-Some.field-0
    c.loop-self.invariant.within.each c.in-Some.ensures.steps in
    subst (λ (b : List ℕ). c.in-Some.field-0.section < e_shnum b) (sym c.view-view.ensures) this.within

pub loop-self-preserved : goal.loop-self-preserved
loop-self-preserved c =
    let s = c.loop-self.self-inside in
    let at = c.in-Some.field-0 in
    let steps = c.in-Some.ensures.steps in
    let count = c.record_count-self-inside.ensures ∙
    ap (λ (b : List ℕ). record_count b at.section) c.view-view.ensures in
    let about = c.section_header.ensures.info ∙ ap (λ (b : List ℕ). sh_info b at.section) c.view-view.ensures in
    let info = c.section_header.result.info in
    let next : RecordId = record { file = at.file; table = at.section; entry = 0; section = info } in
    let left = records_next s.set.now s.next s.end info s.sections c.next.new.self at c.loop-self-test.true steps in
    record {
      left = ap (λ (n : ℕ). all_records_left s.set.now next n c.next.new.self) count ∙ left ∙
          c.loop-self.invariant.left;
      within = record {
        entry_in = omega arith;
        end_fits = c.record_count-self-inside.type_inv;
        section = λ more. about;
        each = rest_of (IsSection s.set.now) s.sections c.next.new.self at c.loop-self.invariant.within.each steps;
      };
    }

pub invariant_of-self : goal.invariant_of-self
invariant_of-self c =
    let s = c.loop-self.self-inside in
    let before = c.loop-self.invariant.within in
    let over = c.in-None.ensures.steps in
    let same : s.sections ≡ c.next.new.self = over.0 ∙ sym over.1 in
    record {
      entry_in = before.entry_in;
      end_fits = before.end_fits;
      section = before.section;
      each = subst (λ (l : List SectionId). All (IsSection s.set.now) l) same before.each;
    }

pub returns-in-None : goal.returns-in-None
returns-in-None c =
    let s = c.loop-self.self-inside in
    let over = c.in-None.ensures.steps in (
      sym c.loop-self.invariant.left ∙ records_none s.set.now s.next s.end s.sections c.loop-self-test.true over.0,
      records_none s.set.now s.next s.end c.next.new.self c.loop-self-test.true over.1,
    )

pub invariant_of-self-2 : goal.invariant_of-self-2
invariant_of-self-2 c =
    let s = c.loop-self.self-inside in
    let before = c.loop-self.invariant.within in
    record {
      entry_in = omega (arith, before.entry_in);
      end_fits = before.end_fits;
      section = λ more. before.section (omega arith);
      each = before.each;
    }

pub returns : goal.returns
returns c =
    let s = c.loop-self.self-inside in
    let within = c.loop-self.invariant.within in
    let left : s.next.entry < s.end = omega (arith, within.entry_in) in
    sym c.loop-self.invariant.left ∙ records_step s.set.now s.next s.end s.sections left (within.section left)
