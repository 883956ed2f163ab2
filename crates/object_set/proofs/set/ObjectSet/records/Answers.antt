-- The records of all sections are left at the start.
use Rattle.std.proofs.Common.{ap, ◌∙◌, sym, arith, subst, List}
use Rattle.std.specs.List.{All, flat_map}
use Rattle.object_set.specs.declared.places.SectionId.{SectionId}
use Rattle.object_set.specs.Walks.{IsSection}
use Rattle.object_set.specs.laws.Walks.{all_sections_in}
use Rattle.object_set.specs.inside.Records.{records_of}
use Rattle.object_set.proofs.RecordsLeft.{all_records}
use Rattle.object_set.proofs.set.ObjectSet.records.Goals as goal

pub invariant_of-result : goal.invariant_of-result
invariant_of-result c =
    let set = c.args.self.now in
    record {
      entry_in = omega arith;
      end_fits = omega arith;
      section = λ none. absurd (omega arith);
      each = subst (λ (l : List SectionId). All (IsSection set) l) (sym c.sections.ensures) (all_sections_in set);
    }

pub returns : goal.returns
returns c = ap (flat_map (records_of c.args.self.now)) c.sections.ensures ∙ all_records c.args.self.now
