-- group-requires-clause-sound: each section is one of 64 bytes.
use Rattle.std.proofs.Common.{◌≡◌, length, List, ap, sym, subst, arith, rules, refl, ◌∙◌}
use Rattle.std.specs.Prelude.{replicate}
use Rattle.std.proofs.lemmas.List.{get_or-replicate, length-replicate}
use Rattle.layout_rounds.specs.declared.shape.ShapeSection.{ShapeSection}
use Rattle.layout_rounds.specs.Shapes.{section_of, no_section, IsSoundSection}
use Rattle.toc_groups.proofs.tests.bytes.texts.Goals as goal

abbrev one : ShapeSection
one = record { size = 0x40; align = 4; toc = 0 }

one_sound : IsSoundSection one
one_sound = record { size = omega arith; whole = refl; power = (2, refl); least = omega arith; most = omega arith }

pub group-requires-clause-sound : goal.group-requires-clause-sound
group-requires-clause-sound g c =
    let items : c.in_ok-vec.field-0.items ≡ replicate c.args.count one = c.in_ok-vec.ensures.items_if_clones_equal (λ y h. search rules) in
    let none = ap length c.new.ensures.items in
    record {
      start_whole = c.requires.page;
      start_low = c.requires.low;
      sections = record {
        few = omega (arith, ap length items, length-replicate c.args.count one, c.requires.few);
        each = λ s lt. subst IsSoundSection (sym (ap (λ (xs : List ShapeSection). section_of xs s) items
            ∙ get_or-replicate c.args.count s one no_section (omega (arith, lt, ap length items, length-replicate c.args.count one))))
            one_sound;
      };
      few_sites = omega (arith, none);
      from = λ i lt. absurd (omega (arith, lt, none));
      to = λ i lt. absurd (omega (arith, lt, none));
      ordered = λ i lt. absurd (omega (arith, lt, none));
    }
