-- returns-then-section-eq0: four is a power of two.
use Rattle.std.proofs.Common.{◌≡◌, arith}
use Rattle.std.proofs.lemmas.Bool.Decides.{nat_tests}
use Rattle.layout_rounds.proofs.tests.is_sound_section.Goals as goal

pub returns-then-section-eq0 : goal.returns-then-section-eq0
returns-then-section-eq0 c = λ yes.
    let four : c.args.section.align ≡ 4 = grind (arith, nat_tests, yes) in
    record {
      size = grind (arith, nat_tests);
      whole = grind (arith, nat_tests);
      power = (2, four);
      least = omega (arith, four);
      most = omega (arith, four);
    }
