use Rattle.std.proofs.Common.{◌++◌, ◌∷◌, [], List}
use Rattle.std.specs.List.{All}
use Rattle.elf64_exec.specs.Executable.{IsSound}
use Rattle.power_machine.specs.declared.memory.Region.{Region}
use Rattle.power_machine.specs.inside.Loading.{AreRegionsOf, stack}
use Rattle.power_machine.proofs.loading.regions_of.Given as goal

-- the regions so far and those of the rest are all
abbrev pub invariant-loop-segment : goal.invariant-loop-segment
invariant-loop-segment l = record {
  whole : (more : List Region) → AreRegionsOf (l.segment-iterator.rest.items ++ stack ∷ []) more →
      AreRegionsOf (l.fn.segments.items ++ stack ∷ []) (l.regions.items ++ more);
  sound : All IsSound l.segment-iterator.rest.items;
}
