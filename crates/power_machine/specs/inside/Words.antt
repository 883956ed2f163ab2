-- What a fetch gives.
use Rattle.std.specs.Prelude.{ℕ, List, Option, Some, None, if◌then◌else◌}
use Rattle.power_machine.specs.declared.memory.Region.{Region}
use Rattle.power_machine.specs.Memory.{ranges_of, byte_at}
use Rattle.power_machine.specs.Codes.{is_executable, word_in}

-- the word at an address, where it is executable
abbrev pub word_fetched : ℕ → List Region → Option ℕ
word_fetched at regions = if is_executable (ranges_of regions) at then Some (word_in (byte_at regions) at) else None
