-- The machine of numbers.
use Rattle.std.specs.Prelude.{ℕ, ◌*◌, ◌/◌, Bool, Some, List, take}
use Rattle.power_insns.specs.Arithmetic.{bytes_of, function_of, compared, widened}
use Rattle.power_machine.specs.declared.state.Core.{Core}
use Rattle.power_machine.specs.Bytes.{spelled, bytes_of_long}
use Rattle.power_machine.specs.Memory.{Range, ranges_of, byte_at}
use Rattle.power_machine.specs.Machines.{Domain, State, sum_address}

abbrev pub numbers : Domain ℕ ℕ Bool ℕ
numbers = record {
  num = λ n. n;
  calculate = function_of;
  compare = compared;
  number = λ n. Some n;
  bit = λ b. Some b;
  flag = λ b. b;
  byte = λ n. n;
  byte_number = λ n. Some n;
  join = λ width sign bytes. widened width sign (spelled bytes);
  split = λ width n. take (bytes_of width) (bytes_of_long n);
  place = λ n. Some (n / 4 * 4);
  code = λ n. n;
  ahead = sum_address;
}

abbrev pub NumberState : Type 0
NumberState = State ℕ ℕ Bool ℕ

-- what the struct stands for
abbrev pub state_of : Core → NumberState
state_of c = record { at = c.at; registers = c.registers; condition = c.condition; byte = byte_at c.memory.regions.items }

abbrev pub core_ranges : Core → List Range
core_ranges c = ranges_of c.memory.regions.items
