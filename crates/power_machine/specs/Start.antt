-- The start of a machine on an executable's segments.
use Rattle.std.specs.Prelude.{◌≡◌, ℕ, ◌-◌, ◌/◌, ◌%◌, true, false, ◌&&◌, ◌==◌, nat_le, nat_lt, List, [], ◌∷◌, ◌++◌, map, replicate, None, slice_index, slice_set, if◌then◌else◌}
use Rattle.elf64_exec.specs.declared.layout.Segment.{Segment}
use Rattle.elf64_exec.specs.Executable.{end_of}
use Rattle.elf64_exec.specs.Loading.{Loads}
use Rattle.power_machine.specs.declared.machine.Machine.{Machine}
use Rattle.power_machine.specs.Memory.{Range}
use Rattle.power_machine.specs.Numbers.{NumberState, state_of}
use Rattle.power_machine.specs.declared.world.Answer.{Answer}
use Rattle.power_machine.specs.Steps.{NumberRun, NumberProgress, ReachesIn, machine_ranges}

-- flag 2 allows stores, flag 1 fetches
abbrev pub segment_range : Segment → Range
segment_range s = record { start = s.address; stop = end_of s; writable = s.flags / 2 % 2 == 1; executable = s.flags % 2 == 1 }

abbrev pub stack_range : Range
stack_range = record { start = 0x7F800000; stop = 0x80000000; writable = true; executable = false }

abbrev pub start_ranges : List Segment → List Range
start_ranges segments = map segment_range segments ++ stack_range ∷ []

-- a segment's bytes, and zeros elsewhere
abbrev pub start_byte : List Segment → ℕ → ℕ
start_byte [] a = 0
start_byte (s ∷ segments) a =
    if nat_le s.address a && nat_lt a (end_of s) then slice_index s.bytes (a - s.address) else start_byte segments a

-- r1 is the stack pointer, r12 the entry
abbrev pub start_registers : ℕ → List ℕ
start_registers entry = slice_set (slice_set (replicate 34 0) 1 0x7FFFF000) 12 entry

abbrev pub start_state : ℕ → List Segment → NumberState
start_state entry segments =
    record { at = entry; registers = start_registers entry; condition = replicate 32 false; byte = start_byte segments }

pub record IsStart (entry : ℕ) (segments : List Segment) (m : Machine) : Type 0 where
  pub state : state_of m.core ≡ start_state entry segments
  pub ranges : machine_ranges m ≡ start_ranges segments
  pub events : m.events.items ≡ []
  pub ended : m.ended ≡ None

-- a program at its start, in a world with this input and these answers
abbrev pub start_run : ℕ → List Segment → List ℕ → List Answer → NumberRun
start_run entry segments input answers =
    record { state = start_state entry segments; input = input; answers = answers; events = []; ended = None }

-- A file that is an executable, run from its start for at most so many steps, comes to this.
pub record RunsTo (file input : List ℕ) (answers : List Answer) (n : ℕ) (progress : NumberProgress) : Type 0 where
  pub entry : ℕ
  pub segments : List Segment
  pub loads : Loads file entry segments
  pub reaches : ReachesIn (start_ranges segments) n (start_run entry segments input answers) progress
