-- System calls: exit, exit_group, read and write, answered by a world (the numbers are Linux's for 64-bit Power). They are said once,
-- for every
-- kind of value: where a call needs a number and there is none it leaves.
use Rattle.std.specs.Prelude.{◌≡◌, ◌≤◌, ℕ, ◌%◌, min, Bool, true, false, ◌||◌, List, [], ◌∷◌, ◌++◌, length, map, take, drop, Option, Some, None, slice_set, slice_get, if◌then◌else◌, ◌==◌}
use Rattle.power_machine.specs.declared.memory.Purpose.{Purpose}
use Rattle.power_machine.specs.declared.memory.Purpose.TheVariants.{Loading, Storing}
use Rattle.power_machine.specs.declared.reason.Reason.{Reason}
use Rattle.power_machine.specs.declared.reason.Reason.TheVariants as why
use Rattle.power_machine.specs.declared.world.Answer.{Answer}
use Rattle.power_machine.specs.declared.world.Answer.TheVariants.{Whole, Short, Error}
use Rattle.power_machine.specs.declared.world.Event.{Event}
use Rattle.power_machine.specs.Memory.{Permission, allows_range, bytes_from, put}
use Rattle.power_machine.specs.Machines.{Domain, State, Next, Went, Left, need, check, register}

-- an error's number
abbrev pub IsAnswer : Answer → Type 0
IsAnswer (Error n) = (1 ≤ n) × (n ≤ 4095)
IsAnswer answer = Unit {0}

abbrev pub AreAnswers : List Answer → Type 0
AreAnswers answers = (k : ℕ) (answer : Answer) → slice_get answers k ≡ Some answer → IsAnswer answer

-- a machine in its world: its state, the input and the answers to come, the calls so far, and the status where it has ended
pub record Run (V B T P : Type 0) : Type 0 where
  pub state : State V B T P
  pub input : List ℕ
  pub answers : List Answer
  pub events : List Event
  pub ended : Option ℕ

-- when the answers have run out it is Whole
abbrev pub first_answer : List Answer → Answer
first_answer [] = Whole
first_answer (a ∷ answers) = a

-- at most so many bytes of a number of bytes
abbrev pub granted : Answer → ℕ → ℕ
granted Whole n = n
granted (Short k) n = min k n
granted (Error e) n = 0

abbrev pub error_of : Answer → ℕ
error_of (Error e) = e
error_of answer = 0

abbrev pub is_error : Answer → Bool
is_error (Error e) = true
is_error answer = false

-- what the call puts into r3: how many bytes, or the error's number
abbrev pub result_of : Answer → ℕ → ℕ
result_of (Error e) count = e
result_of answer count = count

-- what a read or a write asks for: its number, and the descriptor, the address and the length of its range
pub record Asked : Type 0 where
  pub number : ℕ
  pub descriptor : ℕ
  pub address : ℕ
  pub length : ℕ

abbrev pub event_of : Asked → Answer → List ℕ → Event
event_of q a bytes =
    record { number = q.number; fd = q.descriptor; address = q.address; length = q.length; bytes = bytes; error = error_of a }

-- one more number, where there is one and the others are there
abbrev pub with_number : Option ℕ → Option (List ℕ) → Option (List ℕ)
with_number None others = None
with_number (Some n) None = None
with_number (Some n) (Some others) = Some (n ∷ others)

module _ {V B T P : Type 0} (d : Domain V B T P) where
  -- the number in a register, if it holds one
  abbrev pub number_in : Run V B T P → ℕ → Option ℕ
  number_in r i = d.number (register d r.state.registers i)

  -- the numbers that bytes are, if each is one
  abbrev pub numbers_in : List B → Option (List ℕ)
  numbers_in [] = Some []
  numbers_in (b ∷ bytes) = with_number (d.byte_number b) (numbers_in bytes)

  -- r3 and CR0.SO tell how the call went
  abbrev pub after_call : State V B T P → Answer → ℕ → (ℕ → B) → State V B T P
  after_call s a count byte =
      record {
        at = d.ahead s.at 4;
        registers = slice_set s.registers 3 (d.num (result_of a count));
        condition = slice_set s.condition 3 (d.flag (is_error a));
        byte = byte;
      }

  -- the run after a call that has come to this state, with this input left
  abbrev pub answered : Run V B T P → Asked → Answer → List ℕ → List ℕ → State V B T P → Run V B T P
  answered r q a bytes input s =
      record { state = s; input = input; answers = drop 1 r.answers; events = r.events ++ event_of q a bytes ∷ []; ended = r.ended }

  -- a read gives the next bytes of the input
  abbrev pub after_read : Run V B T P → Asked → Answer → List ℕ → Run V B T P
  after_read r q a bytes =
      answered r q a bytes (drop (granted a q.length) r.input)
      (after_call r.state a (length bytes) (put r.state.byte q.address (map d.byte bytes)))

  -- a write takes bytes from memory
  abbrev pub after_write : Run V B T P → Asked → Answer → List ℕ → Run V B T P
  after_write r q a bytes = answered r q a bytes r.input (after_call r.state a (granted a q.length) r.state.byte)

  -- A read or a write. Its range is known by r4 and r5 and must be allowed as a whole, also where fewer bytes come or go; r3 is looked
  -- at last.
  abbrev pub asking : Permission → Purpose → Reason → ℕ → Run V B T P → (Asked → Next (Run V B T P)) → Next (Run V B T P)
  asking may purpose reason number r go =
      need (number_in r 4) why.Value (λ address. need (number_in r 5) why.Value
      (λ length. check (allows_range may purpose address length) reason
      (need (number_in r 3) why.Value
      (λ descriptor. go (record { number = number; descriptor = descriptor; address = address; length = length })))))

  abbrev pub read_by : Run V B T P → Answer → Asked → Next (Run V B T P)
  read_by r a q = Went (after_read r q a (take (granted a q.length) r.input))

  abbrev pub reads : Permission → Run V B T P → Next (Run V B T P)
  reads may r = asking may Storing why.Store 3 r (read_by r (first_answer r.answers))

  -- the bytes that are taken must be numbers
  abbrev pub write_by : Run V B T P → Answer → Asked → Next (Run V B T P)
  write_by r a q =
      need (numbers_in (bytes_from r.state.byte q.address (granted a q.length))) why.Value (λ bytes. Went (after_write r q a bytes))

  abbrev pub writes : Permission → Run V B T P → Next (Run V B T P)
  writes may r = asking may Loading why.Load 4 r (write_by r (first_answer r.answers))

  -- the status is the low byte of r3
  abbrev pub ended_by : Run V B T P → ℕ → Run V B T P
  ended_by r n = record { state = r.state; input = r.input; answers = r.answers; events = r.events; ended = Some (n % 256) }

  abbrev pub exits : Run V B T P → Next (Run V B T P)
  exits r = need (number_in r 3) why.Value (λ n. Went (ended_by r n))

  abbrev pub call_by : Permission → Run V B T P → ℕ → Next (Run V B T P)
  call_by may r number =
      if number == 1 || number == 234 then exits r
      else (if number == 3 then reads may r else (if number == 4 then writes may r else Left why.Call))

  -- the number of the call is in r0
  abbrev pub calls : Permission → Run V B T P → Next (Run V B T P)
  calls may r = need (number_in r 0) why.Value (call_by may r)
