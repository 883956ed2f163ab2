-- A store and a console in memory, as their users see them.
use Rattle.std.specs.Prelude.{◌≡◌, ◌⊎◌, ℕ, ◌+◌, ◌-◌, ◌^◌, min, List, Option, None, Some, Contains, Result, Err}
use Rattle.std.specs.Option.{option_map}
use Rattle.std.specs.HashMap.{get_by_text}
use Rattle.ppc_outside.specs.declared.mem_store.MemStore.{MemStore}
use Rattle.ppc_outside.specs.declared.mem_console.MemConsole.{MemConsole}
use Rattle.ppc_outside.specs.declared.outside.OutsideError.{OutsideError}
use Rattle.ppc_outside.specs.Outside.{Files, StoreState, ConsoleState, last_count}

-- one more, up to the last value of a count
abbrev pub next_count : ℕ → ℕ
next_count n = min (n + 1) last_count

-- what each name holds
abbrev pub files_in : MemStore → Files
files_in s name = option_map (λ bytes. bytes.items) (get_by_text s.files name)

-- the numbers of the calls that are to fail
abbrev pub marks_of : MemStore → List ℕ
marks_of s = s.marks.items

-- the number of the next call
abbrev pub call_of : MemStore → ℕ
call_of s = s.calls

abbrev pub fetch_faults : MemStore → ℕ
fetch_faults s = s.faults

abbrev pub replace_faults : MemStore → ℕ
replace_faults s = s.write_faults

-- the store as callers of the trait see it: it tells all its files
abbrev pub mem_state : MemStore → StoreState
mem_state s = record { told = Some (files_in s); faults = fetch_faults s; write_faults = replace_faults s }

-- the next call is marked
abbrev pub IsMarked : MemStore → Type 0
IsMarked s = Contains (marks_of s) (call_of s)

-- marks, calls and faults are as they were
pub record KeepsCounts (old new : MemStore) : Type 0 where
  pub marks : marks_of new ≡ marks_of old
  pub calls : call_of new ≡ call_of old
  pub faults : fetch_faults new ≡ fetch_faults old
  pub write_faults : replace_faults new ≡ replace_faults old

-- what was printed
abbrev pub text_of : MemConsole → List ℕ
text_of c = c.text.items

abbrev pub put_marks : MemConsole → List ℕ
put_marks c = c.marks.items

abbrev pub put_call : MemConsole → ℕ
put_call c = c.calls

abbrev pub put_faults : MemConsole → ℕ
put_faults c = c.faults

-- the console as callers of the trait see it: it tells its text
abbrev pub text_state : MemConsole → ConsoleState
text_state c = record { told = Some (text_of c); faults = put_faults c }

abbrev pub IsMarkedPut : MemConsole → Type 0
IsMarkedPut c = Contains (put_marks c) (put_call c)
