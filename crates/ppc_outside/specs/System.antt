-- The real files and standard output: they tell nothing, and count their errors.
use Rattle.std.specs.Prelude.{ℕ, None}
use Rattle.ppc_outside.specs.declared.std_console.StdConsole.{StdConsole}
use Rattle.ppc_outside.specs.declared.dir_store.DirStore.{DirStore}
use Rattle.ppc_outside.specs.Outside.{StoreState, ConsoleState}

abbrev pub dir_state : {R F D : Type 0} → DirStore R F D → StoreState
dir_state s = record { told = None; faults = s.faults; write_faults = s.write_faults }

abbrev pub std_state : {R : Type 0} → StdConsole R → ConsoleState
std_state c = record { told = None; faults = c.faults }
