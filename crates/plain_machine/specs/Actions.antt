-- Steps of the machine of places (ELFv2 ABI, "Function Call" and "TOC Pointer Usage"). Where several reasons to leave hold, the first in the
-- order of reasons counts: those of an access or of a value that is no number come before those of what a register must hold.
use Rattle.std.specs.Prelude.{◌≡◌, ◌⊎◌, ℕ, ◌+◌, ◌<◌, Bool, true, false, not, ◌&&◌, ◌||◌, ◌==◌, nat_lt, max, min, List, map, Option, Some, None, slice_index_or, slice_set, if◌then◌else◌}
use Rattle.std.specs.List.{list_any}
use Rattle.power_insns.specs.declared.meaning.Operation.{Operation}
use Rattle.power_insns.specs.declared.meaning.Operation.TheVariants.{Copy, Calculate, Divide, Compare, Load, Store, Branch, System}
use Rattle.power_insns.specs.Operations.{link_register, count_register, IsWellNamed}
use Rattle.power_machine.specs.declared.memory.Purpose.{Purpose}
use Rattle.power_machine.specs.declared.memory.Purpose.TheVariants.{Loading, Storing, Fetching}
use Rattle.power_machine.specs.declared.reason.Reason.{Reason}
use Rattle.power_machine.specs.declared.reason.Reason.TheVariants as why
use Rattle.power_machine.specs.Bytes.{bytes_of_long}
use Rattle.power_machine.specs.Calls.{Run}
use Rattle.power_machine.specs.Memory.{Permission, Range, within, bytes_from, put}
use Rattle.power_machine.specs.Machines.{Next, Went, Left, need, check, with_result, exec, sum_address}
use Rattle.power_machine.specs.Runs.{next_of, operates, Progress}
use Rattle.plain_machine.specs.declared.action.Action.{Action}
use Rattle.plain_machine.specs.declared.action.Effect.{Effect}
use Rattle.plain_machine.specs.declared.action.Effect.TheVariants.{Leave, Operate, Give, Access, Enter, Call, Restore}
use Rattle.plain_machine.specs.declared.action.FullCall.{FullCall}
use Rattle.plain_machine.specs.declared.action.Need.{Need}
use Rattle.plain_machine.specs.declared.kept.AddressRange.{AddressRange}
use Rattle.plain_machine.specs.declared.place.TextPlace.{TextPlace}
use Rattle.plain_machine.specs.declared.value.PlainValue.{PlainValue}
use Rattle.plain_machine.specs.declared.value.PlainValue.TheVariants.{Number, Code, Junk}
use Rattle.plain_machine.specs.declared.value.Cell.{Cell}
use Rattle.plain_machine.specs.declared.value.Cell.TheVariants as cell
use Rattle.plain_machine.specs.Plain.{places, place_ahead, number_of, PlainState}
use Rattle.plain_machine.specs.Values.{same_value, same_cells, slot_cells}

abbrev pub PlainRun : Type 0
PlainRun = Run PlainValue Cell (Option Bool) TextPlace

abbrev pub PlainProgress : Type 0
PlainProgress = Progress PlainValue Cell (Option Bool) TextPlace

-- r1, the stack pointer, r2, the TOC pointer, and r12, the address of a global entry point
abbrev pub stack_pointer : ℕ
stack_pointer = 1

abbrev pub toc_pointer : ℕ
toc_pointer = 2

abbrev pub entry_register : ℕ
entry_register = 12

-- where in a frame a caller saves its TOC pointer
abbrev pub toc_save : ℕ
toc_save = 24

-- the cells of a number of eight bytes
abbrev pub number_cells : ℕ → List Cell
number_cells n = map cell.Number (bytes_of_long n)

-- so many bytes at an address meet one of these ranges
abbrev pub meets : ℕ → ℕ → AddressRange → Bool
meets at count r = nat_lt (max r.start at) (min r.stop (at + count))

abbrev pub is_store : Purpose → Bool
is_store Loading = false
is_store Storing = true
is_store Fetching = false

-- what memory with these ranges permits, where the bytes of others, of the table of contents, may not be stored to
abbrev pub guarded : List Range → List AddressRange → Permission
guarded ranges kept purpose at count = within ranges purpose at count && not (is_store purpose && list_any (meets at count) kept)

-- a register holds what is needed, if anything is
abbrev pub holds_need : PlainState → Option Need → Bool
holds_need s None = true
holds_need s (Some n) = same_value n.value (slice_index_or s.registers n.register (Number 0))

-- it names a register that there is
abbrev pub IsNamedNeed : Option Need → Type 0
IsNamedNeed None = Unit {0}
IsNamedNeed (Some n) = n.register < 34

abbrev pub need_reason : Option Need → Reason
need_reason None = why.Value
need_reason (Some n) = n.reason

abbrev pub needs : PlainState → Option Need → Next PlainRun → Next PlainRun
needs s n go = check (holds_need s n) (need_reason n) go

abbrev pub after_needs : PlainState → Action → Next PlainRun → Next PlainRun
after_needs s action (Went r) = needs s action.first (needs s action.second (Went r))
after_needs s action (Left reason) = Left reason

-- the register that an access goes through is lost, unless the access loads it
abbrev pub loads_to : Operation → ℕ → Bool
loads_to (Load width sign to base offset) r = to == r
loads_to (Copy to from rc) r = false
loads_to (Calculate f to x y rc) r = false
loads_to (Divide sign to x y rc) r = false
loads_to (Compare field width sign x y) r = false
loads_to (Store width from base offset update) r = false
loads_to (Branch counter condition target link) r = false
loads_to System r = false

abbrev pub with_registers : PlainState → List PlainValue → PlainState
with_registers s registers = record { at = s.at; registers = registers; condition = s.condition; byte = s.byte }

abbrev pub without : PlainState → ℕ → Operation → PlainState
without s through op = with_registers s (if loads_to op through then s.registers else slice_set s.registers through Junk)

abbrev pub spent : ℕ → Operation → Next PlainState → Next PlainState
spent through op (Went s) = Went (without s through op)
spent through op (Left reason) = Left reason

abbrev pub entered : PlainState → ℕ → PlainState
entered s base = record {
  at = place_ahead s.at 4;
  registers = slice_set (slice_set s.registers toc_pointer (Number base)) entry_register Junk;
  condition = s.condition;
  byte = s.byte;
}

-- where the stack pointer is a number, the address at which the TOC pointer is saved
abbrev pub with_save : PlainState → (ℕ → Next PlainState) → Next PlainState
with_save s go = need (number_of (slice_index_or s.registers stack_pointer (Number 0))) why.Value (λ frame. go (sum_address frame toc_save))

-- Registers that a call sets. CTR may have been used on the way, and r12 where the callee doesn't ask for it.
abbrev pub linked_back : List PlainValue → TextPlace → Bool → List PlainValue
linked_back registers next link = if link then slice_set registers link_register (Code next) else registers

abbrev pub call_registers : PlainState → FullCall → List PlainValue
call_registers s c =
    linked_back
    (slice_set (slice_set s.registers count_register Junk) entry_register (if c.enters then Code c.to else Junk))
    (place_ahead s.at 4) c.link

abbrev pub called : PlainState → FullCall → (ℕ → Cell) → PlainState
called s c byte = record { at = c.to; registers = call_registers s c; condition = s.condition; byte = byte }

-- the TOC base as it is saved: where it stands already it stays
abbrev pub saved : PlainState → ℕ → ℕ → ℕ → Cell
saved s base at = if same_cells (bytes_from s.byte at 8) (number_cells base) then s.byte else put s.byte at (slot_cells s.at)

-- the saved TOC base of the call, or the base itself
abbrev pub is_saved : PlainState → TextPlace → ℕ → ℕ → Bool
is_saved s site base at =
    same_cells (bytes_from s.byte at 8) (slot_cells site) || same_cells (bytes_from s.byte at 8) (number_cells base)

abbrev pub call_saving : Permission → PlainState → FullCall → Option ℕ → Next PlainState
call_saving may s c None = Went (called s c s.byte)
call_saving may s c (Some base) = with_save s (λ at. check (may Storing at 8) why.Store (Went (called s c (saved s base at))))

module _ (size_of : ℕ → ℕ) (may : Permission) where
  abbrev pub restored : PlainState → TextPlace → ℕ → Next PlainState
  restored s site base =
      with_save s (λ at. check (may Loading at 8) why.Load (check (is_saved s site base at) why.Restore
      (Went (with_result (places size_of) 4 s toc_pointer (Number base) false))))

  -- what a step does
  abbrev pub effect_on : Effect → PlainRun → Next PlainRun
  effect_on (Leave reason) r = Left reason
  effect_on (Operate size op) r = operates (places size_of) may r size op
  effect_on (Give size to value) r = next_of r (Went (with_result (places size_of) size r.state to value false))
  effect_on (Access op through) r = next_of r (spent through op (exec (places size_of) 4 may op r.state))
  effect_on (Enter base) r = next_of r (Went (entered r.state base))
  effect_on (Call c) r = next_of r (call_saving may r.state c c.saves)
  effect_on (Restore site base) r = next_of r (restored r.state site base)

  -- a step
  abbrev pub performed : Action → PlainRun → Next PlainRun
  performed action r = after_needs r.state action (effect_on action.effect r)

-- an effect names registers that there are; one that is an access and no more may have needs
abbrev pub is_access : Operation → Bool
is_access (Load width sign to base offset) = true
is_access (Store width from base offset update) = true
is_access (Copy to from rc) = false
is_access (Calculate f to x y rc) = false
is_access (Divide sign to x y rc) = false
is_access (Compare field width sign x y) = false
is_access (Branch counter condition target link) = false
is_access System = false

abbrev pub IsNamedEffect : Effect → Type 0
IsNamedEffect (Leave reason) = Unit {0}
IsNamedEffect (Operate size op) = IsWellNamed op
IsNamedEffect (Give size to value) = to < 34
IsNamedEffect (Access op through) = IsWellNamed op × (is_access op ≡ true) × (through < 34)
IsNamedEffect (Enter base) = Unit {0}
IsNamedEffect (Call c) = Unit {0}
IsNamedEffect (Restore site base) = Unit {0}

abbrev pub MayNeed : Effect → Type 0
MayNeed (Operate size op) = is_access op ≡ true
MayNeed (Leave reason) = Unit {0}
MayNeed (Give size to value) = Unit {0}
MayNeed (Access op through) = Unit {0}
MayNeed (Enter base) = Unit {0}
MayNeed (Call c) = Unit {0}
MayNeed (Restore site base) = Unit {0}

abbrev pub NeedsNothing : Action → Type 0
NeedsNothing a = (a.first ≡ None) × (a.second ≡ None)

-- what an action may be
pub record IsAction (a : Action) : Type 0 where
  pub first : IsNamedNeed a.first
  pub second : IsNamedNeed a.second
  pub effect : IsNamedEffect a.effect
  pub needs : NeedsNothing a ⊎ MayNeed a.effect
