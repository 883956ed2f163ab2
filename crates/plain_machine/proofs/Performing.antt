-- What saves, restores and accesses come to.
use Rattle.std.proofs.Common.{◌≡◌, ◌≢◌, ◌⊎◌, inl, inr, ℕ, Bool, true, false, ◌&&◌, ◌||◌, cond, List, [], ◌∷◌, length, map, take, drop, Option, Some, None, refl, sym, ap, ◌∙◌}
use Rattle.std.specs.Int.{w64, to_le_bytes}
use Rattle.std.specs.Bool.{beq}
use Rattle.std.specs.Option.{option_eq}
use Rattle.std.specs.Prelude.{slice_index_or}
use Rattle.power_insns.specs.declared.meaning.Operation.{Operation}
use Rattle.power_insns.specs.declared.meaning.Operation.TheVariants.{Copy, Calculate, Divide, Compare, Load, Store, Branch, System}
use Rattle.power_insns.specs.declared.meaning.Width.{Width}
use Rattle.power_insns.specs.declared.meaning.Width.TheVariants.{Byte, Half, Word, Long}
use Rattle.power_insns.specs.Arithmetic.{bytes_of}
use Rattle.power_machine.specs.declared.memory.Purpose.TheVariants.{Loading, Storing}
use Rattle.power_machine.specs.declared.memory.Stored.{Stored}
use Rattle.power_machine.specs.declared.memory.Stored.TheVariants.{Whole, Outside, Refused}
use Rattle.power_machine.specs.declared.reason.Reason.{Reason}
use Rattle.power_machine.specs.declared.reason.Reason.TheVariants as why
use Rattle.power_machine.specs.Bytes.{bytes_of_long}
use Rattle.power_machine.specs.Calls.{with_number, numbers_in}
use Rattle.power_machine.specs.Memory.{Permission, Range, permits, holds, allows, ranges_of, bytes_from, put}
use Rattle.power_machine.specs.Machines.{Next, Went, Left, need, check, with_result, exec, sum_address, state_after}
use Rattle.power_machine.specs.Runs.{next_of, operates}
use Rattle.power_machine.specs.declared.world.World.{World}
use Rattle.plain_machine.specs.declared.machine.PlainMachine.{PlainMachine}
use Rattle.plain_machine.specs.declared.machine.Performed.TheVariants as performed
use Rattle.plain_machine.specs.declared.memory.PlainMemory.{PlainMemory}
use Rattle.plain_machine.specs.declared.place.TextPlace.{TextPlace}
use Rattle.plain_machine.specs.declared.state.Acted.{Acted}
use Rattle.plain_machine.specs.declared.state.Acted.TheVariants as acted
use Rattle.plain_machine.specs.declared.state.PlainCore.{PlainCore}
use Rattle.plain_machine.specs.declared.value.Cell.{Cell}
use Rattle.plain_machine.specs.declared.value.Cell.TheVariants as cell
use Rattle.plain_machine.specs.declared.value.PlainValue.TheVariants.{Number}
use Rattle.plain_machine.specs.Plain.{PlainState, places, cell_number, cell_numbers, split, number_of}
use Rattle.plain_machine.specs.Values.{same_cells, slot_cells}
use Rattle.plain_machine.specs.Actions.{number_cells, is_saved, spent, restored, toc_pointer, toc_save, stack_pointer, PlainRun, holds_need, need_reason, needs, after_needs, effect_on, MayNeed, NeedsNothing}
use Rattle.plain_machine.specs.declared.action.Need.{Need}
use Rattle.plain_machine.specs.Actions.{performed as performed_on}
use Rattle.plain_machine.specs.declared.action.Action.{Action}
use Rattle.plain_machine.specs.declared.action.Effect.{Effect}
use Rattle.plain_machine.specs.declared.action.Effect.TheVariants.{Leave, Operate, Give, Access, Enter, Call, Restore}
use Rattle.plain_machine.specs.inside.Core.{core_may, Did}
use Rattle.plain_machine.specs.inside.Machine.{SavesAt, save_address, frame_save, run_of, Performs, Stays, performed_by, went_outcome, outcome_of, fault_of, state_fault}
use Rattle.plain_machine.specs.inside.Memory.{cell_at, memory_may, Stores, held_at}
use Rattle.plain_machine.proofs.Cells.{both_true, or_is_true}

-- the numbers of cells, as calls read them
pub same_numbers : (size_of : ℕ → ℕ) (cells : List Cell) → numbers_in (places size_of) cells ≡ cell_numbers cells
same_numbers size_of [] = refl
same_numbers size_of (c ∷ cells) = ap (with_number (cell_number c)) (same_numbers size_of cells)

-- the bytes of a number, so many as a width has
pub number_split : (width : Width) (n : ℕ) → split width (Number n) ≡ map cell.Number (take (bytes_of width) (to_le_bytes w64 n))
unfolding bytes_of_long
number_split width n = refl

pub split_length : (width : Width) (n : ℕ) → length (take (bytes_of width) (to_le_bytes w64 n)) ≡ bytes_of width
split_length Byte n = refl
split_length Half n = refl
split_length Word n = refl
split_length Long n = refl

-- what may be stored to may be loaded from
store_holds : (at count : ℕ) (r : Range) → holds Storing at count r ≡ true → holds Loading at count r ≡ true
store_holds at count r h = ap (λ b. b && true) (both_true _ (permits Storing r) h).0

store_loads : (ranges : List Range) (at count : ℕ) → allows Storing at count ranges ≡ true → allows Loading at count ranges ≡ true
store_loads [] at count h = cc
store_loads (r ∷ ranges) at count h = by (holds Storing at count r) refl h (store_loads ranges at count) where
  by : (b : Bool) → holds Storing at count r ≡ b → (b || allows Storing at count ranges) ≡ true →
      (allows Storing at count ranges ≡ true → allows Loading at count ranges ≡ true) → allows Loading at count (r ∷ ranges) ≡ true
  by true e k later = ap (λ b. b || allows Loading at count ranges) (store_holds at count r e)
  by false e k later = ap (λ b. holds Loading at count r || b) (later k) ∙ or_is_true (holds Loading at count r)

not_held : (may same : Bool) → may ≡ true → option_eq beq (cond may (Some same) None) (Some true) ≡ false → same ≡ false
not_held true true h k = cc
not_held true false h k = refl
not_held false same h k = cc

-- a TOC base that was to be saved where it didn't stand yet
pub saves_by :
    (old : PlainCore) (new : PlainMemory) (base at : ℕ) (o : Stored) →
    core_may old Storing at 8 ≡ true →
    option_eq beq (held_at old.memory at (number_cells base)) (Some true) ≡ false →
    Stores old.memory new at 8 (slot_cells old.at) o →
    SavesAt old (record { at = old.at; registers = old.registers; condition = old.condition; memory = new; sizes = old.sizes }) base at o
saves_by old new base at Whole may none s =
    let m = old.memory in
    let loads : memory_may m Loading at 8 ≡ true =
    ap (λ b. b && true) (store_loads (ranges_of m.numbers.regions.items) at 8 (both_true _ _ may).0) in
    let differs = not_held (memory_may m Loading at 8) (same_cells (bytes_from (cell_at m) at 8) (number_cells base)) loads none in
    record {
      allowed = may;
      byte_is = s.cells_are ∙ sym (ap (λ b. cond b (cell_at m) (put (cell_at m) at (slot_cells old.at))) differs);
      same_may = s.same_may;
      at_is = refl;
      registers_are = refl;
      condition_is = refl;
      same_sizes = refl;
    }
saves_by old new base at Outside may none s = absurd (no (sym may ∙ s.refused)) where
  no : true ≡ false → ⊥
  no h = cc
saves_by old new base at Refused may none s = record {
  state_is = ap (λ byte. record { at = old.at; registers = old.registers; condition = old.condition; byte = byte }) s.cells_are;
  same_may = s.same_may;
  same_sizes = refl;
}

-- a restore that finds what it needs
saved_there : {S : Type 0} (o : Option ℕ) (at : ℕ) (go : ℕ → Next S) → frame_save o ≡ Some at →
    need o why.Value (λ frame. go (sum_address frame toc_save)) ≡ go at
saved_there None at go h = cc
saved_there (Some frame) at go h = ap go (some_is h) where
  some_is : Some (sum_address frame toc_save) ≡ Some at → sum_address frame toc_save ≡ at
  some_is e = cc

held_true : (may same value : Bool) → cond may (Some same) None ≡ Some value → (may ≡ true) × (same ≡ value)
held_true true same value h = (refl, cc)
held_true false same value h = cc

pub restores :
    (size_of : ℕ → ℕ) (m : PlainMemory) (s : PlainState) (site : TextPlace) (base at : ℕ) (own number : Bool) →
    s.byte ≡ cell_at m →
    save_address s ≡ Some at →
    held_at m at (slot_cells site) ≡ Some own →
    held_at m at (number_cells base) ≡ Some number →
    (own || number) ≡ true →
    restored size_of (memory_may m) s site base ≡ Went (with_result (places size_of) 4 s toc_pointer (Number base) false)
restores size_of m s site base at own number bytes there h k either =
    let a = held_true _ _ own h in
    let b = held_true _ _ number k in
    let cells : (wanted : List Cell) → same_cells (bytes_from s.byte at 8) wanted ≡ same_cells (bytes_from (cell_at m) at 8) wanted =
    λ wanted. ap (λ (byte : ℕ → Cell). same_cells (bytes_from byte at 8) wanted) bytes in
    let go : ℕ → Next PlainState = λ a. check (memory_may m Loading a 8) why.Load (check (is_saved s site base a) why.Restore
    (Went (with_result (places size_of) 4 s toc_pointer (Number base) false))) in
    saved_there (number_of (slice_index_or s.registers stack_pointer (Number 0))) at go there
    ∙ ap (λ t. check t why.Load (check (is_saved s site base at) why.Restore
    (Went (with_result (places size_of) 4 s toc_pointer (Number base) false)))) a.0
    ∙ ap (λ t. check t why.Restore (Went (with_result (places size_of) 4 s toc_pointer (Number base) false)))
    (ap (λ t. t || same_cells (bytes_from s.byte at 8) (number_cells base)) (cells (slot_cells site) ∙ a.1)
    ∙ ap (λ t. own || t) (cells (number_cells base) ∙ b.1) ∙ either)

-- what wasn't done spends nothing
pub spends_nothing :
    (through : ℕ) (op : Operation) (next : Next PlainState) (old new : PlainCore) (o : Acted) →
    o ≢ acted.Went →
    Did next old new o →
    Did (spent through op next) old new o
spends_nothing through op next old new acted.Went ne d = absurd (ne refl)
spends_nothing through op next old new acted.Refused ne d = d
spends_nothing through op (Went s) old new (acted.Left reason) ne d = absurd (differ d.outcome_is) where
  differ : acted.Left reason ≡ acted.Went → ⊥
  differ h = cc
spends_nothing through op (Left why) old new (acted.Left reason) ne d = d

pub one_of : (own number : Bool) → ((own ≡ false) × (number ≡ true)) ⊎ (own ≡ true) → (own || number) ≡ true
one_of own number (inl p) = ap (λ b. b || number) p.0 ∙ p.1
one_of own number (inr p) = ap (λ b. b || number) p

-- a machine's run with another state
abbrev with_state : PlainMachine → World → PlainState → PlainRun
with_state m w s = record {
  state = s;
  input = drop w.taken w.input.items;
  answers = drop w.used w.answers.items;
  events = m.events.items;
  ended = m.ended;
}

-- what the core has done the machine has done
pub performs_by :
    (next : Next PlainState) (m : PlainMachine) (core : PlainCore) (w : World) (o : Acted) →
    m.ended ≡ None →
    Did next m.core core o →
    Performs (next_of (run_of m w) next) (run_of m w)
    (run_of (record { alloc = m.alloc; core = core; events = m.events; ended = m.ended }) w) (performed_by o)
performs_by (Went s) m core w acted.Went going d =
    (ap (λ e. went_outcome e) (sym going), ap (λ (t : PlainState). with_state m w t) d.state_is)
performs_by (Left why) m core w acted.Went going d = absurd (differ d.outcome_is) where
  differ : acted.Went ≡ acted.Left why → ⊥
  differ h = cc
performs_by (Went s) m core w (acted.Left reason) going d = absurd (differ d.outcome_is) where
  differ : acted.Left reason ≡ acted.Went → ⊥
  differ h = cc
performs_by (Left why) m core w (acted.Left reason) going d =
    (same d.outcome_is, ap (λ (t : PlainState). with_state m w t) d.state_is) where
      same : acted.Left reason ≡ acted.Left why → performed.Left reason ≡ performed.Left why
      same h = cc
performs_by next m core w acted.Refused going d = ap (λ (t : PlainState). with_state m w t) d.state_is

pub stays_by :
    (next : Next PlainState) (m : PlainMachine) (core : PlainCore) (o : Acted) →
    Did next m.core core o →
    Stays m (record { alloc = m.alloc; core = core; events = m.events; ended = m.ended })
stays_by next m core acted.Went d = record { same_may = d.same_may; same_sizes = d.same_sizes }
stays_by next m core (acted.Left reason) d = record { same_may = d.same_may; same_sizes = d.same_sizes }
stays_by next m core acted.Refused d = record { same_may = d.same_may; same_sizes = d.same_sizes }

pub operates_on :
    (size_of : ℕ → ℕ) (may : Permission) (r : PlainRun) (size : ℕ) (op : Operation) →
    op ≢ System →
    operates (places size_of) may r size op ≡ next_of r (exec (places size_of) size may op r.state)
operates_on size_of may r size (Copy to from rc) h = refl
operates_on size_of may r size (Calculate f to x y rc) h = refl
operates_on size_of may r size (Divide sign to x y rc) h = refl
operates_on size_of may r size (Compare field width sign x y) h = refl
operates_on size_of may r size (Load width sign to base offset) h = refl
operates_on size_of may r size (Store width from base offset update) h = refl
operates_on size_of may r size (Branch counter condition target link) h = refl
operates_on size_of may r size System h = absurd (h refl)

-- Needs: what is needed is there, or the step leaves, by the effect's own reason first.
pub met :
    (size_of : ℕ → ℕ) (may : Permission) (a : Action) (r : PlainRun) →
    holds_need r.state a.first ≡ true →
    holds_need r.state a.second ≡ true →
    performed_on size_of may a r ≡ effect_on size_of may a.effect r
met size_of may a r h k = by (effect_on size_of may a.effect r) where
  by : (next : Next PlainRun) → after_needs r.state a next ≡ next
  by (Went s) = ap (λ b. check b (need_reason a.first) (needs r.state a.second (Went s))) h
      ∙ ap (λ b. check b (need_reason a.second) (Went s)) k
  by (Left why) = refl

pub unmet_fault :
    (size_of : ℕ → ℕ) (may : Permission) (a : Action) (r : PlainRun) (reason : Reason) →
    fault_of (effect_on size_of may a.effect r) ≡ Some reason →
    performed_on size_of may a r ≡ Left reason
unmet_fault size_of may a r reason h = by (effect_on size_of may a.effect r) h where
  by : (next : Next PlainRun) → fault_of next ≡ Some reason → after_needs r.state a next ≡ Left reason
  by (Went s) e = cc
  by (Left why) e = ap Left (some_is e) where
    some_is : Some why ≡ Some reason → why ≡ reason
    some_is f = cc

pub unmet_first :
    (size_of : ℕ → ℕ) (may : Permission) (a : Action) (r : PlainRun) →
    fault_of (effect_on size_of may a.effect r) ≡ None →
    holds_need r.state a.first ≡ false →
    performed_on size_of may a r ≡ Left (need_reason a.first)
unmet_first size_of may a r h k = by (effect_on size_of may a.effect r) h where
  by : (next : Next PlainRun) → fault_of next ≡ None → after_needs r.state a next ≡ Left (need_reason a.first)
  by (Went s) e = ap (λ b. check b (need_reason a.first) (needs r.state a.second (Went s))) k
  by (Left why) e = cc

pub unmet_second :
    (size_of : ℕ → ℕ) (may : Permission) (a : Action) (r : PlainRun) →
    fault_of (effect_on size_of may a.effect r) ≡ None →
    holds_need r.state a.first ≡ true →
    holds_need r.state a.second ≡ false →
    performed_on size_of may a r ≡ Left (need_reason a.second)
unmet_second size_of may a r h j k = by (effect_on size_of may a.effect r) h where
  by : (next : Next PlainRun) → fault_of next ≡ None → after_needs r.state a next ≡ Left (need_reason a.second)
  by (Went s) e = ap (λ b. check b (need_reason a.first) (needs r.state a.second (Went s))) j
      ∙ ap (λ b. check b (need_reason a.second) (Went s)) k
  by (Left why) e = cc

next_fault : (r : PlainRun) (next : Next PlainState) → fault_of (next_of r next) ≡ fault_of next
next_fault r (Went s) = refl
next_fault r (Left why) = refl

spent_fault : (through : ℕ) (op : Operation) (next : Next PlainState) → fault_of (spent through op next) ≡ fault_of next
spent_fault through op (Went s) = refl
spent_fault through op (Left why) = refl

-- an effect that may need something leaves for the state's reason
pub effect_fault :
    (size_of : ℕ → ℕ) (may : Permission) (e : Effect) (r : PlainRun) →
    MayNeed e →
    fault_of (effect_on size_of may e r) ≡ state_fault size_of may e r.state
effect_fault size_of may (Leave reason) r h = refl
effect_fault size_of may (Operate size (Load width sign to base offset)) r h = next_fault r _
effect_fault size_of may (Operate size (Store width from base offset update)) r h = next_fault r _
effect_fault size_of may (Operate size (Copy to from rc)) r h = cc
effect_fault size_of may (Operate size (Calculate f to x y rc)) r h = cc
effect_fault size_of may (Operate size (Divide sign to x y rc)) r h = cc
effect_fault size_of may (Operate size (Compare field width sign x y)) r h = cc
effect_fault size_of may (Operate size (Branch counter condition target link)) r h = cc
effect_fault size_of may (Operate size System) r h = cc
effect_fault size_of may (Give size to value) r h = refl
effect_fault size_of may (Access op through) r h = next_fault r _ ∙ spent_fault through op _
effect_fault size_of may (Enter base) r h = refl
effect_fault size_of may (Call c) r h = next_fault r _
effect_fault size_of may (Restore site base) r h = next_fault r _

-- what isn't made changes nothing
pub leaves :
    (next : Next PlainRun) (r : PlainRun) (reason : Reason) →
    next ≡ Left reason →
    Performs next r r (performed.Left reason)
leaves next r reason h =
    (sym (ap outcome_of h), sym (ap (λ n. state_after n r) h))

-- where a need isn't met, the effect may have needs
need_none : (s : PlainState) (n : Option Need) → n ≡ None → holds_need s n ≡ true
need_none s None h = refl
need_none s (Some n) h = cc

pub may_need :
    (s : PlainState) (a : Action) →
    NeedsNothing a ⊎ MayNeed a.effect →
    ((holds_need s a.first ≡ true) × (holds_need s a.second ≡ false)) ⊎ (holds_need s a.first ≡ false) →
    MayNeed a.effect
may_need s a (inr may) unmet = may
may_need s a (inl none) (inl second) = absurd (no (sym (need_none s a.second none.1) ∙ second.1)) where
  no : true ≡ false → ⊥
  no h = cc
may_need s a (inl none) (inr first) = absurd (no (sym (need_none s a.first none.0) ∙ first)) where
  no : true ≡ false → ⊥
  no h = cc

pub unmet_by :
    {a b x y : Bool} → x ≡ a → y ≡ b →
    ((a ≡ true) × (b ≡ false)) ⊎ (a ≡ false) →
    ((x ≡ true) × (y ≡ false)) ⊎ (x ≡ false)
unmet_by h k (inl p) = inl (h ∙ p.0, k ∙ p.1)
unmet_by h k (inr p) = inr (h ∙ p)

pub second_unmet : {x y : Bool} → x ≡ true → ((x ≡ true) × (y ≡ false)) ⊎ (x ≡ false) → y ≡ false
second_unmet h (inl p) = p.1
second_unmet h (inr p) = absurd (no (sym h ∙ p)) where
  no : true ≡ false → ⊥
  no e = cc

-- a state with another memory
abbrev pub with_bytes : PlainState → (ℕ → Cell) → PlainState
with_bytes s byte = record { at = s.at; registers = s.registers; condition = s.condition; byte = byte }
