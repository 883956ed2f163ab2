-- What a store does, from what the calls ensure.
use Rattle.std.proofs.Common.{◌≡◌, ℕ, Bool, true, List, length, take, Option, Some, sym, ap, ◌∙◌, arith}
use Rattle.std.proofs.lemmas.List.{length-take-le}
use Rattle.power_insns.specs.declared.meaning.Width.{Width}
use Rattle.power_insns.specs.Arithmetic.{bytes_of}
use Rattle.power_machine.specs.declared.memory.AddressSpace.{AddressSpace}
use Rattle.power_machine.specs.declared.memory.Purpose.TheVariants.{Storing}
use Rattle.power_machine.specs.declared.reason.Reason.TheVariants as why
use Rattle.power_machine.specs.declared.state.Core.{Core}
use Rattle.power_machine.specs.declared.state.CoreOutcome.TheVariants.{Went as Went'}
use Rattle.power_machine.specs.Bytes.{bytes_of_long, length-bytes_of_long}
use Rattle.power_machine.specs.Memory.{allows, byte_at, keeps_page, ranges_of, put, within}
use Rattle.power_machine.specs.Paging.{kept_with, span_at}
use Rattle.power_machine.specs.Machines.{Went, check, register, state_after, store_at, sum_address, updated, with_bytes}
use Rattle.power_machine.specs.Numbers.{NumberState, core_ranges, numbers, state_of}
use Rattle.power_machine.specs.inside.Core.{Acted, core_outcome, core_pages}
use Rattle.power_machine.specs.inside.Regions.{Puts}
use Rattle.power_machine.proofs.Lists.{width_most}

-- a state by its parts
abbrev state_by : ℕ → List ℕ → List Bool → (ℕ → ℕ) → NumberState
state_by at registers condition byte = record { at = at; registers = registers; condition = condition; byte = byte }

pub store_acts :
    (old new : Core) (memory : AddressSpace) (size : ℕ) (width : Width) (from : ℕ) (update : Option ℕ) (at room : ℕ) (bytes : List ℕ) →
    room ≡ bytes_of width →
    allows Storing at room (core_ranges old) ≡ true →
    Puts old.memory.regions.items memory.regions.items at bytes →
    ranges_of memory.regions.items ≡ core_ranges old →
    bytes ≡ take (bytes_of width) (bytes_of_long (register numbers old.registers from)) →
    new.at ≡ sum_address old.at size →
    new.registers ≡ updated numbers old.registers update at →
    new.condition ≡ old.condition →
    new.memory ≡ memory →
    Acted (store_at numbers size (within (core_ranges old)) (state_of old) width from update at)
    (Some (span_at at (bytes_of width))) old new Went'
store_acts old new memory size width from update at room bytes count allowed puts ranges written at_is
    registers_are condition_is memory_is =
    let n = bytes_of width in
    let s = state_of old in
    let value = take n (bytes_of_long (register numbers old.registers from)) in
    let after = with_bytes numbers size s update at value in
    let may : allows Storing at n (core_ranges old) ≡ true = ap (λ k. allows Storing at k (core_ranges old)) (sym count) ∙ allowed in
    let goes : store_at numbers size (within (core_ranges old)) s width from update at ≡ Went after =
    ap (λ b. check b why.Store (Went after)) may in
    let byte : byte_at new.memory.regions.items ≡ put s.byte at value =
    ap (λ (m : AddressSpace). byte_at m.regions.items) memory_is ∙ puts.bytes_are ∙ ap (put s.byte at) written in
    let state : state_of new ≡ after =
    ap (λ a. state_by a new.registers new.condition (byte_at new.memory.regions.items)) at_is
    ∙ ap (λ r. state_by (sum_address old.at size) r new.condition (byte_at new.memory.regions.items)) registers_are
    ∙ ap (λ t. state_by (sum_address old.at size) (updated numbers old.registers update at) t
    (byte_at new.memory.regions.items)) condition_is
    ∙ ap (state_by (sum_address old.at size) (updated numbers old.registers update at) old.condition) byte in
    let long : length bytes ≡ n = ap length written ∙ length-take-le n (bytes_of_long (register numbers old.registers from))
    (let l = length-bytes_of_long (register numbers old.registers from) in let m = width_most width in omega (arith, l, m)) in
    record {
      outcome_is = sym (ap core_outcome goes);
      state_is = state ∙ sym (ap (λ next. state_after next s) goes);
      same_ranges = ap (λ (m : AddressSpace). ranges_of m.regions.items) memory_is ∙ ranges;
      pages = ap (λ (m : AddressSpace). keeps_page m.regions.items) memory_is ∙ puts.pages_are
          ∙ ap (λ k. kept_with (core_pages old) (Some (span_at at k))) long;
    }
