-- What an operation does to the state of a machine, once for every kind of value (Power ISA 3.1, book I, "Branch Facility" and
-- "Fixed-Point Facility").
use Rattle.std.specs.Prelude.{ℕ, ◌+◌, ◌-◌, ◌*◌, ◌%◌, ◌^◌, Bool, true, false, not, ◌&&◌, ◌==◌, List, Option, Some, None, if◌then◌else◌, slice_index_or, slice_set}
use Rattle.power_insns.specs.declared.meaning.Width.{Width}
use Rattle.power_insns.specs.declared.meaning.Width.TheVariants.{Long}
use Rattle.power_insns.specs.declared.meaning.Sign.{Sign}
use Rattle.power_insns.specs.declared.meaning.Sign.TheVariants.{Signed}
use Rattle.power_insns.specs.declared.meaning.Function.{Function}
use Rattle.power_insns.specs.declared.meaning.Operand.{Operand}
use Rattle.power_insns.specs.declared.meaning.Operand.TheVariants.{Register, Fixed, Here}
use Rattle.power_insns.specs.declared.meaning.Counter.{Counter}
use Rattle.power_insns.specs.declared.meaning.Counter.TheVariants.{Kept, Lowered}
use Rattle.power_insns.specs.declared.meaning.Condition.{Condition}
use Rattle.power_insns.specs.declared.meaning.Condition.TheVariants.{Always, Bit}
use Rattle.power_insns.specs.declared.meaning.BranchTarget.{BranchTarget}
use Rattle.power_insns.specs.declared.meaning.BranchTarget.TheVariants.{Ahead, Through}
use Rattle.power_insns.specs.declared.meaning.Operation.{Operation}
use Rattle.power_insns.specs.declared.meaning.Operation.TheVariants.{Copy, Calculate, Divide, Compare, Load, Store, Branch, System}
use Rattle.power_insns.specs.Arithmetic.{bytes_of, quotient}
use Rattle.power_insns.specs.Operations.{link_register, count_register}
use Rattle.power_machine.specs.declared.memory.Purpose.TheVariants.{Loading, Storing}
use Rattle.power_machine.specs.declared.reason.Reason.{Reason}
use Rattle.power_machine.specs.declared.reason.Reason.TheVariants as why
use Rattle.power_machine.specs.Bytes.{over}
use Rattle.power_machine.specs.Memory.{Permission, bytes_from, put}

-- what a kind of values V, bytes B of memory, bits T of the condition register and places P of code offers
pub record Domain (V B T P : Type 0) : Type 0 where
  -- a number as a value
  pub num : ℕ → V
  pub calculate : Function → V → V → V
  -- the four bits of a field of the condition register
  pub compare : Width → Sign → V → V → List T
  -- the number that a value is, if it is one
  pub number : V → Option ℕ
  pub bit : T → Option Bool
  -- a Boolean as a bit
  pub flag : Bool → T
  -- a number as a byte, and the number that a byte is, if it is one
  pub byte : ℕ → B
  pub byte_number : B → Option ℕ
  -- what a load of these bytes gives, and the bytes that a store puts
  pub join : Width → Sign → List B → V
  pub split : Width → V → List B
  -- the place that a branch through a value goes to
  pub place : V → Option P
  -- the value of a place's address
  pub code : P → V
  -- so many bytes on
  pub ahead : P → ℕ → P

-- the place of the next instruction, r0 to r31 with LR and CTR behind them, the bits of CR, and memory
pub record State (V B T P : Type 0) : Type 0 where
  pub at : P
  pub registers : List V
  pub condition : List T
  pub byte : ℕ → B

pub data Next (S : Type 0) : Type 0 where
  Went : S → Next S
  Left : Reason → Next S

-- the state after, which a leave leaves as it was
abbrev pub state_after : {S : Type 0} → Next S → S → S
state_after (Went s) old = s
state_after (Left why) old = old

-- goes on with a value, or leaves where there is none
abbrev pub need : {A S : Type 0} → Option A → Reason → (A → Next S) → Next S
need None reason go = Left reason
need (Some x) reason go = go x

abbrev pub check : {S : Type 0} → Bool → Reason → Next S → Next S
check ok reason go = if ok then go else Left reason

-- addresses wrap round
abbrev pub sum_address : ℕ → ℕ → ℕ
sum_address base offset = (base + offset) % 2 ^ 64

-- the count register, lowered by one
abbrev pub one_less : ℕ → ℕ
one_less n = (n + (2 ^ 64 - 1)) % 2 ^ 64

-- a test is as wanted
abbrev pub agrees : Bool → Bool → Bool
agrees b true = b
agrees b false = not b

-- what a condition says of the bit that it looks at
abbrev pub met : Condition → Bool → Bool
met Always b = true
met (Bit bit value) b = agrees b value

-- the bits of a field of the condition register, replaced
abbrev pub with_field : {T : Type 0} → List T → ℕ → List T → List T
with_field bits field new = over bits (4 * field) new

module _ {V B T P : Type 0} (d : Domain V B T P) where
  abbrev pub register : List V → ℕ → V
  register registers r = slice_index_or registers r (d.num 0)

  abbrev pub value_of : State V B T P → Operand → V
  value_of s (Register r) = register s.registers r
  value_of s (Fixed n) = d.num n
  value_of s (Here n) = d.code (d.ahead s.at n)

  -- a register gets a value, and field 0 of CR the value's order against 0 where that is asked
  abbrev pub with_result : ℕ → State V B T P → ℕ → V → Bool → State V B T P
  with_result size s to v rc =
      record {
        at = d.ahead s.at size;
        registers = slice_set s.registers to v;
        condition = (if rc then with_field s.condition 0 (d.compare Long Signed v (d.num 0)) else s.condition);
        byte = s.byte;
      }

  abbrev pub with_order : ℕ → State V B T P → ℕ → List T → State V B T P
  with_order size s field bits =
      record { at = d.ahead s.at size; registers = s.registers; condition = with_field s.condition field bits; byte = s.byte }

  -- the register that gets a store's address, if one does
  abbrev pub updated : List V → Option ℕ → ℕ → List V
  updated registers None a = registers
  updated registers (Some r) a = slice_set registers r (d.num a)

  abbrev pub with_bytes : ℕ → State V B T P → Option ℕ → ℕ → List B → State V B T P
  with_bytes size s update a bytes =
      record { at = d.ahead s.at size; registers = updated s.registers update a; condition = s.condition; byte = put s.byte a bytes }

  abbrev pub load_at : ℕ → Permission → State V B T P → Width → Sign → ℕ → ℕ → Next (State V B T P)
  load_at size may s width sign to a =
      check (may Loading a (bytes_of width)) why.Load
      (Went (with_result size s to (d.join width sign (bytes_from s.byte a (bytes_of width))) false))

  abbrev pub store_at : ℕ → Permission → State V B T P → Width → ℕ → Option ℕ → ℕ → Next (State V B T P)
  store_at size may s width from update a =
      check (may Storing a (bytes_of width)) why.Store (Went (with_bytes size s update a (d.split width (register s.registers from))))

  -- the sum of a base and an offset as an address
  abbrev pub with_address : State V B T P → Operand → Operand → (ℕ → Next (State V B T P)) → Next (State V B T P)
  with_address s base offset go =
      need (d.number (value_of s base)) why.Value (λ b. need (d.number (value_of s offset)) why.Value (λ o. go (sum_address b o)))

  -- Branches: CTR is lowered first, the target is read next, and LR is set last, also where the branch isn't taken.
  abbrev pub target_of : P → List V → BranchTarget → Option P
  target_of at registers (Ahead n) = Some (d.ahead at n)
  target_of at registers (Through r) = d.place (register registers r)

  abbrev pub linked : List V → P → Bool → List V
  linked registers next link = if link then slice_set registers link_register (d.code next) else registers

  abbrev pub going : ℕ → State V B T P → List V → Bool → P → State V B T P
  going size s registers link to =
      record { at = to; registers = linked registers (d.ahead s.at size) link; condition = s.condition; byte = s.byte }

  abbrev pub branches : ℕ → State V B T P → List V → BranchTarget → Bool → Bool → Next (State V B T P)
  branches size s registers target link true =
      need (target_of s.at registers target) why.Value (λ to. Went (going size s registers link to))
  branches size s registers target link false = Went (going size s registers link (d.ahead s.at size))

  abbrev pub wanted : List T → Condition → Option Bool
  wanted bits Always = Some true
  wanted bits (Bit bit value) = d.bit (slice_index_or bits bit (d.flag false))

  abbrev pub branch_if : ℕ → State V B T P → List V → Bool → Condition → BranchTarget → Bool → Next (State V B T P)
  branch_if size s registers counted condition target link =
      need (wanted s.condition condition) why.Value (λ b. branches size s registers target link (counted && met condition b))

  abbrev pub branch : ℕ → State V B T P → Counter → Condition → BranchTarget → Bool → Next (State V B T P)
  branch size s Kept condition target link = branch_if size s s.registers true condition target link
  branch size s (Lowered zero) condition target link =
      need (d.number (register s.registers count_register)) why.Value
      (λ n. branch_if size s (slice_set s.registers count_register (d.num (one_less n)))
      (agrees (one_less n == 0) zero) condition target link)

  abbrev pub divide : ℕ → State V B T P → Sign → ℕ → V → V → Bool → Next (State V B T P)
  divide size s sign to x y rc =
      need (d.number x) why.Value (λ a. need (d.number y) why.Value
      (λ b. need (quotient sign a b) why.Divide (λ q. Went (with_result size s to (d.num q) rc))))

  -- One operation, of an instruction of so many bytes. A call of the system is no operation on the state alone.
  abbrev pub exec : ℕ → Permission → Operation → State V B T P → Next (State V B T P)
  exec size may (Copy to from rc) s = Went (with_result size s to (value_of s from) rc)
  exec size may (Calculate function to x y rc) s = Went (with_result size s to (d.calculate function (value_of s x) (value_of s y)) rc)
  exec size may (Divide sign to x y rc) s = divide size s sign to (value_of s x) (value_of s y) rc
  exec size may (Compare field width sign x y) s = Went (with_order size s field (d.compare width sign (value_of s x) (value_of s y)))
  exec size may (Load width sign to base offset) s = with_address s base offset (load_at size may s width sign to)
  exec size may (Store width from base offset update) s = with_address s base offset (store_at size may s width from update)
  exec size may (Branch counter condition target link) s = branch size s counter condition target link
  exec size may System s = Left why.Call
