-- What an operation leaves as it is.
use Rattle.std.proofs.Common.{◌≡◌, ◌≢◌, ℕ, List, length, map, Bool, true, false, Option, Some, None, refl, sym, ap, ◌∙◌, subst, get_or-set_other, slice_index_or, slice_set}
use Rattle.std.proofs.lemmas.List.{length-set}
use Rattle.power_insns.specs.declared.meaning.Operation.{Operation}
use Rattle.power_insns.specs.declared.meaning.Operation.TheVariants.{Copy, Calculate, Divide, Compare, Load, Store, Branch, System}
use Rattle.power_insns.specs.declared.uses.Access.TheVariants as memory
use Rattle.power_insns.specs.Arithmetic.{bytes_of, quotient}
use Rattle.power_insns.specs.Uses.{Writes, access_of}
use Rattle.power_machine.specs.declared.memory.Purpose.TheVariants.{Loading, Storing}
use Rattle.power_machine.specs.declared.reason.Reason.{Reason}
use Rattle.power_machine.specs.declared.reason.Reason.TheVariants as why
use Rattle.power_machine.specs.Memory.{Permission, bytes_from, put}
use Rattle.power_machine.specs.Machines.{Domain, State, Next, Went, Left, need, check, sum_address, value_of, exec}
use Rattle.power_machine.specs.laws.Related.{Registers, Memories, Confined}
use Rattle.power_machine.specs.laws.Simulation.{exec_match, equality_related, same_permission}
use Rattle.power_machine.specs.laws.Pairwise.{pairwise_same}

-- one register file, of the same length as at the start, and with the same in register r
record KeepsRegister {V : Type 0} (r : ℕ) (us xs ys : List V) : Type 0 where
  pub same : xs ≡ ys
  pub long : length xs ≡ length us
  pub kept : (z : V) → slice_index_or xs r z ≡ slice_index_or us r z

registers_kept : {V : Type 0} (r : ℕ) (us : List V) → Registers (◌≡◌ {A = V}) (λ q. Unit {0}) (λ q. q ≢ r) (KeepsRegister r us)
registers_kept r us = record {
  get = λ xs ys q x y may e h. ap (λ z. slice_index_or xs q z) e ∙ ap (λ zs. slice_index_or zs q y) h.same;
  set = λ xs ys q x y may e h. record {
    same = ap (λ z. slice_set xs q z) e ∙ ap (λ zs. slice_set zs q y) h.same;
    long = length-set xs q x ∙ h.long;
    kept = λ z. get_or-set_other xs q r x z (λ same. may (sym same)) ∙ h.kept z;
  };
}

-- one memory, which is as at the start if nothing is stored
same_memories :
    {V B T P : Type 0} (d : Domain V B T P) (permission : Permission) →
    Memories d d (◌≡◌ {A = V}) (◌≡◌ {A = B}) permission (Unit {0}) (Unit {0}) (λ f g. f ≡ g)
same_memories d permission = record {
  loaded = λ loads f g a count ok h. pairwise_same _ _ (ap (λ m. bytes_from m a count) h);
  stored = λ stores f g width a x y ok r h. ap (λ m. put m a (d.split width x)) h ∙ ap (λ z. put g a (d.split width z)) r;
  filled = λ stores f g a count bytes short ok h. ap (λ m. put m a (map d.byte bytes)) h;
}

bytes_kept :
    {V B T P : Type 0} (d : Domain V B T P) (permission : Permission) (start : ℕ → B) →
    Memories d d (◌≡◌ {A = V}) (◌≡◌ {A = B}) permission (Unit {0}) ⊥ (λ f g. (f ≡ g) × (f ≡ start))
bytes_kept d permission start = record {
  loaded = λ loads f g a count ok h. pairwise_same _ _ (ap (λ m. bytes_from m a count) h.0);
  stored = λ none f g width a x y ok r h. absurd none;
  filled = λ none f g a count bytes short ok h. absurd none;
}

same_registers : {V : Type 0} → Registers (◌≡◌ {A = V}) (λ q. Unit {0}) (λ q. Unit {0}) (λ (xs ys : List V). xs ≡ ys)
same_registers = record {
  get = λ xs ys q x y may e h. ap (λ z. slice_index_or xs q z) e ∙ ap (λ zs. slice_index_or zs q y) h;
  set = λ xs ys q x y may e h. ap (λ z. slice_set xs q z) e ∙ ap (λ zs. slice_set zs q y) h;
}

-- A register that an operation doesn't write keeps what it holds, and there are as many registers as before.
pub exec_keeps_register :
    {V B T P : Type 0} (d : Domain V B T P) (size : ℕ) (permission : Permission) (op : Operation)
    (s s' : State V B T P) (r : ℕ) →
    ¬ Writes op r →
    exec d size permission op s ≡ Went s' →
    ((z : V) → slice_index_or s'.registers r z ≡ slice_index_or s.registers r z) × (length s'.registers ≡ length s.registers)
exec_keeps_register {T} {P} d size permission op s s' r unwritten w =
    let may : Confined (λ q. Unit {0}) (λ q. q ≢ r) (Unit {0}) (Unit {0}) op = record
    { reads = λ q h. tt; writes = λ q h e. unwritten (subst (Writes op) e h); loads = λ h. tt; stores = λ h. tt } in
    let m = exec_match (equality_related d) (registers_kept r s.registers) (same_memories d permission)
    (same_permission permission) size op s s' s may
    (record {
      at = refl;
      registers = record { same = refl; long = refl; kept = λ z. refl };
      condition = pairwise_same _ _ refl;
      byte = refl;
    }) w in
    (m.2.registers.kept, m.2.registers.long)

-- Memory is as it was after an operation that isn't a store.
pub exec_keeps_memory :
    {V B T P : Type 0} (d : Domain V B T P) (size : ℕ) (permission : Permission) (op : Operation)
    (s s' : State V B T P) →
    access_of op ≢ memory.Store →
    exec d size permission op s ≡ Went s' →
    s'.byte ≡ s.byte
exec_keeps_memory d size permission op s s' unstored w =
    let may : Confined (λ q. Unit {0}) (λ q. Unit {0}) (Unit {0}) ⊥ op = record
    { reads = λ q h. tt; writes = λ q h. tt; loads = λ h. tt; stores = λ h. absurd (unstored h) } in
    let m = exec_match (equality_related d) same_registers (bytes_kept d permission s.byte) (same_permission permission) size op s s' s may
    (record { at = refl; registers = refl; condition = pairwise_same _ _ refl; byte = (refl, refl) }) w in
    m.2.byte.1

abbrev pub is_branch : Operation → Bool
is_branch (Branch counter condition target link) = true
is_branch op = false

-- where it goes on it goes on there
abbrev GoesTo : {V B T P : Type 0} → P → Next (State V B T P) → Type 0
GoesTo p (Went s) = s.at ≡ p
GoesTo p (Left reason) = Unit {0}

need_goes :
    {V B T P X : Type 0} (p : P) (o : Option X) (reason : Reason) (go : X → Next (State V B T P)) →
    ((x : X) → GoesTo p (go x)) →
    GoesTo p (need o reason go)
need_goes p None reason go h = tt
need_goes p (Some x) reason go h = h x

check_goes :
    {V B T P : Type 0} (p : P) (b : Bool) (reason : Reason) (go : Next (State V B T P)) →
    GoesTo p go →
    GoesTo p (check b reason go)
check_goes p true reason go h = h
check_goes p false reason go h = tt

exec_goes :
    {V B T P : Type 0} (d : Domain V B T P) (size : ℕ) (permission : Permission) (op : Operation)
    (s : State V B T P) →
    is_branch op ≡ false →
    GoesTo (d.ahead s.at size) (exec d size permission op s)
exec_goes d size permission (Copy to from rc) s h = refl
exec_goes d size permission (Calculate f to x y rc) s h = refl
exec_goes d size permission (Divide sign to x y rc) s h =
    need_goes (d.ahead s.at size) (d.number (value_of d s x)) why.Value _
    (λ a. need_goes (d.ahead s.at size) (d.number (value_of d s y)) why.Value _
    (λ b. need_goes (d.ahead s.at size) (quotient sign a b) why.Divide _ (λ q. refl)))
exec_goes d size permission (Compare field width sign x y) s h = refl
exec_goes d size permission (Load width sign to base offset) s h =
    need_goes (d.ahead s.at size) (d.number (value_of d s base)) why.Value _
    (λ b. need_goes (d.ahead s.at size) (d.number (value_of d s offset)) why.Value _
    (λ o. check_goes (d.ahead s.at size) (permission Loading (sum_address b o) (bytes_of width)) why.Load _ refl))
exec_goes d size permission (Store width from base offset update) s h =
    need_goes (d.ahead s.at size) (d.number (value_of d s base)) why.Value _
    (λ b. need_goes (d.ahead s.at size) (d.number (value_of d s offset)) why.Value _
    (λ o. check_goes (d.ahead s.at size) (permission Storing (sum_address b o) (bytes_of width)) why.Store _ refl))
exec_goes d size permission (Branch counter condition target link) s h = cc
exec_goes d size permission System s h = tt

-- An operation that is no branch goes on at the next instruction.
pub exec_goes_on :
    {V B T P : Type 0} (d : Domain V B T P) (size : ℕ) (permission : Permission) (op : Operation)
    (s s' : State V B T P) →
    is_branch op ≡ false →
    exec d size permission op s ≡ Went s' →
    s'.at ≡ d.ahead s.at size
exec_goes_on d size permission op s s' straight w = subst (GoesTo (d.ahead s.at size)) w (exec_goes d size permission op s straight)
