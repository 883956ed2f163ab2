-- Operations that stand one behind the other, what they leave as it is, and loads and stores that may be made before them.
use Rattle.std.proofs.Common.{◌≡◌, ◌≢◌, ◌⊎◌, ℕ, zero, suc, Bool, true, false, List, [], ◌∷◌, length, None, ⊎_elim, refl, sym, ap, ◌∙◌, subst, arith, get_or-set_other, slice_index_or, slice_set}
use Rattle.std.proofs.lemmas.List.{length-set}
use Rattle.power_insns.specs.declared.instruction.Insn.TheVariants.{Ori}
use Rattle.power_insns.specs.declared.meaning.Width.{Width}
use Rattle.power_insns.specs.declared.meaning.Sign.{Sign}
use Rattle.power_insns.specs.declared.meaning.Operand.TheVariants.{Register, Fixed}
use Rattle.power_insns.specs.declared.meaning.Operation.{Operation}
use Rattle.power_insns.specs.declared.meaning.Operation.TheVariants.{Load, Store}
use Rattle.power_insns.specs.declared.uses.Access.TheVariants as memory
use Rattle.power_insns.specs.Arithmetic.{bytes_of}
use Rattle.power_insns.specs.Operations.{operation_of}
use Rattle.power_insns.specs.Uses.{Reads, Writes, access_of}
use Rattle.power_machine.specs.declared.memory.Purpose.TheVariants.{Loading, Storing}
use Rattle.power_machine.specs.declared.reason.Reason.{Reason}
use Rattle.power_machine.specs.declared.reason.Reason.TheVariants as why
use Rattle.power_machine.specs.Memory.{Permission, bytes_from, put}
use Rattle.power_machine.specs.Machines.{Domain, State, Next, Went, Left, check, sum_address, register, with_result, with_bytes, exec}
use Rattle.power_machine.specs.Numbers.{numbers, NumberState}
use Rattle.power_machine.specs.laws.Related.{Simulated, Related, Registers, Memories, AllowsMore, Confined, Match}
use Rattle.power_machine.specs.laws.Simulation.{exec_simulated, went_simulated, equality_related, same_permission}
use Rattle.power_machine.specs.laws.Pairwise.{pairwise_same, lists_same}

-- an operation, of an instruction of so many bytes
pub record Sized : Type 0 where
  pub size : ℕ
  pub operation : Operation

-- goes on from where the first went
abbrev pub after : {S : Type 0} → Next S → (S → Next S) → Next S
after (Left reason) go = Left reason
after (Went s) go = go s

-- operations one behind the other
abbrev pub exec_all : {V B T P : Type 0} → Domain V B T P → Permission → List Sized → State V B T P → Next (State V B T P)
exec_all d permission [] s = Went s
exec_all d permission (x ∷ xs) s = after (exec d x.size permission x.operation s) (exec_all d permission xs)

-- each of the operations is so
abbrev pub AllAre : (Operation → Type 0) → List Sized → Type 0
AllAre Is [] = Unit {0}
AllAre Is (x ∷ xs) = Is x.operation × AllAre Is xs

after_simulated :
    {S T : Type 0} (R : S → T → Type 0) (next : Next S) (next' : Next T) (go : S → Next S) (go' : T → Next T) →
    Simulated R next next' →
    ((s : S) (t : T) → R s t → Simulated R (go s) (go' t)) →
    Simulated R (after next go) (after next' go')
after_simulated R (Left reason) next' go go' h k = tt
after_simulated R (Went s) (Left reason) go go' h k = absurd h
after_simulated R (Went s) (Went t) go go' h k = k s t h

module _ {V B T P V' B' T' P' : Type 0} {d : Domain V B T P} {e : Domain V' B' T' P'} {RV : V → V' → Type 0}
    {RB : B → B' → Type 0} {RT : T → T' → Type 0} {RP : P → P' → Type 0} (laws : Related d e RV RB RT RP)
    {MayRead MayWrite : ℕ → Type 0} {RR : List V → List V' → Type 0} (files : Registers RV MayRead MayWrite RR)
    {ps pt : Permission} {Loads Stores : Type 0} {RM : (ℕ → B) → (ℕ → B') → Type 0}
    (memories : Memories d e RV RB ps Loads Stores RM) (more : AllowsMore ps pt) where
  -- What the first does over many operations the second does.
  pub all_simulated :
      (xs : List Sized) (s : State V B T P) (t : State V' B' T' P') →
      AllAre (Confined MayRead MayWrite Loads Stores) xs →
      Match RT RP RR RM s t →
      Simulated (Match RT RP RR RM) (exec_all d ps xs s) (exec_all e pt xs t)
  all_simulated [] s t c h = h
  all_simulated (x ∷ xs) s t c h =
      after_simulated (Match RT RP RR RM) (exec d x.size ps x.operation s) (exec e x.size pt x.operation t)
      (exec_all d ps xs) (exec_all e pt xs)
      (exec_simulated laws files memories more x.size x.operation s t c.0 h) (λ u v m. all_simulated xs u v c.1 m)

set_agrees :
    {V : Type 0} (xs ys : List V) (i : ℕ) (x y : V) (j : ℕ) (z : V) →
    length xs ≡ length ys →
    x ≡ y →
    slice_index_or xs j z ≡ slice_index_or ys j z →
    slice_index_or (slice_set xs i x) j z ≡ slice_index_or (slice_set ys i y) j z
set_agrees [] [] i x y j z long e h = h
set_agrees [] (b ∷ ys) i x y j z long e h = cc
set_agrees (a ∷ xs) [] i x y j z long e h = cc
set_agrees (a ∷ xs) (b ∷ ys) zero x y zero z long e h = e
set_agrees (a ∷ xs) (b ∷ ys) zero x y (suc j) z long e h = h
set_agrees (a ∷ xs) (b ∷ ys) (suc i) x y zero z long e h = h
set_agrees (a ∷ xs) (b ∷ ys) (suc i) x y (suc j) z long e h = set_agrees xs ys i x y j z (omega arith) e h

-- the register files now, xs and ys: the same at registers that may be read, and as at the start, us and vs, at those that may not be
-- written
pub record Aside {V : Type 0} (MayRead MayWrite : ℕ → Type 0) (us vs xs ys : List V) : Type 0 where
  pub long : length xs ≡ length ys
  pub agree : (r : ℕ) (z : V) → MayRead r → slice_index_or xs r z ≡ slice_index_or ys r z
  pub first : (r : ℕ) (z : V) → ¬ MayWrite r → slice_index_or xs r z ≡ slice_index_or us r z
  pub second : (r : ℕ) (z : V) → ¬ MayWrite r → slice_index_or ys r z ≡ slice_index_or vs r z

pub aside_registers :
    {V : Type 0} (MayRead MayWrite : ℕ → Type 0) (us vs : List V) →
    Registers (◌≡◌ {A = V}) MayRead MayWrite (Aside MayRead MayWrite us vs)
aside_registers MayRead MayWrite us vs = record {
  get = λ xs ys r x y may e h. h.agree r x may ∙ ap (slice_index_or ys r) e;
  set = λ xs ys r x y may e h. record {
    long = length-set xs r x ∙ h.long ∙ sym (length-set ys r y);
    agree = λ q z mayq. set_agrees xs ys r x y q z h.long e (h.agree q z mayq);
    first = λ q z no. get_or-set_other xs r q x z (λ same. no (subst MayWrite (sym same) may)) ∙ h.first q z no;
    second = λ q z no. get_or-set_other ys r q y z (λ same. no (subst MayWrite (sym same) may)) ∙ h.second q z no;
  };
}

-- memories that nothing is stored into; loads are made only where both are the same
abbrev pub Unstored : {B : Type 0} → (ℕ → B) → (ℕ → B) → (ℕ → B) → (ℕ → B) → Type 0
Unstored f g f' g' = (f' ≡ f) × (g' ≡ g)

pub unstored_memories :
    {V B T P : Type 0} (d : Domain V B T P) (permission : Permission) (f g : ℕ → B) →
    Memories d d (◌≡◌ {A = V}) (◌≡◌ {A = B}) permission (f ≡ g) ⊥ (Unstored f g)
unstored_memories d permission f g = record {
  loaded = λ same f' g' a count ok h. pairwise_same _ _ (ap (λ m. bytes_from m a count) (h.0 ∙ same ∙ sym h.1));
  stored = λ none f' g' width a x y ok r h. absurd none;
  filled = λ none f' g' a count bytes short ok h. absurd none;
}

-- Two states of one machine that agree at the registers that may be read go on so, and the registers that may not be written stay.
pub all_aside :
    {V B T P : Type 0} (d : Domain V B T P) (permission : Permission) (MayRead MayWrite : ℕ → Type 0)
    (xs : List Sized) (s s' t : State V B T P) →
    AllAre (Confined MayRead MayWrite (s.byte ≡ t.byte) ⊥) xs →
    s.at ≡ t.at →
    s.condition ≡ t.condition →
    length s.registers ≡ length t.registers →
    ((r : ℕ) (z : V) → MayRead r → slice_index_or s.registers r z ≡ slice_index_or t.registers r z) →
    exec_all d permission xs s ≡ Went s' →
    (t' : State V B T P) × (exec_all d permission xs t ≡ Went t') × Match (◌≡◌ {A = T}) (◌≡◌ {A = P})
    (Aside MayRead MayWrite s.registers t.registers) (Unstored s.byte t.byte) s' t'
all_aside {T} {P} d permission MayRead MayWrite xs s s' t c at condition long agree w =
    went_simulated (Match (◌≡◌ {A = T}) (◌≡◌ {A = P}) (Aside MayRead MayWrite s.registers t.registers)
    (Unstored s.byte t.byte)) (exec_all d permission xs s) (exec_all d permission xs t) s'
    (all_simulated (equality_related d) (aside_registers MayRead MayWrite s.registers t.registers)
    (unstored_memories d permission s.byte t.byte) (same_permission permission) xs s t c
    (record {
      at = at;
      registers = record
          { long = long; agree = agree; first = λ r z no. refl; second = λ r z no. refl };
      condition = pairwise_same _ _ condition;
      byte = (refl, refl);
    }))
    w

-- the operation neither reads nor writes the register
pub record Spares (r : ℕ) (op : Operation) : Type 0 where
  pub unread : ¬ Reads op r
  pub unwritten : ¬ Writes op r

-- a load into ry from an address in rx may be made before the operation
pub record LoadsPast (rx ry : ℕ) (op : Operation) : Type 0 where
  pub base : Spares rx op
  pub loaded : Spares ry op
  pub unstored : access_of op ≢ memory.Store

-- a store of rs to an address in rx may be made before the operation
pub record StoresPast (rx rs : ℕ) (op : Operation) : Type 0 where
  pub base : Spares rx op
  pub stored : ¬ Writes op rs
  pub unloaded : access_of op ≢ memory.Load
  pub unstored : access_of op ≢ memory.Store

-- the same state, but for what lost registers hold
pub record SameBut (IsLost : ℕ → Type 0) (s t : NumberState) : Type 0 where
  pub at : s.at ≡ t.at
  pub long : length s.registers ≡ length t.registers
  pub registers : (r : ℕ) (z : ℕ) → ¬ IsLost r → slice_index_or s.registers r z ≡ slice_index_or t.registers r z
  pub condition : s.condition ≡ t.condition
  pub byte : s.byte ≡ t.byte

-- an operation that does nothing, of an instruction of so many bytes
abbrev pub passed : ℕ → NumberState → NumberState
passed size s = record { at = sum_address s.at size; registers = s.registers; condition = s.condition; byte = s.byte }

set_itself : (xs : List ℕ) (i j z d : ℕ) → slice_index_or (slice_set xs i (slice_index_or xs i d)) j z ≡ slice_index_or xs j z
set_itself [] i j z d = refl
set_itself (x ∷ xs) zero zero z d = refl
set_itself (x ∷ xs) zero (suc j) z d = refl
set_itself (x ∷ xs) (suc i) zero z d = refl
set_itself (x ∷ xs) (suc i) (suc j) z d = set_itself xs i j z d

-- `ori 0,0,0` does nothing.
pub nop_passes :
    (size : ℕ) (permission : Permission) (s : NumberState) →
    (s' : NumberState) × (exec numbers size permission (operation_of (Ori 0 0 0)) s ≡ Went s') × SameBut (λ r. ⊥) s' (passed size s)
nop_passes size permission s = (
  _,
  refl,
  record {
    at = refl;
    long = length-set s.registers 0 (register numbers s.registers 0);
    registers = λ r z kept. set_itself s.registers 0 r z 0;
    condition = refl;
    byte = refl;
  },
)

-- the address that a register and a displacement give
abbrev pub address_in : NumberState → ℕ → ℕ → ℕ
address_in s r disp = sum_address (register numbers s.registers r) disp

check_went : {S : Type 0} (b : Bool) (reason : Reason) (s s' : S) → check b reason (Went s) ≡ Went s' → s ≡ s'
check_went true reason s s' h = cc
check_went false reason s s' h = cc

set_as :
    (xs ys : List ℕ) (i v j z : ℕ) →
    length xs ≡ length ys →
    ((z : ℕ) → slice_index_or ys i z ≡ v) →
    (j ≢ i → slice_index_or xs j z ≡ slice_index_or ys j z) →
    slice_index_or (slice_set xs i v) j z ≡ slice_index_or ys j z
set_as [] [] i v j z long is h = refl
set_as [] (b ∷ ys) i v j z long is h = cc
set_as (a ∷ xs) [] i v j z long is h = cc
set_as (a ∷ xs) (b ∷ ys) zero v zero z long is h = sym (is z)
set_as (a ∷ xs) (b ∷ ys) zero v (suc j) z long is h = h (λ e. cc)
set_as (a ∷ xs) (b ∷ ys) (suc i) v zero z long is h = h (λ e. cc)
set_as (a ∷ xs) (b ∷ ys) (suc i) v (suc j) z long is h = set_as xs ys i v j z (omega arith) is (λ ne. h (λ e. ne (omega arith)))

all_confined : (Is Is' : Operation → Type 0) (xs : List Sized) → ((op : Operation) → Is op → Is' op) → AllAre Is xs → AllAre Is' xs
all_confined Is Is' [] h c = tt
all_confined Is Is' (x ∷ xs) h c = (h x.operation c.0, all_confined Is Is' xs h c.1)

load_confined :
    (Same : Type 0) (rx ry : ℕ) (same : Same) (op : Operation) →
    LoadsPast rx ry op →
    Confined (λ r. (r ≢ rx) × (r ≢ ry)) (λ r. (r ≢ rx) × (r ≢ ry)) Same ⊥ op
load_confined Same rx ry same op h = record {
  reads = λ r used. (λ e. h.base.unread (subst (Reads op) e used), λ e. h.loaded.unread (subst (Reads op) e used));
  writes = λ r used. (λ e. h.base.unwritten (subst (Writes op) e used), λ e. h.loaded.unwritten (subst (Writes op) e used));
  loads = λ is. same;
  stores = λ is. absurd (h.unstored is);
}

store_confined :
    (Same : Type 0) (rx rs : ℕ) (op : Operation) →
    StoresPast rx rs op →
    Confined (λ r. r ≢ rx) (λ r. (r ≢ rx) × (r ≢ rs)) Same ⊥ op
store_confined Same rx rs op h = record {
  reads = λ r used e. h.base.unread (subst (Reads op) e used);
  writes = λ r used. (λ e. h.base.unwritten (subst (Writes op) e used), λ e. h.stored (subst (Writes op) e used));
  loads = λ is. absurd (h.unloaded is);
  stores = λ is. absurd (h.unstored is);
}

-- A load may be made before operations that spare its registers and store nothing. Where t is the state s with the load already made, and a
-- load into ry from rx and a displacement follows them from s, then from t nothing need follow; rx is lost unless it is ry.
abbrev pub LoadMovesBefore : Type 0
LoadMovesBefore =
    (permission : Permission) (xs : List Sized) (size : ℕ) (width : Width) (sign : Sign) (rx ry disp : ℕ) (s u v t : NumberState) →
    AllAre (LoadsPast rx ry) xs → SameBut (λ r. (r ≡ rx) ⊎ (r ≡ ry)) s t →
    ((z : ℕ) → slice_index_or t.registers ry z ≡ numbers.join width sign (bytes_from s.byte (address_in s rx disp) (bytes_of width))) →
    exec_all numbers permission xs s ≡ Went u → exec numbers size permission (Load width sign ry (Register rx) (Fixed disp)) u ≡ Went v →
    (t' : NumberState) × (exec_all numbers permission xs t ≡ Went t') × SameBut (λ r. (r ≡ rx) × (r ≢ ry)) v (passed size t')

-- A store may be made before operations that spare its base, don't write what it stores, and neither load nor store.
abbrev pub StoreMovesBefore : Type 0
StoreMovesBefore =
    (permission : Permission) (xs : List Sized) (size : ℕ) (width : Width) (rx rs disp : ℕ) (s u v t : NumberState) →
    AllAre (StoresPast rx rs) xs → rs ≢ rx → s.at ≡ t.at → s.condition ≡ t.condition → length s.registers ≡ length t.registers →
    ((r : ℕ) (z : ℕ) → r ≢ rx → slice_index_or s.registers r z ≡ slice_index_or t.registers r z) →
    t.byte ≡ put s.byte (address_in s rx disp) (numbers.split width (register numbers s.registers rs)) →
    exec_all numbers permission xs s ≡ Went u → exec numbers size permission (Store width rs (Register rx) (Fixed disp) None) u ≡ Went v →
    (t' : NumberState) × (exec_all numbers permission xs t ≡ Went t') × SameBut (λ r. r ≡ rx) v (passed size t')

pub load_moves_before : LoadMovesBefore
load_moves_before permission xs size width sign rx ry disp s u v t c same loaded w q =
    let May = λ (r : ℕ). (r ≢ rx) × (r ≢ ry) in
    let k = all_aside numbers permission May May xs s u t
    (all_confined _ _ xs (load_confined (s.byte ≡ t.byte) rx ry same.byte) c) same.at same.condition same.long
    (λ r z may. same.registers r z (λ lost. ⊎_elim may.0 may.1 lost)) w in
    let t' = k.0 in
    let m = k.2 in
    let value = λ (w : NumberState). numbers.join width sign (bytes_from w.byte (address_in w rx disp) (bytes_of width)) in
    let base : register numbers u.registers rx ≡ register numbers s.registers rx = m.registers.first rx 0 (λ may. may.0 refl) in
    let same_value : value s ≡ value u =
    ap (λ a. numbers.join width sign (bytes_from s.byte (sum_address a disp) (bytes_of width))) (sym base)
    ∙ ap (λ f. numbers.join width sign (bytes_from f (address_in u rx disp) (bytes_of width))) (sym m.byte.0) in
    let is : (z : ℕ) → slice_index_or t'.registers ry z ≡ value u = λ z. m.registers.second ry z (λ may. may.1 refl)
    ∙ loaded z ∙ same_value in
    let last : with_result numbers size u ry (value u) false ≡ v = check_went
    (permission Loading (address_in u rx disp) (bytes_of width)) why.Load _ v q in (
      t',
      k.1,
      subst (λ w. SameBut (λ r. (r ≡ rx) × (r ≢ ry)) w (passed size t')) last (record {
        at = ap (λ a. sum_address a size) m.at;
        long = length-set u.registers ry (value u) ∙ m.registers.long;
        registers = λ r z kept. set_as u.registers t'.registers ry (value u) r z m.registers.long is
            (λ other. m.registers.agree r z (λ e. kept (e, other), other));
        condition = lists_same _ _ m.condition;
        byte = m.byte.0 ∙ same.byte ∙ sym m.byte.1;
      }),
    )

pub store_moves_before : StoreMovesBefore
store_moves_before permission xs size width rx rs disp s u v t c other at condition long agree stored w q =
    let k = all_aside numbers permission (λ r. r ≢ rx) (λ r. (r ≢ rx) × (r ≢ rs)) xs s u t
    (all_confined _ _ xs (store_confined (s.byte ≡ t.byte) rx rs) c) at condition long agree w in
    let t' = k.0 in
    let m = k.2 in
    let memory_of = λ (w : NumberState). put w.byte (address_in w rx disp) (numbers.split width (register numbers w.registers rs)) in
    let base : register numbers u.registers rx ≡ register numbers s.registers rx = m.registers.first rx 0 (λ may. may.0 refl) in
    let value : register numbers u.registers rs ≡ register numbers s.registers rs = m.registers.first rs 0 (λ may. may.1 refl) in
    let same_memory : memory_of u ≡ memory_of s =
    ap (λ f. put f (address_in u rx disp) (numbers.split width (register numbers u.registers rs))) m.byte.0
    ∙ ap (λ a. put s.byte (sum_address a disp) (numbers.split width (register numbers u.registers rs))) base
    ∙ ap (λ x. put s.byte (address_in s rx disp) (numbers.split width x)) value in
    let last : with_bytes numbers size u None (address_in u rx disp)
    (numbers.split width (register numbers u.registers rs)) ≡ v = check_went
    (permission Storing (address_in u rx disp) (bytes_of width)) why.Store _ v q in (
      t',
      k.1,
      subst (λ w. SameBut (λ r. r ≡ rx) w (passed size t')) last (record {
        at = ap (λ a. sum_address a size) m.at;
        long = m.registers.long;
        registers = λ r z kept. m.registers.agree r z kept;
        condition = lists_same _ _ m.condition;
        byte = same_memory ∙ sym stored ∙ sym m.byte.1;
      }),
    )
