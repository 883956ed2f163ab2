-- Two machines over related kinds of values: what the relations must keep, and when two states match. The first machine may know less
-- than the
-- second, as one of symbolic values does: where it leaves nothing is said of the second.
use Rattle.std.specs.Prelude.{◌≡◌, ◌≤◌, ℕ, Bool, true, List, [], ◌∷◌, length, map, Option, Some, None, slice_index_or, slice_set}
use Rattle.power_insns.specs.declared.meaning.Width.{Width}
use Rattle.power_insns.specs.declared.meaning.Sign.{Sign}
use Rattle.power_insns.specs.declared.meaning.Function.{Function}
use Rattle.power_insns.specs.declared.meaning.Operation.{Operation}
use Rattle.power_insns.specs.declared.uses.Access.TheVariants as memory
use Rattle.power_insns.specs.Arithmetic.{bytes_of}
use Rattle.power_insns.specs.Uses.{Reads, Writes, access_of}
use Rattle.power_machine.specs.declared.memory.Purpose.{Purpose}
use Rattle.power_machine.specs.declared.memory.Purpose.TheVariants.{Loading, Storing}
use Rattle.power_machine.specs.Memory.{Permission, bytes_from, put}
use Rattle.power_machine.specs.Machines.{Domain, State, Next, Went, Left}
use Rattle.power_machine.specs.Calls.{Run}

-- pairwise, in lists of one length
abbrev pub Pairwise : {X Y : Type 0} → (X → Y → Type 0) → List X → List Y → Type 0
Pairwise R [] [] = Unit {0}
Pairwise R [] (y ∷ ys) = ⊥
Pairwise R (x ∷ xs) [] = ⊥
Pairwise R (x ∷ xs) (y ∷ ys) = R x y × Pairwise R xs ys

-- what the first knows the second knows too
abbrev pub Known : {X Y : Type 0} → (X → Y → Type 0) → Option X → Option Y → Type 0
Known R None o = Unit {0}
Known R (Some x) None = ⊥
Known R (Some x) (Some y) = R x y

-- where the first goes on the second goes on, to a related state
abbrev pub Simulated : {S T : Type 0} → (S → T → Type 0) → Next S → Next T → Type 0
Simulated R (Left reason) next = Unit {0}
Simulated R (Went s) (Left reason) = ⊥
Simulated R (Went s) (Went t) = R s t

-- What the relations of values, bytes, bits and places must keep, a fact for each member of the two domains. A number that the first
-- knows is
-- that number in the second, a bit that bit, and a place of code a related place.
pub record Related {V B T P V' B' T' P' : Type 0} (d : Domain V B T P) (e : Domain V' B' T' P')
    (RV : V → V' → Type 0) (RB : B → B' → Type 0) (RT : T → T' → Type 0) (RP : P → P' → Type 0) : Type 0 where
  pub num : (n : ℕ) → RV (d.num n) (e.num n)
  pub calculate : (f : Function) (x y : V) (x' y' : V') → RV x x' → RV y y' → RV (d.calculate f x y) (e.calculate f x' y')
  pub compare :
      (width : Width) (sign : Sign) (x y : V) (x' y' : V') →
      RV x x' →
      RV y y' →
      Pairwise RT (d.compare width sign x y) (e.compare width sign x' y')
  pub number : (x : V) (y : V') → RV x y → Known (◌≡◌ {A = ℕ}) (d.number x) (e.number y)
  pub bit : (b : T) (c : T') → RT b c → Known (◌≡◌ {A = Bool}) (d.bit b) (e.bit c)
  pub flag : (b : Bool) → RT (d.flag b) (e.flag b)
  pub byte : (n : ℕ) → RB (d.byte n) (e.byte n)
  pub byte_number : (x : B) (y : B') → RB x y → Known (◌≡◌ {A = ℕ}) (d.byte_number x) (e.byte_number y)
  pub join :
      (width : Width) (sign : Sign) (xs : List B) (ys : List B') →
      length xs ≡ bytes_of width →
      Pairwise RB xs ys →
      RV (d.join width sign xs) (e.join width sign ys)
  pub split : (width : Width) (x : V) (y : V') → RV x y → Pairwise RB (d.split width x) (e.split width y)
  pub place : (x : V) (y : V') → RV x y → Known RP (d.place x) (e.place y)
  pub code : (p : P) (q : P') → RP p q → RV (d.code p) (e.code q)
  pub ahead : (p : P) (q : P') (n : ℕ) → RP p q → RP (d.ahead p n) (e.ahead q n)

-- What a relation of two register files must keep, at the registers that operations may read and write.
pub record Registers {V V' : Type 0} (RV : V → V' → Type 0) (MayRead MayWrite : ℕ → Type 0) (RR : List V → List V' → Type 0) : Type 0 where
  pub get :
      (xs : List V) (ys : List V') (r : ℕ) (x : V) (y : V') →
      MayRead r →
      RV x y →
      RR xs ys →
      RV (slice_index_or xs r x) (slice_index_or ys r y)
  pub set :
      (xs : List V) (ys : List V') (r : ℕ) (x : V) (y : V') →
      MayWrite r →
      RV x y →
      RR xs ys →
      RR (slice_set xs r x) (slice_set ys r y)

-- What a relation of two memories must keep: allowed loads of any number of bytes, where operations may load, and where they may store
-- allowed
-- stores of values, and of the bytes that a call gives, which may be fewer than its range has.
pub record Memories {V B T P V' B' T' P' : Type 0} (d : Domain V B T P) (e : Domain V' B' T' P')
    (RV : V → V' → Type 0) (RB : B → B' → Type 0) (may : Permission) (Loads Stores : Type 0)
    (RM : (ℕ → B) → (ℕ → B') → Type 0) : Type 0 where
  pub loaded :
      Loads →
      (f : ℕ → B) (g : ℕ → B') (a count : ℕ) →
      may Loading a count ≡ true →
      RM f g →
      Pairwise RB (bytes_from f a count) (bytes_from g a count)
  pub stored :
      Stores →
      (f : ℕ → B) (g : ℕ → B') (width : Width) (a : ℕ) (x : V) (y : V') →
      may Storing a (bytes_of width) ≡ true →
      RV x y →
      RM f g →
      RM (put f a (d.split width x)) (put g a (e.split width y))
  pub filled :
      Stores →
      (f : ℕ → B) (g : ℕ → B') (a count : ℕ) (bytes : List ℕ) →
      length bytes ≤ count →
      may Storing a count ≡ true →
      RM f g →
      RM (put f a (map d.byte bytes)) (put g a (map e.byte bytes))

-- what the first permits the second permits
pub record AllowsMore (may may' : Permission) : Type 0 where
  pub allowed : (purpose : Purpose) (at count : ℕ) → may purpose at count ≡ true → may' purpose at count ≡ true

-- the operation reads and writes only registers that it may, and loads and stores only if it may
pub record Confined (MayRead MayWrite : ℕ → Type 0) (Loads Stores : Type 0) (op : Operation) : Type 0 where
  pub reads : (r : ℕ) → Reads op r → MayRead r
  pub writes : (r : ℕ) → Writes op r → MayWrite r
  pub loads : access_of op ≡ memory.Load → Loads
  pub stores : access_of op ≡ memory.Store → Stores

-- two states at one moment
pub record Match {V B T P V' B' T' P' : Type 0} (RT : T → T' → Type 0) (RP : P → P' → Type 0)
    (RR : List V → List V' → Type 0) (RM : (ℕ → B) → (ℕ → B') → Type 0) (s : State V B T P) (t : State V' B' T' P') : Type 0 where
  pub at : RP s.at t.at
  pub registers : RR s.registers t.registers
  pub condition : Pairwise RT s.condition t.condition
  pub byte : RM s.byte t.byte

-- memories that are related at each address
abbrev pub Bytewise : {B B' : Type 0} → (B → B' → Type 0) → (ℕ → B) → (ℕ → B') → Type 0
Bytewise R f g = (a : ℕ) → R (f a) (g a)

-- two runs at one moment: what has come from the world, and what is to come, is the same
pub record MatchRuns {V B T P V' B' T' P' : Type 0} (RT : T → T' → Type 0) (RP : P → P' → Type 0)
    (RR : List V → List V' → Type 0) (RM : (ℕ → B) → (ℕ → B') → Type 0) (r : Run V B T P) (q : Run V' B' T' P') : Type 0 where
  pub state : Match RT RP RR RM r.state q.state
  pub input : r.input ≡ q.input
  pub answers : r.answers ≡ q.answers
  pub events : r.events ≡ q.events
  pub ended : r.ended ≡ q.ended
