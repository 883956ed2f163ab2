-- One law for all instructions: machines over related kinds of values stay related.
use Rattle.std.proofs.Common.{◌≡◌, ℕ, ◌*◌, Bool, true, false, ◌&&◌, ◌==◌, List, Option, Some, None, inl, inr, refl, sym, ap, ◌∙◌, subst, true≢false}
use Rattle.power_insns.specs.declared.meaning.Width.{Width}
use Rattle.power_insns.specs.declared.meaning.Width.TheVariants.{Long}
use Rattle.power_insns.specs.declared.meaning.Sign.{Sign}
use Rattle.power_insns.specs.declared.meaning.Sign.TheVariants.{Signed}
use Rattle.power_insns.specs.declared.meaning.Operand.{Operand}
use Rattle.power_insns.specs.declared.meaning.Operand.TheVariants.{Register, Fixed, Here}
use Rattle.power_insns.specs.declared.meaning.Counter.{Counter}
use Rattle.power_insns.specs.declared.meaning.Counter.TheVariants.{Kept, Lowered}
use Rattle.power_insns.specs.declared.meaning.Condition.{Condition}
use Rattle.power_insns.specs.declared.meaning.Condition.TheVariants.{Always, Bit}
use Rattle.power_insns.specs.declared.meaning.BranchTarget.{BranchTarget}
use Rattle.power_insns.specs.declared.meaning.BranchTarget.TheVariants.{Ahead, Through}
use Rattle.power_insns.specs.declared.meaning.Operation.{Operation}
use Rattle.power_insns.specs.declared.meaning.Operation.TheVariants.{Copy, Calculate, Divide, Compare, Load, Store, Branch, System}
use Rattle.power_insns.specs.Arithmetic.{bytes_of, quotient}
use Rattle.power_insns.specs.Operations.{link_register, count_register}
use Rattle.power_insns.specs.Uses.{IsRegister, GoesThrough, Links, Updates}
use Rattle.power_machine.specs.declared.memory.Purpose.TheVariants.{Loading, Storing}
use Rattle.power_machine.specs.declared.reason.Reason.{Reason}
use Rattle.power_machine.specs.declared.reason.Reason.TheVariants as why
use Rattle.power_machine.specs.Memory.{Permission}
use Rattle.power_machine.specs.Machines.{Domain, State, Next, Went, Left, need, check, sum_address, one_less, agrees, met, with_field, register, value_of, with_result, updated, load_at, store_at, with_address, target_of, linked, going, branches, wanted, branch_if, branch, divide, exec}
use Rattle.power_machine.specs.Numbers.{numbers}
use Rattle.power_machine.specs.laws.Pairwise.{pairwise_at, pairwise_set, pairwise_over, pairwise_bytes, length-bytes_from, choice_related, put_related, pairwise_map, pairwise_same, lists_same}
use Rattle.power_machine.specs.laws.Related.{Pairwise, Known, Simulated, Related, Registers, Memories, AllowsMore, Confined, Match, Bytewise}

-- what both know takes both on
pub need_simulated :
    {X Y S T : Type 0} (Q : X → Y → Type 0) (R : S → T → Type 0) (o : Option X) (o' : Option Y) (reason : Reason)
    (go : X → Next S) (go' : Y → Next T) →
    Known Q o o' →
    ((x : X) (y : Y) → Q x y → Simulated R (go x) (go' y)) →
    Simulated R (need o reason go) (need o' reason go')
need_simulated Q R None o' reason go go' h k = tt
need_simulated Q R (Some x) None reason go go' h k = absurd h
need_simulated Q R (Some x) (Some y) reason go go' h k = k x y h

-- the same of one thing that both know
pub need_same :
    {X S T : Type 0} (R : S → T → Type 0) (o o' : Option X) (reason : Reason) (go : X → Next S) (go' : X → Next T) →
    Known (◌≡◌ {A = X}) o o' →
    ((x : X) → Simulated R (go x) (go' x)) →
    Simulated R (need o reason go) (need o' reason go')
need_same R o o' reason go go' h k =
    need_simulated _ R o o' reason go go' h (λ x y same. subst (λ z. Simulated R (go x) (go' z)) same (k x))

pub check_simulated :
    {S T : Type 0} (R : S → T → Type 0) (b c : Bool) (reason : Reason) (go : Next S) (go' : Next T) →
    (b ≡ true → c ≡ true) →
    (b ≡ true → Simulated R go go') →
    Simulated R (check b reason go) (check c reason go')
check_simulated R false c reason go go' h k = tt
check_simulated R true false reason go go' h k = absurd (true≢false (sym (h refl)))
check_simulated R true true reason go go' h k = k refl

same_known : {X : Type 0} (o : Option X) → Known (◌≡◌ {A = X}) o o
same_known None = tt
same_known (Some x) = refl

-- where the first goes on there is a state to which the second goes
pub went_simulated :
    {S T : Type 0} (R : S → T → Type 0) (next : Next S) (next' : Next T) (s : S) →
    Simulated R next next' →
    next ≡ Went s →
    (t : T) × (next' ≡ Went t) × R s t
went_simulated R (Left reason) next' s h w = cc
went_simulated R (Went u) (Left reason) s h w = absurd h
went_simulated R (Went u) (Went t) s h w = (t, refl, subst (λ z. R z t) (went_one u s w) h) where
  went_one : {S : Type 0} (a b : S) → ◌≡◌ {A = Next S} (Went a) (Went b) → a ≡ b
  went_one a b h = cc

module _ {V B T P V' B' T' P' : Type 0} {d : Domain V B T P} {e : Domain V' B' T' P'} {RV : V → V' → Type 0}
    {RB : B → B' → Type 0} {RT : T → T' → Type 0} {RP : P → P' → Type 0} (laws : Related d e RV RB RT RP)
    {MayRead MayWrite : ℕ → Type 0} {RR : List V → List V' → Type 0} (files : Registers RV MayRead MayWrite RR)
    {ps pt : Permission} {Loads Stores : Type 0} {RM : (ℕ → B) → (ℕ → B') → Type 0}
    (memories : Memories d e RV RB ps Loads Stores RM) (more : AllowsMore ps pt) where
  abbrev pub Matches : State V B T P → State V' B' T' P' → Type 0
  Matches s t = Match RT RP RR RM s t

  abbrev pub Simulates : Next (State V B T P) → Next (State V' B' T' P') → Type 0
  Simulates next next' = Simulated Matches next next'

  pub register_related : (xs : List V) (ys : List V') (r : ℕ) → MayRead r → RR xs ys → RV (register d xs r) (register e ys r)
  register_related xs ys r may h = files.get xs ys r (d.num 0) (e.num 0) may (laws.num 0) h

  pub operand_related :
      (s : State V B T P) (t : State V' B' T' P') (o : Operand) →
      ((r : ℕ) → IsRegister o r → MayRead r) →
      Matches s t →
      RV (value_of d s o) (value_of e t o)
  operand_related s t (Register r) may h = register_related s.registers t.registers r (may r refl) h.registers
  operand_related s t (Fixed n) may h = laws.num n
  operand_related s t (Here n) may h = laws.code (d.ahead s.at n) (e.ahead t.at n) (laws.ahead s.at t.at n h.at)

  pub field_related :
      (s : State V B T P) (t : State V' B' T' P') (field : ℕ) (us : List T) (vs : List T') →
      Matches s t →
      Pairwise RT us vs →
      Pairwise RT (with_field s.condition field us) (with_field t.condition field vs)
  field_related s t field us vs h q = pairwise_over RT s.condition t.condition (4 * field) us vs q h.condition

  pub result_matches :
      (size : ℕ) (s : State V B T P) (t : State V' B' T' P') (to : ℕ) (x : V) (y : V') (rc : Bool) →
      MayWrite to →
      Matches s t →
      RV x y →
      Matches (with_result d size s to x rc) (with_result e size t to y rc)
  result_matches size s t to x y rc may h r = record {
    at = laws.ahead s.at t.at size h.at;
    registers = files.set s.registers t.registers to x y may r h.registers;
    condition = choice_related (Pairwise RT) rc _ _ _ _
        (field_related s t 0 _ _ h (laws.compare Long Signed x (d.num 0) y (e.num 0) r (laws.num 0))) h.condition;
    byte = h.byte;
  }

  pub load_simulated :
      (size : ℕ) (s : State V B T P) (t : State V' B' T' P') (width : Width) (sign : Sign) (to a : ℕ) →
      Loads →
      MayWrite to →
      Matches s t →
      Simulates (load_at d size ps s width sign to a) (load_at e size pt t width sign to a)
  load_simulated size s t width sign to a loads may h =
      check_simulated Matches (ps Loading a (bytes_of width)) (pt Loading a (bytes_of width)) why.Load _ _
      (more.allowed Loading a (bytes_of width))
      (λ ok. result_matches size s t to _ _ false may h
      (laws.join width sign _ _ (length-bytes_from s.byte a (bytes_of width))
      (memories.loaded loads s.byte t.byte a (bytes_of width) ok h.byte)))

  pub updated_related :
      (xs : List V) (ys : List V') (update : Option ℕ) (a : ℕ) →
      ((r : ℕ) → Updates update r → MayWrite r) →
      RR xs ys →
      RR (updated d xs update a) (updated e ys update a)
  updated_related xs ys None a may h = h
  updated_related xs ys (Some r) a may h = files.set xs ys r (d.num a) (e.num a) (may r refl) (laws.num a) h

  pub store_simulated :
      (size : ℕ) (s : State V B T P) (t : State V' B' T' P') (width : Width) (from : ℕ) (update : Option ℕ) (a : ℕ) →
      Stores →
      MayRead from →
      ((r : ℕ) → Updates update r → MayWrite r) →
      Matches s t →
      Simulates (store_at d size ps s width from update a) (store_at e size pt t width from update a)
  store_simulated size s t width from update a stores may updates h =
      check_simulated Matches (ps Storing a (bytes_of width)) (pt Storing a (bytes_of width)) why.Store _ _
      (more.allowed Storing a (bytes_of width))
      (λ ok. record {
        at = laws.ahead s.at t.at size h.at;
        registers = updated_related s.registers t.registers update a updates h.registers;
        condition = h.condition;
        byte = memories.stored stores s.byte t.byte width a _ _ ok (register_related s.registers t.registers from may h.registers) h.byte;
      })

  pub address_simulated :
      (s : State V B T P) (t : State V' B' T' P') (base offset : Operand) (go : ℕ → Next (State V B T P))
      (go' : ℕ → Next (State V' B' T' P')) →
      ((r : ℕ) → IsRegister base r → MayRead r) →
      ((r : ℕ) → IsRegister offset r → MayRead r) →
      Matches s t →
      ((a : ℕ) → Simulates (go a) (go' a)) →
      Simulates (with_address d s base offset go) (with_address e t base offset go')
  address_simulated s t base offset go go' may may' h k =
      need_same Matches (d.number (value_of d s base)) (e.number (value_of e t base)) why.Value _ _
      (laws.number _ _ (operand_related s t base may h))
      (λ b. need_same Matches (d.number (value_of d s offset)) (e.number (value_of e t offset)) why.Value _ _
      (laws.number _ _ (operand_related s t offset may' h)) (λ o. k (sum_address b o)))

  pub target_related :
      (s : State V B T P) (t : State V' B' T' P') (xs : List V) (ys : List V') (target : BranchTarget) →
      ((r : ℕ) → GoesThrough target r → MayRead r) →
      Matches s t →
      RR xs ys →
      Known RP (target_of d s.at xs target) (target_of e t.at ys target)
  target_related s t xs ys (Ahead n) may h r = laws.ahead s.at t.at n h.at
  target_related s t xs ys (Through q) may h r = laws.place _ _ (register_related xs ys q (may q refl) r)

  linked_related :
      (xs : List V) (ys : List V') (p : P) (q : P') (link : Bool) →
      ((r : ℕ) → Links link r → MayWrite r) →
      RP p q →
      RR xs ys →
      RR (linked d xs p link) (linked e ys q link)
  linked_related xs ys p q true may h r = files.set xs ys link_register (d.code p) (e.code q) (may link_register refl) (laws.code p q h) r
  linked_related xs ys p q false may h r = r

  going_matches :
      (size : ℕ) (s : State V B T P) (t : State V' B' T' P') (xs : List V) (ys : List V') (link : Bool) (p : P)
      (q : P') →
      ((r : ℕ) → Links link r → MayWrite r) →
      Matches s t →
      RR xs ys →
      RP p q →
      Matches (going d size s xs link p) (going e size t ys link q)
  going_matches size s t xs ys link p q may h r there =
      record {
        at = there;
        registers = linked_related xs ys _ _ link may (laws.ahead s.at t.at size h.at) r;
        condition = h.condition;
        byte = h.byte;
      }

  branches_simulated :
      (size : ℕ) (s : State V B T P) (t : State V' B' T' P') (xs : List V) (ys : List V') (target : BranchTarget)
      (link taken : Bool) →
      ((r : ℕ) → GoesThrough target r → MayRead r) →
      ((r : ℕ) → Links link r → MayWrite r) →
      Matches s t →
      RR xs ys →
      Simulates (branches d size s xs target link taken) (branches e size t ys target link taken)
  branches_simulated size s t xs ys target link true may may' h r =
      need_simulated RP Matches (target_of d s.at xs target) (target_of e t.at ys target) why.Value _ _
      (target_related s t xs ys target may h r) (λ p q there. going_matches size s t xs ys link p q may' h r there)
  branches_simulated size s t xs ys target link false may may' h r =
      going_matches size s t xs ys link _ _ may' h r (laws.ahead s.at t.at size h.at)

  wanted_related :
      (s : State V B T P) (t : State V' B' T' P') (condition : Condition) →
      Matches s t →
      Known (◌≡◌ {A = Bool}) (wanted d s.condition condition) (wanted e t.condition condition)
  wanted_related s t Always h = refl
  wanted_related s t (Bit bit value) h =
      laws.bit _ _ (pairwise_at RT s.condition t.condition bit (d.flag false) (e.flag false) (laws.flag false) h.condition)

  branch_if_simulated :
      (size : ℕ) (s : State V B T P) (t : State V' B' T' P') (xs : List V) (ys : List V') (counted : Bool)
      (condition : Condition) (target : BranchTarget) (link : Bool) →
      ((r : ℕ) → GoesThrough target r → MayRead r) →
      ((r : ℕ) → Links link r → MayWrite r) →
      Matches s t →
      RR xs ys →
      Simulates (branch_if d size s xs counted condition target link) (branch_if e size t ys counted condition target link)
  branch_if_simulated size s t xs ys counted condition target link may may' h r =
      need_same Matches (wanted d s.condition condition) (wanted e t.condition condition) why.Value _ _
      (wanted_related s t condition h) (λ b. branches_simulated size s t xs ys target link (counted && met condition b) may may' h r)

  branch_simulated :
      (size : ℕ) (s : State V B T P) (t : State V' B' T' P') (counter : Counter) (condition : Condition)
      (target : BranchTarget) (link : Bool) →
      Confined MayRead MayWrite Loads Stores (Branch counter condition target link) →
      Matches s t →
      Simulates (branch d size s counter condition target link) (branch e size t counter condition target link)
  branch_simulated size s t Kept condition target link c h =
      branch_if_simulated size s t s.registers t.registers true condition target link (λ r g. c.reads r (inr g))
      (λ r l. c.writes r (inr l)) h h.registers
  branch_simulated size s t (Lowered is_zero) condition target link c h =
      need_same Matches (d.number (register d s.registers count_register))
      (e.number (register e t.registers count_register)) why.Value _ _
      (laws.number _ _ (register_related s.registers t.registers count_register (c.reads count_register (inl refl)) h.registers))
      (λ n. branch_if_simulated size s t _ _ (agrees (one_less n == 0) is_zero) condition target link
      (λ r g. c.reads r (inr g)) (λ r l. c.writes r (inr l)) h
      (files.set s.registers t.registers count_register _ _ (c.writes count_register (inl refl)) (laws.num (one_less n)) h.registers))

  divide_simulated :
      (size : ℕ) (s : State V B T P) (t : State V' B' T' P') (sign : Sign) (to : ℕ) (x y : V) (x' y' : V')
      (rc : Bool) →
      MayWrite to →
      Matches s t →
      RV x x' →
      RV y y' →
      Simulates (divide d size s sign to x y rc) (divide e size t sign to x' y' rc)
  divide_simulated size s t sign to x y x' y' rc may h r q =
      need_same Matches (d.number x) (e.number x') why.Value _ _ (laws.number x x' r)
      (λ a. need_same Matches (d.number y) (e.number y') why.Value _ _ (laws.number y y' q)
      (λ b. need_same Matches (quotient sign a b) (quotient sign a b) why.Divide _ _
      (same_known (quotient sign a b)) (λ n. result_matches size s t to _ _ rc may h (laws.num n))))

  -- What the first does the second does.
  pub exec_simulated :
      (size : ℕ) (op : Operation) (s : State V B T P) (t : State V' B' T' P') →
      Confined MayRead MayWrite Loads Stores op →
      Matches s t →
      Simulated (Match RT RP RR RM) (exec d size ps op s) (exec e size pt op t)
  exec_simulated size (Copy to from rc) s t c h =
      result_matches size s t to _ _ rc (c.writes to refl) h (operand_related s t from c.reads h)
  exec_simulated size (Calculate f to x y rc) s t c h =
      result_matches size s t to _ _ rc (c.writes to refl) h
      (laws.calculate f _ _ _ _ (operand_related s t x (λ r i. c.reads r (inl i)) h)
      (operand_related s t y (λ r i. c.reads r (inr i)) h))
  exec_simulated size (Divide sign to x y rc) s t c h =
      divide_simulated size s t sign to _ _ _ _ rc (c.writes to refl) h
      (operand_related s t x (λ r i. c.reads r (inl i)) h) (operand_related s t y (λ r i. c.reads r (inr i)) h)
  exec_simulated size (Compare field width sign x y) s t c h =
      record {
        at = laws.ahead s.at t.at size h.at;
        registers = h.registers;
        condition = field_related s t field _ _ h
            (laws.compare width sign _ _ _ _ (operand_related s t x (λ r i. c.reads r (inl i)) h)
            (operand_related s t y (λ r i. c.reads r (inr i)) h));
        byte = h.byte;
      }
  exec_simulated size (Load width sign to base offset) s t c h =
      address_simulated s t base offset _ _ (λ r i. c.reads r (inl i)) (λ r i. c.reads r (inr i)) h
      (λ a. load_simulated size s t width sign to a (c.loads refl) (c.writes to refl) h)
  exec_simulated size (Store width from base offset update) s t c h =
      address_simulated s t base offset _ _ (λ r i. c.reads r (inr (inl i))) (λ r i. c.reads r (inr (inr i))) h
      (λ a. store_simulated size s t width from update a (c.stores refl) (c.reads from (inl refl)) c.writes h)
  exec_simulated size (Branch counter condition target link) s t c h = branch_simulated size s t counter condition target link c h
  exec_simulated size System s t c h = tt

  -- Where the first goes on the second goes on, to a state that matches.
  pub exec_match :
      (size : ℕ) (op : Operation) (s s' : State V B T P) (t : State V' B' T' P') →
      Confined MayRead MayWrite Loads Stores op →
      Match RT RP RR RM s t →
      exec d size ps op s ≡ Went s' →
      (t' : State V' B' T' P') × (exec e size pt op t ≡ Went t') × Match RT RP RR RM s' t'
  exec_match size op s s' t c h w =
      went_simulated (Match RT RP RR RM) (exec d size ps op s) (exec e size pt op t) s' (exec_simulated size op s t c h) w

-- any register, and any load and store
pub unconfined : (op : Operation) → Confined (λ r. Unit {0}) (λ r. Unit {0}) (Unit {0}) (Unit {0}) op
unconfined op = record { reads = λ r h. tt; writes = λ r h. tt; loads = λ h. tt; stores = λ h. tt }

pub pairwise_registers : {V V' : Type 0} (RV : V → V' → Type 0) → Registers RV (λ r. Unit {0}) (λ r. Unit {0}) (Pairwise RV)
pairwise_registers RV =
    record { get = λ xs ys r x y may h k. pairwise_at RV xs ys r x y h k; set = λ xs ys r x y may h k. pairwise_set RV xs ys r x y h k }

pub bytewise_memories :
    {V B T P V' B' T' P' : Type 0} {d : Domain V B T P} {e : Domain V' B' T' P'} {RV : V → V' → Type 0}
    {RB : B → B' → Type 0} {RT : T → T' → Type 0} {RP : P → P' → Type 0} (laws : Related d e RV RB RT RP)
    (may : Permission) →
    Memories d e RV RB may (Unit {0}) (Unit {0}) (Bytewise RB)
bytewise_memories {RB} laws may = record {
  loaded = λ loads f g a count ok h. pairwise_bytes RB f g a count h;
  stored = λ stores f g width a x y ok r h. put_related RB f g a _ _ (laws.split width x y r) h;
  filled = λ stores f g a count bytes short ok h. put_related RB f g a _ _ (pairwise_map RB _ _ laws.byte bytes) h;
}

pub same_permission : (may : Permission) → AllowsMore may may
same_permission may = record { allowed = λ purpose at count h. h }

-- The same over all registers and all of memory: registers pairwise, and bytes at each address.
pub exec_related :
    {V B T P V' B' T' P' : Type 0} {d : Domain V B T P} {e : Domain V' B' T' P'} {RV : V → V' → Type 0}
    {RB : B → B' → Type 0} {RT : T → T' → Type 0} {RP : P → P' → Type 0} (laws : Related d e RV RB RT RP) (size : ℕ)
    (may : Permission) (op : Operation) (s s' : State V B T P) (t : State V' B' T' P') →
    Match RT RP (Pairwise RV) (Bytewise RB) s t →
    exec d size may op s ≡ Went s' →
    (t' : State V' B' T' P') × (exec e size may op t ≡ Went t') × Match RT RP (Pairwise RV) (Bytewise RB) s' t'
exec_related {RV} laws size may op s s' t h w =
    exec_match laws (pairwise_registers RV) (bytewise_memories laws may) (same_permission may) size op s s' t (unconfined op) h w

known_same : {X : Type 0} (o o' : Option X) → o ≡ o' → Known (◌≡◌ {A = X}) o o'
known_same {X} o o' h = subst (λ z. Known (◌≡◌ {A = X}) o z) h (same_known o)

-- Equality relates any kind of values to itself; so it does numbers.
pub equality_related : {V B T P : Type 0} (d : Domain V B T P) → Related d d (◌≡◌ {A = V}) (◌≡◌ {A = B}) (◌≡◌ {A = T}) (◌≡◌ {A = P})
equality_related d = record {
  num = λ n. refl;
  calculate = λ f x y x' y' h k. ap (λ z. d.calculate f z y) h ∙ ap (λ z. d.calculate f x' z) k;
  compare = λ width sign x y x' y' h k. pairwise_same _ _ (ap (λ z. d.compare width sign z y) h ∙ ap (λ z. d.compare width sign x' z) k);
  number = λ x y h. known_same _ _ (ap d.number h);
  bit = λ b c h. known_same _ _ (ap d.bit h);
  flag = λ b. refl;
  byte = λ n. refl;
  byte_number = λ x y h. known_same _ _ (ap d.byte_number h);
  join = λ width sign xs ys long r. ap (d.join width sign) (lists_same xs ys r);
  split = λ width x y h. pairwise_same _ _ (ap (d.split width) h);
  place = λ x y h. known_same _ _ (ap d.place h);
  code = λ p q h. ap d.code h;
  ahead = λ p q n h. ap (λ z. d.ahead z n) h;
}

pub numbers_related : Related numbers numbers (◌≡◌ {A = ℕ}) (◌≡◌ {A = ℕ}) (◌≡◌ {A = Bool}) (◌≡◌ {A = ℕ})
numbers_related = equality_related numbers
