-- Related runs make the same calls: the same events, the same answers and input taken, and the same end.
use Rattle.std.proofs.Common.{◌≡◌, ◌⊎◌, ◌≤◌, ℕ, zero, suc, Bool, true, false, ◌||◌, ◌==◌, cond, List, [], ◌∷◌, ◌++◌, length, map, take, drop, Option, Some, None, inl, inr, ⊎_elim, refl, sym, ap, ◌∙◌, subst, arith}
use Rattle.std.proofs.lemmas.List.{length-take}
use Rattle.std.proofs.lemmas.Bool.Decides.{nat_tests}
use Rattle.power_insns.specs.declared.meaning.Operation.{Operation}
use Rattle.power_insns.specs.declared.meaning.Operation.TheVariants.{Copy, Calculate, Divide, Compare, Load, Store, Branch, System}
use Rattle.power_machine.specs.declared.memory.Purpose.{Purpose}
use Rattle.power_machine.specs.declared.memory.Purpose.TheVariants.{Loading, Storing}
use Rattle.power_machine.specs.declared.reason.Reason.{Reason}
use Rattle.power_machine.specs.declared.reason.Reason.TheVariants as why
use Rattle.power_machine.specs.declared.world.Answer.{Answer}
use Rattle.power_machine.specs.declared.world.Answer.TheVariants.{Whole, Short, Error}
use Rattle.power_machine.specs.Memory.{Permission, allows_range, bytes_from, put}
use Rattle.power_machine.specs.Machines.{Domain, State, Next, Went, Left, exec}
use Rattle.power_machine.specs.Calls.{Run, Asked, first_answer, granted, is_error, result_of, event_of, with_number, number_in, numbers_in, after_call, answered, after_read, asking, read_by, reads, write_by, writes, exits, call_by, calls}
use Rattle.power_machine.specs.Runs.{is_call, next_of, operates}
use Rattle.power_machine.specs.laws.Related.{Pairwise, Known, Simulated, Related, Registers, Memories, AllowsMore, Confined, Match, MatchRuns, Bytewise}
use Rattle.power_machine.specs.laws.Pairwise.{pairwise_set, pairwise_take, take-bytes_from}
use Rattle.power_machine.specs.laws.Simulation.{need_same, check_simulated, exec_simulated, unconfined, pairwise_registers, bytewise_memories, same_permission}

granted-le : (a : Answer) (n : ℕ) → granted a n ≤ n
granted-le Whole n = omega arith
granted-le (Short k) n = omega arith
granted-le (Error e) n = omega arith

not_zero : (n : ℕ) → (suc n == 0) ≡ false
not_zero n = grind (arith, nat_tests)

-- a range that is allowed has no bytes, or is permitted
allowed_range : (count : ℕ) (b : Bool) → (count == 0 || b) ≡ true → (count ≡ 0) ⊎ (b ≡ true)
allowed_range zero b h = inl refl
allowed_range (suc n) b h = inr (subst (λ z. (z || b) ≡ true) (not_zero n) h)

more_ranges : (empty b c : Bool) → (b ≡ true → c ≡ true) → (empty || b) ≡ true → (empty || c) ≡ true
more_ranges true b c h k = refl
more_ranges false b c h k = h k

-- no bytes change nothing
pub put_nothing : {B : Type 0} (f : ℕ → B) (a : ℕ) → put f a [] ≡ f
put_nothing f a = λ i x. no_byte f a x i where
  no_byte : {B : Type 0} (f : ℕ → B) (a x : ℕ) → put f a [] x ≡ f x
  no_byte f a x = grind (arith, nat_tests)

numbers_known :
    (o o' : Option ℕ) (l l' : Option (List ℕ)) →
    Known (◌≡◌ {A = ℕ}) o o' →
    Known (◌≡◌ {A = List ℕ}) l l' →
    Known (◌≡◌ {A = List ℕ}) (with_number o l) (with_number o' l')
numbers_known None o' l l' h k = tt
numbers_known (Some n) None l l' h k = absurd h
numbers_known (Some n) (Some m) None l' h k = tt
numbers_known (Some n) (Some m) (Some xs) None h k = absurd k
numbers_known (Some n) (Some m) (Some xs) (Some ys) h k = ap (λ z. z ∷ xs) h ∙ ap (λ zs. m ∷ zs) k

module _ {V B T P V' B' T' P' : Type 0} {d : Domain V B T P} {e : Domain V' B' T' P'} {RV : V → V' → Type 0}
    {RB : B → B' → Type 0} {RT : T → T' → Type 0} {RP : P → P' → Type 0} (laws : Related d e RV RB RT RP)
    {MayRead MayWrite : ℕ → Type 0} {RR : List V → List V' → Type 0} (files : Registers RV MayRead MayWrite RR)
    {ps pt : Permission} {Loads Stores : Type 0} {RM : (ℕ → B) → (ℕ → B') → Type 0}
    (memories : Memories d e RV RB ps Loads Stores RM) (more : AllowsMore ps pt) where
  abbrev pub RunsMatch : Run V B T P → Run V' B' T' P' → Type 0
  RunsMatch r q = MatchRuns RT RP RR RM r q

  number_related :
      (r : Run V B T P) (q : Run V' B' T' P') (i : ℕ) →
      MayRead i →
      RunsMatch r q →
      Known (◌≡◌ {A = ℕ}) (number_in d r i) (number_in e q i)
  number_related r q i may h =
      laws.number _ _ (files.get r.state.registers q.state.registers i (d.num 0) (e.num 0) may (laws.num 0) h.state.registers)

  numbers_related : (xs : List B) (ys : List B') → Pairwise RB xs ys → Known (◌≡◌ {A = List ℕ}) (numbers_in d xs) (numbers_in e ys)
  numbers_related [] [] h = refl
  numbers_related [] (y ∷ ys) h = absurd h
  numbers_related (x ∷ xs) [] h = absurd h
  numbers_related (x ∷ xs) (y ∷ ys) h =
      numbers_known (d.byte_number x) (e.byte_number y) (numbers_in d xs) (numbers_in e ys)
      (laws.byte_number x y h.0) (numbers_related xs ys h.1)

  after_matches :
      (s : State V B T P) (t : State V' B' T' P') (a : Answer) (count : ℕ) (f : ℕ → B) (g : ℕ → B') →
      MayWrite 3 →
      Match RT RP RR RM s t →
      RM f g →
      Match RT RP RR RM (after_call d s a count f) (after_call e t a count g)
  after_matches s t a count f g may h m = record {
    at = laws.ahead s.at t.at 4 h.at;
    registers = files.set s.registers t.registers 3 (d.num (result_of a count)) (e.num (result_of a count)) may
        (laws.num (result_of a count)) h.registers;
    condition = pairwise_set RT s.condition t.condition 3 (d.flag (is_error a)) (e.flag (is_error a)) (laws.flag (is_error a)) h.condition;
    byte = m;
  }

  answered_matches :
      (r : Run V B T P) (q : Run V' B' T' P') (k : Asked) (a : Answer) (bytes input input' : List ℕ)
      (s : State V B T P) (t : State V' B' T' P') →
      RunsMatch r q →
      input ≡ input' →
      Match RT RP RR RM s t →
      RunsMatch (answered d r k a bytes input s) (answered e q k a bytes input' t)
  answered_matches r q k a bytes input input' s t h given m = record {
    state = m;
    input = given;
    answers = ap (drop 1) h.answers;
    events = ap (λ events. events ++ event_of k a bytes ∷ []) h.events;
    ended = h.ended;
  }

  -- the bytes that a read gives, where its range is allowed
  filled_related :
      (f : ℕ → B) (g : ℕ → B') (k : Asked) (bytes : List ℕ) →
      Stores →
      length bytes ≤ k.length →
      allows_range ps Storing k.address k.length ≡ true →
      RM f g →
      RM (put f k.address (map d.byte bytes)) (put g k.address (map e.byte bytes))
  filled_related f g k [] stores short ok h =
      subst (λ m. RM (put f k.address []) m) (sym (put_nothing g k.address)) (subst (λ m. RM m g) (sym (put_nothing f k.address)) h)
  filled_related f g k (b ∷ bytes) stores short ok h =
      ⊎_elim
      (λ none. absurd (omega arith))
      (λ permitted. memories.filled stores f g k.address k.length (b ∷ bytes) short permitted h)
      (allowed_range k.length (ps Storing k.address k.length) ok)

  -- the bytes that a write takes, where its range is allowed
  taken_related :
      (f : ℕ → B) (g : ℕ → B') (k : Asked) (count : ℕ) →
      Loads →
      count ≤ k.length →
      allows_range ps Loading k.address k.length ≡ true →
      RM f g →
      Pairwise RB (bytes_from f k.address count) (bytes_from g k.address count)
  taken_related f g k zero loads le ok h = tt
  taken_related f g k (suc n) loads le ok h =
      ⊎_elim
      (λ none. absurd (omega arith))
      (λ permitted.
      let all = pairwise_take RB (suc n) (bytes_from f k.address k.length) (bytes_from g k.address k.length)
      (memories.loaded loads f g k.address k.length permitted h) in
      subst (λ ys. Pairwise RB (bytes_from f k.address (suc n)) ys) (take-bytes_from g k.address (suc n) k.length le)
      (subst (λ xs. Pairwise RB xs (take (suc n) (bytes_from g k.address k.length))) (take-bytes_from f k.address (suc n) k.length le) all))
      (allowed_range k.length (ps Loading k.address k.length) ok)

  asking_simulated :
      (purpose : Purpose) (reason : Reason) (number : ℕ) (r : Run V B T P) (q : Run V' B' T' P')
      (go : Asked → Next (Run V B T P)) (go' : Asked → Next (Run V' B' T' P')) →
      ((i : ℕ) → (i ≡ 3) ⊎ (i ≡ 4) ⊎ (i ≡ 5) → MayRead i) →
      RunsMatch r q →
      ((k : Asked) → allows_range ps purpose k.address k.length ≡ true → Simulated RunsMatch (go k) (go' k)) →
      Simulated RunsMatch (asking d ps purpose reason number r go) (asking e pt purpose reason number q go')
  asking_simulated purpose reason number r q go go' may h k =
      need_same RunsMatch (number_in d r 4) (number_in e q 4) why.Value _ _ (number_related r q 4 (may 4 (inr (inl refl))) h)
      (λ address. need_same RunsMatch (number_in d r 5) (number_in e q 5) why.Value _ _ (number_related r q 5 (may 5 (inr (inr refl))) h)
      (λ count. check_simulated RunsMatch (allows_range ps purpose address count) (allows_range pt purpose address count) reason _ _
      (more_ranges (count == 0) (ps purpose address count) (pt purpose address count) (more.allowed purpose address count))
      (λ ok. need_same RunsMatch (number_in d r 3) (number_in e q 3) why.Value _ _ (number_related r q 3 (may 3 (inl refl)) h)
      (λ descriptor. k (record { number = number; descriptor = descriptor; address = address; length = count }) ok))))

  read_simulated :
      (r : Run V B T P) (q : Run V' B' T' P') (a : Answer) (k : Asked) →
      Stores →
      MayWrite 3 →
      RunsMatch r q →
      allows_range ps Storing k.address k.length ≡ true →
      Simulated RunsMatch (read_by d r a k) (read_by e q a k)
  read_simulated r q a k stores may h ok =
      let count = granted a k.length in
      let bytes = take count r.input in
      let short : length bytes ≤ k.length = omega (arith, granted-le a k.length, length-take count r.input) in
      let m = filled_related r.state.byte q.state.byte k bytes stores short ok h.state.byte in
      let s = after_matches r.state q.state a (length bytes) _ _ may h.state m in
      let done = answered_matches r q k a bytes (drop count r.input) (drop count q.input) _ _ h (ap (drop count) h.input) s in
      subst (λ given. RunsMatch (after_read d r k a bytes) (after_read e q k a given)) (ap (take count) h.input) done

  write_simulated :
      (r : Run V B T P) (q : Run V' B' T' P') (a : Answer) (k : Asked) →
      Loads →
      MayWrite 3 →
      RunsMatch r q →
      allows_range ps Loading k.address k.length ≡ true →
      Simulated RunsMatch (write_by d r a k) (write_by e q a k)
  write_simulated r q a k loads may h ok =
      let count = granted a k.length in
      let taken = taken_related r.state.byte q.state.byte k count loads (granted-le a k.length) ok h.state.byte in
      need_same RunsMatch (numbers_in d (bytes_from r.state.byte k.address count))
      (numbers_in e (bytes_from q.state.byte k.address count)) why.Value _ _ (numbers_related _ _ taken)
      (λ bytes. answered_matches r q k a bytes r.input q.input _ _ h h.input
      (after_matches r.state q.state a count _ _ may h.state h.state.byte))

  reads_simulated :
      (r : Run V B T P) (q : Run V' B' T' P') →
      Stores →
      ((i : ℕ) → (i ≡ 3) ⊎ (i ≡ 4) ⊎ (i ≡ 5) → MayRead i) →
      MayWrite 3 →
      RunsMatch r q →
      Simulated RunsMatch (reads d ps r) (reads e pt q)
  reads_simulated r q stores may write h =
      let a = first_answer r.answers in
      subst (λ b. Simulated RunsMatch (reads d ps r) (asking e pt Storing why.Store 3 q (read_by e q b))) (ap first_answer h.answers)
      (asking_simulated Storing why.Store 3 r q (read_by d r a) (read_by e q a) may h (λ k ok. read_simulated r q a k stores write h ok))

  writes_simulated :
      (r : Run V B T P) (q : Run V' B' T' P') →
      Loads →
      ((i : ℕ) → (i ≡ 3) ⊎ (i ≡ 4) ⊎ (i ≡ 5) → MayRead i) →
      MayWrite 3 →
      RunsMatch r q →
      Simulated RunsMatch (writes d ps r) (writes e pt q)
  writes_simulated r q loads may write h =
      let a = first_answer r.answers in
      subst (λ b. Simulated RunsMatch (writes d ps r) (asking e pt Loading why.Load 4 q (write_by e q b))) (ap first_answer h.answers)
      (asking_simulated Loading why.Load 4 r q (write_by d r a) (write_by e q a) may h (λ k ok. write_simulated r q a k loads write h ok))

  exits_simulated : (r : Run V B T P) (q : Run V' B' T' P') → MayRead 3 → RunsMatch r q → Simulated RunsMatch (exits d r) (exits e q)
  exits_simulated r q may h =
      need_same RunsMatch (number_in d r 3) (number_in e q 3) why.Value _ _ (number_related r q 3 may h)
      (λ n. record { state = h.state; input = h.input; answers = h.answers; events = h.events; ended = refl })

  either_simulated :
      (b : Bool) (n m : Next (Run V B T P)) (n' m' : Next (Run V' B' T' P')) →
      Simulated RunsMatch n n' →
      Simulated RunsMatch m m' →
      Simulated RunsMatch (cond b n m) (cond b n' m')
  either_simulated true n m n' m' h k = h
  either_simulated false n m n' m' h k = k

  number_simulated :
      (r : Run V B T P) (q : Run V' B' T' P') (number : ℕ) →
      Loads →
      Stores →
      ((i : ℕ) → (i ≡ 3) ⊎ (i ≡ 4) ⊎ (i ≡ 5) → MayRead i) →
      MayWrite 3 →
      RunsMatch r q →
      Simulated RunsMatch (call_by d ps r number) (call_by e pt q number)
  number_simulated r q number loads stores may write h =
      either_simulated (number == 1 || number == 234) (exits d r) _ (exits e q) _ (exits_simulated r q (may 3 (inl refl)) h)
      (either_simulated (number == 3) (reads d ps r) _ (reads e pt q) _ (reads_simulated r q stores may write h)
      (either_simulated (number == 4) (writes d ps r) (Left why.Call) (writes e pt q) (Left why.Call)
      (writes_simulated r q loads may write h) tt))

  -- What the first run calls the second calls.
  pub calls_simulated :
      (r : Run V B T P) (q : Run V' B' T' P') →
      Loads →
      Stores →
      Confined MayRead MayWrite Loads Stores System →
      RunsMatch r q →
      Simulated (MatchRuns RT RP RR RM) (calls d ps r) (calls e pt q)
  calls_simulated r q loads stores c h =
      need_same RunsMatch (number_in d r 0) (number_in e q 0) why.Value _ _ (number_related r q 0 (c.reads 0 (inl refl)) h)
      (λ number. number_simulated r q number loads stores (λ i is. c.reads i (inr is)) (c.writes 3 refl) h)

  next_simulated :
      (r : Run V B T P) (q : Run V' B' T' P') (n : Next (State V B T P)) (n' : Next (State V' B' T' P')) →
      RunsMatch r q →
      Simulated (Match RT RP RR RM) n n' →
      Simulated RunsMatch (next_of r n) (next_of q n')
  next_simulated r q (Left reason) n' h m = tt
  next_simulated r q (Went s) (Left reason) h m = absurd m
  next_simulated r q (Went s) (Went t) h m = record { state = m; input = h.input; answers = h.answers; events = h.events; ended = h.ended }

  other_simulated :
      (size : ℕ) (op : Operation) (r : Run V B T P) (q : Run V' B' T' P') →
      Confined MayRead MayWrite Loads Stores op →
      RunsMatch r q →
      Simulated RunsMatch (next_of r (exec d size ps op r.state)) (next_of q (exec e size pt op q.state))
  other_simulated size op r q c h =
      next_simulated r q (exec d size ps op r.state) (exec e size pt op q.state) h
      (exec_simulated laws files memories more size op r.state q.state c h.state)

  -- What an operation, a call among them, does to the first run it does to the second.
  pub operates_simulated :
      (size : ℕ) (op : Operation) (r : Run V B T P) (q : Run V' B' T' P') →
      (is_call op ≡ true → Loads) →
      (is_call op ≡ true → Stores) →
      Confined MayRead MayWrite Loads Stores op →
      MatchRuns RT RP RR RM r q →
      Simulated (MatchRuns RT RP RR RM) (operates d ps r size op) (operates e pt q size op)
  operates_simulated size System r q loads stores c h = calls_simulated r q (loads refl) (stores refl) c h
  operates_simulated size (Copy to from rc) r q loads stores c h = other_simulated size (Copy to from rc) r q c h
  operates_simulated size (Calculate f to x y rc) r q loads stores c h = other_simulated size (Calculate f to x y rc) r q c h
  operates_simulated size (Divide sign to x y rc) r q loads stores c h = other_simulated size (Divide sign to x y rc) r q c h
  operates_simulated size (Compare field width sign x y) r q loads stores c h = other_simulated size (Compare field width sign x y) r q c h
  operates_simulated size (Load width sign to base offset) r q loads stores c h =
      other_simulated size (Load width sign to base offset) r q c h
  operates_simulated size (Store width from base offset update) r q loads stores c h =
      other_simulated size (Store width from base offset update) r q c h
  operates_simulated size (Branch counter condition target link) r q loads stores c h =
      other_simulated size (Branch counter condition target link) r q c h

-- The same over all registers and all of memory: registers pairwise, and bytes at each address.
pub operates_related :
    {V B T P V' B' T' P' : Type 0} {d : Domain V B T P} {e : Domain V' B' T' P'} {RV : V → V' → Type 0}
    {RB : B → B' → Type 0} {RT : T → T' → Type 0} {RP : P → P' → Type 0} (laws : Related d e RV RB RT RP) (size : ℕ)
    (may : Permission) (op : Operation) (r : Run V B T P) (q : Run V' B' T' P') →
    MatchRuns RT RP (Pairwise RV) (Bytewise RB) r q →
    Simulated (MatchRuns RT RP (Pairwise RV) (Bytewise RB)) (operates d may r size op) (operates e may q size op)
operates_related {RV} laws size may op r q h =
    operates_simulated laws (pairwise_registers RV) (bytewise_memories laws may) (same_permission may) size op r q
    (λ is. tt) (λ is. tt) (unconfined op) h
