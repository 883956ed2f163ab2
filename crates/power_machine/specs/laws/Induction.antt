-- Two machines of which the second follows the first, with both numbers of steps bounded by one another.
use Rattle.std.proofs.Common.{◌≡◌, ◌≤◌, ℕ, zero, suc, ◌+◌, ◌*◌, refl, sym, subst, arith, mul-add}

-- so many steps, one behind the other
abbrev pub Steps : {S : Type 0} → (S → S → Type 0) → ℕ → S → S → Type 0
Steps Step zero s s' = s ≡ s'
Steps Step (suc n) s s' = (u : _) × Step s u × Steps Step n u s'

-- What the second does while the first takes so many steps. `waited` and `waits` are the steps that the first has taken since the
-- second last
-- moved, before and after; `Sim` relates the states at such a number. Each step of the first allows `fast` of the second, each of the
-- second
-- `slow` of the first, and the second waits for no more than `most`.
pub record Follows {S T : Type 0} (fast slow most : ℕ) (Step : T → T → Type 0) (Sim : ℕ → S → T → Type 0)
    (waited steps : ℕ) (s : S) (t : T) : Type 0 where
  pub count : ℕ
  pub waits : ℕ
  pub new : T
  pub runs : Steps Step count t new
  pub sim : Sim waits s new
  pub not_more : count + fast * waits ≤ fast * (waited + steps)
  pub not_less : waited + steps ≤ slow * count + waits
  pub few : waits ≤ most

pub steps_append : {S : Type 0} (Step : S → S → Type 0) (n m : ℕ) (s u v : S) → Steps Step n s u → Steps Step m u v → Steps Step (n + m) s v
steps_append Step zero m s u v h k =
    let e : m ≡ 0 + m = omega arith in
    subst (λ n. Steps Step n s v) e (subst (λ z. Steps Step m z v) (sym h) k)
steps_append Step (suc n) m s u v (w, first, rest) k =
    let e : suc (n + m) ≡ suc n + m = omega arith in
    subst (λ n. Steps Step n s v) e (w, first, steps_append Step n m w u v rest k)

pub step_after : {S : Type 0} (Step : S → S → Type 0) (n : ℕ) (s u v : S) → Steps Step n s u → Step u v → Steps Step (suc n) s v
step_after Step zero s u v h k = (v, subst (λ z. Step z v) (sym h) k, refl)
step_after Step (suc n) s u v (w, first, rest) k = (w, first, step_after Step n w u v rest k)

more_steps :
    (fast count count' waited n waits waits' : ℕ) →
    count + fast * waits ≤ fast * (waited + 1) →
    count' + fast * waits' ≤ fast * (waits + n) →
    count + count' + fast * waits' ≤ fast * (waited + suc n)
more_steps fast count count' waited n waits waits' h k =
    let e : fast * (waited + 1) ≡ fast * waited + fast * 1 = mul-add fast waited 1 in
    let f : fast * (waits + n) ≡ fast * waits + fast * n = mul-add fast waits n in
    let g : fast * (waited + (1 + n)) ≡ fast * waited + fast * (1 + n) = mul-add fast waited (1 + n) in
    let i : fast * (1 + n) ≡ fast * 1 + fast * n = mul-add fast 1 n in
    omega (arith, h, k, e, f, g, i)

less_steps :
    (slow count count' waited n waits waits' : ℕ) →
    waited + 1 ≤ slow * count + waits →
    waits + n ≤ slow * count' + waits' →
    waited + suc n ≤ slow * (count + count') + waits'
less_steps slow count count' waited n waits waits' h k =
    let e : slow * (count + count') ≡ slow * count + slow * count' = mul-add slow count count' in
    omega (arith, h, k, e)

module _ {S T : Type 0} (First : S → S → Type 0) (Second : T → T → Type 0) (Sim : ℕ → S → T → Type 0) (fast slow most : ℕ) where
  -- what one step of the first does to the second
  abbrev pub OneStep : Type 0
  OneStep = (waited : ℕ) (s s' : S) (t : T) → waited ≤ most → Sim waited s t → First s s' → Follows fast slow most Second Sim waited 1 s' t

  -- so does each number of steps
  pub steps_followed :
      OneStep →
      (n waited : ℕ) (s s' : S) (t : T) →
      waited ≤ most →
      Sim waited s t →
      Steps First n s s' →
      Follows fast slow most Second Sim waited n s' t
  steps_followed law zero waited s s' t few sim h = record {
    count = 0;
    waits = waited;
    new = t;
    runs = refl;
    sim = subst (λ u. Sim waited u t) h sim;
    not_more = omega arith;
    not_less = omega arith;
    few = few;
  }
  steps_followed law (suc n) waited s s' t few sim (u, first, rest) =
      let a = law waited s u t few sim first in
      let b = steps_followed law n a.waits u s' a.new a.few a.sim rest in
      record {
        count = a.count + b.count;
        waits = b.waits;
        new = b.new;
        runs = steps_append Second a.count b.count t a.new b.new a.runs b.runs;
        sim = b.sim;
        not_more = more_steps fast a.count b.count waited n a.waits b.waits a.not_more b.not_more;
        not_less = less_steps slow a.count b.count waited n a.waits b.waits a.not_less b.not_less;
        few = b.few;
      }

  -- Where the second waits for nothing at the start, m steps of it follow n of the first with m ≤ fast * n and n ≤ slow * m + most.
  pub both_bounds :
      OneStep →
      (n : ℕ) (s s' : S) (t : T) →
      Sim 0 s t →
      Steps First n s s' →
      (m : ℕ) × (waits : ℕ) × (t' : T) × Steps Second m t t' × Sim waits s' t' × (m ≤ fast * n) × (n ≤ slow * m + most)
  both_bounds law n s s' t sim h =
      let f = steps_followed law n 0 s s' t (omega arith) sim h in
      let e : 0 + n ≡ n = omega arith in
      let more : f.count + fast * f.waits ≤ fast * n = subst (λ k. f.count + fast * f.waits ≤ fast * k) e f.not_more in
      (f.count, f.waits, f.new, f.runs, f.sim, omega (arith, more), omega (arith, f.not_less, f.few))
