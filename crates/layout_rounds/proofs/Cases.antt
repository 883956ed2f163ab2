-- Cases of two numbers.
use Rattle.std.proofs.Common.{ℕ, suc, ◌≡◌, ◌≢◌, ◌<◌, ◌≤◌, ◌+◌, ◌⊎◌, arith}

pub same_or_other : (a b : ℕ) → (a ≡ b) ⊎ (a ≢ b)
same_or_other a b = grind arith

pub below_or_same : (a b : ℕ) → a ≤ b → (a < b) ⊎ (a ≡ b)
below_or_same a b le = grind arith

pub below_or_last : (j n : ℕ) → j < suc n → (j < n) ⊎ (j ≡ n)
below_or_last j n lt = grind arith

pub upto_or_next : (m n : ℕ) → m ≤ suc n → (m ≤ n) ⊎ (m ≡ suc n)
upto_or_next m n le = grind arith

pub split : (i n : ℕ) → i < n + 1 → (i < n) ⊎ (i ≡ n)
split i n lt = grind arith
