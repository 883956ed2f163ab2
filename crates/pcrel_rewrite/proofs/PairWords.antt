-- The words of a pair, from what is read of them.
use Rattle.std.proofs.Common.{◌≡◌, ◌≤◌, ◌+◌, ◌-◌, ◌*◌, ◌/◌, ℕ, List, length, sym, ap, ◌∙◌, subst, arith}
use Rattle.ppc_bytes.specs.Bytes.{number_at}
use Rattle.power_insns.specs.declared.uses.Access.TheVariants as memory
use Rattle.power_insns.specs.Operations.{operation_of}
use Rattle.power_insns.specs.Uses.{access_of}
use Rattle.pcrel_rewrite.specs.declared.words.ShortAccess.{ShortAccess}
use Rattle.pcrel_rewrite.specs.declared.words.Uses.{Uses}
use Rattle.pcrel_rewrite.specs.Words.{IsShortWord, LoadsAddress, IsAccess, IsPassed, IsNear, ArePairWords}
use Rattle.pcrel_rewrite.specs.inside.Words.{ArePassed}
use Rattle.pcrel_rewrite.specs.laws.Words.{one_register, one_access, one_use}

-- an access by another register
pub other_base : (word address : ℕ) (found : ShortAccess) → IsShortWord word found → (found.form.base ≡ address → ⊥) → (u : Uses) →
    ¬ IsAccess word address u
other_base word address found is other u = λ a.
    let same : a.access ≡ found = one_access word a.access found a.here is in
    other (ap (λ (s : ShortAccess). s.form.base) (sym same) ∙ a.base_is)

-- a store of the register that holds the address
pub own_store : (word address : ℕ) (found : ShortAccess) → IsShortWord word found →
    access_of (operation_of found.insn) ≡ memory.Store → found.form.register ≡ address → (u : Uses) → ¬ IsAccess word address u
own_store word address found is store own u = λ a.
    let same : a.access ≡ found = one_access word a.access found a.here is in
    let access : u.access ≡ memory.Store =
    ap (λ (v : Uses). v.access) a.uses_is ∙ ap (λ (s : ShortAccess). access_of (operation_of s.insn)) same ∙ store in
    let register : u.register ≡ address =
    ap (λ (v : Uses). v.register) a.uses_is ∙ ap (λ (s : ShortAccess). s.form.register) same ∙ own in
    a.other access register

module _ (bytes : List ℕ) (head tail prefix suffix : ℕ) (prefix_is : prefix ≡ number_at 4 bytes head)
    (suffix_is : suffix ≡ number_at 4 bytes (head + 4)) where
  loads_here : (pair : ArePairWords bytes head tail) → LoadsAddress prefix suffix pair.address
  loads_here pair =
      subst (λ (w : ℕ). LoadsAddress w suffix pair.address) (sym prefix_is)
      (subst (λ (w : ℕ). LoadsAddress (number_at 4 bytes head) w pair.address) (sym suffix_is) pair.loads)

  -- no address is loaded
  pub no_load : ((r : ℕ) → ¬ LoadsAddress prefix suffix r) → ¬ ArePairWords bytes head tail
  no_load none = λ pair. none pair.address (loads_here pair)

  module _ (address word : ℕ) (loads : LoadsAddress prefix suffix address) (word_is : word ≡ number_at 4 bytes tail) where
    access_here : (pair : ArePairWords bytes head tail) → IsAccess word address pair.uses
    access_here pair =
        let same : pair.address ≡ address = one_register prefix suffix pair.address address (loads_here pair) loads in
        subst (λ (w : ℕ). IsAccess w address pair.uses) (sym word_is)
        (subst (λ (a : ℕ). IsAccess (number_at 4 bytes tail) a pair.uses) same pair.access)

    -- nothing is accessed by it
    pub no_access : ((u : Uses) → ¬ IsAccess word address u) → ¬ ArePairWords bytes head tail
    no_access none = λ pair. none pair.uses (access_here pair)

    -- the words between tell whether they are a pair's
    pub pair_from : (uses : Uses) → IsAccess word address uses → IsNear head tail → tail + 4 ≤ length bytes →
        ArePassed bytes (head + 8) ((tail - head - 8) / 4) uses → ArePairWords bytes head tail
    pair_from uses access near within passed = record {
      near = near;
      within = within;
      address = address;
      loads = subst (λ (w : ℕ). LoadsAddress (number_at 4 bytes head) w address) suffix_is
          (subst (λ (w : ℕ). LoadsAddress w suffix address) prefix_is loads);
      uses = uses;
      access = subst (λ (w : ℕ). IsAccess w address uses) word_is access;
      between = λ k before. passed k (omega (arith, near.aligned, near.least));
    }

    pub pair_passes : (uses : Uses) → IsAccess word address uses → ArePairWords bytes head tail →
        ArePassed bytes (head + 8) ((tail - head - 8) / 4) uses
    pair_passes uses access pair = λ k before.
        let same : pair.uses ≡ uses = one_use word address pair.uses uses (access_here pair) access in
        let near = pair.near in
        subst (λ (u : Uses). IsPassed u (number_at 4 bytes (head + 8 + 4 * k))) same
        (pair.between k (omega (arith, near.aligned, near.least)))
