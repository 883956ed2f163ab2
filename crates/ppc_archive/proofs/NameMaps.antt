-- Names in the map of their first files.
use Rattle.std.proofs.Common.{◌≡◌, ℕ, Bool, true, false, List, Option, Some, None, cond, sym, ap, ◌∙◌, refl, subst}
use Rattle.std.specs.Str.{bytes_eq}
use Rattle.std.specs.HashMap.{UpdatesBy}
use Rattle.std.proofs.lemmas.Bool.{false_from_ne_true}
use Rattle.std.proofs.lemmas.Slice.Eq.{bytes_eq-Decides}
use Rattle.std.proofs.lemmas.Map.Text.{hash_map_updates_str}
use Rattle.elf64_records.specs.First.{◌orelse◌, when}
use Rattle.ppc_archive.specs.declared.names.Provider.{Provider}
use Rattle.ppc_archive.specs.inside.Givers.{ProviderMap, provider_in}

-- equal names, as a test and as a fact
pub same_names : (a b : List ℕ) → bytes_eq a b ≡ true → a ≡ b
same_names a b test = (bytes_eq-Decides a b).0 test

pub names_same : (a : List ℕ) → bytes_eq a a ≡ true
names_same a = (bytes_eq-Decides a a).1 refl

pub names_swap : (a b : List ℕ) → bytes_eq a b ≡ false → bytes_eq b a ≡ false
names_swap a b other =
    false_from_ne_true (bytes_eq b a) (λ same. let is : b ≡ a = same_names b a same in
    let this : bytes_eq a b ≡ true = subst (λ (n : List ℕ). bytes_eq a n ≡ true) (sym is) (names_same a) in cc)

noted_by : (m n : ProviderMap) (name other : List ℕ) (p : Provider) (t : Bool) → bytes_eq other name ≡ t → provider_in m name ≡ None →
    provider_in n other ≡ cond (bytes_eq name other) (Some p) (provider_in m other) →
    provider_in n other ≡ provider_in m other orelse when t p
noted_by m n name other p true same none read =
    let is : other ≡ name = same_names other name same in
    let before : provider_in m other ≡ None = ap (provider_in m) is ∙ none in
    let here : bytes_eq name other ≡ true = ap (bytes_eq name) is ∙ names_same name in
    read ∙ ap (λ (b : Bool). cond b (Some p) (provider_in m other)) here ∙ sym (ap (λ (o : Option Provider). o orelse Some p) before)
noted_by m n name other p false apart none read =
    let there : bytes_eq name other ≡ false = names_swap other name apart in
    read ∙ ap (λ (b : Bool). cond b (Some p) (provider_in m other)) there ∙ nothing_more (provider_in m other)
  where
    nothing_more : (o : Option Provider) → o ≡ o orelse None
    nothing_more None = refl
    nothing_more (Some q) = refl

-- a name that was new is noted
pub noted : (m n : ProviderMap) (name : List ℕ) (p : Provider) → provider_in m name ≡ None →
    UpdatesBy (λ x y. bytes_eq x.now y.now) (λ k. bytes_eq name k.now) m n (Some p) →
    (other : List ℕ) → provider_in n other ≡ provider_in m other orelse when (bytes_eq other name) p
noted m n name p none updates other =
    noted_by m n name other p (bytes_eq other name) refl none (hash_map_updates_str name m n (Some p) updates other)
