-- Files come to one choice: the same members, or the same refusal.
use Rattle.std.proofs.Common.{◌≡◌, ℕ, ◌+◌, inl, inr, Bool, true, false, List, [], ◌∷◌, ◌++◌, length, Some, None, refl, sym, ap, ◌∙◌}
use Rattle.std.specs.Prelude.{map, Result, Ok, Err, if◌then◌else◌}
use Rattle.std.specs.Option.{option_map}
use Rattle.ppc_archive.specs.Archive.{MemberFacts}
use Rattle.ppc_archive.specs.Choice.{Pool, IsChoice}
use Rattle.ppc_archive.specs.Expand.{NamedFile, NamedRefusal, named_refusal, named_member, candidates_in, objects_in, pool_of_files, kept_from, replaced, expanded_from, IsExpansion, IsJob, count_refusal, ChoosesTo}

same_test : (a b : Bool) → (a ≡ true → b ≡ true) → (b ≡ true → a ≡ true) → a ≡ b
same_test true true there back = refl
same_test true false there back = sym (there refl)
same_test false true there back = back refl
same_test false false there back = refl

-- there is one choice
pub one_choice : (pool : Pool) (F G : ℕ → Bool) → IsChoice pool F → IsChoice pool G → (c : ℕ) → F c ≡ G c
one_choice pool F G f g c = same_test (F c) (G c) (f.least G g.closed c) (g.least F f.closed c)

module _ (F G : ℕ → Bool) (same : (c : ℕ) → F c ≡ G c) where
  same_kept : (n : ℕ) (members : List MemberFacts) → kept_from F n members ≡ kept_from G n members
  same_kept n [] = refl
  same_kept n (m ∷ members) =
      ap (λ (b : Bool). if b then m ∷ kept_from F (n + 1) members else kept_from F (n + 1) members) (same n)
      ∙ ap (λ (l : List MemberFacts). if G n then m ∷ l else l) (same_kept (n + 1) members)

  same_expanded : (n : ℕ) (files : List NamedFile) → expanded_from F n files ≡ expanded_from G n files
  same_expanded n [] = refl
  same_expanded n (f ∷ files) =
      ap (λ (l : List MemberFacts). (objects_in f ++ map (named_member f.name) l) ++ expanded_from F (n + length (candidates_in f)) files)
      (same_kept n (candidates_in f))
      ∙ ap (λ (l : List NamedFile). replaced G n f ++ l) (same_expanded (n + length (candidates_in f)) files)

-- so files have one job
pub one_expansion : (files : List NamedFile) (entry : List ℕ) (job other : List NamedFile) → IsExpansion files entry job →
    IsExpansion files entry other → job ≡ other
one_expansion files entry job other a b =
    sym a.is ∙ same_expanded a.chosen b.chosen (one_choice (pool_of_files files entry) a.chosen b.chosen a.choice b.choice) 0 files ∙ b.is

module _ (files : List NamedFile) (entry : List ℕ) where
  same_refusal : (one other : NamedRefusal) → ChoosesTo files entry (Err one) → ChoosesTo files entry (Err other) → one ≡ other
  same_refusal one other (inl a) (inl b) = cc
  same_refusal one other (inl a) (inr b) = let none = b.passes in cc
  same_refusal one other (inr a) (inl b) = let none = a.passes in cc
  same_refusal one other (inr a) (inr b) =
      let job = one_expansion files entry a.job b.job a.is b.is in
      let both : Some one ≡ Some other =
      sym a.count ∙ ap (λ (l : List NamedFile). option_map (named_refusal []) (count_refusal entry (length l))) job ∙ b.count in
      cc

  not_both : (job : List NamedFile) (refusal : NamedRefusal) → IsJob files entry job → ChoosesTo files entry (Err refusal) → ⊥
  not_both job refusal a (inl b) = let none = a.passes in cc
  not_both job refusal a (inr b) =
      let same = one_expansion files entry job b.job a.is b.is in
      let none : None ≡ Some refusal =
      sym (ap (option_map (named_refusal [])) a.count)
      ∙ ap (λ (l : List NamedFile). option_map (named_refusal []) (count_refusal entry (length l))) same ∙ b.count in
      cc

  -- files come to one thing alone
  pub chooses_once : (one other : Result (List NamedFile) NamedRefusal) → ChoosesTo files entry one →
      ChoosesTo files entry other → one ≡ other
  chooses_once (Err one) (Err other) a b = ap Err (same_refusal one other a b)
  chooses_once (Err one) (Ok other) a b = absurd (not_both other one b a)
  chooses_once (Ok one) (Err other) a b = absurd (not_both one other a b)
  chooses_once (Ok one) (Ok other) a b = ap Ok (one_expansion files entry one other a.is b.is)
