-- Kinds by their numbers.
use Rattle.std.proofs.Common.{◌≡◌, ◌≢◌, ℕ, Bool, true, false, cond, eqb, List, [], ◌∷◌, Option, None, Some, subst, refl, arith}
use Rattle.std.specs.List.{find}
use Rattle.std.proofs.lemmas.Bool.Decides.{nat_tests}
use Rattle.reloc_fields.specs.declared.kind.Kind.{Kind}
use Rattle.reloc_fields.specs.declared.kind.Kind.TheVariants as kind
use Rattle.reloc_fields.specs.Table.{line_of}
use Rattle.symbol_table.specs.Fields.{all_kinds, kind_numbered}

-- a kind is the one that has its number
pub number_kind : (k : Kind) → kind_numbered (line_of k).number ≡ Some k
unfolding kind_numbered
number_kind = elim [ kind.None ↦ refl | _ ↦ refl ]

pub kind_found : (number : ℕ) (k : Kind) → (line_of k).number ≡ number → kind_numbered number ≡ Some k
kind_found number k is = subst (λ n. kind_numbered n ≡ Some k) is (number_kind k)

-- what is found has the number
found_case : (number : ℕ) (x k : Kind) (rest : Option Kind) (same : Bool) → eqb (line_of x).number number ≡ same →
    (rest ≡ Some k → (line_of k).number ≡ number) →
    cond same (Some x) rest ≡ Some k → (line_of k).number ≡ number
found_case number x k rest true test later found =
    let here : x ≡ k = cc in
    subst (λ y. (line_of y).number ≡ number) here (grind (arith, nat_tests, test))
found_case number x k rest false test later found = later found

found_in : (kinds : List Kind) (number : ℕ) (k : Kind) → find (λ y. eqb (line_of y).number number) kinds ≡ Some k →
    (line_of k).number ≡ number
found_in [] number k found = cc
found_in (x ∷ kinds) number k found =
    found_case number x k (find (λ y. eqb (line_of y).number number) kinds) (eqb (line_of x).number number) refl
    (found_in kinds number k) found

pub kind_number : (number : ℕ) (k : Kind) → kind_numbered number ≡ Some k → (line_of k).number ≡ number
unfolding kind_numbered
kind_number number k found = found_in all_kinds number k found

-- a number that is no kind's has none
pub no_kind : (number : ℕ) → ((k : Kind) → (line_of k).number ≢ number) → kind_numbered number ≡ None
no_kind number none =
    elim (kind_numbered number) as (λ o. kind_numbered number ≡ o → o ≡ None) [
      | None ↦ λ _. refl
      | Some k ↦ λ found. absurd (none k (kind_number number k found))
    ] refl
