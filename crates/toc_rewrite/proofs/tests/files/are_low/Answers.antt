-- returns: so are all, and past the end there are none.
use Rattle.std.proofs.Common.{◌<◌, ◌≤◌, ℕ, zero, suc, List, [], ◌∷◌, length, slice_index, arith, inl, inr}
use Rattle.std.proofs.lemmas.Bool.{cases_lt}
use Rattle.toc_rewrite.specs.declared.laid.TheConstants.{ADDRESS_END}
use Rattle.toc_rewrite.proofs.tests.files.are_low.Goals as goal

past : (xs : List ℕ) (k : ℕ) → length xs ≤ k → slice_index xs k < ADDRESS_END
past [] k over = omega arith
past (x ∷ xs) zero over = absurd (omega arith)
past (x ∷ xs) (suc k) over = past xs k (omega arith)

pub returns : goal.returns
returns c = λ true k.
    elim (cases_lt k (length c.args.addresses.now)) [
      | inl less ↦ c.loop-address.invariant k (omega (arith, less))
      | inr over ↦ past c.args.addresses.now k over
    ]
