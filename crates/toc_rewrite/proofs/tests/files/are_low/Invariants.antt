use Rattle.std.proofs.Common.{ℕ, ◌<◌, slice_index}
use Rattle.toc_rewrite.specs.declared.laid.TheConstants.{ADDRESS_END}
use Rattle.toc_rewrite.proofs.tests.files.are_low.Given as goal

-- the first addresses are low
abbrev pub invariant-loop-address : goal.invariant-loop-address
invariant-loop-address l = (k : ℕ) → k < l.address-index → slice_index l.addresses k < ADDRESS_END
