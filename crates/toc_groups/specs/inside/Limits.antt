-- Data while it is laid out.
use Rattle.std.specs.Prelude.{ℕ, ◌≡◌, ◌≤◌, ◌⊎◌, List, nat_lt, Option, Some, Result, Ok, Err}
use Rattle.elf64_records.specs.First.{when}
use Rattle.object_set.specs.declared.refusal.Refusal.{Refusal}
use Rattle.object_set.specs.declared.refusal.Refusal.TheVariants.{DataTooBig, Memory}
use Rattle.toc_groups.specs.declared.extents.TheConstants.{DATA_END}
use Rattle.toc_groups.specs.Data.{read_only_end, groups_end, writable_end, zeroed_end}

-- a run that ends here passes the end of data
abbrev pub past_limit : ℕ → Option Refusal
past_limit end = when (nat_lt DATA_END end) DataTooBig

-- a refusal is for want of memory, or this one
abbrev pub Refusing : {A : Type 0} → Result A Refusal → Option Refusal → Type 0
Refusing (Ok a) refusal = Unit {0}
Refusing (Err r) refusal = (r ≡ Memory) ⊎ (refusal ≡ Some r)

-- the runs of sections end before data does
pub record FitsData (files : List (List ℕ)) (span : ℕ) : Type 0 where
  pub read_only : read_only_end files ≤ DATA_END
  pub groups : groups_end files span ≤ DATA_END
  pub writable : writable_end files span ≤ DATA_END
  pub zeroed : zeroed_end files span ≤ DATA_END
