-- Jobs that are run without an image.
use Rattle.std.specs.Prelude.{ℕ, List}
use Rattle.pcrel_rewrite.specs.declared.text_pairs.TextPair.{TextPair}
use Rattle.toc_groups.specs.Plans.{LaidData}

-- the files of a job, their plan of data, and their recognised pairs
pub record PlainJob : Type 0 where
  pub files : List (List ℕ)
  pub plan : LaidData
  pub pairs : List TextPair
