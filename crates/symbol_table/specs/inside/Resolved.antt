-- What is kept of files whose names are resolved.
use Rattle.std.specs.Prelude.{◌≡◌, ℕ, List, None, length}
use Rattle.object_set.specs.Refusals.{set_refusal}
use Rattle.symbol_table.specs.declared.candidates.Candidates.{Candidates}
use Rattle.symbol_table.specs.declared.commons.Commons.{Commons}
use Rattle.symbol_table.specs.Externals.{external_symbols, names_of}
use Rattle.symbol_table.specs.Candidates.{all_candidates}
use Rattle.symbol_table.specs.inside.Names.{AreAllNameNumbers}
use Rattle.symbol_table.specs.inside.Commons.{AreCommons}

-- names of files, their numbers, and what is said of each
pub record AreResolvedNames (files : List (List ℕ)) (candidates : List Candidates) (numbers : List (List ℕ)) (commons : Commons) : Type 0
  where
    pub whole : set_refusal files ≡ None
    pub candidates_are : candidates ≡ all_candidates files
    pub numbers_are : AreAllNameNumbers (names_of (external_symbols files)) files (length files) numbers
    pub commons_are : AreCommons (all_candidates files) commons

-- names and text sections of the same files, none of which is refused
pub record IsOfFiles (names texts : List (List ℕ)) : Type 0 where
  pub same : names ≡ texts
  pub whole : set_refusal texts ≡ None
