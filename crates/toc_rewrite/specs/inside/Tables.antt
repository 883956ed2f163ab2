-- Records while they are walked.
use Rattle.std.specs.Prelude.{ℕ, Bool, true, false, List}
use Rattle.object_set.specs.declared.places.RecordId.{RecordId}
use Rattle.reloc_fields.specs.declared.kind.Kind.{Kind}
use Rattle.reloc_fields.specs.declared.kind.Kind.TheVariants.{Toc16Ha, Toc16Lo, Toc16LoDs}
use Rattle.toc_rewrite.specs.Records.{kind_of, word_at}
use Rattle.toc_rewrite.specs.Folds.{is_unsuited}

-- a relocation of which the word is looked at
abbrev pub is_toc_user : Kind → Bool
is_toc_user Toc16Ha = true
is_toc_user Toc16Lo = true
is_toc_user Toc16LoDs = true
is_toc_user other = false

-- a record stands on a word on which an orderly file has none of its kind
abbrev pub is_unsuited_record : List (List ℕ) → RecordId → Bool
is_unsuited_record files r = is_unsuited (kind_of files r) (word_at files r)
