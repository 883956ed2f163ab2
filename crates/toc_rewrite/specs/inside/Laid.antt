-- Files whose data has addresses, while they are read.
use Rattle.std.specs.Prelude.{◌≡◌, ℕ, ◌<◌, ◌≤◌, ◌^◌, List, length, map, Option, None, IfSome, slice_index}
use Rattle.std.specs.List.{range_with_len}
use Rattle.object_set.specs.Walks.{section_walk, index_of, all_items}
use Rattle.symbol_table.specs.declared.target.Piece.{Piece}
use Rattle.symbol_table.specs.declared.target.Piece.TheVariants.{Section, Common}
use Rattle.symbol_table.specs.declared.target.Target.{Target}
use Rattle.symbol_table.specs.declared.target.Target.TheVariants.{Data, Code, Number, TocBase, WeakNone}
use Rattle.symbol_table.specs.Records.{records_refusal}
use Rattle.toc_rewrite.specs.declared.laid.Firsts.{Firsts}
use Rattle.symbol_table.specs.inside.Fields.{FileOf}
use Rattle.toc_rewrite.specs.Laid.{LaidFiles, HasAddresses}

-- how many sections come before those of each file, and before all commons
pub record AreFirsts (files : List (List ℕ)) (firsts : Firsts) : Type 0 where
  pub items : firsts.items.items ≡ map (λ file. index_of section_walk files file 0) (range_with_len 0 (length files))
  pub commons : firsts.commons ≡ length (all_items section_walk files)
  pub low : (k : ℕ) → slice_index firsts.items.items k ≤ 2 ^ 44

-- the files have addresses, none of their records is refused, and these are the places of their sections
pub record IsLaid (laid : LaidFiles) (firsts : Firsts) : Type 0 where
  pub whole : records_refusal laid.files ≡ None
  pub addresses : HasAddresses laid
  pub firsts_are : AreFirsts laid.files firsts

-- the file of a piece, and of a target, is one of the files
abbrev pub IsPieceOf : List (List ℕ) → Piece → Type 0
IsPieceOf files (Section file i) = file < length files
IsPieceOf files (Common c) = Unit {0}

abbrev pub IsTargetOf : List (List ℕ) → Target → Type 0
IsTargetOf files (Data piece addend) = IsPieceOf files piece
IsTargetOf files (Code section offset) = Unit {0}
IsTargetOf files (Number n) = Unit {0}
IsTargetOf files (TocBase file addend) = file < length files
IsTargetOf files (WeakNone addend) = Unit {0}

-- a file of these files
pub record IsFileOf (of : FileOf) (files : List (List ℕ)) (file : ℕ) : Type 0 where
  pub files_are : of.files ≡ files
  pub file_is : of.file ≡ file

-- where prologues are found they are those of a file of these files
pub record AreAsked (files : List (List ℕ)) (file : ℕ) (found : Option FileOf) : Type 0 where
  pub file_in : file < length files
  pub found_are : IfSome found (λ p. p ≡ record { files = files; file = file })
