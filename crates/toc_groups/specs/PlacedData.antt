-- What holds of all data that isn't too big: its parts lie in its segments, one before the other, and text comes behind.
use Rattle.std.specs.Prelude.{◌≡◌, ℕ, ◌<◌, ◌≤◌, ◌%◌, ◌⊎◌, List, length}
use Rattle.elf64_exec.specs.declared.memory_map.TheConstants.{IMAGE_START, PAGE}
use Rattle.symbol_table.specs.declared.target.Piece.{Piece}
use Rattle.toc_groups.specs.declared.extents.TheConstants.{DATA_END}
use Rattle.toc_groups.specs.Data.{read_only_end, writable_start, commons_end, text_start, base_of, piece_address}
use Rattle.toc_groups.specs.Parts.{Part, Takes, IsPieceOf}

-- an address of a part lies in the segment that is only read or in the one that is written, below where data ends at the latest and below
-- text
pub record IsInSegment (files : List (List ℕ)) (span a : ℕ) : Type 0 where
  pub from : IMAGE_START ≤ a
  pub limit : a < DATA_END
  pub before_text : a < text_start files span
  pub segment : (a < read_only_end files) ⊎ ((writable_start files ≤ a) × (a < commons_end files span))

-- the segment that is only read comes first, and text begins at a page behind data; each address and base is low, also where it is that of
-- an empty piece
pub record IsPlacedData (files : List (List ℕ)) (span : ℕ) : Type 0 where
  pub segments : read_only_end files ≤ writable_start files
  pub text_page : text_start files span % PAGE ≡ 0
  pub text_from : IMAGE_START ≤ text_start files span
  pub text_limit : text_start files span ≤ DATA_END
  pub parts : (p : Part) (a : ℕ) → Takes files span p a → IsInSegment files span a
  pub pieces : (piece : Piece) → IsPieceOf files piece → piece_address files span piece < 0x60000000
  pub bases : (file : ℕ) → file < length files → base_of files span file < 0x60000000
