-- What a link rewrites of the text of files (ELFv2 ABI, 3.3 "TOC"; "Relocation Descriptions": R_PPC64_GOT_PCREL34, R_PPC64_PCREL_OPT).
use Rattle.std.specs.Prelude.{ℕ, Bool, true, false, List, [], length, map}
use Rattle.std.specs.List.{range_with_len}
use Rattle.object_set.specs.declared.places.RecordId.{RecordId}
use Rattle.toc_groups.specs.Data.{base_of, piece_addresses}
use Rattle.toc_rewrite.specs.Laid.{LaidFiles, laid_files}
use Rattle.toc_rewrite.specs.Folds.{is_orderly, slot_records}
use Rattle.pcrel_rewrite.specs.declared.text_pairs.TextPair.{TextPair}

-- which files have their high and low halves rewritten, the slots that loads leave out, each told by the record that fills it, the
-- loads and accesses of which one instruction is made, and whether a load of a near address from its slot becomes a sum
pub record Rewriting : Type 0 where
  pub orderly : ℕ → Bool
  pub slots : List RecordId
  pub pairs : List TextPair
  pub sums : Bool

-- nothing
abbrev pub no_rewriting : Rewriting
no_rewriting = record { orderly = λ file. false; slots = []; pairs = []; sums = false }

-- files with the addresses of their data, laid out with a TOC span
abbrev pub laid_by : List (List ℕ) → ℕ → LaidFiles
laid_by files span = laid_files files (map (base_of files span) (range_with_len 0 (length files))) (piece_addresses files span)

-- all that may be, where these are the recognised pairs
abbrev pub rewriting_of : List (List ℕ) → ℕ → List TextPair → Rewriting
rewriting_of files span pairs =
    record { orderly = is_orderly files; slots = slot_records (laid_by files span); pairs = pairs; sums = true }
