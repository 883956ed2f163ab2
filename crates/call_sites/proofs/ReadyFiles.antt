-- What is kept of files by their numbers.
use Rattle.std.proofs.Common.{◌≡◌, ◌<◌, ℕ, List, length, ap, ◌∙◌, arith}
use Rattle.std.specs.List.{slice_index_or}
use Rattle.std.proofs.lemmas.List.FromFn.{length-map-range_with_len, get_or-map-range_with_len}
use Rattle.symbol_table.specs.inside.Fields.{FileOf}
use Rattle.call_sites.specs.inside.Ready.{file_of, files_of}

pub as_many : (files : List (List ℕ)) (kept : List FileOf) → kept ≡ files_of files → length kept ≡ length files
as_many files kept are = ap (λ (l : List FileOf). length l) are ∙ length-map-range_with_len (file_of files) 0 (length files)

pub kept_at : (files : List (List ℕ)) (kept : List FileOf) (k : ℕ) (d : FileOf) → kept ≡ files_of files → k < length files →
    slice_index_or kept k d ≡ file_of files k
kept_at files kept k d are within =
    ap (λ (l : List FileOf). slice_index_or l k d) are ∙ get_or-map-range_with_len (file_of files) 0 (length files) k k d within
    (omega arith)
