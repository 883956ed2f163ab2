-- Runs of pieces of data: they lie one behind the other, each at its alignment (ELF64, "Section Header": sh_addralign). An empty
-- piece has an address, and what follows lies as if it weren't there.
use Rattle.std.specs.Prelude.{ℕ, ◌+◌, ◌≤◌, List, ◌==◌, fold, take, if◌then◌else◌}
use Rattle.std.specs.List.{slice_index_or}
use Rattle.ppc_bytes.specs.Bytes.{IsPowerOfTwo}
use Rattle.layout_rounds.specs.Shapes.{aligned}
use Rattle.toc_groups.specs.declared.extents.Extent.{Extent}

-- where a piece lies that comes behind what ends here
abbrev pub placed : ℕ → Extent → ℕ
placed end piece = aligned end piece.align

-- where what is laid out ends with that piece
abbrev pub behind : ℕ → Extent → ℕ
behind end piece = if piece.size == 0 then end else placed end piece + piece.size

-- where a run ends that begins here
abbrev pub run_end : ℕ → List Extent → ℕ
run_end start pieces = fold behind start pieces

abbrev pub no_piece : Extent
no_piece = record { size = 0; align = 1 }

-- where piece k of the run lies
abbrev pub run_place : ℕ → List Extent → ℕ → ℕ
run_place start pieces k = placed (run_end start (take k pieces)) (slice_index_or pieces k no_piece)

-- an alignment that a piece of data may have
pub record IsFitExtent (piece : Extent) : Type 0 where
  pub power : IsPowerOfTwo piece.align
  pub most : piece.align ≤ 0x10000
