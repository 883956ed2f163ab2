-- The segments of an executable: those of data, and that of text (ELF64, "Program Header").
use Rattle.std.specs.Prelude.{ℕ, ◌≤◌, List, [], ◌∷◌, ◌++◌, length}
use Rattle.elf64_exec.specs.declared.memory_map.TheConstants.{TEXT}
use Rattle.elf64_exec.specs.declared.layout.Segment.{Segment}
use Rattle.elf64_exec.specs.Executable.{IsSound, HasBytes, IsImage}

-- text is read and executed
abbrev pub text_segment : ℕ → List ℕ → Segment
text_segment start text = record { flags = TEXT; address = start; bytes = text; size = length text }

-- text comes last
abbrev pub image_segments : List Segment → ℕ → List ℕ → List Segment
image_segments parts start text = parts ++ text_segment start text ∷ []

-- with a segment of text behind them, at an address or above it, segments are those of an executable
abbrev pub TakeText : ℕ → List Segment → Type 0
TakeText start segments =
    (text : Segment) → IsSound text → HasBytes text → start ≤ text.address → IsImage (segments ++ text ∷ [])
