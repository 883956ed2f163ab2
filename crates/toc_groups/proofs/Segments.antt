-- The segments of data from what memory holds.
use Rattle.std.proofs.Common.{ℕ, ◌≡◌, List, [], ◌++◌, ap, ◌∙◌}
use Rattle.elf64_exec.specs.declared.layout.Segment.{Segment}
use Rattle.elf64_exec.specs.declared.memory_map.TheConstants.{IMAGE_START, READ_ONLY, WRITABLE}
use Rattle.toc_groups.specs.declared.pieces.DataEnds.{DataEnds}
use Rattle.toc_groups.specs.Contents.{HoldsData, AreDataSegments, bytes_between}
use Rattle.toc_groups.specs.Data.{read_only_end, writable_start, writable_end}
use Rattle.toc_groups.specs.Plans.{data_ends}
use Rattle.toc_groups.specs.inside.Filled.{segment}
use Rattle.toc_groups.specs.inside.Memory.{TwoParts, byte_of}

module _ (files : List (List ℕ)) (span : ℕ) (text : List ℕ) where
  -- segments of the bytes of both parts
  pub segments_are : (m : TwoParts) (ends : DataEnds) (first second : List ℕ) (list list' list'' : List Segment) → m.ends ≡ ends →
      ends ≡ data_ends files span → HoldsData files span text (byte_of m) → first ≡ bytes_between (byte_of m) IMAGE_START m.ends.read_only →
      second ≡ bytes_between (byte_of m) m.ends.writable_start m.ends.writable → list ≡ [] →
      list' ≡ list ++ segment READ_ONLY first IMAGE_START ends.read_only →
      list'' ≡ list' ++ segment WRITABLE second ends.writable_start ends.commons → AreDataSegments files span text list''
  segments_are m ends first second list list' list'' same are holds first_is second_is none one two =
      let all = same ∙ are in
      let byte = byte_of m in
      let bytes : first ≡ bytes_between byte IMAGE_START (read_only_end files) =
      first_is ∙ ap (λ (e : DataEnds). bytes_between byte IMAGE_START e.read_only) all in
      let bytes' : second ≡ bytes_between byte (writable_start files) (writable_end files span) =
      second_is ∙ ap (λ (e : DataEnds). bytes_between byte e.writable_start e.writable) all in
      let front : list' ≡ segment READ_ONLY (bytes_between byte IMAGE_START (read_only_end files)) IMAGE_START (read_only_end files) =
      one ∙ ap (λ (l : List Segment). l ++ segment READ_ONLY first IMAGE_START ends.read_only) none
      ∙ ap (λ (b : List ℕ). segment READ_ONLY b IMAGE_START ends.read_only) bytes
      ∙ ap (λ (e : DataEnds). segment READ_ONLY (bytes_between byte IMAGE_START (read_only_end files)) IMAGE_START e.read_only) are in
      record {
        byte = byte;
        holds = holds;
        are = two ∙ ap (λ (l : List Segment). l ++ segment WRITABLE second ends.writable_start ends.commons) front
            ∙ ap (λ (b : List ℕ). segment READ_ONLY (bytes_between byte IMAGE_START (read_only_end files)) IMAGE_START (read_only_end files)
            ++ segment WRITABLE b ends.writable_start ends.commons) bytes'
            ∙ ap (λ (e : DataEnds). segment READ_ONLY (bytes_between byte IMAGE_START (read_only_end files)) IMAGE_START
            (read_only_end files)
            ++ segment WRITABLE (bytes_between byte (writable_start files) (writable_end files span)) e.writable_start e.commons) are;
      }
