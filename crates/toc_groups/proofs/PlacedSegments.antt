-- The segments of data are those of an executable, below text: the part that is only read, the part that is written behind it, text behind
-- both.
use Rattle.std.proofs.Common.{ℕ, suc, ◌≡◌, ◌<◌, ◌≤◌, ◌-◌, inl, inr, Bool, true, false, List, [], ◌∷◌, ◌++◌, length, get_or, nat_lt, None, sym, subst, refl, arith, if◌then◌else◌}
use Rattle.std.specs.List.{All}
use Rattle.std.proofs.Math.Seq.{get_or-append_seam}
use Rattle.std.proofs.lemmas.Bool.Decides.{nat_tests}
use Rattle.std.proofs.lemmas.List.{append-nil, length-append}
use Rattle.std.proofs.lemmas.List.Elements.{All-nil, All-push}
use Rattle.std.proofs.lemmas.List.FromFn.{length-map-range_with_len}
use Rattle.elf64_exec.specs.declared.layout.Segment.{Segment}
use Rattle.elf64_exec.specs.declared.memory_map.TheConstants.{IMAGE_START, READ_ONLY, WRITABLE}
use Rattle.elf64_exec.specs.Executable.{end_of, IsSound, ArePlaced, HasBytes, IsImage}
use Rattle.elf64_exec.specs.laws.Segments.{ArePlaced-nil, ArePlaced-push}
use Rattle.object_set.specs.Refusals.{set_refusal}
use Rattle.toc_groups.specs.Contents.{AreDataSegments, bytes_between, segment_of, data_segments}
use Rattle.toc_groups.specs.Data.{read_only_end, writable_start, writable_end, commons_end, text_start, data_refusal}
use Rattle.toc_groups.specs.PlacedSegments.{IsDataSegment, ArePlacedSegments}
use Rattle.toc_groups.proofs.DataLimits.{read_only_before_text, commons_before_text, image_before, page_whole}
use Rattle.toc_groups.proofs.Rooms.{data_low}
use Rattle.toc_groups.proofs.Running.{in_order}

some_bytes : (byte : ℕ → ℕ) (start stop : ℕ) → length (bytes_between byte start stop) ≡ stop - start
some_bytes byte start stop = length-map-range_with_len byte start (stop - start)

module _ (files : List (List ℕ)) (span : ℕ) where
  -- at most n segments of data in order, the last of which ends here at most
  record AreUpTo (n end : ℕ) (segments : List Segment) : Type 0 where
    few : length segments ≤ n
    placed : ArePlaced segments
    each : All (IsDataSegment files span) segments
    before : All (λ s. end_of s ≤ end) segments

  none_yet : (n end : ℕ) → AreUpTo n end []
  none_yet n end = record {
    few = omega arith;
    placed = ArePlaced-nil;
    each = All-nil (IsDataSegment files span);
    before = All-nil (λ s. end_of s ≤ end);
  }

  later : (n end more : ℕ) (segments : List Segment) → AreUpTo n end segments → end ≤ more → AreUpTo (suc n) more segments
  later n end more segments are order = record {
    few = omega (arith, are.few);
    placed = are.placed;
    each = are.each;
    before = λ k d within. omega (arith, are.before k d within, order);
  }

  one_more : (n end more : ℕ) (segments : List Segment) (s : Segment) → AreUpTo n end segments → IsSound s → IsDataSegment files span s →
      end ≤ s.address → end_of s ≤ more → AreUpTo (suc n) more (segments ++ s ∷ [])
  one_more n end more segments s are sound is from to = record {
    few = omega (arith, are.few, length-append segments (s ∷ []));
    placed = ArePlaced-push segments s are.placed sound (λ k d within. omega (arith, are.before k d within, from));
    each = All-push (IsDataSegment files span) segments s are.each is;
    before = All-push (λ t. end_of t ≤ more) segments s (λ k d within. omega (arith, are.before k d within, from, to)) to;
  }

  -- text behind them
  image_of : (end : ℕ) (segments : List Segment) → AreUpTo 2 end segments → end ≤ text_start files span → (text : Segment) → IsSound text →
      HasBytes text → text_start files span ≤ text.address → IsImage (segments ++ text ∷ [])
  image_of end segments are low text sound bytes from =
      let long = length-append segments (text ∷ []) in
      let last : length (segments ++ text ∷ []) - 1 ≡ length segments = omega (arith, long) in
      record {
        placed = ArePlaced-push segments text are.placed sound (λ k d within. omega (arith, are.before k d within, low, from));
        some = omega (arith, long);
        few = omega (arith, long, are.few);
        ends = λ d. subst (λ (k : ℕ). HasBytes (get_or (segments ++ text ∷ []) k d)) (sym last)
            (subst HasBytes (sym (get_or-append_seam segments text [] d)) bytes);
      }

  module _ (whole : set_refusal files ≡ None) (fits : data_refusal files span ≡ None) (byte : ℕ → ℕ) where
    read_only_case : (some : Bool) → nat_lt IMAGE_START (read_only_end files) ≡ some →
        AreUpTo 1 (read_only_end files) (if some then record {
          flags = READ_ONLY;
          address = IMAGE_START;
          bytes = bytes_between byte IMAGE_START (read_only_end files);
          size = read_only_end files - IMAGE_START;
        } ∷ [] else [])
    read_only_case false is = none_yet 1 (read_only_end files)
    read_only_case true is =
        let some : IMAGE_START < read_only_end files = grind (arith, nat_tests, is) in
        let long = some_bytes byte IMAGE_START (read_only_end files) in
        let order = in_order files span whole in
        let low = data_low files span whole fits in
        let limit : read_only_end files ≤ 0x40000000 =
        omega (arith, order.read_only, order.groups, order.writable, order.zeroed, order.commons, low) in
        one_more 0 IMAGE_START (read_only_end files) [] (record {
          flags = READ_ONLY;
          address = IMAGE_START;
          bytes = bytes_between byte IMAGE_START (read_only_end files);
          size = read_only_end files - IMAGE_START;
        }) (none_yet 0 IMAGE_START)
        (record { some = omega (arith, some); below = omega (arith, limit, some); held = omega (arith, long) }) (record {
          part = inl (record { flags = refl; start = refl; end = omega (arith, some); stored = long });
          page = refl;
          from = omega arith;
          before_text = omega (arith, some, read_only_before_text files span whole fits);
          short = omega (arith, limit);
        }) (omega arith) (omega (arith, some))

    writable_case : (segments : List Segment) (some : Bool) → AreUpTo 1 (read_only_end files) segments →
        nat_lt (writable_start files) (commons_end files span) ≡ some →
        AreUpTo 2 (text_start files span) (segments ++ (if some then record {
          flags = WRITABLE;
          address = writable_start files;
          bytes = bytes_between byte (writable_start files) (writable_end files span);
          size = commons_end files span - writable_start files;
        } ∷ [] else []))
    writable_case segments false are is =
        subst (AreUpTo 2 (text_start files span)) (sym (append-nil segments))
        (later 1 (read_only_end files) (text_start files span) segments are (read_only_before_text files span whole fits))
    writable_case segments true are is =
        let some : writable_start files < commons_end files span = grind (arith, nat_tests, is) in
        let long = some_bytes byte (writable_start files) (writable_end files span) in
        let order = in_order files span whole in
        let low = data_low files span whole fits in
        let text = commons_before_text files span whole fits some in
        one_more 1 (read_only_end files) (text_start files span) segments (record {
          flags = WRITABLE;
          address = writable_start files;
          bytes = bytes_between byte (writable_start files) (writable_end files span);
          size = commons_end files span - writable_start files;
        }) are
        (record {
          some = omega (arith, some);
          below = omega (arith, low, some);
          held = omega (arith, long, order.zeroed, order.commons);
        }) (record {
          part = inr (record {
            flags = refl;
            start = refl;
            end = omega (arith, some);
            stored = omega (arith, long, order.groups, order.writable);
          });
          page = page_whole (read_only_end files);
          from = omega (arith, image_before files whole, order.read_only);
          before_text = omega (arith, some, text);
          short = omega (arith, low);
        }) order.read_only (omega (arith, some, text))

    both : AreUpTo 2 (text_start files span) (data_segments files span byte)
    both = writable_case (segment_of READ_ONLY byte IMAGE_START (read_only_end files) (read_only_end files))
        (nat_lt (writable_start files) (commons_end files span)) (read_only_case (nat_lt IMAGE_START (read_only_end files)) refl) refl

  -- the segments are placed
  pub placed_segments : (text : List ℕ) (segments : List Segment) → set_refusal files ≡ None → data_refusal files span ≡ None →
      AreDataSegments files span text segments → ArePlacedSegments files span segments
  placed_segments text segments whole fits are =
      let these = both whole fits are.byte in
      subst (ArePlacedSegments files span) (sym are.are) (record {
        few = these.few;
        placed = these.placed;
        each = these.each;
        image = image_of (text_start files span) (data_segments files span are.byte) these (omega arith);
      })
