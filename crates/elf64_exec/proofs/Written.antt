-- What was written is read back.
use Rattle.std.proofs.Common.{ℕ, zero, suc, ◌+◌, ◌*◌, ◌^◌, ◌≡◌, ◌<◌, ◌≤◌, inr, List, [], ◌∷◌, ◌++◌, length, get_or, take, drop, Option, Some, refl, sym, ap, ◌∙◌, subst, append_assoc, add-zero, zero-add, arith}
use Rattle.std.specs.List.{All, filter_map, cons_option, range_with_len}
use Rattle.std.proofs.lemmas.Bool.Decides.{nat_tests}
use Rattle.std.proofs.lemmas.List.{length-append}
use Rattle.ppc_bytes.specs.Bytes.{number_at}
use Rattle.elf64_exec.specs.declared.layout.Segment.{Segment}
use Rattle.elf64_exec.specs.Executable.{IsSound, IsImage, file_header, program_headers, contents, header_length, page_up, executable}
use Rattle.elf64_exec.specs.Loading.{e_phoff, header_start, p_type, p_offset, p_filesz, p_memsz, CanLoad, segment_of, segments_upto, Loads}
use Rattle.elf64_exec.proofs.Lengths.{length-headers, length-file_header}
use Rattle.elf64_exec.proofs.ReadHeaders.{segment_with, read_segment, some_of_load}
use Rattle.elf64_exec.proofs.WrittenHeaders.{IsFileHeader, file_header_says, Fits, IsProgramHeader, program_headers_say, offset_at}
use Rattle.elf64_exec.proofs.WrittenContents.{IsStored, contents_stored}

-- no offset is far behind the headers
offset_low : (end : ℕ) (segments : List Segment) (i : ℕ) →
    All IsSound segments →
    i < length segments →
    offset_at end segments i ≤ end + 0x10000 + 0x80000000 * i
offset_low end [] i sound within = absurd (omega arith)
offset_low end (s ∷ rest) zero sound within = omega arith
offset_low end (s ∷ rest) (suc i) sound within =
    let first = sound 0 s (omega arith) in
    let there = offset_low (page_up end + length s.bytes) rest i (λ k d h. sound (suc k) d (omega arith))
    (omega arith) in
    omega (arith, there, first.held, first.below)

-- a file that holds an entry and segments
record Holds (file : List ℕ) (entry : ℕ) (segments : List Segment) : Type 0 where
  header : IsFileHeader file entry (length segments)
  long_enough : header_length segments ≤ length file
  headers : (i : ℕ) (d : Segment) →
      i < length segments →
      IsProgramHeader file (64 + 56 * i) (offset_at (header_length segments) segments i) (get_or segments i d)
  stored : (i : ℕ) (d : Segment) →
      i < length segments →
      IsStored file (offset_at (header_length segments) segments i) (get_or segments i d).bytes

holds_written : (entry : ℕ) (segments : List Segment) →
    entry < 2 ^ 64 →
    All (λ (s : Segment). s.flags < 2 ^ 32) segments →
    IsImage segments →
    Holds (executable entry segments) entry segments
unfolding executable
holds_written entry segments entry_fits flags_fit image =
    let start = header_length segments in
    let first = file_header entry (length segments) in
    let second = program_headers start segments in
    let third = contents start segments in
    let few : length segments ≤ 3 = image.few in
    let size = length-headers entry segments in
    let joined : first ++ second ++ third ≡ first ++ (second ++ third) = append_assoc first second third in
    record {
      header = subst (λ (l : List ℕ). IsFileHeader l entry (length segments)) (sym joined)
          (file_header_says entry (length segments) (second ++ third) entry_fits (omega arith));
      long_enough = let longer = length-append (first ++ second) third in omega (arith, longer, size);
      headers = λ i d within.
          let sound = image.placed.sound i d within in
          let low = offset_low start segments i image.placed.sound within in
          let fits : Fits (offset_at start segments i) (get_or segments i d) = record {
            flags = flags_fit i d within;
            offset_fits = omega (arith, low);
            address = omega (arith, sound.below);
            stored = omega (arith, sound.held, sound.below);
            size = omega (arith, sound.below);
          } in
          let found = program_headers_say start 64 segments first third i d
          (length-file_header entry (length segments)) within fits in
          subst (λ (l : List ℕ). IsProgramHeader l (64 + 56 * i) (offset_at start segments i)
          (get_or segments i d)) (sym joined) found;
      stored = λ i d within. contents_stored start segments (first ++ second) i d size within;
    }

-- a program header by its number
numbered_header : (file : List ℕ) (i offset : ℕ) (s : Segment) →
    e_phoff file ≡ 64 →
    IsProgramHeader file (64 + 56 * i) offset s →
    IsProgramHeader file (header_start file i) offset s
numbered_header file i offset s start = subst (λ (at : ℕ). IsProgramHeader file (at + 56 * i) offset s) (sym start)

type_of_header : (file : List ℕ) (i offset : ℕ) (s : Segment) →
    IsProgramHeader file (header_start file i) offset s →
    p_type file i ≡ 1
type_of_header file i offset s h = ap (number_at 4 file) (sym (add-zero (header_start file i))) ∙ h.kind

same_segments : (f f' a a' : ℕ) (b b' : List ℕ) (s s' : ℕ) →
    f ≡ f' →
    a ≡ a' →
    b ≡ b' →
    s ≡ s' →
    segment_with f a b s ≡ segment_with f' a' b' s'
same_segments f f' a a' b b' s s' flags address bytes size = rw (flags, address, bytes, size) refl

-- numbers that each give the element with that number
filter_map-numbers : (f : ℕ → Option Segment) (xs : List Segment) (a : ℕ) →
    ((i : ℕ) (d : Segment) → i < length xs → f (a + i) ≡ Some (get_or xs i d)) →
    filter_map f (range_with_len a (length xs)) ≡ xs
filter_map-numbers f [] a each = refl
filter_map-numbers f (x ∷ xs) a each =
    let first : f a ≡ Some x = ap f (sym (add-zero a)) ∙ each 0 x (omega arith) in
    let rest = filter_map-numbers f xs (a + 1)
    (λ i d h. ap f (let e : a + 1 + i ≡ a + suc i = omega arith in e) ∙ each (suc i) d (omega arith)) in
    ap (λ o. cons_option o (filter_map f (range_with_len (a + 1) (length xs)))) first ∙ ap (λ l. x ∷ l) rest

module _ (file : List ℕ) (entry : ℕ) (segments : List Segment) (holds : Holds file entry segments)
    (image : IsImage segments) where
  at_header : (i : ℕ) (d : Segment) →
      i < length segments →
      IsProgramHeader file (header_start file i) (offset_at (header_length segments) segments i) (get_or segments i d)
  at_header i d within = numbered_header file i _ _ holds.header.headers_at (holds.headers i d within)

  can_load_written : (i : ℕ) (d : Segment) → i < length segments → CanLoad file i
  can_load_written i d within =
      let h = at_header i d within in
      let sound = image.placed.sound i d within in
      let stored = holds.stored i d within in
      record {
        inside = omega (arith, h.offset_is, h.stored, stored.inside);
        held = omega (arith, h.stored, h.size, sound.held);
        below = omega (arith, h.address, h.size, sound.below);
        after = λ j before load.
            let earlier = at_header j d (omega arith) in
            let apart = image.placed.apart j i d before within in
            omega (arith, apart, earlier.address, earlier.size, h.address);
      }

  segment_written : (i : ℕ) (d : Segment) → i < length segments → segment_of file i ≡ Some (get_or segments i d)
  segment_written i d within =
      let h = at_header i d within in
      let sound = image.placed.sound i d within in
      let stored = holds.stored i d within in
      let some = some_of_load (p_type file i) (p_memsz file i) (read_segment file i) (type_of_header file i _ _ h)
      (omega (arith, h.size, sound.some)) in
      let bytes : take (p_filesz file i) (drop (p_offset file i) file) ≡ (get_or segments i d).bytes =
      rw (h.stored, h.offset_is) stored.found in
      let same : read_segment file i ≡ get_or segments i d =
      same_segments _ _ _ _ _ _ _ _ h.flags h.address bytes h.size in
      some ∙ ap (λ s. Some s) same

  loads_held : Loads file entry segments
  loads_held =
      let dummy = segment_with 0 0 [] 0 in
      let h = holds.header in
      let few : length segments ≤ 3 = image.few in
      let some : 1 ≤ length segments = image.some in
      record {
        magic = grind (arith, nat_tests, holds.long_enough, h.magic);
        header = record {
          whole = omega (arith, holds.long_enough);
          machine = h.machine;
          executable = h.kind;
          abi = inr h.abi;
          header_size = h.header_size;
          some = omega (arith, h.count_is, some);
          inside = omega (arith, h.headers_at, h.count_is, holds.long_enough);
        };
        good = λ i within load. can_load_written i dummy (omega (arith, h.count_is));
        entry_is = sym h.entry_is;
        segments_are = sym (ap (segments_upto file) h.count_is ∙
            filter_map-numbers (segment_of file) segments 0
            (λ i d within. ap (segment_of file) (zero-add i) ∙ segment_written i d within));
      }

-- an executable loads as what it was made of
pub Loads-executable : (entry : ℕ) (segments : List Segment) →
    entry < 2 ^ 64 →
    All (λ (s : Segment). s.flags < 2 ^ 32) segments →
    IsImage segments →
    Loads (executable entry segments) entry segments
Loads-executable entry segments entry_fits flags_fit image =
    loads_held (executable entry segments) entry segments (holds_written entry segments entry_fits flags_fit image)
    image
