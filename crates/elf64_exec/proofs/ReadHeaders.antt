-- What the reader knows after so many program headers.
use Rattle.std.proofs.Common.{ℕ, ◌+◌, ◌*◌, ◌≡◌, ◌≢◌, ◌<◌, ◌≤◌, ◌⊎◌, ⊎_elim, inl, inr, ◌==◌, ◌&&◌, if◌then◌else◌, nat_lt, List, [], ◌∷◌, ◌++◌, length, take, drop, Option, Some, None, refl, sym, ap, zero-add, ◌∙◌, subst, arith}
use Rattle.std.specs.List.{filter_map, cons_option, range_with_len}
use Rattle.std.specs.Option.{option_to_list}
use Rattle.std.proofs.lemmas.List.{append-nil, map-id}
use Rattle.std.proofs.lemmas.List.FromFn.{map-range_with_len_more}
use Rattle.std.proofs.lemmas.List.Elements.{filter_map-append}
use Rattle.std.proofs.lemmas.Bool.{cases_lt}
use Rattle.std.proofs.lemmas.Bool.Decides.{nat_tests}
use Rattle.ppc_bytes.specs.Bytes.{number_at}
use Rattle.ppc_bytes.specs.Elf.{HasMagic}
use Rattle.elf64_exec.specs.declared.layout.Segment.{Segment}
use Rattle.elf64_exec.specs.declared.layout.ExecFault.TheVariants.{BadSegment}
use Rattle.elf64_exec.specs.declared.reading.ProgramHeader.{ProgramHeader}
use Rattle.elf64_exec.specs.inside.Headers.{IsHeaderAt, CanFollow}
use Rattle.elf64_exec.specs.Loading.{header_start, p_type, p_flags, p_vaddr, p_memsz, e_phoff, e_phnum, IsLoad, load_end, CanLoad, IsGood, IsExecHeader, HasFault, loaded_bytes, segment_of, segments_upto}

-- all headers below i are good, top is the greatest end of their memory, and these are their segments
pub record ReadSoFar (file : List ℕ) (i top : ℕ) (segments : List Segment) : Type 0 where
  pub good : (j : ℕ) → j < i → IsGood file j
  pub above : (j : ℕ) → j < i → IsLoad file j → load_end file j ≤ top
  pub latest : (top ≡ 0) ⊎ ((j : ℕ) × (j < i) × IsLoad file j × (top ≡ load_end file j))
  pub low : top ≤ 0x70000000
  pub segments_are : segments ≡ segments_upto file i

pub none_read : (file : List ℕ) → ReadSoFar file 0 0 []
none_read file = record {
  good = λ j h. absurd (omega arith);
  above = λ j h. absurd (omega arith);
  latest = inl refl;
  low = omega arith;
  segments_are = refl;
}

-- what holds below i and at i holds below i + 1
below_next : (P : ℕ → Type 0) (i : ℕ) → ((j : ℕ) → j < i → P j) → P i → (j : ℕ) → j < i + 1 → P j
below_next P i below here j h =
    ⊎_elim (λ lt. below j lt) (λ le. subst P (let e : i ≡ j = omega arith in e) here) (cases_lt j i)

range_more : (a n : ℕ) → range_with_len a (n + 1) ≡ range_with_len a n ++ (a + n) ∷ []
range_more a n =
    sym (map-id (range_with_len a (n + 1))) ∙ map-range_with_len_more (λ x. x) a n (a + n) refl
    ∙ ap (λ xs. xs ++ (a + n) ∷ []) (map-id (range_with_len a n))

cons_option-nil : (o : Option Segment) → cons_option o [] ≡ option_to_list o
cons_option-nil None = refl
cons_option-nil (Some x) = refl

pub segments_more : (file : List ℕ) (i : ℕ) →
    segments_upto file (i + 1) ≡ segments_upto file i ++ option_to_list (segment_of file i)
segments_more file i =
    ap (filter_map (segment_of file)) (range_more 0 i) ∙
    filter_map-append (segment_of file) (range_with_len 0 i) ((0 + i) ∷ [])
    ∙ ap (λ k. segments_upto file i ++ cons_option (segment_of file k) []) (zero-add i)
    ∙ ap (λ o. segments_upto file i ++ o) (cons_option-nil (segment_of file i))

-- a segment by its parts
abbrev pub segment_with : ℕ → ℕ → List ℕ → ℕ → Segment
segment_with flags address bytes size = record { flags = flags; address = address; bytes = bytes; size = size }

-- the segment that a header names
abbrev pub read_segment : List ℕ → ℕ → Segment
read_segment file i = segment_with (p_flags file i) (p_vaddr file i) (loaded_bytes file i) (p_memsz file i)

-- when a header gives a segment
pub none_of_other : (kind size : ℕ) (s : Segment) →
    kind ≢ 1 →
    (if kind == 1 && nat_lt 0 size then Some s else None) ≡ None
none_of_other kind size s other = grind (arith, nat_tests)

pub none_of_empty : (kind size : ℕ) (s : Segment) →
    size ≡ 0 →
    (if kind == 1 && nat_lt 0 size then Some s else None) ≡ None
none_of_empty kind size s empty = grind (arith, nat_tests)

pub some_of_load : (kind size : ℕ) (s : Segment) →
    kind ≡ 1 →
    0 < size →
    (if kind == 1 && nat_lt 0 size then Some s else None) ≡ Some s
some_of_load kind size s load some = grind (arith, nat_tests)

-- a header of another type
pub skipped : (file : List ℕ) (i top : ℕ) (segments : List Segment) →
    ReadSoFar file i top segments →
    ¬ IsLoad file i →
    ReadSoFar file (i + 1) top segments
skipped file i top segments so_far other = record {
  good = below_next (IsGood file) i so_far.good (λ load. absurd (other load));
  above = below_next (λ j. IsLoad file j → load_end file j ≤ top) i so_far.above (λ load. absurd (other load));
  latest = ⊎_elim inl (λ h. inr (h.0, let lt : h.0 < i + 1 = omega (arith, h.1) in lt, h.2, h.3)) so_far.latest;
  low = so_far.low;
  segments_are =
      so_far.segments_are ∙ sym (append-nil (segments_upto file i))
      ∙ ap (λ o. segments_upto file i ++ option_to_list o)
      (sym (none_of_other (p_type file i) (p_memsz file i) _ other))
      ∙ sym (segments_more file i);
}

-- a header that can be loaded, with its segment where it has one
pub taken : (file : List ℕ) (i top : ℕ) (segments new : List Segment) →
    ReadSoFar file i top segments →
    IsLoad file i →
    CanLoad file i →
    top ≤ p_vaddr file i →
    new ≡ segments ++ option_to_list (segment_of file i) →
    ReadSoFar file (i + 1) (load_end file i) new
taken file i top segments new so_far load can after is = record {
  good = below_next (IsGood file) i so_far.good (λ load. can);
  above = below_next (λ j. IsLoad file j → load_end file j ≤ load_end file i) i
      (λ j h load. let before = so_far.above j h load in omega (arith, before)) (λ load. omega arith);
  latest = inr (i, let lt : i < i + 1 = omega arith in lt, load, refl);
  low = can.below;
  segments_are = is ∙ ap (λ xs. xs ++ option_to_list (segment_of file i)) so_far.segments_are ∙
      sym (segments_more file i);
}

-- the header that was read is the one with this number
pub numbered : (file : List ℕ) (i start : ℕ) (h : ProgramHeader) →
    start ≡ e_phoff file →
    IsHeaderAt file (start + 56 * i) h →
    IsHeaderAt file (header_start file i) h
numbered file i start h is = subst (λ (s : ℕ). IsHeaderAt file (s + 56 * i) h) is

-- a header that follows the memory so far can be loaded
pub can_load : (file : List ℕ) (i top size : ℕ) (segments : List Segment) (h : ProgramHeader) →
    ReadSoFar file i top segments →
    IsHeaderAt file (header_start file i) h →
    size ≡ length file →
    CanFollow size top h →
    CanLoad file i
can_load file i top size segments h so_far is whole follows = record {
  inside = omega (arith, follows.inside, is.offset, is.stored, whole);
  held = omega (arith, follows.held, is.stored, is.size);
  below = omega (arith, follows.below, is.address, is.size);
  after = λ j before load. let known = so_far.above j before load in omega (arith, known, follows.after, is.address);
}

-- and one that does not can't
pub cannot_load : (file : List ℕ) (i top size : ℕ) (segments : List Segment) (h : ProgramHeader) →
    ReadSoFar file i top segments →
    IsHeaderAt file (header_start file i) h →
    size ≡ length file →
    ¬ CanFollow size top h →
    ¬ CanLoad file i
cannot_load file i top size segments h so_far is whole never can =
    let after : top ≤ h.address =
    ⊎_elim (λ zero. omega (arith, zero))
    (λ l. let known = can.after l.0 l.1 l.2 in omega (arith, known, l.3, is.address)) so_far.latest in
    never (record {
      inside = omega (arith, can.inside, is.offset, is.stored, whole);
      held = omega (arith, can.held, is.stored, is.size);
      below = omega (arith, can.below, is.address, is.size);
      after = after;
    })

-- so the fault is this one
pub refused : (file : List ℕ) (i top size : ℕ) (segments : List Segment) (h : ProgramHeader) →
    HasMagic file →
    IsExecHeader file →
    i < e_phnum file →
    ReadSoFar file i top segments →
    IsHeaderAt file (header_start file i) h →
    h.kind ≡ 1 →
    size ≡ length file →
    ¬ CanFollow size top h →
    HasFault file (BadSegment i)
refused file i top size segments h magic header within so_far is load whole never = (
  magic,
  header,
  within,
  λ good. cannot_load file i top size segments h so_far is whole never
      (good (sym is.kind ∙ load)),
  so_far.good,
)

-- what follows after a header that was loaded
loaded : (file : List ℕ) (i top size : ℕ) (segments new : List Segment) (h : ProgramHeader) (next : ℕ) →
    ReadSoFar file i top segments →
    IsHeaderAt file (header_start file i) h →
    h.kind ≡ 1 →
    size ≡ length file →
    CanFollow size top h →
    next ≡ h.address + h.size →
    new ≡ segments ++ option_to_list (segment_of file i) →
    ReadSoFar file (i + 1) next new
loaded file i top size segments new h next so_far is load whole follows end new_is =
    let same : load_end file i ≡ next = omega (arith, end, is.address, is.size) in
    let after : top ≤ p_vaddr file i = omega (arith, follows.after, is.address) in
    let can = can_load file i top size segments h so_far is whole follows in
    subst (λ (t : ℕ). ReadSoFar file (i + 1) t new) same
    (taken file i top segments new so_far (sym is.kind ∙ load) can after new_is)

-- an empty one gives no segment
pub loaded_empty : (file : List ℕ) (i top size : ℕ) (segments new : List Segment) (h : ProgramHeader) (next : ℕ) →
    ReadSoFar file i top segments →
    IsHeaderAt file (header_start file i) h →
    h.kind ≡ 1 →
    size ≡ length file →
    CanFollow size top h →
    next ≡ h.address + h.size →
    h.size ≤ 0 →
    new ≡ segments →
    ReadSoFar file (i + 1) next new
loaded_empty file i top size segments new h next so_far is load whole follows end empty same =
    let none = none_of_empty (p_type file i) (p_memsz file i) (read_segment file i) (omega (arith, empty, is.size)) in
    loaded file i top size segments new h next so_far is load whole follows end
    (same ∙ sym (append-nil segments) ∙ ap (λ o. segments ++ option_to_list o) (sym none))

-- the segment that was read is that of the header
segment_is : (file : List ℕ) (at : ℕ) (h : ProgramHeader) → IsHeaderAt file at h →
    segment_with h.flags h.address (take h.stored (drop h.offset file)) h.size ≡ segment_with
    (number_at 4 file (at + 4)) (number_at 8 file (at + 16))
    (take (number_at 8 file (at + 32)) (drop (number_at 8 file (at + 8)) file)) (number_at 8 file (at + 40))
segment_is file at h is = rw (is.flags, is.address, is.stored, is.offset, is.size) refl

-- any other gives one
pub loaded_segment : (file : List ℕ) (i top size : ℕ) (segments new : List Segment) (h : ProgramHeader)
    (s : Segment) (next : ℕ) →
    ReadSoFar file i top segments →
    IsHeaderAt file (header_start file i) h →
    h.kind ≡ 1 →
    size ≡ length file →
    CanFollow size top h →
    next ≡ h.address + h.size →
    0 < h.size →
    s ≡ segment_with h.flags h.address (take h.stored (drop h.offset file)) h.size →
    new ≡ segments ++ s ∷ [] →
    ReadSoFar file (i + 1) next new
loaded_segment file i top size segments new h s next so_far is load whole follows end some s_is new_is =
    let found = some_of_load (p_type file i) (p_memsz file i) (read_segment file i) (sym is.kind ∙ load)
    (omega (arith, some, is.size)) in
    let same : s ≡ read_segment file i = s_is ∙ segment_is file (header_start file i) h is in
    loaded file i top size segments new h next so_far is load whole follows end
    (new_is ∙ ap (λ x. segments ++ x ∷ []) same ∙ ap (λ o. segments ++ option_to_list o) (sym found))
