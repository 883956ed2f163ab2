-- What the headers of a written executable say.
use Rattle.std.proofs.Common.{ℕ, zero, suc, ◌+◌, ◌*◌, ◌^◌, ◌≡◌, ◌<◌, List, [], ◌∷◌, ◌++◌, length, get_or, take, drop, refl, sym, ap, ◌∙◌, subst, append_assoc, arith}
use Rattle.std.proofs.lemmas.List.{drop_at, drop-drop, length-append}
use Rattle.byteorder.specs.Endian.{little_bytes}
use Rattle.byteorder.specs.Numbers.{little_number-reads_back, length-bytes_low_first}
use Rattle.ppc_bytes.specs.Bytes.{number, number_at}
use Rattle.ppc_bytes.specs.Elf.{IsPpc64Le}
use Rattle.ppc_bytes.specs.laws.Places.{number-take}
use Rattle.elf64_exec.specs.declared.layout.Segment.{Segment}
use Rattle.elf64_exec.specs.Executable.{identification, half, word, long, file_header, program_header, program_headers, page_up}
use Rattle.elf64_exec.specs.Loading.{e_type, e_entry, e_phoff, e_flags, e_phentsize, e_phnum}
use Rattle.elf64_exec.proofs.Lengths.{length-program_header}

-- the bytes of a number spell it
spelled : (n x : ℕ) → x < 256 ^ n → number (take n (little_bytes n x ++ [])) ≡ x
spelled n x fits =
    let bytes = length-bytes_low_first 0 n x in
    number-take n (little_bytes n x ++ []) (simp length-append (omega (arith, bytes))) ∙
    little_number-reads_back n x [] fits

-- the fields of a file header
pub record IsFileHeader (file : List ℕ) (entry count : ℕ) : Type 0 where
  pub magic : number_at 4 file 0 ≡ 0x464C457F
  pub machine : IsPpc64Le file
  pub kind : e_type file ≡ 2
  pub entry_is : e_entry file ≡ entry
  pub headers_at : e_phoff file ≡ 64
  pub abi : e_flags file ≡ 2
  pub header_size : e_phentsize file ≡ 56
  pub count_is : e_phnum file ≡ count

pub file_header_says : (entry count : ℕ) (rest : List ℕ) →
    entry < 2 ^ 64 →
    count < 65536 →
    IsFileHeader (file_header entry count ++ rest) entry count
unfolding file_header identification half word long
file_header_says entry count rest entry_fits count_fits = record {
  magic = refl;
  machine = refl;
  kind = refl;
  entry_is = spelled 8 entry entry_fits;
  headers_at = refl;
  abi = refl;
  header_size = refl;
  count_is = spelled 2 count count_fits;
}

-- where the bytes of a segment stand
abbrev pub offset_at : ℕ → List Segment → ℕ → ℕ
offset_at end [] i = end
offset_at end (s ∷ rest) zero = page_up end
offset_at end (s ∷ rest) (suc i) = offset_at (page_up end + length s.bytes) rest i

-- the numbers of a program header fit their fields
pub record Fits (offset : ℕ) (s : Segment) : Type 0 where
  pub flags : s.flags < 2 ^ 32
  pub offset_fits : offset < 2 ^ 64
  pub address : s.address < 2 ^ 64
  pub stored : length s.bytes < 2 ^ 64
  pub size : s.size < 2 ^ 64

-- the fields of the program header at a place
pub record IsProgramHeader (file : List ℕ) (at offset : ℕ) (s : Segment) : Type 0 where
  pub kind : number_at 4 file (at + 0) ≡ 1
  pub flags : number_at 4 file (at + 4) ≡ s.flags
  pub offset_is : number_at 8 file (at + 8) ≡ offset
  pub address : number_at 8 file (at + 16) ≡ s.address
  pub stored : number_at 8 file (at + 32) ≡ length s.bytes
  pub size : number_at 8 file (at + 40) ≡ s.size

program_header_first : (offset : ℕ) (s : Segment) (rest : List ℕ) →
    Fits offset s →
    IsProgramHeader (program_header offset s ++ rest) 0 offset s
unfolding program_header half word long
program_header_first offset s rest fits = record {
  kind = refl;
  flags = spelled 4 s.flags fits.flags;
  offset_is = spelled 8 offset fits.offset_fits;
  address = spelled 8 s.address fits.address;
  stored = spelled 8 (length s.bytes) fits.stored;
  size = spelled 8 s.size fits.size;
}

-- a number behind a known front
number_behind : (n k at : ℕ) (front rest : List ℕ) →
    length front ≡ at →
    number_at n (front ++ rest) (at + k) ≡ number_at n rest k
number_behind n k at front rest size =
    ap (λ l. number (take n l)) (sym (drop-drop k at (front ++ rest)) ∙ ap (drop k) (drop_at front rest at size))

program_header_behind : (at offset : ℕ) (s : Segment) (front rest : List ℕ) →
    length front ≡ at →
    Fits offset s →
    IsProgramHeader (front ++ (program_header offset s ++ rest)) at offset s
program_header_behind at offset s front rest size fits =
    let first = program_header_first offset s rest fits in
    let all = program_header offset s ++ rest in
    record {
      kind = number_behind 4 0 at front all size ∙ first.kind;
      flags = number_behind 4 4 at front all size ∙ first.flags;
      offset_is = number_behind 8 8 at front all size ∙ first.offset_is;
      address = number_behind 8 16 at front all size ∙ first.address;
      stored = number_behind 8 32 at front all size ∙ first.stored;
      size = number_behind 8 40 at front all size ∙ first.size;
    }

-- each program header behind a front
pub program_headers_say : (end at : ℕ) (segments : List Segment) (front rest : List ℕ) (i : ℕ) (d : Segment) →
    length front ≡ at →
    i < length segments →
    Fits (offset_at end segments i) (get_or segments i d) →
    IsProgramHeader (front ++ (program_headers end segments ++ rest)) (at + 56 * i) (offset_at end segments i)
    (get_or segments i d)
program_headers_say end at [] front rest i d size within fits = absurd (omega arith)
program_headers_say end at (s ∷ others) front rest zero d size within fits =
    let more = program_headers (page_up end + length s.bytes) others in
    let here = program_header_behind at (page_up end) s front (more ++ rest) size fits in
    let place : at ≡ at + 56 * 0 = omega arith in
    subst (λ (p : ℕ). IsProgramHeader (front ++ ((program_header (page_up end) s ++ more) ++ rest)) p (page_up end)
    s) place
    (subst (λ (l : List ℕ). IsProgramHeader (front ++ l) at (page_up end) s)
    (sym (append_assoc (program_header (page_up end) s) more rest)) here)
program_headers_say end at (s ∷ others) front rest (suc i) d size within fits =
    let first = program_header (page_up end) s in
    let next = page_up end + length s.bytes in
    let more = program_headers next others in
    let longer : length (front ++ first) ≡ at + 56 =
    simp length-append (omega (arith, size, length-program_header (page_up end) s)) in
    let there = program_headers_say next (at + 56) others (front ++ first) rest i d longer (omega arith) fits in
    let place : at + 56 + 56 * i ≡ at + 56 * suc i = omega arith in
    let same : (front ++ first) ++ (more ++ rest) ≡ front ++ ((first ++ more) ++ rest) = simp append_assoc in
    subst (λ (p : ℕ). IsProgramHeader (front ++ ((first ++ more) ++ rest)) p (offset_at next others i)
    (get_or others i d)) place
    (subst (λ (l : List ℕ). IsProgramHeader l (at + 56 + 56 * i) (offset_at next others i) (get_or others i d))
    same there)
