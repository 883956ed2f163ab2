-- How long the parts of an executable are.
use Rattle.std.proofs.Common.{ℕ, ◌+◌, ◌*◌, ◌≡◌, ◌≤◌, List, [], ◌∷◌, ◌++◌, length, ap, sym, ◌∙◌, refl, arith}
use Rattle.std.proofs.lemmas.List.{length-append}
use Rattle.elf64_exec.specs.declared.layout.Segment.{Segment}
use Rattle.elf64_exec.specs.Executable.{identification, half, word, long, file_header, program_header, program_headers, header_length, page_up, file_end, contents, executable}

pub length-file_header : (entry count : ℕ) → length (file_header entry count) ≡ 64
unfolding file_header identification half word long
length-file_header entry count = refl

pub length-program_header : (offset : ℕ) (s : Segment) → length (program_header offset s) ≡ 56
unfolding program_header half word long
length-program_header offset s = refl

pub length-program_headers : (end : ℕ) (segments : List Segment) →
    length (program_headers end segments) ≡ 56 * length segments
length-program_headers end [] = refl
length-program_headers end (s ∷ rest) =
    let first = length-program_header (page_up end) s in
    let others = length-program_headers (page_up end + length s.bytes) rest in
    simp length-append (omega (arith, first, others))

-- both headers
pub length-headers : (entry : ℕ) (segments : List Segment) →
    length (file_header entry (length segments) ++ program_headers (header_length segments) segments) ≡
    header_length segments
length-headers entry segments =
    let first = length-file_header entry (length segments) in
    let others = length-program_headers (header_length segments) segments in
    simp length-append (omega (arith, first, others))

pub page_up_above : (n : ℕ) → n ≤ page_up n
page_up_above n = omega arith

-- a file ends after what it begins with
pub file_end_above : (end : ℕ) (segments : List Segment) → end ≤ file_end end segments
file_end_above end [] = omega arith
file_end_above end (s ∷ rest) =
    let below = page_up_above end in
    let others = file_end_above (page_up end + length s.bytes) rest in
    omega (arith, below, others)

-- a file that began empty and then took both headers
pub headers_are : (entry : ℕ) (list segments : List Segment) (empty some both : List ℕ) →
    list ≡ segments →
    empty ≡ [] →
    some ≡ empty ++ file_header entry (length list) →
    both ≡ some ++ program_headers (header_length list) list →
    both ≡ file_header entry (length segments) ++ program_headers (header_length segments) segments
headers_are entry list segments empty some both same none first next = rw (next, first, none, same) refl

pub length-both : (entry : ℕ) (list segments : List Segment) (empty some both : List ℕ) →
    list ≡ segments →
    empty ≡ [] →
    some ≡ empty ++ file_header entry (length list) →
    both ≡ some ++ program_headers (header_length list) list →
    length both ≡ header_length list
length-both entry list segments empty some both same none first next =
    ap length (headers_are entry list segments empty some both same none first next)
    ∙ length-headers entry segments ∙ ap header_length (sym same)

-- a file that had both headers and then took the contents
pub executable_is : (entry : ℕ) (list segments : List Segment) (before all : List ℕ) →
    list ≡ segments →
    before ≡ file_header entry (length segments) ++ program_headers (header_length segments) segments →
    all ≡ before ++ contents (length before) list →
    all ≡ executable entry segments
unfolding executable
executable_is entry list segments before all same both more =
    let size : length before ≡ header_length segments = ap length both ∙ length-headers entry segments in
    rw (more, size, both, same) refl
