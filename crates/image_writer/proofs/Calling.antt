-- One more call.
use Rattle.std.proofs.Common.{ℕ, zero, suc, Option, Some, None, ◌≡◌, ◌<◌, ◌+◌, List, [], ◌∷◌, ◌++◌, take, length, ap, ◌∙◌, arith}
use Rattle.std.specs.Prelude.{ℤ}
use Rattle.std.proofs.lemmas.List.{length-append, append-nil, take_more}
use Rattle.std.proofs.lemmas.List.Concat.{flat_map-append}
use Rattle.stub_kinds.specs.declared.class.Class.{Class}
use Rattle.layout_rounds.specs.declared.shape.ShapeSite.{ShapeSite}
use Rattle.layout_rounds.specs.Shapes.{site_of}
use Rattle.call_sites.specs.declared.site.CallSite.{CallSite}
use Rattle.placed_bytes.specs.Patches.{all_patched}
use Rattle.image_writer.specs.JobShape.{classed_by, classed_sites, shape_by, shape_sites, site_shape}
use Rattle.image_writer.specs.Calls.{call_at, call_number, no_call, words_of_call}

-- the number of calls that go somewhere, with one more
pub number_next : (sites : List CallSite) (i : ℕ) → i < length sites →
    call_number sites (i + 1) ≡ call_number sites i + length (classed_by (call_at sites i) (call_at sites i).class)
number_next sites i within =
    let site = call_at sites i in
    let more : take (i + 1) sites ≡ take i sites ++ site ∷ [] = take_more sites i no_call within in
    let all : classed_sites (take (i + 1) sites) ≡ classed_sites (take i sites) ++ classed_by site site.class =
    ap classed_sites more ∙ flat_map-append (λ (s : CallSite). classed_by s s.class) (take i sites) (site ∷ [])
    ∙ ap (λ (l : List CallSite). classed_sites (take i sites) ++ l) (append-nil (classed_by site site.class)) in
    ap (λ (l : List CallSite). length l) all ∙ length-append (classed_sites (take i sites)) (classed_by site site.class)

-- a call by its place, itself, and how far it branches
pub same_call : (b : List ℕ) (at at' : ℕ) (site site' : CallSite) (d d' : ℤ) → at ≡ at' → site ≡ site' → d ≡ d' →
    all_patched b (words_of_call at site d) ≡ all_patched b (words_of_call at' site' d')
same_call b at at' site site' d d' same_at same same_distance =
    ap (λ (a : ℕ). all_patched b (words_of_call a site d)) same_at
    ∙ ap (λ (s : CallSite). all_patched b (words_of_call at' s d)) same
    ∙ ap (λ (x : ℤ). all_patched b (words_of_call at' site' x)) same_distance

-- one more call before a call that goes somewhere
nth_case : (o : Option Class) (x : CallSite) (before : List CallSite) (rest : List ShapeSite) (s : ShapeSite) →
    length before < length rest → site_of rest (length before) ≡ s →
    (length (classed_by x o ++ before) < length (shape_by x o ++ rest))
    × (site_of (shape_by x o ++ rest) (length (classed_by x o ++ before)) ≡ s)
nth_case None x before rest s lt is = (lt, is)
nth_case (Some class) x before rest s lt is = (omega arith, is)

first_case : (o : Option Class) (x : CallSite) (rest : List ShapeSite) (class : Class) → o ≡ Some class →
    (0 < length (shape_by x o ++ rest)) × (site_of (shape_by x o ++ rest) 0 ≡ site_shape x class)
first_case None x rest class is = cc
first_case (Some own) x rest class is =
    let same : own ≡ class = cc in
    (omega arith, ap (site_shape x) same)

-- a call that goes somewhere is in the shape, at its number
pub shape_nth : (sites : List CallSite) (i : ℕ) (class : Class) → i < length sites → (call_at sites i).class ≡ Some class →
    (call_number sites i < length (shape_sites sites))
    × (site_of (shape_sites sites) (call_number sites i) ≡ site_shape (call_at sites i) class)
shape_nth [] i class lt is = absurd (omega arith)
shape_nth (x ∷ xs) zero class lt is = first_case x.class x (shape_sites xs) class is
shape_nth (x ∷ xs) (suc i) class lt is =
    let rest = shape_nth xs i class (omega arith) is in
    nth_case x.class x (classed_sites (take i xs)) (shape_sites xs) (site_shape (call_at xs i) class) rest.0 rest.1
