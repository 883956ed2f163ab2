-- Files that aren't refused are whole, and a candidate that is left is put behind a job where it is chosen.
use Rattle.std.proofs.Common.{◌≡◌, ℕ, ◌+◌, Bool, true, false, List, [], ◌∷◌, ◌++◌, Option, Some, None, refl, sym, ap, ◌∙◌, arith, append_assoc, append-nil}
use Rattle.std.specs.Prelude.{map, filter, if◌then◌else◌}
use Rattle.std.specs.Option.{option_map}
use Rattle.std.proofs.lemmas.Bool.Decides.{nat_tests}
use Rattle.elf64_records.specs.First.{◌orelse◌, first_in}
use Rattle.elf64_records.specs.laws.First.{both_none}
use Rattle.object_set.specs.declared.refusal.Refusal.TheVariants.{BadArchive}
use Rattle.object_set.specs.Refusals.{length_refusal}
use Rattle.ppc_archive.specs.Archive.{MemberFacts, archive_fault}
use Rattle.ppc_archive.specs.Expand.{NamedFile, is_candidate, candidate_refusal, candidates_in, named_refusal, library_refusal, fetched_refusal, fetched_refusals, kept_from}
use Rattle.ppc_archive.specs.inside.Reading.{IsWhole, AreWhole}

map_none : {A B : Type 0} (f : A → B) (o : Option A) → option_map f o ≡ None → o ≡ None
map_none f None none = refl
map_none f (Some a) none = cc

whole_library : (k : ℕ) (f : NamedFile) → fetched_refusal k f ≡ None → IsWhole f
unfolding fetched_refusal
whole_library k f none is =
    let here : option_map (named_refusal f.name) (length_refusal k f.bytes) orelse library_refusal k f ≡ None = grind (arith, none, is) in
    let parts = both_none (option_map (named_refusal f.name) (length_refusal k f.bytes)) (library_refusal k f) here in
    let rest = both_none (option_map (λ at. named_refusal f.name (BadArchive k at)) (archive_fault f.bytes))
    (first_in (candidate_refusal k f) (candidates_in f)) parts.1 in
    let short = map_none (named_refusal f.name) (length_refusal k f.bytes) parts.0 in
    (map_none (λ at. named_refusal f.name (BadArchive k at)) (archive_fault f.bytes) rest.0, grind (arith, nat_tests, short))

pub passing_whole : (k : ℕ) (files : List NamedFile) → fetched_refusals k files ≡ None → AreWhole files
passing_whole k [] none = tt
passing_whole k (f ∷ files) none =
    let parts = both_none (fetched_refusal k f) (fetched_refusals (k + 1) files) none in
    (whole_library k f parts.0, passing_whole (k + 1) files parts.1)

-- a member that is a candidate
pub candidate_first : (members rest : List MemberFacts) (m : MemberFacts) → members ≡ m ∷ rest → is_candidate m ≡ true →
    filter is_candidate members ≡ m ∷ filter is_candidate rest
candidate_first members rest m is begins =
    ap (filter is_candidate) is ∙ ap (λ (b : Bool). if b then m ∷ filter is_candidate rest else filter is_candidate rest) begins

pub put_one : (F : ℕ → Bool) (g : MemberFacts → NamedFile) (n : ℕ) (job job' all : List NamedFile) (m : MemberFacts)
    (left rest : List MemberFacts) →
    job ++ map g (kept_from F n left) ≡ all → left ≡ m ∷ rest → job' ≡ job ++ (if F n then g m ∷ [] else []) →
    job' ++ map g (kept_from F (n + 1) rest) ≡ all
put_one F g n job job' all m left rest so_far is put = step (F n)
    (sym (ap (λ (l : List MemberFacts). job ++ map g (kept_from F n l)) is) ∙ so_far) put
  where
    step : (t : Bool) → job ++ map g (if t then m ∷ kept_from F (n + 1) rest else kept_from F (n + 1) rest) ≡ all →
        job' ≡ job ++ (if t then g m ∷ [] else []) → job' ++ map g (kept_from F (n + 1) rest) ≡ all
    step true before now =
        ap (λ (l : List NamedFile). l ++ map g (kept_from F (n + 1) rest)) now
        ∙ append_assoc job (g m ∷ []) (map g (kept_from F (n + 1) rest)) ∙ before
    step false before now = ap (λ (l : List NamedFile). l ++ map g (kept_from F (n + 1) rest)) (now ∙ append-nil job) ∙ before
