-- Files of which the first bytes were fetched come to what the whole files come to.
use Rattle.std.proofs.Common.{◌≡◌, ℕ, ◌+◌, ◌<◌, ◌≤◌, ◌⊎◌, inl, inr, List, [], ◌∷◌, length, take, Option, Some, None, refl, sym, ap, ◌∙◌, subst, arith, suc, Bool, true, false}
use Rattle.std.specs.Prelude.{Result, Ok, Err, if◌then◌else◌, string_bytes}
use Rattle.std.specs.Option.{option_map}
use Rattle.std.proofs.lemmas.Bool.{lt-ltb}
use Rattle.elf64_records.specs.First.{◌orelse◌}
use Rattle.object_set.specs.declared.refusal.Refusal.TheVariants.{FileTooLong}
use Rattle.object_set.specs.Refusals.{length_refusal, fault_refusal, sections_refusal, symbols_refusal, file_refusal}
use Rattle.object_set.specs.declared.files.FileBytes.{FileBytes}
use Rattle.object_set.specs.Files.{contents_of}
use Rattle.link_engine.specs.Options.{LinkOptions}
use Rattle.ppc_archive.specs.Archive.{is_library}
use Rattle.ppc_archive.specs.Expand.{NamedFile, NamedRefusal, named_refusal, named_file, named_files, fetched_refusal, fetched_refusals, library_refusal, ChoosesTo}
use Rattle.ppc_archive.specs.laws.OneJob.{chooses_once}
use Rattle.ppc_outside.specs.Outside.{Files}
use Rattle.ppclink.specs.Jobs.{fetched, names_in_job, contents_in_job, names_of_files}
use Rattle.ppclink.specs.Runs.{Response}
use Rattle.ppclink.specs.Responses.{FilesRespond, contents_in}
use Rattle.ppclink.specs.Statuses.{CountsOver, CountsFor, CountsJob}
use Rattle.ppclink.specs.inside.Fetched.{HaveRead, file_limit}
use Rattle.ppclink.proofs.Coming.{AreFiles, cut, held_contents}

-- one byte past the limit was read of each file, and no more of what is too long
abbrev pub AreCut : List (List ℕ) → List (List ℕ) → Type 0
AreCut [] [] = Unit {0}
AreCut [] (whole ∷ wholes) = ⊥
AreCut (c ∷ contents) [] = ⊥
AreCut (c ∷ contents) (whole ∷ wholes) = (c ≡ take (file_limit + 1) whole) × AreCut contents wholes

-- the files of which something was read: the names hold them, and what was read is their first bytes
pub record Wholes (told : Option Files) (names contents : List (List ℕ)) : Type 0 where
  pub wholes : List (List ℕ)
  pub are : AreFiles told names wholes
  pub cut : AreCut contents wholes

pub wholes_read : (told : Option Files) (names contents : List (List ℕ)) → HaveRead told names contents → Wholes told names contents
wholes_read told [] [] read = record { wholes = []; are = tt; cut = tt }
wholes_read told [] (c ∷ contents) read = absurd read
wholes_read told (name ∷ names) [] read = absurd read
wholes_read told (name ∷ names) (c ∷ contents) (one, read) =
    let rest = wholes_read told names contents read in
    record { wholes = one.whole ∷ rest.wholes; are = (one.holds, rest.are); cut = (one.cut, rest.cut) }

too_long : (file : ℕ) (b : List ℕ) → file_limit < length b → length_refusal file b ≡ Some (FileTooLong file)
too_long file b long = rw (lt-ltb 0x10000000 (length b) long)

too_long_file : (file : ℕ) (b : List ℕ) → file_limit < length b → file_refusal file b ≡ Some (FileTooLong file)
unfolding file_refusal
too_long_file file b long =
    ap (λ o. o orelse (fault_refusal file b orelse (sections_refusal file b orelse symbols_refusal file b))) (too_long file b long)

-- both are refused for one thing
pub record RefusedAlike (file : ℕ) (files others : List NamedFile) : Type 0 where
  pub refusal : NamedRefusal
  pub files_refused : fetched_refusals file files ≡ Some refusal
  pub others_refused : fetched_refusals file others ≡ Some refusal

-- files tell as much as others
abbrev pub TellAlike : ℕ → List NamedFile → List NamedFile → Type 0
TellAlike file files others = (files ≡ others) ⊎ RefusedAlike file files others

too_long_fetched : (file : ℕ) (name b : List ℕ) → file_limit < length b →
    fetched_refusal file (record { name = name; bytes = b }) ≡ Some (named_refusal name (FileTooLong file))
unfolding fetched_refusal
too_long_fetched file name b long = by_kind (is_library b)
  where
    f : NamedFile
    f = record { name = name; bytes = b }

    by_kind : (t : Bool) →
        (if t then option_map (named_refusal name) (length_refusal file b) orelse library_refusal file f
        else option_map (named_refusal name) (file_refusal file b)) ≡ Some (named_refusal name (FileTooLong file))
    by_kind true = ap (λ o. option_map (named_refusal name) o orelse library_refusal file f) (too_long file b long)
    by_kind false = ap (option_map (named_refusal name)) (too_long_file file b long)

same_file : (file : ℕ) (f : NamedFile) (files others : List NamedFile) (o : Option NamedRefusal) → fetched_refusal file f ≡ o →
    RefusedAlike (file + 1) files others → RefusedAlike file (f ∷ files) (f ∷ others)
same_file file f files others None is rest = record {
  refusal = rest.refusal;
  files_refused = ap (λ o. o orelse fetched_refusals (file + 1) files) is ∙ rest.files_refused;
  others_refused = ap (λ o. o orelse fetched_refusals (file + 1) others) is ∙ rest.others_refused;
}
same_file file f files others (Some r) is rest = record {
  refusal = r;
  files_refused = ap (λ o. o orelse fetched_refusals (file + 1) files) is;
  others_refused = ap (λ o. o orelse fetched_refusals (file + 1) others) is;
}

-- one byte past the limit tells as much as the whole files
cut_alike : (file : ℕ) (names contents wholes : List (List ℕ)) → AreCut contents wholes →
    TellAlike file (fetched names contents) (fetched names wholes)
cut_alike file [] contents wholes are = inl refl
cut_alike file (name ∷ names) [] [] are = inl refl
cut_alike file (name ∷ names) [] (whole ∷ wholes) are = absurd are
cut_alike file (name ∷ names) (c ∷ contents) [] are = absurd are
cut_alike file (name ∷ names) (c ∷ contents) (whole ∷ wholes) (one, are) =
    elim (cut file_limit c whole one) [
      | inl long ↦
          inr (record {
            refusal = named_refusal name (FileTooLong file);
            files_refused = ap (λ o. o orelse fetched_refusals (file + 1) (fetched names contents)) (too_long_fetched file name c long.0);
            others_refused = ap (λ o. o orelse fetched_refusals (file + 1) (fetched names wholes))
                (too_long_fetched file name whole long.1);
          })
      | inr same ↦
          elim (cut_alike (file + 1) names contents wholes are) [
            | inl rest ↦
                inl (ap (λ (b : List ℕ). record { name = name; bytes = b } ∷ fetched names contents) same
                ∙ ap (λ (l : List NamedFile). record { name = name; bytes = whole } ∷ l) rest)
            | inr rest ↦
                inr
                (subst (λ (b : List ℕ). RefusedAlike file (fetched (name ∷ names) (c ∷ contents))
                (fetched (name ∷ names) (b ∷ wholes))) same
                (same_file file (record { name = name; bytes = c }) (fetched names contents) (fetched names wholes)
                (fetched_refusal file (record { name = name; bytes = c })) refl rest))
          ]
    ]

swap_alike : (file : ℕ) (files others : List NamedFile) → TellAlike file files others → TellAlike file others files
swap_alike file files others (inl same) = inl (sym same)
swap_alike file files others (inr alike) =
    inr (record { refusal = alike.refusal; files_refused = alike.others_refused; others_refused = alike.files_refused })

-- so files come to what others come to
chooses_alike : (files others : List NamedFile) (entry : List ℕ) (choice : Result (List NamedFile) NamedRefusal) →
    TellAlike 0 files others →
    ChoosesTo files entry choice → ChoosesTo others entry choice
chooses_alike files others entry choice (inl same) chooses = subst (λ (l : List NamedFile). ChoosesTo l entry choice) same chooses
chooses_alike files others entry choice (inr alike) chooses =
    let one : choice ≡ Err alike.refusal = chooses_once files entry choice (Err alike.refusal) chooses (inl alike.files_refused) in
    subst (ChoosesTo others entry) (sym one) (inl alike.others_refused)

-- a job of what was read is that of the files
pub files_whole : (told : Option Files) (JobComes : List NamedFile → Response → Type 0) (entry : List ℕ) (names contents : List (List ℕ))
    (held : Wholes told names contents) (response : Response) →
    FilesRespond JobComes entry names contents response →
    FilesRespond JobComes entry names held.wholes response
files_whole told JobComes entry names contents held response responds =
    let alike = cut_alike 0 names contents held.wholes held.cut in
    record {
      choice = responds.choice;
      chooses = chooses_alike (fetched names contents) (fetched names held.wholes) entry responds.choice alike responds.chooses;
      is = responds.is;
    }

-- ---- a job

pub named_contents : (files : List FileBytes) → contents_of files ≡ contents_in_job (named_files files)
named_contents [] = refl
named_contents (f ∷ files) = ap (λ l. f.bytes.items ∷ l) (named_contents files)

pub named_names : (files : List FileBytes) → names_of_files files ≡ names_in_job (named_files files)
named_names [] = refl
named_names (f ∷ files) = ap (λ l. string_bytes f.name ∷ l) (named_names files)

pub named_fetched : (files : List FileBytes) → named_files files ≡ fetched (names_of_files files) (contents_of files)
named_fetched [] = refl
named_fetched (f ∷ files) = ap (λ l. named_file f ∷ l) (named_fetched files)

-- what files come to, of these and as those that were fetched
pub chosen : (files : List FileBytes) (e entry : List ℕ) (choice : Result (List NamedFile) NamedRefusal) →
    e ≡ entry →
    ChoosesTo (named_files files) e choice →
    ChoosesTo (fetched (names_of_files files) (contents_of files)) entry choice
chosen files e entry choice is chooses =
    subst (λ (n : List ℕ). ChoosesTo (fetched (names_of_files files) (contents_of files)) n choice) is
    (subst (λ (l : List NamedFile). ChoosesTo l e choice) (named_fetched files) chooses)

-- ---- what is counted

-- files come to one thing, so what counts for that counts for them
pub choice_counts : (options : LinkOptions) (names contents : List (List ℕ)) (choice : Result (List NamedFile) NamedRefusal)
    (old new : ℕ) →
    ChoosesTo (fetched names contents) options.entry choice →
    CountsJob options choice old new →
    CountsFor options names contents old new
choice_counts options names contents choice old new chooses counts other comes =
    subst (λ (c : Result (List NamedFile) NamedRefusal). CountsJob options c old new)
    (chooses_once (fetched names contents) options.entry choice other chooses comes) counts

counts_held : (told : Option Files) (options : LinkOptions) (names wholes : List (List ℕ)) (old new : ℕ) → AreFiles told names wholes →
    CountsFor options names wholes old new → CountsOver told options names old new
counts_held None options names wholes old new are counts = (wholes, counts)
counts_held (Some files) options names wholes old new are counts =
    subst (λ (l : List (List ℕ)). CountsFor options names l old new) (sym (held_contents files names wholes are)) counts

-- what was read counts as the files
pub read_counts : (told : Option Files) (options : LinkOptions) (names contents : List (List ℕ)) (old new : ℕ) →
    HaveRead told names contents →
    CountsFor options names contents old new →
    CountsOver told options names old new
read_counts told options names contents old new read counts =
    let held = wholes_read told names contents read in
    let alike = swap_alike 0 (fetched names contents) (fetched names held.wholes) (cut_alike 0 names contents held.wholes held.cut) in
    counts_held told options names held.wholes old new held.are
    (λ other whole.
    counts other (chooses_alike (fetched names held.wholes) (fetched names contents) options.entry other alike whole))

-- where none is counted
pub none_for : (options : LinkOptions) (names contents : List (List ℕ)) (old new : ℕ) → new ≡ old → CountsFor options names contents old new
none_for options names contents old new same (Err fault) chooses = same
none_for options names contents old new same (Ok job) chooses = omega (arith, same)

pub counts_none : (told : Option Files) (options : LinkOptions) (names : List (List ℕ)) (old new : ℕ) → new ≡ old →
    CountsOver told options names old new
counts_none None options names old new same = ([], none_for options names [] old new same)
counts_none (Some files) options names old new same = none_for options names (contents_in files names) old new same
