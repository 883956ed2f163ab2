-- What the words of a command ask for.
use Rattle.std.specs.Prelude.{ℕ, Bool, nat_le, false, ◌%◌, ◌==◌, ◌&&◌, not, List, [], ◌∷◌, ◌++◌, map, length, codes, Option, Some, None, if◌then◌else◌, String, string_bytes, Vec}
use Rattle.std.specs.List.{list_all}
use Rattle.std.specs.Str.{bytes_eq}
use Rattle.std.specs.declared.alloc.Global.{Global}
use Rattle.link_engine.specs.declared.files.TheConstants.{BRANCH_SPAN, TOC_SPAN}
use Rattle.link_engine.specs.Options.{LinkOptions}
use Rattle.ppclink.specs.Numbers.{number_of}

-- the options of a run: the file of its input, if there is one, and how many steps it may take
pub record RunOptions : Type 0 where
  pub input : Option (List ℕ)
  pub budget : ℕ

-- what is asked for; names are their bytes
pub data Request : Type 0 where
  link_to : (out : List ℕ) (options : LinkOptions) (files : List (List ℕ)) → Request
  show_file : (file : List ℕ) → Request
  run_image : (options : RunOptions) (image : List ℕ) → Request
  check_job : (options : LinkOptions) (run : RunOptions) (files : List (List ℕ)) → Request

-- the words as their bytes
abbrev pub texts : List (String Global) → List (List ℕ)
texts words = map string_bytes words

-- the name of a file: it isn't empty and doesn't begin with `-`
abbrev pub is_file_name : List ℕ → Bool
is_file_name [] = false
is_file_name (c ∷ rest) = not (c == 0x2D)

-- the name of the entry where the words don't say
abbrev pub usual_entry : List ℕ
usual_entry = codes "_start"

-- a link takes 1 to 4096 files
abbrev pub are_files : List (List ℕ) → Bool
are_files files = nat_le 1 (length files) && nat_le (length files) 4096 && list_all is_file_name files

-- a number of those that are allowed
abbrev pub allowed : (ℕ → Bool) → Option ℕ → Option ℕ
allowed passes None = None
allowed passes (Some n) = if passes n then Some n else None

-- a branch span is a multiple of 4 from 0x100 on
abbrev pub is_branch_span : ℕ → Bool
is_branch_span n = n % 4 == 0 && nat_le 0x100 n && nat_le n BRANCH_SPAN

-- a TOC span is a multiple of 8 from 16 on
abbrev pub is_toc_span : ℕ → Bool
is_toc_span n = n % 8 == 0 && nat_le 16 n && nat_le n TOC_SPAN

-- the spans that words write; None where they write none that is allowed
abbrev pub branch_span_of : List ℕ → Option ℕ
branch_span_of word = allowed is_branch_span (number_of word)

abbrev pub toc_span_of : List ℕ → Option ℕ
toc_span_of word = allowed is_toc_span (number_of word)

-- the options of a link, and the words behind them
pub record LinkWords : Type 0 where
  pub options : LinkOptions
  pub rest : List (List ℕ)

-- None stands for a number that isn't allowed
unfoldable pub link_words : List ℕ → Option ℕ → Option ℕ → List (List ℕ) → Option LinkWords
link_words entry (Some branch) (Some toc) rest =
    Some (record { options = record { entry = entry; branch_span = branch; toc_span = toc }; rest = rest })
link_words entry branch toc rest = None

-- an option at the front of words, with its value and the words behind it
pub record Valued : Type 0 where
  pub value : List ℕ
  pub rest : List (List ℕ)

unfoldable pub option_in : List ℕ → List (List ℕ) → Option Valued
option_in name (option ∷ value ∷ words) = if bytes_eq option name then Some (record { value = value; rest = words }) else None
option_in name words = None

-- [--toc-span N]
abbrev pub link_by_toc : List ℕ → Option ℕ → List (List ℕ) → Option Valued → Option LinkWords
link_by_toc entry branch words None = link_words entry branch (Some TOC_SPAN) words
link_by_toc entry branch words (Some option) = link_words entry branch (toc_span_of option.value) option.rest

unfoldable pub link_with_toc : List ℕ → Option ℕ → List (List ℕ) → Option LinkWords
link_with_toc entry branch words = link_by_toc entry branch words (option_in (codes "--toc-span") words)

-- [--branch-span N] [--toc-span N]
abbrev pub link_by_branch : List ℕ → List (List ℕ) → Option Valued → Option LinkWords
link_by_branch entry words None = link_with_toc entry (Some BRANCH_SPAN) words
link_by_branch entry words (Some option) = link_with_toc entry (branch_span_of option.value) option.rest

unfoldable pub link_with_branch : List ℕ → List (List ℕ) → Option LinkWords
link_with_branch entry words = link_by_branch entry words (option_in (codes "--branch-span") words)

-- an entry that was named; the name isn't empty
abbrev pub link_named : List ℕ → List (List ℕ) → Option LinkWords
link_named [] words = None
link_named (c ∷ entry) words = link_with_branch (c ∷ entry) words

-- [-e NAME] [--branch-span N] [--toc-span N]
abbrev pub link_options_in : List (List ℕ) → Option LinkWords
link_options_in (option ∷ entry ∷ words) =
    if bytes_eq option (codes "-e") then link_named entry words else link_with_branch usual_entry (option ∷ entry ∷ words)
link_options_in words = link_with_branch usual_entry words

-- FILE...
abbrev pub link_files : List ℕ → Option LinkWords → Option Request
link_files out None = None
link_files out (Some link) = if are_files link.rest then Some (link_to out link.options link.rest) else None

-- link -o OUT [-e NAME] [--branch-span N] [--toc-span N] FILE...
abbrev pub link_request : List (List ℕ) → Option Request
link_request (option ∷ out ∷ words) =
    if bytes_eq option (codes "-o") && is_file_name out then link_files out (link_options_in words) else None
link_request words = None

-- show FILE
abbrev pub show_request : List (List ℕ) → Option Request
show_request (file ∷ []) = if is_file_name file then Some (show_file file) else None
show_request words = None

-- how many steps a run takes at most where the words don't say
abbrev pub usual_budget : ℕ
usual_budget = 1000000

-- the options of a run, and the words behind them
pub record RunWords : Type 0 where
  pub options : RunOptions
  pub rest : List (List ℕ)

-- None stands for a number that isn't allowed
unfoldable pub run_words : Option ℕ → Option (List ℕ) → List (List ℕ) → Option RunWords
run_words None input rest = None
run_words (Some budget) input rest = Some (record { options = record { input = input; budget = budget }; rest = rest })

-- [-i INPUT]
unfoldable pub run_with_input : Option ℕ → List (List ℕ) → Option RunWords
run_with_input budget (option ∷ input ∷ words) =
    if bytes_eq option (codes "-i") then (if is_file_name input then run_words budget (Some input) words else None)
    else run_words budget None (option ∷ input ∷ words)
run_with_input budget words = run_words budget None words

-- [-n N] [-i INPUT]
abbrev pub run_options_in : List (List ℕ) → Option RunWords
run_options_in (option ∷ number ∷ words) =
    if bytes_eq option (codes "-n") then run_with_input (number_of number) words
    else run_with_input (Some usual_budget) (option ∷ number ∷ words)
run_options_in words = run_with_input (Some usual_budget) words

-- IMAGE
abbrev pub run_of : RunOptions → List (List ℕ) → Option Request
run_of options (image ∷ []) = if is_file_name image then Some (run_image options image) else None
run_of options words = None

-- run [-n N] [-i INPUT] IMAGE
abbrev pub run_from : Option RunWords → Option Request
run_from None = None
run_from (Some run) = run_of run.options run.rest

abbrev pub run_request : List (List ℕ) → Option Request
run_request words = run_from (run_options_in words)

-- [-n N] [-i INPUT] FILE...
abbrev pub check_files : LinkOptions → Option RunWords → Option Request
check_files options None = None
check_files options (Some run) = if are_files run.rest then Some (check_job options run.options run.rest) else None

-- check [-e NAME] [--branch-span N] [--toc-span N] [-n N] [-i INPUT] FILE...
abbrev pub check_from : Option LinkWords → Option Request
check_from None = None
check_from (Some link) = check_files link.options (run_options_in link.rest)

abbrev pub check_request : List (List ℕ) → Option Request
check_request words = check_from (link_options_in words)

-- what a command takes: the words behind it
abbrev pub request_behind : List ℕ → List (List ℕ) → Option Request
request_behind command words =
    if bytes_eq command (codes "link") then link_request words
    else if bytes_eq command (codes "show") then show_request words
    else if bytes_eq command (codes "run") then run_request words
    else if bytes_eq command (codes "check") then check_request words
    else None

-- the grammar: a command, and the words that it takes
abbrev pub request_of : List (List ℕ) → Option Request
request_of [] = None
request_of (command ∷ words) = request_behind command words

-- what the words of the command ask for, if they are of the grammar
abbrev pub asked : Vec (String Global) Global → Option Request
asked words = request_of (texts words.items)

-- the files that a run fetches: its input behind all others, if there is one
abbrev pub with_input : List (List ℕ) → Option (List ℕ) → List (List ℕ)
with_input files None = files
with_input files (Some input) = files ++ input ∷ []

-- the files that a request fetches, in this order
abbrev pub names_of : Request → List (List ℕ)
names_of (link_to out options files) = files
names_of (show_file file) = file ∷ []
names_of (run_image options image) = with_input (image ∷ []) options.input
names_of (check_job options run files) = with_input files run.input

-- the files that the words name
abbrev pub names_asked : Option Request → List (List ℕ)
names_asked None = []
names_asked (Some request) = names_of request

-- the file that is to be written: that of a link alone
abbrev pub out_of : Option Request → Option (List ℕ)
out_of (Some (link_to out options files)) = Some out
out_of (Some (show_file file)) = None
out_of (Some (run_image options image)) = None
out_of (Some (check_job options run files)) = None
out_of None = None
