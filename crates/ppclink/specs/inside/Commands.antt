-- What a command that was read from the words asks for.
use Rattle.std.specs.Prelude.{ℕ, ◌≤◌, length, string_bytes}
use Rattle.std.specs.Option.{option_map}
use Rattle.ppclink.specs.declared.words.LinkOptions.{LinkOptions as Linking}
use Rattle.ppclink.specs.declared.words.RunOptions.{RunOptions as Running}
use Rattle.ppclink.specs.declared.words.OptionValue.{OptionValue}
use Rattle.ppclink.specs.declared.words.LinkWords.{LinkWords as LinkFront}
use Rattle.ppclink.specs.declared.words.RunWords.{RunWords as RunFront}
use Rattle.ppclink.specs.declared.words.Command.{Command}
use Rattle.ppclink.specs.declared.words.Command.TheVariants.{Link, Check, Show, Run}
use Rattle.link_engine.specs.Options.{LinkOptions, InRange}
use Rattle.ppclink.specs.Requests.{Request, RunOptions, LinkWords, RunWords, Valued, link_to, show_file, run_image, check_job, texts}

-- an option's value and the words behind it as their bytes
abbrev pub valued : OptionValue → Valued
valued o = record { value = o.value.now; rest = texts o.rest.now }

-- options with names as their bytes
abbrev pub link_options : Linking → LinkOptions
link_options o = record { entry = o.entry.now; branch_span = o.branch_span; toc_span = o.toc_span }

abbrev pub run_options : Running → RunOptions
run_options o = record { input = option_map (λ i. i.now) o.input; budget = o.budget }

-- and with the words behind them
abbrev pub link_parts : LinkFront → LinkWords
link_parts w = record { options = link_options w.options; rest = texts w.rest.now }

abbrev pub run_parts : RunFront → RunWords
run_parts w = record { options = run_options w.options; rest = texts w.rest.now }

abbrev pub meaning : Command → Request
meaning (Link out options files) = link_to out.now (link_options options) (texts files.now)
meaning (Check options run files) = check_job (link_options options) (run_options run) (texts files.now)
meaning (Show file) = show_file (string_bytes file.now)
meaning (Run options image) = run_image (run_options options) image.now

-- a link has 1 to 4096 files, and spans in their range
pub record CanLink (options : LinkOptions) (files : ℕ) : Type 0 where
  pub some : 1 ≤ files
  pub few : files ≤ 4096
  pub range : InRange options

abbrev pub IsAllowed : Command → Type 0
IsAllowed (Link out options files) = CanLink (link_options options) (length files.now)
IsAllowed (Check options run files) = CanLink (link_options options) (length files.now)
IsAllowed (Show file) = Unit {0}
IsAllowed (Run options image) = Unit {0}
