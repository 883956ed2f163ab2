-- What a plain run of files comes to, which needs no image: it is refused as a link is, or it goes so far (ELFv2 ABI, "Process
-- Initialization").
use Rattle.std.specs.Prelude.{ℕ, ◌≡◌, List, [], drop, None, Result, Ok, Err}
use Rattle.elf64_exec.specs.declared.layout.Segment.{Segment}
use Rattle.object_set.specs.declared.places.SectionId.{SectionId}
use Rattle.object_set.specs.declared.refusal.Refusal.{Refusal}
use Rattle.symbol_table.specs.Targets.{entry_place}
use Rattle.toc_groups.specs.Contents.{AreDataSegments}
use Rattle.call_sites.specs.Sites.{text_section, no_section}
use Rattle.pcrel_rewrite.specs.declared.text_pairs.TextPair.{TextPair}
use Rattle.pcrel_rewrite.specs.Pairs.{ArePairs}
use Rattle.image_writer.specs.LaidText.{TextLayout}
use Rattle.power_machine.specs.declared.world.Answer.{Answer}
use Rattle.power_machine.specs.declared.world.World.{World}
use Rattle.power_machine.specs.Memory.{Permission}
use Rattle.power_machine.specs.Runs.{Going, Done, Gone, run_in}
use Rattle.power_machine.specs.Start.{start_ranges}
use Rattle.plain_machine.specs.Actions.{PlainRun, PlainProgress, guarded}
use Rattle.plain_run.specs.declared.plain.PlainOutcome.{PlainOutcome}
use Rattle.plain_run.specs.declared.plain.PlainOutcome.TheVariants as ending
use Rattle.plain_run.specs.Data.{entry_place as place_of, plain_start}
use Rattle.plain_run.specs.Places.{toc_ranges}
use Rattle.plain_run.specs.Runs.{ReachesIn}
use Rattle.plain_run.specs.Jobs.{PlainJob}
use Rattle.link_engine.specs.declared.plain.PlainEnd.{PlainEnd}
use Rattle.link_engine.specs.Link.{LinksTo, IsLaidOut, overflow, plan_of, rewriting_by}
use Rattle.link_engine.specs.Options.{LinkOptions}

module _ (files : List (List ℕ)) (options : LinkOptions) where
  -- nothing of a link of the files is refused, and these are its recognised pairs and its segments of data
  pub record IsUnrefused (pairs : List TextPair) (data_segments : List Segment) : Type 0 where
    pub text : TextLayout
    pub laid : IsLaidOut files options text
    pub pairs_are : ArePairs files pairs
    pub fits : overflow files options.toc_span text.places.sections (rewriting_by files options pairs) ≡ None
    pub data_is : AreDataSegments files options.toc_span text.places.sections data_segments

  -- the job that is run
  abbrev pub plain_job : List TextPair → PlainJob
  plain_job pairs = record { files = files; plan = plan_of files options; pairs = pairs }

  -- what its memory permits
  abbrev pub plain_may : List Segment → Permission
  plain_may data_segments = guarded (start_ranges data_segments) (toc_ranges files options.toc_span)

  -- its run at the start, at the global entry point of what the entry's name stands for, in a world with this input and these answers
  abbrev pub plain_begun : List Segment → List ℕ → List Answer → PlainRun
  plain_begun data_segments input answers = record {
    state = plain_start files options.toc_span (place_of (entry_place files options.entry)) data_segments;
    input = input;
    answers = answers;
    events = [];
    ended = None;
  }

  -- nothing is refused, and the run from there goes so far in at most so many steps
  pub record PlainRunsTo (input : List ℕ) (answers : List Answer) (n : ℕ) (progress : PlainProgress) : Type 0 where
    pub pairs : List TextPair
    pub data_segments : List Segment
    pub unrefused : IsUnrefused pairs data_segments
    pub reaches : ReachesIn (plain_job pairs) (plain_may data_segments) n (plain_begun data_segments input answers) progress

  -- what files come to without an image
  abbrev pub PlainComesTo : List ℕ → List Answer → ℕ → Result PlainProgress Refusal → Type 0
  PlainComesTo input answers n (Err refusal) = LinksTo files options (Err refusal)
  PlainComesTo input answers n (Ok progress) = PlainRunsTo input answers n progress

-- how a run ended, if it did
abbrev pub outcome_of : PlainProgress → PlainOutcome
outcome_of (Going r) = ending.Budget
outcome_of (Done status r) = ending.Exited status
outcome_of (Gone reason r) = ending.Left reason r.state.at.section r.state.at.offset

-- the section of the place where a run left; of one that didn't, both numbers are 0
abbrev pub section_left : List (List ℕ) → PlainOutcome → SectionId
section_left files (ending.Left reason section offset) = text_section files section
section_left files other = no_section

-- the end of a plain run of at most so many steps in a world, which goes on with the run
pub record IsPlainEnd (files : List (List ℕ)) (options : LinkOptions) (budget : ℕ) (old new : World) (end : PlainEnd) : Type 0 where
  pub progress : PlainProgress
  pub runs : PlainRunsTo files options (drop old.taken old.input.items) (drop old.used old.answers.items) budget progress
  pub outcome : end.outcome ≡ outcome_of progress
  pub events : end.events.items ≡ (run_in progress).events
  pub file : end.file ≡ (section_left files end.outcome).file
  pub section : end.section ≡ (section_left files end.outcome).section
  pub input_left : drop new.taken new.input.items ≡ (run_in progress).input
  pub answers_left : drop new.used new.answers.items ≡ (run_in progress).answers

-- files come to one thing and no other without an image
abbrev pub PlainRunsAreOne : Type 0
PlainRunsAreOne =
    (files : List (List ℕ)) (options : LinkOptions) (input : List ℕ) (answers : List Answer) (n : ℕ)
    (one other : Result PlainProgress Refusal) →
    PlainComesTo files options input answers n one →
    PlainComesTo files options input answers n other →
    one ≡ other
