-- What is written of a job whose text is laid out.
use Rattle.std.specs.Prelude.{ℕ, ◌≡◌, ◌+◌, ◌-◌, List, length, None, slice_index}
use Rattle.elf64_exec.specs.declared.layout.Segment.{Segment}
use Rattle.elf64_exec.specs.Executable.{executable}
use Rattle.elf64_exec.specs.Loading.{Loads}
use Rattle.layout_rounds.specs.FarSets.{member}
use Rattle.layout_rounds.specs.Layout.{text_end}
use Rattle.symbol_table.specs.declared.target.CodePlace.{CodePlace}
use Rattle.object_set.specs.Refusals.{set_refusal}
use Rattle.symbol_table.specs.Refusals.{resolve_refusal}
use Rattle.symbol_table.specs.Resolved.{ResolvedFiles}
use Rattle.symbol_table.specs.Targets.{entry_place}
use Rattle.link_engine.specs.Options.{LinkOptions}
use Rattle.symbol_table.specs.laws.Targets.{IsInstructionAt}
use Rattle.toc_groups.specs.Contents.{AreDataSegments}
use Rattle.toc_groups.specs.Plans.{LaidData, IsPlan}
use Rattle.toc_rewrite.specs.Folded.{AreFolds}
use Rattle.toc_rewrite.specs.Laid.{laid_files}
use Rattle.pcrel_rewrite.specs.declared.text_pairs.TextPair.{TextPair}
use Rattle.pcrel_rewrite.specs.Pairs.{ArePairs}
use Rattle.call_sites.specs.declared.site.CallSite.{CallSite}
use Rattle.call_sites.specs.Sites.{call_sites}
use Rattle.image_writer.specs.Image.{text_image}
use Rattle.image_writer.specs.Job.{IsJob}
use Rattle.image_writer.specs.LaidText.{TextLayout, IsTextLayout, layout_of}
use Rattle.image_writer.specs.Rewriting.{Rewriting, rewriting_of}
use Rattle.image_writer.specs.Segments.{image_segments}
use Rattle.link_engine.specs.declared.whole_job.WholeJob.{WholeJob}
use Rattle.link_engine.specs.Link.{early_refusal, overflow}

-- files are entered at an instruction of one of their sections
abbrev pub IsEntered : List (List ℕ) → CodePlace → Type 0
IsEntered files place = (file : ℕ) × (section : ℕ) × IsInstructionAt files place file section

-- the address of a place in text
abbrev pub address_of : List ℕ → CodePlace → ℕ
address_of sections place = slice_index sections place.section + place.offset

-- an image is the executable of a job's data and text, which starts at an address, and loads as that
pub record IsWritten (files : List (List ℕ)) (plan : LaidData) (calls : List CallSite) (entry : ℕ) (text : TextLayout) (w : Rewriting)
    (image : List ℕ) : Type 0 where
  pub data_segments : List Segment
  pub data_is : AreDataSegments files plan.span text.places.sections data_segments
  pub made : executable entry
      (image_segments data_segments plan.text_start (text_image files plan calls text.keyed (member text.far) text.places w)) ≡ image
  pub loads : Loads image entry
      (image_segments data_segments plan.text_start (text_image files plan calls text.keyed (member text.far) text.places w))

-- files whose names and records aren't refused, and the place where they are entered
pub record IsResolved (resolved : ResolvedFiles) (options : LinkOptions) : Type 0 where
  pub whole : set_refusal resolved.files ≡ None
  pub passes : resolve_refusal resolved.files options.entry ≡ None
  pub entry : resolved.entry ≡ entry_place resolved.files options.entry

-- a job that isn't refused before its text is laid out, its text, and the recognised pairs of its files
pub record IsLaidJob (files : List (List ℕ)) (options : LinkOptions) (plan : LaidData) (calls : List CallSite) (text : TextLayout)
    (pairs : List TextPair) : Type 0 where
  pub passes : early_refusal files options ≡ None
  pub is_plan : IsPlan files options.toc_span plan
  pub are : calls ≡ call_sites files plan.groups
  pub laid : IsTextLayout files plan calls options.branch_span text
  pub pairs_are : ArePairs files pairs

-- nothing of a job is refused, and this is where it lies, what is rewritten, and what is loaded
pub record IsWholeJob (files : List (List ℕ)) (options : LinkOptions) (job : WholeJob) : Type 0 where
  pub laid : IsLaidJob files options job.plan job.calls (layout_of job.settled.keyed job.settled.far job.settled.places) job.pairs
  pub stands : IsJob files job.plan job.calls job.settled.keyed job.settled.far job.settled.places
  pub folds_are : AreFolds (laid_files files job.plan.bases job.plan.pieces) job.folds
  pub fits : overflow files job.plan.span job.settled.places.sections (rewriting_of files job.plan.span job.pairs) ≡ None
  pub data_is : AreDataSegments files job.plan.span job.settled.places.sections job.loaded.data.items
  pub text_is : job.loaded.text.items ≡ text_image files job.plan job.calls job.settled.keyed (member job.settled.far)
      job.settled.places (rewriting_of files job.plan.span job.pairs)
  pub text_size : length job.loaded.text.items ≡ text_end job.settled.keyed (member job.settled.far) - job.plan.text_start
