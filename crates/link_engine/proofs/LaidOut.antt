-- What a link that is laid out comes to.
use Rattle.std.specs.Prelude.{Err}
use Rattle.std.proofs.Common.{ℕ, ◌≡◌, ◌⊎◌, inl, inr, List, length, Some, None, ap, sym, ◌∙◌, subst}
use Rattle.elf64_exec.specs.declared.layout.Segment.{Segment}
use Rattle.elf64_exec.specs.Executable.{executable}
use Rattle.elf64_exec.specs.Loading.{Loads}
use Rattle.layout_rounds.specs.FarSets.{member}
use Rattle.object_set.specs.declared.refusal.Refusal.{Refusal}
use Rattle.object_set.specs.declared.refusal.Refusal.TheVariants.{Memory}
use Rattle.symbol_table.specs.Resolved.{ResolvedFiles}
use Rattle.symbol_table.specs.Targets.{entry_place}
use Rattle.symbol_table.specs.declared.target.CodePlace.{CodePlace}
use Rattle.toc_groups.specs.Plans.{LaidData, IsPlan}
use Rattle.call_sites.specs.declared.site.CallSite.{CallSite}
use Rattle.call_sites.specs.Refusals.{sites_refusal}
use Rattle.call_sites.specs.Sites.{call_sites}
use Rattle.toc_groups.specs.Contents.{AreDataSegments}
use Rattle.image_writer.specs.Image.{text_image}
use Rattle.image_writer.specs.Rewriting.{laid_by, rewriting_of}
use Rattle.toc_rewrite.specs.Folds.{slot_records}
use Rattle.toc_rewrite.specs.Folded.{FoldedSlots, AreFolds}
use Rattle.toc_rewrite.specs.Laid.{laid_files}
use Rattle.pcrel_rewrite.specs.declared.text_pairs.TextPair.{TextPair}
use Rattle.pcrel_rewrite.specs.Pairs.{ArePairs}
use Rattle.image_writer.specs.Segments.{image_segments}
use Rattle.image_writer.specs.LaidText.{TextLayout, IsTextLayout}
use Rattle.image_writer.specs.laws.OnePlan.{one_plan}
use Rattle.link_engine.specs.Link.{plan_of, calls_of, entry_address, segments_of, IsLaidOut, HasOverflow, IsImageOf, LinksTo, overflow}
use Rattle.link_engine.specs.Options.{LinkOptions}
use Rattle.link_engine.specs.inside.Writing.{IsResolved, IsLaidJob, IsWritten, address_of}
use Rattle.link_engine.proofs.Entered.{early_passes}

-- from what each stage gives, where the options are read
pub laid_job : (resolved : ResolvedFiles) (options : LinkOptions) (branch toc : ℕ) (plan : LaidData) (groups : List ℕ)
    (sites calls : List CallSite)
    (text : TextLayout) (pairs : List TextPair) → branch ≡ options.branch_span → toc ≡ options.toc_span → IsResolved resolved options →
    IsPlan resolved.files toc plan →
    groups ≡ plan.groups → sites_refusal resolved.files groups ≡ None → sites ≡ call_sites resolved.files groups → calls ≡ sites →
    IsTextLayout resolved.files plan calls branch text → ArePairs resolved.files pairs →
    IsLaidJob resolved.files options plan calls text pairs
laid_job resolved options branch toc plan groups sites calls text pairs branch_is toc_is is is_plan_read same_groups none sites_are calls_are laid
    pairs_are =
    let files = resolved.files in
    let is_plan : IsPlan files options.toc_span plan =
    subst (λ (n : ℕ). IsPlan files n plan) toc_is is_plan_read in
    record {
      passes = early_passes resolved options plan groups is is_plan same_groups none;
      is_plan = is_plan;
      are = calls_are ∙ sites_are ∙ ap (call_sites files) same_groups;
      laid = subst (λ (n : ℕ). IsTextLayout files plan calls n text) branch_is laid;
      pairs_are = pairs_are;
    }

module _ (files : List (List ℕ)) (options : LinkOptions) (plan : LaidData) (calls : List CallSite) (text : TextLayout)
    (pairs : List TextPair) (job : IsLaidJob files options plan calls text pairs) where
  pub plan_is : plan ≡ plan_of files options
  plan_is = one_plan files options.toc_span plan job.is_plan

  calls_are : calls ≡ calls_of files options
  calls_are = job.are ∙ ap (λ (p : LaidData). call_sites files p.groups) plan_is

  pub calls_count : length calls ≡ length (calls_of files options)
  calls_count = ap (λ (l : List CallSite). length l) calls_are

  pub laid_out : IsLaidOut files options text
  laid_out = record {
    passes = job.passes;
    is = subst (λ (p : LaidData). IsTextLayout files p (calls_of files options) options.branch_span text) plan_is
        (subst (λ (l : List CallSite). IsTextLayout files plan l options.branch_span text) calls_are job.laid);
  }

  -- a field that doesn't hold its value
  overflows_at : (r : Refusal) → overflow files plan.span text.places.sections (rewriting_of files plan.span pairs) ≡ Some r →
      HasOverflow files options r
  overflows_at r first = record {
    text = text;
    pairs = pairs;
    laid = laid_out;
    pairs_are = job.pairs_are;
    first = ap (λ (n : ℕ). overflow files n text.places.sections (rewriting_of files n pairs)) (sym job.is_plan.span_is) ∙ first;
  }

  pub overflows : (r : Refusal) →
      (r ≡ Memory) ⊎ (overflow files plan.span text.places.sections (rewriting_of files plan.span pairs) ≡ Some r) →
      (r ≡ Memory) ⊎ LinksTo files options (Err r)
  overflows r (inl memory) = inl memory
  overflows r (inr first) = inr (inr (inr (overflows_at r first)))

  -- the image of a text, which loads as the segments of which it was made
  pub record IsLoadedImage (image : List ℕ) : Type 0 where
    pub is : IsImageOf files options text image
    pub loads : Loads image (entry_address files options text) (segments_of files options text is.pairs is.data_segments)

  -- where the files are entered at that place
  pub gives : (entry : CodePlace) (image : List ℕ) → entry ≡ entry_place files options.entry →
      overflow files plan.span text.places.sections (rewriting_of files plan.span pairs) ≡ None →
      IsWritten files plan calls (address_of text.places.sections entry) text (rewriting_of files plan.span pairs) image →
      IsLoadedImage image
  gives entry image place none written =
      let span = job.is_plan.span_is in
      let parts : ℕ → LaidData → List CallSite → List Segment = λ n p l.
      image_segments written.data_segments p.text_start
      (text_image files p l text.keyed (member text.far) text.places (rewriting_of files n pairs)) in
      let there : (P : ℕ → List Segment → Type 0) → P (address_of text.places.sections entry) (parts plan.span plan calls) →
      P (entry_address files options text) (parts options.toc_span (plan_of files options) (calls_of files options)) = λ P holds.
      subst (λ (l : List CallSite). P (entry_address files options text) (parts options.toc_span (plan_of files options) l)) calls_are
      (subst (λ (p : LaidData). P (entry_address files options text) (parts options.toc_span p calls)) plan_is
      (subst (λ (n : ℕ). P (entry_address files options text) (parts n plan calls)) span
      (subst (λ (e : CodePlace). P (address_of text.places.sections e) (parts plan.span plan calls)) place holds))) in
      record {
        is = record {
          laid = laid_out;
          pairs = pairs;
          pairs_are = job.pairs_are;
          fits = ap (λ (n : ℕ). overflow files n text.places.sections (rewriting_of files n pairs)) (sym span) ∙ none;
          data_segments = written.data_segments;
          data_is = subst (λ (n : ℕ). AreDataSegments files n text.places.sections written.data_segments) span written.data_is;
          made = there (λ (e : ℕ) (l : List Segment). executable e l ≡ image) written.made;
        };
        loads = there (Loads image) written.loads;
      }

  -- as many slots are folded as are foldable
  pub folds_count : (folds : FoldedSlots) → AreFolds (laid_files files plan.bases plan.pieces) folds →
      length folds.slots ≡ length (slot_records (laid_by files options.toc_span))
  folds_count folds is =
      is.count ∙ ap (λ (bases : List ℕ). length (slot_records (laid_files files bases plan.pieces))) job.is_plan.bases
      ∙ ap (λ (pieces : List ℕ). length (slot_records (laid_files files (laid_by files options.toc_span).bases pieces))) job.is_plan.pieces
