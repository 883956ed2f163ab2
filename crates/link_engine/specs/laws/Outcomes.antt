-- A link comes to at most one thing, and is refused where its files are.
use Rattle.std.proofs.Common.{◌≡◌, ℕ, inl, inr, List, Option, Some, None, refl, sym, ap, ◌∙◌, subst}
use Rattle.std.specs.Prelude.{Ok, Err}
use Rattle.elf64_exec.specs.declared.layout.Segment.{Segment}
use Rattle.elf64_exec.specs.Executable.{executable}
use Rattle.elf64_records.specs.First.{◌orelse◌}
use Rattle.elf64_records.specs.laws.First.{both_none}
use Rattle.object_set.specs.Refusals.{set_refusal}
use Rattle.object_set.specs.declared.refusal.Refusal.{Refusal}
use Rattle.symbol_table.specs.Candidates.{duplicate_refusal}
use Rattle.symbol_table.specs.Records.{records_refusal}
use Rattle.symbol_table.specs.Refusals.{resolve_refusal}
use Rattle.symbol_table.specs.Targets.{entry_refusal}
use Rattle.toc_groups.specs.Contents.{AreDataSegments}
use Rattle.toc_groups.specs.Data.{data_refusal}
use Rattle.toc_groups.proofs.OneImage.{one_data}
use Rattle.call_sites.specs.Refusals.{sites_refusal}
use Rattle.layout_rounds.specs.FarSets.{member}
use Rattle.pcrel_rewrite.specs.declared.text_pairs.TextPair.{TextPair}
use Rattle.image_writer.proofs.PlainTexts.{one_text}
use Rattle.image_writer.specs.Records.{text_overflow_at}
use Rattle.image_writer.specs.LaidText.{TextLayout}
use Rattle.image_writer.specs.Segments.{image_segments}
use Rattle.image_writer.specs.laws.OneText.{one_layout, one_refusal, not_both}
use Rattle.link_engine.specs.declared.files.Linked.{Linked}
use Rattle.link_engine.specs.Options.{LinkOptions}
use Rattle.link_engine.specs.Link.{plan_of, calls_of, early_refusal, IsLaidOut, overflow_at, overflow, rewriting_by, entry_address, text_of, GivesImage, IsLinked, LinksTo, LinksAreOne}

-- files that aren't refused before their text is laid out
pub record ArePassed (files : List (List ℕ)) (options : LinkOptions) : Type 0 where
  pub whole : set_refusal files ≡ None
  pub records : records_refusal files ≡ None
  pub fits : data_refusal files options.toc_span ≡ None
  pub calls : sites_refusal files (plan_of files options).groups ≡ None

pub passed : (files : List (List ℕ)) (options : LinkOptions) → early_refusal files options ≡ None → ArePassed files options
passed files options none =
    let entry = options.entry in
    let calls : Option Refusal = sites_refusal files (plan_of files options).groups in
    let pieces : Option Refusal = data_refusal files options.toc_span in
    let first = both_none (set_refusal files) (resolve_refusal files entry orelse (pieces orelse calls)) none in
    let second = both_none (resolve_refusal files entry) (pieces orelse calls) first.1 in
    let names = both_none (duplicate_refusal files) (entry_refusal files entry orelse records_refusal files) second.0 in
    let last = both_none pieces calls second.1 in
    record {
      whole = first.0;
      records = (both_none (entry_refusal files entry) (records_refusal files) names.1).1;
      fits = last.0;
      calls = last.1;
    }

module _ (files : List (List ℕ)) (options : LinkOptions) where
  overflow_of_pairs : (sections : List ℕ) (pairs pairs' : List TextPair) →
      overflow files options.toc_span sections (rewriting_by files options pairs)
      ≡ overflow files options.toc_span sections (rewriting_by files options pairs')
  unfolding overflow_at text_overflow_at
  overflow_of_pairs sections pairs pairs' = refl

  pub same_layout : (one other : TextLayout) → IsLaidOut files options one → IsLaidOut files options other → one ≡ other
  same_layout one other a b = one_layout files (plan_of files options) (calls_of files options) options.branch_span one other a.is b.is

  -- whichever list tells the recognised pairs
  pub same_overflow : (one other : TextLayout) (pairs pairs' : List TextPair) → IsLaidOut files options one → IsLaidOut files options other →
      overflow files options.toc_span one.places.sections (rewriting_by files options pairs)
      ≡ overflow files options.toc_span other.places.sections (rewriting_by files options pairs')
  same_overflow one other pairs pairs' a b =
      ap (λ (t : TextLayout). overflow files options.toc_span t.places.sections (rewriting_by files options pairs))
      (same_layout one other a b)
      ∙ overflow_of_pairs other.places.sections pairs pairs'

  -- a link has one refusal
  pub same_refusal : (one other : Refusal) → LinksTo files options (Err one) → LinksTo files options (Err other) → one ≡ other
  same_refusal one other (inl a) (inl b) = cc
  same_refusal one other (inl a) (inr (inl b)) = let none = b.passes in cc
  same_refusal one other (inl a) (inr (inr b)) = let none = b.laid.passes in cc
  same_refusal one other (inr (inl a)) (inl b) = let none = a.passes in cc
  same_refusal one other (inr (inl a)) (inr (inl b)) =
      one_refusal files (plan_of files options) (calls_of files options) options.branch_span one other a.stated b.stated a.is b.is
  same_refusal one other (inr (inl a)) (inr (inr b)) =
      absurd (not_both files (plan_of files options) (calls_of files options) options.branch_span b.text one a.stated b.laid.is a.is)
  same_refusal one other (inr (inr a)) (inl b) = let none = a.laid.passes in cc
  same_refusal one other (inr (inr a)) (inr (inl b)) =
      absurd (not_both files (plan_of files options) (calls_of files options) options.branch_span a.text other b.stated a.laid.is b.is)
  same_refusal one other (inr (inr a)) (inr (inr b)) =
      let same : Some one ≡ Some other = sym a.first ∙ same_overflow a.text b.text a.pairs b.pairs a.laid b.laid ∙ b.first in
      cc

  -- none where it gives an image
  not_refused : (image : List ℕ) (refusal : Refusal) → GivesImage files options image → LinksTo files options (Err refusal) →
      Ok image ≡ Err refusal
  not_refused image refusal a (inl b) = let none = a.is.laid.passes in cc
  not_refused image refusal a (inr (inl b)) =
      absurd (not_both files (plan_of files options) (calls_of files options) options.branch_span a.text refusal b.stated a.is.laid.is b.is)
  not_refused image refusal a (inr (inr b)) =
      let none : None ≡ Some refusal = sym a.is.fits ∙ same_overflow a.text b.text a.is.pairs b.pairs a.is.laid b.laid ∙ b.first in
      cc

  -- and it gives one image
  same_image : (one other : List ℕ) → GivesImage files options one → GivesImage files options other → one ≡ other
  same_image one other a b =
      let text = same_layout a.text b.text a.is.laid b.is.laid in
      let passes = passed files options a.is.laid.passes in
      let there : AreDataSegments files options.toc_span a.text.places.sections b.is.data_segments =
      subst (λ (t : TextLayout). AreDataSegments files options.toc_span t.places.sections b.is.data_segments) (sym text) b.is.data_is in
      let same = one_data files options.toc_span a.text.places.sections
      (record { whole = passes.whole; records = passes.records; fits = passes.fits }) a.is.data_segments b.is.data_segments
      a.is.data_is there in
      let made : TextLayout → List Segment → List ℕ → List ℕ = λ t segments bytes.
      executable (entry_address files options t) (image_segments segments (plan_of files options).text_start bytes) in
      let bytes : text_of files options b.text a.is.pairs ≡ text_of files options b.text b.is.pairs =
      one_text files (plan_of files options) (calls_of files options) b.text.keyed (member b.text.far) b.text.places a.is.pairs b.is.pairs
      a.is.pairs_are b.is.pairs_are in
      sym a.is.made ∙ ap (λ (t : TextLayout). made t a.is.data_segments (text_of files options t a.is.pairs)) text
      ∙ ap (λ (l : List Segment). made b.text l (text_of files options b.text a.is.pairs)) same
      ∙ ap (made b.text b.is.data_segments) bytes ∙ b.is.made

-- a link comes to one thing alone
pub links_are_one : LinksAreOne
links_are_one files options (Err one) (Err other) is other_is = ap Err (same_refusal files options one other is other_is)
links_are_one files options (Err one) (Ok other) is other_is = sym (not_refused files options other one other_is is)
links_are_one files options (Ok one) (Err other) is other_is = not_refused files options one other is other_is
links_are_one files options (Ok one) (Ok other) is other_is = ap Ok (same_image files options one other is other_is)

-- where the files are refused by themselves, so is the link
pub files_early : (files : List (List ℕ)) (options : LinkOptions) (refusal : Refusal) →
    set_refusal files ≡ Some refusal →
    early_refusal files options ≡ Some refusal
files_early files options refusal is =
    ap (λ (first : Option Refusal). first orelse (resolve_refusal files options.entry
    orelse (data_refusal files options.toc_span orelse sites_refusal files (plan_of files options).groups))) is

pub files_refused : (files : List (List ℕ)) (options : LinkOptions) (refusal : Refusal) →
    set_refusal files ≡ Some refusal →
    LinksTo files options (Err refusal)
files_refused files options refusal is = inl (files_early files options refusal is)

-- what is linked gives its image
pub linked_gives : (files : List (List ℕ)) (options : LinkOptions) (linked : Linked) → IsLinked files options linked →
    LinksTo files options (Ok linked.image.items)
linked_gives files options linked is = record { text = is.text; is = is.image }
