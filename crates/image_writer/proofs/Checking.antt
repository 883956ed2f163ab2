-- Which record in text is told as one that overflows.
use Rattle.std.proofs.Common.{ℕ, ℤ, ◌≡◌, Bool, true, false, not, ◌||◌, List, None, Some, ap, sym, ◌∙◌, refl, if◌then◌else◌}
use Rattle.elf64_records.specs.First.{when}
use Rattle.object_set.specs.declared.places.RecordId.{RecordId}
use Rattle.object_set.specs.declared.refusal.Refusal.{Refusal}
use Rattle.object_set.specs.declared.refusal.Refusal.TheVariants.{Overflow}
use Rattle.object_set.specs.Files.{file_at}
use Rattle.reloc_fields.specs.declared.kind.Kind.{Kind}
use Rattle.reloc_fields.specs.Table.{line_of}
use Rattle.symbol_table.specs.Records.{site_of}
use Rattle.toc_groups.specs.Values.{record_value, passes}
use Rattle.toc_rewrite.specs.declared.loads.TocRecord.{TocRecord}
use Rattle.toc_rewrite.specs.Uses.{is_folded_load}
use Rattle.image_writer.specs.Fields.{text_kind}
use Rattle.image_writer.specs.Records.{overflow_by, text_overflow_at}
use Rattle.image_writer.specs.Rewriting.{Rewriting}
use Rattle.image_writer.specs.TocLoads.{toc_record}

checked_case : (folded fits : Bool) (refusal : Refusal) → true ≡ (folded || fits) →
    (if folded then None else when (not fits) refusal) ≡ None
checked_case true fits refusal is = refl
checked_case false true refusal is = refl
checked_case false false refusal is = cc

told_case : (folded fits : Bool) (refusal : Refusal) → false ≡ (folded || fits) →
    (if folded then None else when (not fits) refusal) ≡ Some refusal
told_case true fits refusal is = cc
told_case false true refusal is = cc
told_case false false refusal is = refl

module _ (files : List (List ℕ)) (span : ℕ) (text : List ℕ) (w : Rewriting) (r : RecordId) where
  pub none_told : text_kind files r ≡ None → text_overflow_at files span text w r ≡ None
  unfolding text_overflow_at
  none_told is = ap (overflow_by files span text w r) is

  module _ (kind : Kind) (load : TocRecord) (v : ℤ) (t : Bool) (is : text_kind files r ≡ Some kind)
      (seen : load ≡ toc_record files span text w.slots r kind) (kinds : load.kind ≡ kind) (value : v ≡ record_value files span text r kind)
      (test : t ≡ (is_folded_load load || passes (line_of load.kind).check v)) where
    judged : t ≡ (is_folded_load (toc_record files span text w.slots r kind)
        || passes (line_of kind).check (record_value files span text r kind))
    judged =
        test ∙ ap (λ (k : Kind). is_folded_load load || passes (line_of k).check v) kinds
        ∙ ap (λ (l : TocRecord). is_folded_load l || passes (line_of kind).check v) seen
        ∙ ap (λ (x : ℤ). is_folded_load (toc_record files span text w.slots r kind) || passes (line_of kind).check x) value

    pub not_told : t ≡ true → text_overflow_at files span text w r ≡ None
    unfolding text_overflow_at
    not_told holds =
        ap (overflow_by files span text w r) is
        ∙ checked_case (is_folded_load (toc_record files span text w.slots r kind))
        (passes (line_of kind).check (record_value files span text r kind))
        (Overflow (site_of (file_at files r.file) r) (record_value files span text r kind)) (sym holds ∙ judged)

    pub is_told : t ≡ false → text_overflow_at files span text w r ≡ Some (Overflow (site_of (file_at files r.file) r) v)
    unfolding text_overflow_at
    is_told fails =
        ap (overflow_by files span text w r) is
        ∙ told_case (is_folded_load (toc_record files span text w.slots r kind))
        (passes (line_of kind).check (record_value files span text r kind))
        (Overflow (site_of (file_at files r.file) r) (record_value files span text r kind)) (sym fails ∙ judged)
        ∙ ap (λ (x : ℤ). Some (Overflow (site_of (file_at files r.file) r) x)) (sym value)
