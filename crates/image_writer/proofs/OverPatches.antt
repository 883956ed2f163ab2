-- The calls of a text and what its records put are apart, and lie in its sections.
use Rattle.std.proofs.Common.{ℕ, ◌≡◌, ◌<◌, ◌-◌, Bool, List, ◌++◌, Some, None, is_some, length, All, AllPairs, ap, sym, ◌∙◌, arith}
use Rattle.std.specs.List.{range_with_len, slice_index_or}
use Rattle.std.proofs.lemmas.List.Elements.{All-append}
use Rattle.elf64_records.specs.Records.{rela_of}
use Rattle.object_set.specs.declared.places.RecordId.{RecordId}
use Rattle.object_set.specs.Files.{file_at}
use Rattle.object_set.specs.Refusals.{set_refusal}
use Rattle.object_set.specs.Walks.{all_items, record_walk, IsRecord}
use Rattle.object_set.specs.laws.Walks.{all_records_in}
use Rattle.reloc_fields.specs.declared.kind.Kind.{Kind}
use Rattle.symbol_table.specs.Fields.{kind_numbered}
use Rattle.call_sites.specs.declared.site.CallSite.{CallSite}
use Rattle.call_sites.specs.Sites.{linkage_of}
use Rattle.toc_groups.specs.Plans.{LaidData}
use Rattle.layout_rounds.specs.FarSets.{member}
use Rattle.layout_rounds.specs.Shapes.{KeyedText}
use Rattle.layout_rounds.specs.Layout.{PlacedText, text_end}
use Rattle.placed_bytes.specs.Patches.{Patch, AreApart, ArePlaced}
use Rattle.image_writer.specs.Calls.{call_patch, call_patches}
use Rattle.image_writer.specs.Job.{IsJob}
use Rattle.image_writer.specs.Places.{IsTextRecord, RewritesPairs}
use Rattle.image_writer.specs.Records.{record_patch, record_patches}
use Rattle.image_writer.specs.Rewriting.{Rewriting}
use Rattle.image_writer.proofs.CallClaims.{record_at, calls_differ, call_claims, call_apart}
use Rattle.image_writer.proofs.Claims.{Claims, LiesSomewhere, claims_lie, claims_apart}
use Rattle.image_writer.proofs.Fielding.{text_field}
use Rattle.image_writer.proofs.InSections.{section_within}
use Rattle.image_writer.proofs.PatchLists.{all_flat, all_range, pairs_append, pairs_flat, pairs_range}
use Rattle.image_writer.proofs.RecordClaims.{IsPutBy, record_claims, record_apart}
use Rattle.image_writer.proofs.RecordList.{records_differ}
use Rattle.image_writer.specs.inside.Gives.{LayoutGives}

module _ (files : List (List ℕ)) (plan : LaidData) (sites : List CallSite) (t : KeyedText) (far : List Bool) (places : PlacedText)
    (whole : set_refusal files ≡ None) (job : IsJob files plan sites t far places)
    (gives : LayoutGives t job.shape.sites.items job.span (member far))
    (w : Rewriting) (pairs : RewritesPairs files w.pairs) where
  abbrev ClaimsOf : RecordId → Patch → Type 0
  ClaimsOf = Claims files plan sites t far places whole job gives

  -- the record of call i
  abbrev record_of : (i : ℕ) → i < length sites → RecordId
  record_of i lt = (record_at files plan sites t far places whole job gives i lt).id

  record IsOfCall (p : Patch) : Type 0 where
    number : ℕ
    within : number < length sites
    claims : ClaimsOf (record_of number within) p

  record IsOfRecord (p : Patch) : Type 0 where
    id : RecordId
    put : IsPutBy files plan sites t far places whole job gives w pairs id p

  abbrev calls : List Patch
  calls = call_patches files plan.bases t (member far) places plan.text_start sites

  abbrev records : List Patch
  records = record_patches files plan.span places.sections w plan.text_start

  abbrev call : ℕ → List Patch
  call i = call_patch files plan.bases t (member far) places plan.text_start sites i

  abbrev put : RecordId → List Patch
  put r = record_patch files plan.span places.sections w plan.text_start r

  call_are : (i : ℕ) (lt : i < length sites) → All (ClaimsOf (record_of i lt)) (call i)
  call_are i lt = call_claims files plan sites t far places whole job gives i lt

  calls_are : All IsOfCall calls
  calls_are =
      all_flat IsOfCall call (range_with_len 0 (length sites))
      (all_range (λ i. All IsOfCall (call i)) 0 (length sites) (λ i from below. λ x d within.
      (let lt : i < length sites = omega (arith, below) in
      record { number = i; within = lt; claims = call_are i lt x d within })))

  calls_apart : AllPairs AreApart calls
  calls_apart =
      pairs_flat AreApart call (range_with_len 0 (length sites))
      (all_range (λ i. AllPairs AreApart (call i)) 0 (length sites) (λ i from below.
      call_apart files plan sites t far places whole job gives i (omega (arith, below))))
      (pairs_range (λ i j. All (λ a. All (AreApart a) (call j)) (call i)) 0 (length sites)
      (λ i j from less below. λ x d within. λ y e inside.
      (let one : i < length sites = omega (arith, less, below) in
      let other : j < length sites = omega (arith, below) in
      claims_apart files plan sites t far places whole job gives (record_of i one) (record_of j other)
      (slice_index_or (call i) x d) (slice_index_or (call j) y e)
      (calls_differ files plan sites t far places whole job gives i j one other less)
      (call_are i one x d within) (call_are j other y e inside))))

  put_are : (r : RecordId) → IsRecord files r → All (IsPutBy files plan sites t far places whole job gives w pairs r) (put r)
  put_are r here = record_claims files plan sites t far places whole job gives w pairs r here

  records_are : All IsOfRecord records
  records_are =
      all_flat IsOfRecord put (all_items record_walk files) (λ k d within. λ x e inside.
      (let r = slice_index_or (all_items record_walk files) k d in
      record { id = r; put = put_are r (all_records_in files k d within) x e inside }))

  records_apart : AllPairs AreApart records
  records_apart =
      pairs_flat AreApart put (all_items record_walk files)
      (λ k d within. record_apart files plan sites t far places whole job gives w pairs
      (slice_index_or (all_items record_walk files) k d) (all_records_in files k d within))
      (λ i j d before within. λ x e inside. λ y g inside_too.
      (let q = slice_index_or (all_items record_walk files) i d in
      let r = slice_index_or (all_items record_walk files) j d in
      let one = put_are q (all_records_in files i d (omega (arith, before, within))) x e inside in
      let other = put_are r (all_records_in files j d within) y g inside_too in
      claims_apart files plan sites t far places whole job gives q r (slice_index_or (put q) x e) (slice_index_or (put r) y g)
      (records_differ files i j d before within) one.claims other.claims))

  -- a call's record puts nothing else
  call_other : (i : ℕ) (lt : i < length sites) (r : RecordId) (k : Kind) → IsTextRecord files r k → record_of i lt ≡ r → ⊥
  call_other i lt r k is same =
      let own = record_at files plan sites t far places whole job gives i lt in
      let field = text_field files r k is.kind_is in
      let number = ap (λ (q : RecordId). kind_numbered (rela_of (file_at files q.file) q.table q.entry).kind) same in
      let both : Some own.kind ≡ Some k = sym own.field.known ∙ number ∙ field.known in
      let kinds : own.kind ≡ k = cc in
      let call = own.call in
      let plain = field.plain in
      let one = ap (λ (x : Kind). is_some (linkage_of x)) kinds in
      cc

  both_apart : (p q : Patch) → IsOfCall p → IsOfRecord q → AreApart p q
  both_apart p q one other =
      claims_apart files plan sites t far places whole job gives (record_of one.number one.within) other.id p q
      (call_other one.number one.within other.id other.put.kind other.put.is) one.claims other.put.claims

  -- ---- all

  pub over_lies : All (LiesSomewhere files plan sites t far places whole job gives) (calls ++ records)
  over_lies =
      All-append (LiesSomewhere files plan sites t far places whole job gives) calls records
      (λ x d within. (let is = calls_are x d within in
      claims_lie files plan sites t far places whole job gives (record_of is.number is.within) (slice_index_or calls x d) is.claims))
      (λ x d within. (let is = records_are x d within in
      claims_lie files plan sites t far places whole job gives is.id (slice_index_or records x d) is.put.claims))

  pub over_placed : ArePlaced (text_end t (member far) - plan.text_start) (calls ++ records)
  over_placed = record {
    within = λ x d within.
        (let is = over_lies x d within in
        section_within files plan sites t far places whole job gives is.section is.start is.count
        (slice_index_or (calls ++ records) x d) is.lies);
    apart = pairs_append AreApart calls records calls_apart records_apart (λ x d within. λ y e inside.
        both_apart (slice_index_or calls x d) (slice_index_or records y e) (calls_are x d within) (records_are y e inside));
  }
