-- Patches over sections: each is of a record, of whose field it fills some bytes, or the word behind whose call, or the access of whose
-- pair. Those of two records are apart.
use Rattle.std.proofs.Common.{ℕ, ◌≡◌, ◌<◌, ◌≤◌, ◌+◌, ◌⊎◌, inl, inr, Bool, List, None, ap, subst, arith}
use Rattle.object_set.specs.declared.places.RecordId.{RecordId}
use Rattle.object_set.specs.declared.places.SectionId.{SectionId}
use Rattle.object_set.specs.Refusals.{set_refusal}
use Rattle.reloc_fields.specs.declared.kind.Kind.{Kind}
use Rattle.reloc_fields.specs.Table.{line_of}
use Rattle.symbol_table.specs.Text.{text_index}
use Rattle.call_sites.specs.declared.site.CallSite.{CallSite}
use Rattle.toc_groups.specs.Plans.{LaidData}
use Rattle.pcrel_rewrite.specs.Pairs.{IsPair}
use Rattle.layout_rounds.specs.FarSets.{member}
use Rattle.layout_rounds.specs.Shapes.{KeyedText}
use Rattle.layout_rounds.specs.Layout.{PlacedText}
use Rattle.placed_bytes.specs.Patches.{Patch, AreApart}
use Rattle.placed_bytes.specs.laws.Patched.{apart_back}
use Rattle.image_writer.specs.Job.{IsJob}
use Rattle.image_writer.proofs.FieldsApart.{Ranges, ranges_part, begin_of, own_section, IsField, IsFree, two_fields, field_access, field_slot, slot_access, two_accesses, one_section}
use Rattle.image_writer.proofs.InSections.{LiesAt, lies_apart}
use Rattle.image_writer.specs.inside.Gives.{LayoutGives}

module _ (files : List (List ℕ)) (plan : LaidData) (sites : List CallSite) (t : KeyedText) (far : List Bool) (places : PlacedText)
    (whole : set_refusal files ≡ None) (job : IsJob files plan sites t far places)
    (gives : LayoutGives t job.shape.sites.items job.span (member far)) where
  abbrev At : ℕ → ℕ → ℕ → Patch → Type 0
  At = LiesAt files plan sites t far places whole job gives

  abbrev number_of : RecordId → ℕ
  number_of r = text_index files r.file r.section

  -- bytes of a field
  pub record InField (r : RecordId) (p : Patch) : Type 0 where
    pub kind : Kind
    pub field : IsField files r kind
    pub start : ℕ
    pub count : ℕ
    pub from : begin_of files r ≤ start
    pub to : start + count ≤ begin_of files r + (line_of kind).width
    pub lies : At (number_of r) start count p

  -- the word behind a call
  pub record IsBehind (r : RecordId) (p : Patch) : Type 0 where
    pub kind : Kind
    pub field : IsField files r kind
    pub wide : 4 ≤ (line_of kind).width
    pub free : IsFree files (own_section files r) (begin_of files r)
    pub lies : At (number_of r) (begin_of files r + 4) 4 p

  -- the access of a pair
  pub record IsAccess (r : RecordId) (p : Patch) : Type 0 where
    pub kind : Kind
    pub field : IsField files r kind
    pub tail : ℕ
    pub pair : IsPair files (own_section files r) (begin_of files r) tail
    pub lies : At (number_of r) tail 4 p

  abbrev pub Claims : RecordId → Patch → Type 0
  Claims r p = InField r p ⊎ (IsBehind r p ⊎ IsAccess r p)

  -- ---- in a section

  pub record LiesSomewhere (p : Patch) : Type 0 where
    pub section : ℕ
    pub start : ℕ
    pub count : ℕ
    pub lies : At section start count p

  pub claims_lie : (r : RecordId) (p : Patch) → Claims r p → LiesSomewhere p
  claims_lie r p (inl field) = record { section = number_of r; start = field.start; count = field.count; lies = field.lies }
  claims_lie r p (inr (inl behind)) = record { section = number_of r; start = begin_of files r + 4; count = 4; lies = behind.lies }
  claims_lie r p (inr (inr access)) = record { section = number_of r; start = access.tail; count = 4; lies = access.lies }

  -- ---- apart

  file_is : (s u : SectionId) → s ≡ u → s.file ≡ u.file
  file_is s u same = ap (λ (x : SectionId). x.file) same

  section_is : (s u : SectionId) → s ≡ u → s.section ≡ u.section
  section_is s u same = ap (λ (x : SectionId). x.section) same

  one_place : (q r : RecordId) (k l : Kind) → IsField files q k → IsField files r l → number_of q ≡ number_of r →
      own_section files q ≡ own_section files r
  one_place q r k l one other same = one_section files whole job.records q r one.here other.here one.text other.text same

  fields : (q r : RecordId) (p p' : Patch) → (q ≡ r → ⊥) → InField q p → InField r p' → AreApart p p'
  fields q r p p' differ one other =
      lies_apart files plan sites t far places whole job gives (number_of q) one.start one.count p
      (number_of r) other.start other.count p'
      one.lies other.lies (λ same.
      (let place = one_place q r one.kind other.kind one.field other.field same in
      ranges_part (begin_of files q) (line_of one.kind).width (begin_of files r) (line_of other.kind).width
      one.start one.count other.start other.count
      (two_fields files whole job.records q r one.kind other.kind one.field other.field
      (file_is (own_section files q) (own_section files r) place) (section_is (own_section files q) (own_section files r) place) differ)
      one.from one.to other.from other.to))

  field_behind : (q r : RecordId) (p p' : Patch) → InField q p → IsBehind r p' → AreApart p p'
  field_behind q r p p' one other =
      lies_apart files plan sites t far places whole job gives (number_of q) one.start one.count p
      (number_of r) (begin_of files r + 4) 4 p' one.lies other.lies (λ same.
      (let place = one_place q r one.kind other.kind one.field other.field same in
      ranges_part (begin_of files q) (line_of one.kind).width (begin_of files r + 4) 4 one.start one.count (begin_of files r + 4) 4
      (field_slot files whole job.records (own_section files r) (begin_of files r) q one.kind other.free one.field
      (file_is (own_section files q) (own_section files r) place) (section_is (own_section files q) (own_section files r) place))
      one.from one.to (omega arith) (omega arith)))

  field_with_access : (q r : RecordId) (p p' : Patch) → InField q p → IsAccess r p' → AreApart p p'
  field_with_access q r p p' one other =
      lies_apart files plan sites t far places whole job gives (number_of q) one.start one.count p
      (number_of r) other.tail 4 p' one.lies other.lies (λ same.
      (let place = one_place q r one.kind other.kind one.field other.field same in
      ranges_part (begin_of files q) (line_of one.kind).width other.tail 4 one.start one.count other.tail 4
      (field_access files whole job.records (own_section files r) (begin_of files r) other.tail q one.kind other.pair one.field
      (file_is (own_section files q) (own_section files r) place) (section_is (own_section files q) (own_section files r) place))
      one.from one.to (omega arith) (omega arith)))

  behind_case : (one width other count : ℕ) → 4 ≤ width → 4 ≤ count → Ranges one width other count → Ranges (one + 4) 4 (other + 4) 4
  behind_case one width other count wide wide_too (inl before) = inl (omega (arith, wide, before))
  behind_case one width other count wide wide_too (inr behind) = inr (omega (arith, wide_too, behind))

  both_behind : (q r : RecordId) (p p' : Patch) → (q ≡ r → ⊥) → IsBehind q p → IsBehind r p' → AreApart p p'
  both_behind q r p p' differ one other =
      lies_apart files plan sites t far places whole job gives (number_of q) (begin_of files q + 4) 4 p
      (number_of r) (begin_of files r + 4) 4 p' one.lies other.lies (λ same.
      (let place = one_place q r one.kind other.kind one.field other.field same in
      behind_case (begin_of files q) (line_of one.kind).width (begin_of files r) (line_of other.kind).width one.wide other.wide
      (two_fields files whole job.records q r one.kind other.kind one.field other.field
      (file_is (own_section files q) (own_section files r) place) (section_is (own_section files q) (own_section files r) place) differ)))

  behind_access : (q r : RecordId) (p p' : Patch) → IsBehind q p → IsAccess r p' → AreApart p p'
  behind_access q r p p' one other =
      lies_apart files plan sites t far places whole job gives (number_of q) (begin_of files q + 4) 4 p
      (number_of r) other.tail 4 p' one.lies other.lies (λ same.
      (let place = one_place q r one.kind other.kind one.field other.field same in
      let free : IsFree files (own_section files r) (begin_of files q) =
      subst (λ (s : SectionId). IsFree files s (begin_of files q)) place one.free in
      slot_access files whole job.records (own_section files r) (begin_of files q) (begin_of files r) other.tail free other.pair))

  access_case : (s : SectionId) (head tail other end width count : ℕ) → IsPair files s head tail → IsPair files s other end →
      0 < width → 0 < count → Ranges head width other count → Ranges tail 4 end 4
  access_case s head tail other end width count one two some some_too (inl before) =
      two_accesses files whole job.records s head tail other end one two (omega (arith, some, before))
  access_case s head tail other end width count one two some some_too (inr behind) =
      elim (two_accesses files whole job.records s other end head tail two one (omega (arith, some_too, behind))) [
        | inl before ↦ inr before
        | inr after ↦ inl after
      ]

  both_accesses : (q r : RecordId) (p p' : Patch) → (q ≡ r → ⊥) → IsAccess q p → IsAccess r p' → AreApart p p'
  both_accesses q r p p' differ one other =
      lies_apart files plan sites t far places whole job gives (number_of q) one.tail 4 p (number_of r) other.tail 4 p'
      one.lies other.lies (λ same.
      (let place = one_place q r one.kind other.kind one.field other.field same in
      let pair : IsPair files (own_section files r) (begin_of files q) one.tail =
      subst (λ (s : SectionId). IsPair files s (begin_of files q) one.tail) place one.pair in
      let fills = one.field.fills in
      let fills_too = other.field.fills in
      access_case (own_section files r) (begin_of files q) one.tail (begin_of files r) other.tail (line_of one.kind).width
      (line_of other.kind).width pair other.pair fills fills_too
      (two_fields files whole job.records q r one.kind other.kind one.field other.field
      (file_is (own_section files q) (own_section files r) place) (section_is (own_section files q) (own_section files r) place) differ)))

  -- what two records claim
  pub claims_apart : (q r : RecordId) (p p' : Patch) → (q ≡ r → ⊥) → Claims q p → Claims r p' → AreApart p p'
  claims_apart q r p p' differ (inl one) (inl other) = fields q r p p' differ one other
  claims_apart q r p p' differ (inl one) (inr (inl other)) = field_behind q r p p' one other
  claims_apart q r p p' differ (inl one) (inr (inr other)) = field_with_access q r p p' one other
  claims_apart q r p p' differ (inr (inl one)) (inl other) = apart_back p' p (field_behind r q p' p other one)
  claims_apart q r p p' differ (inr (inl one)) (inr (inl other)) = both_behind q r p p' differ one other
  claims_apart q r p p' differ (inr (inl one)) (inr (inr other)) = behind_access q r p p' one other
  claims_apart q r p p' differ (inr (inr one)) (inl other) = apart_back p' p (field_with_access r q p' p other one)
  claims_apart q r p p' differ (inr (inr one)) (inr (inl other)) = apart_back p' p (behind_access r q p' p other one)
  claims_apart q r p p' differ (inr (inr one)) (inr (inr other)) = both_accesses q r p p' differ one other
