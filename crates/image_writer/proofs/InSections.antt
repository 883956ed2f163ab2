-- Patches that lie in a section or in a stub: in the text, and apart where their ranges are.
use Rattle.std.proofs.Common.{ℕ, ◌≡◌, ◌<◌, ◌≤◌, ◌+◌, ◌-◌, inl, inr, Bool, List, None, length, slice_index, ap, sym, arith}
use Rattle.std.proofs.lemmas.Bool.{cases_lt}
use Rattle.object_set.specs.Refusals.{set_refusal}
use Rattle.call_sites.specs.declared.site.CallSite.{CallSite}
use Rattle.toc_groups.specs.Plans.{LaidData}
use Rattle.layout_rounds.specs.FarSets.{member}
use Rattle.layout_rounds.specs.Shapes.{KeyedText}
use Rattle.layout_rounds.specs.Layout.{PlacedText, section_count, section_size, key_count, stub_size, text_end, section_address, stub_address}
use Rattle.placed_bytes.specs.Patches.{Patch, end_of, AreApart}
use Rattle.image_writer.specs.Job.{IsJob}
use Rattle.image_writer.proofs.FieldsApart.{Ranges}
use Rattle.image_writer.specs.inside.Gives.{LayoutGives}
use Rattle.image_writer.proofs.Room.{start_is}

module _ (files : List (List ℕ)) (plan : LaidData) (sites : List CallSite) (t : KeyedText) (far : List Bool) (places : PlacedText)
    (whole : set_refusal files ≡ None) (job : IsJob files plan sites t far places)
    (gives : LayoutGives t job.shape.sites.items job.span (member far)) where
  -- so many bytes from an offset of a section on
  pub record LiesAt (s offset count : ℕ) (p : Patch) : Type 0 where
    pub section_in : s < section_count t
    pub within : offset + count ≤ section_size t s
    pub at : p.at ≡ slice_index places.sections s + offset - plan.text_start
    pub size : length p.bytes ≡ count

  -- of a stub
  pub record LiesInStub (k offset count : ℕ) (p : Patch) : Type 0 where
    pub key_in : k < key_count t
    pub some : 0 < count
    pub within : offset + count ≤ stub_size t (member far) k
    pub at : p.at ≡ slice_index places.stubs k + offset - plan.text_start
    pub size : length p.bytes ≡ count

  -- where a section lies
  pub record SectionLies (s : ℕ) : Type 0 where
    pub at : slice_index places.sections s ≡ section_address t (member far) s
    pub from : plan.text_start ≤ slice_index places.sections s
    pub to : slice_index places.sections s + section_size t s ≤ text_end t (member far)

  pub section_lies : (s : ℕ) → s < section_count t → SectionLies s
  section_lies s within =
      let lies = gives.sections s within in
      let at = job.laid.sections s within in
      let start = start_is files plan sites t far places whole job gives in
      record {
        at = at;
        from = omega (arith, lies.from, at, start);
        to = omega (arith, lies.to, at);
      }

  -- and a stub that isn't empty
  pub record StubLies (k : ℕ) : Type 0 where
    pub at : slice_index places.stubs k ≡ stub_address t (member far) k
    pub from : plan.text_start ≤ slice_index places.stubs k
    pub to : slice_index places.stubs k + stub_size t (member far) k ≤ text_end t (member far)

  pub stub_lies : (k : ℕ) → k < key_count t → 0 < stub_size t (member far) k → StubLies k
  stub_lies k within some =
      let lies = gives.stubs k within some in
      let at = job.laid.stubs k within in
      let start = start_is files plan sites t far places whole job gives in
      record {
        at = at;
        from = omega (arith, lies.from, at, start);
        to = omega (arith, lies.to, at);
      }

  stub_of : (k offset count : ℕ) (p : Patch) → LiesInStub k offset count p → StubLies k
  stub_of k offset count p is =
      let some = is.some in
      let within = is.within in
      stub_lies k is.key_in (omega (arith, some, within))

  -- ---- in the text

  pub section_within : (s offset count : ℕ) (p : Patch) → LiesAt s offset count p → end_of p ≤ text_end t (member far) - plan.text_start
  section_within s offset count p is =
      let lies = section_lies s is.section_in in
      omega (arith, lies.from, lies.to, is.within, is.at, is.size)

  pub stub_within : (k offset count : ℕ) (p : Patch) → LiesInStub k offset count p → end_of p ≤ text_end t (member far) - plan.text_start
  stub_within k offset count p is =
      let lies = stub_of k offset count p is in
      omega (arith, lies.from, lies.to, is.within, is.at, is.size)

  -- ---- apart

  earlier : (s o n : ℕ) (p : Patch) (r b m : ℕ) (q : Patch) → LiesAt s o n p → LiesAt r b m q → s < r → p.at + length p.bytes ≤ q.at
  earlier s o n p r b m q one other less =
      let gap = gives.sections_apart s r less other.section_in in
      let lies = section_lies s one.section_in in
      let lies_too = section_lies r other.section_in in
      omega (arith, gap, lies.at, lies.from, lies_too.at, lies_too.from, one.within, one.at, one.size, other.at)

  same_section : (s o n : ℕ) (p : Patch) (r b m : ℕ) (q : Patch) → LiesAt s o n p → LiesAt r b m q → s ≡ r → o + n ≤ b →
      p.at + length p.bytes ≤ q.at
  same_section s o n p r b m q one other same less =
      let lies = section_lies s one.section_in in
      let lies_too = section_lies r other.section_in in
      let equal = ap (slice_index places.sections) same in
      omega (arith, equal, less, lies.from, one.at, one.size, other.at)

  pub lies_apart : (s o n : ℕ) (p : Patch) (r b m : ℕ) (q : Patch) → LiesAt s o n p → LiesAt r b m q →
      (s ≡ r → Ranges o n b m) → AreApart p q
  lies_apart s o n p r b m q one other ranges =
      elim (cases_lt s r) [
        | inl less ↦ inr (earlier s o n p r b m q one other less)
        | inr most ↦ elim (cases_lt r s) [
          | inl less ↦ inl (earlier r b m q s o n p other one less)
          | inr least ↦ (
              let same : s ≡ r = omega (arith, most, least) in
              elim (ranges same) [
                | inl before ↦ inr (same_section s o n p r b m q one other same before)
                | inr behind ↦ inl (same_section r b m q s o n p other one (sym same) behind)
              ])
        ]
      ]

  pub beside_stub : (s o n : ℕ) (p : Patch) (k b m : ℕ) (q : Patch) → LiesAt s o n p → LiesInStub k b m q → AreApart p q
  beside_stub s o n p k b m q one other =
      let lies = section_lies s one.section_in in
      let stub = stub_of k b m q other in
      elim (gives.stubs_beside s k one.section_in other.key_in) [
        | inl before ↦ inr (omega (arith, before, lies.at, lies.from, stub.at, stub.from, one.within, one.at, one.size, other.at))
        | inr behind ↦ inl (omega (arith, behind, lies.at, lies.from, stub.at, stub.from, other.within, one.at, other.at, other.size))
      ]

  pub stubs_apart : (j o n : ℕ) (p : Patch) (k b m : ℕ) (q : Patch) → LiesInStub j o n p → LiesInStub k b m q → j < k → AreApart p q
  stubs_apart j o n p k b m q one other less =
      let lies = stub_of j o n p one in
      let lies_too = stub_of k b m q other in
      elim (gives.stubs_apart j k less other.key_in) [
        | inl before ↦ inr (omega (arith, before, lies.at, lies.from, lies_too.at, lies_too.from, one.within, one.at, one.size, other.at))
        | inr behind ↦ inl
            (omega (arith, behind, lies.at, lies.from, lies_too.at, lies_too.from, other.within, one.at, other.at, other.size))
      ]

  -- words of one stub
  pub one_stub : (k o n : ℕ) (p : Patch) (b m : ℕ) (q : Patch) → LiesInStub k o n p → LiesInStub k b m q → o + n ≤ b → AreApart p q
  one_stub k o n p b m q one other less =
      let lies = stub_of k o n p one in
      inr (omega (arith, less, lies.from, one.at, one.size, other.at))
