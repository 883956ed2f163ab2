-- Each address of a text is one of padding, of a stub, of a call, of a record or of other bytes of a section: so what stands at each place
-- tells the text.
use Rattle.std.proofs.Common.{ℕ, zero, suc, ◌≡◌, ◌<◌, ◌≤◌, ◌+◌, ◌-◌, ◌*◌, ◌/◌, ◌⊎◌, inl, inr, Bool, true, false, List, length, length-append, Option, Some, None, IfSome, slice_index, replicate, ap, sym, ◌∙◌, subst, refl, arith}
use Rattle.std.specs.List.{slice_index_or}
use Rattle.std.proofs.lemmas.Bool.{cases_lt}
use Rattle.std.proofs.lemmas.List.{get_or_default, length-take, length-replicate}
use Rattle.byteorder.specs.Endian.{little_bytes}
use Rattle.byteorder.specs.Numbers.{length-bytes_low_first}
use Rattle.ppc_bytes.specs.declared.constants.TheConstants.{NOP}
use Rattle.object_set.specs.declared.places.RecordId.{RecordId}
use Rattle.object_set.specs.Walks.{all_items, record_walk, IsRecord}
use Rattle.object_set.specs.laws.Walks.{all_records_in}
use Rattle.reloc_fields.specs.declared.kind.Kind.{Kind}
use Rattle.reloc_fields.specs.Table.{line_of}
use Rattle.stub_kinds.specs.Stubs.{words_of, nop}
use Rattle.stub_kinds.specs.laws.Stubs.{size_of-few, length-words_of}
use Rattle.symbol_table.specs.Text.{text_sections}
use Rattle.call_sites.specs.declared.site.CallSite.{CallSite}
use Rattle.call_sites.specs.Words.{branch_word, slot_word}
use Rattle.toc_groups.specs.Contents.{HoldsBytes, field_bytes}
use Rattle.toc_groups.specs.Parts.{Covers}
use Rattle.toc_groups.specs.Plans.{LaidData}
use Rattle.toc_groups.specs.Values.{field_address, record_value}
use Rattle.toc_rewrite.specs.Uses.{number_of, is_folded_load, is_rewritten}
use Rattle.toc_rewrite.specs.Words.{folded_word}
use Rattle.layout_rounds.specs.Shapes.{KeyedText}
use Rattle.layout_rounds.specs.Layout.{PlacedText, section_count, key_count, key_at, stub_size, text_end}
use Rattle.image_writer.specs.declared.got_loads.LoadWords.{LoadWords}
use Rattle.image_writer.specs.Calls.{call_at, call_number, call_address, displacement}
use Rattle.image_writer.specs.Fields.{text_kind}
use Rattle.image_writer.specs.GotLoads.{rewritten_load}
use Rattle.image_writer.specs.Places.{HoldsWord, bytes_of, IsTextRecord, seen_record, IsFolded, IsNewLoad, IsPlainField, IsSpared, IsPadding, HoldsText}
use Rattle.image_writer.specs.Rewriting.{Rewriting}
use Rattle.image_writer.specs.Text.{caller_base, place_of, callee_base, eight_words, stub_text}
use Rattle.image_writer.proofs.Loads.{load_case}
use Rattle.image_writer.proofs.RecordClaims.{field_size, folded_wide}
use Rattle.image_writer.proofs.RecordList.{record_in}

-- ---- what can be told

abbrev Known : Type 0 → Type 0
Known P = P ⊎ (P → ⊥)

known_covers : (from size a : ℕ) → Known (Covers from size a)
known_covers from size a =
    elim (cases_lt a from) [
      | inl before ↦ inr (λ covers. (let least = covers.from in omega (arith, before, least)))
      | inr most ↦ elim (cases_lt a (from + size)) [
        | inl below ↦ inl (record { from = most; below = below })
        | inr behind ↦ inr (λ covers. (let below = covers.below in omega (arith, behind, below)))
      ]
    ]

-- a number below a bound that has a property
record HasOne (P : ℕ → Type 0) (n : ℕ) : Type 0 where
  number : ℕ
  within : number < n
  is : P number

known_below : (P : ℕ → Type 0) (n : ℕ) → ((i : ℕ) → i < n → Known (P i)) → HasOne P n ⊎ ((i : ℕ) → i < n → P i → ⊥)
known_below P zero each = inr (λ i within. absurd (omega (arith, within)))
known_below P (suc n) each =
    elim (each n (omega arith)) [
      | inl is ↦ inl (record { number = n; within = omega arith; is = is })
      | inr none ↦ elim (known_below P n (λ i within. each i (omega (arith, within)))) [
        | inl one ↦ (let within = one.within in inl (record { number = one.number; within = omega (arith, within); is = one.is }))
        | inr others ↦ inr (λ i within is.
            elim (cases_lt i n) [
              | inl less ↦ others i less is
              | inr most ↦ none (subst P (omega (arith, within, most)) is)
            ])
      ]
    ]

-- ---- what is held there

-- memories that hold the same bytes have the same there
same_bytes : (one other : ℕ → ℕ) (at a : ℕ) (bytes : List ℕ) → HoldsBytes one at bytes → HoldsBytes other at bytes →
    Covers at (length bytes) a → one a ≡ other a
same_bytes one other at a bytes holds holds_too covers =
    let from = covers.from in
    let below = covers.below in
    let here : at + (a - at) ≡ a = omega (arith, from) in
    let within : a - at < length bytes = omega (arith, from, below) in
    ap one (sym here) ∙ holds (a - at) within ∙ sym (holds_too (a - at) within) ∙ ap other here

same_word : (one other : ℕ → ℕ) (at a word : ℕ) → HoldsWord one at word → HoldsWord other at word → Covers at 4 a → one a ≡ other a
same_word one other at a word holds holds_too covers =
    same_bytes one other at a (little_bytes 4 word) holds holds_too
    (subst (λ (n : ℕ). Covers at n a) (sym (length-bytes_low_first 0 4 word)) covers)

slot_some : (slot restore : Bool) → slot ≡ true → (word : ℕ) × (slot_word slot restore ≡ Some word)
slot_some true restore has = (_, refl)
slot_some false restore has = cc

module _ (files : List (List ℕ)) (plan : LaidData) (sites : List CallSite) (t : KeyedText) (F : ℕ → Bool) (p : PlacedText)
    (w : Rewriting) (one other : ℕ → ℕ) (holds : HoldsText files plan sites t F p w one)
    (holds_too : HoldsText files plan sites t F p w other) (a : ℕ) where
  -- ---- stubs

  stub_count : (k : ℕ) → 4 * length (stub_text files plan.bases t F p k) ≡ stub_size t F k
  stub_count k =
      let key = key_at t k in
      let base = caller_base files plan.bases t F p key.group (section_count t) in
      let words = words_of key.class (F k) (slice_index p.stubs k) (place_of files plan.bases t F p k) base
      (callee_base files plan.bases t F p k) in
      let few = size_of-few key.class (F k) in
      let multiple = few.0 in
      let most = few.1 in
      let fit = length-words_of key.class (F k) (slice_index p.stubs k) (place_of files plan.bases t F p k) base
      (callee_base files plan.bases t F p k) in
      let all = length-append words (replicate (8 - length words) nop) in
      let rest = length-replicate (8 - length words) nop in
      let taken = length-take (stub_size t F k / 4) (eight_words files plan.bases t F p k) in
      omega (arith, multiple, most, fit, all, rest, taken)

  in_stub : (k : ℕ) → k < key_count t → Covers (slice_index p.stubs k) (stub_size t F k) a → one a ≡ other a
  in_stub k key_in covers =
      let from = covers.from in
      let below = covers.below in
      let count = stub_count k in
      let at = slice_index p.stubs k in
      let i = (a - at) / 4 in
      let within : i < length (stub_text files plan.bases t F p k) = omega (arith, from, below, count) in
      same_word one other (at + 4 * i) a (slice_index (stub_text files plan.bases t F p k) i) (holds.stubs k i key_in within)
      (holds_too.stubs k i key_in within) (record { from = omega (arith, from); below = omega (arith, from) })

  -- ---- calls

  in_call : (i : ℕ) → i < length sites → Covers (call_address files plan.bases t F p (call_at sites i)) 4 a → one a ≡ other a
  in_call i within covers =
      let site = call_at sites i in
      same_word one other (call_address files plan.bases t F p site) a
      (branch_word site.class site.link (displacement files plan.bases t F p site (call_number sites i))) (holds.calls i within)
      (holds_too.calls i within) covers

  in_slot : (i : ℕ) → i < length sites → (call_at sites i).slot ≡ true →
      Covers (call_address files plan.bases t F p (call_at sites i) + 4) 4 a → one a ≡ other a
  in_slot i within has covers =
      let site = call_at sites i in
      let some = slot_some site.slot site.restore has in
      same_word one other (call_address files plan.bases t F p site + 4) a some.0 (holds.slots i some.0 within some.1)
      (holds_too.slots i some.0 within some.1) covers

  -- ---- records

  abbrev address : RecordId → ℕ
  address r = field_address files plan.span p.sections r

  module _ (r : RecordId) (k : Kind) (is : IsTextRecord files r k) where
    in_load : (load : LoadWords) → IsNewLoad files plan sites t F p w r k load → Covers (address r) (line_of k).width a → one a ≡ other a
    in_load load new covers =
        let from = covers.from in
        let below = covers.below in
        let wide = ap (λ (x : Kind). (line_of x).width) (load_case files plan.span p.sections r w k load new.load_is).kind_is in
        let first = holds.loads r k load new in
        let second = holds_too.loads r k load new in
        elim (cases_lt a (address r + 4)) [
          | inl less ↦ same_word one other (address r) a load.prefix first.prefix second.prefix (record { from = from; below = less })
          | inr most ↦ same_word one other (address r + 4) a load.suffix first.suffix second.suffix
              (record { from = most; below = omega (arith, below, wide) })
        ]

    by_load : is_rewritten (seen_record files plan sites t F p w r k) (w.orderly r.file) ≡ false → (o : Option LoadWords) →
        rewritten_load files plan.span p.sections w r k ≡ o → Covers (address r) (line_of k).width a → one a ≡ other a
    by_load rest None load_is covers =
        let plain : IsPlainField files plan sites t F p w r k = record { is = is; other = rest; no_load = load_is } in
        same_bytes one other (address r) a (field_bytes files plan.span p.sections r k) (holds.fields r k plain)
        (holds_too.fields r k plain)
        (subst (λ (n : ℕ). Covers (address r) n a) (sym (field_size files plan.span p.sections r k)) covers)
    by_load rest (Some load) load_is covers = in_load load (record { is = is; other = rest; load_is = load_is }) covers

    by_test : (b : Bool) → is_rewritten (seen_record files plan sites t F p w r k) (w.orderly r.file) ≡ b →
        Covers (address r) (line_of k).width a → one a ≡ other a
    by_test true rewritten covers =
        let seen = seen_record files plan sites t F p w r k in
        let folded : IsFolded files plan sites t F p w r k = record { is = is; rewritten = rewritten } in
        let wide = folded_wide files plan.span p.sections w.slots r k (w.orderly r.file) rewritten in
        same_word one other (address r) a
        (folded_word seen.kind seen.word (number_of seen (record_value files plan.span p.sections r seen.kind)) (is_folded_load seen))
        (holds.folds r k folded) (holds_too.folds r k folded) (subst (λ (n : ℕ). Covers (address r) n a) wide covers)
    by_test false rewritten covers = by_load rewritten (rewritten_load files plan.span p.sections w r k) refl covers

    in_field : Covers (address r) (line_of k).width a → one a ≡ other a
    in_field covers = by_test (is_rewritten (seen_record files plan sites t F p w r k) (w.orderly r.file)) refl covers

  in_access : (r : RecordId) (k : Kind) (load : LoadWords) (distance : ℕ) → IsNewLoad files plan sites t F p w r k load →
      load.nop ≡ Some distance → Covers (address r + distance) 4 a → one a ≡ other a
  in_access r k load distance new nop covers =
      let first = (holds.loads r k load new).access in
      let second = (holds_too.loads r k load new).access in
      same_word one other (address r + distance) a NOP
      (subst (λ (o : Option ℕ). IfSome o (λ d. HoldsWord one (address r + d) NOP)) nop first)
      (subst (λ (o : Option ℕ). IfSome o (λ d. HoldsWord other (address r + d) NOP)) nop second) covers

  -- ---- which of them an address is

  -- a record has it with its field
  record TakesField (r : RecordId) : Type 0 where
    kind : Kind
    is : IsTextRecord files r kind
    covers : Covers (address r) (line_of kind).width a

  -- or with the access of its pair
  record TakesAccess (r : RecordId) : Type 0 where
    kind : Kind
    load : LoadWords
    distance : ℕ
    new : IsNewLoad files plan sites t F p w r kind load
    nop : load.nop ≡ Some distance
    covers : Covers (address r + distance) 4 a

  field_case : (r : RecordId) (o : Option Kind) → IsRecord files r → text_kind files r ≡ o → Known (TakesField r)
  field_case r None here is = inr (λ takes. (let some = takes.is.kind_is in cc))
  field_case r (Some k) here is =
      elim (known_covers (address r) (line_of k).width a) [
        | inl covers ↦ inl (record { kind = k; is = record { there = here; kind_is = is }; covers = covers })
        | inr none ↦ inr (λ takes.
            (let both : Some takes.kind ≡ Some k = sym takes.is.kind_is ∙ is in
            let same : takes.kind ≡ k = cc in
            none (subst (λ (x : Kind). Covers (address r) (line_of x).width a) same takes.covers)))
      ]

  nop_case : (r : RecordId) (k : Kind) (load : LoadWords) (o : Option ℕ) → IsNewLoad files plan sites t F p w r k load → load.nop ≡ o →
      ((takes : TakesAccess r) → takes.load ≡ load) → Known (TakesAccess r)
  nop_case r k load None new nop told =
      inr (λ takes. (let some = takes.nop in let same = ap (λ (l : LoadWords). l.nop) (told takes) in cc))
  nop_case r k load (Some distance) new nop told =
      elim (known_covers (address r + distance) 4 a) [
        | inl covers ↦ inl (record { kind = k; load = load; distance = distance; new = new; nop = nop; covers = covers })
        | inr none ↦ inr (λ takes.
            (let both : Some takes.distance ≡ Some distance = sym takes.nop ∙ ap (λ (l : LoadWords). l.nop) (told takes) ∙ nop in
            let same : takes.distance ≡ distance = cc in
            none (subst (λ (n : ℕ). Covers (address r + n) 4 a) same takes.covers)))
      ]

  load_known : (r : RecordId) (k : Kind) (o : Option LoadWords) → IsTextRecord files r k →
      is_rewritten (seen_record files plan sites t F p w r k) (w.orderly r.file) ≡ false →
      rewritten_load files plan.span p.sections w r k ≡ o → Known (TakesAccess r)
  load_known r k None is rest load_is =
      inr (λ takes.
      (let both : Some takes.kind ≡ Some k = sym takes.new.is.kind_is ∙ is.kind_is in
      let same : takes.kind ≡ k = cc in
      let some = takes.new.load_is in
      let here = ap (rewritten_load files plan.span p.sections w r) same in
      cc))
  load_known r k (Some load) is rest load_is =
      nop_case r k load load.nop (record { is = is; other = rest; load_is = load_is }) refl (λ takes.
      (let both : Some takes.kind ≡ Some k = sym takes.new.is.kind_is ∙ is.kind_is in
      let same : takes.kind ≡ k = cc in
      let loads : Some takes.load ≡ Some load =
      sym takes.new.load_is ∙ ap (rewritten_load files plan.span p.sections w r) same ∙ load_is in
      cc))

  test_known : (r : RecordId) (k : Kind) (b : Bool) → IsTextRecord files r k →
      is_rewritten (seen_record files plan sites t F p w r k) (w.orderly r.file) ≡ b → Known (TakesAccess r)
  test_known r k true is rewritten =
      inr (λ takes.
      (let both : Some takes.kind ≡ Some k = sym takes.new.is.kind_is ∙ is.kind_is in
      let same : takes.kind ≡ k = cc in
      let none = takes.new.other in
      let here = ap (λ (x : Kind). is_rewritten (seen_record files plan sites t F p w r x) (w.orderly r.file)) same in
      cc))
  test_known r k false is rewritten = load_known r k (rewritten_load files plan.span p.sections w r k) is rewritten refl

  access_case : (r : RecordId) (o : Option Kind) → IsRecord files r → text_kind files r ≡ o → Known (TakesAccess r)
  access_case r None here is = inr (λ takes. (let some = takes.new.is.kind_is in cc))
  access_case r (Some k) here is =
      test_known r k (is_rewritten (seen_record files plan sites t F p w r k) (w.orderly r.file))
      (record { there = here; kind_is = is }) refl

  abbrev all : List RecordId
  all = all_items record_walk files

  abbrev no_id : RecordId
  no_id = record { file = 0; table = 0; entry = 0; section = 0 }

  abbrev id_at : ℕ → RecordId
  id_at i = slice_index_or all i no_id

  -- a call's branch, or the word behind it
  abbrev TakesCall : ℕ → Type 0
  TakesCall i = Covers (call_address files plan.bases t F p (call_at sites i)) 4 a

  abbrev TakesSlot : ℕ → Type 0
  TakesSlot i = ((call_at sites i).slot ≡ true) × Covers (call_address files plan.bases t F p (call_at sites i) + 4) 4 a

  slot_case : (slot : Bool) (at : ℕ) → Known ((slot ≡ true) × Covers at 4 a)
  slot_case false at = inr (λ both. (let never = both.0 in cc))
  slot_case true at =
      elim (known_covers at 4 a) [
        | inl covers ↦ inl (refl, covers)
        | inr none ↦ inr (λ both. none both.1)
      ]

  -- the two memories agree there, or it is spared
  at_id : (P : RecordId → Type 0) → ((i : ℕ) → i < length all → P (id_at i) → ⊥) → (r : RecordId) → IsRecord files r → P r → ⊥
  at_id P none r here is =
      let found = record_in files r here in
      let same : id_at found.0 ≡ r = get_or_default all found.0 no_id r found.1 ∙ found.2 in
      none found.0 found.1 (subst P (sym same) is)

  taken_or_spared : (one a ≡ other a) ⊎ IsSpared files plan sites t F p w a
  taken_or_spared =
      elim (known_below TakesCall (length sites) (λ i within. known_covers (call_address files plan.bases t F p (call_at sites i)) 4 a)) [
        | inl call ↦ inl (in_call call.number call.within call.is)
        | inr no_call ↦ elim (known_below TakesSlot (length sites) (λ i within.
            slot_case (call_at sites i).slot (call_address files plan.bases t F p (call_at sites i) + 4))) [
              | inl slot ↦ (let both = slot.is in inl (in_slot slot.number slot.within both.0 both.1))
              | inr no_slot ↦ elim (known_below (λ i. TakesField (id_at i)) (length all) (λ i within.
                  field_case (id_at i) (text_kind files (id_at i)) (all_records_in files i no_id within) refl)) [
                    | inl field ↦ (let takes = field.is in inl (in_field (id_at field.number) takes.kind takes.is takes.covers))
                    | inr no_field ↦ elim (known_below (λ i. TakesAccess (id_at i)) (length all) (λ i within.
                        access_case (id_at i) (text_kind files (id_at i)) (all_records_in files i no_id within) refl)) [
                          | inl access ↦ (
                              let takes = access.is in
                              inl (in_access (id_at access.number) takes.kind takes.load takes.distance takes.new takes.nop takes.covers))
                          | inr no_access ↦ inr (record {
                            calls = no_call;
                            slots = λ i within has covers. no_slot i within (has, covers);
                            records = λ r k is covers. at_id TakesField no_field r is.there (record { kind = k; is = is; covers = covers });
                            accesses = λ r k load distance new nop covers.
                                at_id TakesAccess no_access r new.is.there
                                (record { kind = k; load = load; distance = distance; new = new; nop = nop; covers = covers });
                          })
                        ]
                  ]
            ]
      ]

  in_section : (s : ℕ) → s < length (text_sections files) → Covers (slice_index p.sections s) (length (bytes_of files s)) a →
      one a ≡ other a
  in_section s within covers =
      let from = covers.from in
      let below = covers.below in
      let k = a - slice_index p.sections s in
      let here : slice_index p.sections s + k ≡ a = omega (arith, from) in
      let inside : k < length (bytes_of files s) = omega (arith, from, below) in
      elim taken_or_spared [
        | inl same ↦ same
        | inr spared ↦ (
            let there : IsSpared files plan sites t F p w (slice_index p.sections s + k) =
            subst (IsSpared files plan sites t F p w) (sym here) spared in
            ap one (sym here) ∙ holds.sections s k within inside there ∙ sym (holds_too.sections s k within inside there) ∙ ap other here)
      ]

  -- so what stands at each place of a text tells it
  pub told : plan.text_start ≤ a → a < text_end t F → one a ≡ other a
  told low high =
      elim (known_below (λ s. Covers (slice_index p.sections s) (length (bytes_of files s)) a) (length (text_sections files))
      (λ s within. known_covers (slice_index p.sections s) (length (bytes_of files s)) a)) [
        | inl section ↦ in_section section.number section.within section.is
        | inr no_section ↦ elim (known_below (λ k. Covers (slice_index p.stubs k) (stub_size t F k) a) (key_count t)
            (λ k within. known_covers (slice_index p.stubs k) (stub_size t F k) a)) [
              | inl stub ↦ in_stub stub.number stub.within stub.is
              | inr no_stub ↦ (
                  let free : IsPadding files plan sites t F p w a = record { sections = no_section; stubs = no_stub } in
                  holds.padding a low high free ∙ sym (holds_too.padding a low high free))
            ]
      ]
