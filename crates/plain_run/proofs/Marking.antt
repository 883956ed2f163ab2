-- What marks tell while they are made.
use Rattle.std.proofs.Common.{◌≡◌, ◌<◌, ◌≤◌, ◌+◌, ◌-◌, ◌*◌, ◌/◌, ◌⊎◌, inl, inr, ℕ, zero, suc, Bool, true, false, eqb, List, [], ◌∷◌, length, length-append, replicate, Option, None, Some, slice_get, sym, ap, ◌∙◌, subst, refl, arith, if◌then◌else◌}
use Rattle.std.specs.List.{Contains, slice_index_or}
use Rattle.std.proofs.lemmas.Bool.{cases_lt}
use Rattle.std.proofs.lemmas.Bool.Decides.{nat_tests}
use Rattle.std.proofs.lemmas.List.{length-replicate, get_or-replicate}
use Rattle.std.proofs.lemmas.Option.{slice_get_within, get_or_from_slice_get, slice_get-map, same_Some}
use Rattle.std.specs.Option.{option_map}
use Rattle.elf64_records.specs.Records.{record_count, rela_of}
use Rattle.elf64_records.specs.Sections.{sh_size, section_bytes}
use Rattle.object_set.specs.declared.places.RecordId.{RecordId}
use Rattle.object_set.specs.declared.places.SectionId.{SectionId}
use Rattle.object_set.specs.Files.{file_at}
use Rattle.object_set.specs.Refusals.{set_refusal}
use Rattle.object_set.specs.Sections.{is_text}
use Rattle.object_set.specs.Walks.{IsRecord, all_items, index_of, record_walk, records_in, record_id}
use Rattle.object_set.specs.laws.Walks.{get_left, get_right, item_at}
use Rattle.reloc_fields.specs.declared.kind.Kind.{Kind}
use Rattle.reloc_fields.specs.Table.{line_of}
use Rattle.symbol_table.specs.declared.fields.RecordField.{RecordField}
use Rattle.symbol_table.specs.Fields.{kind_numbered}
use Rattle.symbol_table.specs.Records.{records_refusal}
use Rattle.symbol_table.specs.Text.{text_sections, text_index, text_number}
use Rattle.symbol_table.specs.laws.Sections.{record_about}
use Rattle.symbol_table.specs.laws.Text.{text_number_at, text_section_at, text_index_found}
use Rattle.call_sites.specs.declared.site.CallSite.{CallSite}
use Rattle.call_sites.specs.Sites.{call_fields}
use Rattle.call_sites.specs.laws.TextSizes.{text_small}
use Rattle.pcrel_rewrite.specs.declared.text_pairs.TextPair.{TextPair}
use Rattle.toc_rewrite.proofs.SoundRecords.{sound_field}
use Rattle.plain_run.specs.declared.marks.Mark.{Mark}
use Rattle.plain_run.specs.declared.marks.Mark.TheVariants as mark
use Rattle.plain_run.specs.inside.Marks.{MarkedSection, AreTexts, AllTell, HasMark, IsMarkedAs, IsTextField, Meets, Begins, EndsAt, LeftFrom, LeftOf, NoneLeft, Tells, mark_of, mark_in, met_mark, touched, start_of, unmarked_sections, unmarked_section}
use Rattle.plain_run.proofs.CallMarks.{StandsAt, call_is, call_begins}
use Rattle.plain_run.proofs.PairMarks.{IsAccessOf, get_held}
use Rattle.plain_run.proofs.TextWords.{has_mark}
use Rattle.plain_run.proofs.WrittenMarks.{all_written}

not_equal : (word start : ℕ) → eqb (word * 4) start ≡ false → start ≡ 4 * word → ⊥
not_equal word start differs same =
    let equal : eqb (word * 4) start ≡ true = grind (arith, nat_tests, same) in
    cc

module _ (files : List (List ℕ)) where
  -- records that are left where others were
  module _ (pairs : List TextPair) (P Q : RecordId → ℕ → Type 0) (k w : ℕ)
      (weaker : (r : RecordId) → Meets files r k w → P r w → Q r w) where
    tells_weaker : (x : Mark) → Tells files pairs P 0 0 k w x → Tells files pairs Q 0 0 k w x
    tells_weaker mark.Word is = record { left = λ r met. weaker r met (is.left r met); no_access = is.no_access }
    tells_weaker mark.Touched is = record {
      toucher = is.toucher;
      meets = is.meets;
      left = λ r begins. weaker r begins.meets (is.left r begins);
    }
    tells_weaker (mark.Field table entry) is = is
    tells_weaker (mark.Call number) is = is
    tells_weaker (mark.Access distance) is = is

  module _ (pairs : List TextPair) (P Q : RecordId → ℕ → Type 0) where
    pub all_weaker : (sections : List MarkedSection) → ((r : RecordId) (k w : ℕ) → Meets files r k w → P r w → Q r w) →
        AllTell files pairs P 0 0 sections → AllTell files pairs Q 0 0 sections
    all_weaker sections weaker tell = λ k w x has. tells_weaker pairs P Q k w (λ r met. weaker r k w met) x (tell k w x has)

  held_case : (r id : RecordId) (rest : List RecordId) (i : ℕ) → i < length (id ∷ rest) → slice_index_or (id ∷ rest) i r ≡ r →
      Contains rest r ⊎ (r ≡ id)
  held_case r id rest zero within is = inr (sym is)
  held_case r id rest (suc i) within is = inl (i, omega (arith, within), is)

  -- a record of a list, or of the rest
  pub contained_case : (r id : RecordId) (rest : List RecordId) → Contains (id ∷ rest) r → Contains rest r ⊎ (r ≡ id)
  contained_case r id rest held = held_case r id rest held.0 held.1 held.2

  -- a record that has bytes of no word is passed
  pub passed : (pairs : List TextPair) (id : RecordId) (rest : List RecordId) (sections : List MarkedSection) →
      ((k w : ℕ) → Meets files id k w → ⊥) → AllTell files pairs (LeftOf (id ∷ rest)) 0 0 sections →
      AllTell files pairs (LeftOf rest) 0 0 sections
  passed pairs id rest sections never =
      all_weaker pairs (LeftOf (id ∷ rest)) (LeftOf rest) sections
      (λ r k w met held. elim (contained_case r id rest held) [
        | inl more ↦ more
        | inr same ↦ absurd (never k w (subst (λ (q : RecordId). Meets files q k w) same met))
      ])

  -- a record that isn't in text, has no kind, or fills nothing
  pub out_of_text : (id : RecordId) → None ≡ text_number files id.file id.section → (k w : ℕ) → Meets files id k w → ⊥
  out_of_text id is k w met =
      let number = text_number_at files k (record { file = id.file; section = id.section }) met.field.section in
      cc

  pub no_kind : (id : RecordId) (number : ℕ) → number ≡ (rela_of (file_at files id.file) id.table id.entry).kind →
      None ≡ kind_numbered number → (k w : ℕ) → Meets files id k w → ⊥
  no_kind id number is none k w met =
      let known = ap kind_numbered is ∙ met.field.kind_is in
      cc

  pub no_bytes : (id : RecordId) (number : ℕ) (kind : Kind) → number ≡ (rela_of (file_at files id.file) id.table id.entry).kind →
      Some kind ≡ kind_numbered number → (line_of kind).width ≤ 0 → (k w : ℕ) → Meets files id k w → ⊥
  no_bytes id number kind is known none k w met =
      let same : kind ≡ met.kind = same_Some kind met.kind (known ∙ ap kind_numbered is ∙ met.field.kind_is) in
      let fills = met.field.fills in
      let width = ap (λ (l : Kind). (line_of l).width) same in
      omega (arith, none, fills, width)

  -- ---- the words of one field

  module _ (id : RecordId) (kind : Kind) (number : ℕ) (field : IsTextField files id kind number) where
    -- where it has bytes
    pub record IsInside (k w : ℕ) : Type 0 where
      pub section : k ≡ number
      pub first : start_of files id / 4 ≤ w
      pub last : w < (start_of files id + (line_of kind).width - 1) / 4 + 1

    pub inside : (k w : ℕ) → Meets files id k w → IsInside k w
    inside k w met =
        let own : SectionId = record { file = id.file; section = id.section } in
        let same : kind ≡ met.kind = same_Some kind met.kind (sym field.kind_is ∙ met.field.kind_is) in
        let width = ap (λ (l : Kind). (line_of l).width) same in
        let before = met.before in
        let behind = met.behind in
        record {
          section = same_Some k number (sym (text_number_at files k own met.field.section)
              ∙ text_number_at files number own field.section);
          first = omega (arith, before);
          last = omega (arith, behind, width);
        }

    -- a word between them is met
    pub met_at : (w : ℕ) → start_of files id / 4 ≤ w → w < (start_of files id + (line_of kind).width - 1) / 4 + 1 →
        Meets files id number w
    met_at w first last =
        let fills = field.fills in
        record { kind = kind; field = field; before = omega (arith, first); behind = omega (arith, last, fills) }

    module _ (pairs : List TextPair) (rest : List RecordId) where
      -- at first all its words are left
      pub left_first : (sections : List MarkedSection) → AllTell files pairs (LeftOf (id ∷ rest)) 0 0 sections →
          AllTell files pairs (LeftFrom rest id (start_of files id / 4)) 0 0 sections
      left_first sections =
          all_weaker pairs (LeftOf (id ∷ rest)) (LeftFrom rest id (start_of files id / 4)) sections
          (λ r k w met held. elim (contained_case r id rest held) [
            | inl more ↦ inl more
            | inr same ↦ (let is = inside k w (subst (λ (q : RecordId). Meets files q k w) same met) in inr (same, is.first))
          ])

      last_case : (r : RecordId) (k w word : ℕ) → (start_of files id + (line_of kind).width - 1) / 4 + 1 ≤ word → Meets files r k w →
          LeftFrom rest id word r w → Contains rest r
      last_case r k w word most met (inl held) = held
      last_case r k w word most met (inr left) =
          let is = inside k w (subst (λ (q : RecordId). Meets files q k w) left.0 met) in
          let last = is.last in
          let from = left.1 in
          absurd (omega (arith, most, last, from))

      -- in the end none
      pub left_last : (sections : List MarkedSection) (word : ℕ) → (start_of files id + (line_of kind).width - 1) / 4 + 1 ≤ word →
          AllTell files pairs (LeftFrom rest id word) 0 0 sections → AllTell files pairs (LeftOf rest) 0 0 sections
      left_last sections word most =
          all_weaker pairs (LeftFrom rest id word) (LeftOf rest) sections (λ r k w met left. last_case r k w word most met left)

      -- one word more
      other_word : (r : RecordId) (k w word : ℕ) → (k ≡ number → w ≡ word → ⊥) → Meets files r k w → LeftFrom rest id word r w →
          LeftFrom rest id (word + 1) r w
      other_word r k w word other met (inl held) = inl held
      other_word r k w word other met (inr left) =
          let is = inside k w (subst (λ (q : RecordId). Meets files q k w) left.0 met) in
          let from = left.1 in
          elim (cases_lt word w) [
            | inl less ↦ inr (left.0, omega (arith, less))
            | inr most ↦ absurd (other is.section (omega (arith, most, from)))
          ]

      here_word : (r : RecordId) (word : ℕ) → LeftFrom rest id word r word → (r ≡ id → ⊥) → LeftFrom rest id (word + 1) r word
      here_word r word (inl held) differs = inl held
      here_word r word (inr left) differs = absurd (differs left.0)

      -- the mark of a word that is met
      module _ (word : ℕ) (first : start_of files id / 4 ≤ word)
          (last : word < (start_of files id + (line_of kind).width - 1) / 4 + 1) where
        abbrev Before : Mark → Type 0
        Before x = Tells files pairs (LeftFrom rest id word) 0 0 number word x

        abbrev After : Mark → Type 0
        After x = Tells files pairs (LeftFrom rest id (word + 1)) 0 0 number word x

        begins_elsewhere : (start_of files id ≡ 4 * word → ⊥) → (r : RecordId) → Begins files r number word → r ≡ id → ⊥
        begins_elsewhere other r begins same = other (subst (λ (q : RecordId). start_of files q ≡ 4 * word) same begins.start)

        touched_tells : (x : Mark) → (start_of files id ≡ 4 * word → ⊥) → Before x → After (touched x)
        touched_tells mark.Word other is = record {
          toucher = id;
          meets = met_at word first last;
          left = λ r begins. here_word r word (is.left r begins.meets) (begins_elsewhere other r begins);
        }
        touched_tells mark.Touched other is = record {
          toucher = is.toucher;
          meets = is.meets;
          left = λ r begins. here_word r word (is.left r begins) (begins_elsewhere other r begins);
        }
        touched_tells (mark.Field table entry) other is = is
        touched_tells (mark.Call call) other is = is
        touched_tells (mark.Access distance) other is = is

        met_case : (x : Mark) (t : Bool) → eqb (word * 4) (start_of files id) ≡ t → Before x →
            After (if t then mark.Field id.table id.entry else touched x)
        met_case x true is before =
            let start : start_of files id ≡ 4 * word = grind (arith, nat_tests, is) in
            record {
              filler = id;
              table_is = refl;
              entry_is = refl;
              begins = record { meets = met_at word first last; start = start };
              no_call = λ i f less. absurd (omega (arith, less));
            }
        met_case x false is before = touched_tells x (λ start. not_equal word (start_of files id) is start) before

        -- one word of the field more
        pub word_marked : (old new : List MarkedSection) (x : Mark) → mark_in old number word ≡ Some x →
            IsMarkedAs old new number word (met_mark id (start_of files id) word x) →
            AllTell files pairs (LeftFrom rest id word) 0 0 old → AllTell files pairs (LeftFrom rest id (word + 1)) 0 0 new
        word_marked old new x has is tell =
            all_written (λ k w y. Tells files pairs (LeftFrom rest id word) 0 0 k w y)
            (λ k w y. Tells files pairs (LeftFrom rest id (word + 1)) 0 0 k w y) old new number word
            (met_mark id (start_of files id) word x) is
            (met_case x (eqb (word * 4) (start_of files id)) refl (tell number word x has))
            (λ k w y other before. tells_weaker pairs (LeftFrom rest id word) (LeftFrom rest id (word + 1)) k w
            (λ r met left. other_word r k w word other met left) y before)
            tell

-- ---- the start

entries_count : (file : ℕ) (b : List ℕ) (i n : ℕ) → length (records_in file b i n) ≡ n
entries_count file b i zero = refl
entries_count file b i (suc n) =
    let rest = entries_count file b i n in
    let all = length-append (records_in file b i n) (record_id file b i n ∷ []) in
    omega (arith, rest, all)

entry_at : (file : ℕ) (b : List ℕ) (i n k : ℕ) → k < n → slice_get (records_in file b i n) k ≡ Some (record_id file b i k)
entry_at file b i zero k within = absurd (omega (arith, within))
entry_at file b i (suc n) k within =
    elim (cases_lt k n) [
      | inl less ↦ get_left (records_in file b i n) (record_id file b i n ∷ []) k (record_id file b i k) (entry_at file b i n k less)
      | inr most ↦ (
          let same : n ≡ k = omega (arith, within, most) in
          let place : k ≡ length (records_in file b i n) + 0 = omega (arith, same, entries_count file b i n) in
          get_right (records_in file b i n) (record_id file b i n ∷ []) k 0 (record_id file b i k) place
          (ap (λ (m : ℕ). Some (record_id file b i m)) same))
    ]

-- a record of the set is in the list of all
record_in : (files : List (List ℕ)) (r : RecordId) → IsRecord files r → Contains (all_items record_walk files) r
record_in files r is =
    let b = file_at files r.file in
    let own : record_id r.file b r.table r.entry ≡ r =
    ap (λ (s : ℕ). record { file = r.file; table = r.table; entry = r.entry; section = s }) (sym is.section_is) in
    let here : slice_get (records_in r.file b r.table (record_count b r.table)) r.entry ≡ Some r =
    entry_at r.file b r.table (record_count b r.table) r.entry is.within ∙ ap (λ (q : RecordId). Some q) own in
    let k = index_of record_walk files r.file r.table + r.entry in
    let found : slice_get (all_items record_walk files) k ≡ Some r =
    item_at record_walk files r.file r.table r.entry r is.file_in is.table_in here in
    (k, slice_get_within (all_items record_walk files) k r found, get_or_from_slice_get (all_items record_walk files) k r r found)

word_case : (n w : ℕ) (x : Mark) → slice_get (replicate n mark.Word) w ≡ Some x → x ≡ mark.Word
word_case n w x found =
    let within : w < n = omega (arith, slice_get_within (replicate n mark.Word) w x found, length-replicate n mark.Word) in
    sym (get_or_from_slice_get (replicate n mark.Word) w x mark.Word found) ∙ get_or-replicate n w mark.Word mark.Word within

unmarked_case : (files : List (List ℕ)) (o : Option SectionId) (w : ℕ) (x : Mark) →
    mark_of (option_map (unmarked_section files) o) w ≡ Some x → x ≡ mark.Word
unmarked_case files None w x has = cc
unmarked_case files (Some s) w x has = word_case (length (section_bytes (file_at files s.file) s.section) / 4) w x has

-- all records are left where nothing is marked
pub all_left : (files : List (List ℕ)) (pairs : List TextPair) (sections : List MarkedSection) → sections ≡ unmarked_sections files →
    AllTell files pairs (LeftOf (all_items record_walk files)) 0 0 sections
all_left files pairs sections are = λ k w x has.
    let is : x ≡ mark.Word =
    unmarked_case files (slice_get (text_sections files) k) w x
    (ap (λ (o : Option MarkedSection). mark_of o w) (sym (slice_get-map (unmarked_section files) (text_sections files) k))
    ∙ ap (λ (l : List MarkedSection). mark_in l k w) (sym are) ∙ has) in
    let this : Tells files pairs (LeftOf (all_items record_walk files)) 0 0 k w mark.Word = record {
      left = λ r met. record_in files r met.field.here;
      no_access = λ i p less. absurd (omega (arith, less));
    } in
    subst (Tells files pairs (LeftOf (all_items record_walk files)) 0 0 k w) (sym is) this

nothing_held : (r : RecordId) → Contains [] r → ⊥
nothing_held r held = let within = held.1 in omega (arith, within)

-- and none in the end
pub none_left : (files : List (List ℕ)) (pairs : List TextPair) (records : List RecordId) (sections : List MarkedSection) → records ≡ [] →
    AllTell files pairs (LeftOf records) 0 0 sections → AllTell files pairs NoneLeft 0 0 sections
none_left files pairs records sections over =
    all_weaker files pairs (LeftOf records) NoneLeft sections
    (λ r k w met held. nothing_held r (subst (λ (l : List RecordId). Contains l r) over held))

-- ---- calls and accesses

module _ (files : List (List ℕ)) (whole : set_refusal files ≡ None) (none : records_refusal files ≡ None) where
  text_case : (file section k : ℕ) (t : Bool) → is_text (file_at files file) section ≡ t →
      Some k ≡ (if t then Some (text_index files file section) else None) →
      (is_text (file_at files file) section ≡ true) × (k ≡ text_index files file section)
  text_case file section k true text is = (text, cc)
  text_case file section k false text is = cc

  -- a section with a number is the one with that number
  pub numbered : (r : RecordId) (k : ℕ) → IsRecord files r → Some k ≡ text_number files r.file r.section →
      slice_get (text_sections files) k ≡ Some (record { file = r.file; section = r.section })
  numbered r k here is =
      let text = text_case r.file r.section k (is_text (file_at files r.file) r.section) refl is in
      ap (λ (n : ℕ). slice_get (text_sections files) n) text.1
      ∙ text_index_found files r.file r.section here.file_in (record_about files r whole here).within text.0

  -- a field lies in its section
  pub field_within : (r : RecordId) (kind : Kind) (k : ℕ) → IsTextField files r kind k →
      start_of files r + (line_of kind).width ≤ 0x1000_0000
  field_within r kind k field =
      let sound = sound_field files r none field.here kind field.kind_is field.fills in
      let lies = text_section_at files k (record { file = r.file; section = r.section }) field.section in
      let small = text_small files r.file r.section whole lies.file_in lies.within lies.text in
      let within = sound.within in
      omega (arith, within, small)

  -- a word that a record meets lies in its section
  meets_within : (r : RecordId) (k w : ℕ) → Meets files r k w → 4 * w < sh_size (file_at files r.file) r.section
  meets_within r k w met =
      let sound = sound_field files r none met.field.here met.kind met.field.kind_is met.field.fills in
      let within = sound.within in
      let behind = met.behind in
      omega (arith, within, behind)

  -- and has a mark
  pub meets_marked : (sections : List MarkedSection) → AreTexts files sections → (r : RecordId) (k w : ℕ) → Meets files r k w →
      HasMark sections k w
  meets_marked sections texts r k w met =
      has_mark files whole sections texts k w (record { file = r.file; section = r.section }) met.field.section (meets_within r k w met)

  -- a record begins with one word
  one_word : (r : RecordId) (k w j v : ℕ) → Begins files r k w → Begins files r j v → (k ≡ j) × (w ≡ v)
  one_word r k w j v one other =
      let own : SectionId = record { file = r.file; section = r.section } in
      let start = one.start in
      let start_too = other.start in (
        same_Some k j (sym (text_number_at files k own one.meets.field.section) ∙ text_number_at files j own other.meets.field.section),
        omega (arith, start, start_too),
      )

  -- where a site stands
  pub site_begins : (i : ℕ) (site : CallSite) → (stands : StandsAt files whole none i site) →
      Begins files stands.field.id site.section (site.offset / 4)
  site_begins i site stands =
      let call = call_is files whole none i stands.field stands.found in
      let begins = call_begins files whole none stands.field call in
      subst (λ (n : ℕ). Begins files stands.field.id site.section (n / 4)) (sym stands.offset)
      (subst (λ (n : ℕ). Begins files stands.field.id n (stands.field.start / 4)) (sym stands.section) begins)

  module _ (pairs : List TextPair) (i : ℕ) (site : CallSite) (stands : StandsAt files whole none i site) where
    later_call : (k w j : ℕ) (f : RecordField) → (k ≡ site.section → w ≡ site.offset / 4 → ⊥) →
        ((j : ℕ) (f : RecordField) → j < i → slice_get (call_fields files) j ≡ Some f → Begins files f.id k w → ⊥) →
        j < i + 1 → slice_get (call_fields files) j ≡ Some f → Begins files f.id k w → ⊥
    later_call k w j f other before less found begins =
        elim (cases_lt j i) [
          | inl earlier ↦ before j f earlier found begins
          | inr most ↦ (
              let same : i ≡ j = omega (arith, less, most) in
              let this : stands.field ≡ f =
              same_Some stands.field f (sym stands.found ∙ ap (λ (n : ℕ). slice_get (call_fields files) n) same ∙ found) in
              let place = one_word f.id k w site.section (site.offset / 4) begins
              (subst (λ (g : RecordField). Begins files g.id site.section (site.offset / 4)) this (site_begins i site stands)) in
              other place.0 place.1)
        ]

    other_tells : (k w : ℕ) (x : Mark) → (k ≡ site.section → w ≡ site.offset / 4 → ⊥) → Tells files pairs NoneLeft i 0 k w x →
        Tells files pairs NoneLeft (i + 1) 0 k w x
    other_tells k w mark.Word other is = is
    other_tells k w mark.Touched other is = is
    other_tells k w (mark.Field table entry) other is = record {
      filler = is.filler;
      table_is = is.table_is;
      entry_is = is.entry_is;
      begins = is.begins;
      no_call = λ j f less found begins. later_call k w j f other is.no_call less found begins;
    }
    other_tells k w (mark.Call number) other is = is
    other_tells k w (mark.Access distance) other is = is

    -- one call more
    pub call_marked : (old new : List MarkedSection) → IsMarkedAs old new site.section (site.offset / 4) (mark.Call i) →
        AllTell files pairs NoneLeft i 0 old → AllTell files pairs NoneLeft (i + 1) 0 new
    call_marked old new is tell =
        all_written (λ k w y. Tells files pairs NoneLeft i 0 k w y) (λ k w y. Tells files pairs NoneLeft (i + 1) 0 k w y) old new
        site.section (site.offset / 4) (mark.Call i) is
        (record { field = stands.field; found = stands.found; begins = site_begins i site stands })
        (λ k w y other before. other_tells k w y other before) tell

  -- the word of an access has a mark
  pub access_has_mark : (sections : List MarkedSection) → AreTexts files sections → (pair : TextPair) → IsAccessOf files pair →
      HasMark sections pair.section (pair.tail / 4)
  access_has_mark sections texts pair access =
      let within = access.within in
      has_mark files whole sections texts pair.section (pair.tail / 4) access.place access.found (omega (arith, within))

  module _ (pairs : List TextPair) (calls i distance : ℕ) (pair : TextPair) (found : slice_get pairs i ≡ Some pair)
      (access : IsAccessOf files pair) (tail_is : pair.tail ≡ pair.head + distance) where
    ends_here : EndsAt pair pair.section (pair.tail / 4)
    ends_here = let fourth = access.fourth in record { section = refl; tail = omega (arith, fourth) }

    later_access : (k w j : ℕ) (q : TextPair) → (k ≡ pair.section → w ≡ pair.tail / 4 → ⊥) →
        ((j : ℕ) (q : TextPair) → j < i → slice_get pairs j ≡ Some q → EndsAt q k w → ⊥) →
        j < i + 1 → slice_get pairs j ≡ Some q → EndsAt q k w → ⊥
    later_access k w j q other before less there ends =
        elim (cases_lt j i) [
          | inl earlier ↦ before j q earlier there ends
          | inr most ↦ (
              let same : i ≡ j = omega (arith, less, most) in
              let this : pair ≡ q =
              same_Some pair q (sym found ∙ ap (λ (n : ℕ). slice_get pairs n) same ∙ there) in
              let section = ends.section in
              let tail : pair.tail ≡ 4 * w = ap (λ (p : TextPair). p.tail) this ∙ ends.tail in
              other (sym section ∙ ap (λ (p : TextPair). p.section) (sym this)) (omega (arith, tail)))
        ]

    other_words : (k w : ℕ) (x : Mark) → (k ≡ pair.section → w ≡ pair.tail / 4 → ⊥) → Tells files pairs NoneLeft calls i k w x →
        Tells files pairs NoneLeft calls (i + 1) k w x
    other_words k w mark.Word other is = record {
      left = is.left;
      no_access = λ j q less there ends. later_access k w j q other is.no_access less there ends;
    }
    other_words k w mark.Touched other is = is
    other_words k w (mark.Field table entry) other is = is
    other_words k w (mark.Call number) other is = is
    other_words k w (mark.Access away) other is = is

    -- one access more
    pub access_marked : (old new : List MarkedSection) → IsMarkedAs old new pair.section (pair.tail / 4) (mark.Access distance) →
        AllTell files pairs NoneLeft calls i old → AllTell files pairs NoneLeft calls (i + 1) new
    access_marked old new is tell =
        all_written (λ k w y. Tells files pairs NoneLeft calls i k w y) (λ k w y. Tells files pairs NoneLeft calls (i + 1) k w y)
        old new pair.section (pair.tail / 4) (mark.Access distance) is
        (record { free = access.free; pair = pair; held = get_held pairs i pair found; ends = ends_here; tail_is = tail_is })
        (λ k w y other before. other_words k w y other before) tell
