-- What becomes of a load of an address: where its pair is found, and what its words are.
use Rattle.std.proofs.Common.{ℕ, ℤ, ◌≡◌, ◌<◌, ◌≤◌, ◌+◌, ◌-◌, Bool, true, false, ◌&&◌, ◌==◌, List, length, Option, None, Some, IfSome, Contains, ap, sym, ◌∙◌, subst, refl, arith, if◌then◌else◌}
use Rattle.std.specs.List.{slice_index_or}
use Rattle.std.proofs.lemmas.Bool.Decides.{nat_tests}
use Rattle.std.proofs.lemmas.List.{get_or_default}
use Rattle.std.proofs.lemmas.List.Folds.{list_any_at, list_any_none}
use Rattle.elf64_records.specs.FileHeader.{e_shnum}
use Rattle.elf64_records.specs.Sections.{section_bytes}
use Rattle.object_set.specs.declared.places.RecordId.{RecordId}
use Rattle.object_set.specs.declared.places.SectionId.{SectionId}
use Rattle.object_set.specs.Files.{file_at}
use Rattle.object_set.specs.Sections.{is_text}
use Rattle.reloc_fields.specs.declared.kind.Kind.{Kind}
use Rattle.reloc_fields.specs.declared.kind.Kind.TheVariants.{GotPcrel34}
use Rattle.reloc_fields.specs.Table.{line_of}
use Rattle.symbol_table.specs.Text.{text_index}
use Rattle.symbol_table.specs.laws.Text.{text_index_found}
use Rattle.toc_groups.specs.Values.{is_signed}
use Rattle.pcrel_rewrite.specs.declared.text_pairs.TextPair.{TextPair}
use Rattle.pcrel_rewrite.specs.Pairs.{ArePairs}
use Rattle.pcrel_rewrite.specs.TextPairs.{tail_at, text_pair}
use Rattle.pcrel_rewrite.specs.Words.{ArePairWords}
use Rattle.pcrel_rewrite.specs.laws.Pairs.{one_pair_at}
use Rattle.image_writer.specs.declared.got_loads.LoadWords.{LoadWords}
use Rattle.image_writer.specs.GotLoads.{offset_of, load_distance, pair_distance, pair_load, near_load, sum_by, load_by, got_load, rewritten_load}
use Rattle.image_writer.specs.Rewriting.{Rewriting, rewriting_of}
use Rattle.image_writer.specs.inside.Loads.{IsAccessAt, paired_by, paired_load, sum_of}
use Rattle.image_writer.proofs.Finding.{some_first, none_first, found_is}

-- ---- the pair of a load

module _ (pairs : List TextPair) (section offset : ℕ) where
  abbrev heads : TextPair → Bool
  heads p = p.section == section && p.head == offset

  head_case : (p : TextPair) → heads p ≡ true → text_pair section offset p.tail ≡ p
  head_case p is =
      let one : p.section ≡ section = grind (arith, nat_tests, is) in
      let other : p.head ≡ offset = grind (arith, nat_tests, is) in
      ap (λ (n : ℕ). record { section = n; head = offset; tail = p.tail }) (sym one)
      ∙ ap (λ (n : ℕ). record { section = p.section; head = n; tail = p.tail }) (sym other)

  itself : (k : ℕ) (d : TextPair) → k < length pairs → Contains pairs (slice_index_or pairs k d)
  itself k d within = (k, within, get_or_default pairs k (slice_index_or pairs k d) d within)

  none_case : (p : TextPair) (b : Bool) → heads p ≡ b → Contains pairs p →
      ((tail : ℕ) → ¬ Contains pairs (text_pair section offset tail)) → b ≡ false
  none_case p false is there none = refl
  none_case p true is there none = absurd (none p.tail (subst (Contains pairs) (sym (head_case p is)) there))

  pub no_tail : ((tail : ℕ) → ¬ Contains pairs (text_pair section offset tail)) → tail_at pairs section offset ≡ None
  no_tail none =
      none_first heads (λ p. p.tail) pairs
      (list_any_none heads pairs (λ k d within.
      let p = slice_index_or pairs k d in none_case p (heads p) refl (itself k d within) none))

  pub some_tail : (tail : ℕ) → Contains pairs (text_pair section offset tail) →
      ((tail other : ℕ) → Contains pairs (text_pair section offset tail) → Contains pairs (text_pair section offset other) → tail ≡ other) →
      tail_at pairs section offset ≡ Some tail
  some_tail tail there one =
      let passes : heads (text_pair section offset tail) ≡ true = grind (arith, nat_tests) in
      some_first heads (λ p. p.tail) (Contains pairs) tail
      (λ p within is. one p.tail tail (subst (Contains pairs) (sym (head_case p is)) within) there) pairs (λ k d within. itself k d within)
      (list_any_at heads pairs there.0 (text_pair section offset tail) there.1 (ap heads there.2 ∙ passes))

  -- what is found there is a pair's
  pub tail_found : (tail : ℕ) → tail_at pairs section offset ≡ Some tail → Contains pairs (text_pair section offset tail)
  tail_found tail found =
      let one = found_is heads (λ p. p.tail) (Contains pairs) pairs tail (λ k d within. itself k d within) found in
      subst (λ (n : ℕ). Contains pairs (text_pair section offset n)) one.answer_is
      (subst (Contains pairs) (sym (head_case one.one one.passes)) one.is)

-- ---- pairs of a record's section

section_is : (place here : SectionId) → Some place ≡ Some here → place ≡ here
section_is place here same = cc

module _ (files : List (List ℕ)) (pairs : List TextPair) (are : ArePairs files pairs) (file section : ℕ) (file_in : file < length files)
    (within : section < e_shnum (file_at files file)) (text : is_text (file_at files file) section ≡ true) where
  pub access_at : (offset tail : ℕ) → Contains pairs (text_pair (text_index files file section) offset tail) →
      IsAccessAt (section_bytes (file_at files file) section) offset tail
  access_at offset tail there =
      let is = are.each (text_pair (text_index files file section) offset tail) there in
      let here : SectionId = record { file = file; section = section } in
      let same = section_is is.place here (sym is.place_is ∙ text_index_found files file section file_in within text) in
      let words = subst (λ (s : SectionId). ArePairWords (section_bytes (file_at files s.file) s.section) offset tail) same is.is.words in
      record { access = words.access.access; is = words.access.here; behind = omega (arith, words.near.least); within = words.within }

  pub one_access : (offset tail other : ℕ) → Contains pairs (text_pair (text_index files file section) offset tail) →
      Contains pairs (text_pair (text_index files file section) offset other) → tail ≡ other
  one_access offset tail other there too =
      one_pair_at files (text_index files file section) offset tail other (are.each _ there) (are.each _ too)

-- ---- the words of a load

module _ (files : List (List ℕ)) (span : ℕ) (text : List ℕ) (r : RecordId) where
  abbrev own_bytes : List ℕ
  own_bytes = section_bytes (file_at files r.file) r.section

  abbrev paired : Option ℕ → Option LoadWords
  paired = paired_by (offset_of files r) (load_distance files span text r) own_bytes

  some_case : (t : Bool) (load found : LoadWords) (other : Option LoadWords) → (if t then Some found else None) ≡ Some load →
      (if t then Some found else other) ≡ Some load
  some_case true load found other is = is
  some_case false load found other is = cc

  none_by : (t : Bool) (found : LoadWords) (other : Option LoadWords) → (if t then Some found else None) ≡ None →
      (if t then Some found else other) ≡ other
  none_by true found other is = cc
  none_by false found other is = refl

  -- that of a pair, if there is one
  pub paired_is : (o : Option ℕ) (load : LoadWords) → paired o ≡ Some load → load_by files span text true r o ≡ Some load
  paired_is None load is = cc
  paired_is (Some tail) load is =
      some_case (is_signed 34 (pair_distance files span text r tail)) load (pair_load files span text r tail) _ is

  -- or else the sum, if that is near
  pub sum_is : (o : Option ℕ) → paired o ≡ None →
      load_by files span text true r o ≡ sum_of (load_distance files span text r) (offset_of files r) own_bytes
  sum_is None is = refl
  sum_is (Some tail) is =
      none_by (is_signed 34 (pair_distance files span text r tail)) (pair_load files span text r tail) _ is

  -- the same by what was read of the record
  module _ (pairs : List TextPair) (section offset : ℕ) (distance : ℤ) (bytes : List ℕ)
      (index : section ≡ text_index files r.file r.section)
      (at : offset ≡ offset_of files r) (far : distance ≡ load_distance files span text r) (own : bytes ≡ own_bytes) where
    paired_same : paired_load pairs section offset distance bytes
        ≡ paired (tail_at pairs (text_index files r.file r.section) (offset_of files r))
    paired_same =
        ap (λ (n : ℕ). paired_load pairs n offset distance bytes) index
        ∙ ap (λ (n : ℕ). paired_load pairs (text_index files r.file r.section) n distance bytes) at
        ∙ ap (λ (d : ℤ). paired_load pairs (text_index files r.file r.section) (offset_of files r) d bytes) far
        ∙ ap (λ (b : List ℕ). paired_load pairs (text_index files r.file r.section) (offset_of files r)
        (load_distance files span text r) b) own

    pub got_pair : (load : LoadWords) → Some load ≡ paired_load pairs section offset distance bytes →
        Some load ≡ got_load files span text (rewriting_of files span pairs) r
    got_pair load is =
        sym (paired_is (tail_at pairs (text_index files r.file r.section) (offset_of files r)) load (sym (is ∙ paired_same)))

    pub got_sum : None ≡ paired_load pairs section offset distance bytes →
        sum_of distance offset bytes ≡ got_load files span text (rewriting_of files span pairs) r
    got_sum is =
        ap (λ (d : ℤ). sum_of d offset bytes) far
        ∙ ap (λ (n : ℕ). sum_of (load_distance files span text r) n bytes) at
        ∙ ap (sum_of (load_distance files span text r) (offset_of files r)) own
        ∙ sym (sum_is (tail_at pairs (text_index files r.file r.section) (offset_of files r)) (sym (is ∙ paired_same)))

-- ---- room for the words of a load

module _ (files : List (List ℕ)) (span : ℕ) (text : List ℕ) (r : RecordId) where
  -- the access that isn't made any longer lies in the section
  abbrev pub HasNop : LoadWords → Type 0
  HasNop load = IfSome load.nop (λ distance. distance + offset_of files r + 4 ≤ length (section_bytes (file_at files r.file) r.section))

  sum_nop : (t : Bool) (load : LoadWords) → (if t then Some (near_load files span text r) else None) ≡ Some load → HasNop load
  sum_nop true load is = let same : near_load files span text r ≡ load = cc in subst HasNop same tt
  sum_nop false load is = cc

  pair_nop : (t : Bool) (tail : ℕ) (load : LoadWords) →
      (if t then Some (pair_load files span text r tail) else sum_by files span text true r) ≡ Some load →
      offset_of files r ≤ tail → tail + 4 ≤ length (section_bytes (file_at files r.file) r.section) → HasNop load
  pair_nop true tail load is behind within =
      let same : pair_load files span text r tail ≡ load = cc in
      let lies : tail - offset_of files r + offset_of files r + 4 ≤ length (section_bytes (file_at files r.file) r.section) =
      omega (arith, behind, within) in
      subst HasNop same lies
  pair_nop false tail load is behind within = sum_nop (is_signed 34 (load_distance files span text r)) load is

  by_nop : (o : Option ℕ) (load : LoadWords) → load_by files span text true r o ≡ Some load →
      ((tail : ℕ) → o ≡ Some tail → IsAccessAt (section_bytes (file_at files r.file) r.section) (offset_of files r) tail) → HasNop load
  by_nop None load is at = sum_nop (is_signed 34 (load_distance files span text r)) load is
  by_nop (Some tail) load is at =
      let there = at tail refl in
      pair_nop (is_signed 34 (pair_distance files span text r tail)) tail load is there.behind there.within

  -- what is rewritten is a load
  pub record IsLoad (kind : Kind) (w : Rewriting) (load : LoadWords) : Type 0 where
    pub kind_is : kind ≡ GotPcrel34
    pub load_is : got_load files span text w r ≡ Some load

  pub load_case : (w : Rewriting) (kind : Kind) (load : LoadWords) → rewritten_load files span text w r kind ≡ Some load →
      IsLoad kind w load
  unfolding rewritten_load
  load_case w kind load is =
      elim kind as (λ k. rewritten_load files span text w r k ≡ Some load → IsLoad k w load) [
        | GotPcrel34 ↦ λ same. record { kind_is = refl; load_is = same }
        | _ ↦ λ same. cc
      ] is

  -- both words of a load, and its access
  pub record HasLoadRoom (kind : Kind) (load : LoadWords) : Type 0 where
    pub width : (line_of kind).width ≡ 8
    pub nop : HasNop load

  pub load_room : (pairs : List TextPair) (kind : Kind) (load : LoadWords) → ArePairs files pairs → r.file < length files →
      r.section < e_shnum (file_at files r.file) → is_text (file_at files r.file) r.section ≡ true →
      Some load ≡ rewritten_load files span text (rewriting_of files span pairs) r kind → HasLoadRoom kind load
  load_room pairs kind load are inside within in_text is =
      let case = load_case (rewriting_of files span pairs) kind load (sym is) in
      record {
        width = ap (λ (k : Kind). (line_of k).width) case.kind_is;
        nop = by_nop (tail_at pairs (text_index files r.file r.section) (offset_of files r)) load case.load_is
            (λ tail found. access_at files pairs are r.file r.section inside within in_text (offset_of files r) tail
            (tail_found pairs (text_index files r.file r.section) (offset_of files r) tail found));
      }
