-- What one record more asks for or loads.
use Rattle.std.proofs.Common.{◌≡◌, ◌≤◌, ◌+◌, ◌-◌, ℕ, pos, List, [], ◌∷◌, ◌++◌, Some, sym, ap, ◌∙◌, subst, arith}
use Rattle.elf64_records.specs.Records.{rela_of}
use Rattle.object_set.specs.declared.places.RecordId.{RecordId}
use Rattle.object_set.specs.Files.{file_at}
use Rattle.reloc_fields.specs.declared.kind.Kind.TheVariants.{GotPcrel34, PcrelOpt}
use Rattle.reloc_fields.specs.Table.{line_of}
use Rattle.symbol_table.specs.declared.target.CodePlace.{CodePlace}
use Rattle.pcrel_rewrite.specs.declared.gathered.Gathered.{Gathered}
use Rattle.pcrel_rewrite.specs.declared.text_pairs.TextPair.{TextPair}
use Rattle.pcrel_rewrite.specs.TextPairs.{text_pair}
use Rattle.pcrel_rewrite.specs.inside.Joins.{Joins, Before}
use Rattle.pcrel_rewrite.specs.inside.Gathered.{IsAskedBy, IsLoadBy, Gathers}
use Rattle.pcrel_rewrite.proofs.Joining.{joins_nothing, joins_one, joins_more, joins_none}

pub some_is : {X : Type 0} (x y : X) → Some x ≡ Some y → x ≡ y
some_is x y same = cc

same_distance : (h t t' : ℕ) → h + 8 ≤ t → h + 8 ≤ t' → pos (t - h) ≡ pos (t' - h) → t ≡ t'
same_distance h t t' near near' same =
    let d : t - h ≡ t' - h = cc in
    omega (arith, d)

-- a record asks for one pair
one_asked : (files : List (List ℕ)) (r : RecordId) (x y : TextPair) → IsAskedBy files r x → IsAskedBy files r y → x ≡ y
one_asked files r x y a b =
    let section : x.section ≡ y.section = some_is x.section y.section (sym a.section_is ∙ b.section_is) in
    let head : x.head ≡ y.head = sym a.head_is ∙ b.head_is in
    let distance : pos (x.tail - x.head) ≡ pos (y.tail - x.head) =
    sym a.distance ∙ b.distance ∙ ap (λ (h : ℕ). pos (y.tail - h)) (sym head) in
    let least : x.head + 8 ≤ y.tail = omega (arith, b.words.near.least, head) in
    let tail : x.tail ≡ y.tail = same_distance x.head x.tail y.tail a.words.near.least least distance in
    ap (λ (s : ℕ). text_pair s x.head x.tail) section ∙ ap (λ (h : ℕ). text_pair y.section h x.tail) head
    ∙ ap (λ (t : ℕ). text_pair y.section y.head t) tail

-- and loads at one place
one_load : (files : List (List ℕ)) (r : RecordId) (x y : CodePlace) → IsLoadBy files r x → IsLoadBy files r y → x ≡ y
one_load files r x y a b =
    let section : x.section ≡ y.section = some_is x.section y.section (sym a.section_is ∙ b.section_is) in
    let offset : x.offset ≡ y.offset = sym a.offset_is ∙ b.offset_is in
    let place : ℕ → ℕ → CodePlace = λ s o. record { section = s; offset = o } in
    ap (λ (s : ℕ). place s x.offset) section ∙ ap (λ (o : ℕ). place y.section o) offset

-- no record does both
not_both : (n : ℕ) → n ≡ (line_of PcrelOpt).number → n ≡ (line_of GotPcrel34).number → ⊥
not_both n a b = omega arith

module _ (files : List (List ℕ)) (r : RecordId) (old new : Gathered) where
  -- a record that asks for a pair
  pub asks_one : (pair : TextPair) → IsAskedBy files r pair → new.asked.items ≡ old.asked.items ++ pair ∷ [] →
      new.loads.items ≡ old.loads.items → Gathers (IsAskedBy files r) (IsLoadBy files r) old new
  asks_one pair asks asked loads = record {
    asked_too = subst (Joins (IsAskedBy files r) old.asked.items) (sym asked)
        (joins_one (IsAskedBy files r) old.asked.items pair asks (λ x this. one_asked files r x pair this asks));
    loads_too = subst (Joins (IsLoadBy files r) old.loads.items) (sym loads)
        (joins_nothing (IsLoadBy files r) old.loads.items
        (λ x this. not_both (rela_of (file_at files r.file) r.table r.entry).kind asks.kind_is this.kind_is));
  }

  -- a record that loads an address
  pub loads_one : (place : CodePlace) → IsLoadBy files r place → new.loads.items ≡ old.loads.items ++ place ∷ [] →
      new.asked.items ≡ old.asked.items → Gathers (IsAskedBy files r) (IsLoadBy files r) old new
  loads_one place load loads asked = record {
    asked_too = subst (Joins (IsAskedBy files r) old.asked.items) (sym asked)
        (joins_nothing (IsAskedBy files r) old.asked.items
        (λ x this. not_both (rela_of (file_at files r.file) r.table r.entry).kind this.kind_is load.kind_is));
    loads_too = subst (Joins (IsLoadBy files r) old.loads.items) (sym loads)
        (joins_one (IsLoadBy files r) old.loads.items place load (λ x this. one_load files r x place this load));
  }

-- one record, or one section, more
pub gathers_more : (P : ℕ → TextPair → Type 0) (Q : ℕ → CodePlace → Type 0) (n : ℕ) (old mid new : Gathered) →
    Gathers (Before P n) (Before Q n) old mid → Gathers (P n) (Q n) mid new → Gathers (Before P (n + 1)) (Before Q (n + 1)) old new
gathers_more P Q n old mid new first next = record {
  asked_too = joins_more P n old.asked.items mid.asked.items new.asked.items first.asked_too next.asked_too;
  loads_too = joins_more Q n old.loads.items mid.loads.items new.loads.items first.loads_too next.loads_too;
}

pub gathers_none : (P : ℕ → TextPair → Type 0) (Q : ℕ → CodePlace → Type 0) (g : Gathered) → Gathers (Before P 0) (Before Q 0) g g
gathers_none P Q g = record { asked_too = joins_none P g.asked.items; loads_too = joins_none Q g.loads.items }
