-- The slots of a group as files join.
use Rattle.std.proofs.Common.{ℕ, zero, suc, ◌≡◌, ◌<◌, ◌+◌, Bool, true, false, ◌||◌, List, [], ◌∷◌, ◌++◌, length, take}
use Rattle.std.proofs.Common.{Some, position, if◌then◌else◌, ap, sym, subst, ◌∙◌, refl, arith, append_assoc}
use Rattle.std.specs.List.{AllByRecursion, list_any}
use Rattle.std.proofs.lemmas.Bool.Decides.{nat_tests}
use Rattle.std.proofs.lemmas.List.{append-nil}
use Rattle.std.proofs.Math.Seq.{take-append_seam}
use Rattle.elf64_records.specs.FileHeader.{e_shnum}
use Rattle.elf64_records.specs.Records.{record_count, r_type, r_symbol}
use Rattle.object_set.specs.declared.places.SymbolId.{SymbolId}
use Rattle.object_set.specs.Files.{file_at}
use Rattle.object_set.specs.Walks.{items_in}
use Rattle.toc_groups.specs.Slots.{is_got_load, symbol_id, shares_slot, named_at, named_by, named_walk, named_symbols, with_slot, with_slots, slots_of}
use Rattle.toc_groups.specs.inside.Numbered.{is_symbol}
use Rattle.toc_groups.proofs.Every.{all_append, all_weaker}
use Rattle.toc_groups.proofs.Positions.{position_kept}

-- slots and more behind them
pub record Extends (old new : List SymbolId) : Type 0 where
  pub more : List SymbolId
  pub is : new ≡ old ++ more

extends_same : (slots : List SymbolId) → Extends slots slots
extends_same slots = record { more = []; is = sym (append-nil slots) }

extends_both : (a b c : List SymbolId) → Extends a b → Extends b c → Extends a c
extends_both a b c first second = record {
  more = first.more ++ second.more;
  is = second.is ∙ ap (λ (l : List SymbolId). l ++ second.more) first.is ∙ append_assoc a first.more second.more;
}

with_case : (slots : List SymbolId) (s : SymbolId) (t : Bool) → Extends slots (if t then slots else slots ++ s ∷ [])
with_case slots s true = extends_same slots
with_case slots s false = record { more = s ∷ []; is = refl }

pub with_slots_extends : (files : List (List ℕ)) (slots named : List SymbolId) → Extends slots (with_slots files slots named)
with_slots_extends files slots [] = extends_same slots
with_slots_extends files slots (s ∷ named) =
    extends_both slots (with_slot files slots s) (with_slots files (with_slot files slots s) named)
    (with_case slots s (list_any (shares_slot files s) slots)) (with_slots_extends files (with_slot files slots s) named)

-- the first ones are those that were there
pub take_extended : (old new : List SymbolId) → Extends old new → take (length old) new ≡ old
take_extended old new extends = ap (take (length old)) extends.is ∙ take-append_seam old extends.more

-- more files have the slots of fewer
pub slots_extend : (files : List (List ℕ)) (first n m : ℕ) → Extends (slots_of files first n) (slots_of files first (n + m))
slots_extend files first n zero =
    subst (λ (k : ℕ). Extends (slots_of files first n) (slots_of files first k)) (let e : n ≡ n + 0 = omega arith in e)
    (extends_same (slots_of files first n))
slots_extend files first n (suc m) =
    let more : suc (n + m) ≡ n + suc m = omega arith in
    subst (λ (k : ℕ). Extends (slots_of files first n) (slots_of files first k)) more
    (extends_both (slots_of files first n) (slots_of files first (n + m)) (slots_of files first (suc (n + m)))
    (slots_extend files first n m)
    (with_slots_extends files (slots_of files first (n + m)) (named_symbols files (first + (n + m)))))

pub position_extended : (p : SymbolId → Bool) (old new : List SymbolId) (k : ℕ) → Extends old new → position p old ≡ Some k →
    position p new ≡ Some k
position_extended p old new k extends found = ap (position p) extends.is ∙ position_kept p old extends.more k found

-- ---- whose symbols they are

abbrev IsBelow : ℕ → SymbolId → Type 0
IsBelow end s = s.file < end

named_one : (file : ℕ) (j : ℕ) (t : Bool) → AllByRecursion (IsBelow (suc file)) (if t then symbol_id file j ∷ [] else [])
named_one file j true = (omega arith, tt)
named_one file j false = tt

named_by_below : (file : ℕ) (b : List ℕ) (i n : ℕ) → AllByRecursion (IsBelow (suc file)) (named_by file b i n)
named_by_below file b i zero = tt
named_by_below file b i (suc n) =
    all_append (IsBelow (suc file)) (named_by file b i n) (named_at file b i n) (named_by_below file b i n)
    (named_one file (r_symbol b i n) (is_got_load (r_type b i n)))

named_in_below : (file : ℕ) (b : List ℕ) (n : ℕ) → AllByRecursion (IsBelow (suc file)) (items_in named_walk file b n)
named_in_below file b zero = tt
named_in_below file b (suc n) =
    all_append (IsBelow (suc file)) (items_in named_walk file b n) (named_by file b n (record_count b n)) (named_in_below file b n)
    (named_by_below file b n (record_count b n))

with_below : (end : ℕ) (slots : List SymbolId) (s : SymbolId) (t : Bool) → AllByRecursion (IsBelow end) slots → IsBelow end s →
    AllByRecursion (IsBelow end) (if t then slots else slots ++ s ∷ [])
with_below end slots s true are this = are
with_below end slots s false are this = all_append (IsBelow end) slots (s ∷ []) are (this, tt)

with_slots_below : (files : List (List ℕ)) (end : ℕ) (slots named : List SymbolId) → AllByRecursion (IsBelow end) slots →
    AllByRecursion (IsBelow end) named → AllByRecursion (IsBelow end) (with_slots files slots named)
with_slots_below files end slots [] are these = are
with_slots_below files end slots (s ∷ named) are these =
    with_slots_below files end (with_slot files slots s) named
    (with_below end slots s (list_any (shares_slot files s) slots) are these.0) these.1

slots_below : (files : List (List ℕ)) (first n : ℕ) → AllByRecursion (IsBelow (first + n)) (slots_of files first n)
slots_below files first zero = tt
slots_below files first (suc n) =
    let next : suc (first + n) ≡ first + suc n = omega arith in
    let before = all_weaker (IsBelow (first + n)) (IsBelow (suc (first + n))) (λ s low. omega (arith, low)) (slots_of files first n)
    (slots_below files first n) in
    let file = first + n in
    subst (λ (end : ℕ). AllByRecursion (IsBelow end) (with_slots files (slots_of files first n) (named_symbols files file))) next
    (with_slots_below files (suc file) (slots_of files first n) (named_symbols files file) before
    (named_in_below file (file_at files file) (e_shnum (file_at files file))))

none_of : (file j : ℕ) (slots : List SymbolId) → AllByRecursion (IsBelow file) slots → list_any (is_symbol file j) slots ≡ false
none_of file j [] are = refl
none_of file j (s ∷ slots) are =
    let other : is_symbol file j s ≡ false = grind (arith, nat_tests, are.0) in
    ap (λ (b : Bool). b || list_any (is_symbol file j) slots) other ∙ none_of file j slots are.1

-- no slot was made for a symbol of the next file
pub next_new : (files : List (List ℕ)) (first n file : ℕ) → first + n ≡ file → (j : ℕ) →
    list_any (is_symbol file j) (slots_of files first n) ≡ false
next_new files first n file is j =
    none_of file j (slots_of files first n)
    (subst (λ (end : ℕ). AllByRecursion (IsBelow end) (slots_of files first n)) is (slots_below files first n))
