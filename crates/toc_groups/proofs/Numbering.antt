-- Slots while they are numbered.
use Rattle.std.proofs.Common.{ℕ, zero, suc, ◌≡◌, ◌<◌, ◌⊎◌, inl, inr, Bool, true, false, cond, not, ◌&&◌, ◌||◌, ◌==◌, List, [], ◌∷◌, ◌++◌}
use Rattle.std.proofs.Common.{length, get_or, set, Option, Some, None, is_some, position, if◌then◌else◌, ap, sym, subst, ◌∙◌, refl, arith}
use Rattle.std.specs.Prelude.{OnOk, IfOk, Result, Ok, Err, replicate}
use Rattle.std.specs.List.{list_any}
use Rattle.std.specs.Str.{bytes_eq}
use Rattle.std.specs.Borrow.{Bor}
use Rattle.std.specs.BTreeMap.{BTreeMap, get_by, UpdatesBy}
use Rattle.std.specs.Cmp.Lexicographic.{slice_cmp}
use Rattle.std.specs.Ordering.{nat_cmp}
use Rattle.std.proofs.lemmas.Bool.Decides.{nat_tests}
use Rattle.std.proofs.lemmas.Slice.Eq.{bytes_eq-Decides}
use Rattle.std.proofs.lemmas.Map.Text.{btree_map_updates_str}
use Rattle.std.proofs.lemmas.List.Folds.{list_any-append}
use Rattle.std.proofs.lemmas.List.{get_or-set_same, get_or-set_other}
use Rattle.std.proofs.lemmas.List.Sums.{fold-append}
use Rattle.std.proofs.Math.ListN.{length-set}
use Rattle.elf64_records.specs.Symbols.{symbol_count, symbol_of}
use Rattle.object_set.specs.declared.places.SymbolId.{SymbolId}
use Rattle.object_set.specs.Files.{file_at}
use Rattle.object_set.specs.Symbols.{name_of, is_local}
use Rattle.toc_groups.specs.Slots.{symbol_id, shares_slot, with_slot, with_slots}
use Rattle.toc_groups.specs.inside.Numbered.{SlotList, slot_list, bears, AreNamed, is_symbol, IsRow, Notes, Adds}
use Rattle.toc_groups.proofs.Positions.{position_kept, position_last, position_other, any-from_some, any_last, same_position, same_any}

-- ---- which symbols share a slot

known : (b : Bool) → (b ≡ true) ⊎ (b ≡ false)
known true = inl refl
known false = inr refl

or_none : (b : Bool) → (b || false) ≡ b
or_none true = refl
or_none false = refl

local_case : (same own rest : Bool) → own ≡ true → (same || (not own && rest)) ≡ same
local_case same true rest is = or_none same
local_case same false rest is = cc

and_assoc : (a b c : Bool) → (a && b && c) ≡ (a && (b && c))
and_assoc true b c = refl
and_assoc false b c = refl

-- a symbol that only its file sees shares only the slot that was made for it
pub local_shares : (files : List (List ℕ)) (a : SymbolId) → is_local (file_at files a.file) a.symbol ≡ true → (s : SymbolId) →
    shares_slot files a s ≡ is_symbol a.file a.symbol s
local_shares files a own s =
    let x = file_at files a.file in
    let y = file_at files s.file in
    let same = a.file == s.file && a.symbol == s.symbol in
    let named = bytes_eq (name_of x a.symbol) (name_of y s.symbol) in
    ap (λ (b : Bool). same || b) (and_assoc (not (is_local x a.symbol)) (not (is_local y s.symbol)) named)
    ∙ local_case same (is_local x a.symbol) (not (is_local y s.symbol) && named) own

both_equal : (a b c d : ℕ) → (a == c && b == d) ≡ true → (a ≡ c) × (b ≡ d)
both_equal a b c d is = (grind (arith, nat_tests, is), grind (arith, nat_tests, is))

bytes_same : (a : List ℕ) → bytes_eq a a ≡ true
bytes_same a = (bytes_eq-Decides a a).1 refl

seen_case : (same own named : Bool) → own ≡ false → (same ≡ true → named ≡ true) → (same || (not own && named)) ≡ named
seen_case true false named is this = sym (this refl)
seen_case false false named is this = refl
seen_case same true named is this = cc

seen_itself : (files : List (List ℕ)) (f j f' j' : ℕ) → f ≡ f' → j ≡ j' → is_local (file_at files f) j ≡ false →
    bears files (name_of (file_at files f) j) (symbol_id f' j') ≡ true
seen_itself files f j f' j' file number seen =
    let here : bears files (name_of (file_at files f) j) (symbol_id f j) ≡ true =
    ap (λ (b : Bool). not b && bytes_eq (name_of (file_at files f) j) (name_of (file_at files f) j)) seen
    ∙ bytes_same (name_of (file_at files f) j) in
    subst (λ (n : ℕ). bears files (name_of (file_at files f) j) (symbol_id n j') ≡ true) file
    (subst (λ (n : ℕ). bears files (name_of (file_at files f) j) (symbol_id f n) ≡ true) number here)

-- another one shares those of its name
pub seen_shares : (files : List (List ℕ)) (a : SymbolId) → is_local (file_at files a.file) a.symbol ≡ false → (s : SymbolId) →
    shares_slot files a s ≡ bears files (name_of (file_at files a.file) a.symbol) s
seen_shares files a seen s =
    let x = file_at files a.file in
    let y = file_at files s.file in
    let same = a.file == s.file && a.symbol == s.symbol in
    let named = bytes_eq (name_of x a.symbol) (name_of y s.symbol) in
    ap (λ (b : Bool). same || b) (and_assoc (not (is_local x a.symbol)) (not (is_local y s.symbol)) named)
    ∙ seen_case same (is_local x a.symbol) (not (is_local y s.symbol) && named) seen
    (λ is. let parts = both_equal a.file a.symbol s.file s.symbol is in
    seen_itself files a.file a.symbol s.file s.symbol parts.0 parts.1 seen)

-- a symbol shares its own slot
itself_case : (same rest : Bool) → same ≡ true → (same || rest) ≡ true
itself_case true rest is = refl
itself_case false rest is = cc

pub shares_itself : (files : List (List ℕ)) (a : SymbolId) → shares_slot files a a ≡ true
shares_itself files a =
    let x = file_at files a.file in
    let here : (a.file == a.file && a.symbol == a.symbol) ≡ true = grind (arith, nat_tests) in
    itself_case (a.file == a.file && a.symbol == a.symbol)
    (not (is_local x a.symbol) && not (is_local x a.symbol) && bytes_eq (name_of x a.symbol) (name_of x a.symbol)) here

-- ---- one slot more

pub with_old : (files : List (List ℕ)) (slots : List SymbolId) (s : SymbolId) → list_any (shares_slot files s) slots ≡ true →
    with_slot files slots s ≡ slots
with_old files slots s any = ap (λ (b : Bool). if b then slots else slots ++ s ∷ []) any

pub with_new : (files : List (List ℕ)) (slots : List SymbolId) (s : SymbolId) → list_any (shares_slot files s) slots ≡ false →
    with_slot files slots s ≡ slots ++ s ∷ []
with_new files slots s none = ap (λ (b : Bool). if b then slots else slots ++ s ∷ []) none

-- a slot that is made now has the last number
pub new_number : (files : List (List ℕ)) (slots : List SymbolId) (s : SymbolId) → list_any (shares_slot files s) slots ≡ false →
    position (shares_slot files s) (slots ++ s ∷ []) ≡ Some (length slots)
new_number files slots s none = position_last (shares_slot files s) slots s none (shares_itself files s)

-- what a call answers that makes one
pub made_slots : {E : Type 0} (r : Result ℕ E) (files : List (List ℕ)) (slots : List SymbolId) (s : SymbolId) (new : SlotList) →
    list_any (shares_slot files s) slots ≡ false →
    OnOk r (new ≡ slot_list files (slots ++ s ∷ [])) → OnOk r (new ≡ slot_list files (with_slot files slots s))
made_slots r files slots s new none made =
    subst (λ (l : List SymbolId). OnOk r (new ≡ slot_list files l)) (sym (with_new files slots s none)) made

pub made_number : {E : Type 0} (r : Result ℕ E) (files : List (List ℕ)) (slots : List SymbolId) (s : SymbolId) (new : SlotList) →
    list_any (shares_slot files s) slots ≡ false →
    OnOk r (new ≡ slot_list files (slots ++ s ∷ [])) → IfOk r (λ n. n ≡ length slots) →
    IfOk r (λ n. position (shares_slot files s) new.slots ≡ Some n)
made_number (Ok n) files slots s new none made last =
    ap (λ (l : SlotList). position (shares_slot files s) l.slots) made ∙ new_number files slots s none ∙ ap Some (sym last)
made_number (Err e) files slots s new none made last = tt

-- no name of the slots is that of a symbol that other files see and that shares none
pub unnamed : (files : List (List ℕ)) (slots : List SymbolId) (a : SymbolId) → is_local (file_at files a.file) a.symbol ≡ false →
    list_any (shares_slot files a) slots ≡ list_any (bears files (name_of (file_at files a.file) a.symbol)) slots
unnamed files slots a seen =
    same_any (shares_slot files a) (bears files (name_of (file_at files a.file) a.symbol)) (seen_shares files a seen) slots

pub unnumbered : (files : List (List ℕ)) (slots : List SymbolId) (a : SymbolId) → is_local (file_at files a.file) a.symbol ≡ true →
    list_any (is_symbol a.file a.symbol) slots ≡ false → list_any (shares_slot files a) slots ≡ false
unnumbered files slots a own none =
    same_any (shares_slot files a) (is_symbol a.file a.symbol) (local_shares files a own) slots ∙ none

-- the name of a symbol that other files see is that of its entry
first_local : (b : List ℕ) (j : ℕ) (zeroth : Bool) → (j == 0) ≡ zeroth → is_local b j ≡ false → name_of b j ≡ (symbol_of b j).name
first_local b j true is seen =
    let own : is_local b j ≡ true = grind (arith, nat_tests, is) in
    cc
first_local b j false is seen = ap (λ (t : Bool). if t then [] else (symbol_of b j).name) is

pub seen_name : (b : List ℕ) (j : ℕ) → is_local b j ≡ false → name_of b j ≡ (symbol_of b j).name
seen_name b j seen = first_local b j (j == 0) refl seen

-- what the map gives for a name tells the slot
pub number_found : (files : List (List ℕ)) (slots : List SymbolId) (names : BTreeMap (Bor (List ℕ)) ℕ) (a : SymbolId) (o : Option ℕ)
    (name : List ℕ) → AreNamed files slots names → is_local (file_at files a.file) a.symbol ≡ false →
    name ≡ name_of (file_at files a.file) a.symbol →
    o ≡ get_by (λ q. slice_cmp nat_cmp name q.now) names → position (shares_slot files a) slots ≡ o
number_found files slots names a o name are seen is found =
    let own = name_of (file_at files a.file) a.symbol in
    same_position (shares_slot files a) (bears files own) (seen_shares files a seen) slots
    ∙ sym (ap (λ (n : List ℕ). position (bears files n) slots) is) ∙ sym (are name) ∙ sym found

-- so it does for the slots of a group
pub looked_up : (files : List (List ℕ)) (slots : List SymbolId) (names : BTreeMap (Bor (List ℕ)) ℕ) (l : SlotList) (a : SymbolId)
    (own : Bool) (o : Option ℕ) (b name : List ℕ) → AreNamed files slots names → slot_list files slots ≡ l →
    own ≡ is_local (file_at files a.file) a.symbol → own ≡ false → b ≡ file_at files a.file → name ≡ (symbol_of b a.symbol).name →
    o ≡ get_by (λ q. slice_cmp nat_cmp name q.now) names → position (shares_slot l.files a) l.slots ≡ o
looked_up files slots names l a own o b name are view is other file named found =
    let seen : is_local (file_at files a.file) a.symbol ≡ false = sym is ∙ other in
    let this : name ≡ name_of (file_at files a.file) a.symbol =
    named ∙ ap (λ (x : List ℕ). (symbol_of x a.symbol).name) file ∙ sym (seen_name (file_at files a.file) a.symbol seen) in
    subst (λ (m : SlotList). position (shares_slot m.files a) m.slots ≡ o) view
    (number_found files slots names a o name are seen this found)

flip : (a b : List ℕ) → bytes_eq a b ≡ false → bytes_eq b a ≡ false
flip a b apart = elim (known (bytes_eq b a)) [
  | inl same ↦ (let is : b ≡ a = (bytes_eq-Decides b a).0 same in
      let here : bytes_eq a b ≡ true = ap (bytes_eq a) is ∙ bytes_same a in cc)
  | inr other ↦ other
]

-- the map with a name more
pub named_more : (files : List (List ℕ)) (slots : List SymbolId) (old new : BTreeMap (Bor (List ℕ)) ℕ) (s : SymbolId) (name : List ℕ)
    (n : ℕ) → AreNamed files slots old → is_local (file_at files s.file) s.symbol ≡ false →
    name ≡ name_of (file_at files s.file) s.symbol → list_any (shares_slot files s) slots ≡ false → n ≡ length slots →
    UpdatesBy (λ x y. slice_cmp nat_cmp x.now y.now) (λ k. slice_cmp nat_cmp name k.now) old new (Some n) →
    AreNamed files (slots ++ s ∷ []) new
named_more files slots old new s name n are seen is none last updates q =
    let own = name_of (file_at files s.file) s.symbol in
    let read = btree_map_updates_str name old new (Some n) updates q in
    let bears_s : bears files q s ≡ bytes_eq q name = ap (λ (b : Bool). not b && bytes_eq q own) seen ∙ ap (bytes_eq q) (sym is) in
    elim (known (bytes_eq name q)) [
      | inl same ↦ (
          let this : name ≡ q = (bytes_eq-Decides name q).0 same in
          let free : list_any (bears files q) slots ≡ false =
          sym (ap (λ (m : List ℕ). list_any (bears files m) slots) (sym is ∙ this))
          ∙ sym (unnamed files slots s seen) ∙ none in
          let here : bears files q s ≡ true = bears_s ∙ ap (bytes_eq q) this ∙ bytes_same q in
          read ∙ ap (λ (b : Bool). cond b (Some n) (get_by (λ k. slice_cmp nat_cmp q k.now) old)) same ∙ ap Some last
          ∙ sym (position_last (bears files q) slots s free here))
      | inr apart ↦ (
          let here : bears files q s ≡ false = bears_s ∙ flip name q apart in
          read ∙ ap (λ (b : Bool). cond b (Some n) (get_by (λ k. slice_cmp nat_cmp q k.now) old)) apart ∙ are q
          ∙ sym (position_other (bears files q) slots s here))
    ]

-- ---- rows

pub slots_kept : (files : List (List ℕ)) (slots : List SymbolId) (s a : SymbolId) (k : ℕ) → position (shares_slot files a) slots ≡ Some k →
    position (shares_slot files a) (with_slot files slots s) ≡ Some k
slots_kept files slots s a k found = elim (known (list_any (shares_slot files s) slots)) [
  | inl any ↦ ap (position (shares_slot files a)) (with_old files slots s any) ∙ found
  | inr none ↦ ap (position (shares_slot files a)) (with_new files slots s none)
      ∙ position_kept (shares_slot files a) slots (s ∷ []) k found
]

other_symbol : (file j i : ℕ) → (j ≡ i → ⊥) → is_symbol file j (symbol_id file i) ≡ false
other_symbol file j i apart = grind (arith, nat_tests, apart)

none_kept : (files : List (List ℕ)) (slots : List SymbolId) (file j i : ℕ) → (j ≡ i → ⊥) → list_any (is_symbol file j) slots ≡ false →
    list_any (is_symbol file j) (with_slot files slots (symbol_id file i)) ≡ false
none_kept files slots file j i apart free = elim (known (list_any (shares_slot files (symbol_id file i)) slots)) [
  | inl any ↦ ap (list_any (is_symbol file j)) (with_old files slots (symbol_id file i) any) ∙ free
  | inr none ↦ ap (list_any (is_symbol file j)) (with_new files slots (symbol_id file i) none)
      ∙ any_last (is_symbol file j) slots (symbol_id file i) free (other_symbol file j i apart)
]

same_or : (a b : ℕ) → (a ≡ b) ⊎ (a ≡ b → ⊥)
same_or a b = grind arith

-- a symbol is numbered that wasn't
pub row_numbered : (files : List (List ℕ)) (slots : List SymbolId) (file i n : ℕ) (row : List (Option ℕ)) →
    IsRow (slot_list files slots) file row → i < length row →
    position (shares_slot files (symbol_id file i)) (with_slot files slots (symbol_id file i)) ≡ Some n →
    IsRow (slot_list files (with_slot files slots (symbol_id file i))) file (set row i (Some n))
row_numbered files slots file i n row is within numbered =
    let s = symbol_id file i in
    record {
      count = length-set row i (Some n) ∙ is.count;
      some = λ j k found. elim (same_or j i) [
        | inl same ↦ (
            let here : get_or (set row i (Some n)) j None ≡ Some n =
            ap (λ (x : ℕ). get_or (set row i (Some n)) x None) same ∙ get_or-set_same row i (Some n) None within in
            ap (λ (x : ℕ). position (shares_slot files (symbol_id file x)) (with_slot files slots s)) same ∙ numbered
            ∙ sym here ∙ found)
        | inr apart ↦ slots_kept files slots s (symbol_id file j) k
            (is.some j k (sym (get_or-set_other row i j (Some n) None apart) ∙ found))
      ];
      none = λ j found. elim (same_or j i) [
        | inl same ↦ (
            let here : get_or (set row i (Some n)) j None ≡ Some n =
            ap (λ (x : ℕ). get_or (set row i (Some n)) x None) same ∙ get_or-set_same row i (Some n) None within in
            let both : Some n ≡ None = sym here ∙ found in
            cc)
        | inr apart ↦ none_kept files slots file j i apart
            (is.none j (sym (get_or-set_other row i j (Some n) None apart) ∙ found))
      ];
    }

named_one : (i j : ℕ) (b : Bool) → (i == j) ≡ b → list_any (λ (s : SymbolId). s.symbol == j) (symbol_id 0 i ∷ []) ≡ b
named_one i j b is = or_none (i == j) ∙ is

noted_case : (old : Option ℕ) (b : Bool) → (b ≡ true → is_some old ≡ true) → is_some old ≡ (is_some old || b)
noted_case (Some x) b there = refl
noted_case None true there = there refl
noted_case None false there = refl

pub noted_old : (file i : ℕ) (row : List (Option ℕ)) → is_some (get_or row i None) ≡ true → Notes (symbol_id file i ∷ []) row row
noted_old file i row there = record {
  each = λ j within.
      noted_case (get_or row j None) (list_any (λ (s : SymbolId). s.symbol == j) (symbol_id file i ∷ []))
      (λ this.
      let same : i ≡ j = grind (arith, nat_tests, sym (or_none (i == j)) ∙ this) in
      ap (λ (x : ℕ). is_some (get_or row x None)) (sym same) ∙ there);
}

or_true : (b : Bool) → true ≡ (b || true)
or_true true = refl
or_true false = refl

pub noted_new : (file i n : ℕ) (row : List (Option ℕ)) → i < length row → Notes (symbol_id file i ∷ []) row (set row i (Some n))
noted_new file i n row within = record {
  each = λ j inside. elim (same_or j i) [
    | inl same ↦ (
        let here : get_or (set row i (Some n)) j None ≡ Some n =
        ap (λ (x : ℕ). get_or (set row i (Some n)) x None) same ∙ get_or-set_same row i (Some n) None within in
        let this : (i == j) ≡ true = grind (arith, nat_tests, same) in
        ap is_some here ∙ or_true (is_some (get_or row j None))
        ∙ ap (λ (b : Bool). is_some (get_or row j None) || b) (sym (or_none (i == j) ∙ this)))
    | inr apart ↦ (
        let this : (i == j) ≡ false = grind (arith, nat_tests, apart) in
        ap is_some (get_or-set_other row i j (Some n) None apart) ∙ sym (or_none (is_some (get_or row j None)))
        ∙ ap (λ (b : Bool). is_some (get_or row j None) || b) (sym (or_none (i == j) ∙ this)))
  ];
}

-- ---- symbols come

-- a row without numbers
replicate_none : (o : Option ℕ) (n j : ℕ) → o ≡ None → get_or (replicate n o) j None ≡ None
replicate_none o zero j is = refl
replicate_none o (suc n) zero is = is
replicate_none o (suc n) (suc j) is = replicate_none o n j is

pub adds_empty : (l : SlotList) (file n : ℕ) (row : List (Option ℕ)) → row ≡ replicate n None → length row ≡ n →
    n ≡ symbol_count (file_at l.files file) → ((j : ℕ) → list_any (is_symbol file j) l.slots ≡ false) → Adds [] file l l [] row
adds_empty l file n row is long count new =
    let empty : (j : ℕ) → get_or row j None ≡ None = λ j. ap (λ (r : List (Option ℕ)). get_or r j None) is ∙ replicate_none None n j refl in
    record {
      slots = refl;
      row = record {
        count = long ∙ count;
        some = λ j k found. (let both : None ≡ Some k = sym (empty j) ∙ found in cc);
        none = λ j found. new j;
      };
      noted = record { each = λ j within. ap is_some (empty j) };
    }

-- a symbol that is numbered already
old_case : (l : SlotList) (file i : ℕ) (row : List (Option ℕ)) (o : Option ℕ) → IsRow l file row → get_or row i None ≡ o →
    is_some o ≡ true → Adds (symbol_id file i ∷ []) file l l row row
old_case l file i row None is read some = cc
old_case l file i row (Some k) is read some =
    let s = symbol_id file i in
    let any = any-from_some (shares_slot l.files s) l.slots k (is.some i k read) in
    record {
      slots = ap (slot_list l.files) (sym (with_old l.files l.slots s any));
      row = is;
      noted = noted_old file i row (ap is_some read);
    }

pub adds_old : (l : SlotList) (file i : ℕ) (row : List (Option ℕ)) (o : Option ℕ) (none : Bool) → IsRow l file row →
    get_or row i None ≡ o → is_some o ≡ not none → none ≡ false → Adds (symbol_id file i ∷ []) file l l row row
adds_old l file i row o none is read test some = old_case l file i row o is read (test ∙ ap not some)

-- and one that isn't
pub adds_new : (l new : SlotList) (file i n : ℕ) (row : List (Option ℕ)) → IsRow l file row → i < length row →
    new ≡ slot_list l.files (with_slot l.files l.slots (symbol_id file i)) →
    position (shares_slot l.files (symbol_id file i)) new.slots ≡ Some n → Adds (symbol_id file i ∷ []) file l new row (set row i (Some n))
adds_new l new file i n row is within slots number =
    let s = symbol_id file i in
    let numbered : position (shares_slot l.files s) (with_slot l.files l.slots s) ≡ Some n =
    sym (ap (λ (m : SlotList). position (shares_slot l.files s) m.slots) slots) ∙ number in
    record {
      slots = slots;
      row = subst (λ (m : SlotList). IsRow m file (set row i (Some n))) (sym slots)
          (row_numbered l.files l.slots file i n row is within numbered);
      noted = noted_new file i n row within;
    }

pub adds_none : (l : SlotList) (file : ℕ) (row : List (Option ℕ)) → IsRow l file row → Adds [] file l l row row
adds_none l file row is = record {
  slots = refl;
  row = is;
  noted = record { each = λ j within. sym (or_none (is_some (get_or row j None))) };
}

or_assoc : (a b c : Bool) → ((a || b) || c) ≡ (a || (b || c))
or_assoc true b c = refl
or_assoc false b c = refl

notes_more : (xs ys : List SymbolId) (old mid new : List (Option ℕ)) → length new ≡ length mid → Notes xs old mid → Notes ys mid new →
    Notes (xs ++ ys) old new
notes_more xs ys old mid new long first second = record {
  each = λ j within.
      let p : SymbolId → Bool = λ s. s.symbol == j in
      second.each j within ∙ ap (λ (b : Bool). b || list_any p ys) (first.each j (omega (arith, within, long)))
      ∙ or_assoc (is_some (get_or old j None)) (list_any p xs) (list_any p ys)
      ∙ ap (λ (b : Bool). is_some (get_or old j None) || b) (sym (list_any-append p xs ys));
}

-- what comes in two parts
pub adds_more : (xs ys : List SymbolId) (file : ℕ) (old mid new : SlotList) (old_row mid_row new_row : List (Option ℕ)) →
    Adds xs file old mid old_row mid_row → Adds ys file mid new mid_row new_row → Adds (xs ++ ys) file old new old_row new_row
adds_more xs ys file old mid new old_row mid_row new_row first second =
    let files_are : mid.files ≡ old.files = ap (λ (l : SlotList). l.files) first.slots in
    let slots_are : mid.slots ≡ with_slots old.files old.slots xs = ap (λ (l : SlotList). l.slots) first.slots in
    let new_files : new.files ≡ mid.files = ap (λ (l : SlotList). l.files) second.slots in
    let counts : symbol_count (file_at new.files file) ≡ symbol_count (file_at mid.files file) =
    ap (λ (f : List (List ℕ)). symbol_count (file_at f file)) new_files in
    let long : length new_row ≡ length mid_row = second.row.count ∙ counts ∙ sym first.row.count in
    record {
      slots = second.slots ∙ ap (λ (f : List (List ℕ)). slot_list f (with_slots f mid.slots ys)) files_are
          ∙ ap (λ (l : List SymbolId). slot_list old.files (with_slots old.files l ys)) slots_are
          ∙ ap (slot_list old.files) (sym (fold-append (with_slot old.files) old.slots xs ys));
      row = second.row;
      noted = notes_more xs ys old_row mid_row new_row long first.noted second.noted;
    }

-- and what comes next, told by the file's bytes
pub adds_next : (f : List ℕ → List SymbolId) (xs : List SymbolId) (file : ℕ) (old mid new : SlotList)
    (old_row mid_row new_row : List (Option ℕ)) → Adds xs file old mid old_row mid_row →
    Adds (f (file_at mid.files file)) file mid new mid_row new_row → Adds (xs ++ f (file_at old.files file)) file old new old_row new_row
adds_next f xs file old mid new old_row mid_row new_row first second =
    let files_are : mid.files ≡ old.files = ap (λ (l : SlotList). l.files) first.slots in
    let here : Adds (f (file_at old.files file)) file mid new mid_row new_row =
    subst (λ (s : List (List ℕ)). Adds (f (file_at s file)) file mid new mid_row new_row) files_are second in
    adds_more xs (f (file_at old.files file)) file old mid new old_row mid_row new_row first here
