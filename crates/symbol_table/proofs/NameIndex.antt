-- How a name finds its number.
use Rattle.std.proofs.Common.{◌≡◌, ◌≢◌, ◌<◌, ◌≤◌, ℕ, zero, suc, ◌+◌, ◌⊎◌, inl, inr, Bool, true, false, List, [], ◌∷◌, ◌++◌, length, Option, Some, slice_get}
use Rattle.std.proofs.Common.{slice_set, get_or, sym, ap, ◌∙◌, refl, subst, arith, Bor, cond, if◌then◌else◌, get_or-set_other, get_or-set_same, below_more}
use Rattle.std.specs.List.{list_any}
use Rattle.std.specs.Option.{option_map}
use Rattle.std.specs.Prelude.{slice_index}
use Rattle.std.specs.Str.{bytes_eq}
use Rattle.std.specs.BTreeMap.{BTreeMap, get_by, UpdatesBy}
use Rattle.std.specs.Cmp.Lexicographic.{slice_cmp}
use Rattle.std.specs.Ordering.{nat_cmp}
use Rattle.std.proofs.lemmas.Bool.{false_from_ne_true}
use Rattle.std.proofs.lemmas.Map.Text.{btree_map_updates_str}
use Rattle.std.proofs.lemmas.Slice.Eq.{bytes_eq-Decides}
use Rattle.std.proofs.lemmas.Option.{slice_get_within, slice_get_read, slice_get-map}
use Rattle.symbol_table.specs.Externals.{with_name}
use Rattle.symbol_table.specs.inside.Keys.{named}
use Rattle.symbol_table.specs.inside.NameIndex.{first_slot, AreTaken, IsFree, IsSlotted, IsInCrowd, IsFound, IsIndex, IsInNoSlot, ArePassed}
use Rattle.symbol_table.proofs.Distinct.{here, bytes_same, same_bytes}

-- ---- lists of names

pub get_named : (keys : List (Bor (List ℕ))) (k : ℕ) → slice_get (named keys) k ≡
    option_map (λ (q : Bor (List ℕ)). q.now) (slice_get keys k)
get_named keys k = slice_get-map (λ (q : Bor (List ℕ)). q.now) keys k

pub named_append : (xs ys : List (Bor (List ℕ))) → named (xs ++ ys) ≡ named xs ++ named ys
named_append [] ys = refl
named_append (x ∷ xs) ys = ap (λ l. x.now ∷ l) (named_append xs ys)

pub get_last : (names : List (List ℕ)) (name : List ℕ) → slice_get (names ++ name ∷ []) (length names) ≡ Some name
get_last [] name = refl
get_last (x ∷ names) name = get_last names name

pub named_length : (keys : List (Bor (List ℕ))) → length (named keys) ≡ length keys
named_length [] = refl
named_length (x ∷ keys) = ap suc (named_length keys)

-- the name with a number
pub read_named : (keys : List (Bor (List ℕ))) (k : ℕ) (key : Bor (List ℕ)) → k < length keys → key ≡ get_or keys k key →
    slice_get (named keys) k ≡ Some key.now
read_named keys k key within is =
    get_named keys k ∙ ap (option_map (λ (q : Bor (List ℕ)). q.now)) (slice_get_read keys (length keys) k key refl within is)

pub past_named : (keys : List (Bor (List ℕ))) (k : ℕ) (name : List ℕ) → length keys ≤ k → slice_get (named keys) k ≡ Some name → ⊥
past_named keys k name past found =
    let within = slice_get_within (named keys) k name found in
    let lengths = named_length keys in
    omega (arith, past, within, lengths)

-- a comparison tells whether it is a name
pub name_decides : (b : Bool) (other name : List ℕ) (found : Option (List ℕ)) → b ≡ bytes_eq other name → found ≡ Some other →
    ((b ≡ true) → found ≡ Some name) × (found ≡ Some name → (b ≡ true))
name_decides b other name found is at = (
  λ yes. at ∙ ap Some (same_bytes other name (sym is ∙ yes)),
  λ same.
      let this : other ≡ name = (let these : Some other ≡ Some name = sym at ∙ same in cc) in
      is ∙ ap (λ (n : List ℕ). bytes_eq n name) this ∙ bytes_same name,
)

not_any_false : (name x : List ℕ) (names : List (List ℕ)) (b : Bool) → bytes_eq name x ≡ b →
    ((k : ℕ) → slice_get (x ∷ names) k ≢ Some name) →
    b ≡ false
not_any_false name x names true is none = absurd (none zero (ap Some (sym ((bytes_eq-Decides name x).0 is))))
not_any_false name x names false is none = refl

-- a name that none of them is
pub not_any : (name : List ℕ) (names : List (List ℕ)) → ((k : ℕ) → slice_get names k ≢ Some name) → list_any (bytes_eq name) names ≡ false
not_any name [] none = refl
not_any name (x ∷ names) none =
    let first : bytes_eq name x ≡ false = not_any_false name x names (bytes_eq name x) refl none in
    let others : list_any (bytes_eq name) names ≡ false = not_any name names (λ k. none (suc k)) in
    grind (arith, first, others)

pub with_known : (names : List (List ℕ)) (name : List ℕ) (k : ℕ) → slice_get names k ≡ Some name → names ≡ with_name names name
with_known names name k found =
    sym (ap (λ (b : Bool). if b then names else names ++ name ∷ []) (here name names k found))

pub with_new : (names : List (List ℕ)) (name : List ℕ) → list_any (bytes_eq name) names ≡ false → names ++ name ∷ [] ≡ with_name names name
with_new names name none = sym (ap (λ (b : Bool). if b then names else names ++ name ∷ []) none)

-- ---- slots

-- the first slots, and an empty one or no more
pub passed_slots : (names : List (List ℕ)) (slots : List ℕ) (start : ℕ) (name : List ℕ) (i : ℕ) → ArePassed names slots start name i →
    ((8 ≤ i) ⊎ (slice_index slots (start + i) ≡ 0)) → IsInNoSlot names slots start name
passed_slots names slots start name i passed end = λ k slotted found.
    let before : slotted.slot < i → ⊥ = λ less. passed.others slotted.slot k less slotted.holds found in
    elim end [
      | inl far ↦ before (let near = slotted.near in omega (arith, near, far))
      | inr empty ↦ (
          let holds = slotted.holds in
          let beyond : i < slotted.slot → ⊥ = λ less. slotted.taken i less empty in
          let same : i ≡ slotted.slot → ⊥ = λ is.
          let at : slice_index slots (start + slotted.slot) ≡ 0 = subst (λ (n : ℕ). slice_index slots (start + n) ≡ 0) is empty in
          omega (arith, at, holds) in
          let lt : slotted.slot < i = grind (arith, beyond, same) in
          before lt)
    ]

-- one slot more holds another number
pub one_passed : (names : List (List ℕ)) (slots : List ℕ) (start : ℕ) (name : List ℕ) (i : ℕ) → ArePassed names slots start name i →
    slice_index slots (start + i) ≢ 0 →
    ((k : ℕ) → slice_index slots (start + i) ≡ k + 1 → slice_get names k ≢ Some name) → ArePassed names slots start name (i + 1)
one_passed names slots start name i passed full other = record {
  taken = below_more (λ (j : ℕ). slice_index slots (start + j) ≢ 0) i passed.taken full;
  others = λ j k less. below_more (λ (j : ℕ). slice_index slots (start + j) ≡ k + 1 → slice_get names k ≢ Some name) i
      (λ j below. passed.others j k below) (other k) j less;
}

-- a slot that was taken keeps its number where another one, which was empty, is written
pub slot_stays : (slots : List ℕ) (place value at : ℕ) → slice_index slots place ≡ 0 → slice_index slots at ≢ 0 →
    slice_index (slice_set slots place value) at ≡ slice_index slots at
slot_stays slots place value at empty taken =
    let other : at ≢ place = λ same. taken (ap (λ (n : ℕ). slice_index slots n) same ∙ empty) in
    get_or-set_other slots place at value 0 other

taken_stay : (slots : List ℕ) (place value start i : ℕ) → slice_index slots place ≡ 0 → AreTaken slots start i →
    AreTaken (slice_set slots place value) start i
taken_stay slots place value start i empty taken j less zeroed =
    taken j less (sym (slot_stays slots place value (start + j) empty (taken j less)) ∙ zeroed)

slotted_stays : (slots : List ℕ) (place value start k : ℕ) → slice_index slots place ≡ 0 → IsSlotted slots start k →
    IsSlotted (slice_set slots place value) start k
slotted_stays slots place value start k empty slotted =
    let holds = slotted.holds in
    let taken : slice_index slots (start + slotted.slot) ≢ 0 = λ zeroed. omega (arith, holds, zeroed) in
    record {
      slot = slotted.slot;
      near = slotted.near;
      taken = taken_stay slots place value start slotted.slot empty slotted.taken;
      holds = slot_stays slots place value (start + slotted.slot) empty taken ∙ slotted.holds;
    }

slotted_here : (slots : List ℕ) (start i k : ℕ) → IsFree slots start i → start + 8 ≤ length slots →
    IsSlotted (slice_set slots (start + i) (k + 1)) start k
slotted_here slots start i k free room =
    let near = free.near in
    let within : start + i < length slots = omega (arith, near, room) in
    record {
      slot = i;
      near = free.near;
      taken = taken_stay slots (start + i) (k + 1) start i free.empty free.taken;
      holds = get_or-set_same slots (start + i) (k + 1) 0 within;
    }

-- ---- the index

-- a name among names and one more: an earlier one, or the last
get_cases : (names : List (List ℕ)) (name nm : List ℕ) (k : ℕ) → slice_get (names ++ name ∷ []) k ≡ Some nm →
    ((slice_get names k ≡ Some nm) ⊎ ((k ≡ length names) × (nm ≡ name)))
get_cases [] name nm zero found = inr (refl, (let this : name ≡ nm = cc in sym this))
get_cases [] name nm (suc k) found = cc
get_cases (x ∷ names) name nm zero found = inl found
get_cases (x ∷ names) name nm (suc k) found = elim (get_cases names name nm k found) [
  | inl there ↦ inl there
  | inr last ↦ inr (ap suc last.0, last.1)
]

-- an index with one name more, where each earlier name is still found
pub index_more : (names : List (List ℕ)) (name : List ℕ) (slots slots' : List ℕ) (crowd crowd' : BTreeMap (Bor (List ℕ)) ℕ) →
    IsIndex names slots crowd → length slots' ≡ length slots →
    ((k : ℕ) (nm : List ℕ) → slice_get names k ≡ Some nm → IsFound slots crowd nm k → IsFound slots' crowd' nm k) →
    IsFound slots' crowd' name (length names) → IsIndex (names ++ name ∷ []) slots' crowd'
index_more names name slots slots' crowd crowd' index lengths keeps this = record {
  room = let room = index.room in omega (arith, room, lengths);
  found = λ k nm at. elim (get_cases names name nm k at) [
    | inl there ↦ keeps k nm there (index.found k nm there)
    | inr last ↦ (
        let named_so : IsFound slots' crowd' nm (length names) =
        subst (λ (n : List ℕ). IsFound slots' crowd' n (length names)) (sym last.1) this in
        subst (λ (n : ℕ). IsFound slots' crowd' nm n) (sym last.0) named_so)
  ];
}

found_slotted : (slots slots' : List ℕ) (crowd : BTreeMap (Bor (List ℕ)) ℕ) (nm : List ℕ) (k : ℕ) (place value : ℕ) →
    slots' ≡ slice_set slots place value → length slots' ≡ length slots → slice_index slots place ≡ 0 →
    IsFound slots crowd nm k → IsFound slots' crowd nm k
found_slotted slots slots' crowd nm k place value written lengths empty found = elim found [
  | inl slotted ↦ (
      let stays = slotted_stays slots place value (first_slot (length slots) nm) k empty slotted in
      let there : IsSlotted slots' (first_slot (length slots) nm) k =
      subst (λ (l : List ℕ). IsSlotted l (first_slot (length slots) nm) k) (sym written) stays in
      inl (subst (λ (n : ℕ). IsSlotted slots' (first_slot n nm) k) (sym lengths) there))
  | inr crowded ↦ inr crowded
]

-- a name comes to a slot that was free
pub index_slotted : (names : List (List ℕ)) (name : List ℕ) (slots slots' : List ℕ) (crowd : BTreeMap (Bor (List ℕ)) ℕ)
    (start i number : ℕ) →
    IsIndex names slots crowd → start ≡ first_slot (length slots) name → start + 8 ≤ length slots → IsFree slots start i →
    number ≡ length names →
    slots' ≡ slice_set slots (start + i) (number + 1) →
    length slots' ≡ length slots →
    IsIndex (names ++ name ∷ []) slots' crowd
index_slotted names name slots slots' crowd start i number index starts room free last written lengths =
    let own = slotted_here slots start i number free room in
    let there : IsSlotted slots' start number = subst (λ (l : List ℕ). IsSlotted l start number) (sym written) own in
    let at : IsSlotted slots' (first_slot (length slots) name) number =
    subst (λ (n : ℕ). IsSlotted slots' n number) starts there in
    let long : IsSlotted slots' (first_slot (length slots') name) number =
    subst (λ (n : ℕ). IsSlotted slots' (first_slot n name) number) (sym lengths) at in
    index_more names name slots slots' crowd crowd index lengths
    (λ k nm there found. found_slotted slots slots' crowd nm k (start + i) (number + 1) written lengths free.empty found)
    (inl (subst (λ (n : ℕ). IsSlotted slots' (first_slot (length slots') name) n) last long))

abbrev pub Crowds : BTreeMap (Bor (List ℕ)) ℕ → BTreeMap (Bor (List ℕ)) ℕ → List ℕ → ℕ → Type 0
Crowds crowd crowd' name number =
    UpdatesBy (λ x y. slice_cmp nat_cmp x.now y.now) (λ k. slice_cmp nat_cmp name k.now) crowd crowd' (Some number)

new_name : (names : List (List ℕ)) (name nm : List ℕ) (k : ℕ) → list_any (bytes_eq name) names ≡ false → slice_get names k ≡ Some nm →
    bytes_eq name nm ≡ false
new_name names name nm k none there = false_from_ne_true (bytes_eq name nm) (λ same.
    let is : name ≡ nm = (bytes_eq-Decides name nm).0 same in
    let among : list_any (bytes_eq name) names ≡ true = here name names k (there ∙ ap Some (sym is)) in
    cc)

-- the map has one name more
crowd_keeps : (names : List (List ℕ)) (name : List ℕ) (slots : List ℕ) (crowd crowd' : BTreeMap (Bor (List ℕ)) ℕ) (number : ℕ) →
    list_any (bytes_eq name) names ≡ false → Crowds crowd crowd' name number → (k : ℕ) (nm : List ℕ) → slice_get names k ≡ Some nm →
    IsFound slots crowd nm k → IsFound slots crowd' nm k
crowd_keeps names name slots crowd crowd' number none crowds k nm there found = elim found [
  | inl slotted ↦ inl slotted
  | inr crowded ↦ (
      let read = btree_map_updates_str name crowd crowd' (Some number) crowds nm in
      let other = new_name names name nm k none there in
      inr (read
      ∙ ap (λ (b : Bool). cond b (Some number) (get_by (λ q. slice_cmp nat_cmp nm q.now) crowd)) other ∙ crowded))
]

pub index_kept : (names : List (List ℕ)) (name : List ℕ) (slots : List ℕ) (crowd crowd' : BTreeMap (Bor (List ℕ)) ℕ) (number : ℕ) →
    IsIndex names slots crowd → list_any (bytes_eq name) names ≡ false → Crowds crowd crowd' name number → IsIndex names slots crowd'
index_kept names name slots crowd crowd' number index none crowds = record {
  room = index.room;
  found = λ k nm there. crowd_keeps names name slots crowd crowd' number none crowds k nm there (index.found k nm there);
}

-- a name comes to the map
pub index_crowded : (names : List (List ℕ)) (name : List ℕ) (slots : List ℕ) (crowd crowd' : BTreeMap (Bor (List ℕ)) ℕ) (number : ℕ) →
    IsIndex names slots crowd → list_any (bytes_eq name) names ≡ false → number ≡ length names → Crowds crowd crowd' name number →
    IsIndex (names ++ name ∷ []) slots crowd'
index_crowded names name slots crowd crowd' number index none last crowds =
    let read = btree_map_updates_str name crowd crowd' (Some number) crowds name in
    let this : IsInCrowd crowd' name number =
    read ∙ ap (λ (b : Bool). cond b (Some number) (get_by (λ q. slice_cmp nat_cmp name q.now) crowd)) (bytes_same name) in
    index_more names name slots slots crowd crowd' index refl (crowd_keeps names name slots crowd crowd' number none crowds)
    (inr (subst (λ (n : ℕ). IsInCrowd crowd' name n) last this))

-- a name that neither its slots nor the map gives is none of them
pub not_found : (names : List (List ℕ)) (name : List ℕ) (slots : List ℕ) (crowd : BTreeMap (Bor (List ℕ)) ℕ) → IsIndex names slots crowd →
    IsInNoSlot names slots (first_slot (length slots) name) name →
    ((k : ℕ) → IsInCrowd crowd name k → slice_get names k ≢ Some name) → list_any (bytes_eq name) names ≡ false
not_found names name slots crowd index slotted crowded =
    not_any name names (λ k there. elim (index.found k name there) [
      | inl has ↦ slotted k has there
      | inr has ↦ crowded k has there
    ])

-- the slots that were looked at are those of the index
pub slots_of : (names names' : List (Bor (List ℕ))) (slots slots' : List ℕ) (start count : ℕ) (name : List ℕ) → names' ≡ names →
    slots' ≡ slots → start ≡ first_slot count name → count ≡ length slots →
    IsInNoSlot (named names') slots' start name → IsInNoSlot (named names) slots (first_slot (length slots) name) name
slots_of names names' slots slots' start count name these those starts counts none =
    let starts_so : start ≡ first_slot (length slots) name = starts ∙ ap (λ (n : ℕ). first_slot n name) counts in
    subst (λ (n : ℕ). IsInNoSlot (named names) slots n name) starts_so
    (subst (λ (l : List ℕ). IsInNoSlot (named names) l start name) those
    (subst (λ (l : List (Bor (List ℕ))). IsInNoSlot (named l) slots' start name) these none))
