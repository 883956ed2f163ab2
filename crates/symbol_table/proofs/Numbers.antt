-- The numbers of names.
use Rattle.std.proofs.Common.{◌≡◌, ℕ, ◌+◌, zero, suc, Bool, true, false, if◌then◌else◌, List, [], ◌∷◌, ◌++◌, Some, slice_get, sym}
use Rattle.std.proofs.Common.{ap, ◌∙◌, add-one, subst}
use Rattle.std.specs.List.{slice_index_or}
use Rattle.std.proofs.Common.{cond, refl}
use Rattle.std.proofs.lemmas.List.{append_assoc}
use Rattle.std.proofs.lemmas.Map.Lookups.{exact_unsigned}
use Rattle.std.specs.BTreeMap.{BTreeMap, get, Updates}
use Rattle.std.specs.declared.cmp.Ordering.{Ordering}
use Rattle.std.specs.declared.cmp.Ordering.TheVariants.{Less, Equal, Greater}
use Rattle.std.specs.Ordering.{is_eq, nat_cmp}
use Rattle.elf64_records.specs.Names.{name_at}
use Rattle.symbol_table.specs.Candidates.{NamesSeen, no_candidates}
use Rattle.symbol_table.proofs.Distinct.{here}
use Rattle.symbol_table.proofs.Steps.{nil_right}
use Rattle.std.specs.List.{list_any}
use Rattle.std.specs.Str.{bytes_eq}
use Rattle.object_set.specs.Symbols.{is_local}
use Rattle.symbol_table.specs.Externals.{External, external_symbol, external_walk, external_at, with_name}
use Rattle.symbol_table.specs.inside.Names.{KeepsNumbers, HasNumber, IsNumbered, AreNamePlaces, AreNameNumbers, AreFileNumbers, AreAllNameNumbers}
use Rattle.object_set.specs.Files.{file_at}
use Rattle.object_set.specs.Walks.{items_in}
use Rattle.object_set.specs.laws.Rows.{row_more, row_weaker, rows_more, rows_weaker}
use Rattle.elf64_records.specs.Symbols.{symbol_count, symbol_names}

-- a number stays where names keep theirs
pub number_kept : (old new : List (List ℕ)) (b : List ℕ) (j k : ℕ) → KeepsNumbers old new → HasNumber old b j k → HasNumber new b j k
number_kept old new b j k keeps has = λ external. keeps k _ (has external)

-- one symbol more of a file
pub numbers_more : (old new : List (List ℕ)) (b : List ℕ) (n : ℕ) (row : List ℕ) (k : ℕ) → AreNameNumbers old b n row →
    KeepsNumbers old new →
    HasNumber new b n k → AreNameNumbers new b (n + 1) (row ++ k ∷ [])
numbers_more old new b n row k are keeps this =
    row_more (HasNumber new b) n row k
    (row_weaker (HasNumber old b) (HasNumber new b) n row (λ j i within has. number_kept old new b j i keeps has) are) this

-- one file more
pub all_numbers_more : (old new : List (List ℕ)) (files : List (List ℕ)) (n : ℕ) (rows : List (List ℕ)) (row : List ℕ) →
    AreAllNameNumbers old files n rows → KeepsNumbers old new → AreFileNumbers new files n row →
    AreAllNameNumbers new files (n + 1) (rows ++ row ∷ [])
all_numbers_more old new files n rows row are keeps this =
    let count = λ (file : ℕ). symbol_count (file_at files file) in
    let before = λ (file : ℕ). HasNumber old (file_at files file) in
    let after = λ (file : ℕ). HasNumber new (file_at files file) in
    rows_more after count n rows row
    (rows_weaker before after count n rows
    (λ file j k file_in within has. number_kept old new (file_at files file) j k keeps has) are) this

pub external_step : (symbols : List External) (file : ℕ) (b : List ℕ) (j : ℕ) →
    (symbols ++ items_in external_walk file b j) ++ external_at file b j ≡ symbols ++ items_in external_walk file b (j + 1)
external_step symbols file b j =
    append_assoc symbols (items_in external_walk file b j) (external_at file b j)
    ∙ ap (λ (n : ℕ). symbols ++ items_in external_walk file b n) (sym (add-one j))

pub read_at : {X : Type 0} (xs : List X) (k : ℕ) (x d : X) → slice_get xs k ≡ Some x → slice_index_or xs k d ≡ x
read_at [] k x d found = cc
read_at (y ∷ xs) zero x d found = cc
read_at (y ∷ xs) (suc k) x d found = read_at xs k x d found

get_left : (xs ys : List (List ℕ)) (k : ℕ) (x : List ℕ) → slice_get xs k ≡ Some x → slice_get (xs ++ ys) k ≡ Some x
get_left [] ys k x found = cc
get_left (y ∷ xs) ys zero x found = found
get_left (y ∷ xs) ys (suc k) x found = get_left xs ys k x found

keeps_case : (names : List (List ℕ)) (name : List ℕ) (old : Bool) → KeepsNumbers names (if old then names else names ++ name ∷ [])
keeps_case names name true k x found = found
keeps_case names name false k x found = get_left names (name ∷ []) k x found

-- names keep their numbers where one more comes
pub keeps_with_name : (names new : List (List ℕ)) (name : List ℕ) → new ≡ with_name names name → KeepsNumbers names new
keeps_with_name names new name is =
    subst (KeepsNumbers names) (sym is) (keeps_case names name (list_any (bytes_eq name) names))

-- a symbol that other files see, as a list
pub one_external : (file : ℕ) (b : List ℕ) (j : ℕ) (s : External) → is_local b j ≡ false → s ≡ external_symbol file b j →
    s ∷ [] ≡ external_at file b j
one_external file b j s external is =
    ap (λ (t : External). t ∷ []) is
    ∙ sym (ap (λ (l : Bool). if l then [] else external_symbol file b j ∷ []) external)

-- a name that has a number comes to others
pub numbered_known : (now : NamesSeen) (name : List ℕ) (k : ℕ) → slice_get now.names k ≡ Some name → IsNumbered now now name k
numbered_known now name k found =
    let known = here name now.names k found in
    record {
      names = sym (ap (λ (b : Bool). if b then now.names else now.names ++ name ∷ []) known);
      candidates = sym (nil_right now.candidates)
          ∙ ap (λ (b : Bool). now.candidates ++ (if b then [] else no_candidates ∷ [])) (sym known);
      number = found;
    }

-- places stay known where names keep their numbers
pub places_kept : (old new : List (List ℕ)) (b : List ℕ) (places : BTreeMap ℕ ℕ) → AreNamePlaces old b places → KeepsNumbers old new →
    AreNamePlaces new b places
places_kept old new b places are keeps = λ place k gives. keeps k (name_at (symbol_names b) place) (are place k gives)

place_case : (old new : List (List ℕ)) (b : List ℕ) (places : BTreeMap ℕ ℕ) (place k q n : ℕ) (o : Ordering) → nat_cmp place q ≡ o →
    AreNamePlaces old b places → KeepsNumbers old new → slice_get new k ≡ Some (name_at (symbol_names b) place) →
    Some n ≡ cond (is_eq o) (Some k) (get nat_cmp places q) → slice_get new n ≡ Some (name_at (symbol_names b) q)
place_case old new b places place k q n Less is are keeps found gives = places_kept old new b places are keeps q n (sym gives)
place_case old new b places place k q n Equal is are keeps found gives =
    let here_it_is : place ≡ q = exact_unsigned place q is in
    let same : n ≡ k = cc in
    ap (λ (m : ℕ). slice_get new m) same ∙ found ∙ ap (λ (m : ℕ). Some (name_at (symbol_names b) m)) here_it_is
place_case old new b places place k q n Greater is are keeps found gives = places_kept old new b places are keeps q n (sym gives)

-- one place more is known
pub places_more : (old new : List (List ℕ)) (b : List ℕ) (places places' : BTreeMap ℕ ℕ) (place k : ℕ) → AreNamePlaces old b places →
    KeepsNumbers old new → slice_get new k ≡ Some (name_at (symbol_names b) place) → Updates nat_cmp places places' place (Some k) →
    AreNamePlaces new b places'
places_more old new b places places' place k are keeps found updates = λ q n gives.
    place_case old new b places place k q n (nat_cmp place q) refl are keeps found (sym gives ∙ updates.0 q)
