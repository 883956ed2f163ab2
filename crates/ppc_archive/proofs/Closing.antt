-- The candidates that names need: where they are found, and how a choice grows until it is closed.
use Rattle.std.proofs.Common.{◌≡◌, ℕ, zero, suc, ◌+◌, ◌<◌, ◌≤◌, inl, inr, Bool, true, false, List, [], ◌∷◌, length, Option, Some, None, refl, sym, ap, ◌∙◌, subst, arith}
use Rattle.std.specs.Prelude.{nat_lt, nat_eq, slice_index, if◌then◌else◌, ◌||◌}
use Rattle.std.specs.List.{list_any}
use Rattle.std.specs.Str.{bytes_eq}
use Rattle.std.proofs.lemmas.Bool.{cases_lt, lt-ltb, ltb-true}
use Rattle.std.proofs.lemmas.Bool.Decides.{nat_tests}
use Rattle.elf64_records.specs.First.{◌orelse◌, when, first_from}
use Rattle.object_set.specs.Files.{file_at}
use Rattle.ppc_archive.specs.declared.names.Provider.{Provider}
use Rattle.ppc_archive.specs.declared.names.Provider.TheVariants.{Object, Candidate}
use Rattle.ppc_archive.specs.Choice.{Pool, provides, asks, asked_names, giver_at, giver, Has, IsClosed, IsChoice, flagged}
use Rattle.ppc_archive.specs.inside.Givers.{ProviderMap, candidate_of, candidate_in, provider_at, among, taken, taken_all, AreBelow}
use Rattle.ppc_archive.specs.inside.Pools.{AreGivers, HasRootsBelow, IsNeeded, HasFirst}
use Rattle.ppc_archive.proofs.NameMaps.{same_names, names_same}
use Rattle.ppc_archive.proofs.Choosing.{or_split, all_keep, all_have, all_from, all_longer, all_place}

-- ---- the map

candidates_at : (candidates : List (List ℕ)) (pool : Pool) (name : List ℕ) (n count : ℕ) → pool.candidates ≡ candidates →
    candidate_of (first_from (provider_at candidates name) n count) ≡ first_from (giver_at pool name) n count
unfolding giver_at
candidates_at candidates pool name n zero is = refl
candidates_at candidates pool name n (suc count) is =
    step (provides (file_at candidates n) name) (provides (file_at pool.candidates n) name)
    (first_from (provider_at candidates name) (n + 1) count)
    (first_from (giver_at pool name) (n + 1) count) (sym (ap (λ (l : List (List ℕ)). provides (file_at l n) name) is))
    (candidates_at candidates pool name (n + 1) count is)
  where
    step : (s t : Bool) (o : Option Provider) (p : Option ℕ) → s ≡ t → candidate_of o ≡ p →
        candidate_of (when s (Candidate n) orelse o) ≡ when t n orelse p
    step true true o p same rest = refl
    step true false o p same rest = cc
    step false true o p same rest = cc
    step false false o p same rest = rest

-- what the map has when the names of objects and candidates are noted
pub noted_givers : (pool : Pool) (name : List ℕ) (before after : Option Provider) →
    before ≡ when (list_any (λ b. provides b name) pool.objects) Object →
    after ≡ before orelse first_from (provider_at pool.candidates name) 0 (length pool.candidates) → candidate_of after ≡ giver pool name
noted_givers pool name before after objects all =
    ap candidate_of all
    ∙ ap (λ (o : Option Provider). candidate_of (o orelse first_from (provider_at pool.candidates name) 0
    (length pool.candidates))) objects
    ∙ step (list_any (λ b. provides b name) pool.objects)
  where
    step : (t : Bool) → candidate_of (when t Object orelse first_from (provider_at pool.candidates name) 0 (length pool.candidates))
        ≡ (if t then None else first_from (giver_at pool name) 0 (length pool.candidates))
    step true = refl
    step false = candidates_at pool.candidates pool name 0 (length pool.candidates) refl

-- ---- candidates are those that there are

within_step : (f : ℕ → Option ℕ) → ((k d : ℕ) → f k ≡ Some d → d ≡ k) → (n count c : ℕ) (o : Option ℕ) → f n ≡ o →
    o orelse first_from f (n + 1) count ≡ Some c → (first_from f (n + 1) count ≡ Some c → c < n + 1 + count) → c < n + suc count
within_step f own n count c None here is rest = let below = rest is in omega (arith, below)
within_step f own n count c (Some d) here is rest =
    let same : d ≡ c = cc in
    let at = own n d here in
    omega (arith, same, at)

first_within : (f : ℕ → Option ℕ) → ((k d : ℕ) → f k ≡ Some d → d ≡ k) → (n count c : ℕ) → first_from f n count ≡ Some c → c < n + count
first_within f own n zero c is = cc
first_within f own n (suc count) c is = within_step f own n count c (f n) refl is (first_within f own (n + 1) count c)

own_number : (pool : Pool) (name : List ℕ) (k d : ℕ) → giver_at pool name k ≡ Some d → d ≡ k
unfolding giver_at
own_number pool name k d is = step (provides (file_at pool.candidates k) name) is
  where
    step : (t : Bool) → when t k ≡ Some d → d ≡ k
    step true is = cc
    step false is = cc

pub giver_below : (pool : Pool) (name : List ℕ) (c : ℕ) → giver pool name ≡ Some c → c < length pool.candidates
giver_below pool name c is = step (list_any (λ b. provides b name) pool.objects) is
  where
    step : (t : Bool) → (if t then None else first_from (giver_at pool name) 0 (length pool.candidates)) ≡ Some c →
        c < length pool.candidates
    step true none = cc
    step false found =
        let below = first_within (giver_at pool name) (own_number pool name) 0 (length pool.candidates) c found in omega (arith, below)

-- all candidates are a closed set
all_closed : (pool : Pool) → IsClosed pool (λ c. nat_lt c (length pool.candidates))
all_closed pool =
    let all : (name : List ℕ) → Has pool (λ c. nat_lt c (length pool.candidates)) name =
    λ name c is. lt-ltb c (length pool.candidates) (giver_below pool name c is) in
    record {
      entry = all pool.entry;
      objects = λ k within name asked. all name;
      members = λ c within chosen name asked. all name;
    }

pub needed_below : (pool : Pool) (order : List ℕ) (c : ℕ) → IsNeeded pool order → among order c ≡ true → c < length pool.candidates
needed_below pool order c needed is = ltb-true c (length pool.candidates)
    (needed (λ d. nat_lt d (length pool.candidates)) (all_closed pool) c is)

pub map_below : (pool : Pool) (providers : ProviderMap) (total : ℕ) → AreGivers pool providers →
    total ≡ length pool.candidates → AreBelow providers total
map_below pool providers total givers is = λ name c found.
    let below = giver_below pool name c (sym (givers name) ∙ found) in omega (arith, below, is)

-- ---- a choice grows

module _ (pool : Pool) (providers : ProviderMap) (givers : AreGivers pool providers) (order : List ℕ) (names : List (List ℕ)) where
  pub has_still : (name : List ℕ) → Has pool (among order) name → Has pool (among (taken_all (candidate_in providers) order names)) name
  has_still name has = λ c is. all_keep (candidate_in providers) order names c (has c is)

  pub has_now : (name : List ℕ) → list_any (bytes_eq name) names ≡ true →
      Has pool (among (taken_all (candidate_in providers) order names)) name
  has_now name asked = λ c is. all_have (candidate_in providers) order names name c asked (givers name ∙ is)

  -- what is chosen is needed, where names need it that each closed set has
  pub needed_still : IsNeeded pool order → ((G : ℕ → Bool) → IsClosed pool G → (name : List ℕ) →
      list_any (bytes_eq name) names ≡ true → Has pool G name) →
      IsNeeded pool (taken_all (candidate_in providers) order names)
  needed_still needed all = λ G closed c is.
      elim (all_from (candidate_in providers) order names c is) [
        | inl before ↦ needed G closed c before
        | inr now ↦ all G closed now.name now.asked c (sym (givers now.name) ∙ now.is)
      ]

-- a number of an order stands somewhere in it
pub record Stands (order : List ℕ) (c : ℕ) : Type 0 where
  pub place : ℕ
  pub within : place < length order
  pub is : slice_index order place ≡ c

stands_step : (order : List ℕ) (c x : ℕ) (t : Bool) → nat_eq c x ≡ t → (t || among order c) ≡ true →
    (among order c ≡ true → Stands order c) →
    Stands (x ∷ order) c
stands_step order c x true here is rest = record { place = 0; within = omega arith; is = grind (arith, nat_tests, here) }
stands_step order c x false here is rest =
    let later = rest is in
    record { place = suc later.place; within = (let less = later.within in omega (arith, less)); is = later.is }

pub stands : (order : List ℕ) (c : ℕ) → among order c ≡ true → Stands order c
stands [] c is = cc
stands (x ∷ order) c is = stands_step order c x (nat_eq c x) refl is (stands order c)

pub among_at : (order : List ℕ) (k : ℕ) → k < length order → among order (slice_index order k) ≡ true
among_at [] k within = absurd (omega arith)
among_at (x ∷ order) zero within = grind (arith, nat_tests)
among_at (x ∷ order) (suc k) within = let rest = among_at order k (omega arith) in grind (arith, rest)

-- what the entry needs is chosen first
pub roots_first : (pool : Pool) (providers : ProviderMap) → AreGivers pool providers →
    HasRootsBelow pool (taken [] (candidate_in providers pool.entry)) 0
roots_first pool providers givers = record {
  entry = has_now pool providers givers [] (pool.entry ∷ []) pool.entry (ap (λ b. b || false) (names_same pool.entry));
  objects = λ k less. absurd (omega (arith, less));
  needed = needed_still pool providers givers [] (pool.entry ∷ []) (λ G closed c none. cc)
      (λ G closed name asked. elim (or_split (bytes_eq name pool.entry) false asked) [
        | inl same ↦ subst (Has pool G) (sym (same_names name pool.entry same)) closed.entry
        | inr none ↦ cc
      ]);
}

-- and then what one object more needs
pub roots_more : (pool : Pool) (providers : ProviderMap) (order : List ℕ) (k : ℕ) → AreGivers pool providers → k < length pool.objects →
    HasRootsBelow pool order k → HasRootsBelow pool (taken_all (candidate_in providers) order
    (asked_names (file_at pool.objects k))) (k + 1)
roots_more pool providers order k givers within before =
    let names = asked_names (file_at pool.objects k) in
    record {
      entry = has_still pool providers givers order names pool.entry before.entry;
      objects = λ j less name asked.
          elim (cases_lt j k) [
            | inl earlier ↦ has_still pool providers givers order names name (before.objects j earlier name asked)
            | inr last ↦ (
                let this : j ≡ k = omega (arith, less, last) in
                has_now pool providers givers order names name (ap (λ (n : ℕ). asks (file_at pool.objects n) name) (sym this) ∙ asked))
          ];
      needed = needed_still pool providers givers order names before.needed (λ G closed name asked. closed.objects k within name asked);
    }

-- one chosen candidate more has what it needs
pub first_more : (pool : Pool) (providers : ProviderMap) (order : List ℕ) (next : ℕ) → AreGivers pool providers →
    HasFirst pool order next →
    next < length order → HasFirst pool (taken_all (candidate_in providers) order
    (asked_names (file_at pool.candidates (slice_index order next)))) (next + 1)
first_more pool providers order next givers first more =
    let c = slice_index order next in
    let names = asked_names (file_at pool.candidates c) in
    let longer = all_longer (candidate_in providers) order names in
    let here = among_at order next more in
    record {
      within = omega (arith, longer, more);
      roots = record {
        entry = has_still pool providers givers order names pool.entry first.roots.entry;
        objects = λ k within name asked. has_still pool providers givers order names name (first.roots.objects k within name asked);
        needed = needed_still pool providers givers order names first.roots.needed
            (λ G closed name asked. closed.members c (needed_below pool order c first.roots.needed here)
            (first.roots.needed G closed c here) name asked);
      };
      met = λ k less name asked.
          let at = all_place (candidate_in providers) order names k in
          elim (cases_lt k next) [
            | inl before ↦ (
                let same = at (omega (arith, before, more)) in
                let asked_then : asks (file_at pool.candidates (slice_index order k)) name ≡ true =
                sym (ap (λ (n : ℕ). asks (file_at pool.candidates n) name) same) ∙ asked in
                has_still pool providers givers order names name (first.met k before name asked_then))
            | inr last ↦ (
                let this : k ≡ next = omega (arith, less, last) in
                let same = at (omega (arith, this, more)) ∙ ap (slice_index order) this in
                has_now pool providers givers order names name (sym (ap (λ (n : ℕ). asks (file_at pool.candidates n) name) same) ∙ asked))
          ];
    }

-- where all have what they need, the choice is the least closed set
pub is_choice : (pool : Pool) (order : List ℕ) (next : ℕ) (flags : List Bool) → HasFirst pool order next → length order ≤ next →
    ((c : ℕ) → flagged flags c ≡ among order c) → IsChoice pool (flagged flags)
is_choice pool order next flags first all same = record {
  closed = record {
    entry = λ c is. same c ∙ first.roots.entry c is;
    objects = λ k within name asked c is. same c ∙ first.roots.objects k within name asked c is;
    members = λ d within chosen name asked c is.
        let at = stands order d (sym (same d) ∙ chosen) in
        let less = at.within in
        let asked_there : asks (file_at pool.candidates (slice_index order at.place)) name ≡ true =
        ap (λ (n : ℕ). asks (file_at pool.candidates n) name) at.is ∙ asked in
        same c ∙ first.met at.place (omega (arith, less, all)) name asked_there c is;
  };
  least = λ G closed c is. first.roots.needed G closed c (sym (same c) ∙ is);
}
