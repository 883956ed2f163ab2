-- Which records a walk has left.
use Rattle.std.proofs.Common.{◌≡◌, ◌<◌, ◌≤◌, ℕ, zero, suc, ◌+◌, ◌-◌, List, [], ◌∷◌, ◌++◌, sym, ap, ◌∙◌, refl, arith, append_assoc, add-one, add-zero, zero-add}
use Rattle.std.specs.List.{flat_map}
use Rattle.std.proofs.lemmas.List.{append-nil}
use Rattle.elf64_records.specs.Sections.{sh_info}
use Rattle.elf64_records.specs.Records.{record_count}
use Rattle.object_set.specs.declared.places.SectionId.{SectionId}
use Rattle.object_set.specs.declared.places.RecordId.{RecordId}
use Rattle.object_set.specs.Files.{file_at}
use Rattle.object_set.specs.Walks.{all_items, section_walk, record_walk, record_id, records_in}
use Rattle.object_set.specs.laws.Walks.{all_given}
use Rattle.object_set.specs.inside.Left.{records_left}
use Rattle.object_set.specs.inside.Records.{records_of, all_records_left}

-- the first records of a section and the rest are all
records_joined : (file : ℕ) (b : List ℕ) (i k count : ℕ) → records_in file b i k ++ records_left file b i k count
    ≡ records_in file b i (k + count)
records_joined file b i k zero = append-nil (records_in file b i k) ∙ ap (records_in file b i) (sym (add-zero k))
records_joined file b i k (suc count) =
    let more : k + 1 + count ≡ k + suc count = omega arith in
    sym (append_assoc (records_in file b i k) (record_id file b i k ∷ []) (records_left file b i (k + 1) count))
    ∙ ap (λ (m : ℕ). records_in file b i m ++ records_left file b i (k + 1) count) (sym (add-one k))
    ∙ records_joined file b i (k + 1) count ∙ ap (records_in file b i) more

-- nothing is left past the last section
pub records_none : (set : List (List ℕ)) (next : RecordId) (end : ℕ) (sections : List SectionId) → next.entry ≡ end → sections ≡ [] →
    all_records_left set next end sections ≡ []
records_none set next end sections last over =
    let none : end - next.entry ≡ 0 = omega arith in
    ap (λ (n : ℕ). records_left next.file (file_at set next.file) next.table next.entry n ++ flat_map (records_of set) sections) none
    ∙ ap (flat_map (records_of set)) over

-- past the last record of a section the next section follows
pub records_next : (set : List (List ℕ)) (next : RecordId) (end about : ℕ) (sections rest : List SectionId) (s : SectionId) →
    next.entry ≡ end →
    sections ≡ s ∷ rest →
    all_records_left set (record { file = s.file; table = s.section; entry = 0; section = about })
    (record_count (file_at set s.file) s.section) rest
    ≡ all_records_left set next end sections
records_next set next end about sections rest s last more =
    let b = file_at set s.file in
    let n = record_count b s.section in
    let none : end - next.entry ≡ 0 = omega arith in
    let count : 0 + (n - 0) ≡ n = omega arith in
    let here : records_left s.file b s.section 0 (n - 0) ≡ records_of set s = records_joined s.file b s.section 0 (n - 0)
    ∙ ap (records_in s.file b s.section) count in
    ap (λ (l : List RecordId). l ++ flat_map (records_of set) rest) here
    ∙ ap (flat_map (records_of set)) (sym more)
    ∙ sym (ap (λ (n : ℕ). records_left next.file (file_at set next.file) next.table next.entry n
    ++ flat_map (records_of set) sections) none)

-- a record that is left comes first
pub records_step : (set : List (List ℕ)) (next : RecordId) (end : ℕ) (sections : List SectionId) → next.entry < end →
    next.section ≡ sh_info (file_at set next.file) next.table →
    all_records_left set next end sections
    ≡ next ∷ all_records_left set
    (record { file = next.file; table = next.table; entry = next.entry + 1; section = next.section }) end sections
records_step set next end sections left about =
    let b = file_at set next.file in
    let some : end - next.entry ≡ suc (end - (next.entry + 1)) = omega arith in
    let rest = all_records_left set
    (record { file = next.file; table = next.table; entry = next.entry + 1; section = next.section }) end sections in
    ap (λ (n : ℕ). records_left next.file b next.table next.entry n ++ flat_map (records_of set) sections) some
    ∙ ap (λ (s : ℕ). record { file = next.file; table = next.table; entry = next.entry; section = s } ∷ rest) (sym about)

-- the records of all sections are all records
pub all_records : (set : List (List ℕ)) → flat_map (records_of set) (all_items section_walk set) ≡ all_items record_walk set
all_records set = all_given section_walk record_walk set (records_of set) (λ file. refl)
    (λ file n. append-nil (records_of set (record { file = file; section = n })))
