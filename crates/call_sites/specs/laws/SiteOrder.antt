-- Call sites stand in order, no two at one place, and each is sound.
use Rattle.std.proofs.Common.{◌≡◌, ◌<◌, ◌≤◌, ◌⊎◌, inl, inr, ℕ, zero, suc, ◌+◌, ◌*◌, ◌^◌, Bool, true, false, not, ◌&&◌, eqb, add-one, List, [], ◌∷◌, ◌++◌, map, filter, take, length, length-append, Option, None, Some, slice_get, sym, ap, ◌∙◌, subst, refl, arith, if◌then◌else◌}
use Rattle.std.specs.List.{All, flat_map, range_with_len, slice_index_or}
use Rattle.std.proofs.lemmas.Bool.{cases_lt}
use Rattle.std.proofs.lemmas.List.{append-nil}
use Rattle.std.proofs.lemmas.List.Concat.{flat_map-append}
use Rattle.std.proofs.lemmas.List.Elements.{All-filter, filter_passes}
use Rattle.std.proofs.lemmas.Bool.{and_parts}
use Rattle.std.proofs.lemmas.Bool.Decides.{nat_tests}
use Rattle.elf64_records.specs.First.{when, first_in}
use Rattle.elf64_records.specs.laws.First.{both_none}
use Rattle.elf64_records.specs.FileHeader.{e_shnum}
use Rattle.elf64_records.specs.Sections.{sh_size}
use Rattle.object_set.specs.declared.places.SectionId.{SectionId}
use Rattle.object_set.specs.declared.refusal.Refusal.{Refusal}
use Rattle.object_set.specs.declared.refusal.Refusal.TheVariants.{NoRestore}
use Rattle.object_set.specs.Files.{file_at}
use Rattle.object_set.specs.Refusals.{set_refusal}
use Rattle.object_set.specs.Sections.{is_text}
use Rattle.object_set.specs.Walks.{items_in, items_before}
use Rattle.symbol_table.specs.declared.fields.RecordField.{RecordField}
use Rattle.symbol_table.specs.Fields.{fields_of}
use Rattle.symbol_table.specs.Records.{records_refusal}
use Rattle.symbol_table.specs.Text.{text_at, text_walk, text_sections, text_index}
use Rattle.symbol_table.specs.inside.Fields.{IsFieldOf}
use Rattle.symbol_table.proofs.FileRecords.{fields_are}
use Rattle.call_sites.specs.declared.site.CallSite.{CallSite}
use Rattle.call_sites.specs.Sites.{is_call, no_section, begins_at, calls_at, calls_in, call_walk, call_fields, call_site, call_sites}
use Rattle.call_sites.specs.Refusals.{restore_refusal, section_size, text_size}
use Rattle.call_sites.specs.inside.Calls.{IsCall, unsorted_calls}
use Rattle.call_sites.specs.laws.KeptLists.{range_more, filter_twice}
use Rattle.call_sites.specs.laws.OneCall.{one_call}
use Rattle.call_sites.specs.laws.RecordCalls.{unsorted_are}
use Rattle.call_sites.specs.laws.Rising.{Rises, rises_append, rises_higher, rises_at, rises_next, rises_few}
use Rattle.call_sites.specs.laws.SiteFacts.{IsSoundSite, StandsAs, site_sound, site_stands}
use Rattle.call_sites.specs.laws.SoundCalls.{call_sound}
use Rattle.call_sites.specs.laws.TextSections.{at_get}
use Rattle.call_sites.specs.laws.TextSizes.{text_small}
use Rattle.symbol_table.specs.laws.Text.{IsTextSection, text_index_found}
use Rattle.std.specs.List.{sum_by}
use Rattle.std.proofs.lemmas.List.{length-map}
use Rattle.std.proofs.lemmas.List.Sums.{sum_by_more, sum_by-take-le}
use Rattle.std.proofs.lemmas.Option.{slice_get_within}

-- Numbers that begin each text section, each section's bytes past the one before.
abbrev Makes : List (List ℕ) → (ℕ → ℕ) → Type 0
Makes files base = (k file section : ℕ) → IsTextSection files k file section → base k + sh_size (file_at files file) section ≤ base (suc k)

module _ (files : List (List ℕ)) (base : ℕ → ℕ) where
  -- a number that grows along site order
  abbrev key : RecordField → ℕ
  key f = base (text_index files f.id.file f.id.section) + f.start

  abbrev Rise : ℕ → ℕ → List RecordField → Type 0
  Rise low high calls = Rises (IsCall files) key low high calls

  -- a call at an offset of a section
  record IsHere (file section offset : ℕ) (f : RecordField) : Type 0 where
    call : IsCall files f
    file_is : f.id.file ≡ file
    here : begins_at section offset f ≡ true

  all_here : (file section offset : ℕ) → file < length files →
      All (IsHere file section offset) (calls_at file (file_at files file) section offset)
  all_here file section offset file_in =
      let b = file_at files file in
      let fields = fields_of file b in
      let calls = unsorted_calls file b in
      let begins = begins_at section offset in
      let each = All-filter begins (IsCall files) calls (unsorted_are files file file_in) in
      let own = All-filter begins (IsFieldOf files file) calls
      (All-filter (is_call b) (IsFieldOf files file) fields (fields_are files file file_in)) in
      let there = filter_passes begins calls in
      let both : All (IsHere file section offset) (filter begins calls) =
      λ k d within. record { call = each k d within; file_is = (own k d within).file_is; here = there k d within } in
      subst (All (IsHere file section offset)) (filter_twice (is_call b) begins fields) both

  key_is : (file section offset : ℕ) (f : RecordField) → IsHere file section offset f →
      key f ≡ base (text_index files file section) + offset
  key_is file section offset f is =
      let parts = and_parts (eqb f.id.section section) (eqb f.start offset) is.here in
      let in_section = parts.0 in
      let at_offset = parts.1 in
      let own : f.id.section ≡ section = grind (arith, nat_tests, in_section) in
      let start : f.start ≡ offset = grind (arith, nat_tests, at_offset) in
      ap (λ (n : ℕ). base (text_index files n f.id.section) + f.start) is.file_is
      ∙ ap (λ (n : ℕ). base (text_index files file n) + f.start) own
      ∙ ap (λ (n : ℕ). base (text_index files file section) + n) start

  few_rise : (file section offset : ℕ) (calls : List RecordField) → length calls ≤ 1 → All (IsHere file section offset) calls →
      Rise (base (text_index files file section) + offset) (base (text_index files file section) + offset + 1) calls
  few_rise file section offset [] few are = omega arith
  few_rise file section offset (f ∷ []) few are =
      let is = are 0 f (omega arith) in
      let key_here = key_is file section offset f is in
      (is.call, omega (arith, key_here), omega (arith, key_here))
  few_rise file section offset (f ∷ g ∷ calls) few are = absurd (omega arith)

  module _ (whole : set_refusal files ≡ None) (none : records_refusal files ≡ None) (makes : Makes files base) where
    -- the calls at the first offsets of a section
    offsets_rise : (file section n : ℕ) → file < length files →
        Rise (base (text_index files file section)) (base (text_index files file section) + n)
        (flat_map (calls_at file (file_at files file) section) (range_with_len 0 n))
    offsets_rise file section zero file_in = omega arith
    offsets_rise file section (suc n) file_in =
        let b = file_at files file in
        let first = base (text_index files file section) in
        let f = calls_at file b section in
        let here : Rise (first + n) (first + n + 1) (f n) =
        few_rise file section n (f n) (one_call files file section n none file_in) (all_here file section n file_in) in
        let more : flat_map f (range_with_len 0 (suc n)) ≡ flat_map f (range_with_len 0 n) ++ f n =
        ap (flat_map f) (range_more 0 n n (omega arith)) ∙ flat_map-append f (range_with_len 0 n) (n ∷ [])
        ∙ ap (λ (l : List RecordField). flat_map f (range_with_len 0 n) ++ l) (append-nil (f n)) in
        let next : first + n + 1 ≡ first + suc n = omega arith in
        subst (λ (m : ℕ). Rise first m (flat_map f (range_with_len 0 (suc n)))) next
        (subst (Rise first (first + n + 1)) (sym more)
        (rises_append (IsCall files) key first (first + n) (first + n + 1) (flat_map f (range_with_len 0 n)) (f n)
        (offsets_rise file section n file_in) here))

    -- the number of text sections before the next section
    one_length : (s : SectionId) (t : Bool) → length (if t then s ∷ [] else []) ≡ (if t then 1 else 0)
    one_length s true = refl
    one_length s false = refl

    index_case : (file section : ℕ) (t : Bool) → is_text (file_at files file) section ≡ t →
        text_index files file (suc section) ≡ text_index files file section + (if t then 1 else 0)
    index_case file section t text =
        let b = file_at files file in
        let s : SectionId = record { file = file; section = section } in
        let one : length (text_at file b section) ≡ (if t then 1 else 0) =
        ap (λ (u : Bool). length {A = SectionId} (if u then s ∷ [] else [])) text ∙ one_length s t in
        let all = length-append (items_in text_walk file b section) (text_at file b section) in
        omega (arith, one, all)

    section_case : (file section : ℕ) (t : Bool) → is_text (file_at files file) section ≡ t → file < length files →
        section < e_shnum (file_at files file) →
        Rise (base (text_index files file section)) (base (text_index files file (suc section)))
        (if t then flat_map (calls_at file (file_at files file) section) (range_with_len 0 (sh_size (file_at files file) section)) else [])
    section_case file section true text file_in within =
        let b = file_at files file in
        let size = sh_size b section in
        let index = text_index files file section in
        let next : text_index files file (suc section) ≡ suc index = omega (arith, index_case file section true text) in
        let lies : IsTextSection files index file section =
        record { file_in = file_in; within = within; text = text; index = refl } in
        rises_higher (IsCall files) key (base index) (base index + size) (base (text_index files file (suc section)))
        (flat_map (calls_at file b section) (range_with_len 0 size))
        (omega (arith, makes index file section lies, ap base next))
        (offsets_rise file section size file_in)
    section_case file section false text file_in within =
        let same : text_index files file (suc section) ≡ text_index files file section =
        omega (arith, index_case file section false text) in
        omega (arith, ap base same)

    section_rises : (file section : ℕ) → file < length files → section < e_shnum (file_at files file) →
        Rise (base (text_index files file section)) (base (text_index files file (suc section)))
        (calls_in file (file_at files file) section)
    unfolding calls_in
    section_rises file section file_in within = section_case file section (is_text (file_at files file) section) refl file_in within

    file_rises : (file n : ℕ) → file < length files → n ≤ e_shnum (file_at files file) →
        Rise (base (text_index files file 0)) (base (text_index files file n)) (items_in call_walk file (file_at files file) n)
    file_rises file zero file_in few = omega arith
    file_rises file (suc n) file_in few =
        let b = file_at files file in
        rises_append (IsCall files) key (base (text_index files file 0)) (base (text_index files file n))
        (base (text_index files file (suc n))) (items_in call_walk file b n) (calls_in file b n)
        (file_rises file n file_in (omega arith)) (section_rises file n file_in (omega arith))

    files_rise : (n : ℕ) → n ≤ length files →
        Rise (base 0) (base (length (items_before text_walk files n))) (items_before call_walk files n)
    files_rise zero few = omega arith
    files_rise (suc n) few =
        let b = file_at files n in
        let before = items_before text_walk files n in
        let first : text_index files n 0 ≡ length before = omega arith in
        let last : text_index files n (e_shnum b) ≡ length (before ++ items_in text_walk n b (e_shnum b)) =
        sym (length-append before (items_in text_walk n b (e_shnum b))) in
        rises_append (IsCall files) key (base 0) (base (length before)) (base (length (before ++ items_in text_walk n b (e_shnum b))))
        (items_before call_walk files n) (items_in call_walk n b (e_shnum b)) (files_rise n (omega arith))
        (subst (λ (m : ℕ). Rise (base (length before)) (base m) (items_in call_walk n b (e_shnum b))) last
        (subst (λ (m : ℕ). Rise (base m) (base (text_index files n (e_shnum b))) (items_in call_walk n b (e_shnum b))) first
        (file_rises n (e_shnum b) (omega arith) (omega arith))))

    -- all calls of the files
    pub calls_rise : Rise (base 0) (base (length (text_sections files))) (call_fields files)
    calls_rise = files_rise (length files) (omega arith)

-- each section at a number of its own
abbrev place_base : ℕ → ℕ
place_base k = k * 2 ^ 32

places_make : (files : List (List ℕ)) → set_refusal files ≡ None → Makes files place_base
places_make files whole k file section lies =
    let small = text_small files file section whole lies.file_in lies.within lies.text in
    omega (arith, small)

-- each section behind the bytes of those before
abbrev size_base : List (List ℕ) → ℕ → ℕ
size_base files k = sum_by (section_size files) (take k (text_sections files))

sizes_make : (files : List (List ℕ)) → Makes files (size_base files)
sizes_make files k file section lies =
    let texts = text_sections files in
    let own : SectionId = record { file = file; section = section } in
    let found : slice_get texts k ≡ Some own =
    subst (λ (n : ℕ). slice_get texts n ≡ Some own) lies.index (text_index_found files file section lies.file_in lies.within lies.text) in
    let within = slice_get_within texts k own found in
    let more = sum_by_more (section_size files) texts k no_section within in
    let here = ap (section_size files) (at_get texts k own no_section found) in
    let next = ap (size_base files) (add-one k) in
    omega (arith, more, here, next)

-- what stands at a place of a list was made of what stands there
mapped_at : {X Y : Type 0} (f : X → Y) (xs : List X) (k : ℕ) (y : Y) → slice_get (map f xs) k ≡ Some y →
    (x : X) × (slice_get xs k ≡ Some x) × (f x ≡ y)
mapped_at f [] k y found = cc
mapped_at f (x ∷ xs) zero y found = (x, refl, cc)
mapped_at f (x ∷ xs) (suc k) y found = mapped_at f xs k y found

-- one site stands before another
abbrev pub StandsBefore : CallSite → CallSite → Type 0
StandsBefore a b = (a.section < b.section) ⊎ ((a.section ≡ b.section) × (a.offset < b.offset))

key_tells : (one start other next : ℕ) → start < 2 ^ 32 → one * 2 ^ 32 + start < other * 2 ^ 32 + next →
    next < 2 ^ 32 → (one < other) ⊎ ((one ≡ other) × (start < next))
key_tells one start other next small less small_too =
    elim (cases_lt one other) [
      | inl before ↦ inl before
      | inr more ↦ inr (omega arith, omega arith)
    ]

start_small : (files : List (List ℕ)) → set_refusal files ≡ None → records_refusal files ≡ None → (f : RecordField) → IsCall files f →
    f.start < 2 ^ 32
start_small files whole none f call =
    let sound = call_sound files f whole none call in
    let small = text_small files f.id.file f.id.section whole sound.file_in sound.section_in sound.text in
    omega (arith, sound.within, small)

-- where a walk refuses nothing each element passes
passes_at : {X R : Type 0} (f : X → Option R) (xs : List X) (k : ℕ) (x : X) → first_in f xs ≡ None → slice_get xs k ≡ Some x → f x ≡ None
passes_at f [] k x passes found = cc
passes_at f (y ∷ xs) zero x passes found =
    let same : y ≡ x = cc in
    ap f (sym same) ∙ (both_none (f y) (first_in f xs) passes).0
passes_at f (y ∷ xs) (suc k) x passes found = passes_at f xs k x (both_none (f y) (first_in f xs) passes).1 found

slot_there : (restore slot : Bool) (r : Refusal) → when (restore && not slot) r ≡ None → restore ≡ true → slot ≡ true
slot_there true true r passes is = refl
slot_there true false r passes is = cc
slot_there false slot r passes is = cc

module _ (files : List (List ℕ)) (groups : List ℕ) (whole : set_refusal files ≡ None) (none : records_refusal files ≡ None) where
  -- each site of a link is sound
  pub sites_sound : (k : ℕ) (site : CallSite) → slice_get (call_sites files groups) k ≡ Some site → IsSoundSite files groups site
  sites_sound k site found =
      let made = mapped_at (call_site files groups) (call_fields files) k site found in
      let call = rises_at (IsCall files) (key files place_base) (place_base 0) (place_base (length (text_sections files)))
      (call_fields files) k made.0
      (calls_rise files place_base whole none (places_make files whole)) made.1 in
      subst (IsSoundSite files groups) made.2 (site_sound files groups made.0 whole none call)

  -- and stands before the next
  pub sites_in_order : (k : ℕ) (a b : CallSite) → slice_get (call_sites files groups) k ≡ Some a →
      slice_get (call_sites files groups) (suc k) ≡ Some b → StandsBefore a b
  sites_in_order k a b first second =
      let f = mapped_at (call_site files groups) (call_fields files) k a first in
      let g = mapped_at (call_site files groups) (call_fields files) (suc k) b second in
      let rise = calls_rise files place_base whole none (places_make files whole) in
      let less = rises_next (IsCall files) (key files place_base) (place_base 0) (place_base (length (text_sections files)))
      (call_fields files) k f.0 g.0
      rise f.1 g.1 in
      let rises = rises_at (IsCall files) (key files place_base) (place_base 0) (place_base (length (text_sections files)))
      (call_fields files) in
      let f_small = start_small files whole none f.0 (rises k f.0 rise f.1) in
      let g_small = start_small files whole none g.0 (rises (suc k) g.0 rise g.1) in
      let f_stands = subst (StandsAs files f.0) f.2 (site_stands files groups f.0) in
      let g_stands = subst (StandsAs files g.0) g.2 (site_stands files groups g.0) in
      key_tells a.section a.offset b.section b.offset (omega (arith, f_stands.offset, f_small))
      (omega (arith, less, f_stands.section, f_stands.offset, g_stands.section, g_stands.offset))
      (omega (arith, g_stands.offset, g_small))

restored_case : (site : CallSite) → restore_refusal site ≡ None → site.restore ≡ true → site.slot ≡ true
restored_case site passes restore =
    slot_there site.restore site.slot (NoRestore site.site) passes restore

-- where nothing is refused, a site behind which r2 is restored has its slot
pub sites_restored : (files : List (List ℕ)) (groups : List ℕ) (k : ℕ) (site : CallSite) →
    first_in restore_refusal (call_sites files groups) ≡ None →
    slice_get (call_sites files groups) k ≡ Some site → site.restore ≡ true → site.slot ≡ true
sites_restored files groups k site passes found restore =
    restored_case site (passes_at restore_refusal (call_sites files groups) k site passes found) restore

get_at : {X : Type 0} (xs : List X) (k : ℕ) (d : X) → k < length xs → slice_get xs k ≡ Some (slice_index_or xs k d)
get_at [] k d within = absurd (omega arith)
get_at (x ∷ xs) zero d within = refl
get_at (x ∷ xs) (suc k) d within = get_at xs k d (omega arith)

-- the same of sites by their numbers
module _ (files : List (List ℕ)) (groups : List ℕ) (whole : set_refusal files ≡ None) (none : records_refusal files ≡ None) where
  pub site_sound_at : (i : ℕ) (d : CallSite) → i < length (call_sites files groups) →
      IsSoundSite files groups (slice_index_or (call_sites files groups) i d)
  site_sound_at i d within =
      let sites = call_sites files groups in
      sites_sound files groups whole none i (slice_index_or sites i d) (get_at sites i d within)

  pub sites_ordered_at : (i : ℕ) (d : CallSite) → i + 1 < length (call_sites files groups) →
      StandsBefore (slice_index_or (call_sites files groups) i d) (slice_index_or (call_sites files groups) (i + 1) d)
  sites_ordered_at i d within =
      let sites = call_sites files groups in
      sites_in_order files groups whole none i (slice_index_or sites i d) (slice_index_or sites (i + 1) d)
      (get_at sites i d (omega arith))
      (ap (slice_get sites) (sym (add-one i)) ∙ get_at sites (i + 1) d within)

  -- there are no more sites than bytes of text
  pub few_sites : length (call_sites files groups) ≤ text_size files
  few_sites =
      let calls = call_fields files in
      let base = size_base files in
      let last = length (text_sections files) in
      let rise = calls_rise files base whole none (sizes_make files) in
      let most = rises_few (IsCall files) (key files base) (base 0) (base last) calls rise in
      let all = sum_by-take-le (section_size files) (text_sections files) last in
      let many = length-map calls (call_site files groups) in
      omega (arith, most, all, many)
