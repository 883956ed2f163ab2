-- A job that is laid out is ready to be written: sections, stubs and calls have room, and branches reach.
use Rattle.std.proofs.Common.{ℕ, zero, suc, ◌≡◌, ◌<◌, ◌≤◌, ◌+◌, ◌-◌, ◌%◌, Bool, true, false, List, length, slice_index, ap, sym, ◌∙◌, subst, refl, arith, Option, Some, None, if◌then◌else◌, ◌==◌, nat_lt}
use Rattle.std.specs.Prelude.{pos, ◌-ℤ◌}
use Rattle.std.proofs.lemmas.Bool.Decides.{nat_tests}
use Rattle.std.proofs.lemmas.Int.{ints}
use Rattle.object_set.specs.declared.places.SectionId.{SectionId}
use Rattle.stub_kinds.specs.declared.class.Class.{Class}
use Rattle.std.proofs.lemmas.List.{length-map}
use Rattle.elf64_records.specs.Sections.{section_bytes, sh_size}
use Rattle.object_set.specs.Files.{file_at}
use Rattle.object_set.specs.Refusals.{set_refusal}
use Rattle.symbol_table.specs.Text.{text_sections}
use Rattle.call_sites.specs.laws.TextSizes.{text_whole}
use Rattle.call_sites.specs.declared.site.CallSite.{CallSite}
use Rattle.toc_groups.specs.Plans.{LaidData}
use Rattle.layout_rounds.specs.declared.shape.ShapeSection.{ShapeSection}
use Rattle.layout_rounds.specs.declared.shape.ShapeSite.{ShapeSite}
use Rattle.ppc_bytes.specs.Bytes.{InSigned}
use Rattle.stub_kinds.specs.Stubs.{BranchReaches}
use Rattle.elf64_exec.specs.declared.memory_map.TheConstants.{PAGE}
use Rattle.toc_groups.specs.Data.{data_end, data_refusal}
use Rattle.layout_rounds.specs.FarSets.{member}
use Rattle.layout_rounds.specs.Shapes.{KeyedText, aligned, section_of, site_of, IsInText}
use Rattle.layout_rounds.specs.Layout.{PlacedText, section_count, section_size, key_count, key_at, group_at, stub_size, text_end, address, point_in, section_address, stub_address}
use Rattle.placed_bytes.specs.Patches.{end_of}
use Rattle.image_writer.specs.JobShape.{section_shape, shape_sections, site_shape}
use Rattle.image_writer.specs.Text.{text_section, section_patch, place_of, caller_base}
use Rattle.image_writer.specs.inside.Gives.{LayoutGives}
use Rattle.image_writer.specs.inside.Ready.{HasStubRoom, IsStubReady, IsBranchReady, BranchReadyBy, HasCallRoom, IsCallReady}
use Rattle.image_writer.specs.Calls.{call_at, call_number, branch_address, call_address, displacement_by}
use Rattle.layout_rounds.specs.Settled.{branch_target, call_address as layout_call}
use Rattle.call_sites.specs.laws.SiteFacts.{IsSoundSite}
use Rattle.image_writer.specs.Job.{IsJob}
use Rattle.image_writer.proofs.Calling.{shape_nth}
use Rattle.image_writer.proofs.Shaping.{is_section, shaped}

-- data that isn't refused ends at 0x40000000, and text starts no later
not_past : (files : List (List ℕ)) (span : ℕ) → data_refusal files span ≡ None → data_end files span ≤ 0x40000000
not_past files span none = grind (arith, nat_tests, none)

aligned_page : (n : ℕ) → n ≤ 0x40000000 → aligned n PAGE ≤ 0x40000000
aligned_page n low = omega arith

either_low : (b : Bool) (m n : ℕ) → m < 0x60000000 → n < 0x60000000 → (if b then m else n) < 0x60000000
either_low true m n low other = low
either_low false m n low other = other

module _ (files : List (List ℕ)) (plan : LaidData) (sites : List CallSite) (t : KeyedText) (far : List Bool) (places : PlacedText)
    (whole : set_refusal files ≡ None) (job : IsJob files plan sites t far places)
    (gives : LayoutGives t job.shape.sites.items job.span (member far)) where
  -- the sections of the text are the text sections
  pub text_sections_are : t.sections ≡ shape_sections files plan.groups
  text_sections_are = ap (λ (k : KeyedText). k.sections) job.keyed_is ∙ job.shape_is.sections

  pub section_count_is : section_count t ≡ length (text_sections files)
  section_count_is =
      ap (λ (l : List ShapeSection). length l) text_sections_are ∙ length-map (text_sections files) (section_shape files plan.groups)

  pub start_is : t.start ≡ plan.text_start
  start_is = ap (λ (k : KeyedText). k.start) job.keyed_is ∙ job.shape_is.start

  pub places_count : length places.sections ≡ length (text_sections files)
  places_count = job.laid.section_count_is ∙ section_count_is

  pub size_is : (s : ℕ) → s < length (text_sections files) →
      (let id = text_section files s in section_size t s ≡ length (section_bytes (file_at files id.file) id.section))
  size_is s lt =
      let id = text_section files s in
      let is = is_section files s lt in
      ap (λ (l : List ShapeSection). (section_of l s).size) text_sections_are
      ∙ ap (λ (x : ShapeSection). x.size) (shaped files plan.groups s lt)
      ∙ sym (text_whole files id.file id.section whole is.file_in is.within is.text)

  -- a section's patch lies in the text
  pub section_from : (s : ℕ) → s < length places.sections →
      plan.text_start ≤ slice_index places.sections s
  section_from s lt =
      let within : s < section_count t = omega (arith, lt, job.laid.section_count_is) in
      let lies = gives.sections s within in
      omega (arith, lies.from, job.laid.sections s within, start_is)

  pub section_to : (s : ℕ) → s < length places.sections →
      end_of (section_patch files places.sections plan.text_start s) ≤ text_end t (member far) - plan.text_start
  section_to s lt =
      let within : s < section_count t = omega (arith, lt, job.laid.section_count_is) in
      let lies = gives.sections s within in
      let size = size_is s (omega (arith, lt, places_count)) in
      let at = job.laid.sections s within in
      omega (arith, lies.from, lies.to, at, start_is, size)

  -- ---- addresses

  pub text_low : text_end t (member far) < 0x60000001
  text_low =
      let fits = not_past files plan.span job.data_fits in
      let start = job.plan_is.text_start in
      let top = aligned_page (data_end files plan.span) fits in
      omega (arith, job.within, job.shape_is.start, start, top)

  -- the place of an instruction
  pub record IsLow (k offset : ℕ) : Type 0 where
    pub section_in : k < length places.sections
    pub text_in : k < length (text_sections files)
    pub at : slice_index places.sections k ≡ section_address t (member far) k
    pub from : plan.text_start ≤ slice_index places.sections k
    pub low : slice_index places.sections k + offset + 4 ≤ text_end t (member far)
    pub fourth : (slice_index places.sections k + offset) % 4 ≡ 0

  pub instruction_low : (k offset : ℕ) → IsInText t.sections k offset → IsLow k offset
  instruction_low k offset is =
      let lies = gives.sections k is.section_in in
      let fourth = gives.instructions k is.section_in in
      let at = job.laid.sections k is.section_in in
      let size = (gives.keyed.sections.each k is.section_in).whole in
      record {
        section_in = omega (arith, is.section_in, job.laid.section_count_is);
        text_in = omega (arith, is.section_in, section_count_is);
        at = at;
        from = omega (arith, lies.from, at, start_is);
        low = omega (arith, lies.to, at, is.within, is.whole, size);
        fourth = omega (arith, at, fourth, is.whole);
      }

  -- ---- stubs

  key_place : (k : ℕ) → k < key_count t → IsLow (key_at t k).section (key_at t k).offset
  key_place k lt = instruction_low (key_at t k).section (key_at t k).offset (gives.keyed.keys k lt).place

  place_is : (k : ℕ) → k < key_count t → place_of files plan.bases t (member far) places k
      ≡ address t (member far) (point_in t (key_at t k).section (key_at t k).offset)
  place_is k lt = let low = key_place k lt in omega (arith, low.at)

  pub stub_room : (k : ℕ) → k < key_count t → 0 < stub_size t (member far) k →
      HasStubRoom files plan.bases t (member far) places plan.text_start (text_end t (member far) - plan.text_start) k
  stub_room k lt some =
      let lies = gives.stubs k lt some in
      let at = job.laid.stubs k lt in
      record {
        from = omega (arith, lies.from, at, start_is);
        room = omega (arith, lies.from, lies.to, at, start_is);
      }

  module _ (low_bases : (file : ℕ) → slice_index plan.bases file < 0x60000000) where
    caller_low : (g n : ℕ) → caller_base files plan.bases t (member far) places g n < 0x60000000
    caller_low g zero = omega arith
    caller_low g (suc n) =
        either_low (group_at t n == g) (slice_index plan.bases (text_section files n).file)
        (caller_base files plan.bases t (member far) places g n) (low_bases (text_section files n).file) (caller_low g n)

    pub stub_ready : (k : ℕ) → k < key_count t → 0 < stub_size t (member far) k →
        IsStubReady files plan.bases t (member far) places k
    stub_ready k lt some =
        let lies = gives.stubs k lt some in
        let at = job.laid.stubs k lt in
        let place = key_place k lt in
        let reaches = gives.branches k lt in
        let class = (key_at t k).class in
        record {
          stub_in = omega (arith, lt, job.laid.stub_count);
          section_in = place.section_in;
          text_in = place.text_in;
          to_base_low = low_bases (text_section files (key_at t k).section).file;
          at_low = omega (arith, lies.to, at, text_low, some);
          to_low = omega (arith, place.low, text_low);
          base_low = caller_low (key_at t k).group (section_count t);
          at_whole = omega (arith, at, lies.whole);
          to_whole = place.fourth;
          reaches = subst (λ (a : ℕ). BranchReaches class (member far k) a (place_of files plan.bases t (member far) places k)) (sym at)
              (subst (λ (a : ℕ). BranchReaches class (member far k) (stub_address t (member far) k) a) (sym (place_is k lt)) reaches);
        }

    -- ---- calls

    branch_place : (n : ℕ) → n < length job.shape.sites.items → IsBranchReady files plan.bases t (member far) places n
    branch_place n lt =
        let key = gives.numbered n lt in
        let place = key_place (slice_index t.numbers n) key in
        record {
          number_in = omega (arith, gives.count, lt);
          key_in = key;
          stub_in = omega (arith, key, job.laid.stub_count);
          section_in = place.section_in;
          place_low = omega (arith, place.low, text_low);
          stub_low = λ some. (
              let lies = gives.stubs (slice_index t.numbers n) key some in
              let at = job.laid.stubs (slice_index t.numbers n) key in
              omega (arith, lies.to, at, text_low));
        }

    branch_is : (n : ℕ) → n < length job.shape.sites.items →
        branch_address files plan.bases t (member far) places n ≡ branch_target t job.shape.sites.items (member far) n
    branch_is n lt =
        let k = slice_index t.numbers n in
        let key = gives.numbered n lt in
        ap (λ (a : ℕ). if nat_lt 0 (stub_size t (member far) k) then a else place_of files plan.bases t (member far) places k)
        (job.laid.stubs k key)
        ∙ ap (λ (a : ℕ). if nat_lt 0 (stub_size t (member far) k) then stub_address t (member far) k else a) (place_is k key)

    module _ (i : ℕ) (lt : i < length sites) (sound : IsSoundSite files plan.groups (call_at sites i)) where
      call_place : IsInText t.sections (call_at sites i).section (call_at sites i).offset
      call_place =
          let stands = sound.stands in
          let shape = shaped files plan.groups (call_at sites i).section stands.number in
          let same = ap (λ (l : List ShapeSection). (section_of l (call_at sites i).section).size) text_sections_are
          ∙ ap (λ (x : ShapeSection). x.size) shape in
          record {
            section_in = omega (arith, stands.number, section_count_is);
            within = omega (arith, stands.within, same);
            whole = stands.whole;
          }

      pub call_low : IsLow (call_at sites i).section (call_at sites i).offset
      call_low = instruction_low (call_at sites i).section (call_at sites i).offset call_place

      size_of_call : section_size t (call_at sites i).section
          ≡ (let id = text_section files (call_at sites i).section in sh_size (file_at files id.file) id.section)
      size_of_call =
          ap (λ (l : List ShapeSection). (section_of l (call_at sites i).section).size) text_sections_are
          ∙ ap (λ (x : ShapeSection). x.size) (shaped files plan.groups (call_at sites i).section sound.stands.number)

      pub call_room : HasCallRoom files plan.bases t (member far) places plan.text_start
          (text_end t (member far) - plan.text_start) (call_at sites i)
      call_room =
          let low = call_low in
          record {
            from = omega (arith, low.from);
            room = omega (arith, low.from, low.low);
            slot_room = λ slot. (
                let is = sound.slot slot in
                let lies = gives.sections (call_at sites i).section call_place.section_in in
                let bytes = ap (λ (s : SectionId). sh_size (file_at files s.file) s.section) sound.section in
                omega (arith, low.from, low.at, lies.to, is.within, bytes, size_of_call));
          }

      by_class : (class : Option Class) → (call_at sites i).class ≡ class →
          BranchReadyBy files plan.bases t (member far) places class (call_number sites i)
          × InSigned 26 (displacement_by files plan.bases t (member far) places class
          (call_address files plan.bases t (member far) places (call_at sites i)) (call_number sites i))
      by_class None is = (tt, record { low = omega (arith, ints); high = omega (arith, ints) })
      by_class (Some class) is =
          let n = call_number sites i in
          let nth = shape_nth sites i class lt is in
          let there : n < length job.shape.sites.items = subst (λ (l : List ShapeSite). n < length l) (sym job.shape_is.sites_are) nth.0 in
          let shape : site_of job.shape.sites.items n ≡ site_shape (call_at sites i) class =
          ap (λ (l : List ShapeSite). site_of l n) job.shape_is.sites_are ∙ nth.1 in
          let from : layout_call t job.shape.sites.items (member far) n
          ≡ call_address files plan.bases t (member far) places (call_at sites i) =
          ap (λ (s : ShapeSite). address t (member far) (point_in t s.section s.offset)) shape
          ∙ (let at = call_low.at in omega (arith, at)) in
          let to = sym (branch_is n there) in
          let reached = gives.calls (layout_call t job.shape.sites.items (member far) n)
          (branch_target t job.shape.sites.items (member far) n) (job.reached n there) in (
            branch_place n there,
            subst (λ (a : ℕ). InSigned 26 (pos (branch_address files plan.bases t (member far) places n) -ℤ pos a)) from
                (subst (λ (a : ℕ). InSigned 26 (pos a -ℤ pos (layout_call t job.shape.sites.items (member far) n))) to reached),
          )

      pub call_ready : IsCallReady files plan.bases t (member far) places (call_at sites i) (call_number sites i)
      call_ready =
          let class = by_class (call_at sites i).class refl in
          let low = call_low in
          record {
            section_in = low.section_in;
            low = omega (arith, low.low, text_low);
            branch = class.0;
            reaches = class.1;
          }

      -- where it branches is an instruction
      whole_case : (k : ℕ) (some : Bool) → nat_lt 0 (stub_size t (member far) k) ≡ some → k < key_count t →
          (if some then slice_index places.stubs k else place_of files plan.bases t (member far) places k) % 4 ≡ 0
      whole_case k true is key =
          let lies = gives.stubs k key (grind (arith, nat_tests, is)) in
          omega (arith, job.laid.stubs k key, lies.whole)
      whole_case k false is key = (key_place k key).fourth

      pub branch_whole : (class : Class) → (call_at sites i).class ≡ Some class →
          branch_address files plan.bases t (member far) places (call_number sites i) % 4 ≡ 0
      branch_whole class is =
          let n = call_number sites i in
          let nth = shape_nth sites i class lt is in
          let there : n < length job.shape.sites.items = subst (λ (l : List ShapeSite). n < length l) (sym job.shape_is.sites_are) nth.0 in
          let k = slice_index t.numbers n in
          whole_case k (nat_lt 0 (stub_size t (member far) k)) refl (gives.numbered n there)
