-- What a step of the plain run does at each place of text (ELFv2 ABI, "Function Call", "TOC Pointer Usage" and "Relocation Descriptions";
-- Power ISA 3.1, book I, "Prefixed Instructions").
use Rattle.std.specs.Prelude.{ℕ, ℤ, ◌≡◌, ◌+◌, ◌*◌, ◌%◌, Bool, true, false, not, ◌&&◌, ◌||◌, ◌==◌, nat_le, nat_lt, List, [], ◌∷◌, ◌++◌, length, map, Option, Some, None, slice_index, if◌then◌else◌}
use Rattle.std.specs.List.{list_any, range_with_len}
use Rattle.elf64_records.specs.Sections.{sh_size}
use Rattle.object_set.specs.declared.places.RecordId.{RecordId}
use Rattle.object_set.specs.Sections.{align_of, sort_of}
use Rattle.object_set.specs.Walks.{Walk, IsRecord, all_items}
use Rattle.elf64_records.specs.FileHeader.{e_shnum}
use Rattle.ppc_bytes.specs.Halves.{whole_ha}
use Rattle.power_machine.specs.declared.code.Code.{Code}
use Rattle.power_machine.specs.declared.code.Code.TheVariants as code
use Rattle.power_machine.specs.declared.reason.Reason.TheVariants as why
use Rattle.power_machine.specs.Codes.{IsOneWord, IsTwoWords}
use Rattle.prefixed_insns.specs.declared.instruction.PInsn.{PInsn}
use Rattle.reloc_fields.specs.declared.kind.Kind.{Kind}
use Rattle.reloc_fields.specs.Table.{line_of, filled}
use Rattle.stub_kinds.specs.declared.class.Class.{Class}
use Rattle.symbol_table.specs.declared.fields.RecordField.{RecordField}
use Rattle.symbol_table.specs.declared.prologue.PrologueForm.{PrologueForm}
use Rattle.symbol_table.specs.declared.prologue.PrologueForm.TheVariants.{FromEntry, Absolute}
use Rattle.symbol_table.specs.declared.target.Target.{Target}
use Rattle.symbol_table.specs.declared.target.Target.TheVariants as target
use Rattle.call_sites.specs.declared.site.CallSite.{CallSite}
use Rattle.toc_groups.specs.declared.slots.TheConstants.{SLOT_SIZE}
use Rattle.toc_groups.specs.Data.{target_address, group_start, group_slots, section_address}
use Rattle.toc_groups.specs.Groups.{group_count}
use Rattle.toc_groups.specs.Plans.{LaidData}
use Rattle.toc_groups.specs.Values.{record_value}
use Rattle.toc_rewrite.specs.Folds.{is_toc_sort, slot_address, fills_foldable, slot_records}
use Rattle.toc_rewrite.specs.Laid.{LaidFiles, laid_files}
use Rattle.toc_rewrite.specs.Records.{record_target, record_number}
use Rattle.toc_rewrite.specs.Words.{target_register, base_register}
use Rattle.pcrel_rewrite.specs.declared.text_pairs.TextPair.{TextPair}
use Rattle.pcrel_rewrite.specs.TextPairs.{tail_at}
use Rattle.plain_machine.specs.declared.action.Action.{Action}
use Rattle.plain_machine.specs.declared.action.Effect.{Effect}
use Rattle.plain_machine.specs.declared.action.Effect.TheVariants as effect
use Rattle.plain_machine.specs.declared.action.Need.{Need}
use Rattle.plain_machine.specs.declared.kept.AddressRange.{AddressRange}
use Rattle.plain_machine.specs.declared.place.TextPlace.{TextPlace}
use Rattle.plain_machine.specs.declared.value.Part.TheVariants as part
use Rattle.plain_machine.specs.declared.value.PartTarget.{PartTarget}
use Rattle.plain_machine.specs.declared.value.PartTarget.TheVariants as goal
use Rattle.plain_machine.specs.declared.value.PlainValue.{PlainValue}
use Rattle.plain_machine.specs.declared.value.PlainValue.TheVariants.{Number, Code as Place, Part, Pair, Junk}
use Rattle.plain_machine.specs.Actions.{toc_pointer, entry_register, meets}
use Rattle.plain_machine.specs.Plain.{place_ahead}
use Rattle.plain_run.specs.declared.role.FieldRole.{FieldRole}
use Rattle.plain_run.specs.declared.role.FieldRole.TheVariants as role
use Rattle.plain_run.specs.declared.standing.Standing.{Standing}
use Rattle.plain_run.specs.declared.standing.Standing.TheVariants as standing
use Rattle.plain_run.specs.Standing.{place_before, saves_base, is_with_toc, section_at, file_of, word_at, is_word, fields_at, field_at, standing_at}
use Rattle.plain_run.specs.Roles.{role_of}
use Rattle.plain_run.specs.Effects.{IsDone, does, leaves, needs_value, code_action, nop_action, IsWordCode, code_acting, pair_access}

-- The table of contents: the slots of each group, and the sections `.toc`.
module _ (files : List (List ℕ)) (span : ℕ) where
  abbrev pub slots_range : ℕ → AddressRange
  slots_range g =
      record { start = group_start files span g; stop = group_start files span g + SLOT_SIZE * length (group_slots files span g) }

  abbrev pub toc_range : ℕ → List ℕ → ℕ → List AddressRange
  toc_range file b i =
      let start = section_address files span file b i in
      if is_toc_sort (sort_of b i) then record { start = start; stop = start + sh_size b i } ∷ [] else []

  abbrev pub toc_range_walk : Walk AddressRange
  toc_range_walk = record { count = e_shnum; items = toc_range }

  abbrev pub toc_ranges : List AddressRange
  toc_ranges = map slots_range (range_with_len 0 (group_count files span)) ++ all_items toc_range_walk files

  abbrev pub is_toc_byte : ℕ → Bool
  is_toc_byte n = list_any (meets n 1) toc_ranges

-- the place whose address a value is
abbrev pub place_of_value : PlainValue → TextPlace
place_of_value (Place p) = p
place_of_value other = record { section = 0; offset = 0 }

module _ (files : List (List ℕ)) (plan : LaidData) where
  abbrev pub laid : LaidFiles
  laid = laid_files files plan.bases plan.pieces

  -- the TOC base of a file
  abbrev pub base_at : ℕ → ℕ
  base_at file = slice_index plan.bases file

  -- where a record goes, as a value
  abbrev pub place_value : Target → PlainValue
  place_value (target.Data piece addend) = Junk
  place_value (target.Code section offset) = Place (record { section = section; offset = offset })
  place_value (target.Number n) = Junk
  place_value (target.TocBase file addend) = Junk
  place_value (target.WeakNone addend) = Junk

  abbrev pub value_by : Target → Option ℕ → PlainValue
  value_by t None = place_value t
  value_by t (Some n) = Number n

  abbrev pub value_of_target : Option Target → PlainValue
  value_of_target None = Junk
  value_of_target (Some t) = value_by t (target_address files plan.span t)

  abbrev pub record_goal : RecordId → PlainValue
  record_goal r = value_of_target (record_target files r)

  -- the same as what a half is of
  abbrev pub goal_of : PlainValue → PartTarget
  goal_of (Number n) = if is_toc_byte files plan.span n then goal.Toc n else goal.Elsewhere
  goal_of (Place p) = goal.Place p
  goal_of other = goal.Elsewhere

  -- a record's own value where it doesn't depend on where text lies, so that text sections may be taken to lie at 0
  abbrev pub fixed_value : RecordId → Kind → ℤ
  fixed_value r kind = record_value files plan.span [] r kind

  -- its high half, which isn't known of a place
  abbrev pub high_of : PlainValue → ℤ → Option ℤ
  high_of (Number n) x = Some (whole_ha x)
  high_of other x = None

  abbrev pub toc_part : RecordId → Kind → PlainValue
  toc_part r kind = Part (part.Toc r.file (goal_of (record_goal r)) (high_of (record_goal r) (fixed_value r kind)))

  -- the slot that a record fills begins at a number, in a file
  abbrev pub begins_at : ℕ → ℕ → RecordId → Bool
  begins_at file number slot = slot.file == file && slot_address laid slot == number

  -- a foldable one does
  abbrev pub has_foldable : ℕ → Option ℕ → Bool
  has_foldable file None = false
  has_foldable file (Some number) = list_any (begins_at file number) (slot_records laid)

  abbrev pub names_foldable : RecordId → Bool
  names_foldable r = has_foldable r.file (record_number laid r)

  abbrev pub BeginsAt : ℕ → RecordId → Option ℕ → Type 0
  BeginsAt file slot None = ⊥
  BeginsAt file slot (Some number) = begins_at file number slot ≡ true

  -- a record names the foldable slot that another one fills
  pub record NamesSlot (r slot : RecordId) : Type 0 where
    pub there : IsRecord files slot
    pub foldable : fills_foldable laid slot ≡ true
    pub begins : BeginsAt r.file slot (record_number laid r)

  abbrev pub role_at : TextPlace → RecordId → Kind → FieldRole
  role_at p r kind = role_of kind (word_at files p) (record_target files r) (names_foldable r)

  -- r2 is the TOC base of a file
  abbrev pub toc_need : ℕ → Option Need
  toc_need file = needs_value toc_pointer (Number (base_at file)) why.Toc

  -- a prefixed instruction may cross a boundary of 64 bytes, for all that is known of where its section lies
  abbrev pub may_cross : TextPlace → Bool
  may_cross p = nat_lt (align_of (file_of files p) (section_at files p).section) 64 || p.offset % 64 == 60

  -- what stands at a place as a prefixed instruction, or that none does
  abbrev pub IsPairCode : Bool → TextPlace → Code → Type 0
  IsPairCode whole p code.Unfetched = ⊥
  IsPairCode whole p code.Unknown =
      (insn : PInsn) → whole ≡ true → ¬ IsTwoWords (word_at files p) (word_at files (place_ahead p 4)) insn
  IsPairCode whole p (code.OneWord insn) = ⊥
  IsPairCode whole p (code.TwoWords insn) =
      (whole ≡ true) × IsTwoWords (word_at files p) (word_at files (place_ahead p 4)) insn

  -- the second word is one of the section, of which no field has bytes
  abbrev pub has_second : TextPlace → Bool
  has_second p = is_word files (place_ahead p 4) && length (fields_at files (place_ahead p 4)) == 0

  -- what the file's own words are: an instruction of one word, or else of two, or none
  abbrev pub IsOwnCode : TextPlace → Code → Type 0
  IsOwnCode p code.Unfetched = ⊥
  IsOwnCode p (code.OneWord insn) = IsOneWord (word_at files p) insn
  IsOwnCode p code.Unknown =
      IsWordCode (word_at files p) code.Unknown × IsPairCode (has_second p && not (may_cross p)) p code.Unknown
  IsOwnCode p (code.TwoWords insn) =
      IsWordCode (word_at files p) code.Unknown × IsPairCode (has_second p && not (may_cross p)) p (code.TwoWords insn)

  -- a call: to the global entry point, with the caller's TOC base in r2 where it has one
  abbrev pub call_of : ℕ → CallSite → Effect
  call_of base site = effect.Call (record {
    to = record { section = site.to_section; offset = site.callee };
    link = site.link;
    enters = nat_le 2 site.e;
    saves = if saves_base site then Some base else None;
  })

  abbrev pub call_by : ℕ → CallSite → Option Class → Action
  call_by file site None = nop_action
  call_by file site (Some class) = record {
    first = if is_with_toc (Some class) then toc_need file else None;
    second = None;
    effect = call_of (base_at file) site;
  }

  -- the restore behind it; where r2 needs no restore, it must be the TOC base already
  abbrev pub restore_action : TextPlace → ℕ → CallSite → Action
  restore_action p file site = record {
    first = if site.restore then None else needs_value toc_pointer (Number (base_at file)) why.Restore;
    second = None;
    effect = effect.Restore (place_before p) (base_at file);
  }

  -- the first word of a recognised prologue
  abbrev pub entry_need : TextPlace → PrologueForm → Option Need
  entry_need p FromEntry = needs_value entry_register (Place p) why.Prologue
  entry_need p Absolute = None

  abbrev pub entry_action : TextPlace → PrologueForm → Action
  entry_action p form =
      record { first = entry_need p form; second = None; effect = effect.Give 4 toc_pointer (Part (part.Prologue p)) }

  -- the second
  abbrev pub base_action : TextPlace → ℕ → Action
  base_action p file = record {
    first = needs_value toc_pointer (Part (part.Prologue (place_before p))) why.Prologue;
    second = None;
    effect = effect.Enter (base_at file);
  }

  -- a word gives a value to its target register
  abbrev pub gives : TextPlace → PlainValue → Effect
  gives p v = effect.Give 4 (target_register (word_at files p)) v

  -- a high half of an address less the TOC base; its low half, which needs it; and a load from a slot
  abbrev pub toc_high_action : TextPlace → RecordId → Kind → Action
  toc_high_action p r kind = record { first = toc_need r.file; second = None; effect = gives p (toc_part r kind) }

  abbrev pub toc_low_action : TextPlace → RecordId → Kind → Code → Action
  toc_low_action p r kind c = record {
    first = toc_need r.file;
    second = needs_value (base_register (word_at files p)) (toc_part r kind) why.Part;
    effect = code_acting (record_goal r) c;
  }

  abbrev pub toc_slot_action : TextPlace → RecordId → RecordId → Action
  toc_slot_action p r slot = record { first = toc_need r.file; second = None; effect = gives p (record_goal slot) }

  pub record IsSlotLoad (p : TextPlace) (r : RecordId) (a : Action) : Type 0 where
    pub slot : RecordId
    pub names : NamesSlot r slot
    pub is : a ≡ toc_slot_action p r slot

  -- halves of a place's address
  abbrev pub goal_place : RecordId → TextPlace
  goal_place r = place_of_value (record_goal r)

  abbrev pub place_sum_action : TextPlace → RecordId → Action
  place_sum_action p r = record {
    first = needs_value (base_register (word_at files p)) (Part (part.Adjusted (goal_place r))) why.Part;
    second = None;
    effect = gives p (record_goal r);
  }

  abbrev pub place_or_action : TextPlace → RecordId → Action
  place_or_action p r = record {
    first = needs_value (target_register (word_at files p)) (Part (part.High (goal_place r))) why.Part;
    second = None;
    effect = effect.Give 4 (base_register (word_at files p)) (record_goal r);
  }

  -- a prefixed load from a slot: its value is where the record goes, or that of a recognised pair
  abbrev pub slot_value : TextPlace → RecordId → Option ℕ → PlainValue
  slot_value p r None = record_goal r
  slot_value p r (Some tail) = Pair p

  abbrev pub slot_action : List TextPair → TextPlace → RecordId → Action
  slot_action pairs p r =
      if may_cross p then leaves why.Word
      else does (effect.Give 8 (target_register (word_at files (place_ahead p 4))) (slot_value p r (tail_at pairs p.section p.offset)))

  -- a word with its field filled
  abbrev pub filled_word : TextPlace → RecordId → Kind → ℕ
  filled_word p r kind = filled (line_of kind).filling (word_at files p) (fixed_value r kind)

  -- a word with which a record's field begins
  abbrev pub IsRoleAction : List TextPair → TextPlace → RecordId → Kind → FieldRole → Action → Type 0
  IsRoleAction pairs p r kind role.Barred a = a ≡ leaves why.Word
  IsRoleAction pairs p r kind role.PairAddress a =
      IsDone (IsPairCode (not (may_cross p)) p) (λ c. does (code_acting (record_goal r) c)) a
  IsRoleAction pairs p r kind role.SlotAddress a = a ≡ slot_action pairs p r
  IsRoleAction pairs p r kind role.TocHigh a = a ≡ toc_high_action p r kind
  IsRoleAction pairs p r kind role.TocLow a = IsDone (IsWordCode (word_at files p)) (toc_low_action p r kind) a
  IsRoleAction pairs p r kind role.TocSlot a = IsSlotLoad p r a
  IsRoleAction pairs p r kind role.PlaceAdjusted a = a ≡ does (gives p (Part (part.Adjusted (goal_place r))))
  IsRoleAction pairs p r kind role.PlaceHigh a = a ≡ does (gives p (Part (part.High (goal_place r))))
  IsRoleAction pairs p r kind role.PlaceSum a = a ≡ place_sum_action p r
  IsRoleAction pairs p r kind role.PlaceOr a = a ≡ place_or_action p r
  IsRoleAction pairs p r kind role.Fixed a = IsDone (IsWordCode (filled_word p r kind)) code_action a
  IsRoleAction pairs p r kind role.Moving a = a ≡ leaves why.Value

  -- the record of the load of a pair
  abbrev pub head_goal : Option RecordField → PlainValue
  head_goal None = Junk
  head_goal (Some f) = record_goal f.id

  abbrev pub head_place : TextPlace → ℕ → TextPlace
  head_place p head = record { section = p.section; offset = head }

  -- what stands at a place does this
  abbrev pub IsStandingAction : List TextPair → TextPlace → Standing → Action → Type 0
  IsStandingAction pairs p standing.Outside a = a ≡ leaves why.Fetch
  IsStandingAction pairs p standing.Word a = IsDone (IsOwnCode p) code_action a
  IsStandingAction pairs p standing.Touched a = a ≡ leaves why.Word
  IsStandingAction pairs p (standing.Call site) a = a ≡ call_by (section_at files p).file site site.class
  IsStandingAction pairs p (standing.Restore site) a = a ≡ restore_action p (section_at files p).file site
  IsStandingAction pairs p (standing.Entry form) a = a ≡ entry_action p form
  IsStandingAction pairs p standing.Base a = a ≡ base_action p (section_at files p).file
  IsStandingAction pairs p (standing.Access head) a =
      IsDone (IsWordCode (word_at files p)) (pair_access (Pair (head_place p head)) (head_goal (field_at files (head_place p head)))) a
  IsStandingAction pairs p (standing.Field r kind) a = IsRoleAction pairs p r kind (role_at p r kind) a

  -- the one step at a place
  abbrev pub IsActionAt : List TextPair → TextPlace → Action → Type 0
  IsActionAt pairs p a = IsStandingAction pairs p (standing_at files plan.groups pairs p) a
