-- At each place of text there is one action.
use Rattle.std.proofs.Common.{ℕ, ◌≡◌, Bool, true, false, not, ◌&&◌, List, [], ◌∷◌, Option, None, Some, ap, sym, ◌∙◌, subst, refl, arith, if◌then◌else◌}
use Rattle.std.specs.Prelude.{◌==◌, nat_le}
use Rattle.std.proofs.lemmas.Bool.Decides.{nat_tests}
use Rattle.object_set.specs.declared.places.RecordId.{RecordId}
use Rattle.object_set.specs.Files.{file_at}
use Rattle.object_set.specs.Refusals.{set_refusal}
use Rattle.object_set.specs.Walks.{IsRecord}
use Rattle.power_insns.specs.declared.instruction.Insn.{Insn}
use Rattle.power_insns.specs.laws.Words.{one_word}
use Rattle.power_machine.specs.declared.code.Code.{Code}
use Rattle.power_machine.specs.declared.code.Code.TheVariants as code
use Rattle.power_machine.specs.declared.reason.Reason.TheVariants as why
use Rattle.power_machine.specs.Codes.{IsOneWord, IsTwoWords}
use Rattle.prefixed_insns.specs.declared.instruction.PInsn.{PInsn}
use Rattle.prefixed_insns.specs.laws.Pairs.{one_pair}
use Rattle.reloc_fields.specs.declared.kind.Kind.{Kind}
use Rattle.symbol_table.specs.declared.fields.RecordField.{RecordField}
use Rattle.symbol_table.specs.Fields.{kind_numbered}
use Rattle.symbol_table.specs.Records.{records_refusal}
use Rattle.call_sites.specs.declared.site.CallSite.{CallSite}
use Rattle.call_sites.specs.Sites.{facts_of}
use Rattle.toc_groups.specs.Parts.{Part, Takes}
use Rattle.toc_groups.specs.Plans.{LaidData, IsPlan}
use Rattle.toc_groups.proofs.Apart.{parts_apart}
use Rattle.toc_rewrite.specs.Folds.{fills_foldable, slot_address, slot_records, slot_at}
use Rattle.toc_rewrite.specs.Laid.{LaidFiles}
use Rattle.toc_rewrite.specs.Records.{record_number}
use Rattle.toc_rewrite.specs.Words.{target_register}
use Rattle.pcrel_rewrite.specs.declared.text_pairs.TextPair.{TextPair}
use Rattle.pcrel_rewrite.specs.TextPairs.{tail_at, head_at}
use Rattle.image_writer.specs.Rewriting.{laid_by}
use Rattle.image_writer.proofs.Naming.{slot_found}
use Rattle.image_writer.proofs.Slots.{laid_is}
use Rattle.plain_machine.specs.declared.action.Action.{Action}
use Rattle.plain_machine.specs.declared.action.Effect.TheVariants as effect
use Rattle.plain_machine.specs.declared.place.TextPlace.{TextPlace}
use Rattle.plain_machine.specs.Plain.{place_ahead}
use Rattle.plain_run.specs.declared.role.FieldRole.{FieldRole}
use Rattle.plain_run.specs.declared.role.FieldRole.TheVariants as role
use Rattle.plain_run.specs.declared.standing.Standing.{Standing}
use Rattle.plain_run.specs.declared.standing.Standing.TheVariants as standing
use Rattle.plain_run.specs.Effects.{does, leaves, IsDone, IsWordCode}
use Rattle.plain_run.specs.Places.{laid, BeginsAt, NamesSlot, may_cross, IsPairCode, has_second, IsOwnCode, toc_slot_action, IsSlotLoad, slot_value, slot_action, filled_word, role_at, IsRoleAction, IsStandingAction, IsActionAt}
use Rattle.plain_run.specs.Standing.{word_at, is_word, fields_at, only_field, field_at, place_before, call_by, saving, saving_before, access_by, restore_by, begun_by, touched_by, standing_by, standing_at}

-- ---- what stands there as an instruction is one

one_insn : (word : ℕ) (x y : Insn) → IsOneWord word x → IsOneWord word y → x ≡ y
one_insn word x y is too = one_word x y is.0 too.0 (is.1 ∙ sym too.1)

one_prefixed : (prefix suffix : ℕ) (x y : PInsn) → IsTwoWords prefix suffix x → IsTwoWords prefix suffix y → x ≡ y
one_prefixed prefix suffix x y is too = one_pair x y is.0 too.0 (is.1 ∙ sym too.1) (is.2 ∙ sym too.2)

one_code : (word : ℕ) (c d : Code) → IsWordCode word c → IsWordCode word d → c ≡ d
one_code word code.Unfetched d is too = absurd is
one_code word (code.TwoWords x) d is too = absurd is
one_code word code.Unknown code.Unfetched is too = absurd too
one_code word code.Unknown code.Unknown is too = refl
one_code word code.Unknown (code.OneWord y) is too = absurd (is y too)
one_code word code.Unknown (code.TwoWords y) is too = absurd too
one_code word (code.OneWord x) code.Unfetched is too = absurd too
one_code word (code.OneWord x) code.Unknown is too = absurd (too x is)
one_code word (code.OneWord x) (code.OneWord y) is too = ap code.OneWord (one_insn word x y is too)
one_code word (code.OneWord x) (code.TwoWords y) is too = absurd too

module _ (files : List (List ℕ)) (plan : LaidData) (p : TextPlace) where
  one_pair_code : (whole : Bool) (c d : Code) → IsPairCode files plan whole p c → IsPairCode files plan whole p d → c ≡ d
  one_pair_code whole code.Unfetched d is too = absurd is
  one_pair_code whole (code.OneWord x) d is too = absurd is
  one_pair_code whole code.Unknown code.Unfetched is too = absurd too
  one_pair_code whole code.Unknown code.Unknown is too = refl
  one_pair_code whole code.Unknown (code.OneWord y) is too = absurd too
  one_pair_code whole code.Unknown (code.TwoWords y) is too = absurd (is y too.0 too.1)
  one_pair_code whole (code.TwoWords x) code.Unfetched is too = absurd too
  one_pair_code whole (code.TwoWords x) code.Unknown is too = absurd (too x is.0 is.1)
  one_pair_code whole (code.TwoWords x) (code.OneWord y) is too = absurd too
  one_pair_code whole (code.TwoWords x) (code.TwoWords y) is too =
      ap code.TwoWords (one_prefixed (word_at files p) (word_at files (place_ahead p 4)) x y is.1 too.1)

  one_own_code : (c d : Code) → IsOwnCode files plan p c → IsOwnCode files plan p d → c ≡ d
  one_own_code code.Unfetched d is too = absurd is
  one_own_code (code.OneWord x) code.Unfetched is too = absurd too
  one_own_code (code.OneWord x) (code.OneWord y) is too = ap code.OneWord (one_insn (word_at files p) x y is too)
  one_own_code (code.OneWord x) code.Unknown is too = absurd (too.0 x is)
  one_own_code (code.OneWord x) (code.TwoWords y) is too = absurd (too.0 x is)
  one_own_code code.Unknown code.Unfetched is too = absurd too
  one_own_code code.Unknown (code.OneWord y) is too = absurd (is.0 y too)
  one_own_code code.Unknown code.Unknown is too = refl
  one_own_code code.Unknown (code.TwoWords y) is too =
      one_pair_code (has_second files plan p && not (may_cross files plan p)) code.Unknown (code.TwoWords y) is.1 too.1
  one_own_code (code.TwoWords x) code.Unfetched is too = absurd too
  one_own_code (code.TwoWords x) (code.OneWord y) is too = absurd (is.0 y too)
  one_own_code (code.TwoWords x) code.Unknown is too =
      one_pair_code (has_second files plan p && not (may_cross files plan p)) (code.TwoWords x) code.Unknown is.1 too.1
  one_own_code (code.TwoWords x) (code.TwoWords y) is too =
      one_pair_code (has_second files plan p && not (may_cross files plan p)) (code.TwoWords x) (code.TwoWords y) is.1 too.1

-- and so is what it does
one_done : (Is : Code → Type 0) (with : Code → Action) (a b : Action) → ((c d : Code) → Is c → Is d → c ≡ d) → IsDone Is with a →
    IsDone Is with b → a ≡ b
one_done Is with a b one done too = done.is ∙ ap with (one done.code too.code done.stands too.stands) ∙ sym too.is

some_is : {X : Type 0} (x y : X) → Some x ≡ Some y → x ≡ y
some_is x y same = cc

module _ (files : List (List ℕ)) (plan : LaidData) (is : IsPlan files plan.span plan) (whole : set_refusal files ≡ None)
    (none : records_refusal files ≡ None) where
  -- ---- a record names at most one foldable slot

  apart : (a : ℕ) (p q : Part) → Takes files plan.span p a → Takes files plan.span q a → p ≡ q
  apart a p q first second = parts_apart files plan.span p q a whole first second

  begins_parts : (file number f a : ℕ) → (f == file && a == number) ≡ true → (f ≡ file) × (a ≡ number)
  begins_parts file number f a begins = (grind (arith, nat_tests, begins), grind (arith, nat_tests, begins))

  found : (file : ℕ) (s : RecordId) (number : Option ℕ) → IsRecord files s → fills_foldable (laid files plan) s ≡ true →
      BeginsAt files plan file s number →
      slot_at (laid_by files plan.span) (slot_records (laid_by files plan.span)) file number ≡ Some s
  found file s None there folds begins = absurd begins
  found file s (Some number) there folds begins =
      let parts = begins_parts file number s.file (slot_address (laid files plan) s) begins in
      let same = laid_is files plan.span plan is in
      slot_found files plan.span plan is whole none apart s file number there
      (subst (λ (l : LaidFiles). fills_foldable l s ≡ true) same folds) parts.0
      (ap (λ (l : LaidFiles). slot_address l s) (sym same) ∙ parts.1)

  one_named : (r s t : RecordId) → NamesSlot files plan r s → NamesSlot files plan r t → s ≡ t
  one_named r s t names too =
      some_is s t
      (sym (found r.file s (record_number (laid files plan) r) names.there names.foldable names.begins)
      ∙ found r.file t (record_number (laid files plan) r) too.there too.foldable too.begins)

  one_load : (p : TextPlace) (r : RecordId) (a b : Action) → IsSlotLoad files plan p r a → IsSlotLoad files plan p r b → a ≡ b
  one_load p r a b load too =
      load.is ∙ ap (toc_slot_action files plan p r) (one_named r load.slot too.slot load.names too.names) ∙ sym too.is

  -- ---- whichever list tells the pairs

  module _ (one other : List TextPair) (tails : (section offset : ℕ) → tail_at one section offset ≡ tail_at other section offset)
      (heads : (section offset : ℕ) → head_at one section offset ≡ head_at other section offset) where
    slot_same : (p : TextPlace) (r : RecordId) → slot_action files plan one p r ≡ slot_action files plan other p r
    slot_same p r =
        ap (λ (o : Option ℕ). if may_cross files plan p then leaves why.Word
        else does (effect.Give 8 (target_register (word_at files (place_ahead p 4))) (slot_value files plan p r o)))
        (tails p.section p.offset)

    one_role : (p : TextPlace) (r : RecordId) (kind : Kind) (f : FieldRole) (a b : Action) →
        IsRoleAction files plan one p r kind f a → IsRoleAction files plan other p r kind f b → a ≡ b
    one_role p r kind role.Barred a b h k = h ∙ sym k
    one_role p r kind role.PairAddress a b h k =
        one_done (IsPairCode files plan (not (may_cross files plan p)) p) _ a b
        (one_pair_code files plan p (not (may_cross files plan p))) h k
    one_role p r kind role.SlotAddress a b h k = h ∙ slot_same p r ∙ sym k
    one_role p r kind role.TocHigh a b h k = h ∙ sym k
    one_role p r kind role.TocLow a b h k = one_done (IsWordCode (word_at files p)) _ a b (one_code (word_at files p)) h k
    one_role p r kind role.TocSlot a b h k = one_load p r a b h k
    one_role p r kind role.PlaceAdjusted a b h k = h ∙ sym k
    one_role p r kind role.PlaceHigh a b h k = h ∙ sym k
    one_role p r kind role.PlaceSum a b h k = h ∙ sym k
    one_role p r kind role.PlaceOr a b h k = h ∙ sym k
    one_role p r kind role.Fixed a b h k =
        one_done (IsWordCode (filled_word files plan p r kind)) _ a b (one_code (filled_word files plan p r kind)) h k
    one_role p r kind role.Moving a b h k = h ∙ sym k

    one_standing : (p : TextPlace) (s : Standing) (a b : Action) → IsStandingAction files plan one p s a →
        IsStandingAction files plan other p s b → a ≡ b
    one_standing p standing.Outside a b h k = h ∙ sym k
    one_standing p standing.Word a b h k = one_done (IsOwnCode files plan p) _ a b (one_own_code files plan p) h k
    one_standing p standing.Touched a b h k = h ∙ sym k
    one_standing p (standing.Call site) a b h k = h ∙ sym k
    one_standing p (standing.Restore site) a b h k = h ∙ sym k
    one_standing p (standing.Entry form) a b h k = h ∙ sym k
    one_standing p standing.Base a b h k = h ∙ sym k
    one_standing p (standing.Access head) a b h k = one_done (IsWordCode (word_at files p)) _ a b (one_code (word_at files p)) h k
    one_standing p (standing.Field r kind) a b h k = one_role p r kind (role_at files plan p r kind) a b h k

    call_same : (o : Option RecordField) → call_by files plan.groups one o ≡ call_by files plan.groups other o
    call_same None = refl
    call_same (Some f) = refl

    saving_same : (o : Option CallSite) → saving files plan.groups one o ≡ saving files plan.groups other o
    saving_same None = refl
    saving_same (Some site) = refl

    before_case : (p : TextPlace) (late : Bool) →
        (if late then saving files plan.groups one (call_by files plan.groups one (field_at files (place_before p))) else None)
        ≡ (if late then saving files plan.groups other (call_by files plan.groups other (field_at files (place_before p))) else None)
    before_case p true =
        let o = field_at files (place_before p) in
        saving_same (call_by files plan.groups one o) ∙ ap (saving files plan.groups other) (call_same o)
    before_case p false = refl

    access_same : (o : Option ℕ) → access_by files plan.groups one o ≡ access_by files plan.groups other o
    access_same None = refl
    access_same (Some head) = refl

    restore_same : (p : TextPlace) (o : Option CallSite) → restore_by files plan.groups one p o ≡ restore_by files plan.groups other p o
    restore_same p None =
        access_same (head_at one p.section p.offset) ∙ ap (access_by files plan.groups other) (heads p.section p.offset)
    restore_same p (Some site) = refl

    begun_same : (p : TextPlace) (f : RecordField) (o : Option Kind) →
        begun_by files plan.groups one p f o ≡ begun_by files plan.groups other p f o
    begun_same p f None = refl
    begun_same p f (Some kind) = refl

    touched_same : (p : TextPlace) (o : Option RecordField) → touched_by files plan.groups one p o ≡ touched_by files plan.groups other p o
    touched_same p None = refl
    touched_same p (Some f) = begun_same p f (kind_numbered (facts_of (file_at files f.id.file) f).kind)

    fields_same : (p : TextPlace) (fields : List RecordField) →
        standing_by files plan.groups one p fields ≡ standing_by files plan.groups other p fields
    fields_same p [] =
        restore_same p (saving_before files plan.groups one p)
        ∙ ap (restore_by files plan.groups other p) (before_case p (nat_le 4 p.offset))
    fields_same p (f ∷ fields) = touched_same p (only_field p.offset (f ∷ fields))

    word_same : (p : TextPlace) (word : Bool) →
        (if word then standing_by files plan.groups one p (fields_at files p) else standing.Outside)
        ≡ (if word then standing_by files plan.groups other p (fields_at files p) else standing.Outside)
    word_same p true = fields_same p (fields_at files p)
    word_same p false = refl

    standing_same : (p : TextPlace) → standing_at files plan.groups one p ≡ standing_at files plan.groups other p
    standing_same p = word_same p (is_word files p)

    -- there is one action at a place
    pub one_action : (p : TextPlace) (a b : Action) → IsActionAt files plan one p a → IsActionAt files plan other p b → a ≡ b
    one_action p a b h k =
        one_standing p (standing_at files plan.groups one p) a b h
        (subst (λ (s : Standing). IsStandingAction files plan other p s b) (sym (standing_same p)) k)
