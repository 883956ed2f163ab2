-- The role by what is read is that of the record, and each role's action is made.
use Rattle.std.proofs.Common.{◌≡◌, ℕ, subst, sym, ◌∙◌}
use Rattle.plain_machine.specs.declared.value.Part.TheVariants as part
use Rattle.plain_run.specs.declared.role.FieldRole.TheVariants as role
use Rattle.plain_run.specs.Effects.{IsDone, IsWordCode, code_action}
use Rattle.plain_run.specs.Places.{role_at}
use Rattle.plain_run.proofs.FieldActions.{by_role, half_given, high_made, job_second, pair_long, role_told, slot_is_named, slot_long, slot_named}
use Rattle.plain_run.proofs.text.PlainText.field_action.Goals as goal

pub pair_address_action-requires-clause-second : goal.pair_address_action-requires-clause-second
pair_address_action-requires-clause-second c =
    job_second _ c.args.self.now _ _ c.args.p c.args.id c.args.kind c.self.invariant.job_is c.self.view_is c.requires.word c.requires.field
    (pair_long c.word_at.result c.target_of-target.result c.is_some.result c.args.kind (sym c.role_of.ensures ∙ c.in-PairAddress.is))

pub slot_action-requires-clause-second : goal.slot_action-requires-clause-second
slot_action-requires-clause-second c =
    job_second _ c.args.self.now _ _ c.args.p c.args.id c.args.kind c.self.invariant.job_is c.self.view_is c.requires.word c.requires.field
    (slot_long c.word_at.result c.target_of-target.result c.is_some.result c.args.kind (sym c.role_of.ensures ∙ c.in-SlotAddress.is))

pub slot_load-requires-clause-there : goal.slot_load-requires-clause-there
slot_load-requires-clause-there c =
    sym (slot_named c.args.self.now.files c.args.self.now.plan c.args.id c.named_slot-slot.result c.named_slot-slot.ensures.some
    c.named_slot-slot.ensures.none)
    ∙ sym c.is_some.ensures
    ∙ slot_is_named c.word_at.result c.target_of-target.result c.is_some.result c.args.kind (sym c.role_of.ensures ∙ c.in-TocSlot.is)

pub filled_word-requires-clause-fixed : goal.filled_word-requires-clause-fixed
filled_word-requires-clause-fixed c =
    let files = c.args.self.now.files in
    let plan = c.args.self.now.plan in
    let p = c.args.p in
    let id = c.args.id in
    let told : c.role_of.result ≡ role_at files plan p id c.args.kind =
    role_told files plan p id c.args.kind c.word_at.result c.target_of-target.result c.named_slot-slot.result c.is_some.result
    c.role_of.result c.word_at.ensures c.target_of-target.ensures.target c.named_slot-slot.ensures.some c.named_slot-slot.ensures.none
    c.is_some.ensures c.role_of.ensures in
    sym told ∙ c.in-Fixed.is

pub returns-in-Barred-clause-done : goal.returns-in-Barred-clause-done
returns-in-Barred-clause-done c =
    let files = c.args.self.now.files in
    let plan = c.args.self.now.plan in
    let p = c.args.p in
    let id = c.args.id in
    let told : c.role_of.result ≡ role_at files plan p id c.args.kind =
    role_told files plan p id c.args.kind c.word_at.result c.target_of-target.result c.named_slot-slot.result c.is_some.result
    c.role_of.result c.word_at.ensures c.target_of-target.ensures.target c.named_slot-slot.ensures.some c.named_slot-slot.ensures.none
    c.is_some.ensures c.role_of.ensures in
    by_role files plan c.args.self.now.pairs p id c.args.kind c.role_of.result role.Barred c.leaves.result c.in-Barred.is told
    c.leaves.ensures.action

pub returns-in-PairAddress-clause-done : goal.returns-in-PairAddress-clause-done
returns-in-PairAddress-clause-done c =
    let files = c.args.self.now.files in
    let plan = c.args.self.now.plan in
    let p = c.args.p in
    let id = c.args.id in
    let told : c.role_of.result ≡ role_at files plan p id c.args.kind =
    role_told files plan p id c.args.kind c.word_at.result c.target_of-target.result c.named_slot-slot.result c.is_some.result
    c.role_of.result c.word_at.ensures c.target_of-target.ensures.target c.named_slot-slot.ensures.some c.named_slot-slot.ensures.none
    c.is_some.ensures c.role_of.ensures in
    by_role files plan c.args.self.now.pairs p id c.args.kind c.role_of.result role.PairAddress c.pair_address_action.result
    c.in-PairAddress.is told c.pair_address_action.ensures.done

pub returns-in-SlotAddress-clause-done : goal.returns-in-SlotAddress-clause-done
returns-in-SlotAddress-clause-done c =
    let files = c.args.self.now.files in
    let plan = c.args.self.now.plan in
    let p = c.args.p in
    let id = c.args.id in
    let told : c.role_of.result ≡ role_at files plan p id c.args.kind =
    role_told files plan p id c.args.kind c.word_at.result c.target_of-target.result c.named_slot-slot.result c.is_some.result
    c.role_of.result c.word_at.ensures c.target_of-target.ensures.target c.named_slot-slot.ensures.some c.named_slot-slot.ensures.none
    c.is_some.ensures c.role_of.ensures in
    by_role files plan c.args.self.now.pairs p id c.args.kind c.role_of.result role.SlotAddress c.slot_action.result
    c.in-SlotAddress.is told c.slot_action.ensures.action

pub returns-in-TocHigh-clause-done : goal.returns-in-TocHigh-clause-done
returns-in-TocHigh-clause-done c =
    let files = c.args.self.now.files in
    let plan = c.args.self.now.plan in
    let p = c.args.p in
    let id = c.args.id in
    let told : c.role_of.result ≡ role_at files plan p id c.args.kind =
    role_told files plan p id c.args.kind c.word_at.result c.target_of-target.result c.named_slot-slot.result c.is_some.result
    c.role_of.result c.word_at.ensures c.target_of-target.ensures.target c.named_slot-slot.ensures.some c.named_slot-slot.ensures.none
    c.is_some.ensures c.role_of.ensures in
    by_role files plan c.args.self.now.pairs p id c.args.kind c.role_of.result role.TocHigh c.toc_gives.result c.in-TocHigh.is told
    (high_made files plan p id c.args.kind c.toc_part.result c.toc_gives.result c.toc_gives.ensures.first c.toc_gives.ensures.second
    c.toc_gives.ensures.effect c.toc_part.ensures)

pub returns-in-TocLow-clause-done : goal.returns-in-TocLow-clause-done
returns-in-TocLow-clause-done c =
    let files = c.args.self.now.files in
    let plan = c.args.self.now.plan in
    let p = c.args.p in
    let id = c.args.id in
    let told : c.role_of.result ≡ role_at files plan p id c.args.kind =
    role_told files plan p id c.args.kind c.word_at.result c.target_of-target.result c.named_slot-slot.result c.is_some.result
    c.role_of.result c.word_at.ensures c.target_of-target.ensures.target c.named_slot-slot.ensures.some c.named_slot-slot.ensures.none
    c.is_some.ensures c.role_of.ensures in
    by_role files plan c.args.self.now.pairs p id c.args.kind c.role_of.result role.TocLow c.toc_low_action.result c.in-TocLow.is told
    c.toc_low_action.ensures.done

pub returns-in-TocSlot-clause-done : goal.returns-in-TocSlot-clause-done
returns-in-TocSlot-clause-done c =
    let files = c.args.self.now.files in
    let plan = c.args.self.now.plan in
    let p = c.args.p in
    let id = c.args.id in
    let told : c.role_of.result ≡ role_at files plan p id c.args.kind =
    role_told files plan p id c.args.kind c.word_at.result c.target_of-target.result c.named_slot-slot.result c.is_some.result
    c.role_of.result c.word_at.ensures c.target_of-target.ensures.target c.named_slot-slot.ensures.some c.named_slot-slot.ensures.none
    c.is_some.ensures c.role_of.ensures in
    by_role files plan c.args.self.now.pairs p id c.args.kind c.role_of.result role.TocSlot c.slot_load.result c.in-TocSlot.is told
    c.slot_load.ensures.load

pub returns-in-PlaceAdjusted-clause-done : goal.returns-in-PlaceAdjusted-clause-done
returns-in-PlaceAdjusted-clause-done c =
    let files = c.args.self.now.files in
    let plan = c.args.self.now.plan in
    let p = c.args.p in
    let id = c.args.id in
    let told : c.role_of.result ≡ role_at files plan p id c.args.kind =
    role_told files plan p id c.args.kind c.word_at.result c.target_of-target.result c.named_slot-slot.result c.is_some.result
    c.role_of.result c.word_at.ensures c.target_of-target.ensures.target c.named_slot-slot.ensures.some c.named_slot-slot.ensures.none
    c.is_some.ensures c.role_of.ensures in
    by_role files plan c.args.self.now.pairs p id c.args.kind c.role_of.result role.PlaceAdjusted c.does.result c.in-PlaceAdjusted.is told
    (half_given files plan p id part.Adjusted c.goal-goal.result c.place_of.result c.gives.result c.does.result c.goal-goal.ensures
    c.place_of.ensures c.gives.ensures.effect c.does.ensures.action)

pub returns-in-PlaceHigh-clause-done : goal.returns-in-PlaceHigh-clause-done
returns-in-PlaceHigh-clause-done c =
    let files = c.args.self.now.files in
    let plan = c.args.self.now.plan in
    let p = c.args.p in
    let id = c.args.id in
    let told : c.role_of.result ≡ role_at files plan p id c.args.kind =
    role_told files plan p id c.args.kind c.word_at.result c.target_of-target.result c.named_slot-slot.result c.is_some.result
    c.role_of.result c.word_at.ensures c.target_of-target.ensures.target c.named_slot-slot.ensures.some c.named_slot-slot.ensures.none
    c.is_some.ensures c.role_of.ensures in
    by_role files plan c.args.self.now.pairs p id c.args.kind c.role_of.result role.PlaceHigh c.does-in-PlaceHigh.result
    c.in-PlaceHigh.is told
    (half_given files plan p id part.High c.goal-goal.result c.place_of-in-PlaceHigh.result c.gives-in-PlaceHigh.result
    c.does-in-PlaceHigh.result c.goal-goal.ensures c.place_of-in-PlaceHigh.ensures c.gives-in-PlaceHigh.ensures.effect
    c.does-in-PlaceHigh.ensures.action)

pub returns-in-PlaceSum-clause-done : goal.returns-in-PlaceSum-clause-done
returns-in-PlaceSum-clause-done c =
    let files = c.args.self.now.files in
    let plan = c.args.self.now.plan in
    let p = c.args.p in
    let id = c.args.id in
    let told : c.role_of.result ≡ role_at files plan p id c.args.kind =
    role_told files plan p id c.args.kind c.word_at.result c.target_of-target.result c.named_slot-slot.result c.is_some.result
    c.role_of.result c.word_at.ensures c.target_of-target.ensures.target c.named_slot-slot.ensures.some c.named_slot-slot.ensures.none
    c.is_some.ensures c.role_of.ensures in
    by_role files plan c.args.self.now.pairs p id c.args.kind c.role_of.result role.PlaceSum c.place_sum_action.result c.in-PlaceSum.is told
    c.place_sum_action.ensures.action

pub returns-in-PlaceOr-clause-done : goal.returns-in-PlaceOr-clause-done
returns-in-PlaceOr-clause-done c =
    let files = c.args.self.now.files in
    let plan = c.args.self.now.plan in
    let p = c.args.p in
    let id = c.args.id in
    let told : c.role_of.result ≡ role_at files plan p id c.args.kind =
    role_told files plan p id c.args.kind c.word_at.result c.target_of-target.result c.named_slot-slot.result c.is_some.result
    c.role_of.result c.word_at.ensures c.target_of-target.ensures.target c.named_slot-slot.ensures.some c.named_slot-slot.ensures.none
    c.is_some.ensures c.role_of.ensures in
    by_role files plan c.args.self.now.pairs p id c.args.kind c.role_of.result role.PlaceOr c.place_or_action.result c.in-PlaceOr.is told
    c.place_or_action.ensures.action

pub returns-in-Fixed-clause-done : goal.returns-in-Fixed-clause-done
returns-in-Fixed-clause-done c =
    let files = c.args.self.now.files in
    let plan = c.args.self.now.plan in
    let p = c.args.p in
    let id = c.args.id in
    let told : c.role_of.result ≡ role_at files plan p id c.args.kind =
    role_told files plan p id c.args.kind c.word_at.result c.target_of-target.result c.named_slot-slot.result c.is_some.result
    c.role_of.result c.word_at.ensures c.target_of-target.ensures.target c.named_slot-slot.ensures.some c.named_slot-slot.ensures.none
    c.is_some.ensures c.role_of.ensures in
    by_role files plan c.args.self.now.pairs p id c.args.kind c.role_of.result role.Fixed c.word_action.result c.in-Fixed.is told
    (subst (λ (word : ℕ). IsDone (IsWordCode word) code_action c.word_action.result) c.filled_word.ensures c.word_action.ensures.done)

pub returns-in-Moving-clause-done : goal.returns-in-Moving-clause-done
returns-in-Moving-clause-done c =
    let files = c.args.self.now.files in
    let plan = c.args.self.now.plan in
    let p = c.args.p in
    let id = c.args.id in
    let told : c.role_of.result ≡ role_at files plan p id c.args.kind =
    role_told files plan p id c.args.kind c.word_at.result c.target_of-target.result c.named_slot-slot.result c.is_some.result
    c.role_of.result c.word_at.ensures c.target_of-target.ensures.target c.named_slot-slot.ensures.some c.named_slot-slot.ensures.none
    c.is_some.ensures c.role_of.ensures in
    by_role files plan c.args.self.now.pairs p id c.args.kind c.role_of.result role.Moving c.leaves-in-Moving.result c.in-Moving.is told
    c.leaves-in-Moving.ensures.action
