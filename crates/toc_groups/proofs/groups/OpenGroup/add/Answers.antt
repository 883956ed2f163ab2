-- add_file-requires: no symbol of the file has a slot. behind_slots-requires: slots are few, and ends low. returns: the group has the
-- file, and the numbers are those of its slots there.
use Rattle.std.proofs.Common.{◌≡◌, suc, ap, ◌∙◌, arith, refl}
use Rattle.std.specs.List.{list_any}
use Rattle.toc_groups.specs.Groups.{tocs_of}
use Rattle.toc_groups.specs.inside.Numbered.{SlotList, is_symbol}
use Rattle.toc_groups.proofs.Bounds.{tocs_fit}
use Rattle.toc_groups.proofs.Slotting.{next_new}
use Rattle.toc_groups.proofs.Adding.{more_slots, more_tocs, tocs_are_low, few_slots, opened_more, numbered_there}
use Rattle.toc_groups.proofs.groups.OpenGroup.add.Goals as goal

pub add_file-requires-clause-new : goal.add_file-requires-clause-new
add_file-requires-clause-new c = λ j.
    let self = c.args.self.now in
    let open_now = c.requires.open_group in
    ap (λ (l : SlotList). list_any (is_symbol c.args.file j) l.slots) open_now.slots
    ∙ next_new self.slots.files self.first open_now.count c.args.file open_now.end_is j

pub behind_slots-self-requires-clause-slots : goal.behind_slots-self-requires-clause-slots
behind_slots-self-requires-clause-slots c =
    let self = c.args.self.now in
    let open_now = c.requires.open_group in
    let slots = more_slots self.slots.files self.first open_now.count c.args.file self.slots c.add_file.new.self open_now.slots
    open_now.end_is c.in_ok-row.ensures.slots in
    few_slots self.slots.files self.first open_now.count c.args.file c.count.result c.add_file.new.self c.requires.whole
    open_now.end_is c.requires.file c.requires.few slots c.count.ensures

pub behind_slots-self-requires-clause-low : goal.behind_slots-self-requires-clause-low
behind_slots-self-requires-clause-low c =
    let self = c.args.self.now in
    let open_now = c.requires.open_group in
    let files : c.set.result.now ≡ self.slots.files =
    c.set.ensures ∙ ap (λ (l : SlotList). l.files) c.in_ok-row.ensures.slots in
    tocs_are_low self.slots.files self.first open_now.count c.args.file c.add_tocs.new.ends c.requires.whole open_now.end_is
    c.requires.file c.requires.few
    (more_tocs self.slots.files c.set.result.now self.first open_now.count c.args.file self.ends c.add_tocs.new.ends files
    open_now.end_is open_now.ends c.add_tocs.ensures)

pub returns-clause-open_group : goal.returns-clause-open_group
returns-clause-open_group c =
    let self = c.args.self.now in
    let open_now = c.requires.open_group in
    let slots = more_slots self.slots.files self.first open_now.count c.args.file self.slots c.add_file.new.self open_now.slots
    open_now.end_is c.in_ok-row.ensures.slots in
    let files : c.set.result.now ≡ self.slots.files =
    c.set.ensures ∙ ap (λ (l : SlotList). l.files) c.in_ok-row.ensures.slots in
    let ends = more_tocs self.slots.files c.set.result.now self.first open_now.count c.args.file self.ends c.add_tocs.new.ends files
    open_now.end_is open_now.ends c.add_tocs.ensures in
    let fit = tocs_fit self.slots.files self.first (suc open_now.count) c.requires.whole
    (omega (arith, open_now.end_is, c.requires.file)) in
    opened_more self.slots.files self.first open_now.count c.args.file c.count.result c.behind_slots-self.result c.add_file.new.self
    c.add_tocs.new.ends c.requires.whole open_now.end_is c.requires.file slots ends c.count.ensures
    (c.behind_slots-self.ensures (tocs_of self.slots.files self.first (suc open_now.count)) fit ends)

pub returns-clause-row : goal.returns-clause-row
returns-clause-row c = λ number n at.
    let self = c.args.self.now in
    let open_now = c.requires.open_group in
    let slots = more_slots self.slots.files self.first open_now.count c.args.file self.slots c.add_file.new.self open_now.slots
    open_now.end_is c.in_ok-row.ensures.slots in
    numbered_there self.slots.files self.first open_now.count n c.args.file number self.slots c.add_file.new.self c.in_ok-row.row refl
    open_now.end_is at slots c.in_ok-row.ensures
