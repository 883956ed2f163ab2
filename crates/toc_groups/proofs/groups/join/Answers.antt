-- returns-then-file-open_group: the file joins the group. whole-requires: the slots of before are among those of now. returns: the file
-- begins the next group.
use Rattle.std.proofs.Common.{◌≡◌, ◌+◌, ℕ, suc, List, inl, inr, ap, subst, ◌∙◌, refl}
use Rattle.toc_groups.specs.inside.Numbered.{SlotList}
use Rattle.toc_groups.specs.inside.Open.{IsOpen, IsNumbered}
use Rattle.toc_groups.proofs.Grouping.{stays, before_fits, fills}
use Rattle.toc_groups.proofs.groups.join.Goals as goal
use Rattle.toc_groups.proofs.groups.join.Goals.{then-file-open_group-via-then-file-open_group, then-file-open_group-via-else-file-open_group+then-open_group-span}

pub returns-then-file-open_group : goal.returns-then-file-open_group
returns-then-file-open_group c =
    stays c.args.last.slots.files c.args.span c.args.file c.args.last.first c.add.new.self c.in_ok-row.row c.requires.first
    c.add.ensures.first c.in_ok-row.ensures.open_group c.in_ok-row.ensures.row
    (elim c.then-file-open_group.branch [
      | then-file-open_group-via-then-file-open_group w ↦ inl w.if-file-open_group.true
      | then-file-open_group-via-else-file-open_group+then-open_group-span w ↦ inr w.if-open_group-span.true
    ])

pub whole-requires : goal.whole-requires
whole-requires c =
    before_fits c.args.last.slots.files c.args.span c.args.file c.count-slots.result c.args.last c.add.new.self c.add.ensures.first
    c.requires.open_group c.in_ok-row.ensures.open_group c.count-slots.ensures

pub returns : goal.returns
returns c =
    let files = c.args.last.slots.files in
    let file = c.args.file in
    let now : c.add.new.self.slots.files ≡ files = ap (λ (l : SlotList). l.files) c.in_ok-row.ensures.open_group.slots in
    let next : c.in_ok-next.next.slots.files ≡ files =
    ap (λ (l : SlotList). l.files) c.in_ok-next.ensures.open_group.slots ∙ c.set.ensures ∙ now in
    let begun : IsOpen files (file + 1) c.add-2.new.self =
    subst (λ (f : List (List ℕ)). IsOpen f (file + 1) c.add-2.new.self) next c.in_ok-row-2.ensures.open_group in
    let first : c.in_ok-next.next.first ≡ file = c.in_ok-next.ensures.first in
    let row : (number n : ℕ) → file + n ≡ file → IsNumbered files (record { number = number; first = file; count = suc n }) file
    c.in_ok-row-2.row =
    λ number n at.
    subst (λ (f : List (List ℕ)). IsNumbered f (record { number = number; first = file; count = suc n }) file c.in_ok-row-2.row) next
    (subst (λ (x : ℕ). IsNumbered c.in_ok-next.next.slots.files (record { number = number; first = x; count = suc n }) file
    c.in_ok-row-2.row) first
    (c.in_ok-row-2.ensures.row number n (ap (λ (x : ℕ). x + n) first ∙ at))) in
    fills files c.args.span file c.add-2.new.self c.in_ok-row-2.row c.whole.result c.args.last c.add.new.self c.count-slots.result
    c.args.last.size c.requires.first c.add.ensures.first c.requires.open_group c.in_ok-row.ensures.open_group
    c.if-file-open_group.false c.if-open_group-span.false begun (c.add-2.ensures.first ∙ first) row c.count-slots.ensures refl
    c.whole.ensures.first c.whole.ensures.slots c.whole.ensures.size
