-- How records of TOC loads use foldable slots (ELFv2 ABI, 3.3 "TOC"). A slot is told by the distance from the TOC base to what it holds.
use Rattle.std.specs.Prelude.{ℕ, ℤ, Bool, true, false, ◌&&◌, ◌==◌, Option, None, Some, if◌then◌else◌}
use Rattle.reloc_fields.specs.declared.kind.Kind.{Kind}
use Rattle.reloc_fields.specs.declared.kind.Kind.TheVariants.{Toc16Ha, Toc16Lo, Toc16LoDs, Toc16Ds}
use Rattle.toc_rewrite.specs.declared.loads.TocRecord.{TocRecord}
use Rattle.toc_rewrite.specs.declared.words.TheConstants.{TOC_REGISTER}
use Rattle.toc_rewrite.specs.Words.{is_ld, base_register, is_small}

-- `ld` from the TOC base itself
abbrev pub is_toc_load : ℕ → Bool
is_toc_load word = is_ld word && base_register word == TOC_REGISTER

-- a record of this kind on this word is made of what a foldable slot holds, in place of the slot's address
abbrev pub takes_slot : Kind → ℕ → Bool
takes_slot Toc16Ha word = true
takes_slot Toc16LoDs word = true
takes_slot Toc16Ds word = is_toc_load word
takes_slot other word = false

-- the number of a record: from the TOC base to what the slot holds that it names, or else the record's own value
abbrev pub number_by : Kind → ℕ → ℤ → Option ℤ → ℤ
number_by kind word own None = own
number_by kind word own (Some distance) = if takes_slot kind word then distance else own

abbrev pub number_of : TocRecord → ℤ → ℤ
number_of r own = number_by r.kind r.word own r.slot

-- a load of what is at a distance: by two halves it reaches it always, by its one half where that is small
abbrev pub folds_by : Kind → ℕ → ℤ → Bool
folds_by Toc16LoDs word distance = is_ld word
folds_by Toc16Ds word distance = is_toc_load word && is_small distance
folds_by other word distance = false

abbrev pub folds_slot : Kind → ℕ → Option ℤ → Bool
folds_slot kind word None = false
folds_slot kind word (Some distance) = folds_by kind word distance

-- a folded `ld`: it makes the address that the slot holds, and loads nothing
abbrev pub is_folded_load : TocRecord → Bool
is_folded_load r = folds_slot r.kind r.word r.slot

-- a record's word is rewritten: one with a high or low half in an orderly file, and a folded `ld` from the TOC base
abbrev pub rewrites_word : Kind → Bool → Bool → Bool
rewrites_word Toc16Ha orderly folded = orderly
rewrites_word Toc16Lo orderly folded = orderly
rewrites_word Toc16LoDs orderly folded = orderly
rewrites_word Toc16Ds orderly folded = folded
rewrites_word other orderly folded = false

abbrev pub is_rewritten : TocRecord → Bool → Bool
is_rewritten r orderly = rewrites_word r.kind orderly (is_folded_load r)
