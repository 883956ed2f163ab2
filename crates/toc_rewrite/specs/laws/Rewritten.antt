-- A record's word meets the condition of the rewriting.
use Rattle.std.proofs.Common.{◌≡◌, ℕ, Bool, true, false, ◌&&◌, Option, Some, None, sym, ap, ◌∙◌, subst, refl, if◌then◌else◌}
use Rattle.std.specs.Prelude.{ℤ, pos, ◌+ℤ◌, ◌==◌}
use Rattle.std.proofs.lemmas.Bool.{and_parts}
use Rattle.std.proofs.lemmas.Bool.Decides.{nat_tests}
use Rattle.std.proofs.Common.{arith}
use Rattle.ppc_bytes.specs.Bytes.{InSigned}
use Rattle.reloc_fields.specs.declared.kind.Kind.{Kind}
use Rattle.reloc_fields.specs.declared.kind.Kind.TheVariants.{Toc16Ha, Toc16Lo, Toc16LoDs, Toc16Ds}
use Rattle.reloc_fields.specs.Table.{line_of, Passes}
use Rattle.toc_rewrite.specs.declared.loads.TocRecord.{TocRecord}
use Rattle.toc_rewrite.specs.declared.words.TheConstants.{TOC_REGISTER}
use Rattle.toc_rewrite.specs.Words.{suits, only_loads, is_ld, base_register, is_small, IsRewritten}
use Rattle.toc_rewrite.specs.Uses.{is_toc_load, number_by, number_of, folds_slot, is_folded_load, rewrites_word, is_rewritten}

-- what a file and its foldable slots give for a record: an orderly file has suiting words alone; a slot that is named is only loaded, and
-- two halves reach what it holds; and the field holds the record's own value, unless the load is folded
pub record IsGiven (kind : Kind) (word : ℕ) (slot : Option ℤ) (own : ℤ) (orderly : Bool) : Type 0 where
  pub suits_it : orderly ≡ true → suits kind word ≡ true
  pub loads : (distance : ℤ) → slot ≡ Some distance → only_loads kind word ≡ true
  pub reach : (distance : ℤ) → slot ≡ Some distance → InSigned 32 (distance +ℤ pos 0x8000)
  pub checked : folds_slot kind word slot ≡ false → Passes (line_of kind).check own

abbrev MayRewrite : Kind → Type 0
MayRewrite kind =
    (word : ℕ) (slot : Option ℤ) (own : ℤ) (orderly : Bool) → IsGiven kind word slot own orderly →
    rewrites_word kind orderly (folds_slot kind word slot) ≡ true →
    IsRewritten kind word (number_by kind word own slot) (folds_slot kind word slot)

high_case : MayRewrite Toc16Ha
high_case word None own orderly given is = record { suits_it = given.suits_it is; reach = given.checked refl }
high_case word (Some distance) own orderly given is = record { suits_it = given.suits_it is; reach = given.reach distance refl }

low_case : MayRewrite Toc16Lo
low_case word None own orderly given is = record { suits_it = given.suits_it is; kept = refl }
low_case word (Some distance) own orderly given is = record { suits_it = given.suits_it is; kept = refl }

low_ds_case : MayRewrite Toc16LoDs
low_ds_case word None own orderly given is = record {
  suits_it = given.suits_it is;
  loads = λ folded. cc;
  whole = λ none. given.checked none;
}
low_ds_case word (Some distance) own orderly given is = record {
  suits_it = given.suits_it is;
  loads = λ folded. folded;
  whole = λ none. (let loads = given.loads distance refl in let never : true ≡ false = sym loads ∙ none in cc);
}

base_case : (ld : Bool) (register : ℕ) → (ld && register == TOC_REGISTER) ≡ true → (ld ≡ true) × (register ≡ TOC_REGISTER)
base_case true register is = (refl, grind (arith, nat_tests, is))
base_case false register is = cc

small_load_case : MayRewrite Toc16Ds
small_load_case word None own orderly given is = cc
small_load_case word (Some distance) own orderly given is =
    let both = and_parts (is_toc_load word) (is_small distance) is in
    let parts = base_case (is_ld word) (base_register word) both.0 in
    let number : distance ≡ (if is_toc_load word then distance else own) =
    ap (λ (b : Bool). if b then distance else own) (sym both.0) in
    record {
      loads = parts.0;
      from_toc = parts.1;
      fold = is;
      small = subst (λ (x : ℤ). is_small x ≡ true) number both.1;
    }

may_rewrite : (kind : Kind) → MayRewrite kind
may_rewrite = elim [
  | Toc16Ha ↦ high_case
  | Toc16Lo ↦ low_case
  | Toc16LoDs ↦ low_ds_case
  | Toc16Ds ↦ small_load_case
  | _ ↦ λ word slot own orderly given is. cc
]

-- a word that is rewritten may be, with the record's number
pub rewritten_may : (r : TocRecord) (own : ℤ) (orderly : Bool) → IsGiven r.kind r.word r.slot own orderly → is_rewritten r orderly ≡ true →
    IsRewritten r.kind r.word (number_of r own) (is_folded_load r)
rewritten_may r own orderly given is = may_rewrite r.kind r.word r.slot own orderly given is
