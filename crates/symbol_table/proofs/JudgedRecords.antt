-- Records of known kinds, their fields and their symbols.
use Rattle.std.proofs.Common.{◌≡◌, ◌≢◌, ◌<◌, ◌≤◌, ℕ, ◌+◌, ◌-◌, ltb, ℤ, zero, suc, true, false, List, None, subst, refl, arith}
use Rattle.std.proofs.lemmas.Bool.Decides.{nat_tests}
use Rattle.object_set.specs.declared.sort.Sort.{Sort}
use Rattle.object_set.specs.declared.sort.Sort.TheVariants.{Zeroed}
use Rattle.reloc_fields.specs.declared.kind.Kind.{Kind}
use Rattle.reloc_fields.specs.declared.kind.Kind.TheVariants as kind
use Rattle.reloc_fields.specs.Table.{line_of}
use Rattle.symbol_table.specs.Sites.{rule_of, admits, size_of}
use Rattle.symbol_table.specs.Targets.{target_of}

-- no more bytes of a field are looked at than it has
pub words_fit : (k : Kind) → size_of (rule_of k).words ≤ (line_of k).width
words_fit = elim [ kind.None ↦ omega arith | _ ↦ omega arith ]

zeroed_case : (k : Kind) → 0 < (line_of k).width → admits (rule_of k).stand Zeroed ≡ false
zeroed_case = elim [
  | kind.None ↦ λ fills. absurd (omega arith)
  | kind.Tocsave ↦ λ fills. absurd (omega arith)
  | kind.PcrelOpt ↦ λ fills. absurd (omega arith)
  | _ ↦ λ fills. refl
]

-- a field doesn't stand in a zeroed section
pub fills_stored : (k : Kind) (sort : Sort) → 0 < (line_of k).width → admits (rule_of k).stand sort ≡ true → sort ≢ Zeroed
fills_stored k sort fills stands zeroed =
    let there : admits (rule_of k).stand Zeroed ≡ true = subst (λ (s : Sort). admits (rule_of k).stand s ≡ true) zeroed stands in
    let not_there = zeroed_case k fills in
    cc

-- symbol 0 stands for something
pub nowhere_some : (files : List (List ℕ)) (file j : ℕ) (addend : ℤ) → target_of files file j addend ≡ None → 0 < j
nowhere_some files file zero addend none = cc
nowhere_some files file (suc j) addend none = omega arith

-- a field that doesn't pass the end
pub room_left : (size width start : ℕ) → width ≤ size → ltb (size - width) start ≡ false → start + width ≤ size
room_left size width start small inside = grind (arith, nat_tests, inside)
