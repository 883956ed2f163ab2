-- The stubs: their sizes and their words.
use Rattle.std.specs.Prelude.{ℕ, ℤ, pos, ◌-ℤ◌, ◌+◌, ◌-◌, Bool, true, false, List, [], ◌∷◌, ◌++◌, length, replicate}
use Rattle.ppc_bytes.specs.Bytes.{InSigned}
use Rattle.ppc_bytes.specs.Halves.{low_of, lo, ha, d0, d1}
use Rattle.stub_kinds.specs.declared.class.Class.{Class}
use Rattle.stub_kinds.specs.declared.class.Class.TheVariants.{Same, Switch, Save, NearN, EntrySave, EntryBare, EntryN}

-- the bytes of a stub, near and far
abbrev pub size_of : Class → Bool → ℕ
size_of Same false = 0
size_of Same true = 16
size_of Switch false = 16
size_of Switch true = 32
size_of Save false = 16
size_of Save true = 32
size_of NearN false = 0
size_of NearN true = 16
size_of EntrySave far = 32
size_of EntryBare far = 16
size_of EntryN far = 16

-- nop, the word that fills what a stub leaves
abbrev pub nop : ℕ
nop = 0x6000_0000

-- std r2,24(r1): the caller's TOC base into its save slot
abbrev pub std_r2 : ℕ
std_r2 = 0xF841_0018

-- addis r12,r2 and addi r12,r12, each without its half
abbrev pub addis_r12_r2 : ℕ
addis_r12_r2 = 0x3D82_0000

abbrev pub addi_r12_r12 : ℕ
addi_r12_r12 = 0x398C_0000

-- addis r2,r2 and addi r2,r2, each without its half
abbrev pub addis_r2_r2 : ℕ
addis_r2_r2 = 0x3C42_0000

abbrev pub addi_r2_r2 : ℕ
addi_r2_r2 = 0x3842_0000

-- paddi r12,0,..,1, relative to its own address: the prefix and the suffix, each without its part
abbrev pub paddi_prefix : ℕ
paddi_prefix = 0x0610_0000

abbrev pub paddi_r12 : ℕ
paddi_r12 = 0x3980_0000

-- mtctr r12
abbrev pub mtctr_r12 : ℕ
mtctr_r12 = 0x7D89_03A6

-- bctr
abbrev pub bctr : ℕ
bctr = 0x4E80_0420

-- b, by a displacement from its own address
abbrev pub branch : ℤ → ℕ
branch displacement = 0x4800_0000 + low_of 26 displacement

-- to the place at r2 + x, whose address is left in r12
abbrev pub by_toc : ℤ → List ℕ
by_toc x = (addis_r12_r2 + ha x) ∷ (addi_r12_r12 + lo x) ∷ mtctr_r12 ∷ bctr ∷ []

-- to the place x past the first of these words, whose address is left in r12
abbrev pub by_distance : ℤ → List ℕ
by_distance x = (paddi_prefix + d0 x) ∷ (paddi_r12 + d1 x) ∷ mtctr_r12 ∷ bctr ∷ []

-- the words of a stub at an address that leads to a place, for a caller with the TOC base base and a callee with to_base
abbrev pub words_of : Class → Bool → ℕ → ℕ → ℕ → ℕ → List ℕ
words_of Same false at place base to_base = []
words_of Same true at place base to_base = by_toc (pos place -ℤ pos base)
words_of Switch false at place base to_base =
    let d = pos to_base -ℤ pos base in
    std_r2 ∷ (addis_r2_r2 + ha d) ∷ (addi_r2_r2 + lo d) ∷ branch (pos place -ℤ pos (at + 12)) ∷ []
words_of Switch true at place base to_base =
    let x = pos place -ℤ pos base in
    let d = pos to_base -ℤ pos base in
    std_r2 ∷ (addis_r12_r2 + ha x) ∷ (addi_r12_r12 + lo x) ∷ mtctr_r12
    ∷ (addis_r2_r2 + ha d) ∷ (addi_r2_r2 + lo d) ∷ bctr ∷ []
words_of Save false at place base to_base = std_r2 ∷ branch (pos place -ℤ pos (at + 4)) ∷ []
words_of Save true at place base to_base = std_r2 ∷ by_toc (pos place -ℤ pos base)
words_of NearN false at place base to_base = []
words_of NearN true at place base to_base = by_distance (pos place -ℤ pos at)
words_of EntrySave far at place base to_base = std_r2 ∷ by_toc (pos place -ℤ pos base)
words_of EntryBare far at place base to_base = by_toc (pos place -ℤ pos base)
words_of EntryN far at place base to_base = by_distance (pos place -ℤ pos at)

-- a stub's words and nops, eight in all
abbrev pub eight : List ℕ → List ℕ
eight words = words ++ replicate (8 - length words) nop

-- the branch of a near stub reaches its place
abbrev pub BranchReaches : Class → Bool → ℕ → ℕ → Type 0
BranchReaches Same far at place = Unit {0}
BranchReaches Switch false at place = InSigned 26 (pos place -ℤ pos (at + 12))
BranchReaches Switch true at place = Unit {0}
BranchReaches Save false at place = InSigned 26 (pos place -ℤ pos (at + 4))
BranchReaches Save true at place = Unit {0}
BranchReaches NearN far at place = Unit {0}
BranchReaches EntrySave far at place = Unit {0}
BranchReaches EntryBare far at place = Unit {0}
BranchReaches EntryN far at place = Unit {0}
