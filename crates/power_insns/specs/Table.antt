-- The layouts of the one-word instructions, a line each: the fields in order from bit 0, the most significant, each with its
-- number of bits and what it holds (Power ISA 3.1, book I, "Instruction Formats", and each instruction's own page).
-- Fixed bits are fields too, and bits that the manual reserves hold 0.
use Rattle.std.specs.Prelude.{◌≡◌, ℕ, ◌<◌, ◌/◌, ◌%◌, ◌^◌, ◌⊎◌, List, [], ◌∷◌}
use Rattle.power_insns.specs.Words.{Field, fld, word, flag, low_of, InSigned, IsDisplacement}
use Rattle.power_insns.specs.declared.instruction.Insn.{Insn}
use Rattle.power_insns.specs.declared.instruction.Insn.TheVariants.{Mulli, Cmpli, Cmpi, Addi, Addis, Bc, Sc, B, Bclr, Bcctr, Rlwinm, Ori, Oris, Xori, Xoris, Andi, Andis, Rldicl, Rldicr, Lwz, Lbz, Lhz, Lha, Stw, Stb, Sth, Ld, Lwa, Std, Stdu, Cmp, Cmpl, Add, Subf, Neg, Mullw, Mulld, Divd, Divdu, And, Andc, Nor, Xor, Or, Slw, Srw, Sld, Srd, Extsb, Extsh, Extsw, Ldx, Lwzx, Lbzx, Lhzx, Lhax, Lwax, Stdx, Stwx, Stbx, Sthx, Mfspr, Mtspr}

-- `li`, `bd` and `ds` count bytes and are multiples of 4: the word holds them without their last two bits. A shift count or mask
-- place of a doubleword has its top bit apart from its low five; the two halves of a special register's number are swapped.
abbrev pub fields : Insn → List Field
fields (Mulli rt ra si) = fld 6 7 ∷ fld 5 rt ∷ fld 5 ra ∷ fld 16 (low_of 16 si) ∷ []
fields (Cmpli bf l ra ui) = fld 6 10 ∷ fld 3 bf ∷ fld 1 0 ∷ fld 1 (flag l) ∷ fld 5 ra ∷ fld 16 ui ∷ []
fields (Cmpi bf l ra si) = fld 6 11 ∷ fld 3 bf ∷ fld 1 0 ∷ fld 1 (flag l) ∷ fld 5 ra ∷ fld 16 (low_of 16 si) ∷ []
fields (Addi rt ra si) = fld 6 14 ∷ fld 5 rt ∷ fld 5 ra ∷ fld 16 (low_of 16 si) ∷ []
fields (Addis rt ra si) = fld 6 15 ∷ fld 5 rt ∷ fld 5 ra ∷ fld 16 (low_of 16 si) ∷ []
fields (Bc bo bi bd lk) = fld 6 16 ∷ fld 5 bo ∷ fld 5 bi ∷ fld 14 (low_of 16 bd / 4) ∷ fld 1 0 ∷ fld 1 (flag lk) ∷ []
fields Sc = fld 6 17 ∷ fld 14 0 ∷ fld 7 0 ∷ fld 3 0 ∷ fld 1 1 ∷ fld 1 0 ∷ []
fields (B li lk) = fld 6 18 ∷ fld 24 (low_of 26 li / 4) ∷ fld 1 0 ∷ fld 1 (flag lk) ∷ []
fields (Bclr bo bi bh lk) = fld 6 19 ∷ fld 5 bo ∷ fld 5 bi ∷ fld 3 0 ∷ fld 2 bh ∷ fld 10 16 ∷ fld 1 (flag lk) ∷ []
fields (Bcctr bo bi bh lk) = fld 6 19 ∷ fld 5 bo ∷ fld 5 bi ∷ fld 3 0 ∷ fld 2 bh ∷ fld 10 528 ∷ fld 1 (flag lk) ∷ []
fields (Rlwinm rs ra sh mb me rc) = fld 6 21 ∷ fld 5 rs ∷ fld 5 ra ∷ fld 5 sh ∷ fld 5 mb ∷ fld 5 me ∷ fld 1 (flag rc) ∷ []
fields (Ori rs ra ui) = fld 6 24 ∷ fld 5 rs ∷ fld 5 ra ∷ fld 16 ui ∷ []
fields (Oris rs ra ui) = fld 6 25 ∷ fld 5 rs ∷ fld 5 ra ∷ fld 16 ui ∷ []
fields (Xori rs ra ui) = fld 6 26 ∷ fld 5 rs ∷ fld 5 ra ∷ fld 16 ui ∷ []
fields (Xoris rs ra ui) = fld 6 27 ∷ fld 5 rs ∷ fld 5 ra ∷ fld 16 ui ∷ []
fields (Andi rs ra ui) = fld 6 28 ∷ fld 5 rs ∷ fld 5 ra ∷ fld 16 ui ∷ []
fields (Andis rs ra ui) = fld 6 29 ∷ fld 5 rs ∷ fld 5 ra ∷ fld 16 ui ∷ []
fields (Rldicl rs ra sh mb rc) =
    fld 6 30 ∷ fld 5 rs ∷ fld 5 ra ∷ fld 5 (sh % 32) ∷ fld 5 (mb % 32) ∷ fld 1 (mb / 32) ∷ fld 3 0 ∷ fld 1 (sh / 32)
    ∷ fld 1 (flag rc) ∷ []
fields (Rldicr rs ra sh me rc) =
    fld 6 30 ∷ fld 5 rs ∷ fld 5 ra ∷ fld 5 (sh % 32) ∷ fld 5 (me % 32) ∷ fld 1 (me / 32) ∷ fld 3 1 ∷ fld 1 (sh / 32)
    ∷ fld 1 (flag rc) ∷ []
fields (Lwz rt ra d) = fld 6 32 ∷ fld 5 rt ∷ fld 5 ra ∷ fld 16 (low_of 16 d) ∷ []
fields (Lbz rt ra d) = fld 6 34 ∷ fld 5 rt ∷ fld 5 ra ∷ fld 16 (low_of 16 d) ∷ []
fields (Lhz rt ra d) = fld 6 40 ∷ fld 5 rt ∷ fld 5 ra ∷ fld 16 (low_of 16 d) ∷ []
fields (Lha rt ra d) = fld 6 42 ∷ fld 5 rt ∷ fld 5 ra ∷ fld 16 (low_of 16 d) ∷ []
fields (Stw rs ra d) = fld 6 36 ∷ fld 5 rs ∷ fld 5 ra ∷ fld 16 (low_of 16 d) ∷ []
fields (Stb rs ra d) = fld 6 38 ∷ fld 5 rs ∷ fld 5 ra ∷ fld 16 (low_of 16 d) ∷ []
fields (Sth rs ra d) = fld 6 44 ∷ fld 5 rs ∷ fld 5 ra ∷ fld 16 (low_of 16 d) ∷ []
fields (Ld rt ra ds) = fld 6 58 ∷ fld 5 rt ∷ fld 5 ra ∷ fld 14 (low_of 16 ds / 4) ∷ fld 2 0 ∷ []
fields (Lwa rt ra ds) = fld 6 58 ∷ fld 5 rt ∷ fld 5 ra ∷ fld 14 (low_of 16 ds / 4) ∷ fld 2 2 ∷ []
fields (Std rs ra ds) = fld 6 62 ∷ fld 5 rs ∷ fld 5 ra ∷ fld 14 (low_of 16 ds / 4) ∷ fld 2 0 ∷ []
fields (Stdu rs ra ds) = fld 6 62 ∷ fld 5 rs ∷ fld 5 ra ∷ fld 14 (low_of 16 ds / 4) ∷ fld 2 1 ∷ []
fields (Cmp bf l ra rb) = fld 6 31 ∷ fld 3 bf ∷ fld 1 0 ∷ fld 1 (flag l) ∷ fld 5 ra ∷ fld 5 rb ∷ fld 10 0 ∷ fld 1 0 ∷ []
fields (Cmpl bf l ra rb) = fld 6 31 ∷ fld 3 bf ∷ fld 1 0 ∷ fld 1 (flag l) ∷ fld 5 ra ∷ fld 5 rb ∷ fld 10 32 ∷ fld 1 0 ∷ []
fields (Add rt ra rb rc) = fld 6 31 ∷ fld 5 rt ∷ fld 5 ra ∷ fld 5 rb ∷ fld 10 266 ∷ fld 1 (flag rc) ∷ []
fields (Subf rt ra rb rc) = fld 6 31 ∷ fld 5 rt ∷ fld 5 ra ∷ fld 5 rb ∷ fld 10 40 ∷ fld 1 (flag rc) ∷ []
fields (Neg rt ra rc) = fld 6 31 ∷ fld 5 rt ∷ fld 5 ra ∷ fld 5 0 ∷ fld 10 104 ∷ fld 1 (flag rc) ∷ []
fields (Mullw rt ra rb rc) = fld 6 31 ∷ fld 5 rt ∷ fld 5 ra ∷ fld 5 rb ∷ fld 10 235 ∷ fld 1 (flag rc) ∷ []
fields (Mulld rt ra rb rc) = fld 6 31 ∷ fld 5 rt ∷ fld 5 ra ∷ fld 5 rb ∷ fld 10 233 ∷ fld 1 (flag rc) ∷ []
fields (Divd rt ra rb rc) = fld 6 31 ∷ fld 5 rt ∷ fld 5 ra ∷ fld 5 rb ∷ fld 10 489 ∷ fld 1 (flag rc) ∷ []
fields (Divdu rt ra rb rc) = fld 6 31 ∷ fld 5 rt ∷ fld 5 ra ∷ fld 5 rb ∷ fld 10 457 ∷ fld 1 (flag rc) ∷ []
fields (And rs ra rb rc) = fld 6 31 ∷ fld 5 rs ∷ fld 5 ra ∷ fld 5 rb ∷ fld 10 28 ∷ fld 1 (flag rc) ∷ []
fields (Andc rs ra rb rc) = fld 6 31 ∷ fld 5 rs ∷ fld 5 ra ∷ fld 5 rb ∷ fld 10 60 ∷ fld 1 (flag rc) ∷ []
fields (Nor rs ra rb rc) = fld 6 31 ∷ fld 5 rs ∷ fld 5 ra ∷ fld 5 rb ∷ fld 10 124 ∷ fld 1 (flag rc) ∷ []
fields (Xor rs ra rb rc) = fld 6 31 ∷ fld 5 rs ∷ fld 5 ra ∷ fld 5 rb ∷ fld 10 316 ∷ fld 1 (flag rc) ∷ []
fields (Or rs ra rb rc) = fld 6 31 ∷ fld 5 rs ∷ fld 5 ra ∷ fld 5 rb ∷ fld 10 444 ∷ fld 1 (flag rc) ∷ []
fields (Slw rs ra rb rc) = fld 6 31 ∷ fld 5 rs ∷ fld 5 ra ∷ fld 5 rb ∷ fld 10 24 ∷ fld 1 (flag rc) ∷ []
fields (Srw rs ra rb rc) = fld 6 31 ∷ fld 5 rs ∷ fld 5 ra ∷ fld 5 rb ∷ fld 10 536 ∷ fld 1 (flag rc) ∷ []
fields (Sld rs ra rb rc) = fld 6 31 ∷ fld 5 rs ∷ fld 5 ra ∷ fld 5 rb ∷ fld 10 27 ∷ fld 1 (flag rc) ∷ []
fields (Srd rs ra rb rc) = fld 6 31 ∷ fld 5 rs ∷ fld 5 ra ∷ fld 5 rb ∷ fld 10 539 ∷ fld 1 (flag rc) ∷ []
fields (Extsb rs ra rc) = fld 6 31 ∷ fld 5 rs ∷ fld 5 ra ∷ fld 5 0 ∷ fld 10 954 ∷ fld 1 (flag rc) ∷ []
fields (Extsh rs ra rc) = fld 6 31 ∷ fld 5 rs ∷ fld 5 ra ∷ fld 5 0 ∷ fld 10 922 ∷ fld 1 (flag rc) ∷ []
fields (Extsw rs ra rc) = fld 6 31 ∷ fld 5 rs ∷ fld 5 ra ∷ fld 5 0 ∷ fld 10 986 ∷ fld 1 (flag rc) ∷ []
fields (Ldx rt ra rb) = fld 6 31 ∷ fld 5 rt ∷ fld 5 ra ∷ fld 5 rb ∷ fld 10 21 ∷ fld 1 0 ∷ []
fields (Lwzx rt ra rb) = fld 6 31 ∷ fld 5 rt ∷ fld 5 ra ∷ fld 5 rb ∷ fld 10 23 ∷ fld 1 0 ∷ []
fields (Lbzx rt ra rb) = fld 6 31 ∷ fld 5 rt ∷ fld 5 ra ∷ fld 5 rb ∷ fld 10 87 ∷ fld 1 0 ∷ []
fields (Lhzx rt ra rb) = fld 6 31 ∷ fld 5 rt ∷ fld 5 ra ∷ fld 5 rb ∷ fld 10 279 ∷ fld 1 0 ∷ []
fields (Lhax rt ra rb) = fld 6 31 ∷ fld 5 rt ∷ fld 5 ra ∷ fld 5 rb ∷ fld 10 343 ∷ fld 1 0 ∷ []
fields (Lwax rt ra rb) = fld 6 31 ∷ fld 5 rt ∷ fld 5 ra ∷ fld 5 rb ∷ fld 10 341 ∷ fld 1 0 ∷ []
fields (Stdx rs ra rb) = fld 6 31 ∷ fld 5 rs ∷ fld 5 ra ∷ fld 5 rb ∷ fld 10 149 ∷ fld 1 0 ∷ []
fields (Stwx rs ra rb) = fld 6 31 ∷ fld 5 rs ∷ fld 5 ra ∷ fld 5 rb ∷ fld 10 151 ∷ fld 1 0 ∷ []
fields (Stbx rs ra rb) = fld 6 31 ∷ fld 5 rs ∷ fld 5 ra ∷ fld 5 rb ∷ fld 10 215 ∷ fld 1 0 ∷ []
fields (Sthx rs ra rb) = fld 6 31 ∷ fld 5 rs ∷ fld 5 ra ∷ fld 5 rb ∷ fld 10 407 ∷ fld 1 0 ∷ []
fields (Mfspr rt spr) = fld 6 31 ∷ fld 5 rt ∷ fld 5 (spr % 32) ∷ fld 5 (spr / 32) ∷ fld 10 339 ∷ fld 1 0 ∷ []
fields (Mtspr rs spr) = fld 6 31 ∷ fld 5 rs ∷ fld 5 (spr % 32) ∷ fld 5 (spr / 32) ∷ fld 10 467 ∷ fld 1 0 ∷ []

-- the word of an instruction
abbrev pub word_of : Insn → ℕ
word_of i = word (fields i)

-- each field fits its bits, and the conditions of the instruction hold: `stdu` has no RA = 0 and `bcctr` lowers no counter, as
-- such forms are invalid; of the special registers only LR (8) and CTR (9) are named
abbrev pub Fits : Insn → Type 0
Fits (Mulli rt ra si) = (rt < 32) × (ra < 32) × InSigned 16 si
Fits (Cmpli bf l ra ui) = (bf < 8) × (ra < 32) × (ui < 2 ^ 16)
Fits (Cmpi bf l ra si) = (bf < 8) × (ra < 32) × InSigned 16 si
Fits (Addi rt ra si) = (rt < 32) × (ra < 32) × InSigned 16 si
Fits (Addis rt ra si) = (rt < 32) × (ra < 32) × InSigned 16 si
Fits (Bc bo bi bd lk) = (bo < 32) × (bi < 32) × IsDisplacement 16 bd
Fits Sc = Unit {0}
Fits (B li lk) = IsDisplacement 26 li
Fits (Bclr bo bi bh lk) = (bo < 32) × (bi < 32) × (bh < 4)
Fits (Bcctr bo bi bh lk) = (bo < 32) × (bi < 32) × (bh < 4) × (bo / 4 % 2 ≡ 1)
Fits (Rlwinm rs ra sh mb me rc) = (rs < 32) × (ra < 32) × (sh < 32) × (mb < 32) × (me < 32)
Fits (Ori rs ra ui) = (rs < 32) × (ra < 32) × (ui < 2 ^ 16)
Fits (Oris rs ra ui) = (rs < 32) × (ra < 32) × (ui < 2 ^ 16)
Fits (Xori rs ra ui) = (rs < 32) × (ra < 32) × (ui < 2 ^ 16)
Fits (Xoris rs ra ui) = (rs < 32) × (ra < 32) × (ui < 2 ^ 16)
Fits (Andi rs ra ui) = (rs < 32) × (ra < 32) × (ui < 2 ^ 16)
Fits (Andis rs ra ui) = (rs < 32) × (ra < 32) × (ui < 2 ^ 16)
Fits (Rldicl rs ra sh mb rc) = (rs < 32) × (ra < 32) × (sh < 64) × (mb < 64)
Fits (Rldicr rs ra sh me rc) = (rs < 32) × (ra < 32) × (sh < 64) × (me < 64)
Fits (Lwz rt ra d) = (rt < 32) × (ra < 32) × InSigned 16 d
Fits (Lbz rt ra d) = (rt < 32) × (ra < 32) × InSigned 16 d
Fits (Lhz rt ra d) = (rt < 32) × (ra < 32) × InSigned 16 d
Fits (Lha rt ra d) = (rt < 32) × (ra < 32) × InSigned 16 d
Fits (Stw rs ra d) = (rs < 32) × (ra < 32) × InSigned 16 d
Fits (Stb rs ra d) = (rs < 32) × (ra < 32) × InSigned 16 d
Fits (Sth rs ra d) = (rs < 32) × (ra < 32) × InSigned 16 d
Fits (Ld rt ra ds) = (rt < 32) × (ra < 32) × IsDisplacement 16 ds
Fits (Lwa rt ra ds) = (rt < 32) × (ra < 32) × IsDisplacement 16 ds
Fits (Std rs ra ds) = (rs < 32) × (ra < 32) × IsDisplacement 16 ds
Fits (Stdu rs ra ds) = (rs < 32) × (ra < 32) × IsDisplacement 16 ds × (0 < ra)
Fits (Cmp bf l ra rb) = (bf < 8) × (ra < 32) × (rb < 32)
Fits (Cmpl bf l ra rb) = (bf < 8) × (ra < 32) × (rb < 32)
Fits (Add rt ra rb rc) = (rt < 32) × (ra < 32) × (rb < 32)
Fits (Subf rt ra rb rc) = (rt < 32) × (ra < 32) × (rb < 32)
Fits (Neg rt ra rc) = (rt < 32) × (ra < 32)
Fits (Mullw rt ra rb rc) = (rt < 32) × (ra < 32) × (rb < 32)
Fits (Mulld rt ra rb rc) = (rt < 32) × (ra < 32) × (rb < 32)
Fits (Divd rt ra rb rc) = (rt < 32) × (ra < 32) × (rb < 32)
Fits (Divdu rt ra rb rc) = (rt < 32) × (ra < 32) × (rb < 32)
Fits (And rs ra rb rc) = (rs < 32) × (ra < 32) × (rb < 32)
Fits (Andc rs ra rb rc) = (rs < 32) × (ra < 32) × (rb < 32)
Fits (Nor rs ra rb rc) = (rs < 32) × (ra < 32) × (rb < 32)
Fits (Xor rs ra rb rc) = (rs < 32) × (ra < 32) × (rb < 32)
Fits (Or rs ra rb rc) = (rs < 32) × (ra < 32) × (rb < 32)
Fits (Slw rs ra rb rc) = (rs < 32) × (ra < 32) × (rb < 32)
Fits (Srw rs ra rb rc) = (rs < 32) × (ra < 32) × (rb < 32)
Fits (Sld rs ra rb rc) = (rs < 32) × (ra < 32) × (rb < 32)
Fits (Srd rs ra rb rc) = (rs < 32) × (ra < 32) × (rb < 32)
Fits (Extsb rs ra rc) = (rs < 32) × (ra < 32)
Fits (Extsh rs ra rc) = (rs < 32) × (ra < 32)
Fits (Extsw rs ra rc) = (rs < 32) × (ra < 32)
Fits (Ldx rt ra rb) = (rt < 32) × (ra < 32) × (rb < 32)
Fits (Lwzx rt ra rb) = (rt < 32) × (ra < 32) × (rb < 32)
Fits (Lbzx rt ra rb) = (rt < 32) × (ra < 32) × (rb < 32)
Fits (Lhzx rt ra rb) = (rt < 32) × (ra < 32) × (rb < 32)
Fits (Lhax rt ra rb) = (rt < 32) × (ra < 32) × (rb < 32)
Fits (Lwax rt ra rb) = (rt < 32) × (ra < 32) × (rb < 32)
Fits (Stdx rs ra rb) = (rs < 32) × (ra < 32) × (rb < 32)
Fits (Stwx rs ra rb) = (rs < 32) × (ra < 32) × (rb < 32)
Fits (Stbx rs ra rb) = (rs < 32) × (ra < 32) × (rb < 32)
Fits (Sthx rs ra rb) = (rs < 32) × (ra < 32) × (rb < 32)
Fits (Mfspr rt spr) = (rt < 32) × ((spr ≡ 8) ⊎ (spr ≡ 9))
Fits (Mtspr rs spr) = (rs < 32) × ((spr ≡ 8) ⊎ (spr ≡ 9))
