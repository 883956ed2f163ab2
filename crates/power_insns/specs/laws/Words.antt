-- The law that a word tells its instruction, a lemma for each form.
use Rattle.std.proofs.Common.{◌≡◌, ℕ, ℤ, Bool, rules}
use Rattle.power_insns.specs.declared.instruction.Insn.{Insn}
use Rattle.power_insns.specs.declared.instruction.Insn.TheVariants.{Mulli, Cmpli, Cmpi, Addi, Addis, Bc, Sc, B, Bclr, Bcctr, Rlwinm, Ori, Oris, Xori, Xoris, Andi, Andis, Rldicl, Rldicr, Lwz, Lbz, Lhz, Lha, Stw, Stb, Sth, Ld, Lwa, Std, Stdu, Cmp, Cmpl, Add, Subf, Neg, Mullw, Mulld, Divd, Divdu, And, Andc, Nor, Xor, Or, Slw, Srw, Sld, Srd, Extsb, Extsh, Extsw, Ldx, Lwzx, Lbzx, Lhzx, Lhax, Lwax, Stdx, Stwx, Stbx, Sthx, Mfspr, Mtspr}
use Rattle.power_insns.specs.Table.{word_of, Fits}

-- no other instruction has this one's word
abbrev IsAlone : Insn → Type 0
IsAlone x = (y : Insn) → Fits x → Fits y → word_of x ≡ word_of y → x ≡ y

alone-Mulli : (rt : ℕ) (ra : ℕ) (si : ℤ) → IsAlone (Mulli rt ra si)
alone-Mulli rt ra si y p q h = search rules

alone-Cmpli : (bf : ℕ) (l : Bool) (ra : ℕ) (ui : ℕ) → IsAlone (Cmpli bf l ra ui)
alone-Cmpli bf l ra ui y p q h = search rules

alone-Cmpi : (bf : ℕ) (l : Bool) (ra : ℕ) (si : ℤ) → IsAlone (Cmpi bf l ra si)
alone-Cmpi bf l ra si y p q h = search rules

alone-Addi : (rt : ℕ) (ra : ℕ) (si : ℤ) → IsAlone (Addi rt ra si)
alone-Addi rt ra si y p q h = search rules

alone-Addis : (rt : ℕ) (ra : ℕ) (si : ℤ) → IsAlone (Addis rt ra si)
alone-Addis rt ra si y p q h = search rules

alone-Bc : (bo : ℕ) (bi : ℕ) (bd : ℤ) (lk : Bool) → IsAlone (Bc bo bi bd lk)
alone-Bc bo bi bd lk y p q h = search rules

alone-Sc : IsAlone Sc
alone-Sc y p q h = search rules

alone-B : (li : ℤ) (lk : Bool) → IsAlone (B li lk)
alone-B li lk y p q h = search rules

alone-Bclr : (bo : ℕ) (bi : ℕ) (bh : ℕ) (lk : Bool) → IsAlone (Bclr bo bi bh lk)
alone-Bclr bo bi bh lk y p q h = search rules

alone-Bcctr : (bo : ℕ) (bi : ℕ) (bh : ℕ) (lk : Bool) → IsAlone (Bcctr bo bi bh lk)
alone-Bcctr bo bi bh lk y p q h = search rules

alone-Rlwinm : (rs : ℕ) (ra : ℕ) (sh : ℕ) (mb : ℕ) (me : ℕ) (rc : Bool) → IsAlone (Rlwinm rs ra sh mb me rc)
alone-Rlwinm rs ra sh mb me rc y p q h = search rules

alone-Ori : (rs : ℕ) (ra : ℕ) (ui : ℕ) → IsAlone (Ori rs ra ui)
alone-Ori rs ra ui y p q h = search rules

alone-Oris : (rs : ℕ) (ra : ℕ) (ui : ℕ) → IsAlone (Oris rs ra ui)
alone-Oris rs ra ui y p q h = search rules

alone-Xori : (rs : ℕ) (ra : ℕ) (ui : ℕ) → IsAlone (Xori rs ra ui)
alone-Xori rs ra ui y p q h = search rules

alone-Xoris : (rs : ℕ) (ra : ℕ) (ui : ℕ) → IsAlone (Xoris rs ra ui)
alone-Xoris rs ra ui y p q h = search rules

alone-Andi : (rs : ℕ) (ra : ℕ) (ui : ℕ) → IsAlone (Andi rs ra ui)
alone-Andi rs ra ui y p q h = search rules

alone-Andis : (rs : ℕ) (ra : ℕ) (ui : ℕ) → IsAlone (Andis rs ra ui)
alone-Andis rs ra ui y p q h = search rules

alone-Rldicl : (rs : ℕ) (ra : ℕ) (sh : ℕ) (mb : ℕ) (rc : Bool) → IsAlone (Rldicl rs ra sh mb rc)
alone-Rldicl rs ra sh mb rc y p q h = search rules

alone-Rldicr : (rs : ℕ) (ra : ℕ) (sh : ℕ) (me : ℕ) (rc : Bool) → IsAlone (Rldicr rs ra sh me rc)
alone-Rldicr rs ra sh me rc y p q h = search rules

alone-Lwz : (rt : ℕ) (ra : ℕ) (d : ℤ) → IsAlone (Lwz rt ra d)
alone-Lwz rt ra d y p q h = search rules

alone-Lbz : (rt : ℕ) (ra : ℕ) (d : ℤ) → IsAlone (Lbz rt ra d)
alone-Lbz rt ra d y p q h = search rules

alone-Lhz : (rt : ℕ) (ra : ℕ) (d : ℤ) → IsAlone (Lhz rt ra d)
alone-Lhz rt ra d y p q h = search rules

alone-Lha : (rt : ℕ) (ra : ℕ) (d : ℤ) → IsAlone (Lha rt ra d)
alone-Lha rt ra d y p q h = search rules

alone-Stw : (rs : ℕ) (ra : ℕ) (d : ℤ) → IsAlone (Stw rs ra d)
alone-Stw rs ra d y p q h = search rules

alone-Stb : (rs : ℕ) (ra : ℕ) (d : ℤ) → IsAlone (Stb rs ra d)
alone-Stb rs ra d y p q h = search rules

alone-Sth : (rs : ℕ) (ra : ℕ) (d : ℤ) → IsAlone (Sth rs ra d)
alone-Sth rs ra d y p q h = search rules

alone-Ld : (rt : ℕ) (ra : ℕ) (ds : ℤ) → IsAlone (Ld rt ra ds)
alone-Ld rt ra ds y p q h = search rules

alone-Lwa : (rt : ℕ) (ra : ℕ) (ds : ℤ) → IsAlone (Lwa rt ra ds)
alone-Lwa rt ra ds y p q h = search rules

alone-Std : (rs : ℕ) (ra : ℕ) (ds : ℤ) → IsAlone (Std rs ra ds)
alone-Std rs ra ds y p q h = search rules

alone-Stdu : (rs : ℕ) (ra : ℕ) (ds : ℤ) → IsAlone (Stdu rs ra ds)
alone-Stdu rs ra ds y p q h = search rules

alone-Cmp : (bf : ℕ) (l : Bool) (ra : ℕ) (rb : ℕ) → IsAlone (Cmp bf l ra rb)
alone-Cmp bf l ra rb y p q h = search rules

alone-Cmpl : (bf : ℕ) (l : Bool) (ra : ℕ) (rb : ℕ) → IsAlone (Cmpl bf l ra rb)
alone-Cmpl bf l ra rb y p q h = search rules

alone-Add : (rt : ℕ) (ra : ℕ) (rb : ℕ) (rc : Bool) → IsAlone (Add rt ra rb rc)
alone-Add rt ra rb rc y p q h = search rules

alone-Subf : (rt : ℕ) (ra : ℕ) (rb : ℕ) (rc : Bool) → IsAlone (Subf rt ra rb rc)
alone-Subf rt ra rb rc y p q h = search rules

alone-Neg : (rt : ℕ) (ra : ℕ) (rc : Bool) → IsAlone (Neg rt ra rc)
alone-Neg rt ra rc y p q h = search rules

alone-Mullw : (rt : ℕ) (ra : ℕ) (rb : ℕ) (rc : Bool) → IsAlone (Mullw rt ra rb rc)
alone-Mullw rt ra rb rc y p q h = search rules

alone-Mulld : (rt : ℕ) (ra : ℕ) (rb : ℕ) (rc : Bool) → IsAlone (Mulld rt ra rb rc)
alone-Mulld rt ra rb rc y p q h = search rules

alone-Divd : (rt : ℕ) (ra : ℕ) (rb : ℕ) (rc : Bool) → IsAlone (Divd rt ra rb rc)
alone-Divd rt ra rb rc y p q h = search rules

alone-Divdu : (rt : ℕ) (ra : ℕ) (rb : ℕ) (rc : Bool) → IsAlone (Divdu rt ra rb rc)
alone-Divdu rt ra rb rc y p q h = search rules

alone-And : (rs : ℕ) (ra : ℕ) (rb : ℕ) (rc : Bool) → IsAlone (And rs ra rb rc)
alone-And rs ra rb rc y p q h = search rules

alone-Andc : (rs : ℕ) (ra : ℕ) (rb : ℕ) (rc : Bool) → IsAlone (Andc rs ra rb rc)
alone-Andc rs ra rb rc y p q h = search rules

alone-Nor : (rs : ℕ) (ra : ℕ) (rb : ℕ) (rc : Bool) → IsAlone (Nor rs ra rb rc)
alone-Nor rs ra rb rc y p q h = search rules

alone-Xor : (rs : ℕ) (ra : ℕ) (rb : ℕ) (rc : Bool) → IsAlone (Xor rs ra rb rc)
alone-Xor rs ra rb rc y p q h = search rules

alone-Or : (rs : ℕ) (ra : ℕ) (rb : ℕ) (rc : Bool) → IsAlone (Or rs ra rb rc)
alone-Or rs ra rb rc y p q h = search rules

alone-Slw : (rs : ℕ) (ra : ℕ) (rb : ℕ) (rc : Bool) → IsAlone (Slw rs ra rb rc)
alone-Slw rs ra rb rc y p q h = search rules

alone-Srw : (rs : ℕ) (ra : ℕ) (rb : ℕ) (rc : Bool) → IsAlone (Srw rs ra rb rc)
alone-Srw rs ra rb rc y p q h = search rules

alone-Sld : (rs : ℕ) (ra : ℕ) (rb : ℕ) (rc : Bool) → IsAlone (Sld rs ra rb rc)
alone-Sld rs ra rb rc y p q h = search rules

alone-Srd : (rs : ℕ) (ra : ℕ) (rb : ℕ) (rc : Bool) → IsAlone (Srd rs ra rb rc)
alone-Srd rs ra rb rc y p q h = search rules

alone-Extsb : (rs : ℕ) (ra : ℕ) (rc : Bool) → IsAlone (Extsb rs ra rc)
alone-Extsb rs ra rc y p q h = search rules

alone-Extsh : (rs : ℕ) (ra : ℕ) (rc : Bool) → IsAlone (Extsh rs ra rc)
alone-Extsh rs ra rc y p q h = search rules

alone-Extsw : (rs : ℕ) (ra : ℕ) (rc : Bool) → IsAlone (Extsw rs ra rc)
alone-Extsw rs ra rc y p q h = search rules

alone-Ldx : (rt : ℕ) (ra : ℕ) (rb : ℕ) → IsAlone (Ldx rt ra rb)
alone-Ldx rt ra rb y p q h = search rules

alone-Lwzx : (rt : ℕ) (ra : ℕ) (rb : ℕ) → IsAlone (Lwzx rt ra rb)
alone-Lwzx rt ra rb y p q h = search rules

alone-Lbzx : (rt : ℕ) (ra : ℕ) (rb : ℕ) → IsAlone (Lbzx rt ra rb)
alone-Lbzx rt ra rb y p q h = search rules

alone-Lhzx : (rt : ℕ) (ra : ℕ) (rb : ℕ) → IsAlone (Lhzx rt ra rb)
alone-Lhzx rt ra rb y p q h = search rules

alone-Lhax : (rt : ℕ) (ra : ℕ) (rb : ℕ) → IsAlone (Lhax rt ra rb)
alone-Lhax rt ra rb y p q h = search rules

alone-Lwax : (rt : ℕ) (ra : ℕ) (rb : ℕ) → IsAlone (Lwax rt ra rb)
alone-Lwax rt ra rb y p q h = search rules

alone-Stdx : (rs : ℕ) (ra : ℕ) (rb : ℕ) → IsAlone (Stdx rs ra rb)
alone-Stdx rs ra rb y p q h = search rules

alone-Stwx : (rs : ℕ) (ra : ℕ) (rb : ℕ) → IsAlone (Stwx rs ra rb)
alone-Stwx rs ra rb y p q h = search rules

alone-Stbx : (rs : ℕ) (ra : ℕ) (rb : ℕ) → IsAlone (Stbx rs ra rb)
alone-Stbx rs ra rb y p q h = search rules

alone-Sthx : (rs : ℕ) (ra : ℕ) (rb : ℕ) → IsAlone (Sthx rs ra rb)
alone-Sthx rs ra rb y p q h = search rules

alone-Mfspr : (rt : ℕ) (spr : ℕ) → IsAlone (Mfspr rt spr)
alone-Mfspr rt spr y p q h = search rules

alone-Mtspr : (rs : ℕ) (spr : ℕ) → IsAlone (Mtspr rs spr)
alone-Mtspr rs spr y p q h = search rules

-- one word, one instruction
pub one_word : (x y : Insn) → Fits x → Fits y → word_of x ≡ word_of y → x ≡ y
one_word (Mulli rt ra si) = alone-Mulli rt ra si
one_word (Cmpli bf l ra ui) = alone-Cmpli bf l ra ui
one_word (Cmpi bf l ra si) = alone-Cmpi bf l ra si
one_word (Addi rt ra si) = alone-Addi rt ra si
one_word (Addis rt ra si) = alone-Addis rt ra si
one_word (Bc bo bi bd lk) = alone-Bc bo bi bd lk
one_word Sc = alone-Sc
one_word (B li lk) = alone-B li lk
one_word (Bclr bo bi bh lk) = alone-Bclr bo bi bh lk
one_word (Bcctr bo bi bh lk) = alone-Bcctr bo bi bh lk
one_word (Rlwinm rs ra sh mb me rc) = alone-Rlwinm rs ra sh mb me rc
one_word (Ori rs ra ui) = alone-Ori rs ra ui
one_word (Oris rs ra ui) = alone-Oris rs ra ui
one_word (Xori rs ra ui) = alone-Xori rs ra ui
one_word (Xoris rs ra ui) = alone-Xoris rs ra ui
one_word (Andi rs ra ui) = alone-Andi rs ra ui
one_word (Andis rs ra ui) = alone-Andis rs ra ui
one_word (Rldicl rs ra sh mb rc) = alone-Rldicl rs ra sh mb rc
one_word (Rldicr rs ra sh me rc) = alone-Rldicr rs ra sh me rc
one_word (Lwz rt ra d) = alone-Lwz rt ra d
one_word (Lbz rt ra d) = alone-Lbz rt ra d
one_word (Lhz rt ra d) = alone-Lhz rt ra d
one_word (Lha rt ra d) = alone-Lha rt ra d
one_word (Stw rs ra d) = alone-Stw rs ra d
one_word (Stb rs ra d) = alone-Stb rs ra d
one_word (Sth rs ra d) = alone-Sth rs ra d
one_word (Ld rt ra ds) = alone-Ld rt ra ds
one_word (Lwa rt ra ds) = alone-Lwa rt ra ds
one_word (Std rs ra ds) = alone-Std rs ra ds
one_word (Stdu rs ra ds) = alone-Stdu rs ra ds
one_word (Cmp bf l ra rb) = alone-Cmp bf l ra rb
one_word (Cmpl bf l ra rb) = alone-Cmpl bf l ra rb
one_word (Add rt ra rb rc) = alone-Add rt ra rb rc
one_word (Subf rt ra rb rc) = alone-Subf rt ra rb rc
one_word (Neg rt ra rc) = alone-Neg rt ra rc
one_word (Mullw rt ra rb rc) = alone-Mullw rt ra rb rc
one_word (Mulld rt ra rb rc) = alone-Mulld rt ra rb rc
one_word (Divd rt ra rb rc) = alone-Divd rt ra rb rc
one_word (Divdu rt ra rb rc) = alone-Divdu rt ra rb rc
one_word (And rs ra rb rc) = alone-And rs ra rb rc
one_word (Andc rs ra rb rc) = alone-Andc rs ra rb rc
one_word (Nor rs ra rb rc) = alone-Nor rs ra rb rc
one_word (Xor rs ra rb rc) = alone-Xor rs ra rb rc
one_word (Or rs ra rb rc) = alone-Or rs ra rb rc
one_word (Slw rs ra rb rc) = alone-Slw rs ra rb rc
one_word (Srw rs ra rb rc) = alone-Srw rs ra rb rc
one_word (Sld rs ra rb rc) = alone-Sld rs ra rb rc
one_word (Srd rs ra rb rc) = alone-Srd rs ra rb rc
one_word (Extsb rs ra rc) = alone-Extsb rs ra rc
one_word (Extsh rs ra rc) = alone-Extsh rs ra rc
one_word (Extsw rs ra rc) = alone-Extsw rs ra rc
one_word (Ldx rt ra rb) = alone-Ldx rt ra rb
one_word (Lwzx rt ra rb) = alone-Lwzx rt ra rb
one_word (Lbzx rt ra rb) = alone-Lbzx rt ra rb
one_word (Lhzx rt ra rb) = alone-Lhzx rt ra rb
one_word (Lhax rt ra rb) = alone-Lhax rt ra rb
one_word (Lwax rt ra rb) = alone-Lwax rt ra rb
one_word (Stdx rs ra rb) = alone-Stdx rs ra rb
one_word (Stwx rs ra rb) = alone-Stwx rs ra rb
one_word (Stbx rs ra rb) = alone-Stbx rs ra rb
one_word (Sthx rs ra rb) = alone-Sthx rs ra rb
one_word (Mfspr rt spr) = alone-Mfspr rt spr
one_word (Mtspr rs spr) = alone-Mtspr rs spr
