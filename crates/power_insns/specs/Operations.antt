-- What each one-word instruction does, a line each, as an operation (Power ISA 3.1, book I, chapters "Branch Facility" and
-- "Fixed-Point Facility", each instruction's page).
use Rattle.std.specs.Prelude.{ℕ, pos, ◌+◌, ◌*◌, ◌*ℤ◌, ◌/◌, ◌%◌, ◌^◌, ◌<◌, Bool, true, false, ◌&&◌, ◌==◌, nat_lt, if◌then◌else◌, Option, Some, None}
use Rattle.power_insns.specs.declared.meaning.Width.{Width}
use Rattle.power_insns.specs.declared.meaning.Width.TheVariants.{Byte, Half, Word, Long}
use Rattle.power_insns.specs.declared.meaning.Sign.TheVariants.{Unsigned, Signed}
use Rattle.power_insns.specs.declared.meaning.Operand.{Operand}
use Rattle.power_insns.specs.declared.meaning.Operand.TheVariants.{Register, Fixed, Here}
use Rattle.power_insns.specs.declared.meaning.Function.{Function}
use Rattle.power_insns.specs.declared.meaning.Function.TheVariants.{Sum, RegisterSum, Difference, Product, WordProduct, BitAnd, BitAndNot, BitOr, BitNotOr, BitXor, ShiftWordLeft, ShiftWordRight, ShiftLeft, ShiftRight, Extend, Rotate, RotateWord}
use Rattle.power_insns.specs.declared.meaning.Counter.{Counter}
use Rattle.power_insns.specs.declared.meaning.Counter.TheVariants.{Kept, Lowered}
use Rattle.power_insns.specs.declared.meaning.Condition.{Condition}
use Rattle.power_insns.specs.declared.meaning.Condition.TheVariants.{Always, Bit}
use Rattle.power_insns.specs.declared.meaning.BranchTarget.{BranchTarget}
use Rattle.power_insns.specs.declared.meaning.BranchTarget.TheVariants.{Ahead, Through}
use Rattle.power_insns.specs.declared.meaning.Operation.{Operation}
use Rattle.power_insns.specs.declared.meaning.Operation.TheVariants.{Copy, Calculate, Divide, Compare, Load, Store, Branch, System}
use Rattle.power_insns.specs.declared.instruction.Insn.{Insn}
use Rattle.power_insns.specs.declared.instruction.Insn.TheVariants.{Mulli, Cmpli, Cmpi, Addi, Addis, Bc, Sc, B, Bclr, Bcctr, Rlwinm, Ori, Oris, Xori, Xoris, Andi, Andis, Rldicl, Rldicr, Lwz, Lbz, Lhz, Lha, Stw, Stb, Sth, Ld, Lwa, Std, Stdu, Cmp, Cmpl, Add, Subf, Neg, Mullw, Mulld, Divd, Divdu, And, Andc, Nor, Xor, Or, Slw, Srw, Sld, Srd, Extsb, Extsh, Extsw, Ldx, Lwzx, Lbzx, Lhzx, Lhax, Lwax, Stdx, Stwx, Stbx, Sthx, Mfspr, Mtspr}
use Rattle.power_insns.specs.Arithmetic.{extended, mask}

-- LR and CTR among the registers, behind r0 to r31
abbrev pub link_register : ℕ
link_register = 32

abbrev pub count_register : ℕ
count_register = 33

-- special register 8 is LR, 9 is CTR
abbrev pub special_register : ℕ → ℕ
special_register spr = if spr == 8 then link_register else count_register

-- (RA|0)
abbrev pub or_zero : ℕ → Operand
or_zero ra = if ra == 0 then Fixed 0 else Register ra

-- `addi`: (RA|0) + n, which copies RA where RA isn't 0 and n is
abbrev pub sum_or_copy : ℕ → ℕ → ℕ → Operation
sum_or_copy rt ra n = if nat_lt 0 ra && n == 0 then Copy rt (Register ra) false else Calculate Sum rt (or_zero ra) (Fixed n) false

-- `ori`: RS or n, which copies RS where n is 0
abbrev pub or_or_copy : ℕ → ℕ → ℕ → Operation
or_or_copy ra rs n = if n == 0 then Copy ra (Register rs) false else Calculate BitOr ra (Register rs) (Fixed n) false

-- `or`: RS or RB, which copies RS where they are one register
abbrev pub register_or : ℕ → ℕ → ℕ → Bool → Operation
register_or ra rs rb rc = if rs == rb then Copy ra (Register rs) rc else Calculate BitOr ra (Register rs) (Register rb) rc

-- `add`: a function of its own, by which alone a run over other values than numbers may make a place of code; `add.` is a sum like any
-- other
abbrev pub sum_of_registers : Bool → Function
sum_of_registers true = Sum
sum_of_registers false = RegisterSum

-- L chooses 64 bits or the low 32
abbrev pub compared_width : Bool → Width
compared_width true = Long
compared_width false = Word

-- BO: its bits are worth 16, 8, 4, 2, 1 (book I, "Branch Instructions"). Where the third is 0 CTR is lowered, and the fourth
-- says whether it is then to be zero. Where the first is 0 the bit BI of CR is to be as the second says.
abbrev pub counter_of : ℕ → Counter
counter_of bo = if bo / 4 % 2 == 1 then Kept else Lowered (bo / 2 % 2 == 1)

abbrev pub condition_of : ℕ → ℕ → Condition
condition_of bo bi = if bo / 16 % 2 == 1 then Always else Bit bi (bo / 8 % 2 == 1)

-- the table
abbrev pub operation_of : Insn → Operation
operation_of (Mulli rt ra si) = Calculate Product rt (Register ra) (Fixed (extended si)) false
operation_of (Cmpli bf l ra ui) = Compare bf (compared_width l) Unsigned (Register ra) (Fixed ui)
operation_of (Cmpi bf l ra si) = Compare bf (compared_width l) Signed (Register ra) (Fixed (extended si))
operation_of (Addi rt ra si) = sum_or_copy rt ra (extended si)
operation_of (Addis rt ra si) = Calculate Sum rt (or_zero ra) (Fixed (extended (si *ℤ pos (2 ^ 16)))) false
operation_of (Bc bo bi bd lk) = Branch (counter_of bo) (condition_of bo bi) (Ahead (extended bd)) lk
operation_of Sc = System
operation_of (B li lk) = Branch Kept Always (Ahead (extended li)) lk
operation_of (Bclr bo bi bh lk) = Branch (counter_of bo) (condition_of bo bi) (Through link_register) lk
operation_of (Bcctr bo bi bh lk) = Branch (counter_of bo) (condition_of bo bi) (Through count_register) lk
operation_of (Rlwinm rs ra sh mb me rc) = Calculate (RotateWord sh) ra (Register rs) (Fixed (mask (mb + 32) (me + 32))) rc
operation_of (Ori rs ra ui) = or_or_copy ra rs ui
operation_of (Oris rs ra ui) = Calculate BitOr ra (Register rs) (Fixed (ui * 2 ^ 16)) false
operation_of (Xori rs ra ui) = Calculate BitXor ra (Register rs) (Fixed ui) false
operation_of (Xoris rs ra ui) = Calculate BitXor ra (Register rs) (Fixed (ui * 2 ^ 16)) false
operation_of (Andi rs ra ui) = Calculate BitAnd ra (Register rs) (Fixed ui) true
operation_of (Andis rs ra ui) = Calculate BitAnd ra (Register rs) (Fixed (ui * 2 ^ 16)) true
operation_of (Rldicl rs ra sh mb rc) = Calculate (Rotate sh) ra (Register rs) (Fixed (mask mb 63)) rc
operation_of (Rldicr rs ra sh me rc) = Calculate (Rotate sh) ra (Register rs) (Fixed (mask 0 me)) rc
operation_of (Lwz rt ra d) = Load Word Unsigned rt (or_zero ra) (Fixed (extended d))
operation_of (Lbz rt ra d) = Load Byte Unsigned rt (or_zero ra) (Fixed (extended d))
operation_of (Lhz rt ra d) = Load Half Unsigned rt (or_zero ra) (Fixed (extended d))
operation_of (Lha rt ra d) = Load Half Signed rt (or_zero ra) (Fixed (extended d))
operation_of (Stw rs ra d) = Store Word rs (or_zero ra) (Fixed (extended d)) None
operation_of (Stb rs ra d) = Store Byte rs (or_zero ra) (Fixed (extended d)) None
operation_of (Sth rs ra d) = Store Half rs (or_zero ra) (Fixed (extended d)) None
operation_of (Ld rt ra ds) = Load Long Unsigned rt (or_zero ra) (Fixed (extended ds))
operation_of (Lwa rt ra ds) = Load Word Signed rt (or_zero ra) (Fixed (extended ds))
operation_of (Std rs ra ds) = Store Long rs (or_zero ra) (Fixed (extended ds)) None
operation_of (Stdu rs ra ds) = Store Long rs (or_zero ra) (Fixed (extended ds)) (Some ra)
operation_of (Cmp bf l ra rb) = Compare bf (compared_width l) Signed (Register ra) (Register rb)
operation_of (Cmpl bf l ra rb) = Compare bf (compared_width l) Unsigned (Register ra) (Register rb)
operation_of (Add rt ra rb rc) = Calculate (sum_of_registers rc) rt (Register ra) (Register rb) rc
operation_of (Subf rt ra rb rc) = Calculate Difference rt (Register rb) (Register ra) rc
operation_of (Neg rt ra rc) = Calculate Difference rt (Fixed 0) (Register ra) rc
operation_of (Mullw rt ra rb rc) = Calculate WordProduct rt (Register ra) (Register rb) rc
operation_of (Mulld rt ra rb rc) = Calculate Product rt (Register ra) (Register rb) rc
operation_of (Divd rt ra rb rc) = Divide Signed rt (Register ra) (Register rb) rc
operation_of (Divdu rt ra rb rc) = Divide Unsigned rt (Register ra) (Register rb) rc
operation_of (And rs ra rb rc) = Calculate BitAnd ra (Register rs) (Register rb) rc
operation_of (Andc rs ra rb rc) = Calculate BitAndNot ra (Register rs) (Register rb) rc
operation_of (Nor rs ra rb rc) = Calculate BitNotOr ra (Register rs) (Register rb) rc
operation_of (Xor rs ra rb rc) = Calculate BitXor ra (Register rs) (Register rb) rc
operation_of (Or rs ra rb rc) = register_or ra rs rb rc
operation_of (Slw rs ra rb rc) = Calculate ShiftWordLeft ra (Register rs) (Register rb) rc
operation_of (Srw rs ra rb rc) = Calculate ShiftWordRight ra (Register rs) (Register rb) rc
operation_of (Sld rs ra rb rc) = Calculate ShiftLeft ra (Register rs) (Register rb) rc
operation_of (Srd rs ra rb rc) = Calculate ShiftRight ra (Register rs) (Register rb) rc
operation_of (Extsb rs ra rc) = Calculate (Extend Byte) ra (Register rs) (Fixed 0) rc
operation_of (Extsh rs ra rc) = Calculate (Extend Half) ra (Register rs) (Fixed 0) rc
operation_of (Extsw rs ra rc) = Calculate (Extend Word) ra (Register rs) (Fixed 0) rc
operation_of (Ldx rt ra rb) = Load Long Unsigned rt (or_zero ra) (Register rb)
operation_of (Lwzx rt ra rb) = Load Word Unsigned rt (or_zero ra) (Register rb)
operation_of (Lbzx rt ra rb) = Load Byte Unsigned rt (or_zero ra) (Register rb)
operation_of (Lhzx rt ra rb) = Load Half Unsigned rt (or_zero ra) (Register rb)
operation_of (Lhax rt ra rb) = Load Half Signed rt (or_zero ra) (Register rb)
operation_of (Lwax rt ra rb) = Load Word Signed rt (or_zero ra) (Register rb)
operation_of (Stdx rs ra rb) = Store Long rs (or_zero ra) (Register rb) None
operation_of (Stwx rs ra rb) = Store Word rs (or_zero ra) (Register rb) None
operation_of (Stbx rs ra rb) = Store Byte rs (or_zero ra) (Register rb) None
operation_of (Sthx rs ra rb) = Store Half rs (or_zero ra) (Register rb) None
operation_of (Mfspr rt spr) = Copy rt (Register (special_register spr)) false
operation_of (Mtspr rs spr) = Copy (special_register spr) (Register rs) false

-- the registers that an operand names are registers
abbrev pub NamesOperand : Operand → Type 0
NamesOperand (Register r) = r < 34
NamesOperand (Fixed n) = Unit {0}
NamesOperand (Here n) = Unit {0}

abbrev pub NamesUpdate : Option ℕ → Type 0
NamesUpdate None = Unit {0}
NamesUpdate (Some r) = r < 34

abbrev pub NamesTarget : BranchTarget → Type 0
NamesTarget (Ahead n) = Unit {0}
NamesTarget (Through r) = r < 34

abbrev pub NamesBit : Condition → Type 0
NamesBit Always = Unit {0}
NamesBit (Bit bit value) = bit < 32

-- the operation names registers, fields and bits that there are
abbrev pub IsWellNamed : Operation → Type 0
IsWellNamed (Copy to from rc) = (to < 34) × NamesOperand from
IsWellNamed (Calculate function to x y rc) = (to < 34) × NamesOperand x × NamesOperand y
IsWellNamed (Divide sign to x y rc) = (to < 34) × NamesOperand x × NamesOperand y
IsWellNamed (Compare field width sign x y) = (field < 8) × NamesOperand x × NamesOperand y
IsWellNamed (Load width sign to base offset) = (to < 34) × NamesOperand base × NamesOperand offset
IsWellNamed (Store width from base offset update) = (from < 34) × NamesOperand base × NamesOperand offset × NamesUpdate update
IsWellNamed (Branch counter condition target link) = NamesBit condition × NamesTarget target
IsWellNamed System = Unit {0}
