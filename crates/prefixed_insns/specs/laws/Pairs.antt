-- Two words, one instruction.
use Rattle.std.proofs.Common.{◌≡◌, ◌<◌, ℕ, ℤ, Bool, true, false, refl, arith, rules}
use Rattle.power_insns.specs.Words.{low_of, flag, InSigned}
use Rattle.power_insns.specs.laws.Bounds.{low_of-lt, flag-lt}
use Rattle.prefixed_insns.specs.declared.instruction.POp.{POp}
use Rattle.prefixed_insns.specs.declared.instruction.POp.TheVariants.{Paddi}
use Rattle.prefixed_insns.specs.declared.instruction.PInsn.{PInsn}
use Rattle.prefixed_insns.specs.Table.{type_of, opcode_of, prefix_of, suffix_of, Fits}

pub type_of-lt : (op : POp) → type_of op < 4
type_of-lt = elim [ Paddi ↦ omega arith | _ ↦ omega arith ]

pub opcode_of-lt : (op : POp) → opcode_of op < 64
opcode_of-lt = elim [ Paddi ↦ omega arith | _ ↦ omega arith ]

-- a mnemonic by its opcode
one_opcode : (a b : POp) → opcode_of a ≡ opcode_of b → a ≡ b
one_opcode = elim [ Paddi ↦ λ b e. search rules | _ ↦ λ b e. search rules ]

one_flag : (a b : Bool) → flag a ≡ flag b → a ≡ b
one_flag true true e = refl
one_flag false false e = refl
one_flag true false e = absurd (omega arith)
one_flag false true e = absurd (omega arith)

one_low : (x y : ℤ) → InSigned 34 x → InSigned 34 y → low_of 34 x ≡ low_of 34 y → x ≡ y
one_low x y p q e = search rules

abbrev pub insn_with : POp → ℕ → ℕ → Bool → ℤ → PInsn
insn_with op rt ra relative disp = record { op = op; rt = rt; ra = ra; relative = relative; disp = disp }

same_fields :
    (op op' : POp) (rt rt' ra ra' : ℕ) (r r' : Bool) (d d' : ℤ) →
    op ≡ op' →
    rt ≡ rt' →
    ra ≡ ra' →
    r ≡ r' →
    d ≡ d' →
    insn_with op rt ra r d ≡ insn_with op' rt' ra' r' d'
same_fields op op' rt rt' ra ra' r r' d d' a b e f g = rw (a, b, e, f, g) refl

-- no two instructions have the same two words
pub one_pair : (i j : PInsn) → Fits i → Fits j → prefix_of i ≡ prefix_of j → suffix_of i ≡ suffix_of j → i ≡ j
one_pair i j fits fits' p s =
    let low = low_of-lt 34 i.disp in
    let low' = low_of-lt 34 j.disp in
    let r = flag-lt i.relative in
    let r' = flag-lt j.relative in
    let kind = type_of-lt i.op in
    let kind' = type_of-lt j.op in
    let code = opcode_of-lt i.op in
    let code' = opcode_of-lt j.op in
    let same_code : opcode_of i.op ≡ opcode_of j.op = omega arith in
    let same_low : low_of 34 i.disp ≡ low_of 34 j.disp = omega arith in
    same_fields i.op j.op i.rt j.rt i.ra j.ra i.relative j.relative i.disp j.disp
    (one_opcode i.op j.op same_code) (omega arith) (omega arith) (one_flag i.relative j.relative (omega arith))
    (one_low i.disp j.disp fits.disp fits'.disp same_low)
