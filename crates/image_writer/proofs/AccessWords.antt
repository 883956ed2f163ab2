-- The word of a load or store tells its parts.
use Rattle.std.proofs.Common.{ℕ, ℤ, pos, ◌≡◌, ◌<◌, ◌+◌, ◌*◌, ◌/◌, ◌%◌, ◌^◌, Bool, true, false, nat_lt, Some, ap, ◌∙◌, refl, arith, if◌then◌else◌}
use Rattle.std.specs.Int.{int_rem_euclid}
use Rattle.std.specs.Int.RustNames.{unsigned_abs}
use Rattle.std.proofs.lemmas.Int.{ints}
use Rattle.ppc_bytes.specs.Halves.{signed_of}
use Rattle.ppc_bytes.specs.laws.Halves.{low_of-rest, low_of-lt, signed_of-low_of}
use Rattle.power_insns.specs.declared.instruction.Insn.{Insn}
use Rattle.power_insns.specs.declared.instruction.Insn.TheVariants.{Lwz, Lbz, Lhz, Lha, Lwa, Ld, Stw, Stb, Sth, Std}
use Rattle.power_insns.specs.Words.{low_of, InSigned, IsDisplacement}
use Rattle.power_insns.specs.Table.{word_of, Fits}
use Rattle.prefixed_insns.specs.declared.instruction.POp.{POp}
use Rattle.prefixed_insns.specs.declared.instruction.POp.TheVariants.{Plwz, Plbz, Plhz, Plha, Plwa, Pld, Pstw, Pstb, Psth, Pstd}
use Rattle.prefixed_insns.specs.declared.short_forms.ShortForm.{ShortForm}
use Rattle.prefixed_insns.specs.ShortForms.{short_form_of}
use Rattle.pcrel_rewrite.specs.declared.words.ShortAccess.{ShortAccess}
use Rattle.pcrel_rewrite.specs.Words.{IsShortWord}
use Rattle.symbol_table.specs.Sites.{primary_opcode}
use Rattle.toc_rewrite.specs.Words.{target_register, base_register}
use Rattle.image_writer.specs.GotLoads.{prefixed_by, displacement_by, access_form}

-- a word by its fields: the opcode, the two registers and the low half
record HasFields (word opcode register base low : ℕ) : Type 0 where
  opcode_is : primary_opcode word ≡ opcode
  register_is : target_register word ≡ register
  base_is : base_register word ≡ base
  low_is : word % 2 ^ 16 ≡ low

has_fields : (word opcode register base low : ℕ) → opcode < 64 → register < 32 → base < 32 → low < 2 ^ 16 →
    opcode * 2 ^ 26 + register * 2 ^ 21 + base * 2 ^ 16 + low ≡ word → HasFields word opcode register base low
has_fields word opcode register base low o r b l is =
    record { opcode_is = omega arith; register_is = omega arith; base_is = omega arith; low_is = omega arith }

-- the form that has these parts
form_by : POp → ℕ → ℕ → ℤ → ShortForm
form_by op register base disp = record { op = op; register = register; base = base; disp = disp }

parts_told : (word opcode last register base low : ℕ) (op : POp) (disp : ℤ) → HasFields word opcode register base low → word % 4 ≡ last →
    prefixed_by opcode last ≡ op → displacement_by opcode low ≡ disp → access_form word ≡ form_by op register base disp
unfolding form_by
parts_told word opcode last register base low op disp has tail mnemonic reach =
    let ops : prefixed_by (primary_opcode word) (word % 4) ≡ op =
    ap (λ (o : ℕ). prefixed_by o (word % 4)) has.opcode_is ∙ ap (prefixed_by opcode) tail ∙ mnemonic in
    let reaches : displacement_by (primary_opcode word) (word % 2 ^ 16) ≡ disp =
    ap (λ (o : ℕ). displacement_by o (word % 2 ^ 16)) has.opcode_is ∙ ap (displacement_by opcode) has.low_is ∙ reach in
    ap (λ (x : POp). form_by x (target_register word) (base_register word) (displacement_by (primary_opcode word) (word % 2 ^ 16))) ops
    ∙ ap (λ (x : ℕ). form_by op x (base_register word) (displacement_by (primary_opcode word) (word % 2 ^ 16))) has.register_is
    ∙ ap (λ (x : ℕ). form_by op register x (displacement_by (primary_opcode word) (word % 2 ^ 16))) has.base_is
    ∙ ap (form_by op register base) reaches

-- a displacement again, from its sixteen bits
bits_told : (disp : ℤ) → InSigned 16 disp → signed_of 16 (low_of 16 disp) ≡ disp
bits_told disp fits =
    let low = fits.low in
    let high = fits.high in
    signed_of-low_of 16 disp (omega arith) (record { low = low; high = high })

-- the form of one with a displacement of any bytes
whole_told : (opcode register base word : ℕ) (op : POp) (disp : ℤ) (form : ShortForm) → opcode < 58 → nat_lt opcode 58 ≡ true →
    ((last : ℕ) → prefixed_by opcode last ≡ op) → register < 32 → base < 32 → InSigned 16 disp →
    ((opcode * 32 + register) * 32 + base) * 65536 + low_of 16 disp ≡ word → Some (form_by op register base disp) ≡ Some form →
    access_form word ≡ form
whole_told opcode register base word op disp form below test mnemonic r b fits is some =
    let bits = low_of-lt 16 disp in
    let has = has_fields word opcode register base (low_of 16 disp) (omega (arith, below)) r b bits (omega (arith, is)) in
    let low : displacement_by opcode (low_of 16 disp) ≡ disp =
    ap (λ (t : Bool). signed_of 16 (if t then low_of 16 disp else low_of 16 disp / 4 * 4)) test ∙ bits_told disp fits in
    let same : form_by op register base disp ≡ form = cc in
    parts_told word opcode (word % 4) register base (low_of 16 disp) op disp has refl (mnemonic (word % 4)) low ∙ same

-- the bits of a multiple of 4 end in two zeros
fourth : (disp : ℤ) → int_rem_euclid disp (pos 4) ≡ pos 0 → low_of 16 disp / 4 * 4 ≡ low_of 16 disp
fourth disp whole =
    let rest = low_of-rest 16 disp in
    let quarter = low_of-rest 2 disp in
    let none : low_of 2 disp ≡ 0 = ap unsigned_abs whole in
    omega (arith, ints, rest, quarter, none)

-- the form of one with a displacement of whole words
fourth_told : (opcode last register base word : ℕ) (op : POp) (disp : ℤ) (form : ShortForm) → opcode < 64 → nat_lt opcode 58 ≡ false →
    last < 4 → prefixed_by opcode last ≡ op → register < 32 → base < 32 → IsDisplacement 16 disp →
    (((opcode * 32 + register) * 32 + base) * 16384 + low_of 16 disp / 4) * 4 + last ≡ word →
    Some (form_by op register base disp) ≡ Some form →
    access_form word ≡ form
fourth_told opcode last register base word op disp form below test few mnemonic r b fits is some =
    let bits = low_of-lt 16 disp in
    let whole = fourth disp fits.1 in
    let half = low_of 16 disp / 4 * 4 + last in
    let has = has_fields word opcode register base half below r b (omega (arith, bits, few)) (omega (arith, is)) in
    let tail : word % 4 ≡ last = omega (arith, is, few) in
    let clear : half / 4 * 4 ≡ low_of 16 disp = omega (arith, few, whole) in
    let low : displacement_by opcode half ≡ disp =
    ap (λ (t : Bool). signed_of 16 (if t then half else half / 4 * 4)) test ∙ ap (signed_of 16) clear ∙ bits_told disp fits.0 in
    let same : form_by op register base disp ≡ form = cc in
    parts_told word opcode last register base half op disp has tail mnemonic low ∙ same

told : (insn : Insn) (form : ShortForm) (word : ℕ) → Fits insn → word_of insn ≡ word → short_form_of insn ≡ Some form →
    access_form word ≡ form
unfolding form_by
told = elim [
  | Lwz rt ra d ↦ λ form word fits is some.
      whole_told 32 rt ra word Plwz d form (omega arith) refl (λ last. refl) fits.0 fits.1 fits.2 is some
  | Lbz rt ra d ↦ λ form word fits is some.
      whole_told 34 rt ra word Plbz d form (omega arith) refl (λ last. refl) fits.0 fits.1 fits.2 is some
  | Stw rs ra d ↦ λ form word fits is some.
      whole_told 36 rs ra word Pstw d form (omega arith) refl (λ last. refl) fits.0 fits.1 fits.2 is some
  | Stb rs ra d ↦ λ form word fits is some.
      whole_told 38 rs ra word Pstb d form (omega arith) refl (λ last. refl) fits.0 fits.1 fits.2 is some
  | Lhz rt ra d ↦ λ form word fits is some.
      whole_told 40 rt ra word Plhz d form (omega arith) refl (λ last. refl) fits.0 fits.1 fits.2 is some
  | Lha rt ra d ↦ λ form word fits is some.
      whole_told 42 rt ra word Plha d form (omega arith) refl (λ last. refl) fits.0 fits.1 fits.2 is some
  | Sth rs ra d ↦ λ form word fits is some.
      whole_told 44 rs ra word Psth d form (omega arith) refl (λ last. refl) fits.0 fits.1 fits.2 is some
  | Ld rt ra d ↦ λ form word fits is some.
      fourth_told 58 0 rt ra word Pld d form (omega arith) refl (omega arith) refl fits.0 fits.1 fits.2 is some
  | Lwa rt ra d ↦ λ form word fits is some.
      fourth_told 58 2 rt ra word Plwa d form (omega arith) refl (omega arith) refl fits.0 fits.1 fits.2 is some
  | Std rs ra d ↦ λ form word fits is some.
      fourth_told 62 0 rs ra word Pstd d form (omega arith) refl (omega arith) refl fits.0 fits.1 fits.2 is some
  | _ ↦ λ form word fits is some. cc
]

-- what a word says is what its access has
pub access_told : (word : ℕ) (access : ShortAccess) → IsShortWord word access → access_form word ≡ access.form
access_told word access is = told access.insn access.form word is.is.fits is.is.word_is is.form_is
