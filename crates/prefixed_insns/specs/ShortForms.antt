-- The loads and stores of one word by a register and a displacement that have a prefixed form (Power ISA 3.1, book I, "Fixed-Point
-- Load Instructions" and "Fixed-Point Store Instructions"), and that form relative to its own address.
use Rattle.std.specs.Prelude.{ℕ, ℤ, true, Option, Some, None}
use Rattle.std.specs.Option.{option_map}
use Rattle.power_insns.specs.declared.instruction.Insn.{Insn}
use Rattle.power_insns.specs.declared.instruction.Insn.TheVariants.{Lwz, Lbz, Lhz, Lha, Lwa, Ld, Stw, Stb, Sth, Std}
use Rattle.prefixed_insns.specs.declared.instruction.POp.{POp}
use Rattle.prefixed_insns.specs.declared.instruction.POp.TheVariants.{Plwz, Plbz, Plhz, Plha, Plwa, Pld, Pstw, Pstb, Psth, Pstd}
use Rattle.prefixed_insns.specs.declared.instruction.PInsn.{PInsn}
use Rattle.prefixed_insns.specs.declared.short_forms.ShortForm.{ShortForm}

abbrev short : POp → ℕ → ℕ → ℤ → Option ShortForm
short op register base disp = Some (record { op = op; register = register; base = base; disp = disp })

-- a line each: its prefixed mnemonic, the register that is loaded or stored, the base and the displacement
abbrev pub short_form_of : Insn → Option ShortForm
short_form_of (Lwz rt ra d) = short Plwz rt ra d
short_form_of (Lbz rt ra d) = short Plbz rt ra d
short_form_of (Lhz rt ra d) = short Plhz rt ra d
short_form_of (Lha rt ra d) = short Plha rt ra d
short_form_of (Lwa rt ra ds) = short Plwa rt ra ds
short_form_of (Ld rt ra ds) = short Pld rt ra ds
short_form_of (Stw rs ra d) = short Pstw rs ra d
short_form_of (Stb rs ra d) = short Pstb rs ra d
short_form_of (Sth rs ra d) = short Psth rs ra d
short_form_of (Std rs ra ds) = short Pstd rs ra ds
short_form_of other = None

-- the prefixed form with R set, so without a base register: its base is its own address
abbrev pub relative_form : ℤ → ShortForm → PInsn
relative_form disp form = record { op = form.op; rt = form.register; ra = 0; relative = true; disp = disp }

abbrev pub as_prefixed : Insn → ℤ → Option PInsn
as_prefixed insn disp = option_map (relative_form disp) (short_form_of insn)
