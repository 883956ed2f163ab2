-- Loads of addresses from their slots, as a link rewrites them (ELFv2 ABI, "Relocation Descriptions": R_PPC64_GOT_PCREL34,
-- R_PPC64_PCREL_OPT; Power ISA 3.1, book I, "Prefixed Instructions").
use Rattle.std.specs.Prelude.{ℕ, ℤ, pos, ◌+◌, ◌-◌, ◌*◌, ◌/◌, ◌%◌, ◌^◌, ◌+ℤ◌, ◌-ℤ◌, Bool, ◌&&◌, ◌==◌, List, [], ◌∷◌, Option, None, Some, nat_lt, if◌then◌else◌}
use Rattle.ppc_bytes.specs.declared.constants.TheConstants.{NOP}
use Rattle.ppc_bytes.specs.Bytes.{number_at}
use Rattle.ppc_bytes.specs.Halves.{signed_of}
use Rattle.elf64_records.specs.Records.{rela_of}
use Rattle.elf64_records.specs.Sections.{section_bytes}
use Rattle.object_set.specs.declared.places.RecordId.{RecordId}
use Rattle.object_set.specs.Files.{file_at}
use Rattle.reloc_fields.specs.declared.kind.Kind.{Kind}
use Rattle.reloc_fields.specs.declared.kind.Kind.TheVariants.{GotPcrel34}
use Rattle.symbol_table.specs.Sites.{primary_opcode}
use Rattle.symbol_table.specs.Text.{text_index}
use Rattle.toc_groups.specs.Values.{is_signed, symbol_address, field_address}
use Rattle.toc_rewrite.specs.declared.words.TheConstants.{LD_FORMS, STD_FORMS}
use Rattle.toc_rewrite.specs.Words.{target_register, base_register}
use Rattle.prefixed_insns.specs.declared.instruction.POp.{POp}
use Rattle.prefixed_insns.specs.declared.instruction.POp.TheVariants.{Plwz, Plbz, Plhz, Plha, Plwa, Pld, Pstw, Pstb, Psth, Pstd}
use Rattle.prefixed_insns.specs.declared.instruction.PInsn.{PInsn}
use Rattle.prefixed_insns.specs.declared.short_forms.ShortForm.{ShortForm}
use Rattle.prefixed_insns.specs.ShortForms.{relative_form}
use Rattle.prefixed_insns.specs.Table.{prefix_of, suffix_of}
use Rattle.pcrel_rewrite.specs.Rewriting.{address_sum}
use Rattle.placed_bytes.specs.Patches.{Patch, number_patch}
use Rattle.image_writer.specs.declared.got_loads.LoadWords.{LoadWords}
use Rattle.pcrel_rewrite.specs.TextPairs.{tail_at}
use Rattle.image_writer.specs.Rewriting.{Rewriting}

-- the prefixed mnemonic of a load or store by a displacement, by its opcode and, where they tell forms apart, its last two bits
abbrev pub prefixed_by : ℕ → ℕ → POp
prefixed_by opcode last =
    if opcode == 32 then Plwz
    else (if opcode == 34 then Plbz
    else (if opcode == 36 then Pstw
    else (if opcode == 38 then Pstb
    else (if opcode == 40 then Plhz
    else (if opcode == 42 then Plha
    else (if opcode == 44 then Psth
    else (if opcode == STD_FORMS then Pstd
    else (if last == 0 then Pld else Plwa))))))))

-- its displacement, of which the last two bits are no part where they tell forms apart
abbrev pub displacement_by : ℕ → ℕ → ℤ
displacement_by opcode low = signed_of 16 (if nat_lt opcode LD_FORMS then low else low / 4 * 4)

abbrev pub displacement_of : ℕ → ℤ
displacement_of word = displacement_by (primary_opcode word) (word % 2 ^ 16)

-- what such a word says
abbrev pub access_form : ℕ → ShortForm
access_form word = record {
  op = prefixed_by (primary_opcode word) (word % 4);
  register = target_register word;
  base = base_register word;
  disp = displacement_of word;
}

-- the two words of a prefixed instruction, and a nop so many bytes behind the first, if there is one
abbrev pub load_words : PInsn → Option ℕ → LoadWords
load_words insn nop = record { prefix = prefix_of insn; suffix = suffix_of insn; nop = nop }

-- put at a place of a text
abbrev pub nop_patch : ℕ → Option ℕ → List Patch
nop_patch at None = []
nop_patch at (Some distance) = number_patch 4 (at + distance) NOP ∷ []

abbrev pub load_patches : ℕ → LoadWords → List Patch
load_patches at load = number_patch 4 at load.prefix ∷ number_patch 4 (at + 4) load.suffix ∷ nop_patch at load.nop

-- the word at an offset of the section that a record is about
abbrev pub word_by : List (List ℕ) → RecordId → ℕ → ℕ
word_by files r at = number_at 4 (section_bytes (file_at files r.file) r.section) at

-- where in the section that is
abbrev pub offset_of : List (List ℕ) → RecordId → ℕ
offset_of files r = (rela_of (file_at files r.file) r.table r.entry).offset

module _ (files : List (List ℕ)) (span : ℕ) (text : List ℕ) where
  -- S, of the symbol whose address is loaded
  abbrev pub loaded_address : RecordId → ℕ
  loaded_address r = symbol_address files span text r.file (rela_of (file_at files r.file) r.table r.entry).symbol

  -- how far it lies from the load
  abbrev pub load_distance : RecordId → ℤ
  load_distance r = pos (loaded_address r) -ℤ pos (field_address files span text r)

  -- how far what an access at an offset loads or stores does
  abbrev pub pair_distance : RecordId → ℕ → ℤ
  pair_distance r tail = load_distance r +ℤ displacement_of (word_by files r tail)

  -- the load of a pair: what its access does, at so many bytes from its own address
  abbrev pub pair_load : RecordId → ℕ → LoadWords
  pair_load r tail =
      load_words (relative_form (pair_distance r tail) (access_form (word_by files r tail))) (Some (tail - offset_of files r))

  -- the sum of an address
  abbrev pub near_load : RecordId → LoadWords
  near_load r =
      load_words (address_sum (target_register (word_by files r (offset_of files r + 4))) (load_distance r)) None

  -- what becomes of a load of an address that is that of no pair, if it doesn't stay one
  abbrev pub sum_by : Bool → RecordId → Option LoadWords
  sum_by sums r = if sums && is_signed 34 (load_distance r) then Some (near_load r) else None

  -- of one that has its access there, if it has one
  abbrev pub load_by : Bool → RecordId → Option ℕ → Option LoadWords
  load_by sums r None = sum_by sums r
  load_by sums r (Some tail) = if is_signed 34 (pair_distance r tail) then Some (pair_load r tail) else sum_by sums r

  abbrev pub got_load : Rewriting → RecordId → Option LoadWords
  got_load w r = load_by w.sums r (tail_at w.pairs (text_index files r.file r.section) (offset_of files r))

  -- the same of a record of a kind
  unfoldable pub rewritten_load : Rewriting → RecordId → Kind → Option LoadWords
  rewritten_load w r GotPcrel34 = got_load w r
  rewritten_load w r other = None
