-- What is put into a text: the bytes of its sections, and the words of its stubs.
use Rattle.std.specs.Prelude.{ℕ, zero, suc, ◌+◌, ◌-◌, ◌*◌, ◌/◌, Bool, List, map, flat_map, take, length, slice_index, if◌then◌else◌, ◌==◌}
use Rattle.std.specs.List.{range_with_len, slice_index_or}
use Rattle.elf64_records.specs.Sections.{section_bytes}
use Rattle.object_set.specs.declared.places.SectionId.{SectionId}
use Rattle.object_set.specs.Files.{file_at}
use Rattle.symbol_table.specs.Text.{text_sections}
use Rattle.stub_kinds.specs.Stubs.{words_of, eight}
use Rattle.layout_rounds.specs.Shapes.{KeyedText}
use Rattle.layout_rounds.specs.Layout.{PlacedText, section_count, key_count, key_at, group_at, stub_size}
use Rattle.placed_bytes.specs.Patches.{Patch, number_patch}

abbrev pub no_section : SectionId
no_section = record { file = 0; section = 0 }

-- text section s
abbrev pub text_section : List (List ℕ) → ℕ → SectionId
text_section files s = slice_index_or (text_sections files) s no_section

-- its bytes, at its address, in a text that starts somewhere
abbrev pub section_patch : List (List ℕ) → List ℕ → ℕ → ℕ → Patch
section_patch files addresses start s =
    let id = text_section files s in
    record { at = slice_index addresses s - start; bytes = section_bytes (file_at files id.file) id.section }

-- those of all sections
abbrev pub section_patches : List (List ℕ) → List ℕ → ℕ → List Patch
section_patches files addresses start =
    map (section_patch files addresses start) (range_with_len 0 (length (text_sections files)))

-- words one behind the other
abbrev pub word_patch : ℕ → List ℕ → ℕ → Patch
word_patch at words i = number_patch 4 (at + 4 * i) (slice_index words i)

abbrev pub word_patches : ℕ → List ℕ → List Patch
word_patches at words = map (word_patch at words) (range_with_len 0 (length words))

-- a text in the layout of F: the files, the TOC base of each, the text in stub groups, and its addresses
module _ (files : List (List ℕ)) (bases : List ℕ) (t : KeyedText) (F : ℕ → Bool) (p : PlacedText) where
  -- the TOC base of the callers in stub group g: that of its files, which are all of one TOC group; so the last of the group's sections
  -- among the first n tells it
  abbrev pub caller_base : ℕ → ℕ → ℕ
  caller_base g zero = 0
  caller_base g (suc n) =
      if group_at t n == g then slice_index bases (text_section files n).file else caller_base g n

  -- the place to which key k leads, and the TOC base of the file there
  abbrev pub place_of : ℕ → ℕ
  place_of k = slice_index p.sections (key_at t k).section + (key_at t k).offset

  abbrev pub callee_base : ℕ → ℕ
  callee_base k = slice_index bases (text_section files (key_at t k).section).file

  -- the words of its stub, with nops behind them up to eight, and as many of these as the stub is long
  abbrev pub eight_words : ℕ → List ℕ
  eight_words k =
      let key = key_at t k in
      eight (words_of key.class (F k) (slice_index p.stubs k) (place_of k) (caller_base key.group (section_count t)) (callee_base k))

  abbrev pub stub_text : ℕ → List ℕ
  stub_text k = take (stub_size t F k / 4) (eight_words k)

  abbrev pub stub_patch : ℕ → ℕ → List Patch
  stub_patch start k = word_patches (slice_index p.stubs k - start) (stub_text k)

  -- those of all stubs
  abbrev pub stub_patches : ℕ → List Patch
  stub_patches start = flat_map (stub_patch start) (range_with_len 0 (key_count t))
