-- What is put at the calls of a text: the branch of each, and the word behind it where r2 can be restored (ELFv2 ABI, "Function Call").
use Rattle.std.specs.Prelude.{ℕ, ℤ, pos, ◌+◌, ◌-◌, ◌-ℤ◌, Bool, false, List, [], ◌∷◌, Option, None, Some, flat_map, take, length, nat_lt, slice_index, if◌then◌else◌}
use Rattle.std.specs.List.{range_with_len, slice_index_or}
use Rattle.object_set.specs.declared.refusal.Site.{Site}
use Rattle.stub_kinds.specs.declared.class.Class.{Class}
use Rattle.call_sites.specs.declared.site.CallSite.{CallSite}
use Rattle.call_sites.specs.Words.{branch_word, slot_word}
use Rattle.layout_rounds.specs.Shapes.{KeyedText}
use Rattle.layout_rounds.specs.Layout.{PlacedText, stub_size}
use Rattle.placed_bytes.specs.Patches.{Patch, number_patch}
use Rattle.image_writer.specs.JobShape.{classed_sites}
use Rattle.image_writer.specs.Text.{place_of}

-- how many of the first i calls go somewhere: the number of call i in the layout, if it does
abbrev pub call_number : List CallSite → ℕ → ℕ
call_number sites i = length (classed_sites (take i sites))

-- call i
abbrev pub no_record : Site
no_record = record { file = 0; table = 0; entry = 0; section = 0; offset = 0 }

abbrev pub no_call : CallSite
no_call = record {
  site = no_record;
  section = 0;
  offset = 0;
  link = false;
  class = None;
  e = 0;
  callee = 0;
  to_section = 0;
  to_offset = 0;
  slot = false;
  restore = false;
}

abbrev pub call_at : List CallSite → ℕ → CallSite
call_at sites i = slice_index_or sites i no_call

-- a word at a place, if there is one
abbrev pub slot_patch : ℕ → Option ℕ → List Patch
slot_patch at None = []
slot_patch at (Some word) = number_patch 4 at word ∷ []

-- the words of a call at a place that branches so far
abbrev pub words_of_call : ℕ → CallSite → ℤ → List Patch
words_of_call at site displacement =
    number_patch 4 at (branch_word site.class site.link displacement) ∷ slot_patch (at + 4) (slot_word site.slot site.restore)

module _ (files : List (List ℕ)) (bases : List ℕ) (t : KeyedText) (F : ℕ → Bool) (p : PlacedText) where
  -- where the call with a number in the layout branches: to the stub of its key, or where that is empty to the key's place itself
  abbrev pub branch_address : ℕ → ℕ
  branch_address n =
      let k = slice_index t.numbers n in
      if nat_lt 0 (stub_size t F k) then slice_index p.stubs k else place_of files bases t F p k

  -- where a call stands
  abbrev pub call_address : CallSite → ℕ
  call_address site = slice_index p.sections site.section + site.offset

  -- how far it branches; a call to nothing doesn't
  abbrev pub displacement_by : Option Class → ℕ → ℕ → ℤ
  displacement_by None at n = pos 0
  displacement_by (Some class) at n = pos (branch_address n) -ℤ pos at

  abbrev pub displacement : CallSite → ℕ → ℤ
  displacement site n = displacement_by site.class (call_address site) n

  -- what is put at call i of a text that starts somewhere
  abbrev pub call_patch : ℕ → List CallSite → ℕ → List Patch
  call_patch start sites i =
      let site = call_at sites i in
      words_of_call (call_address site - start) site (displacement site (call_number sites i))

  -- and at all calls
  abbrev pub call_patches : ℕ → List CallSite → List Patch
  call_patches start sites = flat_map (call_patch start sites) (range_with_len 0 (length sites))
