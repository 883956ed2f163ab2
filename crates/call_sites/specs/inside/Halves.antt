-- The records of a prologue's two words, while the records of a file are looked through.
use Rattle.std.specs.Prelude.{ℕ, ◌≡◌, pos, ◌+◌, ◌/◌, ◌^◌, Bool, ◌&&◌, ◌||◌, ◌==◌, List, ◌++◌, length, filter, min, if◌then◌else◌}
use Rattle.std.specs.List.{list_any}
use Rattle.symbol_table.specs.declared.fields.RecordField.{RecordField}
use Rattle.symbol_table.specs.declared.prologue.TheConstants.{LOW_HIGH_HALF}
use Rattle.symbol_table.specs.Fields.{meets, fields_meeting}
use Rattle.symbol_table.specs.Prologue.{is_half, are_halves, word_in}
use Rattle.call_sites.specs.declared.prologue.Halves.{Halves}
use Rattle.call_sites.specs.declared.prologue.Seen.{Seen}

-- two words are a prologue of a form
abbrev pub is_form : ℕ → List ℕ → Halves → Bool
is_form file b h =
    word_in b h.section h.at / 2 ^ 16 == h.form.high_half
    && word_in b h.section (h.at + 4) / 2 ^ 16 == LOW_HIGH_HALF
    && are_halves b h.form h.at (fields_meeting file b h.section h.at 8)

module _ (b : List ℕ) (h : Halves) where
  abbrev pub is_met : RecordField → Bool
  is_met = meets h.section h.at 8

  abbrev pub is_high : RecordField → Bool
  is_high = is_half b h.form.high (pos 0) h.at

  abbrev pub is_low : RecordField → Bool
  is_low = is_half b h.form.low h.form.low_addend (h.at + 4)

  -- of fields, how many have bytes of the two words, counted up to three, and whether the halves are among them
  abbrev pub seen_of : List RecordField → Seen
  seen_of fields = record {
    count = min (length (filter is_met fields)) 3;
    high = list_any is_high (filter is_met fields);
    low = list_any is_low (filter is_met fields);
  }

  -- with one field more
  abbrev pub with_field : Seen → RecordField → Seen
  with_field seen f =
      if is_met f then record {
        count = min (seen.count + 1) 3;
        high = seen.high || is_high f;
        low = seen.low || is_low f;
      } else seen

  -- more fields are seen
  abbrev pub SeesMore : Seen → Seen → List RecordField → Type 0
  SeesMore old new more = (fields : List RecordField) → old ≡ seen_of fields → new ≡ seen_of (fields ++ more)
