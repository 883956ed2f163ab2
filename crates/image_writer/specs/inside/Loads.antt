-- Loads of addresses that are rewritten, by the bytes of their section.
use Rattle.std.specs.Prelude.{ℕ, ℤ, ◌+◌, ◌-◌, ◌+ℤ◌, ◌≤◌, List, length, Option, None, Some, if◌then◌else◌}
use Rattle.ppc_bytes.specs.Bytes.{number_at}
use Rattle.toc_groups.specs.Values.{is_signed}
use Rattle.toc_rewrite.specs.Words.{target_register}
use Rattle.prefixed_insns.specs.ShortForms.{relative_form}
use Rattle.pcrel_rewrite.specs.declared.text_pairs.TextPair.{TextPair}
use Rattle.pcrel_rewrite.specs.declared.words.ShortAccess.{ShortAccess}
use Rattle.pcrel_rewrite.specs.Rewriting.{address_sum}
use Rattle.pcrel_rewrite.specs.Words.{IsShortWord}
use Rattle.image_writer.specs.declared.got_loads.LoadWords.{LoadWords}
use Rattle.image_writer.specs.GotLoads.{displacement_of, access_form, load_words}
use Rattle.pcrel_rewrite.specs.TextPairs.{tail_at}

-- the word at an offset of a section's bytes is a load or store, behind the one at another
pub record IsAccessAt (bytes : List ℕ) (head tail : ℕ) : Type 0 where
  pub access : ShortAccess
  pub is : IsShortWord (number_at 4 bytes tail) access
  pub behind : head ≤ tail
  pub within : tail + 4 ≤ length bytes

-- the load of a pair with its access at an offset, if it reaches
abbrev pub paired_by : ℕ → ℤ → List ℕ → Option ℕ → Option LoadWords
paired_by offset distance bytes None = None
paired_by offset distance bytes (Some tail) =
    let word = number_at 4 bytes tail in
    if is_signed 34 (distance +ℤ displacement_of word)
    then Some (load_words (relative_form (distance +ℤ displacement_of word) (access_form word)) (Some (tail - offset)))
    else None

abbrev pub paired_load : List TextPair → ℕ → ℕ → ℤ → List ℕ → Option LoadWords
paired_load pairs section offset distance bytes = paired_by offset distance bytes (tail_at pairs section offset)

-- the sum of an address, if it is near
abbrev pub sum_of : ℤ → ℕ → List ℕ → Option LoadWords
sum_of distance offset bytes =
    if is_signed 34 distance
    then Some (load_words (address_sum (target_register (number_at 4 bytes (offset + 4))) distance) None)
    else None
