-- Pairs of text sections.
use Rattle.std.specs.Prelude.{ℕ, ◌&&◌, ◌==◌, List, Option}
use Rattle.elf64_records.specs.First.{when, first_in}
use Rattle.pcrel_rewrite.specs.declared.text_pairs.TextPair.{TextPair}

-- the pair of a text section with these ends
abbrev pub text_pair : ℕ → ℕ → ℕ → TextPair
text_pair section head tail = record { section = section; head = head; tail = tail }

-- the access of the pair whose load stands at an offset of a text section
abbrev pub tail_at : List TextPair → ℕ → ℕ → Option ℕ
tail_at pairs section offset = first_in (λ p. when (p.section == section && p.head == offset) p.tail) pairs

-- the load of the pair whose access stands there
abbrev pub head_at : List TextPair → ℕ → ℕ → Option ℕ
head_at pairs section offset = first_in (λ p. when (p.section == section && p.tail == offset) p.head) pairs
