-- A plan that can be read.
use Rattle.std.specs.Prelude.{ℕ, ◌≡◌, ◌<◌, ◌+◌, ◌*◌, ◌^◌, List, [], length, Option, Some, None, slice_index}
use Rattle.std.specs.List.{slice_index_or}
use Rattle.toc_groups.specs.declared.slots.TheConstants.{SLOT_SIZE}

-- each file has a group with a start, and no slot's address wraps
pub record IsSafe (groups starts : List ℕ) (slots : List (List (Option ℕ))) : Type 0 where
  pub known : (file : ℕ) → file < length groups → slice_index groups file < length starts
  pub rows : length slots ≡ length groups
  pub low : (file j k : ℕ) → slice_index_or (slice_index_or slots file []) j None ≡ Some k →
      slice_index starts (slice_index groups file) + SLOT_SIZE * k < 2 ^ 64
