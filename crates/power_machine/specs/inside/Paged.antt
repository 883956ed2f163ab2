-- Bytes by pages.
use Rattle.std.specs.Prelude.{◌≡◌, ◌≢◌, ℕ, ◌+◌, ◌≤◌, ◌<◌, ◌==◌, Bool, true, not, ◌&&◌, ◌||◌, List, [], length, replicate, Some, nat_le, nat_lt, slice_index, if◌then◌else◌}
use Rattle.std.specs.List.{list_any}
use Rattle.power_machine.specs.Paging.{page_of, page_in, is_kept, byte_in, kept_with}

unfoldable pub zeros : ℕ → List ℕ
zeros n = replicate n 0

-- a page has no bytes or all
abbrev pub IsWhole : List ℕ → Type 0
IsWhole page = 0 < length page → length page ≡ 0x1000

abbrev pub ArePages : List (List ℕ) → Type 0
ArePages pages = (i : ℕ) → IsWhole (page_in pages i)

-- the byte at a place of a page
abbrev pub byte_on : List ℕ → ℕ → ℕ
byte_on page k = slice_index page k

-- what is made for a page, and what becomes of it
abbrev pub fresh_for : List ℕ → List ℕ
fresh_for page = if is_kept page then [] else zeros 0x1000

abbrev pub made_of : List ℕ → List ℕ
made_of page = if is_kept page then page else zeros 0x1000

-- the page with an index is kept
abbrev pub kept_in : List (List ℕ) → ℕ → Bool
kept_in pages i = is_kept (page_in pages i)

-- those from one page up to another are kept too
abbrev pub also_from : (ℕ → Bool) → ℕ → ℕ → ℕ → Bool
also_from kept first stop i = kept i || nat_le first i && nat_lt i stop

-- the pages when those from one up to another have been made
abbrev pub made_from : List (List ℕ) → ℕ → ℕ → ℕ → List ℕ
made_from pages first stop i = if nat_le first i && nat_lt i stop then made_of (page_in pages i) else page_in pages i

abbrev pub AreFreshFrom : List (List ℕ) → ℕ → List (List ℕ) → Type 0
AreFreshFrom pages first fresh = (i : ℕ) → i < length fresh → page_in fresh i ≡ fresh_for (page_in pages (first + i))

-- the pages of so many bytes are kept
abbrev pub AreKept : List (List ℕ) → ℕ → ℕ → Type 0
AreKept pages from count = (k : ℕ) → from ≤ k → k < from + count → kept_in pages (page_of k) ≡ true

-- those that are kept, and those on which one of so many bytes lies
abbrev pub KeepsAlso : List (List ℕ) → List (List ℕ) → ℕ → ℕ → Type 0
KeepsAlso old new from count = kept_in new ≡ kept_with (kept_in old) (Some (record { start = from; count = count }))

abbrev pub has_some : List ℕ → Bool
has_some bytes = list_any (λ b. not (b == 0)) bytes

-- each page that is kept has a byte that isn't zero
abbrev pub IsTight : List (List ℕ) → Type 0
IsTight pages = (i : ℕ) → kept_in pages i ≡ true → (k : ℕ) × (page_of k ≡ i) × (byte_in pages k ≢ 0)

-- from this place on all is zero
abbrev pub IsBlankFrom : ℕ → List (List ℕ) → Type 0
IsBlankFrom from pages = (k : ℕ) → from ≤ k → byte_in pages k ≡ 0
