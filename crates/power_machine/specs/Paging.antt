-- Pages of memory: page p has the addresses from p * 0x1000 up to, and without, p * 0x1000 + 0x1000.
use Rattle.std.specs.Prelude.{ℕ, ◌+◌, ◌*◌, ◌/◌, ◌%◌, Bool, ◌&&◌, ◌||◌, List, [], length, Option, Some, None, nat_lt, slice_index, slice_index_or}

abbrev pub page_of : ℕ → ℕ
page_of a = a / 0x1000

-- so many bytes at an address
pub record Span : Type 0 where
  pub start : ℕ
  pub count : ℕ

abbrev pub span_at : ℕ → ℕ → Span
span_at start count = record { start = start; count = count }

-- one of them lies in the page
abbrev pub meets : Span → ℕ → Bool
meets s page = nat_lt 0 s.count && nat_lt s.start (page * 0x1000 + 0x1000) && nat_lt (page * 0x1000) (s.start + s.count)

-- the pages that are kept when bytes have been stored: those that were, and those in which one of these bytes lies
abbrev pub kept_with : (ℕ → Bool) → Option Span → ℕ → Bool
kept_with kept None page = kept page
kept_with kept (Some s) page = kept page || meets s page

-- Pages whose bytes are numbered through. A page that isn't kept has no bytes and stands for zeros.
-- the bytes of the page with an index
abbrev pub page_in : List (List ℕ) → ℕ → List ℕ
page_in pages i = slice_index_or pages i []

-- a page with bytes is kept
abbrev pub is_kept : List ℕ → Bool
is_kept page = nat_lt 0 (length page)

-- the byte so many bytes behind the first page's beginning
abbrev pub byte_in : List (List ℕ) → ℕ → ℕ
byte_in pages k = slice_index (page_in pages (page_of k)) (k % 0x1000)
