-- Libraries in `ar` form, with long names as GNU ar writes them (System V ABI, "Archive File"; FreeBSD ar(5), "System V"). A
-- member is a header of 60 bytes and its data, and begins at an even place.
use Rattle.std.specs.Prelude.{ℕ, zero, suc, ◌+◌, ◌-◌, ◌%◌, Bool, not, ◌||◌, ◌&&◌, ◌==◌, nat_eq, nat_lt, nat_le, List, [], ◌∷◌, ◌++◌, take, drop, length, codes, slice_index, slice_range, Option, Some, None, is_some, unwrap_or, if◌then◌else◌}
use Rattle.std.specs.Char.{is_ascii_digit}
use Rattle.std.specs.List.{list_any, list_all, slice_index_or, starts_with}
use Rattle.std.specs.Option.{option_map}
use Rattle.std.specs.Str.{bytes_eq, is_utf8}
use Rattle.std.specs.Str.Parse.{digits_value}
use Rattle.elf64_records.specs.First.{◌orelse◌, when, first_from}

-- the file is a library: it begins with `!<arch>` and a newline
abbrev pub is_library : List ℕ → Bool
is_library b = starts_with nat_eq b (codes "!<arch>\n")

-- blanks are spaces and tabs
abbrev pub is_blank : ℕ → Bool
is_blank c = c == 0x20 || c == 0x09

-- bytes without the blanks at their end
abbrev pub trimmed : List ℕ → List ℕ
trimmed [] = []
trimmed (c ∷ rest) = if is_blank c && length (trimmed rest) == 0 then [] else c ∷ trimmed rest

-- the number that one or more decimal digits write, and nothing else
unfoldable pub number_of : List ℕ → Option ℕ
number_of digits = if nat_lt 0 (length digits) && list_all is_ascii_digit digits then Some (digits_value 10 digits) else None

-- the field of a header between two of its places, where the header begins at a place of the file; it counts without blanks at its end
unfoldable pub field : List ℕ → ℕ → ℕ → ℕ → List ℕ
field b at from to = trimmed (slice_range b (at + from) (at + to))

-- the name as the header writes it
abbrev pub name_field : List ℕ → ℕ → List ℕ
name_field b at = field b at 0 16

-- how many bytes of data follow the header
abbrev pub stated_size : List ℕ → ℕ → Option ℕ
stated_size b at = number_of (field b at 48 58)

abbrev pub size_of : List ℕ → ℕ → ℕ
size_of b at = unwrap_or (stated_size b at) 0

-- the data
unfoldable pub data_of : List ℕ → ℕ → List ℕ
data_of b at = slice_range b (at + 60) (at + 60 + size_of b at)

-- where the next header begins: behind data of odd size stands a byte more
unfoldable pub after : List ℕ → ℕ → ℕ
after b at = at + 60 + size_of b at + size_of b at % 2

-- what a library has beside its members: an index of the names that they define, and a table of long names
abbrev pub is_index : List ℕ → Bool
is_index name = bytes_eq name (codes "/") || bytes_eq name (codes "/SYM64/")

abbrev pub is_name_table : List ℕ → Bool
is_name_table name = bytes_eq name (codes "//")

abbrev pub is_special : List ℕ → Bool
is_special name = is_index name || is_name_table name

-- where a header begins, and the first table of long names before it
pub record Spot : Type 0 where
  pub at : ℕ
  pub names : Option (List ℕ)

-- the spot behind the header at a spot, and its data
abbrev pub next_spot : List ℕ → Spot → Spot
next_spot b s = record {
  at = after b s.at;
  names = s.names orelse when (is_name_table (name_field b s.at)) (data_of b s.at);
}

-- the spot of header k
unfoldable pub spot : List ℕ → ℕ → Spot
spot b zero = record { at = 8; names = None }
spot b (suc k) = next_spot b (spot b k)

-- the bytes to the first `/` that a newline follows
abbrev pub before_slash : List ℕ → Option (List ℕ)
before_slash [] = None
before_slash (c ∷ rest) =
    if starts_with nat_eq (c ∷ rest) (codes "/\n") then Some [] else option_map (λ name. c ∷ name) (before_slash rest)

-- `/` and a number stand for the name at that place of the table of long names
abbrev pub reference : List ℕ → Option ℕ
reference [] = None
reference (c ∷ digits) = if c == 0x2F then number_of digits else None

unfoldable pub long_name : Option (List ℕ) → ℕ → Option (List ℕ)
long_name None start = None
long_name (Some table) start = before_slash (drop start table)

-- other names end with `/`, which isn't a part of them, or hold none
unfoldable pub short_name : List ℕ → Option (List ℕ)
short_name name =
    let last = length name - 1 in
    if slice_index_or name last 0 == 0x2F then Some (take last name)
    else if list_any (λ c. c == 0x2F) name then None
    else Some name

abbrev pub name_by : Option ℕ → Option (List ℕ) → List ℕ → Option (List ℕ)
name_by (Some start) table name = long_name table start
name_by None table name = short_name name

-- a name isn't empty, and is text
abbrev pub text_of : Option (List ℕ) → Option (List ℕ)
text_of None = None
text_of (Some name) = if nat_lt 0 (length name) && is_utf8 name then Some name else None

-- the name of the member at a spot
unfoldable pub member_name : List ℕ → Spot → Option (List ℕ)
member_name b s = text_of (name_by (reference (name_field b s.at)) s.names (name_field b s.at))

-- 60 bytes end as a header does, with a grave accent and a newline, and the data lies in the file
unfoldable pub is_framed : List ℕ → ℕ → Bool
is_framed b at =
    nat_le (at + 60) (length b)
    && slice_index b (at + 58) == 0x60 && slice_index b (at + 59) == 0x0A
    && is_some (stated_size b at)
    && nat_le (at + 60 + size_of b at) (length b)

-- the header at a spot is one: it is framed, and is special or has a name
unfoldable pub is_header : List ℕ → Spot → Bool
is_header b s = is_framed b s.at && (is_special (name_field b s.at) || is_some (member_name b s))

-- header k begins in the file, and isn't one
unfoldable pub header_fault : List ℕ → ℕ → Option ℕ
header_fault b k = when (nat_lt (spot b k).at (length b) && not (is_header b (spot b k))) (spot b k).at

-- where the first header begins that isn't one; a file has fewer headers than bytes
abbrev pub archive_fault : List ℕ → Option ℕ
archive_fault b = first_from (header_fault b) 0 (length b)

-- a member: its name and its bytes
pub record MemberFacts : Type 0 where
  pub name : List ℕ
  pub bytes : List ℕ

-- the member of the header at a spot, if it has one
unfoldable pub member_at : List ℕ → Spot → List MemberFacts
member_at b s =
    if nat_lt s.at (length b) && not (is_special (name_field b s.at))
    then record { name = unwrap_or (member_name b s) []; bytes = data_of b s.at } ∷ []
    else []

-- the members of the first n headers
abbrev pub members_in : List ℕ → ℕ → List MemberFacts
members_in b zero = []
members_in b (suc n) = members_in b n ++ member_at b (spot b n)

-- the members of a library
abbrev pub members_of : List ℕ → List MemberFacts
members_of b = members_in b (length b)

-- the name and the bytes of a member, by its number
abbrev pub name_in : List MemberFacts → ℕ → List ℕ
name_in members i = (slice_index_or members i (record { name = []; bytes = [] })).name

abbrev pub bytes_in : List MemberFacts → ℕ → List ℕ
bytes_in members i = (slice_index_or members i (record { name = []; bytes = [] })).bytes
