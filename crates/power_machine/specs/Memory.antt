-- Memory: ranges of addresses that are allowed, which never change, and a byte at each address.
use Rattle.std.specs.Prelude.{ℕ, zero, suc, ◌+◌, ◌-◌, ◌*◌, Bool, true, ◌&&◌, ◌||◌, ◌==◌, List, [], ◌∷◌, length, map, nat_le, nat_lt, if◌then◌else◌, slice_index_or}
use Rattle.std.specs.List.{list_any}
use Rattle.power_machine.specs.declared.memory.Purpose.{Purpose}
use Rattle.power_machine.specs.declared.memory.Purpose.TheVariants.{Loading, Storing, Fetching}
use Rattle.power_machine.specs.declared.memory.Region.{Region}
use Rattle.power_machine.specs.Paging.{page_of, page_in, is_kept, byte_in}

-- the addresses from start up to stop, and what they allow beside loads
pub record Range : Type 0 where
  pub start : ℕ
  pub stop : ℕ
  pub writable : Bool
  pub executable : Bool

-- each range may be loaded from
abbrev pub permits : Purpose → Range → Bool
permits Loading r = true
permits Storing r = r.writable
permits Fetching r = r.executable

-- so many bytes at an address lie in the range, which allows the access
abbrev pub holds : Purpose → ℕ → ℕ → Range → Bool
holds purpose at count r = nat_le r.start at && nat_le (at + count) r.stop && permits purpose r

-- one range holds them all
abbrev pub allows : Purpose → ℕ → ℕ → List Range → Bool
allows purpose at count ranges = list_any (holds purpose at count) ranges

-- what may be done with so many bytes at an address
abbrev pub Permission : Type 0
Permission = Purpose → ℕ → ℕ → Bool

-- what ranges permit
abbrev pub within : List Range → Permission
within ranges purpose at count = allows purpose at count ranges

-- a call's range of addresses: one without bytes may be used wherever it lies
abbrev pub allows_range : Permission → Purpose → ℕ → ℕ → Bool
allows_range may purpose at count = count == 0 || may purpose at count

-- so many bytes from an address on
abbrev pub bytes_from : {B : Type 0} → (ℕ → B) → ℕ → ℕ → List B
bytes_from byte at zero = []
bytes_from byte at (suc n) = byte at ∷ bytes_from byte (at + 1) n

-- the memory after bytes are put at an address
abbrev pub put : {B : Type 0} → (ℕ → B) → ℕ → List B → ℕ → B
put byte at bytes a = if nat_le at a && nat_lt a (at + length bytes) then slice_index_or bytes (a - at) (byte a) else byte a

-- What the machine's regions stand for. A region has its bytes by pages, from the page of its first address on; a page that isn't kept has
-- none, and stands for zeros.
abbrev pub stop_of : Region → ℕ
stop_of r = r.start + r.size

abbrev pub range_of : Region → Range
range_of r = record { start = r.start; stop = stop_of r; writable = r.writable; executable = r.executable }

abbrev pub ranges_of : List Region → List Range
ranges_of regions = map range_of regions

abbrev pub covers : Region → ℕ → Bool
covers r a = nat_le r.start a && nat_lt a (stop_of r)

-- where the first page begins
abbrev pub base_of : ℕ → ℕ
base_of start = page_of start * 0x1000

abbrev pub byte_of : Region → ℕ → ℕ
byte_of r a = byte_in r.pages (a - base_of r.start)

-- the byte at an address, 0 outside the regions
abbrev pub byte_at : List Region → ℕ → ℕ
byte_at [] a = 0
byte_at (r ∷ regions) a = if covers r a then byte_of r a else byte_at regions a

-- the region keeps the page
abbrev pub keeps : ℕ → Region → Bool
keeps page r = nat_le (page_of r.start) page && is_kept (page_in r.pages (page - page_of r.start))

-- one of the regions keeps it
abbrev pub keeps_page : List Region → ℕ → Bool
keeps_page regions page = list_any (keeps page) regions
