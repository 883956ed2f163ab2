-- What records use of the table of contents, while slots are judged.
use Rattle.std.specs.Prelude.{ℕ, ◌+◌, ◌*◌, ◌^◌, Bool, List, [], ◌∷◌, ◌&&◌, ◌||◌, nat_le, nat_lt, Option, None, Some, if◌then◌else◌}
use Rattle.object_set.specs.declared.places.RecordId.{RecordId}
use Rattle.toc_rewrite.specs.declared.uses.SlotUse.{SlotUse}
use Rattle.toc_rewrite.specs.Laid.{LaidFiles}
use Rattle.toc_rewrite.specs.Records.{kind_of, word_at, record_number, is_of_prologue}
use Rattle.toc_rewrite.specs.Folds.{loads_only}

-- a number that grows with the use's number and, at one number, with the file that only loads there
abbrev pub loader_rank : Option ℕ → ℕ
loader_rank None = 2 ^ 32
loader_rank (Some file) = file

abbrev pub rank : SlotUse → ℕ
rank u = u.number * 2 ^ 33 + loader_rank u.loader

-- a rank from one on and below another one
abbrev pub is_between : ℕ → ℕ → ℕ → Bool
is_between first end n = nat_le first n && nat_lt n end

-- a use of the eight bytes from an address on that comes before a load of the address by a file, and one that comes behind it
abbrev pub is_below : ℕ → ℕ → SlotUse → Bool
is_below file address u = is_between (address * 2 ^ 33) (address * 2 ^ 33 + file) (rank u)

abbrev pub is_above : ℕ → ℕ → SlotUse → Bool
is_above file address u = is_between (address * 2 ^ 33 + (file + 1)) ((address + 8) * 2 ^ 33) (rank u)

-- such a use keeps the file's slot there
abbrev pub keeps : ℕ → ℕ → SlotUse → Bool
keeps file address u = is_below file address u || is_above file address u

-- the use that a record makes of a number: none where it has no number, or is of a prologue
abbrev pub use_at : ℕ → ℕ → Bool → SlotUse
use_at number file loads = record { number = number; loader = if loads then Some file else None }

abbrev pub use_by : LaidFiles → RecordId → Option ℕ → List SlotUse
use_by laid r None = []
use_by laid r (Some number) =
    if is_of_prologue laid.files r then []
    else use_at number r.file (loads_only (kind_of laid.files r) (word_at laid.files r)) ∷ []

abbrev pub use_of : LaidFiles → RecordId → List SlotUse
use_of laid r = use_by laid r (record_number laid r)
