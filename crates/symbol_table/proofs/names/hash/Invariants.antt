use Rattle.std.proofs.Common.{◌≡◌, take}
use Rattle.symbol_table.specs.inside.NameIndex.{name_hash}
use Rattle.symbol_table.proofs.names.hash.Given as goal

-- the first bytes are hashed
abbrev pub invariant-loop-byte : goal.invariant-loop-byte
invariant-loop-byte l = l.hash ≡ name_hash (take l.byte-index l.name)
