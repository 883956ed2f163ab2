use Rattle.std.proofs.Common.{◌≡◌, map, take}
use Rattle.symbol_table.specs.Text.{text_sections}
use Rattle.call_sites.specs.inside.Ready.{bytes_of}
use Rattle.call_sites.proofs.callees.texts_of.Given as goal

-- the bytes of the first text sections are here
abbrev pub invariant-loop-number : goal.invariant-loop-number
invariant-loop-number l = l.texts.items ≡ map (bytes_of l.res.files) (take l.number (text_sections l.res.files))
