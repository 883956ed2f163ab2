-- How a call comes to its callee (ELFv2 ABI, "Function Call" and "Symbol Values": the entry points of a function, and r2 across a call).
use Rattle.std.specs.Prelude.{ℕ, Bool, true, false, ◌==◌, nat_le, if◌then◌else◌}
use Rattle.stub_kinds.specs.declared.class.Class.{Class}
use Rattle.stub_kinds.specs.declared.class.Class.TheVariants.{Same, Switch, Save, NearN, EntrySave, EntryBare, EntryN}
use Rattle.call_sites.specs.declared.class.Callee.{Callee}
use Rattle.call_sites.specs.declared.class.Linkage.{Linkage}
use Rattle.call_sites.specs.declared.class.Linkage.TheVariants.{WithToc, WithoutToc}

-- Where the callee has a local entry point past its global one, a prologue that is recognised makes r2 from r12 or from nothing, so a
-- caller that has the TOC base goes behind it; another prologue may do more, so it must run, with r12 as it asks for.
abbrev pub entry_class : Bool → Bool → Class
entry_class true true = Same
entry_class true false = Switch
entry_class false true = EntryBare
entry_class false false = EntrySave

-- a caller with a TOC base in r2: a callee with e = 0 leaves r2 alone, and one with e = 1 may change it
abbrev pub toc_class : Callee → Class
toc_class c = if c.entries == 0 then Same else (if c.entries == 1 then Save else entry_class c.recognised c.same_group)

-- a caller without: r2 needs no care, and a callee with a global entry point of its own finds its address in r12
abbrev pub no_toc_class : Callee → Class
no_toc_class c = if nat_le c.entries 1 then NearN else EntryN

abbrev pub class_of : Linkage → Callee → Class
class_of WithToc c = toc_class c
class_of WithoutToc c = no_toc_class c

-- after a call of these classes r2 may hold another TOC base than the caller's
abbrev pub changes_r2 : Class → Bool
changes_r2 Same = false
changes_r2 Switch = true
changes_r2 Save = true
changes_r2 NearN = false
changes_r2 EntrySave = true
changes_r2 EntryBare = false
changes_r2 EntryN = false

-- how far behind the callee's global entry point a call goes: behind the two instructions of a recognised prologue, where the
-- caller has a TOC base
abbrev pub entry_offset : Linkage → Callee → ℕ
entry_offset WithToc c = if nat_le 2 c.entries then (if c.recognised then 8 else 0) else 0
entry_offset WithoutToc c = 0
