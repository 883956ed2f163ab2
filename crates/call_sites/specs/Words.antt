-- The words of a call and of the instruction behind it (Power ISA 3.1, "Branch Instructions"; ELFv2 ABI, "Function Call").
use Rattle.std.specs.Prelude.{ℕ, ℤ, ◌+◌, Bool, Option, Some, None, if◌then◌else◌}
use Rattle.stub_kinds.specs.Stubs.{nop, branch}
use Rattle.stub_kinds.specs.declared.class.Class.{Class}

-- ld r2,24(r1): the TOC base from its save slot
abbrev pub ld_r2 : ℕ
ld_r2 = 0xE841_0018

-- a branch, which sets LR where it links
abbrev pub call_word : Bool → ℤ → ℕ
call_word link displacement = branch displacement + (if link then 1 else 0)

-- a call of an undefined weak function does nothing; any other branches
abbrev pub branch_word : Option Class → Bool → ℤ → ℕ
branch_word None link displacement = nop
branch_word (Some class) link displacement = call_word link displacement

-- the word behind a call, where it is a nop that the linker may use
abbrev pub slot_word : Bool → Bool → Option ℕ
slot_word slot restore = if slot then Some (if restore then ld_r2 else nop) else None
