-- What an operation reads, writes and does with memory.
use Rattle.std.specs.Prelude.{◌≡◌, ℕ, ◌⊎◌, Bool, true, false, Option, Some, None}
use Rattle.power_insns.specs.declared.meaning.Operand.{Operand}
use Rattle.power_insns.specs.declared.meaning.Operand.TheVariants.{Register, Fixed, Here}
use Rattle.power_insns.specs.declared.meaning.Counter.{Counter}
use Rattle.power_insns.specs.declared.meaning.Counter.TheVariants.{Kept, Lowered}
use Rattle.power_insns.specs.declared.meaning.BranchTarget.{BranchTarget}
use Rattle.power_insns.specs.declared.meaning.BranchTarget.TheVariants.{Ahead, Through}
use Rattle.power_insns.specs.declared.meaning.Operation.{Operation}
use Rattle.power_insns.specs.declared.meaning.Operation.TheVariants.{Copy, Calculate, Divide, Compare, Load, Store, Branch, System}
use Rattle.power_insns.specs.declared.uses.Access.{Access}
use Rattle.power_insns.specs.declared.uses.Access.TheVariants as access
use Rattle.power_insns.specs.Operations.{link_register, count_register}

-- the operand is what register r holds
abbrev pub IsRegister : Operand → ℕ → Type 0
IsRegister (Register q) r = q ≡ r
IsRegister (Fixed n) r = ⊥
IsRegister (Here n) r = ⊥

-- the branch looks at the count register, r
abbrev pub Counts : Counter → ℕ → Type 0
Counts Kept r = ⊥
Counts (Lowered zero) r = count_register ≡ r

-- the branch goes where register r says
abbrev pub GoesThrough : BranchTarget → ℕ → Type 0
GoesThrough (Ahead n) r = ⊥
GoesThrough (Through q) r = q ≡ r

-- the operation reads register r, of 34
abbrev pub Reads : Operation → ℕ → Type 0
Reads (Copy to from rc) r = IsRegister from r
Reads (Calculate function to x y rc) r = IsRegister x r ⊎ IsRegister y r
Reads (Divide sign to x y rc) r = IsRegister x r ⊎ IsRegister y r
Reads (Compare field width sign x y) r = IsRegister x r ⊎ IsRegister y r
Reads (Load width sign to base offset) r = IsRegister base r ⊎ IsRegister offset r
Reads (Store width from base offset update) r = (from ≡ r) ⊎ IsRegister base r ⊎ IsRegister offset r
Reads (Branch counter condition target link) r = Counts counter r ⊎ GoesThrough target r
Reads System r = (r ≡ 0) ⊎ (r ≡ 3) ⊎ (r ≡ 4) ⊎ (r ≡ 5)

-- the register, if there is one, is r
abbrev pub Updates : Option ℕ → ℕ → Type 0
Updates None r = ⊥
Updates (Some q) r = q ≡ r

-- the branch sets the link register, r
abbrev pub Links : Bool → ℕ → Type 0
Links false r = ⊥
Links true r = link_register ≡ r

-- the operation writes register r, of 34
abbrev pub Writes : Operation → ℕ → Type 0
Writes (Copy to from rc) r = to ≡ r
Writes (Calculate function to x y rc) r = to ≡ r
Writes (Divide sign to x y rc) r = to ≡ r
Writes (Compare field width sign x y) r = ⊥
Writes (Load width sign to base offset) r = to ≡ r
Writes (Store width from base offset update) r = Updates update r
Writes (Branch counter condition target link) r = Counts counter r ⊎ Links link r
Writes System r = r ≡ 3

-- what the operation itself does with memory; a system call's reads and writes are the system's
abbrev pub access_of : Operation → Access
access_of (Copy to from rc) = access.None
access_of (Calculate function to x y rc) = access.None
access_of (Divide sign to x y rc) = access.None
access_of (Compare field width sign x y) = access.None
access_of (Load width sign to base offset) = access.Load
access_of (Store width from base offset update) = access.Store
access_of (Branch counter condition target link) = access.None
access_of System = access.None
