-- One program header as the reader holds it.
use Rattle.std.specs.Prelude.{ℕ, ◌≡◌, ◌+◌, ◌≤◌, List}
use Rattle.ppc_bytes.specs.Bytes.{number_at}
use Rattle.elf64_exec.specs.declared.memory_map.TheConstants.{MEMORY_END}
use Rattle.elf64_exec.specs.declared.reading.ProgramHeader.{ProgramHeader}

-- it has the fields that stand at a place of the file
pub record IsHeaderAt (file : List ℕ) (at : ℕ) (h : ProgramHeader) : Type 0 where
  pub kind : h.kind ≡ number_at 4 file at
  pub flags : h.flags ≡ number_at 4 file (at + 4)
  pub offset : h.offset ≡ number_at 8 file (at + 8)
  pub address : h.address ≡ number_at 8 file (at + 16)
  pub stored : h.stored ≡ number_at 8 file (at + 32)
  pub size : h.size ≡ number_at 8 file (at + 40)

-- it can be loaded from a file of this length, after memory that ends at top
pub record CanFollow (length top : ℕ) (h : ProgramHeader) : Type 0 where
  pub inside : h.offset + h.stored ≤ length
  pub held : h.stored ≤ h.size
  pub below : h.address + h.size ≤ MEMORY_END
  pub after : top ≤ h.address
