-- The file header of a relocatable file, at its front (ELF64, "ELF Header"). Each field is the number at its offset.
use Rattle.std.specs.Prelude.{ℕ, List}
use Rattle.ppc_bytes.specs.Bytes.{number_at}
pub use Rattle.ppc_bytes.specs.Elf.{e_type, e_machine, e_version, e_flags, has_magic, is_ppc64_le}

abbrev pub e_shoff : List ℕ → ℕ
e_shoff b = number_at 8 b 40

abbrev pub e_shentsize : List ℕ → ℕ
e_shentsize b = number_at 2 b 58

abbrev pub e_shnum : List ℕ → ℕ
e_shnum b = number_at 2 b 60

abbrev pub e_shstrndx : List ℕ → ℕ
e_shstrndx b = number_at 2 b 62
