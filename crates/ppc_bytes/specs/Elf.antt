-- What the file headers of little-endian 64-bit Power files share (ELF64, "ELF Header"; ELFv2 ABI, 3.1 "ELF Header"). Each field is
-- the number at its offset.
use Rattle.std.specs.Prelude.{ℕ, Bool, List, IsTrue, length, slice_index, ◌&&◌, ◌==◌, nat_le}
use Rattle.ppc_bytes.specs.Bytes.{number_at}

abbrev pub e_type : List ℕ → ℕ
e_type b = number_at 2 b 16

abbrev pub e_machine : List ℕ → ℕ
e_machine b = number_at 2 b 18

abbrev pub e_version : List ℕ → ℕ
e_version b = number_at 4 b 20

abbrev pub e_flags : List ℕ → ℕ
e_flags b = number_at 4 b 48

-- the file begins with 7F 45 4C 46
abbrev pub has_magic : List ℕ → Bool
has_magic b = nat_le 4 (length b) && number_at 4 b 0 == 0x464C457F

-- EI_CLASS, EI_DATA and EI_VERSION say 64 bits, little-endian and the current version; the machine is EM_PPC64
abbrev pub is_ppc64_le : List ℕ → Bool
is_ppc64_le b =
    slice_index b 4 == 2 && slice_index b 5 == 1 && slice_index b 6 == 1 && e_machine b == 21 && e_version b == 1

-- the two tests as facts
abbrev pub HasMagic : List ℕ → Type 0
HasMagic b = IsTrue (has_magic b)

abbrev pub IsPpc64Le : List ℕ → Type 0
IsPpc64Le b = IsTrue (is_ppc64_le b)
