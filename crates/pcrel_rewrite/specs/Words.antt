-- The words of a load of an address and of the access that uses it (ELFv2 ABI, "Relocation Descriptions": R_PPC64_PCREL_OPT). Of `pld rX`,
-- relative to its own address, and a load or store by a displacement from rX one instruction can be made where nothing between them
-- notices that the load happens earlier, or the store.
use Rattle.std.specs.Prelude.{◌≡◌, ◌≢◌, ◌<◌, ◌≤◌, ◌+◌, ◌-◌, ◌*◌, ◌%◌, ℕ, Bool, true, false, List, length, Some}
use Rattle.ppc_bytes.specs.Bytes.{number_at}
use Rattle.power_insns.specs.declared.instruction.Insn.{Insn}
use Rattle.power_insns.specs.declared.meaning.Operation.{Operation}
use Rattle.power_insns.specs.declared.meaning.Operation.TheVariants.{Branch, System}
use Rattle.power_insns.specs.declared.uses.Access.{Access}
use Rattle.power_insns.specs.declared.uses.Access.TheVariants as memory
use Rattle.power_insns.specs.Table.{word_of, Fits as FitsWord}
use Rattle.power_insns.specs.Operations.{operation_of}
use Rattle.power_insns.specs.Uses.{Reads, Writes, access_of}
use Rattle.prefixed_insns.specs.declared.instruction.POp.TheVariants.{Pld}
use Rattle.prefixed_insns.specs.declared.instruction.PInsn.{PInsn}
use Rattle.prefixed_insns.specs.Table.{prefix_of, suffix_of, Fits as FitsPair}
use Rattle.prefixed_insns.specs.ShortForms.{short_form_of}
use Rattle.pcrel_rewrite.specs.declared.words.ShortAccess.{ShortAccess}
use Rattle.pcrel_rewrite.specs.declared.words.Uses.{Uses}

-- a word is that of an instruction
pub record IsWordOf (insn : Insn) (word : ℕ) : Type 0 where
  pub fits : FitsWord insn
  pub word_is : word_of insn ≡ word

-- two words are `pld` of a register, relative to its own address. In r0 there is no address: as a base it stands for the number 0
pub record LoadsAddress (prefix suffix register : ℕ) : Type 0 where
  pub insn : PInsn
  pub fits : FitsPair insn
  pub prefix_is : prefix_of insn ≡ prefix
  pub suffix_is : suffix_of insn ≡ suffix
  pub op_is : insn.op ≡ Pld
  pub relative : insn.relative ≡ true
  pub register_is : insn.rt ≡ register
  pub some : 0 < register

-- an operation goes on at the next instruction, and is no call of the system
abbrev pub is_straight : Operation → Bool
is_straight (Branch counter condition target link) = false
is_straight System = false
is_straight other = true

-- an operation neither reads nor writes a register
pub record Spares (operation : Operation) (register : ℕ) : Type 0 where
  pub reads : ¬ Reads operation register
  pub writes : ¬ Writes operation register

-- An access may be made before another one: a load before loads, and a store before nothing that touches memory.
abbrev pub may_pass : Access → Access → Bool
may_pass memory.Load memory.Store = false
may_pass memory.Store memory.Load = false
may_pass memory.Store memory.Store = false
may_pass access other = true

-- an access may be made before an instruction
pub record MayPass (uses : Uses) (insn : Insn) : Type 0 where
  pub straight : is_straight (operation_of insn) ≡ true
  pub address : Spares (operation_of insn) uses.address
  pub register : Spares (operation_of insn) uses.register
  pub memory : may_pass uses.access (access_of (operation_of insn)) ≡ true

-- a word is that of such an instruction
pub record IsPassed (uses : Uses) (word : ℕ) : Type 0 where
  pub insn : Insn
  pub is : IsWordOf insn word
  pub passed : MayPass uses insn

-- the access stands a multiple of 4 behind the load, from 8 to 128 bytes: behind both words of the load, and in the reach that this
-- linker has set itself
pub record IsNear (head tail : ℕ) : Type 0 where
  pub least : head + 8 ≤ tail
  pub most : tail ≤ head + 128
  pub aligned : (tail - head) % 4 ≡ 0

-- a word is a load or store by a displacement from a register, which has a prefixed form
pub record IsShortWord (word : ℕ) (access : ShortAccess) : Type 0 where
  pub is : IsWordOf access.insn word
  pub form_is : short_form_of access.insn ≡ Some access.form

-- a word loads or stores by a displacement from the register that holds the address. A store stores another register: the two become
-- one instruction, after which that one doesn't hold the address
pub record IsAccess (word address : ℕ) (uses : Uses) : Type 0 where
  pub access : ShortAccess
  pub here : IsShortWord word access
  pub base_is : access.form.base ≡ address
  pub uses_is : uses ≡ record { address = address; register = access.form.register; access = access_of (operation_of access.insn) }
  pub other : uses.access ≡ memory.Store → uses.register ≢ address

-- among the bytes of a section the words at the head and at the tail are such a load and such an access, and the access may be made
-- before all words between them
pub record ArePairWords (bytes : List ℕ) (head tail : ℕ) : Type 0 where
  pub near : IsNear head tail
  pub within : tail + 4 ≤ length bytes
  pub address : ℕ
  pub loads : LoadsAddress (number_at 4 bytes head) (number_at 4 bytes (head + 4)) address
  pub uses : Uses
  pub access : IsAccess (number_at 4 bytes tail) address uses
  pub between : (k : ℕ) → head + 8 + 4 * k < tail → IsPassed uses (number_at 4 bytes (head + 8 + 4 * k))
