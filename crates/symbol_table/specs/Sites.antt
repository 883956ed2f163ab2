-- Where the field of each kind of relocation may stand, and on which words (ELFv2 ABI, "Relocation Types Table" and "Relocation
-- Fields"; Power ISA 3.1, book I, "Instruction Formats").
use Rattle.std.specs.Prelude.{ℕ, ◌/◌, ◌%◌, ◌^◌, Bool, true, false, not, ◌&&◌, ◌||◌, ◌==◌, nat_le}
use Rattle.object_set.specs.declared.sort.Sort.{Sort}
use Rattle.object_set.specs.Sections.{is_text_sort}
use Rattle.object_set.specs.declared.sort.Sort.TheVariants.{Text, Zeroed, Toc, Writable, ReadOnly, Dropped}
use Rattle.reloc_fields.specs.declared.kind.Kind.{Kind}
use Rattle.reloc_fields.specs.declared.kind.Kind.TheVariants as kind
use Rattle.symbol_table.specs.declared.sites.Stand.{Stand}
use Rattle.symbol_table.specs.declared.sites.Stand.TheVariants.{Anywhere, InText, InData, InBoth}
use Rattle.symbol_table.specs.declared.sites.Words.{Words}
use Rattle.symbol_table.specs.declared.sites.Words.TheVariants.{AnyWords, Branch, ConditionalBranch, DoublewordForm, RelativePair, RelativeLoad}
use Rattle.symbol_table.specs.declared.sites.SiteRule.{SiteRule}

-- a line of the table
abbrev rule : Stand → Words → SiteRule
rule stand words = record { stand = stand; words = words }

abbrev pub rule_of : Kind → SiteRule
rule_of kind.None = rule Anywhere AnyWords
rule_of kind.Addr32 = rule InBoth AnyWords
rule_of kind.Addr16 = rule InText AnyWords
rule_of kind.Addr16Lo = rule InText AnyWords
rule_of kind.Addr16Hi = rule InText AnyWords
rule_of kind.Addr16Ha = rule InText AnyWords
rule_of kind.Rel24 = rule InText Branch
rule_of kind.Rel14 = rule InText ConditionalBranch
rule_of kind.Rel32 = rule InBoth AnyWords
rule_of kind.Addr64 = rule InBoth AnyWords
rule_of kind.Rel64 = rule InData AnyWords
rule_of kind.Toc16 = rule InText AnyWords
rule_of kind.Toc16Lo = rule InText AnyWords
rule_of kind.Toc16Hi = rule InText AnyWords
rule_of kind.Toc16Ha = rule InText AnyWords
rule_of kind.Toc = rule InData AnyWords
rule_of kind.Addr16Ds = rule InText DoublewordForm
rule_of kind.Addr16LoDs = rule InText DoublewordForm
rule_of kind.Toc16Ds = rule InText DoublewordForm
rule_of kind.Toc16LoDs = rule InText DoublewordForm
rule_of kind.Tocsave = rule Anywhere AnyWords
rule_of kind.Rel24Notoc = rule InText Branch
rule_of kind.PcrelOpt = rule Anywhere AnyWords
rule_of kind.Pcrel34 = rule InText RelativePair
rule_of kind.GotPcrel34 = rule InText RelativeLoad
rule_of kind.Rel16Lo = rule InText AnyWords
rule_of kind.Rel16Ha = rule InText AnyWords

-- a section of this sort has bytes that are no instructions
abbrev pub is_data_sort : Sort → Bool
is_data_sort Text = false
is_data_sort Zeroed = false
is_data_sort Toc = true
is_data_sort Writable = true
is_data_sort ReadOnly = true
is_data_sort Dropped = false

-- a field may stand in a section of this sort
abbrev pub admits : Stand → Sort → Bool
admits Anywhere sort = true
admits InText sort = is_text_sort sort
admits InData sort = is_data_sort sort
admits InBoth sort = is_text_sort sort || is_data_sort sort

-- it may stand in text alone, and so fills an instruction
abbrev pub is_text_only : Stand → Bool
is_text_only Anywhere = false
is_text_only InText = true
is_text_only InData = false
is_text_only InBoth = false

-- the primary opcode of a word: its high six bits
abbrev pub primary_opcode : ℕ → ℕ
primary_opcode word = word / 2 ^ 26

-- `b`, and `bc`, with a displacement: the bit AA isn't set
abbrev pub is_relative : ℕ → ℕ → Bool
is_relative opcode word = primary_opcode word == opcode && word / 2 % 2 == 0

-- a load or store whose displacement is a multiple of 4: a DS or DQ form
abbrev pub is_doubleword_form : ℕ → Bool
is_doubleword_form word = primary_opcode word == 57 || primary_opcode word == 58 || primary_opcode word == 62

-- a prefixed instruction whose base is its own address: R is set, and RA is 0
abbrev pub is_relative_pair : ℕ → ℕ → Bool
is_relative_pair prefix suffix = primary_opcode prefix == 1 && prefix / 2 ^ 20 % 2 == 1 && suffix / 2 ^ 16 % 32 == 0

-- `pld` with that base: the type of the prefix is 0, and its other bits but for the displacement are 0 too
abbrev pub is_relative_load : ℕ → ℕ → Bool
is_relative_load prefix suffix =
    prefix / 2 ^ 18 == 0x104 && primary_opcode suffix == 57 && suffix / 2 ^ 16 % 32 == 0

-- how many bytes of words are looked at
abbrev pub size_of : Words → ℕ
size_of AnyWords = 0
size_of Branch = 4
size_of ConditionalBranch = 4
size_of DoublewordForm = 4
size_of RelativePair = 8
size_of RelativeLoad = 8

-- words suit a relocation, but for those of which the whole form isn't built
abbrev pub suit : Words → ℕ → ℕ → Bool
suit AnyWords first second = true
suit Branch first second = is_relative 18 first
suit ConditionalBranch first second = is_relative 16 first
suit DoublewordForm first second = true
suit RelativePair first second = is_relative_pair first second
suit RelativeLoad first second = is_relative_load first second

-- a relocation of loads and stores whose displacement is a multiple of 4 stands on another word
abbrev pub are_left_out : Words → ℕ → Bool
are_left_out AnyWords first = false
are_left_out Branch first = false
are_left_out ConditionalBranch first = false
are_left_out DoublewordForm first = not (is_doubleword_form first)
are_left_out RelativePair first = false
are_left_out RelativeLoad first = false

-- relocations of thread-local storage, by number (ELFv2 ABI, "Relocation Types Table": those of TLS)
abbrev is_from : ℕ → ℕ → ℕ → Bool
is_from first last number = nat_le first number && nat_le number last

abbrev pub is_thread_local : ℕ → Bool
is_thread_local number = is_from 67 108 number || is_from 112 115 number || is_from 146 151 number
