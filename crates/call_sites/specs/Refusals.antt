-- Why the calls of a link are refused.
use Rattle.std.specs.Prelude.{ℕ, List, not, ◌&&◌, nat_lt, sum_by, Option}
use Rattle.elf64_records.specs.First.{◌orelse◌, when, first_in}
use Rattle.elf64_records.specs.Sections.{sh_size}
use Rattle.object_set.specs.declared.places.SectionId.{SectionId}
use Rattle.object_set.specs.declared.refusal.Refusal.{Refusal}
use Rattle.object_set.specs.declared.refusal.Refusal.TheVariants.{NoRestore, TextTooBig}
use Rattle.object_set.specs.Files.{file_at}
use Rattle.symbol_table.specs.Text.{text_sections}
use Rattle.call_sites.specs.declared.site.CallSite.{CallSite}
use Rattle.ppc_bytes.specs.declared.constants.TheConstants.{TEXT_LIMIT}
use Rattle.call_sites.specs.Sites.{call_sites}

-- the bytes of all text sections together
abbrev pub section_size : List (List ℕ) → SectionId → ℕ
section_size files s = sh_size (file_at files s.file) s.section

abbrev pub text_size : List (List ℕ) → ℕ
text_size files = sum_by (section_size files) (text_sections files)

-- r2 must be restored behind a call, and there is no slot for it: a branch that isn't `bl` has none
abbrev pub restore_refusal : CallSite → Option Refusal
restore_refusal site = when (site.restore && not site.slot) (NoRestore site.site)

-- more text than can be, and then the first call without its slot
abbrev pub sites_refusal : List (List ℕ) → List ℕ → Option Refusal
sites_refusal files groups =
    when (nat_lt TEXT_LIMIT (text_size files)) TextTooBig
    orelse first_in restore_refusal (call_sites files groups)
