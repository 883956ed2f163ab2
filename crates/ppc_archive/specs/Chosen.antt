-- What the choice of a link's files answers.
use Rattle.std.specs.Prelude.{ℕ, ⊤, List, Result, Ok, Err, Vec}
use Rattle.std.specs.declared.alloc.Global.{Global}
use Rattle.object_set.specs.declared.files.FileBytes.{FileBytes}
use Rattle.ppc_archive.specs.declared.fault.ChooseFault.{ChooseFault}
use Rattle.ppc_archive.specs.declared.fault.ChooseFault.TheVariants.{Refused, Memory}
use Rattle.ppc_archive.specs.Expand.{NamedFile, named_files, named_refusal, ChoosesTo}

-- the answer is what the files come to, but for want of memory
abbrev pub Chooses : List NamedFile → List ℕ → Result (Vec FileBytes Global) ChooseFault → Type 0
Chooses files entry (Ok job) = ChoosesTo files entry (Ok (named_files job.items))
Chooses files entry (Err (Refused name refusal)) = ChoosesTo files entry (Err (named_refusal name refusal))
Chooses files entry (Err Memory) = ⊤
