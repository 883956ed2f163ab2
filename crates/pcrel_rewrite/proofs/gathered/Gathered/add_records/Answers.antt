use Rattle.std.proofs.Common.{◌≡◌, ℕ, List, ap, ◌∙◌, subst, arith}
use Rattle.elf64_records.specs.Records.{record_count}
use Rattle.object_set.specs.declared.places.RecordId.{RecordId}
use Rattle.object_set.specs.Files.{file_at}
use Rattle.pcrel_rewrite.specs.inside.Joins.{Before}
use Rattle.pcrel_rewrite.specs.inside.Gathered.{IsAskedBy, IsLoadBy, Gathers, AskedAt, LoadedAt}
use Rattle.pcrel_rewrite.proofs.Gathering.{gathers_more}
use Rattle.pcrel_rewrite.proofs.gathered.Gathered.add_records.Goals as goal

abbrev record_at : ℕ → ℕ → ℕ → ℕ → RecordId
record_at file table entry section = record { file = file; table = table; entry = entry; section = section }

-- one record more
pub loop-entry-preserved : goal.loop-entry-preserved
loop-entry-preserved c =
    let files = c.args.resolved.now.files in
    let file = c.args.file in
    let table = c.args.table in
    let n = c.loop-entry.entry in
    gathers_more (AskedAt files file table) (LoadedAt files file table) n c.args.self.now c.loop-entry.self c.add_record.new.self
    c.loop-entry.invariant
    (subst (λ (s : ℕ). Gathers (IsAskedBy files (record_at file table n s)) (IsLoadBy files (record_at file table n s)) c.loop-entry.self
    c.add_record.new.self) c.requires.about c.in_ok-add_record.ensures)

-- those of all records
pub returns : goal.returns
returns c =
    let files = c.args.resolved.now.files in
    let file = c.args.file in
    let table = c.args.table in
    let count = c.record_count-entry-end.ensures ∙ ap (λ (l : List ℕ). record_count l table) c.view-view.ensures
    ∙ ap (λ (s : List (List ℕ)). record_count (file_at s file) table) c.set.ensures in
    let all : c.loop-entry.entry ≡ record_count (file_at files file) table = omega (arith, count) in
    subst (λ (n : ℕ). Gathers (Before (AskedAt files file table) n) (Before (LoadedAt files file table) n) c.args.self.now
    c.loop-entry.self)
    all c.loop-entry.invariant
