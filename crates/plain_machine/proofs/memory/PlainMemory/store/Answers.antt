-- A number is stored as its low bytes.
use Rattle.std.proofs.Common.{ℕ, List, ◌∙◌, sym, ap, subst, length, map, take}
use Rattle.std.specs.Int.{w64, to_le_bytes}
use Rattle.power_insns.specs.Arithmetic.{bytes_of}
use Rattle.plain_machine.specs.declared.value.PlainValue.{PlainValue}
use Rattle.plain_machine.specs.declared.value.Cell.{Cell}
use Rattle.plain_machine.specs.declared.value.Cell.TheVariants as cell
use Rattle.plain_machine.specs.Plain.{split}
use Rattle.plain_machine.specs.inside.Memory.{Stores}
use Rattle.plain_machine.proofs.Performing.{number_split, split_length}
use Rattle.plain_machine.proofs.memory.PlainMemory.store.Goals as goal

pub returns-in-Number-default : goal.returns-in-Number-default
returns-in-Number-default c =
    let m = c.args.self.now in
    let new = c.put_numbers.new.self in
    let width = c.args.width in
    let n = c.in-Number-default.n in
    let bytes : List ℕ = take (bytes_of width) (to_le_bytes w64 n) in
    let put = subst (λ (xs : List ℕ). Stores m new c.args.at (length xs) (map cell.Number xs) c.put_numbers.result)
    (ap (λ (k : ℕ). take k c.to_le_bytes.result) c.size_of-count.ensures ∙ ap (take (bytes_of width)) c.to_le_bytes.ensures)
    c.put_numbers.ensures in
    let long = subst (λ (k : ℕ). Stores m new c.args.at k (map cell.Number bytes) c.put_numbers.result) (split_length width n) put in
    let cells = subst (λ (cs : List Cell). Stores m new c.args.at (bytes_of width) cs c.put_numbers.result) (sym (number_split width n))
    long in
    subst (λ (v : PlainValue). Stores m new c.args.at (bytes_of width) (split width v) c.put_numbers.result)
    (sym c.in-Number-default.is-0) cells
