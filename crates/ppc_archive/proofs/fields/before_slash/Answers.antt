-- A byte that doesn't end the name is one of it.
use Rattle.std.proofs.Common.{◌≡◌, ℕ, ◌-◌, ◌++◌, false, List, length, length-drop, take, drop, ap, sym, ◌∙◌, add-one, arith}
use Rattle.std.proofs.Math.Seq.{take-length}
use Rattle.std.specs.Prelude.{codes, nat_eq}
use Rattle.std.specs.List.{starts_with}
use Rattle.std.specs.Option.{option_map}
use Rattle.ppc_archive.specs.Archive.{before_slash}
use Rattle.ppc_archive.proofs.FieldText.{slash_step}
use Rattle.ppc_archive.proofs.fields.before_slash.Goals as goal

pub loop-i-preserved : goal.loop-i-preserved
loop-i-preserved c =
    let table = c.args.table.now in
    let i = c.loop-i.i in
    let rest : take (length table - i) (drop i table) ≡ drop i table =
    ap (λ (n : ℕ). take n (drop i table)) (sym (length-drop i table)) ∙ take-length (drop i table) in
    let other : starts_with nat_eq (drop i table) (codes "/\n") ≡ false =
    ap (λ (l : List ℕ). starts_with nat_eq l (codes "/\n")) (sym rest) ∙ sym c.starts_with.ensures.value ∙ c.if-starts_with.false in
    ap (λ (n : ℕ). option_map (λ name. take n table ++ name) (before_slash (drop n table))) (add-one c.loop-i.i)
    ∙ slash_step table c.loop-i.i (omega arith) other
    ∙ c.loop-i.invariant
