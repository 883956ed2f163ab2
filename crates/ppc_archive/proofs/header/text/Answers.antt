-- The test is that of UTF-8.
use Rattle.std.proofs.Common.{true, false, ◌≡◌, arith}
use Rattle.std.specs.Str.{is_utf8}
use Rattle.std.proofs.lemmas.Bool.{false_from_ne_true}
use Rattle.std.proofs.lemmas.Str.{IsUtf8-from_is_utf8, is_utf8-from_IsUtf8}
use Rattle.ppc_archive.proofs.header.text.Goals as goal

pub returns-in-Ok : goal.returns-in-Ok
returns-in-Ok c =
    let is : is_utf8 c.args.name.now ≡ true = is_utf8-from_IsUtf8 c.args.name.now c.in-Ok.ensures.cases.1 in
    grind (arith, is)

pub returns-in-Err : goal.returns-in-Err
returns-in-Err c =
    let is : is_utf8 c.args.name.now ≡ false = false_from_ne_true _ (λ yes. c.in-Err.ensures.cases.0 (IsUtf8-from_is_utf8 _ yes)) in
    grind (arith, is)
