-- Where calls go.
use Rattle.std.proofs.Common.{◌≡◌, ℕ, true, List, None, Some, sym, ◌∙◌, subst, refl, arith}
use Rattle.std.specs.Prelude.{IsSome}
use Rattle.object_set.specs.Refusals.{set_refusal}
use Rattle.symbol_table.specs.declared.fields.RecordField.{RecordField}
use Rattle.symbol_table.specs.declared.target.Target.{Target}
use Rattle.symbol_table.specs.declared.target.Target.TheVariants as target
use Rattle.symbol_table.specs.Records.{may_call, records_refusal}
use Rattle.call_sites.specs.Sites.{call_target}
use Rattle.call_sites.specs.laws.CodePlaces.{code_place}
use Rattle.call_sites.specs.laws.SoundCalls.{call_sound}
use Rattle.call_sites.specs.inside.Calls.{IsCall, MayEnter}

may_enter : (files : List (List ℕ)) (t : Target) → set_refusal files ≡ None → may_call files t ≡ true → MayEnter files t
may_enter files (target.Data piece addend) whole may = tt
may_enter files (target.Code k offset) whole may =
    let place = code_place files k offset whole may in
    (place.1.number, omega (arith, place.1.within, place.1.small))
may_enter files (target.Number n) whole may = tt
may_enter files (target.TocBase file addend) whole may = tt
may_enter files (target.WeakNone addend) whole may = tt

-- a call goes somewhere
pub call_goes : (files : List (List ℕ)) (f : RecordField) → set_refusal files ≡ None → records_refusal files ≡ None → IsCall files f →
    IsSome (call_target files f)
call_goes files f whole sound is =
    let goes = (call_sound files f whole sound is).goes in
    subst IsSome (sym goes.1.is) refl

-- and where it goes it may enter
pub call_enters : (files : List (List ℕ)) (f : RecordField) (t : Target) → set_refusal files ≡ None → records_refusal files ≡ None →
    IsCall files f → call_target files f ≡ Some t → MayEnter files t
call_enters files f t whole sound is found =
    let goes = (call_sound files f whole sound is).goes in
    let same : goes.0 ≡ t = (let both = sym goes.1.is ∙ found in cc) in
    subst (MayEnter files) same (may_enter files goes.0 whole goes.1.may)
