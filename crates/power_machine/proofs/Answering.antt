-- Lists of answers.
use Rattle.std.proofs.Common.{List, [], ◌∷◌, ◌++◌, get_or, subst}
use Rattle.std.proofs.lemmas.List.Elements.{All-push}
use Rattle.std.proofs.lemmas.Option.{get_or_from_slice_get, slice_get-get_or, slice_get_within}
use Rattle.power_machine.specs.declared.world.Answer.{Answer}
use Rattle.power_machine.specs.Calls.{IsAnswer, AreAnswers}

pub answers_pushed : (answers : List Answer) (a : Answer) → AreAnswers answers → IsAnswer a → AreAnswers (answers ++ a ∷ [])
answers_pushed answers a are is k b e =
    let all = All-push IsAnswer answers a (λ i d less. are i (get_or answers i d) (slice_get-get_or answers i d less)) is in
    subst IsAnswer (get_or_from_slice_get (answers ++ a ∷ []) k b b e) (all k b (slice_get_within (answers ++ a ∷ []) k b e))
