use Rattle.layout_rounds.proofs.Called.{are_calls}
use Rattle.layout_rounds.proofs.laws.calls_have_keys.Goals as goal

-- keys are those of calls
pub returns-clause-keyed : goal.returns-clause-keyed
returns-clause-keyed c shape span sound = (are_calls shape span sound).keyed

-- there is a number for each call
pub returns-clause-count : goal.returns-clause-count
returns-clause-count c shape span sound = (are_calls shape span sound).count

-- of a key that there is
pub returns-clause-numbered : goal.returns-clause-numbered
returns-clause-numbered c shape span i sound lt = (are_calls shape span sound).numbered i lt
