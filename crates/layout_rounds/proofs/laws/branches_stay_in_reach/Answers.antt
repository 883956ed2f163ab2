use Rattle.layout_rounds.proofs.Branching.{reach_fits, stub_branches}
use Rattle.layout_rounds.proofs.laws.branches_stay_in_reach.Goals as goal

-- the span is at most what a branch holds
pub returns-clause-calls : goal.returns-clause-calls
returns-clause-calls c span at to is_span holds = reach_fits span at to is_span holds

-- both ends of the stub's area reach the place, so all between them does
pub returns-clause-stubs : goal.returns-clause-stubs
returns-clause-stubs c t sites span F keyed is_span closed k lt = stub_branches t keyed sites span is_span F closed k lt
