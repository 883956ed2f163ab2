-- The map holds the copy under the name, and every other name what it held.
use Rattle.std.proofs.Common.{arith}
use Rattle.std.proofs.lemmas.Map.Text.{text_keys}
use Rattle.ppc_outside.proofs.mem_store.MemStore.add.Goals as goal

pub returns-in-Ok-insert-clause-ok : goal.returns-in-Ok-insert-clause-ok
returns-in-Ok-insert-clause-ok c = record {
  holds = grind (arith, text_keys);
  others = λ other differs. grind (arith, text_keys);
}
