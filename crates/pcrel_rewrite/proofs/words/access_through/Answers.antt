use Rattle.std.proofs.Common.{◌≡◌, ◌≢◌, rules}
use Rattle.power_insns.specs.declared.uses.Access.TheVariants as memory
use Rattle.power_insns.specs.Operations.{operation_of}
use Rattle.power_insns.specs.Uses.{access_of}
use Rattle.pcrel_rewrite.proofs.PairWords.{other_base, own_store}
use Rattle.pcrel_rewrite.proofs.words.access_through.Goals as goal

-- the base is another register
pub returns-then-found-address-clause-none : goal.returns-then-found-address-clause-none
returns-then-found-address-clause-none c = λ uses.
    let found = c.in_ok-found.found in
    let other : found.form.base ≢ c.args.address = search rules in
    other_base c.args.word c.args.address found c.in_ok-found.ensures.some other uses

-- the register of the address is stored
pub returns-then-found-address-2-clause-none : goal.returns-then-found-address-2-clause-none
returns-then-found-address-2-clause-none c = λ uses.
    let found = c.in_ok-found.found in
    let store : access_of (operation_of found.insn) ≡ memory.Store = search rules in
    let own : found.form.register ≡ c.args.address = search rules in
    own_store c.args.word c.args.address found c.in_ok-found.ensures.some store own uses
