-- The member behind those that are passed.
use Rattle.std.proofs.Common.{◌≡◌, ℕ, ◌≤◌, List, [], drop, ap, sym, ◌∙◌, arith}
use Rattle.ppc_archive.specs.Archive.{MemberFacts}
use Rattle.ppc_archive.specs.inside.Spots.{facts_of}
use Rattle.ppc_archive.proofs.Passing.{passed, first_left, none_there}
use Rattle.ppc_archive.proofs.member_list.Members.get.Goals as goal

at_end : (members left : List MemberFacts) (k i : ℕ) → k ≤ i → i ≤ k → left ≡ drop k members → drop i members ≡ left
at_end members left k i most least is = let same : i ≡ k = omega (arith, most, least) in ap (λ (n : ℕ). drop n members) same ∙ sym is

pub loop-init : goal.loop-init
loop-init c = c.iter-left.ensures

pub loop-preserved : goal.loop-preserved
loop-preserved c =
    passed facts_of c.args.self.now c.loop.left c.next.new.self c.next.result c.loop.counter c.loop.invariant c.next.ensures.steps

pub returns-clause-name : goal.returns-clause-name
returns-clause-name c =
    ap (λ (m : MemberFacts). m.name)
    (first_left c.args.self.now _ (facts_of c.in-Some.member) (record { name = []; bytes = [] }) c.args.i
    (at_end c.args.self.now c.loop.left c.loop.counter c.args.i c.loop.auto.counter-end c.loop-test.false c.loop.invariant
    ∙ c.in-Some.ensures.steps))

pub returns-clause-bytes : goal.returns-clause-bytes
returns-clause-bytes c =
    ap (λ (m : MemberFacts). m.bytes)
    (first_left c.args.self.now _ (facts_of c.in-Some.member) (record { name = []; bytes = [] }) c.args.i
    (at_end c.args.self.now c.loop.left c.loop.counter c.args.i c.loop.auto.counter-end c.loop-test.false c.loop.invariant
    ∙ c.in-Some.ensures.steps))

pub returns-in_default-clause-name : goal.returns-in_default-clause-name
returns-in_default-clause-name c =
    ap (λ (m : MemberFacts). m.name)
    (none_there c.args.self.now (record { name = []; bytes = [] }) c.args.i
    (at_end c.args.self.now c.loop.left c.loop.counter c.args.i c.loop.auto.counter-end c.loop-test.false c.loop.invariant
    ∙ c.in_default.ensures.steps.0))

pub returns-in_default-clause-bytes : goal.returns-in_default-clause-bytes
returns-in_default-clause-bytes c =
    ap (λ (m : MemberFacts). m.bytes)
    (none_there c.args.self.now (record { name = []; bytes = [] }) c.args.i
    (at_end c.args.self.now c.loop.left c.loop.counter c.args.i c.loop.auto.counter-end c.loop-test.false c.loop.invariant
    ∙ c.in_default.ensures.steps.0))
