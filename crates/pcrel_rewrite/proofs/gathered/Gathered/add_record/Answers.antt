use Rattle.std.proofs.Common.{ℕ, List, subst, refl, rules}
use Rattle.pcrel_rewrite.specs.Words.{ArePairWords}
use Rattle.pcrel_rewrite.proofs.Gathering.{asks_one, loads_one}
use Rattle.pcrel_rewrite.proofs.gathered.Gathered.add_record.Goals as goal

-- a pair whose words agree
pub returns-in_ok-push : goal.returns-in_ok-push
returns-in_ok-push c =
    asks_one c.args.resolved.now.files c.args.id c.args.self.now _ _
    (record {
      section_is = c.requires.section;
      kind_is = search rules;
      head_is = search rules;
      distance = search rules;
      words = subst (λ (l : List ℕ). ArePairWords l c.rela-rela.result.offset c.in-Some.tail) c.requires.bytes c.in-Some.ensures.some;
    })
    c.in_ok-push.ensures.items refl

-- a load of an address
pub returns-in_ok-push-2 : goal.returns-in_ok-push-2
returns-in_ok-push-2 c =
    loads_one c.args.resolved.now.files c.args.id c.args.self.now _ _
    (record { section_is = c.requires.section; kind_is = search rules; offset_is = search rules; address = search rules })
    c.in_ok-push-2.ensures.items refl
