-- data_bytes-requires: the plan is that of the files, no record is refused, and each text section has an address.
use Rattle.std.proofs.Common.{◌≡◌, List, ℕ, None, subst, sym, ◌∙◌}
use Rattle.elf64_records.specs.laws.First.{both_none}
use Rattle.symbol_table.specs.Records.{records_refusal}
use Rattle.toc_groups.specs.Plans.{IsPlan}
use Rattle.toc_groups.proofs.tests.bytes.outcome.Goals as goal

pub data_bytes-requires : goal.data_bytes-requires
data_bytes-requires c =
    let plan = c.in-Ok-lay_data.plan in
    let files = c.in-Ok-resolve.res.files in
    let is = c.in-Ok-lay_data.ensures.plan in
    let some = (both_none _ _ c.in-Ok-resolve.ensures.refusal).1 in
    let none = (both_none _ _ some).1 in
    record {
      plan_is = subst (λ (s : ℕ). IsPlan files s plan) (sym is.span_is) is;
      records = subst (λ (fs : List (List ℕ)). records_refusal fs ≡ None) (sym c.in-Ok-resolve.ensures.files) none;
      texts = c.in_ok-text.ensures ∙ c.text_count-count.ensures;
    }
