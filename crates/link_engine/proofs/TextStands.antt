-- What a link lays out is the text of a job.
use Rattle.std.proofs.Common.{ℕ, ◌≡◌, ◌≤◌, Bool, true, false, List, None, refl, arith}
use Rattle.std.specs.Prelude.{nat_lt}
use Rattle.std.proofs.lemmas.Bool.Decides.{nat_tests}
use Rattle.elf64_records.specs.First.{when, first_in}
use Rattle.elf64_records.specs.laws.First.{both_none}
use Rattle.object_set.specs.declared.refusal.Refusal.{Refusal}
use Rattle.object_set.specs.declared.refusal.Refusal.TheVariants.{TextTooBig}
use Rattle.ppc_bytes.specs.declared.constants.TheConstants.{TEXT_LIMIT}
use Rattle.toc_groups.specs.Data.{data_refusal}
use Rattle.toc_groups.specs.Plans.{IsPlan}
use Rattle.call_sites.specs.Refusals.{restore_refusal, text_size}
use Rattle.call_sites.specs.Sites.{call_sites}
use Rattle.call_sites.specs.laws.SiteOrder.{few_sites}
use Rattle.image_writer.specs.LaidText.{HasCalls}
use Rattle.image_writer.specs.Plan.{data_plan}
use Rattle.link_engine.specs.Link.{plan_of, calls_of, early_refusal}
use Rattle.link_engine.specs.Options.{LinkOptions}
use Rattle.link_engine.specs.laws.Outcomes.{passed}

-- the plan of files whose data isn't too big is one
pub plan_is : (files : List (List ℕ)) (span : ℕ) → data_refusal files span ≡ None → IsPlan files span (data_plan files span)
plan_is files span fits = record {
  span_is = refl;
  groups = refl;
  bases = refl;
  pieces = refl;
  firsts = refl;
  commons = refl;
  starts = refl;
  named = refl;
  slots = refl;
  ends = refl;
  text_start = refl;
  fits = fits;
}

-- text that isn't too big
small_case : (limit size : ℕ) (big : Bool) (refusal : Refusal) → nat_lt limit size ≡ big → when big refusal ≡ None → size ≤ limit
small_case limit size true refusal is none = cc
small_case limit size false refusal is none = grind (arith, nat_tests, is)

-- what isn't refused before its text is laid out has its calls
pub ready : (files : List (List ℕ)) (options : LinkOptions) → early_refusal files options ≡ None →
    HasCalls files (plan_of files options) (calls_of files options)
ready files options none =
    let groups = (plan_of files options).groups in
    let are = passed files options none in
    let size = both_none (when (nat_lt TEXT_LIMIT (text_size files)) TextTooBig) (first_in restore_refusal (call_sites files groups))
    are.calls in
    let small = small_case TEXT_LIMIT (text_size files) (nat_lt TEXT_LIMIT (text_size files)) TextTooBig refl size.0 in
    let few = few_sites files groups are.whole are.records in
    record {
      records = are.records;
      plan_is = plan_is files options.toc_span are.fits;
      sites_are = refl;
      few = omega (arith, few, small);
    }
