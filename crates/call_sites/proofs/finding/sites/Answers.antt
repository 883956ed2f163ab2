-- invariant_of-result: there are no more sites than bytes of text.
use Rattle.std.proofs.Common.{◌≡◌, ◌≤◌, Bool, true, false, ltb, List, length, None, sym, ap, ◌∙◌, refl, arith}
use Rattle.std.proofs.lemmas.Bool.Decides.{nat_tests}
use Rattle.elf64_records.specs.First.{when}
use Rattle.object_set.specs.Refusals.{set_refusal}
use Rattle.call_sites.specs.declared.site.CallSite.{CallSite}
use Rattle.call_sites.specs.Refusals.{text_size}
use Rattle.call_sites.specs.Sites.{call_sites}
use Rattle.call_sites.specs.inside.Ready.{GroupedFiles}
use Rattle.call_sites.specs.laws.SiteOrder.{few_sites}
use Rattle.call_sites.proofs.finding.sites.Goals as goal

when_none : {R : Type 0} (test : Bool) (r : R) → when test r ≡ None → test ≡ false
when_none true r none = cc
when_none false r none = refl

pub invariant_of-result : goal.invariant_of-result
invariant_of-result c =
    let files = c.args.res.now.files in
    let groups = c.args.groups.now in
    let whole = ap set_refusal (sym c.set.ensures) ∙ c.file_count-files.ensures.whole in
    let are : c.in_ok-items.items.items ≡ call_sites files groups =
    c.in_ok-items.ensures ∙ ap (λ (g : GroupedFiles). call_sites g.files g.groups) c.in_ok-calls.ensures in
    let few = few_sites files groups whole c.requires.sound in
    let long = ap (λ (l : List CallSite). length l) are in
    let small : ltb 0x2000_0000 (text_size files) ≡ false =
    when_none (ltb 0x2000_0000 (text_size files)) _ c.in_ok-check_text_size.ensures in
    let size : text_size files ≤ 0x2000_0000 = grind (arith, nat_tests, small) in
    let most : length c.in_ok-items.items.items ≤ 0x2000_0000 = omega (arith, few, long, size) in
    most
