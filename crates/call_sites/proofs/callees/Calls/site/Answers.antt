-- returns: the site of a call that goes where its record goes.
use Rattle.std.proofs.Common.{inl, inr, Some, sym, ap, ◌∙◌}
use Rattle.call_sites.specs.Sites.{call_site, call_to, call_of}
use Rattle.call_sites.proofs.callees.Calls.site.Goals as goal

pub returns-in-Code : goal.returns-in-Code
unfolding call_site
returns-in-Code c =
    let files = c.args.self.now.files in
    let groups = c.args.self.now.groups in
    let call = c.args.call in
    c.call_of.ensures ∙ ap (call_of files call c.in-Code.section c.in-Code.offset) c.callee-callee.ensures
    ∙ ap (call_to files groups call) (sym (c.target.ensures.target ∙ ap Some c.in-Code.is))

pub returns-in-Data : goal.returns-in-Data
unfolding call_site
returns-in-Data c =
    let to = call_to c.args.self.now.files c.args.self.now.groups c.args.call in
    let goes = c.target.ensures.target in
    let nothing = c.call_of_nothing.ensures in
    elim c.in-Data.is [
      | inl data_place ↦ nothing ∙ ap to (sym (goes ∙ ap Some data_place.2))
      | inr rest ↦ elim rest [
        | inl number ↦ nothing ∙ ap to (sym (goes ∙ ap Some number.1))
        | inr others ↦ elim others [
          | inl base ↦ nothing ∙ ap to (sym (goes ∙ ap Some base.2))
          | inr weak ↦ nothing ∙ ap to (sym (goes ∙ ap Some weak.1))
        ]
      ]
    ]
