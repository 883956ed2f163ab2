-- returns: the bytes of a text section are as many as its header says, and the call's word lies in it.
use Rattle.std.proofs.Common.{length, ap, ◌∙◌, arith}
use Rattle.call_sites.specs.laws.TextSizes.{text_whole}
use Rattle.call_sites.specs.inside.Ready.{bytes_of}
use Rattle.call_sites.proofs.callees.Calls.call_bytes.Goals as goal

pub returns-clause-size : goal.returns-clause-size
returns-clause-size c =
    let files = c.args.self.now.files in
    let id = c.args.call.id in
    let sound = c.number.ensures.sound in
    ap length (c.bytes.ensures ∙ ap (bytes_of files) c.number.ensures.section)
    ∙ text_whole files id.file id.section c.number.ensures.whole sound.file_in sound.section_in sound.text

pub returns-clause-within : goal.returns-clause-within
returns-clause-within c =
    let files = c.args.self.now.files in
    let id = c.args.call.id in
    let sound = c.number.ensures.sound in
    let size = ap length (c.bytes.ensures ∙ ap (bytes_of files) c.number.ensures.section)
    ∙ text_whole files id.file id.section c.number.ensures.whole sound.file_in sound.section_in sound.text in
    omega (arith, size, sound.within)
