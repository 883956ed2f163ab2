-- A call stands in text, so that its section has a number, at which the section stands among text sections.
use Rattle.std.proofs.Common.{◌≡◌, ◌<◌, ℕ, None, length, sym, ap, ◌∙◌, subst}
use Rattle.object_set.specs.Refusals.{set_refusal}
use Rattle.symbol_table.specs.declared.fields.RecordField.{RecordField}
use Rattle.symbol_table.specs.Records.{records_refusal}
use Rattle.symbol_table.specs.Text.{text_sections, text_number}
use Rattle.symbol_table.specs.laws.Text.{text_index_within}
use Rattle.call_sites.specs.Sites.{text_section}
use Rattle.call_sites.specs.laws.SoundCalls.{IsSoundCall, call_sound}
use Rattle.call_sites.specs.inside.Calls.{IsCall}
use Rattle.call_sites.specs.inside.Ready.{GroupedFiles}
use Rattle.call_sites.specs.laws.TextSections.{number_is, number_there, section_there}
use Rattle.call_sites.proofs.callees.Calls.number.Goals as goal

-- a call of the files that contracts see is sound in these
sound_in : (own seen : GroupedFiles) (call : RecordField) → own ≡ seen → set_refusal own.files ≡ None →
    records_refusal own.files ≡ None → IsCall seen.files call → IsSoundCall own.files call
sound_in own seen call same whole sound is =
    call_sound own.files call whole sound (subst (λ (g : GroupedFiles). IsCall g.files call) (sym same) is)

-- its section has a number
no_number : (own seen : GroupedFiles) (call : RecordField) → own ≡ seen → set_refusal own.files ≡ None →
    records_refusal own.files ≡ None → IsCall seen.files call →
    None ≡ text_number own.files call.id.file call.id.section → ⊥
no_number own seen call same whole sound is none =
    number_there own.files call.id.file call.id.section none (sound_in own seen call same whole sound is).text

pub text_number-requires-clause-section : goal.text_number-requires-clause-section
text_number-requires-clause-section c =
    (sound_in _ _ c.args.call c.self.view_is c.self.invariant.whole c.self.invariant.sound c.requires).section_in

pub returns-in-Some-clause-within : goal.returns-in-Some-clause-within
returns-in-Some-clause-within c =
    let files = c.self.inside.res.now.files in
    let id = c.args.call.id in
    let sound = sound_in _ _ c.args.call c.self.view_is c.self.invariant.whole c.self.invariant.sound c.requires in
    let index = number_is files id.file id.section c.in-Some.number (sym c.in-Some.is ∙ c.text_number.ensures) in
    let within = text_index_within files id.file id.section sound.file_in sound.section_in sound.text in
    subst (λ (g : GroupedFiles). c.in-Some.number < length (text_sections g.files)) c.self.view_is
    (subst (λ (n : ℕ). n < length (text_sections files)) (sym index) within)

pub returns-in-Some-clause-section : goal.returns-in-Some-clause-section
returns-in-Some-clause-section c =
    let files = c.self.inside.res.now.files in
    let id = c.args.call.id in
    let sound = sound_in _ _ c.args.call c.self.view_is c.self.invariant.whole c.self.invariant.sound c.requires in
    let index = number_is files id.file id.section c.in-Some.number (sym c.in-Some.is ∙ c.text_number.ensures) in
    ap (λ (g : GroupedFiles). text_section g.files c.in-Some.number) (sym c.self.view_is) ∙ ap (text_section files) index
    ∙ section_there files id.file id.section sound.file_in sound.section_in sound.text

pub returns-in-Some-clause-sound : goal.returns-in-Some-clause-sound
returns-in-Some-clause-sound c =
    subst (λ (g : GroupedFiles). IsSoundCall g.files c.args.call) c.self.view_is
    (sound_in _ _ c.args.call c.self.view_is c.self.invariant.whole c.self.invariant.sound c.requires)

pub returns-in-None-clause-index : goal.returns-in-None-clause-index
returns-in-None-clause-index c =
    absurd (no_number _ _ c.args.call c.self.view_is c.self.invariant.whole c.self.invariant.sound c.requires
    (sym c.in-None.is ∙ c.text_number.ensures))

pub returns-in-None-clause-within : goal.returns-in-None-clause-within
returns-in-None-clause-within c =
    absurd (no_number _ _ c.args.call c.self.view_is c.self.invariant.whole c.self.invariant.sound c.requires
    (sym c.in-None.is ∙ c.text_number.ensures))

pub returns-in-None-clause-section : goal.returns-in-None-clause-section
returns-in-None-clause-section c =
    absurd (no_number _ _ c.args.call c.self.view_is c.self.invariant.whole c.self.invariant.sound c.requires
    (sym c.in-None.is ∙ c.text_number.ensures))

pub returns-in-None-clause-sound : goal.returns-in-None-clause-sound
returns-in-None-clause-sound c =
    absurd (no_number _ _ c.args.call c.self.view_is c.self.invariant.whole c.self.invariant.sound c.requires
    (sym c.in-None.is ∙ c.text_number.ensures))
