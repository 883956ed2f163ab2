-- padded-requires: a group is small, and so is its padding. returns: the group's size is padded.
use Rattle.std.proofs.Common.{◌∙◌, ap, arith}
use Rattle.layout_rounds.specs.Layout.{section_count, group_size, padded, unit}
use Rattle.layout_rounds.proofs.Aligned.{aligned_most}
use Rattle.layout_rounds.proofs.Bounds.{unit_small, size_most_upto}
use Rattle.layout_rounds.proofs.near.area_start.Goals as goal

pub padded-requires : goal.padded-requires
padded-requires c =
    let t = c.args.keyed.now in
    let size = c.requires.sizes.each c.args.group c.requires.within in
    let most = size_most_upto t c.requires.text c.args.group (section_count t) (omega arith) in
    let up = aligned_most (group_size t c.args.group) (unit t) in
    omega (arith, size, most, up, unit_small t c.requires.text, c.requires.text.sections.few)

pub returns : goal.returns
returns c = c.padded.ensures ∙ ap (padded c.args.keyed.now) (c.requires.sizes.each c.args.group c.requires.within)
