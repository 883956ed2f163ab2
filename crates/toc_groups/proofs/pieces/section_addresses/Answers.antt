-- loop-file-preserved: one file more. returns: all files.
use Rattle.std.proofs.Common.{◌≡◌, ℕ, length, subst, arith}
use Rattle.toc_groups.specs.inside.Laid.{AreAddresses}
use Rattle.toc_groups.proofs.ReadPlaces.{first_more, file_more}
use Rattle.toc_groups.proofs.pieces.section_addresses.Goals as goal

pub loop-file-preserved : goal.loop-file-preserved
loop-file-preserved c =
    let files = c.args.set.now in
    let span = c.args.laid.now.span in
    let file = c.loop-file.file in
    let before = c.loop-file.invariant in
    record {
      pieces = file_more files span file c.loop-file.pieces.items c.push_sections.new.pieces.items before.pieces
          c.in_ok-push_sections.ensures.pieces;
      firsts = first_more files span file c.len.result c.loop-file.pieces.items c.loop-file.firsts.items c.push.new.self.items
          before.pieces before.firsts (omega (arith, c.len.ensures, c.loop-file.pieces.ok.0)) c.in_ok-push.ensures.items;
      ends = c.in_ok-push_sections.ensures.ends;
    }

pub returns : goal.returns
returns c =
    let files = c.args.set.now in
    let all : c.loop-file.file ≡ length files =
    omega (arith, c.file_count-file-end.ensures.count, c.loop-file.auto.file-end, c.loop-file-test.false) in
    subst (λ (n : ℕ). AreAddresses files c.args.laid.now.span n (record { pieces = c.loop-file.pieces; firsts = c.loop-file.firsts })) all
    (record { pieces = c.loop-file.invariant.pieces; firsts = c.loop-file.invariant.firsts })
