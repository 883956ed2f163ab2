-- Past the last number of a file the next file follows; what is left is the first number and the rest.
use Rattle.std.proofs.Common.{◌≡◌, ◌<◌, ℕ, ◌+◌, length, ap, sym, ◌∙◌, arith}
use Rattle.object_set.specs.inside.Cursor.{count_of, pairs_left}
use Rattle.object_set.proofs.Cursors.{pairs_none, pairs_next, pairs_step}
use Rattle.object_set.proofs.walk.Cursor.advance.Goals as goal

pub returns-then-self-file_count : goal.returns-then-self-file_count
returns-then-self-file_count c =
    let s = c.loop-self.self-inside in
    let over : s.next ≡ length s.set.now = c.if-self-file_count.true ∙ c.file_count.ensures.count in
    let none = pairs_none s.numbers s.set.now s.file s.number s.end s.next c.loop-self-test.true over in
    (sym c.loop-self.invariant.left ∙ none, none)

pub loop-self-preserved : goal.loop-self-preserved
loop-self-preserved c =
    let s = c.loop-self.self-inside in
    let more : s.next < length s.set.now = omega arith in
    let count = c.count-self-inside.ensures ∙ ap (count_of s.numbers) c.view.ensures in
    let next = pairs_next s.numbers s.set.now s.file s.number s.end s.next c.loop-self-test.true more in
    record {
      left = ap (λ (n : ℕ). pairs_left s.numbers s.set.now s.next 0 n (s.next + 1)) count ∙ next ∙ c.loop-self.invariant.left;
      within = record { number_in = omega arith; end_fits = c.count-self-inside.type_inv; next_in = omega arith };
    }

pub returns : goal.returns
returns c =
    let s = c.loop-self.self-inside in
    let left : s.number < s.end = omega arith in
    sym c.loop-self.invariant.left ∙ pairs_step s.numbers s.set.now s.file s.number s.end s.next left
