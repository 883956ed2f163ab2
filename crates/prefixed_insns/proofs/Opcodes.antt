-- Where words of one instruction and prefixes begin.
use Rattle.std.proofs.Common.{◌≢◌, ◌≤◌, ◌<◌, arith, rules}
use Rattle.power_insns.specs.declared.instruction.Insn.{Insn}
use Rattle.power_insns.specs.Table.{word_of}
use Rattle.power_insns.specs.laws.Bounds.{low_of-lt, flag-lt}
use Rattle.prefixed_insns.specs.declared.instruction.PInsn.{PInsn}
use Rattle.prefixed_insns.specs.Table.{prefix_of}
use Rattle.prefixed_insns.specs.laws.Pairs.{type_of-lt}

-- primary opcodes of words are 7 and more
words_are_high : (i : Insn) → 0x8000000 ≤ word_of i
words_are_high i = search rules

-- that of prefixes is 1
prefixes_are_low : (j : PInsn) → prefix_of j < 0x8000000
prefixes_are_low j =
    let low = low_of-lt 34 j.disp in
    let relative = flag-lt j.relative in
    let kind = type_of-lt j.op in
    omega arith

pub apart : (i : Insn) (j : PInsn) → word_of i ≢ prefix_of j
apart i j same =
    let high = words_are_high i in
    let low = prefixes_are_low j in
    omega arith
