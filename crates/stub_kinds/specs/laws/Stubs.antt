-- What the sizes and the words of stubs have in common.
use Rattle.std.proofs.Common.{ℕ, ◌≡◌, ◌<◌, ◌≤◌, ◌*◌, ◌%◌, ◌^◌, Bool, true, false, length, All, arith, rules}
use Rattle.stub_kinds.specs.declared.class.Class.{Class}
use Rattle.stub_kinds.specs.declared.class.Class.TheVariants.{Same, Switch, Save, NearN, EntrySave, EntryBare, EntryN}
use Rattle.stub_kinds.specs.Stubs.{size_of, words_of}

-- a size is 0, 16 or 32
pub size_of-few : (class : Class) (far : Bool) → (size_of class far % 16 ≡ 0) × (size_of class far ≤ 32)
size_of-few Same false = (omega arith, omega arith)
size_of-few Same true = (omega arith, omega arith)
size_of-few Switch false = (omega arith, omega arith)
size_of-few Switch true = (omega arith, omega arith)
size_of-few Save false = (omega arith, omega arith)
size_of-few Save true = (omega arith, omega arith)
size_of-few NearN false = (omega arith, omega arith)
size_of-few NearN true = (omega arith, omega arith)
size_of-few EntrySave far = (omega arith, omega arith)
size_of-few EntryBare far = (omega arith, omega arith)
size_of-few EntryN far = (omega arith, omega arith)

-- a far stub is no shorter than a near one
pub size_of-grows : (class : Class) → size_of class false ≤ size_of class true
size_of-grows = elim [ Same ↦ omega arith | _ ↦ omega arith ]

-- the words fit the size
pub length-words_of : (class : Class) (far : Bool) (at place base to_base : ℕ) →
    4 * length (words_of class far at place base to_base) ≤ size_of class far
length-words_of Same false at place base to_base = omega arith
length-words_of Same true at place base to_base = omega arith
length-words_of Switch false at place base to_base = omega arith
length-words_of Switch true at place base to_base = omega arith
length-words_of Save false at place base to_base = omega arith
length-words_of Save true at place base to_base = omega arith
length-words_of NearN false at place base to_base = omega arith
length-words_of NearN true at place base to_base = omega arith
length-words_of EntrySave far at place base to_base = omega arith
length-words_of EntryBare far at place base to_base = omega arith
length-words_of EntryN far at place base to_base = omega arith

-- each word is one
pub words_of-All : (class : Class) (far : Bool) (at place base to_base : ℕ) →
    All (λ w. w < 2 ^ 32) (words_of class far at place base to_base)
words_of-All Same false at place base to_base = search rules
words_of-All Same true at place base to_base = search rules
words_of-All Switch false at place base to_base = search rules
words_of-All Switch true at place base to_base = search rules
words_of-All Save false at place base to_base = search rules
words_of-All Save true at place base to_base = search rules
words_of-All NearN false at place base to_base = search rules
words_of-All NearN true at place base to_base = search rules
words_of-All EntrySave far at place base to_base = search rules
words_of-All EntryBare far at place base to_base = search rules
words_of-All EntryN far at place base to_base = search rules
