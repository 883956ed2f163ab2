-- What is loaded: a number where all bytes are numbers, and else what the bytes spell in order.
use Rattle.std.proofs.Common.{◌≡◌, ℕ, Bool, true, false, cond, List, Some, None, refl, sym, ap, ◌∙◌}
use Rattle.power_insns.specs.declared.meaning.Width.{Width}
use Rattle.power_insns.specs.declared.meaning.Sign.{Sign}
use Rattle.power_insns.specs.Arithmetic.{bytes_of, widened}
use Rattle.power_machine.specs.declared.memory.Purpose.TheVariants.{Loading}
use Rattle.power_machine.specs.Bytes.{spelled}
use Rattle.power_machine.specs.Memory.{byte_at, bytes_from, allows, ranges_of}
use Rattle.power_machine.specs.inside.Regions.{number_read}
use Rattle.plain_machine.specs.declared.memory.PlainMemory.{PlainMemory}
use Rattle.plain_machine.specs.declared.value.Cell.{Cell}
use Rattle.plain_machine.specs.declared.value.PlainValue.{PlainValue}
use Rattle.plain_machine.specs.declared.value.PlainValue.TheVariants.{Number}
use Rattle.plain_machine.specs.Plain.{joined_by, joined_pieces, cell_numbers}
use Rattle.plain_machine.specs.inside.Memory.{cell_at, value_read}
use Rattle.plain_machine.specs.inside.Others.{other_at, are_numbers}
use Rattle.plain_machine.proofs.Cells.{cells_numbers, true_and}

pub read_some : (b : Bool) (x n : ℕ) → cond b (Some x) None ≡ Some n → (b ≡ true) × (n ≡ x)
read_some true x n h = (refl, cc)
read_some false x n h = cc

module _ (m : PlainMemory) (width : Width) (sign : Sign) (at : ℕ) where
  abbrev cells : List Cell
  cells = bytes_from (cell_at m) at (bytes_of width)

  abbrev bytes : List ℕ
  bytes = bytes_from (byte_at m.numbers.regions.items) at (bytes_of width)

  abbrev allowed : Bool
  allowed = allows Loading at (bytes_of width) (ranges_of m.numbers.regions.items)

  read_by : (v : PlainValue) → allowed ≡ true → v ≡ joined_by width sign cells (cell_numbers cells) → Some v ≡ value_read width sign at m
  read_by v h e = sym (ap (λ b. cond b (Some (joined_by width sign cells (cell_numbers cells))) None) (true_and allowed ∙ h)
      ∙ ap Some (sym e))

  pub loaded_number_at :
      (n w : ℕ) →
      number_read Loading at width m.numbers.regions.items ≡ Some n →
      are_numbers (other_at m.others) at (bytes_of width) ≡ true →
      w ≡ widened width sign n →
      Some (Number w) ≡ value_read width sign at m
  loaded_number_at n w h all e =
      let r = read_some allowed (spelled bytes) n h in
      read_by (Number w) r.0
      (ap Number (e ∙ ap (widened width sign) r.1)
      ∙ sym (ap (joined_by width sign cells) (cells_numbers (other_at m.others) (byte_at m.numbers.regions.items) at (bytes_of width)
      ∙ ap (λ b. cond b (Some bytes) None) all)))

  pub loaded_pieces :
      (n : ℕ) (v : PlainValue) →
      number_read Loading at width m.numbers.regions.items ≡ Some n →
      are_numbers (other_at m.others) at (bytes_of width) ≡ false →
      v ≡ joined_pieces width sign cells →
      Some v ≡ value_read width sign at m
  loaded_pieces n v h none e =
      let r = read_some allowed (spelled bytes) n h in
      read_by v r.0
      (e ∙ sym (ap (joined_by width sign cells) (cells_numbers (other_at m.others) (byte_at m.numbers.regions.items) at (bytes_of width)
      ∙ ap (λ b. cond b (Some bytes) None) none)))
