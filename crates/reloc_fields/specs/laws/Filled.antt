-- A filled field as a number.
use Rattle.std.proofs.Common.{ℕ, ◌≡◌, ◌<◌, ◌≤◌, ◌-◌, ◌+◌, ◌*◌, ◌/◌, ◌%◌, ◌^◌, arith, ap, ◌∙◌, sym, ⊎_elim}
use Rattle.std.specs.Prelude.{ℤ, pos, ◌+ℤ◌}
use Rattle.std.proofs.lemmas.Bool.{cases_lt}
use Rattle.std.proofs.lemmas.Nat.{div-add-mod', mod_below, pow_pos}
use Rattle.std.proofs.lemmas.Nat.Bits.{bit_at_above, bit_at_cat_low, bit_at_cat_high, bit_at_mask_inside, bit_at_mask_below, bit_at_mask_above, same_from_bits, same_from_bits_below}
use Rattle.std.specs.Int.{bit_at}
use Rattle.ppc_bytes.specs.Halves.{low_of, lo, hi, ha, d0, d1}
use Rattle.ppc_bytes.specs.laws.Halves.{low_of-lt}
use Rattle.reloc_fields.specs.Bits.{Fills}
use Rattle.reloc_fields.specs.Table.{Filling, field, mask, filled}
use Rattle.reloc_fields.specs.Table.Filling.{nothing, word_32, long_64, low_half, high_half, adjusted_half, low_half_ds, low_14, low_24, prefix_34}

-- two numbers that are filled alike are equal
pub same_filled : (ones old bits a b : ℕ) →
    a < 2 ^ 64 →
    b < 2 ^ 64 →
    Fills ones old bits a →
    Fills ones old bits b →
    a ≡ b
same_filled ones old bits a b fits_a fits_b filled_a filled_b =
    same_from_bits_below 64 a b fits_a fits_b (λ i below. filled_a i below ∙ sym (filled_b i below))

-- old with the lowest n bits of f from bit low on
abbrev pub with_run : ℕ → ℕ → ℕ → ℕ → ℕ
with_run low n old f = (old / 2 ^ (low + n) * 2 ^ n + f % 2 ^ n) * 2 ^ low + old % 2 ^ low

low_bits : (x k i : ℕ) → i < k → bit_at (x % 2 ^ k) i ≡ bit_at x i
low_bits x k i h = sym (bit_at_cat_low (x / 2 ^ k) k (x % 2 ^ k) i h) ∙ ap (λ y. bit_at y i) (div-add-mod' x (2 ^ k))

high_bits : (x k i : ℕ) → k ≤ i → bit_at (x / 2 ^ k) (i - k) ≡ bit_at x i
high_bits x k i h =
    sym (bit_at_cat_high (x / 2 ^ k) k (x % 2 ^ k) i (mod_below x (2 ^ k) (pow_pos k)) h)
    ∙ ap (λ y. bit_at y i) (div-add-mod' x (2 ^ k))

-- the bits of a number with a run put in: those before it, those of it and those after it
run_before : (low n old f i : ℕ) → i < low → bit_at (with_run low n old f) i ≡ bit_at old i
run_before low n old f i h =
    bit_at_cat_low (old / 2 ^ (low + n) * 2 ^ n + f % 2 ^ n) low (old % 2 ^ low) i h ∙ low_bits old low i h

run_inside : (low n old f i : ℕ) → low ≤ i → i < low + n → bit_at (with_run low n old f) i ≡ bit_at f (i - low)
run_inside low n old f i h k =
    bit_at_cat_high (old / 2 ^ (low + n) * 2 ^ n + f % 2 ^ n) low (old % 2 ^ low) i
    (mod_below old (2 ^ low) (pow_pos low)) h
    ∙ bit_at_cat_low (old / 2 ^ (low + n)) n (f % 2 ^ n) (i - low) (omega arith)
    ∙ low_bits f n (i - low) (omega arith)

run_after : (low n old f i : ℕ) → low + n ≤ i → bit_at (with_run low n old f) i ≡ bit_at old i
run_after low n old f i h =
    let place : (i - low) - n ≡ i - (low + n) = omega arith in
    bit_at_cat_high (old / 2 ^ (low + n) * 2 ^ n + f % 2 ^ n) low (old % 2 ^ low) i
    (mod_below old (2 ^ low) (pow_pos low)) (omega arith)
    ∙ bit_at_cat_high (old / 2 ^ (low + n)) n (f % 2 ^ n) (i - low) (mod_below f (2 ^ n) (pow_pos n)) (omega arith)
    ∙ ap (λ j. bit_at (old / 2 ^ (low + n)) j) place ∙ high_bits old (low + n) i h

-- a field whose mask is one run of ones
pub filled_run : (low n old bits new : ℕ) → low + n ≤ 64 → old < 2 ^ 64 → new < 2 ^ 64 →
    Fills (2 ^ (low + n) - 2 ^ low) old bits new → new ≡ with_run low n old (bits / 2 ^ low)
filled_run low n old bits new within fits_old fits_new h =
    same_from_bits new (with_run low n old (bits / 2 ^ low)) (λ i.
    ⊎_elim
    (λ (before : i < low). rw (bit_at_mask_below low (low + n) i before) at (h i (omega arith)) ∙
    sym (run_before low n old (bits / 2 ^ low) i before))
    (λ (from : low ≤ i). ⊎_elim
    (λ (inside : i < low + n). rw (bit_at_mask_inside low (low + n) i from inside) at (h i (omega arith))
    ∙ sym (run_inside low n old (bits / 2 ^ low) i from inside ∙ high_bits bits low i from))
    (λ (after : low + n ≤ i). ⊎_elim
    (λ (in_word : i < 64). rw (bit_at_mask_above low (low + n) i after) at (h i in_word) ∙
    sym (run_after low n old (bits / 2 ^ low) i after))
    (λ (out : 64 ≤ i). bit_at_above new 64 i fits_new out ∙
    sym (run_after low n old (bits / 2 ^ low) i after ∙ bit_at_above old 64 i fits_old out))
    (cases_lt i 64))
    (cases_lt i (low + n)))
    (cases_lt i low))

-- the mask of the two parts of a displacement: 18 ones from bit 0 on, and 16 from bit 32 on
mask_first : (i : ℕ) → i < 32 → bit_at 0xFFFF_0003_FFFF i ≡ bit_at (2 ^ 18 - 2 ^ 0) i
mask_first i h = bit_at_cat_low 0xFFFF 32 0x3_FFFF i h

mask_second : (i : ℕ) → 32 ≤ i → bit_at 0xFFFF_0003_FFFF i ≡ bit_at (2 ^ 16 - 2 ^ 0) (i - 32)
mask_second i h = bit_at_cat_high 0xFFFF 32 0x3_FFFF i (omega arith) h

-- the low word of a pair, and the high one
pair_first : (old low high new i : ℕ) → Fills 0xFFFF_0003_FFFF old (high * 2 ^ 32 + low) new → i < 32 →
    bit_at new i ≡ bit_at (with_run 32 16 (with_run 0 18 old low) high) i
pair_first old low high new i h first =
    let kept = run_before 32 16 (with_run 0 18 old low) high i first in
    let same : i - 0 ≡ i = omega arith in
    ⊎_elim
    (λ (inside : i < 18).
    let one = mask_first i first ∙ bit_at_mask_inside 0 18 i (omega arith) inside in
    rw one at (h i (omega arith)) ∙ bit_at_cat_low high 32 low i first
    ∙ sym (kept ∙ run_inside 0 18 old low i (omega arith) inside ∙ ap (bit_at low) same))
    (λ (after : 18 ≤ i).
    let zero = mask_first i first ∙ bit_at_mask_above 0 18 i after in
    rw zero at (h i (omega arith)) ∙ sym (kept ∙ run_after 0 18 old low i after))
    (cases_lt i 18)

pair_second : (old low high new i : ℕ) →
    low < 2 ^ 32 →
    Fills 0xFFFF_0003_FFFF old (high * 2 ^ 32 + low) new →
    32 ≤ i →
    i < 64 →
    bit_at new i ≡ bit_at (with_run 32 16 (with_run 0 18 old low) high) i
pair_second old low high new i fits h second below =
    ⊎_elim
    (λ (inside : i < 48).
    let one = mask_second i second ∙ bit_at_mask_inside 0 16 (i - 32) (omega arith) (omega arith) in
    rw one at (h i below) ∙ bit_at_cat_high high 32 low i fits second
    ∙ sym (run_inside 32 16 (with_run 0 18 old low) high i second inside))
    (λ (after : 48 ≤ i).
    let zero = mask_second i second ∙ bit_at_mask_above 0 16 (i - 32) (omega arith) in
    rw zero at (h i below)
    ∙ sym (run_after 32 16 (with_run 0 18 old low) high i after ∙ run_after 0 18 old low i (omega arith)))
    (cases_lt i 48)

-- a pair of words whose displacement is filled in
pub filled_pair : (old low high new : ℕ) →
    new < 2 ^ 64 →
    with_run 32 16 (with_run 0 18 old low) high < 2 ^ 64 →
    low < 2 ^ 32 →
    Fills 0xFFFF_0003_FFFF old (high * 2 ^ 32 + low) new → new ≡ with_run 32 16 (with_run 0 18 old low) high
filled_pair old low high new fits_new fits_runs fits_low h =
    same_from_bits_below 64 new (with_run 32 16 (with_run 0 18 old low) high) fits_new fits_runs (λ i below.
    ⊎_elim (λ (first : i < 32). pair_first old low high new i h first)
    (λ (second : 32 ≤ i). pair_second old low high new i fits_low h second below)
    (cases_lt i 32))

-- a filled field as a number
pub filled_number : (filling : Filling) (old new : ℕ) (x : ℤ) → old < 2 ^ 64 → new < 2 ^ 64 →
    Fills (mask filling) old (field filling x) new → new ≡ filled filling old x
filled_number nothing old new x fits_old fits_new h =
    let e = filled_run 0 0 old 0 new (omega arith) fits_old fits_new h in omega arith
filled_number word_32 old new x fits_old fits_new h =
    let e = filled_run 0 32 old (low_of 32 x) new (omega arith) fits_old fits_new h in
    let below = low_of-lt 32 x in omega arith
filled_number long_64 old new x fits_old fits_new h =
    let e = filled_run 0 64 old (low_of 64 x) new (omega arith) fits_old fits_new h in
    let below = low_of-lt 64 x in omega arith
filled_number low_half old new x fits_old fits_new h =
    let e = filled_run 0 16 old (lo x) new (omega arith) fits_old fits_new h in
    let below = low_of-lt 16 x in omega arith
filled_number high_half old new x fits_old fits_new h =
    let e = filled_run 0 16 old (hi x) new (omega arith) fits_old fits_new h in
    let below = low_of-lt 32 x in omega arith
filled_number adjusted_half old new x fits_old fits_new h =
    let e = filled_run 0 16 old (ha x) new (omega arith) fits_old fits_new h in
    let below = low_of-lt 32 (x +ℤ pos 0x8000) in omega arith
filled_number low_half_ds old new x fits_old fits_new h =
    let e = filled_run 2 14 old (lo x) new (omega arith) fits_old fits_new h in
    let below = low_of-lt 16 x in omega arith
filled_number low_14 old new x fits_old fits_new h =
    let e = filled_run 2 14 old (lo x) new (omega arith) fits_old fits_new h in
    let below = low_of-lt 16 x in omega arith
filled_number low_24 old new x fits_old fits_new h =
    let e = filled_run 2 24 old (low_of 26 x) new (omega arith) fits_old fits_new h in
    let below = low_of-lt 26 x in omega arith
filled_number prefix_34 old new x fits_old fits_new h =
    let below = low_of-lt 34 x in
    let e = filled_pair old (d0 x) (d1 x) new fits_new (omega arith) (omega arith) h in omega arith
