-- Texts in the fields of a header: blanks at the end, digits, and the end of a long name.
use Rattle.std.proofs.Common.{◌≡◌, ℕ, suc, ◌+◌, ◌*◌, ◌^◌, ◌<◌, ◌≤◌, Bool, true, false, List, [], ◌∷◌, ◌++◌, length, length-append, take, drop, Option, Some, None, get_or, refl, sym, ap, ◌∙◌, arith, append_assoc, drop-cons}
use Rattle.std.proofs.Math.Seq.{take-suc}
use Rattle.std.proofs.Math.Nat.{pow-le-pow_right}
use Rattle.std.specs.Prelude.{◌&&◌, ◌==◌, if◌then◌else◌, codes, nat_eq}
use Rattle.std.specs.List.{starts_with}
use Rattle.std.specs.Option.{option_map}
use Rattle.std.proofs.lemmas.Grind.{pow_more}
use Rattle.ppc_archive.specs.Archive.{is_blank, trimmed, before_slash}

-- one blank more at the end
trimmed_blank : (xs : List ℕ) (c : ℕ) → is_blank c ≡ true → trimmed (xs ++ c ∷ []) ≡ trimmed xs
trimmed_blank [] c blank = grind (arith, blank)
trimmed_blank (x ∷ xs) c blank = let rest = trimmed_blank xs c blank in rw rest refl

-- a last byte that is none
not_empty : (c x : ℕ) (xs t : List ℕ) (b : Bool) → t ≡ xs ++ c ∷ [] → (if b && length t == 0 then [] else x ∷ t) ≡ x ∷ (xs ++ c ∷ [])
not_empty c x xs t b is =
    let some : 0 < length t = (let more = ap length is ∙ length-append xs (c ∷ []) in omega (arith, more)) in
    let test : (length t == 0) ≡ false = grind (arith, some) in
    grind (arith, test, is)

trimmed_other : (xs : List ℕ) (c : ℕ) → is_blank c ≡ false → trimmed (xs ++ c ∷ []) ≡ xs ++ c ∷ []
trimmed_other [] c other = grind (arith, other)
trimmed_other (x ∷ xs) c other = not_empty c x xs (trimmed (xs ++ c ∷ [])) (is_blank x) (trimmed_other xs c other)

pub trimmed_step : (bytes : List ℕ) (k d : ℕ) → k < length bytes → is_blank (get_or bytes k d) ≡ true →
    trimmed (take k bytes) ≡ trimmed (take (suc k) bytes)
trimmed_step bytes k d within blank =
    sym (trimmed_blank (take k bytes) (get_or bytes k d) blank) ∙ ap trimmed (sym (take-suc bytes k d within))

pub trimmed_end : (bytes : List ℕ) (k d : ℕ) → k < length bytes → is_blank (get_or bytes k d) ≡ false →
    take (suc k) bytes ≡ trimmed (take (suc k) bytes)
trimmed_end bytes k d within other =
    take-suc bytes k d within ∙ sym (trimmed_other (take k bytes) (get_or bytes k d) other) ∙ ap trimmed (sym (take-suc bytes k d within))

-- a number of at most 15 digits, with one digit more
pub digit_more : (n digit k : ℕ) → n < 10 ^ k → digit < 10 → k < 16 → n * 10 + digit < 10 ^ (k + 1)
digit_more n digit k few one less =
    let more = pow_more 10 k in
    omega (arith, few, one, more)

pub few_digits : (n k : ℕ) → n < 10 ^ k → k < 16 → n < 10 ^ 15
few_digits n k few less =
    let most : 10 ^ k ≤ 10 ^ 15 = pow-le-pow_right {n = 10} (omega arith) {j = 15} (omega arith) in
    omega (arith, few, most)

-- a byte more of a long name
joined : (front : List ℕ) (c : ℕ) (o : Option (List ℕ)) →
    option_map (λ name. front ++ name) (option_map (λ name. c ∷ name) o) ≡ option_map (λ name. (front ++ c ∷ []) ++ name) o
joined front c None = refl
joined front c (Some name) = ap Some (sym (append_assoc front (c ∷ []) name))

first_passed : (l rest : List ℕ) (c : ℕ) → l ≡ c ∷ rest → starts_with nat_eq l (codes "/\n") ≡ false →
    before_slash l ≡ option_map (λ name. c ∷ name) (before_slash rest)
first_passed [] rest c is other = cc
first_passed (x ∷ l) rest c is other =
    let same : x ≡ c = cc in
    let others : l ≡ rest = cc in
    ap (λ (b : Bool). if b then Some [] else option_map (λ name. x ∷ name) (before_slash l)) other
    ∙ ap (λ (n : ℕ). option_map (λ name. n ∷ name) (before_slash l)) same
    ∙ ap (λ (r : List ℕ). option_map (λ name. c ∷ name) (before_slash r)) others

pub slash_step : (table : List ℕ) (k : ℕ) → k < length table → starts_with nat_eq (drop k table) (codes "/\n") ≡ false →
    option_map (λ name. take (suc k) table ++ name) (before_slash (drop (suc k) table))
    ≡ option_map (λ name. take k table ++ name) (before_slash (drop k table))
slash_step table k within other =
    ap (λ (l : List ℕ). option_map (λ name. l ++ name) (before_slash (drop (suc k) table))) (take-suc table k 0 within)
    ∙ sym (joined (take k table) (get_or table k 0) (before_slash (drop (suc k) table)))
    ∙ ap (option_map (λ name. take k table ++ name)) (sym
    (first_passed (drop k table) (drop (suc k) table) (get_or table k 0) (drop-cons table k 0 within) other))
