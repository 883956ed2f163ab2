-- What was taken goes on with what is taken next.
use Rattle.std.proofs.Common.{◌≡◌, ◌∙◌, ℕ, ◌+◌, ◌-◌, ◌≤◌, List, ◌++◌, length, take, drop, Option, Some, None, sym, ap, subst, append_assoc, take-add, take_all, length-drop, arith}
use Rattle.std.specs.Io.KnownBytes.{Appends}

pub rest_whole : (at : ℕ) (bytes : List ℕ) → take (length bytes - at) (drop at bytes) ≡ drop at bytes
rest_whole at bytes = take_all (length bytes - at) (drop at bytes) (omega (arith, length-drop at bytes))

append_next : (old mid new : Option (List ℕ)) (at count : ℕ) (bytes : List ℕ) →
    Appends old mid (take at bytes) → Appends mid new (take count (drop at bytes)) →
    Appends old new (take (at + count) bytes)
append_next None mid new at count bytes before now = tt
append_next (Some xs) None new at count bytes before now = absurd before
append_next (Some xs) (Some ys) None at count bytes before now = absurd now
append_next (Some xs) (Some ys) (Some zs) at count bytes before now =
    now
    ∙ ap (λ l. l ++ take count (drop at bytes)) before
    ∙ append_assoc xs (take at bytes) (take count (drop at bytes))
    ∙ ap (λ l. xs ++ l) (sym (take-add at count bytes))

pub append_more : (old mid new : Option (List ℕ)) (at count : ℕ) (bytes : List ℕ) →
    Appends old mid (take at bytes) → Appends mid new (take count (take (length bytes - at) (drop at bytes))) →
    Appends old new (take (at + count) bytes)
append_more old mid new at count bytes before now =
    append_next old mid new at count bytes before
    (subst (λ l. Appends mid new (take count l)) (rest_whole at bytes) now)

pub within_rest : (at count : ℕ) (bytes : List ℕ) →
    at ≤ length bytes →
    count ≤ length (take (length bytes - at) (drop at bytes)) →
    at + count ≤ length bytes
within_rest at count bytes before now =
    let rest : count ≤ length (drop at bytes) = subst (λ l. count ≤ length l) (rest_whole at bytes) now in
    omega (arith, length-drop at bytes)
