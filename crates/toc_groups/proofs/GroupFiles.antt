-- The files of a group: numbers of groups rise from file to file, and the files of one number are those of one group.
use Rattle.std.proofs.Common.{ℕ, zero, suc, ◌≡◌, ◌<◌, ◌≤◌, ◌+◌, ◌-◌, inl, inr, Bool, true, false, ◌||◌, ◌==◌, nat_le, List}
use Rattle.std.proofs.Common.{length, if◌then◌else◌, ap, sym, ◌∙◌, refl, arith}
use Rattle.std.proofs.lemmas.Bool.{cases_lt}
use Rattle.std.proofs.lemmas.Bool.Decides.{nat_tests}
use Rattle.toc_groups.specs.Groups.{Group, group_size, group_after, group_with, group_number, groups_after, group_among, group_count, group_at}
use Rattle.toc_groups.proofs.Grouping.{either, number_step}

module _ (files : List (List ℕ)) (span : ℕ) where
  pub number_rises : (file d : ℕ) → group_number files span file ≤ group_number files span (file + d)
  number_rises file zero =
      let e : file + 0 ≡ file = omega arith in
      omega (arith, ap (group_number files span) e)
  number_rises file (suc d) =
      let e : suc (file + d) ≡ file + suc d = omega arith in
      omega (arith, number_rises file d, (number_step files span (suc (file + d))).0, ap (group_number files span) e)

  pub number_below : (file : ℕ) → file < length files → group_number files span file < group_count files span
  number_below file within = elim (cases_lt 0 (length files)) [
    | inl some ↦ (
        let last : suc (length files - 1) ≡ length files = omega (arith, some) in
        let e : file + (length files - 1 - file) ≡ length files - 1 = omega (arith, within) in
        let rises = number_rises file (length files - 1 - file) in
        let top : groups_after files span (suc (length files - 1)) ≡ group_count files span = ap (groups_after files span) last in
        omega (arith, rises, ap (group_number files span) e, top))
    | inr none ↦ absurd (omega (arith, within, none))
  ]

  joined_case : (last : Group) (file : ℕ) (stays : Bool) → (either last file stays).number ≡ last.number →
      ((either last file stays).first ≡ last.first) × ((either last file stays).count ≡ suc last.count)
  joined_case last file true same = (refl, refl)
  joined_case last file false same = absurd (omega (arith, same))

  -- a file whose group has the number of the group before it is in that group
  pub stays_in : (n : ℕ) → group_number files span n ≡ (group_after files span n).number →
      ((group_with files span n).first ≡ (group_after files span n).first)
      × ((group_with files span n).count ≡ suc (group_after files span n).count)
  stays_in n same =
      let last = group_after files span n in
      joined_case last n (last.count == 0 || nat_le (group_size files last.first (suc last.count)) span) same

  -- files of one number have one first file, and later ones count more
  pub same_group : (file d : ℕ) → group_number files span (file + d) ≡ group_number files span file →
      ((group_with files span (file + d)).first ≡ (group_with files span file).first)
      × ((group_with files span (file + d)).count ≡ (group_with files span file).count + d)
  same_group file zero same =
      let e : file + 0 ≡ file = omega arith in (
        ap (λ (n : ℕ). (group_with files span n).first) e,
        (let c = ap (λ (n : ℕ). (group_with files span n).count) e in omega (arith, c)),
      )
  same_group file (suc d) same =
      let e : suc (file + d) ≡ file + suc d = omega arith in
      let here : group_number files span (suc (file + d)) ≡ group_number files span file =
      ap (group_number files span) e ∙ same in
      let step = number_step files span (suc (file + d)) in
      let rises = number_rises file d in
      let before : group_number files span (file + d) ≡ group_number files span file = omega (arith, here, step.0, rises) in
      let last = same_group file d before in
      let stays = stays_in (suc (file + d)) (here ∙ sym before) in (
        sym (ap (λ (n : ℕ). (group_with files span n).first) e) ∙ stays.0 ∙ last.0,
        (let c = ap (λ (n : ℕ). (group_with files span n).count) e in omega (arith, c, stays.1, last.1)),
      )

  pub record IsWhole (file : ℕ) (whole : Group) : Type 0 where
    pub first : whole.first ≡ (group_with files span file).first
    pub more : ℕ
    pub count : whole.count ≡ (group_with files span file).count + more
    pub last : file + more < length files

  among_case : (file n : ℕ) (t : Bool) → file ≤ n → n < length files → (group_number files span n == group_number files span file) ≡ t →
      (t ≡ false → IsWhole file (group_among files span (group_number files span file) n)) →
      IsWhole file (if t then group_with files span n else group_among files span (group_number files span file) n)
  among_case file n true le within is rest =
      let e : file + (n - file) ≡ n = omega (arith, le) in
      let same : group_number files span (file + (n - file)) ≡ group_number files span file =
      ap (group_number files span) e
      ∙ (let this : group_number files span n ≡ group_number files span file = grind (arith, nat_tests, is) in this) in
      let this = same_group file (n - file) same in
      record {
        first = sym (ap (λ (m : ℕ). (group_with files span m).first) e) ∙ this.0;
        more = n - file;
        count = sym (ap (λ (m : ℕ). (group_with files span m).count) e) ∙ this.1;
        last = omega (arith, e, within);
      }
  among_case file n false le within is rest = rest refl

  among_whole : (file n : ℕ) → file < n → n ≤ length files → IsWhole file (group_among files span (group_number files span file) n)
  among_whole file zero less few = absurd (omega (arith, less))
  among_whole file (suc n) less few =
      among_case file n (group_number files span n == group_number files span file) (omega (arith, less)) (omega (arith, few)) refl
      (λ other. elim (cases_lt file n) [
        | inl below ↦ among_whole file n below (omega (arith, few))
        | inr above ↦ (
            let same : n ≡ file = omega (arith, above, less) in
            let this : (group_number files span n == group_number files span file) ≡ true =
            (let e = ap (group_number files span) same in grind (arith, nat_tests, e)) in
            (let both : true ≡ false = sym this ∙ other in cc))
      ])

  -- the group of a file with all its files
  pub whole_of : (file : ℕ) → file < length files → IsWhole file (group_at files span (group_number files span file))
  whole_of file within = among_whole file (length files) within (omega arith)
