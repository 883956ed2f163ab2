-- The calls of a shape go from instructions to instructions and stand in order, as those of its job do.
use Rattle.std.proofs.Common.{ℕ, zero, suc, ◌≡◌, ◌<◌, ◌≤◌, ◌+◌, inl, inr, Option, Some, None, List, [], ◌∷◌, ◌++◌, length, add-one, ap, sym, subst, refl, arith}
use Rattle.stub_kinds.specs.declared.class.Class.{Class}
use Rattle.layout_rounds.specs.declared.shape.ShapeSection.{ShapeSection}
use Rattle.layout_rounds.specs.declared.shape.ShapeSite.{ShapeSite}
use Rattle.layout_rounds.specs.Shapes.{site_of, IsInText, IsNotAfter}
use Rattle.call_sites.specs.declared.site.CallSite.{CallSite}
use Rattle.call_sites.specs.laws.SiteOrder.{StandsBefore}
use Rattle.image_writer.specs.JobShape.{classed_by, classed_sites, shape_by, shape_sites, site_shape}
use Rattle.image_writer.specs.Calls.{call_at}

-- a call from an instruction to an instruction
pub record IsFit (sections : List ShapeSection) (s : ShapeSite) : Type 0 where
  pub from : IsInText sections s.section s.offset
  pub to : IsInText sections s.to_section s.to_offset

-- so is one of a job, where it goes somewhere
abbrev pub IsFitCall : List ShapeSection → CallSite → Type 0
IsFitCall sections site = (class : Class) → site.class ≡ Some class → IsFit sections (site_shape site class)

fit_case : (sections : List ShapeSection) (o : Option Class) (x : CallSite) (rest : List ShapeSite) →
    ((class : Class) → o ≡ Some class → IsFit sections (site_shape x class)) →
    ((i : ℕ) → i < length rest → IsFit sections (site_of rest i)) →
    (i : ℕ) → i < length (shape_by x o ++ rest) → IsFit sections (site_of (shape_by x o ++ rest) i)
fit_case sections None x rest here more i lt = more i lt
fit_case sections (Some class) x rest here more zero lt = here class refl
fit_case sections (Some class) x rest here more (suc i) lt = more i (omega arith)

pub sites_fit : (sections : List ShapeSection) (sites : List CallSite) →
    ((i : ℕ) → i < length sites → IsFitCall sections (call_at sites i)) →
    (i : ℕ) → i < length (shape_sites sites) → IsFit sections (site_of (shape_sites sites) i)
sites_fit sections [] each i lt = absurd (omega arith)
sites_fit sections (x ∷ xs) each i lt =
    fit_case sections x.class x (shape_sites xs) (each 0 (omega arith))
    (sites_fit sections xs (λ j below. each (suc j) (omega arith))) i lt

-- calls in order
abbrev pub AreOrdered : List CallSite → Type 0
AreOrdered sites = (i : ℕ) → suc i < length sites → StandsBefore (call_at sites i) (call_at sites (suc i))

before_too : (a b c : CallSite) → StandsBefore a b → StandsBefore b c → StandsBefore a c
before_too a b c first second =
    elim first [
      | inl less ↦ elim second [
        | inl more ↦ inl (omega (arith, less, more))
        | inr same ↦ inl (omega (arith, less, same.0))
      ]
      | inr same ↦ elim second [
        | inl more ↦ inl (omega (arith, same.0, more))
        | inr too ↦ inr (omega (arith, same.0, too.0), omega (arith, same.1, too.1))
      ]
    ]

not_after : (a b : CallSite) (c d : Class) → StandsBefore a b → IsNotAfter (site_shape a c) (site_shape b d)
not_after a b c d before =
    elim before [
      | inl less ↦ inl less
      | inr same ↦ inr (same.0, omega (arith, same.1))
    ]

without : (low x : CallSite) (xs : List CallSite) → AreOrdered (low ∷ x ∷ xs) → AreOrdered (low ∷ xs)
without low x xs ordered zero lt =
    before_too low x (call_at xs 0) (ordered zero (omega arith)) (ordered (suc zero) (omega arith))
without low x xs ordered (suc i) lt = ordered (suc (suc i)) (omega arith)

after_case : (o : Option Class) (low : CallSite) (own : Class) (x : CallSite) (rest : List ShapeSite) → StandsBefore low x →
    (0 < length rest → IsNotAfter (site_shape low own) (site_of rest 0)) →
    0 < length (shape_by x o ++ rest) → IsNotAfter (site_shape low own) (site_of (shape_by x o ++ rest) 0)
after_case None low own x rest before more lt = more lt
after_case (Some class) low own x rest before more lt = not_after low x own class before

-- a call that goes somewhere stands before the first of those behind it
first_after : (low : CallSite) (own : Class) (xs : List CallSite) → AreOrdered (low ∷ xs) → 0 < length (shape_sites xs) →
    IsNotAfter (site_shape low own) (site_of (shape_sites xs) 0)
first_after low own [] ordered lt = absurd (omega arith)
first_after low own (x ∷ xs) ordered lt =
    after_case x.class low own x (shape_sites xs) (ordered zero (omega arith)) (first_after low own xs (without low x xs ordered)) lt

order_case : (o : Option Class) (x : CallSite) (rest : List ShapeSite) →
    ((class : Class) → 0 < length rest → IsNotAfter (site_shape x class) (site_of rest 0)) →
    ((i : ℕ) → suc i < length rest → IsNotAfter (site_of rest i) (site_of rest (suc i))) →
    (i : ℕ) → suc i < length (shape_by x o ++ rest) →
    IsNotAfter (site_of (shape_by x o ++ rest) i) (site_of (shape_by x o ++ rest) (suc i))
order_case None x rest here more i lt = more i lt
order_case (Some class) x rest here more zero lt = here class (omega arith)
order_case (Some class) x rest here more (suc i) lt = more i (omega arith)

ordered_next : (sites : List CallSite) → AreOrdered sites → (i : ℕ) → suc i < length (shape_sites sites) →
    IsNotAfter (site_of (shape_sites sites) i) (site_of (shape_sites sites) (suc i))
ordered_next [] ordered i lt = absurd (omega arith)
ordered_next (x ∷ xs) ordered i lt =
    order_case x.class x (shape_sites xs) (λ class some. first_after x class xs ordered some)
    (ordered_next xs (λ j below. ordered (suc j) (omega arith))) i lt

pub sites_ordered : (sites : List CallSite) → AreOrdered sites → (i : ℕ) → i + 1 < length (shape_sites sites) →
    IsNotAfter (site_of (shape_sites sites) i) (site_of (shape_sites sites) (i + 1))
sites_ordered sites ordered i lt =
    subst (λ (n : ℕ). IsNotAfter (site_of (shape_sites sites) i) (site_of (shape_sites sites) n)) (sym (add-one i))
    (ordered_next sites ordered i (omega arith))

few_case : (o : Option Class) (x : CallSite) (rest : List ShapeSite) (n : ℕ) → length rest ≤ n → length (shape_by x o ++ rest) ≤ suc n
few_case None x rest n few = omega arith
few_case (Some class) x rest n few = omega arith

-- the shape has no more calls than the job
pub sites_few : (sites : List CallSite) → length (shape_sites sites) ≤ length sites
sites_few [] = omega arith
sites_few (x ∷ xs) = few_case x.class x (shape_sites xs) (length xs) (sites_few xs)

count_case : (o : Option Class) (x : CallSite) (calls : List CallSite) (rest : List ShapeSite) → length rest ≡ length calls →
    length (shape_by x o ++ rest) ≡ length (classed_by x o ++ calls)
count_case None x calls rest same = same
count_case (Some class) x calls rest same = ap suc same

-- it has those that go somewhere
pub sites_count : (sites : List CallSite) → length (shape_sites sites) ≡ length (classed_sites sites)
sites_count [] = refl
sites_count (x ∷ xs) = count_case x.class x (classed_sites xs) (shape_sites xs) (sites_count xs)
