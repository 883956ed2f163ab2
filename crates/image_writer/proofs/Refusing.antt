-- The call by which a shape is refused is one of its calls.
use Rattle.std.proofs.Common.{ℕ, zero, suc, ◌≡◌, ◌<◌, ◌+◌, Bool, true, false, cond, Option, Some, List, length, ap, arith}
use Rattle.std.specs.List.{find, range_with_len}
use Rattle.layout_rounds.specs.declared.shape.Shape.{Shape}
use Rattle.layout_rounds.specs.declared.settling.LayoutFault.{LayoutFault}
use Rattle.layout_rounds.specs.declared.settling.LayoutFault.TheVariants.{StubReach}
use Rattle.layout_rounds.specs.declared.shape.ShapeSite.{ShapeSite}
use Rattle.layout_rounds.specs.Reach.{IsFarSet}
use Rattle.layout_rounds.specs.Settled.{is_out, IsRefused}
use Rattle.layout_rounds.specs.Shapes.{keyed_text}
use Rattle.call_sites.specs.declared.site.CallSite.{CallSite}
use Rattle.toc_groups.specs.Plans.{LaidData}
use Rattle.image_writer.specs.Job.{IsShapeOf}
use Rattle.image_writer.specs.LaidText.{IsRefusedJob}
use Rattle.image_writer.specs.JobShape.{classed_sites, shape_sites}
use Rattle.image_writer.proofs.Sited.{sites_count}

within_case : (b : Bool) (rest : Option ℕ) (a i n : ℕ) → (rest ≡ Some i → i < a + 1 + n) → cond b (Some a) rest ≡ Some i → i < a + suc n
within_case true rest a i n more found =
    let same : a ≡ i = cc in
    omega (arith, same)
within_case false rest a i n more found = let less = more found in omega (arith, less)

-- what is found among numbers is one of them
pub find_within : (p : ℕ → Bool) (n a i : ℕ) → find p (range_with_len a n) ≡ Some i → i < a + n
find_within p zero a i found = cc
find_within p (suc n) a i found = within_case (p a) (find p (range_with_len (a + 1) n)) a i n (find_within p n (a + 1) i) found

number_within : (shape : Shape) (span i : ℕ) (F : ℕ → Bool) → IsFarSet shape span F → IsRefused shape span (StubReach i) →
    i < length shape.sites.items
number_within shape span i F far refused =
    let within = find_within (is_out (keyed_text shape span) shape.sites.items F span) (length shape.sites.items) 0 i
    (refused F far).first in
    omega (arith, within)

pub call_within : (sites : List CallSite) (shape : Shape) (span i : ℕ) → shape.sites.items ≡ shape_sites sites →
    (F : ℕ → Bool) × IsFarSet shape span F → IsRefused shape span (StubReach i) → i < length (classed_sites sites)
call_within sites shape span i are far refused =
    let within = number_within shape span i far.0 far.1 refused in
    let all = sites_count sites in
    let count = ap (λ (l : List ShapeSite). length l) are in
    omega (arith, within, all, count)

-- a refusal for each far set is one for the far set that there is
pub refused_job : (files : List (List ℕ)) (plan : LaidData) (sites : List CallSite) (span : ℕ) (shape : Shape) (why : LayoutFault) →
    IsShapeOf files plan sites shape → (F : ℕ → Bool) × IsFarSet shape span F → IsRefused shape span why →
    IsRefusedJob files plan sites span why
refused_job files plan sites span shape why is far refused =
    record { shape = shape; far = far.0; shape_is = is; far_is = far.1; refused = refused far.0 far.1 }
