-- A walk along sites that looks for the first one without its slot.
use Rattle.std.proofs.Common.{◌≡◌, ◌<◌, ℕ, ◌+◌, Bool, true, false, not, ◌&&◌, List, ◌∷◌, length, drop, drop-cons, add-one, Some, sym, ap, ◌∙◌}
use Rattle.std.specs.List.{slice_index_or}
use Rattle.elf64_records.specs.First.{first_in, when}
use Rattle.elf64_records.specs.laws.First.{list_passes, list_stops}
use Rattle.object_set.specs.declared.refusal.Refusal.TheVariants.{NoRestore}
use Rattle.call_sites.specs.declared.site.CallSite.{CallSite}
use Rattle.call_sites.specs.Refusals.{restore_refusal}

left_is : (sites : List CallSite) (i : ℕ) (d : CallSite) → i < length sites → drop i sites ≡ slice_index_or sites i d ∷ drop (i + 1) sites
left_is sites i d within = drop-cons sites i d within ∙ ap (λ (n : ℕ). slice_index_or sites i d ∷ drop n sites) (sym (add-one i))

-- a site passes
pub site_passes : (sites : List CallSite) (i : ℕ) (d : CallSite) → i < length sites →
    first_in restore_refusal (drop i sites) ≡ first_in restore_refusal sites →
    ((slice_index_or sites i d).restore && not (slice_index_or sites i d).slot) ≡ false →
    first_in restore_refusal (drop (i + 1) sites) ≡ first_in restore_refusal sites
site_passes sites i d within so_far passes =
    let site = slice_index_or sites i d in
    list_passes restore_refusal (drop i sites) (drop (i + 1) sites) site (first_in restore_refusal sites) so_far (left_is sites i d within)
    (ap (λ (t : Bool). when t (NoRestore site.site)) passes)

-- a site doesn't
pub site_stops : (sites : List CallSite) (i : ℕ) (d : CallSite) → i < length sites →
    first_in restore_refusal (drop i sites) ≡ first_in restore_refusal sites →
    ((slice_index_or sites i d).restore && not (slice_index_or sites i d).slot) ≡ true →
    first_in restore_refusal sites ≡ Some (NoRestore (slice_index_or sites i d).site)
site_stops sites i d within so_far stops =
    let site = slice_index_or sites i d in
    list_stops restore_refusal (drop i sites) (drop (i + 1) sites) site (first_in restore_refusal sites) (NoRestore site.site) so_far
    (left_is sites i d within)
    (ap (λ (t : Bool). when t (NoRestore site.site)) stops)
