-- The text of a job as it is laid out, and why it can't be (stubs and the reach of calls: ELFv2 ABI, "Function Call").
use Rattle.std.specs.Prelude.{ℕ, ◌≡◌, ◌≢◌, ◌<◌, ◌^◌, Bool, None, List, length}
use Rattle.object_set.specs.declared.refusal.Site.{Site}
use Rattle.object_set.specs.declared.refusal.Refusal.{Refusal}
use Rattle.symbol_table.specs.Records.{records_refusal}
use Rattle.toc_groups.specs.Plans.{LaidData, IsPlan}
use Rattle.call_sites.specs.declared.site.CallSite.{CallSite}
use Rattle.call_sites.specs.Sites.{call_sites}
use Rattle.layout_rounds.specs.declared.shape.Shape.{Shape}
use Rattle.layout_rounds.specs.declared.settling.LayoutFault.{LayoutFault}
use Rattle.layout_rounds.specs.declared.settling.LayoutFault.TheVariants as fault
use Rattle.layout_rounds.specs.FarSets.{member}
use Rattle.layout_rounds.specs.Shapes.{KeyedText}
use Rattle.layout_rounds.specs.Layout.{PlacedText}
use Rattle.layout_rounds.specs.Reach.{IsFarSet}
use Rattle.layout_rounds.specs.Settled.{IsFarLayout, IsAccepted, IsRefusedBy}
use Rattle.object_set.specs.declared.refusal.Refusal.TheVariants.{TextTooBig, StubReach, Memory}
use Rattle.image_writer.specs.Calls.{call_at}
use Rattle.image_writer.specs.Job.{IsShapeOf}
use Rattle.image_writer.specs.JobShape.{classed_sites}

-- what a layout is asked of: no record of the files is refused, these are their plan of data and their call sites
pub record HasCalls (files : List (List ℕ)) (plan : LaidData) (sites : List CallSite) : Type 0 where
  pub records : records_refusal files ≡ None
  pub plan_is : IsPlan files plan.span plan
  pub sites_are : sites ≡ call_sites files plan.groups
  pub few : length sites < 2 ^ 32

-- the text of a job, laid out for the far set of its shape, is within its limit, and each call reaches where it branches
pub record IsLaidText (files : List (List ℕ)) (plan : LaidData) (sites : List CallSite) (span : ℕ) (t : KeyedText) (far : List Bool)
    (places : PlacedText) : Type 0 where
  pub shape : Shape
  pub shape_is : IsShapeOf files plan sites shape
  pub laid : IsFarLayout shape span t far places
  pub accepted : IsAccepted shape span (member far)

-- a text in stub groups, its far keys, and its places
pub record TextLayout : Type 0 where
  pub keyed : KeyedText
  pub far : List Bool
  pub places : PlacedText

abbrev pub layout_of : KeyedText → List Bool → PlacedText → TextLayout
layout_of keyed far places = record { keyed = keyed; far = far; places = places }

abbrev pub IsTextLayout : List (List ℕ) → LaidData → List CallSite → ℕ → TextLayout → Type 0
IsTextLayout files plan sites span text = IsLaidText files plan sites span text.keyed text.far text.places

-- the shape of a job is refused for that in the layout of its far set
pub record IsRefusedJob (files : List (List ℕ)) (plan : LaidData) (sites : List CallSite) (span : ℕ) (why : LayoutFault) : Type 0 where
  pub shape : Shape
  pub far : ℕ → Bool
  pub shape_is : IsShapeOf files plan sites shape
  pub far_is : IsFarSet shape span far
  pub refused : IsRefusedBy shape span far why

-- a call of the job, which is the first that doesn't reach its stub
pub record IsFirstOut (files : List (List ℕ)) (plan : LaidData) (sites : List CallSite) (span : ℕ) (site : Site) : Type 0 where
  pub number : ℕ
  pub within : number < length (classed_sites sites)
  pub refused : IsRefusedJob files plan sites span (fault.StubReach number)
  pub site_is : site ≡ (call_at (classed_sites sites) number).site

-- why the text of a job can't be laid out
abbrev pub IsTextRefusal : List (List ℕ) → LaidData → List CallSite → ℕ → Refusal → Type 0
IsTextRefusal files plan sites span TextTooBig = IsRefusedJob files plan sites span fault.TextTooBig
IsTextRefusal files plan sites span (StubReach site) = IsFirstOut files plan sites span site
IsTextRefusal files plan sites span Memory = Unit {0}
IsTextRefusal files plan sites span r = ⊥

-- a text is laid out
pub record HasTextLayout (files : List (List ℕ)) (plan : LaidData) (sites : List CallSite) (span : ℕ) : Type 0 where
  pub text : TextLayout
  pub is : IsTextLayout files plan sites span text

-- or there is a reason in it why it can't be
pub record HasTextRefusal (files : List (List ℕ)) (plan : LaidData) (sites : List CallSite) (span : ℕ) : Type 0 where
  pub refusal : Refusal
  pub is : IsTextRefusal files plan sites span refusal
  pub stated : refusal ≢ Memory
