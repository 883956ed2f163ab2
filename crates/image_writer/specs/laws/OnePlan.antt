-- Files have one plan of data for a TOC span.
use Rattle.std.proofs.Common.{ℕ, ◌≡◌, List, Option, ap, ◌∙◌}
use Rattle.object_set.specs.declared.places.SymbolId.{SymbolId}
use Rattle.toc_groups.specs.declared.pieces.DataEnds.{DataEnds}
use Rattle.toc_groups.specs.Plans.{LaidData, IsPlan}
use Rattle.image_writer.specs.Plan.{data_plan}

-- a plan of these parts
abbrev made : ℕ → List ℕ → List ℕ → List ℕ → List ℕ → ℕ → List ℕ
    → List (List SymbolId) → List (List (Option ℕ)) → DataEnds → ℕ → LaidData
made a b c d e f g h i j k = record {
  span = a;
  groups = b;
  bases = c;
  pieces = d;
  firsts = e;
  commons = f;
  starts = g;
  named = h;
  slots = i;
  ends = j;
  text_start = k;
}

-- part by part
pub one_plan : (files : List (List ℕ)) (span : ℕ) (plan : LaidData) → IsPlan files span plan → plan ≡ data_plan files span
one_plan files span p is =
    let d = data_plan files span in
    ap (λ (x : ℕ). made x p.groups p.bases p.pieces p.firsts p.commons
    p.starts p.named p.slots p.ends p.text_start) is.span_is
    ∙ ap (λ (x : List ℕ). made d.span x p.bases p.pieces p.firsts p.commons
    p.starts p.named p.slots p.ends p.text_start) is.groups
    ∙ ap (λ (x : List ℕ). made d.span d.groups x p.pieces p.firsts p.commons
    p.starts p.named p.slots p.ends p.text_start) is.bases
    ∙ ap (λ (x : List ℕ). made d.span d.groups d.bases x p.firsts p.commons
    p.starts p.named p.slots p.ends p.text_start) is.pieces
    ∙ ap (λ (x : List ℕ). made d.span d.groups d.bases d.pieces x p.commons
    p.starts p.named p.slots p.ends p.text_start) is.firsts
    ∙ ap (λ (x : ℕ). made d.span d.groups d.bases d.pieces d.firsts x
    p.starts p.named p.slots p.ends p.text_start) is.commons
    ∙ ap (λ (x : List ℕ). made d.span d.groups d.bases d.pieces d.firsts d.commons
    x p.named p.slots p.ends p.text_start) is.starts
    ∙ ap (λ (x : List (List SymbolId)). made d.span d.groups d.bases d.pieces d.firsts d.commons
    d.starts x p.slots p.ends p.text_start) is.named
    ∙ ap (λ (x : List (List (Option ℕ))). made d.span d.groups d.bases d.pieces d.firsts d.commons
    d.starts d.named x p.ends p.text_start) is.slots
    ∙ ap (λ (x : DataEnds). made d.span d.groups d.bases d.pieces d.firsts d.commons
    d.starts d.named d.slots x p.text_start) is.ends
    ∙ ap (λ (x : ℕ). made d.span d.groups d.bases d.pieces d.firsts d.commons
    d.starts d.named d.slots d.ends x) is.text_start
