-- Where the branches of a text go: each is held by its word, and goes from instruction to instruction (ELFv2 ABI, "Function Call";
-- Power ISA 3.1, book I, "Branch Instructions").
use Rattle.std.specs.Prelude.{ℕ, ◌≡◌, ◌<◌, ◌%◌, Bool, List, length, Some, slice_index}
use Rattle.ppc_bytes.specs.Bytes.{InSigned}
use Rattle.stub_kinds.specs.Stubs.{BranchReaches}
use Rattle.stub_kinds.specs.declared.class.Class.{Class}
use Rattle.call_sites.specs.declared.site.CallSite.{CallSite}
use Rattle.toc_groups.specs.Plans.{LaidData}
use Rattle.layout_rounds.specs.Layout.{PlacedText, key_at, key_count, section_count, stub_size}
use Rattle.layout_rounds.specs.Shapes.{KeyedText}
use Rattle.image_writer.specs.Calls.{branch_address, call_address, call_at, call_number, displacement}
use Rattle.image_writer.specs.Rewriting.{Rewriting}
use Rattle.image_writer.specs.Text.{callee_base, caller_base, place_of}

module _ (files : List (List ℕ)) (plan : LaidData) (sites : List CallSite) (t : KeyedText) (F : ℕ → Bool) (p : PlacedText)
    (w : Rewriting) where
  -- call i stands at an instruction and branches to one, by a distance of 26 bits
  pub record CallReaches (i : ℕ) : Type 0 where
    pub at_whole : call_address files plan.bases t F p (call_at sites i) % 4 ≡ 0
    pub to_whole : (class : Class) → (call_at sites i).class ≡ Some class →
        branch_address files plan.bases t F p (call_number sites i) % 4 ≡ 0
    pub reaches : InSigned 26 (displacement files plan.bases t F p (call_at sites i) (call_number sites i))

  -- the stub of key k stands at an instruction and leads to one, which its branch reaches if it has one; its place and the TOC bases of
  -- callers and callee are low, so that two halves reach from one to another
  pub record StubReaches (k : ℕ) : Type 0 where
    pub at_whole : slice_index p.stubs k % 4 ≡ 0
    pub to_whole : place_of files plan.bases t F p k % 4 ≡ 0
    pub reaches : BranchReaches (key_at t k).class (F k) (slice_index p.stubs k) (place_of files plan.bases t F p k)
    pub at_low : slice_index p.stubs k < 0x60000000
    pub to_low : place_of files plan.bases t F p k < 0x60000000
    pub base_low : caller_base files plan.bases t F p (key_at t k).group (section_count t) < 0x60000000
    pub to_base_low : callee_base files plan.bases t F p k < 0x60000000

  -- so it is of all calls and of all stubs that aren't empty
  pub record BranchesReach : Type 0 where
    pub calls : (i : ℕ) → i < length sites → CallReaches i
    pub stubs : (k : ℕ) → k < key_count t → 0 < stub_size t F k → StubReaches k
