-- What it gives to the seat of a copy that its operation finds what came of its own offer: the old root, or the main node over which it had made roots. The seat lets go of these.
use Rattle.std.specs.Prelude.{◌≡◌, ℕ, true, List, [], ◌∷◌}
use Rattle.machine_model.specs.Beneath.slot_arena.specs.declared.nodes.Node.TheVariants.{Indirection}
use Rattle.machine_model.specs.Beneath.slot_arena.specs.declared.nodes.Slot.{Slot}
use Rattle.machine_model.specs.Beneath.slot_arena.specs.declared.refs.Ref.{Ref}
use Rattle.machine_model.specs.Beneath.slot_arena.specs.Heaps.{node_at}
use Rattle.machine_model.specs.declared.copying.CopyLine.TheVariants as copy
use Rattle.machine_model.specs.declared.roots.Complete.{Complete}
use Rattle.proof_memory.specs.Wants.{is_main_node}
use Rattle.lock_free.specs.declared.copy_gifts.CopyMain.{CopyMain}
use Rattle.lock_free.specs.declared.copy_roots.CopyKind.{CopyKind}
use Rattle.lock_free.specs.declared.copy_roots.CopyKind.TheVariants as kind
use Rattle.lock_free.specs.declared.reclaiming.Kind.{Kind}
use Rattle.lock_free.specs.declared.rules.View.{View}
use Rattle.lock_free.specs.Claims.{HoldsAll}
use Rattle.lock_free.specs.CopySteps.{IsAtCopy}
use Rattle.lock_free.specs.Counting.{IsInSlot}
use Rattle.lock_free.specs.Loading.{now, IsUsed, Saw}
use Rattle.lock_free.specs.Passing.{IsPlaced}
use Rattle.lock_free.specs.Places.{small_class}
use Rattle.lock_free.specs.Raising.{IsShared}
use Rattle.lock_free.specs.Reclaiming.{kind_of_node}

-- ---- over which main node the roots stand

-- the main node that the offer expects is in this slot of this class
pub record SawExpected (before : View) (main : CopyMain) (after : View) : Type 0 where
  pub saw : Saw before after
  pub there : (c : Complete) → IsAtCopy before (copy.Complete c) → IsInSlot after c.offer.expected main.class main.slot
  pub is_main : (c : Complete) → IsAtCopy before (copy.Complete c) → is_main_node (node_at (now after).heap c.offer.expected) ≡ true

-- the main node that this indirection has is in the slot of this name
abbrev pub HasBelow : View → Ref → ℕ → Type 0
HasBelow v r name = (slot : Slot) (generation : ℕ) (main : Ref) → IsUsed v r slot → slot.node ≡ Indirection generation main → IsPlaced v main name

-- the one over which a clear has made its root is in a slot of the least class, since it has no entries
pub record SawEmpty (before : View) (main : CopyMain) (after : View) : Type 0 where
  pub saw : Saw before after
  pub class : main.class ≡ small_class
  pub below : (c : Complete) → IsAtCopy before (copy.Complete c) → HasBelow after c.offer.successor main.slot

abbrev pub SawMain : View → CopyKind → CopyMain → View → Type 0
SawMain before kind.Clear main after = SawEmpty before main after
SawMain before kind.Snapshot main after = SawExpected before main after
SawMain before kind.Freeze main after = SawExpected before main after

-- ---- what is given

-- where it was carried out: the handle that a freeze opens holds the old root
abbrev pub root_given : CopyKind → Ref → List Ref
root_given kind.Clear root = root ∷ []
root_given kind.Snapshot root = root ∷ []
root_given kind.Freeze root = []

-- where it was taken back: once for each of the roots
abbrev pub main_given : CopyKind → Ref → List Ref
main_given kind.Clear main = main ∷ []
main_given kind.Snapshot main = main ∷ main ∷ []
main_given kind.Freeze main = main ∷ []

-- the seat holds all of these, which are this node, of this kind and in this slot of this class
pub record MayLetGo (v : View) (k : Ref) (what : Kind) (class name : ℕ) (given : List Ref) : Type 0 where
  pub there : IsInSlot v k class name
  pub its_kind : kind_of_node (node_at (now v).heap k) ≡ what
  pub shared : IsShared v k
  pub held : HoldsAll given v.owed
