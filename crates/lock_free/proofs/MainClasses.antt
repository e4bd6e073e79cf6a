-- The class of a main node's slot, by what is known of the main node.
use Rattle.std.proofs.Common.{◌≡◌, ℕ, count_ones, refl, ap, ◌∙◌}
use Rattle.trie_words.specs.declared.headers.Header.{Header}
use Rattle.trie_words.specs.declared.headers.Shape.{Shape}
use Rattle.trie_words.specs.declared.headers.Shape.TheVariants as shape
use Rattle.machine_model.specs.Beneath.slot_arena.specs.declared.refs.Ref.{Ref}
use Rattle.machine_model.specs.Beneath.slot_arena.specs.declared.nodes.Node.{Node}
use Rattle.machine_model.specs.Beneath.slot_arena.specs.declared.nodes.Slot.{Slot}
use Rattle.machine_model.specs.Beneath.slot_arena.specs.Heaps.{node_at}
use Rattle.machine_model.specs.Beneath.slot_arena.specs.Refs.{slot_of}
use Rattle.lock_free.specs.declared.accounts.Account.{Account}
use Rattle.lock_free.specs.declared.rules.View.{View}
use Rattle.lock_free.specs.Loading.{now, HasHeader, IsSound, IsUsed}
use Rattle.lock_free.specs.Classes.{entries_in, shape_class}
use Rattle.lock_free.specs.Nodes.{class_of, SaysShape, of_branch, of_tomb, of_list}
use Rattle.lock_free.specs.Passing.{KnowsMain}
use Rattle.lock_free.specs.Places.{class_for}
use Rattle.lock_free.specs.Repairing.{IsBranch}
use Rattle.lock_free.proofs.Counts.{entries_counted}
use Rattle.lock_free.proofs.GivenBack.{node_is}

-- by how many entries it has
pub class_counts : (s : Shape) → class_for (entries_in s) ≡ shape_class s
class_counts (shape.Branch bitmap) = refl
class_counts (shape.Tomb single) = refl
class_counts (shape.List count) = refl

module _ (n : ℕ) (v : View) (sound : IsSound n v) (main : Ref) where
  class_in : (slot : Slot) → IsUsed v main slot → (account : Account) (node : Node) (s : Shape) → slot.node ≡ node → SaysShape account (slot_of main) node s → class_of node ≡ shape_class s
  class_in slot used account node s is (of_branch bitmap entries) = ap class_for (entries_counted n v sound main slot used bitmap entries is)
  class_in slot used account node s is (of_tomb single own owned) = refl
  class_in slot used account node s is (of_list singles) = refl

  -- by its header
  pub class_known : (header : Header) → KnowsMain v main header → class_of (node_at (now v).heap main) ≡ shape_class header.shape
  class_known header k = ap class_of (node_is (now v) main k.slot k.used) ∙ class_in k.slot k.used v.account k.slot.node header.shape refl k.is_shape

  -- the same where that one was read
  pub header_class : (account : Account) (header : Header) → HasHeader account (now v) main header → class_of (node_at (now v).heap main) ≡ shape_class header.shape
  header_class account header h = ap class_of (node_is (now v) main h.slot h.stores) ∙ class_in h.slot h.stores account h.slot.node header.shape refl h.is_shape

  -- by the bitmap of a branch
  pub branch_class : (bitmap : ℕ) → IsBranch v main bitmap → class_of (node_at (now v).heap main) ≡ class_for (count_ones bitmap)
  branch_class bitmap b = ap class_of (node_is (now v) main b.0 b.2 ∙ b.3) ∙ ap class_for (entries_counted n v sound main b.0 b.2 bitmap b.1 b.3)
