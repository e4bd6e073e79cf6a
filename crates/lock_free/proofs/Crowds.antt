-- How many entries a main node has whose header is known.
use Rattle.std.proofs.Common.{◌≡◌, ◌≤◌, ℕ, length, refl, ap, ◌∙◌}
use Rattle.arrayvec.specs.ArrayVec.{ArrayVec}
use Rattle.trie_words.specs.declared.headers.Header.{Header}
use Rattle.trie_words.specs.declared.headers.Shape.{Shape}
use Rattle.machine_model.specs.Beneath.slot_arena.specs.declared.refs.Ref.{Ref}
use Rattle.machine_model.specs.Beneath.slot_arena.specs.declared.nodes.Node.{Node}
use Rattle.machine_model.specs.Beneath.slot_arena.specs.declared.nodes.Node.TheVariants.{List as Listed}
use Rattle.machine_model.specs.Beneath.slot_arena.specs.declared.nodes.Slot.{Slot}
use Rattle.machine_model.specs.Beneath.slot_arena.specs.Heaps.{node_at, entries_of}
use Rattle.machine_model.specs.Beneath.slot_arena.specs.Refs.{slot_of}
use Rattle.proof_linearizable.specs.Beneath.proof_shape.proofs.Shaped.OfLists.{lists_crowds}
use Rattle.proof_memory.proofs.Safety.AtEachTime.{safe_along}
use Rattle.lock_free.specs.declared.rules.View.{View}
use Rattle.lock_free.specs.Accounts.{bounds_for}
use Rattle.lock_free.specs.Descending.{entries_in}
use Rattle.lock_free.specs.Loading.{now, IsUsed, IsSound}
use Rattle.lock_free.specs.Nodes.{SaysShape, of_branch, of_tomb, of_list}
use Rattle.lock_free.specs.Passing.{KnowsMain}
use Rattle.lock_free.proofs.Counts.{entries_counted}
use Rattle.lock_free.proofs.GivenBack.{node_is}
use Rattle.lock_free.proofs.OneStep.Found.{ref_at}

module _ (n : ℕ) (v : View) (sound : IsSound n v) where
  -- a list has 32 singles at most
  pub list_few : (r : Ref) (slot : Slot) (singles : ArrayVec Ref) → IsUsed v r slot → slot.node ≡ Listed singles → length singles.items ≤ 32
  list_few r slot singles used is =
      let limits = bounds_for v.sizes v.account.steps in
      let stands = ref_at (now v) (safe_along limits sound.bounds v.account.steps) (slot_of r) slot used in
      let crowd = lists_crowds limits v.account.steps stands.0 slot singles sound.bounds sound.keys stands.2 is in crowd.2

  counted_by : (r : Ref) (slot : Slot) → IsUsed v r slot → (node : Node) (s : Shape) → slot.node ≡ node → SaysShape v.account (slot_of r) node s → length (entries_of node) ≡ entries_in s
  counted_by r slot used node s is (of_branch bitmap entries) = entries_counted n v sound r slot used bitmap entries is
  counted_by r slot used node s is (of_tomb single own its) = refl
  counted_by r slot used node s is (of_list singles) = refl

  pub counted : (main : Ref) (header : Header) → KnowsMain v main header → length (entries_of (node_at (now v).heap main)) ≡ entries_in header.shape
  counted main header k = ap (λ x. length (entries_of x)) (node_is (now v) main k.slot k.used) ∙ counted_by main k.slot k.used k.slot.node header.shape refl k.is_shape
