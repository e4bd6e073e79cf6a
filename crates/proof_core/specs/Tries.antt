-- What holds of a heap below a root, whatever the calls that come to it.
use Rattle.std.specs.Prelude.{◌≡◌, ℕ, true}
use Rattle.proof_core.specs.Vocabulary.{Ref, is_indirection, Heap, node_at, prev_at, IsInUse, NodeLevel, AllHold, is_formed, node_wants, prev_wants}

-- What stands in a slot in use is what it is taken for, and has a level, by which no way down comes to one slot twice. The root is an indirection in use.
pub record IsTrie (heap : Heap) (root : Ref) : Type 0 where
  pub used : IsInUse heap root
  pub indirection : is_indirection (node_at heap root) ≡ true
  pub nodes : (r : Ref) → IsInUse heap r → AllHold (IsInUse heap) heap (node_wants (node_at heap r))
  pub formed : (r : Ref) → IsInUse heap r → is_formed (node_at heap r) ≡ true
  pub prevs : (r : Ref) → IsInUse heap r → AllHold (IsInUse heap) heap (prev_wants (prev_at heap r))
  pub level : Ref → ℕ
  pub levels : (r : Ref) → IsInUse heap r → NodeLevel level r (node_at heap r)
