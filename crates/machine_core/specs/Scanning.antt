-- How far a scan has come, and where its cursor leads.
use Rattle.std.specs.Prelude.{◌≡◌, ℕ, ◌-◌, ◌*◌, ◌%◌, ◌^◌, ◌++◌, List, length, take, Option, Some, None, ⊤}
use Rattle.std.specs.List.{filter}
use Rattle.machine_core.specs.Vocabulary.{hash_of, HashKind, Node, Ref, Heap, IsMainPlaced, is_behind}
use Rattle.proof_core.specs.Scanning.{IsPlaced}

-- what was taken, and then the first of these pairs that are behind the cursor, until there are so many
unfoldable pub with_next : HashKind → Option ℕ → ℕ → List (ℕ × ℕ) → List (ℕ × ℕ) → List (ℕ × ℕ)
with_next kind after room taken pairs = taken ++ take (room - length taken) (filter (λ (pair : ℕ × ℕ). is_behind kind after pair.0) pairs)

-- the cursor's hash leads along this path to this depth, if there is a cursor
abbrev pub IsAlong : HashKind → Option ℕ → ℕ → ℕ → Type 0
IsAlong kind None depth path = ⊤
IsAlong kind (Some last) depth path = hash_of kind last % 2 ^ (5 * depth) ≡ path

-- an indirection or a single stands in place at this depth, where the cursor's hash leads
pub record IsOnWay (kind : HashKind) (heap : Heap) (levels depth : ℕ) (after : Option ℕ) (at : Ref) : Type 0 where
  pub path : ℕ
  pub placed : IsPlaced kind levels heap depth path at
  pub along : IsAlong kind after depth path

-- a main node does
pub record IsMainOnWay (kind : HashKind) (heap : Heap) (levels depth : ℕ) (after : Option ℕ) (node : Node) : Type 0 where
  pub path : ℕ
  pub placed : IsMainPlaced kind heap (IsPlaced kind levels heap) depth path node
  pub along : IsAlong kind after depth path
