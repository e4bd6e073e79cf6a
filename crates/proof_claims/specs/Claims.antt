-- Who holds what after a list of steps.
use Rattle.std.specs.Prelude.{◌≡◌, ℕ, ◌==◌, ◌&&◌, List, [], ◌∷◌, Contains, Some, count_by, if◌then◌else◌}
use Rattle.proof_claims.specs.Beneath.slot_arena.specs.declared.refs.Ref.{Ref}
use Rattle.proof_claims.specs.Beneath.machine_model.specs.declared.roots.Root.{Root}
use Rattle.proof_claims.specs.Beneath.machine_model.specs.declared.steps.Bounds.{Bounds}
use Rattle.proof_claims.specs.Beneath.machine_model.specs.declared.steps.Step.{Step}
use Rattle.proof_claims.specs.Beneath.machine_model.specs.Machine.{is_taken_step, next, next_state}
use Rattle.proof_claims.specs.Beneath.machine_model.specs.States.{State, first_state, root_at}
use Rattle.proof_claims.specs.Beneath.proof_followed.specs.Followed.{IsFollowedByRoots}
use Rattle.proof_claims.specs.Held.{Claim, Held, Holder, OfHandle, OfNode, first_held, held_after, is_by_nodes}
use Rattle.proof_claims.specs.Changes.{change_of}

-- after one step more; a denied one changes nothing
abbrev pub next_held : State → Held → Step → Held
next_held state held s = if is_taken_step (next state s) then held_after (change_of state held s) held else held

unfoldable pub held_from : State → Held → List Step → Held
held_from state held [] = held
held_from state held (s ∷ steps) = held_from (next_state state s) (next_held state held s) steps

abbrev pub held_of : Bounds → List Step → Held
held_of limits steps = held_from (first_state limits) first_held steps

abbrev pub claims_of : Bounds → List Step → List Claim
claims_of limits steps = (held_of limits steps).claims

-- how often the reference stands in the list
abbrev pub how_often : Ref → List Ref → ℕ
how_often r = count_by (λ (x : Ref). x == r)

-- how many claims are on it
abbrev pub claims_on : Ref → List Claim → ℕ
claims_on r = count_by (λ (c : Claim). c.on == r)

-- how many of them the node has
abbrev pub claims_by : Ref → Ref → List Claim → ℕ
claims_by j k = count_by (λ (c : Claim). is_by_nodes (j ∷ []) c.by && (c.on == k))

-- there is this claim
abbrev pub Has : Held → Holder → Ref → Type 0
Has held by on = Contains held.claims (record { by = by; on = on })

-- an open handle, or a node to which roots lead
abbrev pub IsLinkedHolder : State → Holder → Type 0
IsLinkedHolder state (OfHandle handle) = (root : Root) × (root_at state handle ≡ Some root)
IsLinkedHolder state (OfNode j) = IsFollowedByRoots state j
