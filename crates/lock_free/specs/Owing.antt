-- What a seat must hold itself before a step of its operation that makes a node, and what it holds after a step.
use Rattle.std.specs.Prelude.{◌≡◌, ◌⊎◌, true, List, [], ◌∷◌, ◌++◌, Contains, Some}
use Rattle.machine_model.specs.Beneath.slot_arena.specs.declared.refs.Ref.{Ref}
use Rattle.machine_model.specs.Beneath.slot_arena.specs.Heaps.{node_at, refs_of_node}
use Rattle.machine_model.specs.declared.actions.Action.{Action}
use Rattle.machine_model.specs.declared.actions.Action.TheVariants as act
use Rattle.machine_model.specs.declared.lines.Line.{Line}
use Rattle.machine_model.specs.declared.operations.Operation.{Operation}
use Rattle.machine_model.specs.declared.steps.Step.TheVariants as step
use Rattle.machine_model.specs.Operations.{action_of}
use Rattle.proof_claims.specs.Changes.{change_of, given_up, goal_of}
use Rattle.proof_claims.specs.Held.{Change, gives}
use Rattle.lock_free.specs.declared.accounts.Account.{Account}
use Rattle.lock_free.specs.declared.rules.View.{View}
use Rattle.lock_free.specs.Accounts.{running, state_of, IsOwn}
use Rattle.lock_free.specs.Claims.{held_now, owed_beside, owes_after}
use Rattle.lock_free.specs.Loading.{now}
use Rattle.lock_free.specs.OwesAt.{owes_at}

-- the seat holds these references
abbrev pub owing : View → List Ref → View
owing v owed = record v { owed = owed }

-- what its next step does to claims, once all this has happened
abbrev pub next_change : View → Account → Change
next_change v account = change_of (state_of v.sizes account) (held_now v.sizes account) (step.Go v.actor)

abbrev pub owes_then : View → Account → List Ref
owes_then v account = owes_after (next_change v account) (held_now v.sizes account).claims v.owed

-- What it holds once all that its operation has made is given up: what these nodes held of others is the seat's then, and they themselves are nobody's.
abbrev pub owes_given_up : View → Account → List Ref → List Ref
owes_given_up v account private = gives (given_up private) (held_now v.sizes account).claims ++ owed_beside private v.owed

-- ---- before a node is made

-- what is made names these
abbrev pub names_made : Action → List Ref
names_made (act.Make node) = refs_of_node node
names_made (act.MakeRoot main) = main ∷ []
names_made action = []

-- the node that it is to replace, the indirection's own, names it, and leaves it to it
abbrev pub IsTakenOver : View → Line → Ref → Type 0
IsTakenOver v l k = (i : Ref) × (m : Ref) × (goal_of l ≡ Some (i, m)) × IsOwn v.account i m true × Contains (refs_of_node (node_at (now v).heap m)) k

-- What the node names its operation has made, or the seat holds itself, or the node takes it over.
abbrev pub HoldsRaised : View → Type 0
HoldsRaised v =
    (operation : Operation) → running v.sizes v.account v.actor operation → (k : Ref) → Contains (names_made (action_of (now v) operation)) k →
    Contains (owes_at operation) k ⊎ (Contains v.owed k ⊎ IsTakenOver v operation.line k)
