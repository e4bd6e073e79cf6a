-- Laws of claims, for every list of steps.
use Rattle.std.specs.Prelude.{◌≡◌, ◌+◌, ◌≤◌, true, List, ◌++◌, Contains}
use Rattle.proof_claims.specs.Beneath.slot_arena.specs.declared.refs.Ref.{Ref}
use Rattle.proof_claims.specs.Beneath.slot_arena.specs.Heaps.{node_at, refs_of_node}
use Rattle.proof_claims.specs.Beneath.machine_model.specs.declared.steps.Bounds.{Bounds}
use Rattle.proof_claims.specs.Beneath.machine_model.specs.Times.{last_of, states_of}
use Rattle.proof_claims.specs.Beneath.proof_owned.specs.Owned.{IsOwn}
use Rattle.proof_claims.specs.Beneath.machine_model.specs.declared.steps.Step.{Step}
use Rattle.proof_claims.specs.Beneath.machine_model.specs.Keys.{KeysFit}
use Rattle.proof_claims.specs.Beneath.machine_model.specs.Machine.{AreBounds, run}
use Rattle.proof_claims.specs.Beneath.machine_model.specs.States.{State}
use Rattle.proof_claims.specs.Beneath.proof_followed.specs.Followed.{IsFollowedByAny, IsFollowedByRoots}
use Rattle.proof_claims.specs.Beneath.proof_fresh.specs.Grace.{IsPrivateToNone}
use Rattle.proof_claims.specs.Beneath.proof_memory.specs.Laws.{IsInUse}
use Rattle.proof_claims.specs.Beneath.proof_reuse.specs.Laws.{IsGarbage}
use Rattle.proof_claims.specs.Held.{Claim, Held, Holder, OfNode, gives, held_after, is_owned, takes}
use Rattle.proof_claims.specs.Changes.{change_of}
use Rattle.proof_claims.specs.Claims.{Has, IsLinkedHolder, claims_by, claims_of, claims_on, held_of, how_often}
use Rattle.proof_claims.specs.Clauses.{EachIsHeld}
use Rattle.proof_claims.specs.Different.{AreDifferent}
use Rattle.proof_claims.specs.Dropped.{IsLetGo, WasDropped, WasLetGo}
use Rattle.proof_claims.specs.LetGo.{LetsGoOf}

-- an open handle holds it, or a node to which roots lead
abbrev pub IsHeldFromRoots : State → Held → Ref → Type 0
IsHeldFromRoots state held k = (c : Claim) × Contains held.claims c × (c.on ≡ k) × IsLinkedHolder state c.by

-- What roots lead to is held so.
abbrev pub FollowedIsHeld : Type 0
FollowedIsHeld = (limits : Bounds) (steps : List Step) (k : Ref) → AreBounds limits → IsFollowedByRoots (run limits steps) k → IsHeldFromRoots (run limits steps) (held_of limits steps) k

-- Each reference is held in its place, but by nodes that were dropped.
abbrev pub EachHeld : Bounds → List Step → Type 0
EachHeld limits steps = EachIsHeld (run limits steps) (held_of limits steps) (λ j. WasDropped limits steps j)

-- So it is after every list of steps.
abbrev pub ReferencesAreHeld : Type 0
ReferencesAreHeld = (limits : Bounds) (steps : List Step) → AreBounds limits → EachHeld limits steps

-- Nothing but garbage holds it: each claim on it is by a node that was garbage after some of the steps.
abbrev pub IsUnheld : Bounds → List Step → Ref → Type 0
IsUnheld limits steps k =
    (c : Claim) → Contains (claims_of limits steps) c → c.on ≡ k → (j : Ref) × (before since : List Step) × (c.by ≡ OfNode j) × (steps ≡ before ++ since) × IsGarbage (run limits before) j

-- no root leads there then
abbrev pub UnheldIsUnfollowed : Type 0
UnheldIsUnfollowed = (limits : Bounds) (steps : List Step) (k : Ref) → AreBounds limits → IsUnheld limits steps k → ¬ IsFollowedByRoots (run limits steps) k

-- so it is garbage itself, where it is in use and private to nobody, whether a root ever led there or not
abbrev pub UnheldIsGarbage : Type 0
UnheldIsGarbage =
    (limits : Bounds) (steps : List Step) (k : Ref) → AreBounds limits → IsInUse (run limits steps).heap k → IsPrivateToNone (run limits steps) k → IsUnheld limits steps k →
    IsGarbage (run limits steps) k

-- No root leads to what was dropped, then or later.
abbrev pub DroppedIsUnlinked : Type 0
DroppedIsUnlinked = (limits : Bounds) (steps : List Step) (j : Ref) → AreBounds limits → WasDropped limits steps j → ¬ IsFollowedByRoots (run limits steps) j

-- What neither roots nor running operations follow any more has one claim on each reference that it names, and names it once, unless one of the steps let go of all that it held.
abbrev pub NamesAreHeld : Type 0
NamesAreHeld =
    (limits : Bounds) (steps : List Step) (j k : Ref) → AreBounds limits → KeysFit steps → IsInUse (run limits steps).heap j → ¬ IsFollowedByAny (run limits steps) j →
    ¬ WasLetGo limits steps j → Contains (refs_of_node (node_at (run limits steps).heap j)) k →
    (how_often k (refs_of_node (node_at (run limits steps).heap j)) ≡ 1) × (claims_by j k (claims_of limits steps) ≡ 1)

-- What one of the steps let go of holds nothing any more.
abbrev pub LetGoHoldsNothing : Type 0
LetGoHoldsNothing = (limits : Bounds) (steps : List Step) (j k : Ref) → AreBounds limits → WasLetGo limits steps j → ¬ Has (held_of limits steps) (OfNode j) k

-- Nor has anybody a claim on it, once neither roots nor running operations follow it any more.
abbrev pub LetGoIsUnclaimed : Type 0
LetGoIsUnclaimed =
    (limits : Bounds) (steps : List Step) (j : Ref) (by : Holder) → AreBounds limits → KeysFit steps → ¬ IsFollowedByAny (run limits steps) j → WasLetGo limits steps j →
    ¬ Has (held_of limits steps) by j

-- A step that lets go of all that a node holds is one of four kinds.
abbrev pub WhoLetsGo : Type 0
WhoLetsGo = (limits : Bounds) (steps : List Step) (s : Step) (j : Ref) → AreBounds limits → IsLetGo limits steps s j → LetsGoOf (run limits steps) (held_of limits steps) s j

-- A main node that is an indirection's own by the list of steps is so in the run.
abbrev pub OwnedIsOwn : Type 0
OwnedIsOwn =
    (limits : Bounds) (steps : List Step) (i m : Ref) → AreBounds limits → is_owned (held_of limits steps) i m ≡ true → IsOwn (states_of limits steps) (last_of limits steps) i m

-- What a step gives to its actor it takes from claims, and claims it adds from the actor; but for the node that it makes.
abbrev pub ChangesBalance : Type 0
ChangesBalance =
    (state : State) (held : Held) (s : Step) (k : Ref) →
    claims_on k (held_after (change_of state held s) held).claims + how_often k (gives (change_of state held s) held.claims)
    ≤ claims_on k held.claims + how_often k (takes (change_of state held s)) + how_often k (change_of state held s).made

-- No claim stands twice: what one holder holds it holds once.
abbrev pub ClaimsDiffer : Type 0
ClaimsDiffer = (limits : Bounds) (steps : List Step) → AreBounds limits → KeysFit steps → AreDifferent (claims_of limits steps)
