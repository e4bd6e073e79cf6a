-- What each step does to claims, by the state before it.
use Rattle.std.specs.Prelude.{ℕ, ◌==◌, ◌&&◌, Bool, true, false, List, [], ◌∷◌, flat_map, Option, Some, None, if◌then◌else◌}
use Rattle.proof_claims.specs.Beneath.history.specs.declared.calls.Call.{Call}
use Rattle.proof_claims.specs.Beneath.history.specs.declared.calls.Call.TheVariants.{Close}
use Rattle.proof_claims.specs.Beneath.slot_arena.specs.declared.nodes.Prev.{Prev}
use Rattle.proof_claims.specs.Beneath.slot_arena.specs.declared.nodes.Prev.TheVariants as prev
use Rattle.proof_claims.specs.Beneath.slot_arena.specs.declared.refs.Ref.{Ref}
use Rattle.proof_claims.specs.Beneath.slot_arena.specs.Heaps.{main_at, next_ref, node_at, prev_at, refs_of_node, refs_of_option}
use Rattle.proof_claims.specs.Beneath.machine_model.specs.declared.actions.Action.{Action}
use Rattle.proof_claims.specs.Beneath.machine_model.specs.declared.actions.Action.TheVariants as act
use Rattle.proof_claims.specs.Beneath.machine_model.specs.declared.building.BuildLine.TheVariants as build
use Rattle.proof_claims.specs.Beneath.machine_model.specs.declared.copying.CopyLine.TheVariants as copy
use Rattle.proof_claims.specs.Beneath.machine_model.specs.declared.lines.Line.{Line}
use Rattle.proof_claims.specs.Beneath.machine_model.specs.declared.lines.Line.TheVariants as line
use Rattle.proof_claims.specs.Beneath.machine_model.specs.declared.operations.Operation.{Operation}
use Rattle.proof_claims.specs.Beneath.machine_model.specs.declared.reading.Swap.{Swap}
use Rattle.proof_claims.specs.Beneath.machine_model.specs.declared.reading.SwapLine.{SwapLine}
use Rattle.proof_claims.specs.Beneath.machine_model.specs.declared.reading.SwapLine.TheVariants as swap
use Rattle.proof_claims.specs.Beneath.machine_model.specs.declared.repairs.CleanLine.TheVariants as clean
use Rattle.proof_claims.specs.Beneath.machine_model.specs.declared.repairs.ClimbLine.TheVariants as climb
use Rattle.proof_claims.specs.Beneath.machine_model.specs.declared.repairs.RenewLine.TheVariants as renew
use Rattle.proof_claims.specs.Beneath.machine_model.specs.declared.roots.Descriptor.{Descriptor}
use Rattle.proof_claims.specs.Beneath.machine_model.specs.declared.steps.Step.{Step}
use Rattle.proof_claims.specs.Beneath.machine_model.specs.declared.steps.Step.TheVariants as step
use Rattle.proof_claims.specs.Beneath.machine_model.specs.Calls.{handle_of}
use Rattle.proof_claims.specs.Beneath.machine_model.specs.Operations.{action_of}
use Rattle.proof_claims.specs.Beneath.machine_model.specs.Paths.{above, current}
use Rattle.proof_claims.specs.Beneath.machine_model.specs.Reading.{Verdict, Commits, verdict}
use Rattle.proof_claims.specs.Beneath.machine_model.specs.States.{State, operation_of, root_of, word_at}
use Rattle.proof_claims.specs.Beneath.machine_model.specs.Swapping.{is_carried_out, is_plain}
use Rattle.proof_claims.specs.Held.{Change, Claim, Ends, Fate, Given, Held, OfHandle, OfNode, Stays, is_by_handle, is_by_nodes, is_by_some_handle, is_in, is_owned}

-- ---- fates

abbrev pub same : Claim → Fate
same claim = Stays claim.by

abbrev pub no_change : Change
no_change = record { fate = same; added = []; owned = []; made = [] }

-- nodes that nobody has met but who made them: what they hold is given to it, and where they hold one another that ends
abbrev pub fate_given_up : List Ref → Claim → Fate
fate_given_up private claim = if is_by_nodes private claim.by then (if is_in private claim.on then Ends else Given) else Stays claim.by

abbrev pub given_up : List Ref → Change
given_up private = record no_change { fate = fate_given_up private }

-- what the holder is found to hold is given away
abbrev pub fate_let_go : Bool → Claim → Fate
fate_let_go true claim = Given
fate_let_go false claim = Stays claim.by

-- ---- makes

-- the indirection at which the node that is made next is to be swapped in, and the main node that it is to replace there
abbrev pub goal_of : Line → Option (Ref × Ref)
goal_of (line.Build (build.Main path main change former)) = Some (current path, main)
goal_of (line.Renew (renew.Branch path main done)) = Some (current path, main)
goal_of (line.Clean (clean.Contracted path main done)) = Some (current path, main)
goal_of (line.Climb (climb.Contracted c main)) = Some (current (above c.path), main)
goal_of l = None

-- what that main node names, if it is the indirection's own: this is taken over once the new one is committed
abbrev pub over_at : State → Held → Option (Ref × Ref) → List Ref
over_at state held None = []
over_at state held (Some goal) = if is_owned held goal.0 goal.1 then refs_of_node (node_at state.heap goal.1) else []

-- the claim of the node that is made on what it names and doesn't take over: this is raised before it is made, or was made before it
abbrev pub claim_of_node : List Ref → Ref → Ref → List Claim
claim_of_node over x k = if is_in over k then [] else record { by = OfNode x; on = k } ∷ []

-- an indirection is made over a main node that the operation has just made
abbrev pub owned_at : Line → Ref → List (Ref × Ref)
owned_at (line.Build (build.Link path main position below depth)) x = (x, below) ∷ []
owned_at (line.Copy (copy.Cleared root main branch)) x = (x, branch) ∷ []
owned_at l x = []

abbrev pub makes : State → Held → Operation → List Ref → Option Ref → Change
makes state held operation names None = given_up operation.private
makes state held operation names (Some x) = record {
  fate = same;
  added = flat_map (claim_of_node (over_at state held (goal_of operation.line)) x) names;
  owned = owned_at operation.line x;
  made = x ∷ [];
}

-- ---- swaps

abbrev pub publishes : Bool → List Ref → Ref → Ref → Change
publishes true private i f = record no_change { added = record { by = OfNode i; on = f } ∷ []; owned = (i, f) ∷ [] }
publishes false private i f = given_up private

-- once it is committed a main node holds what it names of what the one before held
abbrev pub fate_taken_over : Ref → List Ref → Ref → Claim → Fate
fate_taken_over p names f claim = if is_by_nodes (p ∷ []) claim.by && is_in names claim.on then Stays (OfNode f) else Stays claim.by

abbrev pub decides : Bool → Verdict → List Ref → Ref → Ref → Change
decides true Commits names f p = record no_change { fate = fate_taken_over p names f }
decides own v names f p = no_change

-- an own main node that was replaced, or has failed, holds nothing any more, nor does the indirection hold it
abbrev pub fate_left : Ref → Ref → Claim → Fate
fate_left i m claim = if is_by_nodes (m ∷ []) claim.by then Given else (if is_by_nodes (i ∷ []) claim.by && (claim.on == m) then Ends else Stays claim.by)

-- who swapped a main node in looks how it was decided
abbrev pub checks : Bool → Prev → Swap → Change
checks true prev.None s = record no_change { fate = fate_left s.indirection s.replaced }
checks false prev.None s = record no_change { fate = λ (c : Claim). fate_let_go (is_by_nodes (s.indirection ∷ []) c.by && (c.on == s.replaced)) c }
checks own (prev.Pending p) s = record no_change { fate = fate_left s.indirection s.fresh }
checks own (prev.Failed p) s = record no_change { fate = fate_left s.indirection s.fresh }

-- at the last line alone: before it the prev word is read to decide the fresh node
abbrev pub at_check : SwapLine → Change → Change
at_check swap.Check change = change
at_check l change = no_change

abbrev pub checks_at : State → Held → Line → Change
checks_at state held (line.Swap why s) = at_check s.line (checks (is_owned held s.indirection s.replaced) (prev_at state.heap s.fresh) s)
checks_at state held l = no_change

-- ---- offers

-- the handle that an offer opens holds its second root from then on, as the offer's handle holds the first one
abbrev pub second_claims : Option ℕ → Option Ref → List Claim
second_claims (Some opens) (Some second) = record { by = OfHandle opens; on = second } ∷ []
second_claims opens second = []

abbrev pub offers : Bool → List Ref → ℕ → Descriptor → Change
offers true private handle offer = record no_change { added = record { by = OfHandle handle; on = offer.successor } ∷ second_claims offer.opens offer.second }
offers false private handle offer = given_up private

-- a freeze opens a handle over the old root: that one holds it from then on, in the place of the offer's handle
abbrev pub fate_frozen : ℕ → ℕ → Ref → Claim → Fate
fate_frozen handle opens root claim = if is_by_handle handle claim.by && (claim.on == root) then Stays (OfHandle opens) else Stays claim.by

abbrev pub lets_root_go : ℕ → Ref → Change
lets_root_go handle root = record no_change { fate = λ (c : Claim). fate_let_go (is_by_handle handle c.by && (c.on == root)) c }

-- what was made for an offer that was taken back holds nothing any more, nor do handles hold it
abbrev pub fate_taken_back : List Ref → Claim → Fate
fate_taken_back made claim = if is_by_nodes made claim.by then Given else (if is_by_some_handle claim.by && is_in made claim.on then Ends else Stays claim.by)

-- who offered a snapshot or a clear finds it carried out
abbrev pub carried : ℕ → Descriptor → Option Ref → Option ℕ → Change
carried handle offer (Some second) opens = lets_root_go handle offer.root
carried handle offer None None = lets_root_go handle offer.root
carried handle offer None (Some opens) = no_change

-- the step carries a freeze out, or who offered finds what came of its offer
abbrev pub freezes : ℕ → Descriptor → Option Ref → Option ℕ → Change → Change
freezes handle offer None (Some opens) otherwise = record no_change { fate = fate_frozen handle opens offer.root }
freezes handle offer second opens otherwise = otherwise

abbrev pub finds : ℕ → Descriptor → Bool → Change
finds handle offer true = carried handle offer offer.second offer.opens
finds handle offer false = record no_change { fate = fate_taken_back (offer.successor ∷ refs_of_option offer.second) }

abbrev pub outcome_at : ℕ → Descriptor → Line → Bool → Change
outcome_at handle offer (line.Copy (copy.Complete c)) done = finds handle offer done
outcome_at handle offer l done = no_change

abbrev pub completes : Bool → ℕ → Descriptor → Operation → Change
completes true handle offer operation = freezes handle offer offer.second offer.opens (outcome_at handle offer operation.line true)
completes false handle offer operation = outcome_at handle offer operation.line operation.is_marked

-- ---- steps

abbrev pub change_by : State → Held → Operation → Action → Change
change_by state held operation (act.Make node) = makes state held operation (refs_of_node node) (next_ref state.heap)
change_by state held operation (act.MakeRoot main) = makes state held operation (main ∷ []) (next_ref state.heap)
change_by state held operation (act.Publish i m f) = publishes (main_at state.heap i == m) operation.private i f
change_by state held operation (act.Decide i f p seen) = decides (is_owned held i p) (verdict state.heap i f p seen) (refs_of_node (node_at state.heap f)) f p
change_by state held operation (act.ReadPrev main) = checks_at state held operation.line
change_by state held operation (act.Offer offer) = offers (is_plain (word_at state (handle_of operation.call)) offer.root) operation.private (handle_of operation.call) offer
change_by state held operation (act.Complete offer main) =
    completes (is_carried_out (word_at state (handle_of operation.call)) offer main) (handle_of operation.call) offer operation
change_by state held operation action = no_change

abbrev pub change_going : State → Held → Option Operation → Change
change_going state held None = no_change
change_going state held (Some operation) = change_by state held operation (action_of state operation)

abbrev pub change_giving_up : Option Operation → Change
change_giving_up None = no_change
change_giving_up (Some operation) = given_up operation.private

-- a close lets its root go as it begins
abbrev pub change_beginning : State → Call → Change
change_beginning state (Close handle) = lets_root_go handle (root_of (word_at state handle))
change_beginning state call = no_change

-- a step that isn't denied
abbrev pub change_of : State → Held → Step → Change
change_of state held (step.Begin actor call number) = change_beginning state call
change_of state held (step.Go actor) = change_going state held (operation_of state actor)
change_of state held step.Sweep = no_change
change_of state held (step.GiveUp actor) = change_giving_up (operation_of state actor)
