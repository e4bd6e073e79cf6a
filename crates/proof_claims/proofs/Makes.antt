-- An operation is to make a node: it makes it, or gives up what it made where no slot is free.
use Rattle.std.proofs.Common.{◌≡◌, ℕ, true, List, [], ◌∷◌, ◌++◌, Contains, Option, Some, None, Ok, refl, sym, ap, subst, ◌∙◌}
use Rattle.proof_claims.specs.Beneath.ctrie_base.specs.declared.kinds.Kind.TheVariants as kind
use Rattle.proof_claims.specs.Beneath.slot_arena.specs.declared.nodes.Node.{Node}
use Rattle.proof_claims.specs.Beneath.slot_arena.specs.declared.nodes.Node.TheVariants.{Indirection}
use Rattle.proof_claims.specs.Beneath.slot_arena.specs.declared.nodes.Prev.TheVariants as prev
use Rattle.proof_claims.specs.Beneath.slot_arena.specs.declared.refs.Ref.{Ref}
use Rattle.proof_claims.specs.Beneath.slot_arena.specs.Heaps.{main_at, main_of, next_ref, node_at, prev_at, refs_of_node, taken}
use Rattle.proof_claims.specs.Beneath.machine_model.specs.declared.actions.Action.{Action}
use Rattle.proof_claims.specs.Beneath.machine_model.specs.declared.actions.Action.TheVariants as act
use Rattle.proof_claims.specs.Beneath.machine_model.specs.declared.lines.Line.TheVariants as line
use Rattle.proof_claims.specs.Beneath.machine_model.specs.declared.operations.Operation.{Operation}
use Rattle.proof_claims.specs.Beneath.machine_model.specs.declared.steps.Bounds.{Bounds}
use Rattle.proof_claims.specs.Beneath.machine_model.specs.declared.steps.Outcome.{Outcome}
use Rattle.proof_claims.specs.Beneath.machine_model.specs.declared.steps.Step.{Step}
use Rattle.proof_claims.specs.Beneath.machine_model.specs.declared.steps.Step.TheVariants as step
use Rattle.proof_claims.specs.Beneath.machine_model.specs.Acting.{gone, new_root_taken, operation_after, private_after, with_made}
use Rattle.proof_claims.specs.Beneath.machine_model.specs.Counting.{settled}
use Rattle.proof_claims.specs.Beneath.machine_model.specs.Grown.{standing}
use Rattle.proof_claims.specs.Beneath.machine_model.specs.Machine.{AreBounds, next, run}
use Rattle.proof_claims.specs.Beneath.machine_model.specs.Moves.{Moves}
use Rattle.proof_claims.specs.Beneath.machine_model.specs.Operations.{action_of, kind_of}
use Rattle.proof_claims.specs.Beneath.machine_model.specs.States.{State, operation_of}
use Rattle.proof_claims.specs.Beneath.machine_model.proofs.Grown.{node_standing}
use Rattle.proof_claims.specs.Beneath.proof_garbage.specs.Live.{IsLive, at_hand}
use Rattle.proof_claims.specs.Beneath.proof_memory.specs.Laws.{IsInUse}
use Rattle.proof_claims.specs.Beneath.proof_memory.specs.Wants.{is_indirection}
use Rattle.proof_claims.specs.Beneath.proof_memory.proofs.Heap.Under.{fresh_slot, none_taken, taken_all}
use Rattle.proof_claims.specs.Beneath.proof_memory.proofs.Safety.AtEachTime.{safe_along}
use Rattle.proof_claims.specs.Held.{Held, held_after}
use Rattle.proof_claims.specs.Changes.{goal_of, makes}
use Rattle.proof_claims.specs.Claims.{held_of}
use Rattle.proof_claims.specs.Clauses.{EachIsHeld}
use Rattle.proof_claims.specs.Dropped.{WasDropped}
use Rattle.proof_claims.proofs.Acts.{changed, dead_so, gives}
use Rattle.proof_claims.proofs.Acts as acting
use Rattle.proof_claims.proofs.ChangeKinds.{MakesNode, a_node, a_root}
use Rattle.proof_claims.proofs.FromRoots.{main_in_use}
use Rattle.proof_claims.proofs.Goals.{goal_in_use}
use Rattle.proof_claims.proofs.Making.{makes_held}
use Rattle.proof_claims.proofs.NewLinks.{made_over_decided}
use Rattle.proof_claims.proofs.NoSlot.{ends_now, is_making}
use Rattle.proof_claims.proofs.Spine.{Each, EachAfter}

module _ (limits : Bounds) (ok : AreBounds limits) (xs : List Step) (h : Each limits xs) (actor : ℕ) (operation : Operation) (runs : operation_of (run limits xs) actor ≡ Some operation) (o : Outcome)
    (m : Moves (run limits xs) (step.Go actor) o (settled (run limits xs) (gone (run limits xs) actor operation)))
    (taken_so : next (run limits xs) (step.Go actor) ≡ Ok (o, settled (run limits xs) (gone (run limits xs) actor operation)))
    (is_after : run limits (xs ++ step.Go actor ∷ []) ≡ settled (run limits xs) (gone (run limits xs) actor operation)) where
  abbrev state : State
  state = run limits xs

  abbrev held : Held
  held = held_of limits xs

  abbrev s : Step
  s = step.Go actor

  abbrev after : State
  after = settled state (gone state actor operation)

  abbrev Kept : Type 0
  Kept = EachAfter limits xs s after

  -- ---- no slot is free

  nothing : next_ref state.heap ≡ None → is_making (action_of state operation) ≡ true → private_after state operation.private (action_of state operation) ≡ [] →
      at_hand state (operation_after state operation) ≡ []
  nothing none is emptied =
      let (answer, ends) = ends_now state operation none operation.line is in
      ap (λ l. at_hand state (record (operation_after state operation) { line = l })) ends
      ∙ ap (λ ps. at_hand state (record (operation_after state operation) { line = line.End answer; private = ps })) emptied

  nothing_by : (action : Action) → action_of state operation ≡ action → next_ref state.heap ≡ None → is_making action ≡ true → private_after state operation.private action ≡ [] →
      at_hand state (operation_after state operation) ≡ []
  nothing_by action acts none makes_it emptied = nothing none (ap is_making acts ∙ makes_it) (ap (private_after state operation.private) acts ∙ emptied)

  -- the state with what a root that is made takes
  abbrev root_then : (main : Ref) → Option Ref → State
  root_then main n = new_root_taken (acting.put limits ok xs h actor operation runs o m is_after) main n

  -- so what it made is dead then
  pub no_slot_dead : (node : Node) (action : Action) → action_of state operation ≡ action → MakesNode state node action → next_ref state.heap ≡ None → (x : Ref) → Contains operation.private x →
      IsLive after x → ⊥
  no_slot_dead node action acts a_node drawn =
      dead_so limits ok xs h actor operation runs o m is_after (act.Make node) acts refl (none_taken state.heap node drawn) refl refl
      (nothing_by (act.Make node) acts drawn refl (ap (with_made operation.private) drawn))
  no_slot_dead node action acts (a_root main is) drawn =
      dead_so limits ok xs h actor operation runs o m is_after (act.MakeRoot main) acts (ap (λ n. (root_then main n).actors) drawn) (ap (λ n. (root_then main n).heap) drawn)
      (ap (λ n. (root_then main n).roots) drawn) (ap (λ n. (root_then main n).limits) drawn) (nothing_by (act.MakeRoot main) acts drawn refl (ap (with_made operation.private) drawn))

  -- ---- the goal's main node

  goal_used : (goal : Ref × Ref) → goal_of operation.line ≡ Some goal → IsInUse state.heap goal.1
  goal_used goal e = goal_in_use limits ok xs actor operation runs goal e

  -- ---- it is made

  module _ (node : Node) (x : Ref) (drawn : next_ref state.heap ≡ Some x) (makes_it : kind_of (action_of state operation) ≡ kind.Make) (heap : after.heap ≡ taken state.heap node)
      (roots : after.roots ≡ state.roots) where
    stands : (standing (taken state.heap node) x ≡ Some (fresh_slot state.heap node)) × (standing state.heap x ≡ None) ×
        ((r : Ref) → (r ≡ x → ⊥) → standing (taken state.heap node) r ≡ standing state.heap r)
    stands = let all = taken_all state.limits.slots state.heap ((safe_along limits ok xs).sound.heap) node x drawn in (all.0, all.1, all.2)

    here : standing after.heap x ≡ Some (fresh_slot state.heap node)
    here = ap (λ a. standing a x) heap ∙ stands.0

    node_here : node_at after.heap x ≡ node
    node_here = node_standing after.heap x (fresh_slot state.heap node) here

    over_decided : is_indirection node ≡ true → prev_at after.heap (main_of node) ≡ prev.None
    over_decided link =
        let used : IsInUse (run limits (xs ++ s ∷ [])).heap x = subst (λ (a : State). IsInUse a.heap x) (sym is_after) (fresh_slot state.heap node, here) in
        let link_now : is_indirection (node_at (run limits (xs ++ s ∷ [])).heap x) ≡ true = ap (λ (a : State). is_indirection (node_at a.heap x)) is_after ∙ ap is_indirection node_here ∙ link in
        let none = made_over_decided limits xs ok s o after taken_so x drawn used link_now (main_in_use limits (xs ++ s ∷ []) ok x used link_now) in
        subst (λ n. prev_at after.heap (main_of n) ≡ prev.None) node_here (subst (λ (a : State). prev_at a.heap (main_at a.heap x) ≡ prev.None) is_after none)

    pub made : EachIsHeld after (held_after (makes state held operation (refs_of_node node) (Some x)) held) (λ j. WasDropped limits (xs ++ s ∷ []) j)
    made = makes_held limits xs ok s o after m h actor operation runs refl roots x (fresh_slot state.heap node) drawn makes_it here stands.1
        (λ r apart. ap (λ a. standing a r) heap ∙ stands.2 r apart) over_decided goal_used

  -- ---- by whether a slot is free

  pub makes_by : (node : Node) → action_of state operation ≡ act.Make node → (x : Option Ref) → next_ref state.heap ≡ x → Kept
  makes_by node acts (Some x) drawn =
      changed limits ok xs h actor operation runs o m is_after (act.Make node) acts (makes state held operation (refs_of_node node) (Some x))
      (ap (makes state held operation (refs_of_node node)) drawn)
      (made node x drawn (ap kind_of acts) (ap (λ (a : State). a.heap) (acting.after_is limits ok xs h actor operation runs o m is_after (act.Make node) acts))
      (ap (λ (a : State). a.roots) (acting.after_is limits ok xs h actor operation runs o m is_after (act.Make node) acts)))
  makes_by node acts None drawn =
      gives limits ok xs h actor operation runs o m is_after (act.Make node) acts refl (none_taken state.heap node drawn) refl refl
      (ap (makes state held operation (refs_of_node node)) drawn) (nothing_by (act.Make node) acts drawn refl (ap (with_made operation.private) drawn))

  pub makes_root_by : (main : Ref) → action_of state operation ≡ act.MakeRoot main → (x : Option Ref) → next_ref state.heap ≡ x → Kept
  makes_root_by main acts (Some x) drawn =
      let is = acting.after_is limits ok xs h actor operation runs o m is_after (act.MakeRoot main) acts in
      changed limits ok xs h actor operation runs o m is_after (act.MakeRoot main) acts (makes state held operation (main ∷ []) (Some x)) (ap (makes state held operation (main ∷ [])) drawn)
      (made (Indirection state.generations main) x drawn (ap kind_of acts)
      (ap (λ (a : State). a.heap) is ∙ ap (λ n. (new_root_taken (acting.put limits ok xs h actor operation runs o m is_after) main n).heap) drawn)
      (ap (λ (a : State). a.roots) is ∙ ap (λ n. (new_root_taken (acting.put limits ok xs h actor operation runs o m is_after) main n).roots) drawn))
  makes_root_by main acts None drawn =
      gives limits ok xs h actor operation runs o m is_after (act.MakeRoot main) acts (ap (λ n. (root_then main n).actors) drawn) (ap (λ n. (root_then main n).heap) drawn)
      (ap (λ n. (root_then main n).roots) drawn) (ap (λ n. (root_then main n).limits) drawn) (ap (makes state held operation (main ∷ [])) drawn)
      (nothing_by (act.MakeRoot main) acts drawn refl (ap (with_made operation.private) drawn))
