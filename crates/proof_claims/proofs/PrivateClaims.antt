-- The claims of nodes that are private to an operation: on all that they name, but for what the main node that it is about to swap in takes over.
use Rattle.std.proofs.Common.{◌≡◌, inl, inr, ℕ, suc, true, List, [], ◌∷◌, ◌++◌, Contains, Option, Some, arith, refl, sym, ap, subst, ◌∙◌}
use Rattle.std.proofs.lemmas.Bool.{cases_eq}
use Rattle.std.proofs.lemmas.List.Elements.{All-contains, Contains-append_left, Contains-append_right}
use Rattle.std.proofs.lemmas.Option.{same_Some}
use Rattle.proof_claims.specs.Beneath.slot_arena.specs.declared.nodes.Prev.TheVariants as prev
use Rattle.proof_claims.specs.Beneath.slot_arena.specs.declared.refs.Ref.{Ref}
use Rattle.proof_claims.specs.Beneath.slot_arena.specs.Heaps.{main_at, main_of, node_at, prev_at, refs_of_node, refs_of_option}
use Rattle.proof_claims.specs.Beneath.machine_model.specs.declared.actions.Action.{Action}
use Rattle.proof_claims.specs.Beneath.machine_model.specs.declared.actions.Action.TheVariants as act
use Rattle.proof_claims.specs.Beneath.machine_model.specs.declared.copying.CopyLine.TheVariants as copy
use Rattle.proof_claims.specs.Beneath.machine_model.specs.declared.lines.Line.TheVariants as line
use Rattle.proof_claims.specs.Beneath.machine_model.specs.declared.lines.Purpose.{Purpose}
use Rattle.proof_claims.specs.Beneath.machine_model.specs.declared.operations.Operation.{Operation}
use Rattle.proof_claims.specs.Beneath.machine_model.specs.declared.reading.Swap.{Swap}
use Rattle.proof_claims.specs.Beneath.machine_model.specs.declared.reading.SwapLine.{SwapLine}
use Rattle.proof_claims.specs.Beneath.machine_model.specs.declared.reading.SwapLine.TheVariants as swap
use Rattle.proof_claims.specs.Beneath.machine_model.specs.declared.roots.Complete.{Complete}
use Rattle.proof_claims.specs.Beneath.machine_model.specs.declared.roots.Descriptor.{Descriptor}
use Rattle.proof_claims.specs.Beneath.machine_model.specs.declared.steps.Bounds.{Bounds}
use Rattle.proof_claims.specs.Beneath.machine_model.specs.declared.steps.Outcome.{Outcome}
use Rattle.proof_claims.specs.Beneath.machine_model.specs.declared.steps.Step.{Step}
use Rattle.proof_claims.specs.Beneath.machine_model.specs.declared.steps.Step.TheVariants as step
use Rattle.proof_claims.specs.Beneath.machine_model.specs.Acting.{private_after, with_made}
use Rattle.proof_claims.specs.Beneath.machine_model.specs.Machine.{AreBounds, run}
use Rattle.proof_claims.specs.Beneath.machine_model.specs.Moves.{Moves}
use Rattle.proof_claims.specs.Beneath.machine_model.specs.Operations.{action_of, line_action}
use Rattle.proof_claims.specs.Beneath.machine_model.specs.States.{State, operation_of}
use Rattle.proof_claims.specs.Beneath.machine_model.specs.Times.{last_of}
use Rattle.proof_claims.specs.Beneath.machine_model.proofs.Actors.{IsOf}
use Rattle.proof_claims.specs.Beneath.machine_model.proofs.Fates.{place_of_actor}
use Rattle.proof_claims.specs.Beneath.machine_model.proofs.Times.{run_ends, run_is}
use Rattle.proof_claims.specs.Beneath.proof_fresh.proofs.At.{has_at}
use Rattle.proof_claims.specs.Beneath.proof_fresh.proofs.Lines.{LineHas}
use Rattle.proof_claims.specs.Beneath.proof_fresh.proofs.Publishing.{publishing}
use Rattle.proof_claims.specs.Beneath.proof_garbage.proofs.Claims.{none_in}
use Rattle.proof_claims.specs.Beneath.proof_garbage.proofs.GivenUp.{other_id, private_known}
use Rattle.proof_claims.specs.Beneath.proof_garbage.proofs.Restoring.{failed_over}
use Rattle.proof_claims.specs.Beneath.proof_garbage.specs.Live.{from_operation, line_claims, refs_of_claims}
use Rattle.proof_claims.specs.Beneath.proof_memory.proofs.Claims.Uses.{meets_of, safe_of}
use Rattle.proof_claims.specs.Beneath.proof_memory.proofs.Safety.AtEachTime.{safe_along}
use Rattle.proof_claims.specs.Beneath.proof_memory.specs.Laws.{IsInUse}
use Rattle.proof_claims.specs.Beneath.proof_memory.specs.Wants.{action_wants, is_indirection}
use Rattle.proof_claims.specs.Changes.{change_of}
use Rattle.proof_claims.specs.Claims.{Has, held_of}
use Rattle.proof_claims.specs.Held.{Held, Holder, OfHandle, OfNode, held_after}
use Rattle.proof_claims.proofs.Acted as acted
use Rattle.proof_claims.proofs.Along.{stays}
use Rattle.proof_claims.proofs.ChangeKinds.{Acting, GivesUp, MakesNode, a_node, a_root, missed, no_slot, told, unoffered}
use Rattle.proof_claims.proofs.Differing.{in_cons, later_in}
use Rattle.proof_claims.proofs.FromRoots.{main_in_use}
use Rattle.proof_claims.proofs.InSwap.{not_theirs, stands_nowhere, the_fresh, the_indirection, the_replaced}
use Rattle.proof_claims.proofs.NewClaims.{Comes, came, first, frozen, made, moved, published, second, stood}
use Rattle.proof_claims.proofs.NodeClaims.{LookLeaves, NodeGoes, given_private, goes_over, left_at_look, node_goes, of_failed, of_failed_link, of_link, of_replaced, stays_held, taken_back}
use Rattle.proof_claims.proofs.NodeMoves.{NodeMoves, node_moves, restores_there, same_node, swaps_there}
use Rattle.proof_claims.proofs.PendingOwner.{pending_owner}
use Rattle.proof_claims.proofs.PrevMoves.{PrevMoves, now_committed, now_failed, now_pending, prev_moves, same_prev, was_pending}

-- each root that an offer brings is one that its action names
root_wanted : (offer : Descriptor) (x : Ref) → Contains (offer.successor ∷ refs_of_option offer.second) x → Contains (refs_of_claims (action_wants (act.Offer offer))) x
root_wanted offer x c = elim (in_cons offer.successor (refs_of_option offer.second) x c) [
  | inl same ↦ (2, omega arith, same)
  | inr rest ↦
      Contains-append_right (offer.root ∷ offer.expected ∷ offer.successor ∷ []) (refs_of_option offer.second ++ []) x (Contains-append_left (refs_of_option offer.second) [] x rest)
]

-- it isn't the main node that the operation is about to swap in
abbrev pub NotToSwap : Operation → Ref → Type 0
NotToSwap operation x = (why : Purpose) (w : Swap) → operation.line ≡ line.Swap why w → w.fresh ≡ x → ⊥

pub record PrivateHolds (state : State) (held : Held) (operation : Operation) (x : Ref) : Type 0 where
  pub names : (r : Ref) → Has held (OfNode x) r → Contains (refs_of_node (node_at state.heap x)) r
  pub holds : NotToSwap operation x → (r : Ref) → Contains (refs_of_node (node_at state.heap x)) r → Has held (OfNode x) r
  pub decided : prev_at state.heap x ≡ prev.None
  -- an indirection is over a decided one
  pub over : is_indirection (node_at state.heap x) ≡ true → prev_at state.heap (main_at state.heap x) ≡ prev.None

abbrev pub PrivatesHold : State → Held → Type 0
PrivatesHold state held = (k : ℕ) (operation : Operation) → operation_of state (suc k) ≡ Some operation → (x : Ref) → Contains operation.private x → PrivateHolds state held operation x

-- ---- lines that have nothing private

module _ (limits : Bounds) (ok : AreBounds limits) (xs : List Step) (actor : ℕ) (operation : Operation) (runs : operation_of (run limits xs) actor ≡ Some operation) where
  line_has : LineHas (run_is limits xs ok) (last_of limits xs) actor operation.id operation.generation operation.private operation.line
  line_has = has_at (run_is limits xs ok) (last_of limits xs) (omega arith) actor operation (ap (λ (x : State). operation_of x actor) (run_ends limits xs) ∙ runs)

  swap_has : (why : Purpose) (w : Swap) → (w.line ≡ swap.Publish → ⊥) → (l : SwapLine) → w.line ≡ l →
      LineHas (run_is limits xs ok) (last_of limits xs) actor operation.id operation.generation operation.private (line.Swap why (record w { line = l })) → operation.private ≡ []
  swap_has why w past swap.Publish e has = absurd (past e)
  swap_has why w past (swap.Deciding r) e has = has
  swap_has why w past swap.Check e has = has

  pub none_past : (why : Purpose) (w : Swap) → operation.line ≡ line.Swap why w → (w.line ≡ swap.Publish → ⊥) → operation.private ≡ []
  none_past why w on past = swap_has why w past w.line refl (subst (λ l. LineHas (run_is limits xs ok) (last_of limits xs) actor operation.id operation.generation operation.private l) on line_has)

  pub none_completing : (c : Complete) → operation.line ≡ line.Copy (copy.Complete c) → operation.private ≡ []
  none_completing c on = subst (λ l. LineHas (run_is limits xs ok) (last_of limits xs) actor operation.id operation.generation operation.private l) on line_has

-- two don't have one node private
pub privates_apart : (limits : Bounds) → AreBounds limits → (xs : List Step) (a b : ℕ) (x y : Operation) → operation_of (run limits xs) a ≡ Some x → operation_of (run limits xs) b ≡ Some y →
    (b ≡ a → ⊥) → (r : Ref) → Contains x.private r → Contains y.private r → ⊥
privates_apart limits ok xs a b x y runs_a runs_b apart r mine theirs =
    private_known limits xs ok a x runs_a r mine
    (from_operation b y r runs_b (other_id limits xs ok a x runs_a b y apart runs_b) (Contains-append_right (refs_of_claims (line_claims (run limits xs) y)) y.private r theirs))

-- a node that another one stands over isn't private
module _ (limits : Bounds) (ok : AreBounds limits) (xs : List Step) (s : Step) (o : Outcome) (m : Moves (run limits xs) s o (run limits (xs ++ s ∷ []))) (k : ℕ) (was : Operation)
    (runs : operation_of (run limits xs) (suc k) ≡ Some was) (x : Ref) (mine : Contains was.private x) where
  pub over_not_private : (i f p : Ref) (told : Option ℕ) → Acting (run limits xs) s (act.Decide i f p told) → prev_at (run limits xs).heap f ≡ prev.Pending p → p ≡ x → ⊥
  over_not_private i f p seen a pends same =
      let claims = acted.wants limits ok xs s o _ m refl (act.Decide i f p seen) a in
      let owner = pending_owner limits ok xs a.actor a.operation i f p seen a.runs a.acts (safe_of claims.1.0) pends in
      elim (cases_eq (suc owner.k) (suc k)) [
        | inl here ↦
            let one : owner.operation ≡ was = same_Some owner.operation was (sym owner.runs ∙ ap (operation_of (run limits xs)) here ∙ runs) in
            none_in x (subst (λ ps. Contains ps x)
            (ap (λ (q : Operation). q.private) (sym one) ∙ none_past limits ok xs (suc owner.k) owner.operation owner.runs owner.why _ owner.swaps (λ e. let bad : ⊥ = cc e in bad)) mine)
        | inr apart ↦ not_theirs limits ok xs owner.k owner.operation owner.runs owner.why _ owner.swaps (suc k) was runs apart x (the_replaced same) mine
      ]

-- ---- a node that stays private over a step

-- another one takes the step, or its operation, which has it private still
pub data StaysPrivate (state : State) (s : Step) (k : ℕ) (was found : Operation) (x : Ref) : Type 0 where
  others : (IsOf (suc k) s → ⊥) → found.line ≡ was.line → StaysPrivate state s k was found x
  its_own : s ≡ step.Go (suc k) → Contains (private_after state was.private (action_of state was)) x → StaysPrivate state s k was found x

module _ (limits : Bounds) (ok : AreBounds limits) (xs : List Step) (s : Step) (o : Outcome) (m : Moves (run limits xs) s o (run limits (xs ++ s ∷ []))) (k : ℕ) (was found : Operation)
    (runs : operation_of (run limits xs) (suc k) ≡ Some was) (x : Ref) (mine : Contains was.private x) (how : StaysPrivate (run limits xs) s k was found x)
    (h : PrivateHolds (run limits xs) (held_of limits xs) was x) (used_then : IsInUse (run limits (xs ++ s ∷ [])).heap x) where
  abbrev state : State
  state = run limits xs

  abbrev after : State
  after = run limits (xs ++ s ∷ [])

  abbrev held : Held
  held = held_of limits xs

  abbrev later : Held
  later = held_after (change_of state held s) held

  used : IsInUse state.heap x
  used = All-contains (IsInUse state.heap) was.private x ((safe_along limits ok xs).privates k was runs) mine

  -- its own step doesn't clear what is private
  own_kept : (action : Action) (a : Acting state s action) → suc k ≡ a.actor → private_after state was.private action ≡ [] → ⊥
  own_kept action a here cleared = by how
    where
      one : was ≡ a.operation
      one = same_Some was a.operation (sym runs ∙ ap (operation_of state) here ∙ a.runs)

      by : StaysPrivate state s k was found x → ⊥
      by (others other same) = other (subst (IsOf (suc k)) (sym a.is_step) (sym here))
      by (its_own is still) =
          none_in x (subst (λ ps. Contains ps x) (ap (private_after state was.private) (ap (action_of state) one ∙ a.acts) ∙ cleared) still)

  -- what names it clears it, or another one takes it
  named_not : (action : Action) (a : Acting state s action) → Contains (refs_of_claims (action_wants action)) x → private_after state was.private action ≡ [] → ⊥
  named_not action a c cleared = elim (cases_eq (suc k) a.actor) [
    | inl here ↦ own_kept action a here cleared
    | inr apart ↦ acted.wanted_not limits ok xs s o after m refl action a (suc k) was runs apart x c mine
  ]

  -- where its operation acts it has something private
  own_line : (action : Action) (a : Acting state s action) → suc k ≡ a.actor → a.operation.private ≡ [] → ⊥
  own_line action a here none =
      none_in x (subst (λ ps. Contains ps x) (ap (λ (q : Operation). q.private) (same_Some was a.operation (sym runs ∙ ap (operation_of state) here ∙ a.runs)) ∙ none) mine)

  over_not : (i f p : Ref) (told : Option ℕ) → Acting state s (act.Decide i f p told) → prev_at state.heap f ≡ prev.Pending p → p ≡ x → ⊥
  over_not = over_not_private limits ok xs s o m k was runs x mine

  -- nor one of the three of who looks
  looks_not : (because : Purpose) (v : Swap) (main : Ref) → (a : Acting state s (act.ReadPrev main)) → a.operation.line ≡ line.Swap because v → v.line ≡ swap.Check → (r : Ref) →
      LookLeaves state held v x r → ⊥
  looks_not because v main a on_v at_check r leaves = elim (cases_eq (suc k) a.actor) [
    | inl here ↦
        own_line (act.ReadPrev main) a here
        (none_past limits ok xs a.actor a.operation a.runs because v on_v (λ e. let wrong : swap.Publish ≡ swap.Check = sym e ∙ at_check in let bad : ⊥ = cc wrong in bad))
    | inr apart ↦
        let (j, place, at_j) = place_of_actor state a.actor a.operation a.runs in
        by j at_j (λ same. apart (sym (place ∙ same))) leaves
  ]
    where
      by : (j : ℕ) → operation_of state (suc j) ≡ Some a.operation → (suc j ≡ suc k → ⊥) → LookLeaves state held v x r → ⊥
      by j at_j apart (of_replaced none own same) = not_theirs limits ok xs j a.operation at_j because v on_v (suc k) was runs apart x (the_replaced same) mine
      by j at_j apart (of_link none same on_r) = not_theirs limits ok xs j a.operation at_j because v on_v (suc k) was runs apart x (the_indirection same) mine
      by j at_j apart (of_failed some same) = not_theirs limits ok xs j a.operation at_j because v on_v (suc k) was runs apart x (the_fresh same) mine
      by j at_j apart (of_failed_link some same on_r) = not_theirs limits ok xs j a.operation at_j because v on_v (suc k) was runs apart x (the_indirection same) mine

  -- nor is it given up
  gives_not : (private : List Ref) → GivesUp state s private → Contains private x → ⊥
  gives_not private (no_slot node action a makes_it none same) theirs = elim (cases_eq (suc k) a.actor) [
    | inl here ↦ own_kept action a here (cleared action makes_it)
    | inr apart ↦ privates_apart limits ok xs (suc k) a.actor was a.operation runs a.runs (λ e. apart (sym e)) x mine (subst (λ ps. Contains ps x) (sym same) theirs)
  ]
    where
      cleared : (action : Action) → MakesNode state node action → private_after state was.private action ≡ []
      cleared action a_node = ap (with_made was.private) none
      cleared action (a_root main is) = ap (with_made was.private) none
  gives_not private (missed i q f a hit same) theirs = elim (cases_eq (suc k) a.actor) [
    | inl here ↦ own_kept (act.Publish i q f) a here refl
    | inr apart ↦ privates_apart limits ok xs (suc k) a.actor was a.operation runs a.runs (λ e. apart (sym e)) x mine (subst (λ ps. Contains ps x) (sym same) theirs)
  ]
  gives_not private (unoffered offer a stands same) theirs = elim (cases_eq (suc k) a.actor) [
    | inl here ↦ own_kept (act.Offer offer) a here refl
    | inr apart ↦ privates_apart limits ok xs (suc k) a.actor was a.operation runs a.runs (λ e. apart (sym e)) x mine (subst (λ ps. Contains ps x) (sym same) theirs)
  ]
  gives_not private (told actor operation is runs_a same) theirs = elim (cases_eq (suc k) actor) [
    | inl here ↦ by here how
    | inr apart ↦ privates_apart limits ok xs (suc k) actor was operation runs runs_a (λ e. apart (sym e)) x mine (subst (λ ps. Contains ps x) (sym same) theirs)
  ]
    where
      by : suc k ≡ actor → StaysPrivate state s k was found x → ⊥
      by here (others other same) = other (subst (IsOf (suc k)) (sym is) (sym here))
      by here (its_own go still) = let wrong : step.GiveUp actor ≡ step.Go (suc k) = sym is ∙ go in let bad : ⊥ = cc wrong in bad

  -- ---- the node

  pub decided_still : prev_at after.heap x ≡ prev.None
  decided_still = by (prev_moves limits ok xs s o after m refl x used used_then)
    where
      by : PrevMoves state s after x → prev_at after.heap x ≡ prev.None
      by (same_prev is) = is ∙ h.decided
      by (now_pending i a its hit pends) = absurd (named_not (act.Publish i a x) its (2, omega arith, refl) refl)
      by (now_committed i p seen its v pends none) = none
      by (now_failed i p seen its v pends failed) = let wrong : prev.None ≡ prev.Pending p = sym h.decided ∙ pends in let bad : ⊥ = cc wrong in absurd bad

  pub node_still_is : node_at after.heap x ≡ node_at state.heap x
  node_still_is = by (node_moves limits ok xs s o after m refl x used used_then)
    where
      by : NodeMoves state s after x → node_at after.heap x ≡ node_at state.heap x
      by (same_node is) = is
      by (swaps_there a f its) = absurd (named_not (act.Publish x a f) its (0, omega arith, refl) refl)
      by (restores_there q p its stands) =
          let claims = acted.wants limits ok xs s o after m refl (act.Restore x q p) its in
          let failed = failed_over limits xs ok its.actor its.operation x q p its.runs its.acts (safe_of claims.1.0) in
          let wrong : prev.None ≡ prev.Failed p = sym (h.over (meets_of claims.0)) ∙ ap (prev_at state.heap) stands ∙ failed in
          let bad : ⊥ = cc wrong in absurd bad

  pub over_still : is_indirection (node_at after.heap x) ≡ true → prev_at after.heap (main_at after.heap x) ≡ prev.None
  over_still link_now = ap (λ n. prev_at after.heap (main_of n)) node_still_is ∙ by (prev_moves limits ok xs s o after m refl below used_below below_then)
    where
      link : is_indirection (node_at state.heap x) ≡ true
      link = ap is_indirection (sym node_still_is) ∙ link_now

      below : Ref
      below = main_at state.heap x

      used_below : IsInUse state.heap (main_at state.heap x)
      used_below = main_in_use limits xs ok x used link

      below_then : IsInUse after.heap (main_at state.heap x)
      below_then = subst (λ n. IsInUse after.heap (main_of n)) node_still_is (main_in_use limits (xs ++ s ∷ []) ok x used_then link_now)

      by : PrevMoves state s after (main_at state.heap x) → prev_at after.heap (main_at state.heap x) ≡ prev.None
      by (same_prev is) = is ∙ h.over link
      by (now_pending i a its hit pends) =
          let (why, on) = publishing state its.operation i a (main_at state.heap x) its.acts in
          absurd (stands_nowhere limits ok xs its.actor its.operation its.runs why i a (main_at state.heap x) on x used link refl)
      by (now_committed i p seen its v pends none) = none
      by (now_failed i p seen its v pends failed) = let wrong : prev.None ≡ prev.Pending p = sym (h.over link) ∙ pends in let bad : ⊥ = cc wrong in absurd bad

  -- ---- its claims

  pub names_still : (r : Ref) → Has later (OfNode x) r → Contains (refs_of_node (node_at after.heap x)) r
  names_still r has = subst (λ n. Contains (refs_of_node n) r) (sym node_still_is) (by (OfNode x) refl (came state held (OfNode x) r s has))
    where
      by : (holder : Holder) → holder ≡ OfNode x → Comes state held s (change_of state held s) holder r → Contains (refs_of_node (node_at state.heap x)) r
      by holder is (stood had stays_it) = h.names r (subst (λ z. Has held z r) is had)
      by holder is (moved i f p seen a v owns at_f had names) =
          let holders : OfNode f ≡ OfNode x = sym at_f ∙ is in
          let same : f ≡ x = cc holders in
          subst (λ z. Contains (refs_of_node (node_at state.heap z)) r) same names
      by holder is (made node action y a makes_it drawn at_y names raised) =
          let holders : OfNode y ≡ OfNode x = sym at_y ∙ is in
          let same : y ≡ x = cc holders in
          absurd (acted.made_new limits ok xs s o after m refl node action a makes_it y drawn (acted.used_made limits ok xs s o after m refl y (subst (IsInUse state.heap) (sym same) used)))
      by holder is (published i q f a hit at_i at_f) =
          let holders : OfNode i ≡ OfNode x = sym at_i ∙ is in
          let same : i ≡ x = cc holders in
          absurd (named_not (act.Publish i q f) a (0, omega arith, same) refl)
      by holder is (frozen offer main n a out second' opens at_h at_root had) = let wrong : OfHandle n ≡ OfNode x = sym at_h ∙ is in let bad : ⊥ = cc wrong in absurd bad
      by holder is (first offer a plain at_h at_root) = let wrong = sym at_h ∙ is in let bad : ⊥ = cc in absurd bad
      by holder is (second offer n a plain opens at_root at_h) = let wrong : OfHandle n ≡ OfNode x = sym at_h ∙ is in let bad : ⊥ = cc wrong in absurd bad

  -- who isn't about to swap it in wasn't before
  not_before : NotToSwap found x → NotToSwap was x
  not_before free why w on same = by how
    where
      by : StaysPrivate state s k was found x → ⊥
      by (others other line_same) = free why w (line_same ∙ on) same
      by (its_own is still) = at_line w.line refl
        where
          at_line : (l : SwapLine) → w.line ≡ l → ⊥
          at_line swap.Publish e =
              none_in x (subst (λ ps. Contains ps x) (ap (λ l. private_after state was.private (line_action state was l)) (on ∙ ap (λ l. line.Swap why (record w { line = l })) e)) still)
          at_line (swap.Deciding q) e =
              none_in x (subst (λ ps. Contains ps x) (none_past limits ok xs (suc k) was runs why w on
              (λ p. let wrong : swap.Publish ≡ swap.Deciding q = sym p ∙ e in let bad : ⊥ = cc wrong in bad)) mine)
          at_line swap.Check e =
              none_in x (subst (λ ps. Contains ps x) (none_past limits ok xs (suc k) was runs why w on (λ p. let wrong : swap.Publish ≡ swap.Check = sym p ∙ e in let bad : ⊥ = cc wrong in bad)) mine)

  pub holds_still : NotToSwap found x → (r : Ref) → Contains (refs_of_node (node_at after.heap x)) r → Has later (OfNode x) r
  holds_still free r names = by (node_goes state held s x r)
    where
      has : Has held (OfNode x) r
      has = h.holds (not_before free) r (subst (λ n. Contains (refs_of_node n) r) node_still_is names)

      by : NodeGoes state held s x r → Has later (OfNode x) r
      by (stays_held is) = stays (change_of state held s) held (OfNode x) (OfNode x) r has is
      by (given_private private up theirs) = absurd (gives_not private up theirs)
      by (goes_over i f p seen a v owns same names_it) = absurd (over_not i f p seen a (was_pending limits ok xs s o after m refl i f p seen a v) same)
      by (left_at_look because v main a on_v at_check leaves) = absurd (looks_not because v main a on_v at_check r leaves)
      by (taken_back offer main c a on_c out unmarked d) = absurd (elim (cases_eq (suc k) a.actor) [
        | inl here ↦ own_line (act.Complete offer main) a here (none_completing limits ok xs a.actor a.operation a.runs c on_c)
        | inr apart ↦
            acted.wanted_not limits ok xs s o after m refl (act.Complete offer main) a (suc k) was runs apart x
            (later_in main (refs_of_claims (action_wants (act.Offer offer))) x (root_wanted offer x d)) mine
      ])

  pub private_still : PrivateHolds after later found x
  private_still = record { names = names_still; holds = holds_still; decided = decided_still; over = over_still }
