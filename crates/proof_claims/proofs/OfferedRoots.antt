-- The roots that an operation has made for an offer which isn't carried out yet have claims on what they name, and nobody swaps a main node in there.
use Rattle.std.proofs.Common.{cond, ◌≡◌, inl, inr, ◌||◌, ℕ, suc, Bool, true, false, List, [], ◌∷◌, ◌++◌, Contains, Option, Some, arith, refl, sym, ap, subst, ◌∙◌}
use Rattle.std.proofs.lemmas.Bool.{cases_eq, true≢false}
use Rattle.std.proofs.lemmas.List.Elements.{Contains-append_right}
use Rattle.std.proofs.lemmas.Option.{none-some, same_Some}
use Rattle.proof_claims.specs.Beneath.slot_arena.specs.declared.nodes.Prev.TheVariants as prev
use Rattle.proof_claims.specs.Beneath.slot_arena.specs.declared.refs.Ref.{Ref}
use Rattle.proof_claims.specs.Beneath.slot_arena.specs.Heaps.{main_at, main_of, node_at, prev_at, refs_of_node, refs_of_option}
use Rattle.proof_claims.specs.Beneath.machine_model.specs.declared.actions.Action.{Action}
use Rattle.proof_claims.specs.Beneath.machine_model.specs.declared.actions.Action.TheVariants as act
use Rattle.proof_claims.specs.Beneath.machine_model.specs.declared.copying.CopyLine.TheVariants as copy
use Rattle.proof_claims.specs.Beneath.machine_model.specs.declared.lines.Line.TheVariants as line
use Rattle.proof_claims.specs.Beneath.machine_model.specs.declared.lines.Purpose.{Purpose}
use Rattle.proof_claims.specs.Beneath.machine_model.specs.declared.operations.Operation.{Operation}
use Rattle.proof_claims.specs.Beneath.machine_model.specs.declared.reading.Swap.{Swap}
use Rattle.proof_claims.specs.Beneath.machine_model.specs.declared.reading.SwapLine.TheVariants as swap
use Rattle.proof_claims.specs.Beneath.machine_model.specs.declared.roots.Complete.{Complete}
use Rattle.proof_claims.specs.Beneath.machine_model.specs.declared.roots.CompleteLine.{CompleteLine}
use Rattle.proof_claims.specs.Beneath.machine_model.specs.declared.roots.CompleteLine.TheVariants as complete
use Rattle.proof_claims.specs.Beneath.machine_model.specs.declared.roots.Descriptor.{Descriptor}
use Rattle.proof_claims.specs.Beneath.machine_model.specs.declared.steps.Bounds.{Bounds}
use Rattle.proof_claims.specs.Beneath.machine_model.specs.declared.steps.Outcome.{Outcome}
use Rattle.proof_claims.specs.Beneath.machine_model.specs.declared.steps.Step.{Step}
use Rattle.proof_claims.specs.Beneath.machine_model.specs.declared.steps.Step.TheVariants as step
use Rattle.proof_claims.specs.Beneath.machine_model.specs.Calls.{handle_of}
use Rattle.proof_claims.specs.Beneath.machine_model.specs.Copying.{after_offer, copied_reply}
use Rattle.proof_claims.specs.Beneath.machine_model.specs.Lines.{new_try}
use Rattle.proof_claims.specs.Beneath.machine_model.specs.Machine.{AreBounds, run}
use Rattle.proof_claims.specs.Beneath.machine_model.specs.Moves.{Moves}
use Rattle.proof_claims.specs.Beneath.machine_model.specs.Operations.{line_action, line_after}
use Rattle.proof_claims.specs.Beneath.machine_model.specs.States.{State, operation_of, word_at}
use Rattle.proof_claims.specs.Beneath.machine_model.specs.Swapping.{is_carried_out}
use Rattle.proof_claims.specs.Beneath.machine_model.proofs.Actors.{IsOf}
use Rattle.proof_claims.specs.Beneath.machine_model.proofs.Fates.{place_of_actor}
use Rattle.proof_claims.specs.Beneath.proof_fresh.proofs.Publishing.{publishing}
use Rattle.proof_claims.specs.Beneath.proof_followed.proofs.Bringing.{fresh_made}
use Rattle.proof_claims.specs.Beneath.proof_followed.proofs.NeverBrought.{offered_unknown}
use Rattle.proof_claims.specs.Beneath.proof_followed.specs.Followed.{IsFollowed, followed_claims, from_operation}
use Rattle.proof_claims.specs.Beneath.proof_garbage.proofs.GivenUp.{other_id}
use Rattle.proof_claims.specs.Beneath.proof_garbage.proofs.Private.{Others}
use Rattle.proof_claims.specs.Beneath.proof_garbage.proofs.Restoring.{failed_over}
use Rattle.proof_claims.specs.Beneath.proof_garbage.specs.Live.{refs_of_claims}
use Rattle.proof_claims.specs.Beneath.proof_generations.proofs.Offers.Standing.{offer_line}
use Rattle.proof_claims.specs.Beneath.proof_generations.proofs.Roots.Along.{ordered_along}
use Rattle.proof_claims.specs.Beneath.proof_generations.proofs.Roots.Kept.{fresh_in, fresh_link, fresh_of}
use Rattle.proof_claims.specs.Beneath.proof_memory.proofs.Claims.Uses.{meets_of, safe_of}
use Rattle.proof_claims.specs.Beneath.proof_memory.proofs.Safety.AtEachTime.{safe_along}
use Rattle.proof_claims.specs.Beneath.proof_memory.proofs.Safety.AtTimes.{line_finds}
use Rattle.proof_claims.specs.Beneath.proof_memory.specs.Laws.{IsInUse}
use Rattle.proof_claims.specs.Beneath.proof_memory.specs.Wants.{AnIndirection, Holds, Is, is_indirection}
use Rattle.proof_claims.specs.Changes.{change_of}
use Rattle.proof_claims.specs.Claims.{Has, held_of}
use Rattle.proof_claims.specs.Held.{Held, Holder, OfHandle, OfNode, held_after}
use Rattle.proof_claims.proofs.Acted as acted
use Rattle.proof_claims.proofs.Along.{stays}
use Rattle.proof_claims.proofs.ChangeKinds.{Acting, GivesUp, MakesNode, a_node, a_root, missed, no_slot, told, unoffered}
use Rattle.proof_claims.proofs.FromRoots.{main_in_use}
use Rattle.proof_claims.proofs.InSwap.{in_followed, plain_f, plain_m, stands_nowhere}
use Rattle.proof_claims.proofs.NewClaims.{Comes, came, first, frozen, made, moved, published, second, stood}
use Rattle.proof_claims.proofs.NoSlot.{ends_now, is_making}
use Rattle.proof_claims.proofs.NodeClaims.{LookLeaves, NodeGoes, given_private, goes_over, left_at_look, node_goes, of_failed, of_failed_link, of_link, of_replaced, stays_held, taken_back}
use Rattle.proof_claims.proofs.NodeMoves.{NodeMoves, node_moves, restores_there, same_node, swaps_there}
use Rattle.proof_claims.proofs.PendingOwner.{pending_owner}
use Rattle.proof_claims.proofs.PrevMoves.{PrevMoves, now_committed, now_failed, now_pending, prev_moves, same_prev, was_pending}
use Rattle.proof_claims.proofs.TakenBack.{its_line, made_by}

pub record RootHolds (state : State) (held : Held) (q : Ref) : Type 0 where
  pub names : (r : Ref) → Has held (OfNode q) r → Contains (refs_of_node (node_at state.heap q)) r
  pub holds : (r : Ref) → Contains (refs_of_node (node_at state.heap q)) r → Has held (OfNode q) r
  pub over : prev_at state.heap (main_at state.heap q) ≡ prev.None

abbrev pub RootsHold : State → Held → Type 0
RootsHold state held =
    (k : ℕ) (operation : Operation) → operation_of state (suc k) ≡ Some operation → operation.is_marked ≡ false → (x : Bool) (q : Ref) → fresh_in x operation.line ≡ Some q → RootHolds state held q

-- ---- over a step

-- another one takes the step, or its operation, which is to offer it still
pub data StaysOffered (state : State) (s : Step) (k : ℕ) (was : Operation) (x : Bool) (q : Ref) : Type 0 where
  others : (IsOf (suc k) s → ⊥) → StaysOffered state s k was x q
  its_own : s ≡ step.Go (suc k) → fresh_in x (line_after state was was.line) ≡ Some q → StaysOffered state s k was x q

module _ (limits : Bounds) (ok : AreBounds limits) (xs : List Step) (s : Step) (o : Outcome) (m : Moves (run limits xs) s o (run limits (xs ++ s ∷ []))) (k : ℕ) (was : Operation)
    (runs : operation_of (run limits xs) (suc k) ≡ Some was) (unmarked : was.is_marked ≡ false) (x : Bool) (q : Ref) (its : fresh_in x was.line ≡ Some q)
    (how : StaysOffered (run limits xs) s k was x q) (h : RootHolds (run limits xs) (held_of limits xs) q) (used_then : IsInUse (run limits (xs ++ s ∷ [])).heap q) where
  abbrev state : State
  state = run limits xs

  abbrev after : State
  after = run limits (xs ++ s ∷ [])

  abbrev held : Held
  held = held_of limits xs

  abbrev later : Held
  later = held_after (change_of state held s) held

  link_claim : Holds (IsInUse state.heap) state.heap (Is q AnIndirection)
  link_claim = fresh_link (IsInUse state.heap) state was was.line (line_finds state (safe_along limits ok xs) (suc k) was runs) x q its

  used : IsInUse state.heap q
  used = safe_of link_claim

  link : is_indirection (node_at state.heap q) ≡ true
  link = meets_of link_claim

  -- ---- its operation's own step

  module _ (action : Action) (a : Acting state s action) (here : suc k ≡ a.actor) where
    one : was ≡ a.operation
    one = same_Some was a.operation (sym runs ∙ ap (operation_of state) here ∙ a.runs)

    own_now : fresh_in x a.operation.line ≡ Some q
    own_now = ap (λ (z : Operation). fresh_in x z.line) (sym one) ∙ its

    own_then : fresh_in x (line_after state a.operation a.operation.line) ≡ Some q
    own_then = by how
      where
        by : StaysOffered state s k was x q → fresh_in x (line_after state a.operation a.operation.line) ≡ Some q
        by (others other) = absurd (other (subst (IsOf (suc k)) (sym a.is_step) (sym here)))
        by (its_own is still) = ap (λ (z : Operation). fresh_in x (line_after state z z.line)) (sym one) ∙ still

  -- ---- others don't know it

  unknown : IsFollowed state (Others was.id) q → ⊥
  unknown followed = offered_unknown limits ok xs k was runs unmarked q (inl (fresh_made x was.line q its).0) followed

  private_not : (actor : ℕ) (operation : Operation) → operation_of state actor ≡ Some operation → (actor ≡ suc k → ⊥) → Contains operation.private q → ⊥
  private_not actor operation runs_a apart c =
      unknown (from_operation actor operation q runs_a (other_id limits xs ok (suc k) was runs actor operation apart runs_a)
      (Contains-append_right (refs_of_claims (followed_claims state operation)) operation.private q c))

  -- nobody is in a SWAP there
  swap_not : (action : Action) (a : Acting state s action) (why : Purpose) (w : Swap) → a.operation.line ≡ line.Swap why w → w.indirection ≡ q → ⊥
  swap_not action a why w on same = elim (cases_eq a.actor (suc k)) [
    | inl here ↦ none-some q (sym (ap (fresh_in x) on) ∙ own_now action a (sym here))
    | inr apart ↦
        unknown (from_operation a.actor a.operation q a.runs (other_id limits xs ok (suc k) was runs a.actor a.operation apart a.runs)
        (in_followed state a.operation why w on q (0, omega arith, same)))
  ]

  publish_not : (a f : Ref) → Acting state s (act.Publish q a f) → ⊥
  publish_not a f its_step =
      let (why, on) = publishing state its_step.operation q a f its_step.acts in
      swap_not (act.Publish q a f) its_step why _ on refl

  -- ---- it isn't a main node

  plain_not : (j : Ref) → is_indirection (node_at state.heap j) ≡ false → j ≡ q → ⊥
  plain_not j plain same = true≢false (sym link ∙ ap (λ z. is_indirection (node_at state.heap z)) (sym same) ∙ plain)

  looks_not : (because : Purpose) (v : Swap) (main : Ref) → (a : Acting state s (act.ReadPrev main)) → a.operation.line ≡ line.Swap because v → v.line ≡ swap.Check → (r : Ref) →
      LookLeaves state held v q r → ⊥
  looks_not because v main a on_v at_check r leaves =
      let (j, place, at_j) = place_of_actor state a.actor a.operation a.runs in by j at_j leaves
    where
      by : (j : ℕ) → operation_of state (suc j) ≡ Some a.operation → LookLeaves state held v q r → ⊥
      by j at_j (of_replaced none own same) = plain_not v.replaced (plain_m limits ok xs j a.operation at_j because v on_v) same
      by j at_j (of_link none same on_r) = swap_not (act.ReadPrev main) a because v on_v same
      by j at_j (of_failed some same) = plain_not v.fresh (plain_f limits ok xs j a.operation at_j because v on_v) same
      by j at_j (of_failed_link some same on_r) = swap_not (act.ReadPrev main) a because v on_v same

  -- ---- nor is it given up

  gives_not : (private : List Ref) → GivesUp state s private → Contains private q → ⊥
  gives_not private (no_slot node action a makes_it none same) c = elim (cases_eq a.actor (suc k)) [
    | inl here ↦
        let (answer, ends) = ends_now state a.operation none a.operation.line (ap is_making a.acts ∙ makes action makes_it) in
        none-some q (sym (ap (fresh_in x) ends) ∙ own_then action a (sym here))
    | inr apart ↦ private_not a.actor a.operation a.runs apart (subst (λ ps. Contains ps q) (sym same) c)
  ]
    where
      makes : (action : Action) → MakesNode state node action → is_making action ≡ true
      makes action a_node = refl
      makes action (a_root main is) = refl
  gives_not private (missed i r f a hit same) c = elim (cases_eq a.actor (suc k)) [
    | inl here ↦ let (why, on) = publishing state a.operation i r f a.acts in none-some q (sym (ap (fresh_in x) on) ∙ own_now (act.Publish i r f) a (sym here))
    | inr apart ↦ private_not a.actor a.operation a.runs apart (subst (λ ps. Contains ps q) (sym same) c)
  ]
  gives_not private (unoffered offer a stands same) c = elim (cases_eq a.actor (suc k)) [
    | inl here ↦
        none-some q
        (sym (ap (fresh_in x) (ap (line_after state a.operation) (offer_line state a.operation a.operation.line offer a.acts) ∙ ap (after_offer offer) stands)) ∙ own_then (act.Offer offer) a
        (sym here))
    | inr apart ↦ private_not a.actor a.operation a.runs apart (subst (λ ps. Contains ps q) (sym same) c)
  ]
  gives_not private (told actor operation is runs_a same) c = elim (cases_eq actor (suc k)) [
    | inl here ↦ by here how
    | inr apart ↦ private_not actor operation runs_a apart (subst (λ ps. Contains ps q) (sym same) c)
  ]
    where
      by : actor ≡ suc k → StaysOffered state s k was x q → ⊥
      by here (others other) = other (subst (IsOf (suc k)) (sym is) here)
      by here (its_own go still) = let wrong : step.GiveUp actor ≡ step.Go (suc k) = sym is ∙ go in let bad : ⊥ = cc wrong in bad

  -- nor taken back
  taken_not : (offer : Descriptor) (main : Ref) (c : Complete) (a : Acting state s (act.Complete offer main)) → a.operation.line ≡ line.Copy (copy.Complete c) → a.operation.is_marked ≡ false →
      is_carried_out (word_at state (handle_of a.operation.call)) offer main ≡ false → Contains (offer.successor ∷ refs_of_option offer.second) q → ⊥
  taken_not offer main c a on free not_out d = elim (cases_eq a.actor (suc k)) [
    | inl here ↦ none-some q (sym (ap (fresh_in x) next_line) ∙ own_then (act.Complete offer main) a (sym here))
    | inr apart ↦
        let (j, place, at_j) = place_of_actor state a.actor a.operation a.runs in
        let (y, is) = made_by offer q d in
        apart (place ∙ ap suc
        ((ordered_along limits ok xs).roots.fresh_apart j k y x q q (record { operation = a.operation; runs = at_j; unmarked = free; its = ap (fresh_in y) on ∙ ap (fresh_of y) its_offer.0 ∙ is })
        (record { operation = was; runs = runs; unmarked = unmarked; its = its }) refl).0)
  ]
    where
      its_offer : (c.offer ≡ offer) × (c.line ≡ complete.Swap main)
      its_offer = its_line c offer main (ap (line_action state a.operation) (sym on) ∙ a.acts)

      next_line : line_after state a.operation a.operation.line ≡ new_try
      next_line =
          ap (line_after state a.operation) on
          ∙ ap (λ (z : CompleteLine). line_after state a.operation (line.Copy (copy.Complete (record c { line = z })))) its_offer.1
          ∙ ap (λ b. cond (b || a.operation.is_marked) (line.End (copied_reply a.operation.call a.operation.opens)) new_try)
          (ap (λ (z : Descriptor). is_carried_out (word_at state (handle_of a.operation.call)) z main) its_offer.0 ∙ not_out)
          ∙ ap (λ b. cond b (line.End (copied_reply a.operation.call a.operation.opens)) new_try) free

  -- ---- the node

  pub node_same : node_at after.heap q ≡ node_at state.heap q
  node_same = by (node_moves limits ok xs s o after m refl q used used_then)
    where
      by : NodeMoves state s after q → node_at after.heap q ≡ node_at state.heap q
      by (same_node is) = is
      by (swaps_there a f its_step) = absurd (publish_not a f its_step)
      by (restores_there j p its_step stands) =
          let claims = acted.wants limits ok xs s o after m refl (act.Restore q j p) its_step in
          let failed = failed_over limits xs ok its_step.actor its_step.operation q j p its_step.runs its_step.acts (safe_of claims.1.0) in
          let wrong : prev.None ≡ prev.Failed p = sym h.over ∙ ap (prev_at state.heap) stands ∙ failed in
          let bad : ⊥ = cc wrong in absurd bad

  over_still : prev_at after.heap (main_at after.heap q) ≡ prev.None
  over_still = ap (λ n. prev_at after.heap (main_of n)) node_same ∙ by (prev_moves limits ok xs s o after m refl below used_below below_then)
    where
      below : Ref
      below = main_at state.heap q

      used_below : IsInUse state.heap (main_at state.heap q)
      used_below = main_in_use limits xs ok q used link

      below_then : IsInUse after.heap (main_at state.heap q)
      below_then = subst (λ n. IsInUse after.heap (main_of n)) node_same (main_in_use limits (xs ++ s ∷ []) ok q used_then (ap is_indirection node_same ∙ link))

      by : PrevMoves state s after (main_at state.heap q) → prev_at after.heap (main_at state.heap q) ≡ prev.None
      by (same_prev is) = is ∙ h.over
      by (now_pending i a its_step hit pends) =
          let (why, on) = publishing state its_step.operation i a (main_at state.heap q) its_step.acts in
          absurd (stands_nowhere limits ok xs its_step.actor its_step.operation its_step.runs why i a (main_at state.heap q) on q used link refl)
      by (now_committed i p seen its_step v pends none) = none
      by (now_failed i p seen its_step v pends failed) = let wrong : prev.None ≡ prev.Pending p = sym h.over ∙ pends in let bad : ⊥ = cc wrong in absurd bad

  -- ---- its claims

  -- a node that another one stands over is a main node
  over_not : (i f p : Ref) (seen : Option ℕ) → Acting state s (act.Decide i f p seen) → prev_at state.heap f ≡ prev.Pending p → p ≡ q → ⊥
  over_not i f p seen a pends same =
      let claims = acted.wants limits ok xs s o after m refl (act.Decide i f p seen) a in
      let owner = pending_owner limits ok xs a.actor a.operation i f p seen a.runs a.acts (safe_of claims.1.0) pends in
      plain_not p (plain_m limits ok xs owner.k owner.operation owner.runs owner.why _ owner.swaps) same

  names_still : (r : Ref) → Has later (OfNode q) r → Contains (refs_of_node (node_at after.heap q)) r
  names_still r has = subst (λ n. Contains (refs_of_node n) r) (sym node_same) (by (OfNode q) refl (came state held (OfNode q) r s has))
    where
      by : (holder : Holder) → holder ≡ OfNode q → Comes state held s (change_of state held s) holder r → Contains (refs_of_node (node_at state.heap q)) r
      by holder is (stood before stays_it) = h.names r (subst (λ z. Has held z r) is before)
      by holder is (moved i f p seen a v owns at_f before names) =
          let holders : OfNode f ≡ OfNode q = sym at_f ∙ is in
          let same : f ≡ q = cc holders in
          let claims = acted.wants limits ok xs s o after m refl (act.Decide i f p seen) a in
          let owner = pending_owner limits ok xs a.actor a.operation i f p seen a.runs a.acts (safe_of claims.1.0) (was_pending limits ok xs s o after m refl i f p seen a v) in
          absurd (plain_not f (plain_f limits ok xs owner.k owner.operation owner.runs owner.why _ owner.swaps) same)
      by holder is (made node action y a makes_it drawn at_y names raised) =
          let holders : OfNode y ≡ OfNode q = sym at_y ∙ is in
          let same : y ≡ q = cc holders in
          absurd (acted.made_new limits ok xs s o after m refl node action a makes_it y drawn (acted.used_made limits ok xs s o after m refl y (subst (IsInUse state.heap) (sym same) used)))
      by holder is (published i j f a hit at_i at_f) =
          let holders : OfNode i ≡ OfNode q = sym at_i ∙ is in
          let same : i ≡ q = cc holders in
          let (why, on) = publishing state a.operation i j f a.acts in
          absurd (swap_not (act.Publish i j f) a why _ on same)
      by holder is (frozen offer main n a out second' opens at_h at_root before) = let wrong : OfHandle n ≡ OfNode q = sym at_h ∙ is in let bad : ⊥ = cc wrong in absurd bad
      by holder is (first offer a plain at_h at_root) = let wrong = sym at_h ∙ is in let bad : ⊥ = cc in absurd bad
      by holder is (second offer n a plain opens at_root at_h) = let wrong : OfHandle n ≡ OfNode q = sym at_h ∙ is in let bad : ⊥ = cc wrong in absurd bad

  holds_still : (r : Ref) → Contains (refs_of_node (node_at after.heap q)) r → Has later (OfNode q) r
  holds_still r names = by (node_goes state held s q r)
    where
      has : Has held (OfNode q) r
      has = h.holds r (subst (λ n. Contains (refs_of_node n) r) node_same names)

      by : NodeGoes state held s q r → Has later (OfNode q) r
      by (stays_held is) = stays (change_of state held s) held (OfNode q) (OfNode q) r has is
      by (given_private private up theirs) = absurd (gives_not private up theirs)
      by (goes_over i f p seen a v owns same names_it) = absurd (over_not i f p seen a (was_pending limits ok xs s o after m refl i f p seen a v) same)
      by (left_at_look because v main a on_v at_check leaves) = absurd (looks_not because v main a on_v at_check r leaves)
      by (taken_back offer main c a on_c out free d) = absurd (taken_not offer main c a on_c free out d)

  pub root_still : RootHolds after later q
  root_still = record { names = names_still; holds = holds_still; over = over_still }
