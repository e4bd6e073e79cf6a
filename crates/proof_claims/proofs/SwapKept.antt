-- Each step keeps what is so of the claims of the nodes of a SWAP.
use Rattle.std.proofs.Common.{◌≡◌, ◌⊎◌, inl, inr, ℕ, suc, ◌==◌, ◌&&◌, true, List, [], ◌∷◌, ◌++◌, Contains, Option, Some, Ok, cond, arith, refl, sym, ap, subst, ◌∙◌}
use Rattle.std.proofs.lemmas.Bool.{true≢false}
use Rattle.std.proofs.lemmas.Option.{same_Some}
use Rattle.proof_claims.specs.Beneath.slot_arena.specs.declared.nodes.Prev.TheVariants as prev
use Rattle.proof_claims.specs.Beneath.slot_arena.specs.declared.refs.Ref.{Ref}
use Rattle.proof_claims.specs.Beneath.slot_arena.specs.Heaps.{logical, main_at, main_of, node_at, prev_at, refs_of_node, refs_of_prev, with_prev}
use Rattle.proof_claims.specs.Beneath.machine_model.specs.declared.actions.Action.{Action}
use Rattle.proof_claims.specs.Beneath.machine_model.specs.declared.actions.Action.TheVariants as act
use Rattle.proof_claims.specs.Beneath.machine_model.specs.declared.lines.Line.TheVariants as line
use Rattle.proof_claims.specs.Beneath.machine_model.specs.declared.lines.Purpose.{Purpose}
use Rattle.proof_claims.specs.Beneath.machine_model.specs.declared.operations.Operation.{Operation}
use Rattle.proof_claims.specs.Beneath.machine_model.specs.declared.reading.Swap.{Swap}
use Rattle.proof_claims.specs.Beneath.machine_model.specs.declared.reading.SwapLine.TheVariants as swap
use Rattle.proof_claims.specs.Beneath.machine_model.specs.declared.steps.Bounds.{Bounds}
use Rattle.proof_claims.specs.Beneath.machine_model.specs.declared.steps.Outcome.{Outcome}
use Rattle.proof_claims.specs.Beneath.machine_model.specs.declared.steps.Step.{Step}
use Rattle.proof_claims.specs.Beneath.machine_model.specs.declared.steps.Step.TheVariants as step
use Rattle.proof_claims.specs.Beneath.machine_model.specs.Acting.{decided}
use Rattle.proof_claims.specs.Beneath.machine_model.specs.Calls.{handle_of}
use Rattle.proof_claims.specs.Beneath.machine_model.specs.Machine.{AreBounds, next, run}
use Rattle.proof_claims.specs.Beneath.machine_model.specs.Moves.{Moves}
use Rattle.proof_claims.specs.Beneath.machine_model.specs.Operations.{line_action}
use Rattle.proof_claims.specs.Beneath.machine_model.specs.Reading.{Commits, verdict}
use Rattle.proof_claims.specs.Beneath.machine_model.specs.States.{State, operation_of, word_at}
use Rattle.proof_claims.specs.Beneath.machine_model.specs.Swapping.{swap_after, swapping}
use Rattle.proof_claims.specs.Beneath.proof_garbage.proofs.Fresh.{deciding_stands}
use Rattle.proof_claims.specs.Beneath.proof_memory.proofs.Claims.Uses.{meets_of}
use Rattle.proof_claims.specs.Beneath.proof_memory.specs.Laws.{IsInUse}
use Rattle.proof_claims.specs.Beneath.proof_memory.specs.Wants.{is_indirection}
use Rattle.proof_claims.specs.Beneath.proof_reuse.specs.Laws.{IsReplacedBy}
use Rattle.proof_claims.specs.Changes.{change_by, change_going, change_of, decides, fate_taken_over, publishes as publishes_change}
use Rattle.proof_claims.specs.Claims.{Has, held_of}
use Rattle.proof_claims.specs.Held.{Change, Held, Holder, OfHandle, OfNode, Stays, held_after, is_by_nodes, is_in, is_owned}
use Rattle.proof_claims.specs.Laws.{EachHeld}
use Rattle.proof_claims.proofs.Acted as acted
use Rattle.proof_claims.proofs.Acted.{acted_after}
use Rattle.proof_claims.proofs.Along.{comes, own_still, stays}
use Rattle.proof_claims.proofs.ChangeKinds.{Acting, GivesUp, MakesNode, a_node, a_root, missed, no_slot, unoffered}
use Rattle.proof_claims.proofs.ChangeKinds as kinds
use Rattle.proof_claims.proofs.ClaimsDiffer.{ClaimsFit}
use Rattle.proof_claims.proofs.FreshClaims.{GoesOnIn, IsUncommitted, goes_on_in, no_first_swap, one_acts, publishes, stands_over}
use Rattle.proof_claims.proofs.FreshClaims as fresh
use Rattle.proof_claims.proofs.FromRoots.{takes_nothing}
use Rattle.proof_claims.proofs.InSwap.{link_i, plain_m, used_f, used_i, used_m}
use Rattle.proof_claims.proofs.Lists.{found_in}
use Rattle.proof_claims.proofs.LiveLinks.{link_not_dropped}
use Rattle.proof_claims.proofs.NewClaims.{Comes, came, first, frozen, made, moved, published, second, stood}
use Rattle.proof_claims.proofs.NodeClaims.{NodeGoes, given_private, goes_over, left_at_look, node_goes, stays_held, taken_back}
use Rattle.proof_claims.proofs.OwnStanding.{own_stands}
use Rattle.proof_claims.proofs.PendingOwner.{pending_owner}
use Rattle.proof_claims.proofs.PrevMoves.{PrevMoves, now_committed, now_failed, now_pending, prev_moves, published_prev, same_prev, was_pending}
use Rattle.proof_claims.proofs.ReplacedBy.{replaced_by_later, replaced_now}
use Rattle.proof_claims.proofs.Standing.{node_still}
use Rattle.proof_claims.proofs.SwapClaims.{IsIn, SwapHolds, SwapsHold, fresh_stays, link_before_stays, link_fresh_stays, rest_stays}
use Rattle.proof_claims.proofs.SwapFacts.{GoesOnBy, at_publish, one_swapper, others_step, own_step, publish_hits, replaced_decided, swap_with}

module _ (limits : Bounds) (ok : AreBounds limits) (xs : List Step) (s : Step) (o : Outcome) (m : Moves (run limits xs) s o (run limits (xs ++ s ∷ [])))
    (taken : next (run limits xs) s ≡ Ok (o, run limits (xs ++ s ∷ []))) (fits : ClaimsFit (run limits xs) (held_of limits xs)) (each : EachHeld limits xs)
    (holds : SwapsHold (run limits xs) (held_of limits xs) (IsReplacedBy limits xs)) where
  abbrev state : State
  state = run limits xs

  abbrev after : State
  after = run limits (xs ++ s ∷ [])

  abbrev held : Held
  held = held_of limits xs

  abbrev change : Change
  change = change_of state held s

  abbrev later : Held
  later = held_after change held

  abbrev Replaced : Ref → Ref → Ref → Type 0
  Replaced i n f = IsReplacedBy limits (xs ++ s ∷ []) i n f

  -- ---- an operation that was in its SWAP

  module _ (k : ℕ) (was : Operation) (runs : operation_of (run limits xs) (suc k) ≡ Some was) (why : Purpose) (w w' : Swap) (on : was.line ≡ line.Swap why w)
      (how : GoesOnBy (run limits xs) s k was w w') (found : Operation) (why' : Purpose) (runs_now : operation_of (run limits (xs ++ s ∷ [])) (suc k) ≡ Some found)
      (on_now : found.line ≡ line.Swap why' w') where
    abbrev its : SwapHolds state held (IsReplacedBy limits xs) w
    its = holds k was why w runs on

    goes_on : (w' ≡ w) ⊎ GoesOnIn w w'
    goes_on = by how
      where
        by : GoesOnBy state s k was w w' → (w' ≡ w) ⊎ GoesOnIn w w'
        by (others_step other same) = inl same
        by (own_step is goes) = inr (goes_on_in state was w w' goes)

    same_i : w'.indirection ≡ w.indirection
    same_i = elim goes_on [ inl same ↦ ap (λ (q : Swap). q.indirection) same | inr past ↦ past.indirection ]

    same_m : w'.replaced ≡ w.replaced
    same_m = elim goes_on [ inl same ↦ ap (λ (q : Swap). q.replaced) same | inr past ↦ past.replaced ]

    same_f : w'.fresh ≡ w.fresh
    same_f = elim goes_on [ inl same ↦ ap (λ (q : Swap). q.fresh) same | inr past ↦ past.fresh ]

    -- the same SWAP at its line then
    abbrev u : Swap
    u = record w { line = w'.line }

    u_is : u ≡ w'
    u_is = swap_with w' w same_i same_m same_f

    on_u : found.line ≡ line.Swap why' u
    on_u = on_now ∙ ap (line.Swap why') (sym u_is)

    goes_u : (u ≡ w) ⊎ GoesOnIn w u
    goes_u = subst (λ x. (x ≡ w) ⊎ GoesOnIn w x) (sym u_is) goes_on

    node_m : node_at after.heap w.replaced ≡ node_at state.heap w.replaced
    node_m = fresh.node_m limits ok xs s o m fits.made fits.swaps k was runs why w on u goes_u found why' runs_now on_u

    node_f : node_at after.heap w.fresh ≡ node_at state.heap w.fresh
    node_f = fresh.node_f limits ok xs s o m fits.made fits.swaps k was runs why w on u goes_u found why' runs_now on_u

    uncommitted_before : IsUncommitted after u → IsUncommitted state w
    uncommitted_before e = fresh.prev_was limits ok xs s o m fits.made fits.swaps k was runs why w on u goes_u found why' runs_now on_u e

    own_before : is_owned later w.indirection w.replaced ≡ true → is_owned held w.indirection w.replaced ≡ true
    own_before e = fresh.own_before limits ok xs s o m fits.made fits.swaps k was runs why w on e

    f_moves : PrevMoves state s after w.fresh
    f_moves = prev_moves limits ok xs s o after m refl w.fresh (used_f limits ok xs k was runs why w on) (used_f limits ok (xs ++ s ∷ []) k found runs_now why' u on_u)

    -- ---- it swaps its node in by this step

    module _ (at_first : w.line ≡ swap.Publish) (past : IsIn u) where
      acts_now : (a : Acting state s (act.Publish w.indirection w.replaced w.fresh)) × ((main_at state.heap w.indirection == w.replaced) ≡ true)
      acts_now = by how
        where
          on_first : was.line ≡ line.Swap why (swapping w.indirection w.replaced w.fresh)
          on_first = on ∙ ap (λ l. line.Swap why (record w { line = l })) at_first

          by : GoesOnBy state s k was w w' → (a : Acting state s (act.Publish w.indirection w.replaced w.fresh)) × ((main_at state.heap w.indirection == w.replaced) ≡ true)
          by (others_step other same) = absurd (past (ap (λ (x : Swap). x.line) same ∙ at_first))
          by (own_step is goes) = (
            record { actor = suc k; operation = was; is_step = is; runs = runs; acts = ap (line_action state was) on_first },
            publish_hits state was w.indirection w.replaced w.fresh w' (main_at state.heap w.indirection == w.replaced) refl
                (ap (λ l. swap_after state.heap was.access (word_at state (handle_of was.call)) (record w { line = l })) (sym at_first) ∙ goes),
          )

      pends_now : prev_at after.heap w.fresh ≡ prev.Pending w.replaced
      pends_now = published_prev limits ok xs s o after m refl w.indirection w.replaced w.fresh acts_now.0 acts_now.1

      link_now : Has later (OfNode w.indirection) w.fresh
      link_now =
          subst (λ (c : Change). Has (held_after c held) (OfNode w.indirection) w.fresh) (sym (change_is acts_now.0))
          (comes (publishes_change true acts_now.0.operation.private w.indirection w.fresh) held (OfNode w.indirection) w.fresh (0, omega arith, refl))
        where
          change_is : (a : Acting state s (act.Publish w.indirection w.replaced w.fresh)) → change ≡ publishes_change true a.operation.private w.indirection w.fresh
          change_is a =
              ap (change_of state held) a.is_step ∙ ap (change_going state held) a.runs ∙ ap (change_by state held a.operation) a.acts
              ∙ ap (λ b. publishes_change b a.operation.private w.indirection w.fresh) acts_now.1

      not_none : prev_at after.heap w.fresh ≡ prev.None → ⊥
      not_none none = let wrong : prev.None ≡ prev.Pending w.replaced = sym none ∙ pends_now in let bad : ⊥ = cc wrong in bad

    -- ---- the fields that wait for no commit

    itself_then : IsUncommitted after u → (r : Ref) → Contains (refs_of_node (node_at after.heap w.fresh)) r →
        (is_owned later w.indirection w.replaced ≡ true → Contains (refs_of_node (node_at after.heap w.replaced)) r → ⊥) → Has later (OfNode w.fresh) r
    itself_then e r names apart =
        let before = uncommitted_before e in
        fresh_stays limits ok xs s fits holds k was runs why w w' on how before o m r
        (its.itself before r (subst (λ n. Contains (refs_of_node n) r) node_f names)
        (λ own named. apart (own_still change held w.indirection w.replaced own) (subst (λ n. Contains (refs_of_node n) r) (sym node_m) named)))

    link_then : IsIn u → (prev_at after.heap w.fresh ≡ prev.None → ⊥) → Has later (OfNode w.indirection) w.fresh
    link_then past over = elim (at_publish w.line) [
      | inl at_first ↦ link_now at_first past
      | inr in_before ↦
          let over_before = pending_before (uncommitted_before (stands_over over)) in_before in
          link_fresh_stays limits ok xs s fits holds k was runs why w w' on how o m over_before (its.link in_before over_before)
    ]
      where
        pending_before : IsUncommitted state w → IsIn w → prev_at state.heap w.fresh ≡ prev.None → ⊥
        pending_before (publishes first_line) in_before none = in_before first_line
        pending_before (stands_over over) in_before none = over none

    -- ---- it is committed by this step

    module _ (told : Option ℕ) (a : Acting state s (act.Decide w.indirection w.fresh w.replaced told)) (v : verdict state.heap w.indirection w.fresh w.replaced told ≡ Commits)
        (pends : prev_at state.heap w.fresh ≡ prev.Pending w.replaced) (none_now : prev_at after.heap w.fresh ≡ prev.None) where
      abbrev names_f : List Ref
      names_f = refs_of_node (node_at state.heap w.fresh)

      apart : w.fresh ≡ w.replaced → ⊥
      apart same =
          let wrong : prev.None ≡ prev.Pending w.replaced = sym (replaced_decided limits ok xs k was runs why w on) ∙ ap (prev_at state.heap) (sym same) ∙ pends in
          let bad : ⊥ = cc wrong in bad

      gives_not : (private : List Ref) → GivesUp state s private → ⊥
      gives_not private (no_slot node action b makes_it none same) = by action makes_it (one_acts limits ok xs s o m fits.made fits.swaps action _ b a)
        where
          by : (action : Action) → MakesNode state node action → action ≡ act.Decide w.indirection w.fresh w.replaced told → ⊥
          by action a_node e = cc e
          by action (a_root main is) e = cc e
      gives_not private (missed i q f b hit same) = let wrong = one_acts limits ok xs s o m fits.made fits.swaps _ _ b a in cc
      gives_not private (unoffered offer b stands same) = let wrong = one_acts limits ok xs s o m fits.made fits.swaps _ _ b a in cc
      gives_not private (kinds.told actor operation is runs_a same) = let wrong : step.GiveUp actor ≡ step.Go a.actor = sym is ∙ a.is_step in let bad : ⊥ = cc wrong in bad

      -- what doesn't go over stays
      node_stays : (j r : Ref) → (w.replaced ≡ j → Contains names_f r → ⊥) → Has held (OfNode j) r → Has later (OfNode j) r
      node_stays j r free has = by (node_goes state held s j r)
        where
          by : NodeGoes state held s j r → Has later (OfNode j) r
          by (stays_held is) = stays change held (OfNode j) (OfNode j) r has is
          by (given_private private up own) = absurd (gives_not private up)
          by (goes_over i f p seen b verdict_is own same names) =
              let one : act.Decide i f p seen ≡ act.Decide w.indirection w.fresh w.replaced told = one_acts limits ok xs s o m fits.made fits.swaps _ _ b a in
              let is_f : f ≡ w.fresh = cc one in
              let is_p : p ≡ w.replaced = cc one in
              absurd (free (sym is_p ∙ same) (subst (λ x. Contains (refs_of_node (node_at state.heap x)) r) is_f names))
          by (left_at_look because x main b on_x at_check leaves) = let wrong = one_acts limits ok xs s o m fits.made fits.swaps _ _ b a in let bad : ⊥ = cc in absurd bad
          by (taken_back offer main c b on_c out unmarked d) = let wrong = one_acts limits ok xs s o m fits.made fits.swaps _ _ b a in let bad : ⊥ = cc in absurd bad

      stands : main_at state.heap w.indirection ≡ w.fresh
      stands =
          deciding_stands limits xs ok a.actor a.operation w.indirection w.fresh w.replaced told a.runs a.acts (used_i limits ok xs k was runs why w on)
          (used_f limits ok xs k was runs why w on) w.replaced pends

      over_it : Contains (refs_of_prev (prev_at state.heap w.fresh)) w.replaced
      over_it = subst (λ x. Contains (refs_of_prev x) w.replaced) (sym pends) (0, omega arith, refl)

      before_now : Has later (OfNode w.indirection) w.replaced
      before_now = node_stays w.indirection w.replaced (λ same named. plain_link same) held_before
        where
          plain_link : w.replaced ≡ w.indirection → ⊥
          plain_link same = true≢false (sym (link_i limits ok xs k was runs why w on) ∙ ap (λ x. is_indirection (node_at state.heap x)) (sym same) ∙ plain_m limits ok xs k was runs why w on)

          held_before : Has held (OfNode w.indirection) w.replaced
          held_before = elim (each.before w.indirection w.replaced (used_i limits ok xs k was runs why w on, link_i limits ok xs k was runs why w on)
              (subst (λ x. Contains (refs_of_prev (prev_at state.heap x)) w.replaced) (sym stands) over_it)) [
                | inl has ↦ has
                | inr dropped ↦ absurd (link_not_dropped limits ok xs k was runs why w on dropped)
              ]

      rest_now : is_owned held w.indirection w.replaced ≡ true → (r : Ref) → Contains (refs_of_node (node_at state.heap w.replaced)) r → (Contains names_f r → ⊥) → Has later (OfNode w.replaced) r
      rest_now own r names free = node_stays w.replaced r (λ same named. free named) held_rest
        where
          held_rest : Has held (OfNode w.replaced) r
          held_rest = elim (each.nodes w.replaced r (used_m limits ok xs k was runs why w on) names) [
            | inl has ↦ has
            | inr other ↦ elim other [
              | inl dropped ↦ absurd (own_stands limits ok xs a.actor a.operation w.indirection w.fresh w.replaced told a.runs a.acts pends own dropped)
              | inr takes ↦ absurd (takes_nothing limits xs ok held w.fresh w.replaced r (used_f limits ok xs k was runs why w on) (used_m limits ok xs k was runs why w on) over_it takes)
            ]
          ]

      change_is : is_owned held w.indirection w.replaced ≡ true → change ≡ decides true Commits names_f w.fresh w.replaced
      change_is own =
          ap (change_of state held) a.is_step ∙ ap (change_going state held) a.runs ∙ ap (change_by state held a.operation) a.acts
          ∙ ap (λ b. decides b (verdict state.heap w.indirection w.fresh w.replaced told) names_f w.fresh w.replaced) own ∙ ap (λ x. decides true x names_f w.fresh w.replaced) v

      moved_now : is_owned held w.indirection w.replaced ≡ true → (r : Ref) → Has later (OfNode w.replaced) r → Contains names_f r → ⊥
      moved_now own r has named = by (OfNode w.replaced) refl (came state held (OfNode w.replaced) r s has)
        where
          tests : (is_by_nodes (w.replaced ∷ []) (OfNode w.replaced) && is_in names_f r) ≡ true
          tests = ap (λ b. b && is_in names_f r) (found_in (w.replaced ∷ []) w.replaced (0, omega arith, refl)) ∙ found_in names_f r named

          by : (holder : Holder) → holder ≡ OfNode w.replaced → Comes state held s change holder r → ⊥
          by holder is (stood had stays_it) =
              let there : fate_taken_over w.replaced names_f w.fresh (record { by = OfNode w.replaced; on = r }) ≡ Stays (OfNode w.replaced) =
              ap (λ (c : Change). c.fate (record { by = OfNode w.replaced; on = r })) (sym (change_is own)) ∙ subst (λ x. change.fate (record { by = x; on = r }) ≡ Stays x) is stays_it in
              let wrong : Stays (OfNode w.fresh) ≡ Stays (OfNode w.replaced) = ap (λ b. cond b (Stays (OfNode w.fresh)) (Stays (OfNode w.replaced))) (sym tests) ∙ there in
              apart (cc wrong)
          by holder is (moved i f p seen b commits_it owns at_f had names) =
              let one : act.Decide i f p seen ≡ act.Decide w.indirection w.fresh w.replaced told = one_acts limits ok xs s o m fits.made fits.swaps _ _ b a in
              let is_f : f ≡ w.fresh = cc one in
              let holders : OfNode f ≡ OfNode w.replaced = sym at_f ∙ is in
              let is_m : f ≡ w.replaced = cc holders in
              apart (sym is_f ∙ is_m)
          by holder is (made node action x b makes_it drawn at_x names raised) = by_make action makes_it (one_acts limits ok xs s o m fits.made fits.swaps action _ b a)
            where
              by_make : (action : Action) → MakesNode state node action → action ≡ act.Decide w.indirection w.fresh w.replaced told → ⊥
              by_make action a_node e = cc e
              by_make action (a_root main root_is) e = cc e
          by holder is (published i q f b hit at_i at_f) = let wrong = one_acts limits ok xs s o m fits.made fits.swaps _ _ b a in cc
          by holder is (frozen offer main n b out second' opens at_h at_root had) = let wrong : OfHandle n ≡ OfNode w.replaced = sym at_h ∙ is in let bad : ⊥ = cc wrong in bad
          by holder is (first offer b plain at_h at_root) = let wrong = sym at_h ∙ is in cc
          by holder is (second offer n b plain opens at_root at_h) = let wrong : OfHandle n ≡ OfNode w.replaced = sym at_h ∙ is in let bad : ⊥ = cc wrong in bad

      replaced_then : Replaced w.indirection w.replaced w.fresh
      replaced_then =
          replaced_now limits ok xs s o taken w.indirection w.replaced w.fresh (used_i limits ok xs k was runs why w on, link_i limits ok xs k was runs why w on)
          (used_i limits ok (xs ++ s ∷ []) k found runs_now why' u on_u, link_i limits ok (xs ++ s ∷ []) k found runs_now why' u on_u)
          (ap (λ x. logical x (prev_at state.heap x)) stands ∙ ap (logical w.fresh) pends) (ap (λ x. logical x (prev_at after.heap x)) stands_then ∙ ap (logical w.fresh) none_now)
          (λ same. apart (sym same))
        where
          heap : after.heap ≡ with_prev state.heap w.fresh prev.None
          heap = ap (λ (z : State). z.heap) (acted_after state s o after m (act.Decide w.indirection w.fresh w.replaced told) a tt) ∙ ap (decided state.heap w.fresh w.replaced) v

          stands_then : main_at after.heap w.indirection ≡ w.fresh
          stands_then =
              ap (λ h. main_at h w.indirection) heap
              ∙ ap main_of (node_still state.heap w.fresh prev.None (used_f limits ok xs k was runs why w on) w.indirection (used_i limits ok xs k was runs why w on)) ∙ stands

    -- ---- it was committed before, or is so by this step

    data WasCommitted : Type 0 where
      before_it : IsIn w → prev_at state.heap w.fresh ≡ prev.None → WasCommitted
      by_it : (told : Option ℕ) → Acting state s (act.Decide w.indirection w.fresh w.replaced told) → verdict state.heap w.indirection w.fresh w.replaced told ≡ Commits →
          prev_at state.heap w.fresh ≡ prev.Pending w.replaced → WasCommitted

    -- whoever commits it, it is so over the one that its own operation replaces there
    by_decide : (i p : Ref) (told : Option ℕ) → Acting state s (act.Decide i w.fresh p told) → verdict state.heap i w.fresh p told ≡ Commits → prev_at state.heap w.fresh ≡ prev.Pending p →
        WasCommitted
    by_decide i p told a v pends =
        let owner = pending_owner limits ok xs a.actor a.operation i w.fresh p told a.runs a.acts (used_f limits ok xs k was runs why w on) pends in
        let place = one_swapper limits ok xs owner.k k owner.operation was owner.why why _ w owner.runs runs owner.swaps on refl in
        let one : was ≡ owner.operation = same_Some was owner.operation (sym runs ∙ ap (operation_of state) (sym place) ∙ owner.runs) in
        let both : line.Swap why w ≡ line.Swap owner.why (record { indirection = i; replaced = p; fresh = w.fresh; line = swap.Deciding owner.reads }) =
        sym on ∙ ap (λ (x : Operation). x.line) one ∙ owner.swaps in
        let swaps : w ≡ record { indirection = i; replaced = p; fresh = w.fresh; line = swap.Deciding owner.reads } = cc both in
        let is_i : i ≡ w.indirection = ap (λ (x : Swap). x.indirection) (sym swaps) in
        let is_p : p ≡ w.replaced = ap (λ (x : Swap). x.replaced) (sym swaps) in
        by_it told (subst (λ x. Acting state s (act.Decide x w.fresh w.replaced told)) is_i (subst (λ x. Acting state s (act.Decide i w.fresh x told)) is_p a))
        (subst (λ x. verdict state.heap x w.fresh w.replaced told ≡ Commits) is_i (subst (λ x. verdict state.heap i w.fresh x told ≡ Commits) is_p v))
        (subst (λ x. prev_at state.heap w.fresh ≡ prev.Pending x) is_p pends)

    was_committed : IsIn u → prev_at after.heap w.fresh ≡ prev.None → WasCommitted
    was_committed past none = elim (at_publish w.line) [
      | inl at_first ↦ absurd (not_none at_first past none)
      | inr in_before ↦ by in_before f_moves
    ]
      where
        by : IsIn w → PrevMoves state s after w.fresh → WasCommitted
        by in_before (same_prev is) = before_it in_before (sym is ∙ none)
        by in_before (now_committed i p told a v pends now) = by_decide i p told a v pends
        by in_before (now_failed i p told a v pends now) = let wrong : prev.None ≡ prev.Failed p = sym none ∙ now in let bad : ⊥ = cc wrong in absurd bad
        by in_before (now_pending i q a hit now) = let wrong : prev.None ≡ prev.Pending q = sym none ∙ now in let bad : ⊥ = cc wrong in absurd bad

    before_then : IsIn u → (none : prev_at after.heap w.fresh ≡ prev.None) → WasCommitted → Has later (OfNode w.indirection) w.replaced
    before_then past none (before_it in_before was_none) =
        link_before_stays limits ok xs s fits holds k was runs why w w' on how (its.replaced in_before was_none) o m (its.before in_before was_none)
    before_then past none (by_it told a v pends) = before_now told a v pends none

    rest_then : (none : prev_at after.heap w.fresh ≡ prev.None) → WasCommitted → is_owned later w.indirection w.replaced ≡ true → (r : Ref) →
        Contains (refs_of_node (node_at after.heap w.replaced)) r →
        (Contains (refs_of_node (node_at after.heap w.fresh)) r → ⊥) → Has later (OfNode w.replaced) r
    rest_then none (before_it in_before was_none) own r names free =
        rest_stays limits ok xs s fits holds k was runs why w w' on how (its.replaced in_before was_none) (own_before own) o m r
        (its.rest in_before was_none (own_before own) r (subst (λ n. Contains (refs_of_node n) r) node_m names) (λ named. free (subst (λ n. Contains (refs_of_node n) r) (sym node_f) named)))
    rest_then none (by_it told a v pends) own r names free =
        rest_now told a v pends none (own_before own) r (subst (λ n. Contains (refs_of_node n) r) node_m names) (λ named. free (subst (λ n. Contains (refs_of_node n) r) (sym node_f) named))

    moved_then : (none : prev_at after.heap w.fresh ≡ prev.None) → WasCommitted → is_owned later w.indirection w.replaced ≡ true → (r : Ref) → Has later (OfNode w.replaced) r →
        Contains (refs_of_node (node_at after.heap w.fresh)) r → ⊥
    moved_then none (by_it told a v pends) own r has named = moved_now told a v pends none (own_before own) r has (subst (λ n. Contains (refs_of_node n) r) node_f named)
    moved_then none (before_it in_before was_none) own r has named = by (OfNode w.replaced) refl (came state held (OfNode w.replaced) r s has)
      where
        decided_m : prev_at state.heap w.replaced ≡ prev.None
        decided_m = replaced_decided limits ok xs k was runs why w on

        by : (holder : Holder) → holder ≡ OfNode w.replaced → Comes state held s change holder r → ⊥
        by holder is (stood had stays_it) =
            its.moved_on in_before was_none (own_before own) r (subst (λ x. Has held x r) is had) (subst (λ n. Contains (refs_of_node n) r) node_f named)
        by holder is (moved i f p told a v owns at_f had names) =
            let holders : OfNode f ≡ OfNode w.replaced = sym at_f ∙ is in
            let same : f ≡ w.replaced = cc holders in
            let wrong : prev.None ≡ prev.Pending p = sym decided_m ∙ ap (prev_at state.heap) (sym same) ∙ was_pending limits ok xs s o after m refl i f p told a v in
            let bad : ⊥ = cc wrong in bad
        by holder is (made node action x a makes_it drawn at_x names raised) =
            let holders : OfNode x ≡ OfNode w.replaced = sym at_x ∙ is in
            let same : x ≡ w.replaced = cc holders in
            acted.made_new limits ok xs s o after m refl node action a makes_it x drawn
            (acted.used_made limits ok xs s o after m refl x (subst (IsInUse state.heap) (sym same) (used_m limits ok xs k was runs why w on)))
        by holder is (published i q f a hit at_i at_f) =
            let holders : OfNode i ≡ OfNode w.replaced = sym at_i ∙ is in
            let same : i ≡ w.replaced = cc holders in
            let link = meets_of (acted.wants limits ok xs s o after m refl (act.Publish i q f) a).0 in
            true≢false (sym link ∙ ap (λ x. is_indirection (node_at state.heap x)) same ∙ plain_m limits ok xs k was runs why w on)
        by holder is (frozen offer main n a out second' opens at_h at_root had) = let wrong : OfHandle n ≡ OfNode w.replaced = sym at_h ∙ is in let bad : ⊥ = cc wrong in bad
        by holder is (first offer a plain at_h at_root) = let wrong = sym at_h ∙ is in cc
        by holder is (second offer n a plain opens at_root at_h) = let wrong : OfHandle n ≡ OfNode w.replaced = sym at_h ∙ is in let bad : ⊥ = cc wrong in bad

    replaced_after : (none : prev_at after.heap w.fresh ≡ prev.None) → WasCommitted → Replaced w.indirection w.replaced w.fresh
    replaced_after none (before_it in_before was_none) = replaced_by_later limits xs (s ∷ []) w.indirection w.replaced w.fresh (its.replaced in_before was_none)
    replaced_after none (by_it told a v pends) = replaced_then told a v pends none

    pub swap_kept : SwapHolds after later Replaced w'
    swap_kept = subst (SwapHolds after later Replaced) u_is (record {
      itself = itself_then;
      link = link_then;
      before = λ past none. before_then past none (was_committed past none);
      rest = λ past none. rest_then none (was_committed past none);
      moved_on = λ past none. moved_then none (was_committed past none);
      replaced = λ past none. replaced_after none (was_committed past none);
    })
