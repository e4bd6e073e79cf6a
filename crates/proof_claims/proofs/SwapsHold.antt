-- What is so of the claims of the nodes of a SWAP is so after every list of steps.
use Rattle.std.proofs.Common.{cond, ◌≡◌, ℕ, suc, Bool, true, false, List, [], ◌∷◌, ◌++◌, Contains, Some, Ok, Err, arith, refl, sym, ap, subst, ◌∙◌}
use Rattle.proof_claims.specs.Beneath.slot_arena.specs.declared.nodes.Node.{Node}
use Rattle.proof_claims.specs.Beneath.slot_arena.specs.declared.refs.Ref.{Ref}
use Rattle.proof_claims.specs.Beneath.slot_arena.specs.Heaps.{next_ref, node_at, refs_of_node}
use Rattle.proof_claims.specs.Beneath.machine_model.specs.declared.actions.Action.TheVariants as act
use Rattle.proof_claims.specs.Beneath.machine_model.specs.declared.lines.Line.TheVariants as line
use Rattle.proof_claims.specs.Beneath.machine_model.specs.declared.lines.Purpose.{Purpose}
use Rattle.proof_claims.specs.Beneath.machine_model.specs.declared.operations.Operation.{Operation}
use Rattle.proof_claims.specs.Beneath.machine_model.specs.declared.reading.Swap.{Swap}
use Rattle.proof_claims.specs.Beneath.machine_model.specs.declared.reading.SwapLine.TheVariants as swap
use Rattle.proof_claims.specs.Beneath.machine_model.specs.declared.steps.Bounds.{Bounds}
use Rattle.proof_claims.specs.Beneath.machine_model.specs.declared.steps.Outcome.{Outcome}
use Rattle.proof_claims.specs.Beneath.machine_model.specs.declared.steps.Step.{Step}
use Rattle.proof_claims.specs.Beneath.machine_model.specs.declared.steps.Step.TheVariants as step
use Rattle.proof_claims.specs.Beneath.machine_model.specs.Acting.{operation_after}
use Rattle.proof_claims.specs.Beneath.machine_model.specs.Keys.{KeysFit}
use Rattle.proof_claims.specs.Beneath.machine_model.specs.Machine.{Answer, AreBounds, is_taken_step, next, run, run_from, state_after}
use Rattle.proof_claims.specs.Beneath.machine_model.specs.Moves.{Moves, MovesIfTaken}
use Rattle.proof_claims.specs.Beneath.machine_model.specs.Operations.{line_action}
use Rattle.proof_claims.specs.Beneath.machine_model.specs.States.{State, first_state, operation_of}
use Rattle.proof_claims.specs.Beneath.machine_model.proofs.Actors.{mark_only, marks_in}
use Rattle.proof_claims.specs.Beneath.machine_model.proofs.Along.{by_last, run_push}
use Rattle.proof_claims.specs.Beneath.machine_model.proofs.Fates.{Comes as CameFrom, began, comes as comes_from, gave, rested, went}
use Rattle.proof_claims.specs.Beneath.machine_model.proofs.Found.{none_found}
use Rattle.proof_claims.specs.Beneath.machine_model.proofs.Moves.{moves}
use Rattle.proof_claims.specs.Beneath.proof_memory.specs.Laws.{IsInUse}
use Rattle.proof_claims.specs.Beneath.proof_reuse.specs.Laws.{IsReplacedBy}
use Rattle.proof_claims.specs.Changes.{change_by, change_going, change_of, claim_of_node, goal_of, makes, over_at}
use Rattle.proof_claims.specs.Claims.{Has, held_of}
use Rattle.proof_claims.specs.Held.{Change, Held, OfNode, held_after, is_in, is_owned}
use Rattle.proof_claims.specs.Laws.{EachHeld}
use Rattle.proof_claims.proofs.Acted as acted
use Rattle.proof_claims.proofs.Along.{comes, held_push, own_still}
use Rattle.proof_claims.proofs.ChangeKinds.{Acting, a_node}
use Rattle.proof_claims.proofs.ClaimsDiffer.{ClaimsFit, claims_fit, keys_before}
use Rattle.proof_claims.proofs.FreshClaims.{no_first_swap}
use Rattle.proof_claims.proofs.Goals.{goal_in_use, goal_makes}
use Rattle.proof_claims.proofs.InSwap.{plain_m, used_m}
use Rattle.proof_claims.proofs.IntoSwap.{SwapFrom, built, swap_from, went_on}
use Rattle.proof_claims.proofs.Lists.{among, in_flat}
use Rattle.proof_claims.proofs.Outcomes.{each_held}
use Rattle.proof_claims.proofs.ReplacedBy.{replaced_by_later}
use Rattle.proof_claims.proofs.SwapClaims.{SwapHolds, SwapsHold}
use Rattle.proof_claims.proofs.SwapFacts.{others_step, own_step}
use Rattle.proof_claims.proofs.SwapKept.{swap_kept}

-- ---- a step

module _ (limits : Bounds) (ok : AreBounds limits) (xs : List Step) (s : Step) (o : Outcome) (m : Moves (run limits xs) s o (run limits (xs ++ s ∷ [])))
    (taken : next (run limits xs) s ≡ Ok (o, run limits (xs ++ s ∷ []))) (fits : ClaimsFit (run limits xs) (held_of limits xs)) (each : EachHeld limits xs)
    (holds : SwapsHold (run limits xs) (held_of limits xs) (IsReplacedBy limits xs)) where
  abbrev state : State
  state = run limits xs

  abbrev after : State
  after = run limits (xs ++ s ∷ [])

  abbrev held : Held
  held = held_of limits xs

  abbrev later : Held
  later = held_after (change_of state held s) held

  abbrev Replaced : Ref → Ref → Ref → Type 0
  Replaced i n f = IsReplacedBy limits (xs ++ s ∷ []) i n f

  -- ---- a fresh node that is made now

  module _ (k : ℕ) (was found : Operation) (is_step : s ≡ step.Go (suc k)) (runs : operation_of state (suc k) ≡ Some was) (runs_now : operation_of after (suc k) ≡ Some found) (why : Purpose)
      (w : Swap)
      (on : found.line ≡ line.Swap why w) (goal : goal_of was.line ≡ Some (w.indirection, w.replaced)) (drawn : next_ref state.heap ≡ Some w.fresh) (at_first : w.line ≡ swap.Publish) where
    its_node : (n : Node) × (line_action state was was.line ≡ act.Make n)
    its_node = goal_makes state was was.line (w.indirection, w.replaced) goal

    makes_it : Acting state s (act.Make its_node.0)
    makes_it = record { actor = suc k; operation = was; is_step = is_step; runs = runs; acts = its_node.1 }

    used_goal : IsInUse state.heap w.replaced
    used_goal = goal_in_use limits ok xs (suc k) was runs (w.indirection, w.replaced) goal

    node_goal : node_at after.heap w.replaced ≡ node_at state.heap w.replaced
    node_goal =
        let then = acted.still limits ok xs s o after m refl w.replaced (acted.used_made limits ok xs s o after m refl w.replaced used_goal)
        (used_m limits ok (xs ++ s ∷ []) k found runs_now why w on) in
        then.node (sym then.link ∙ plain_m limits ok (xs ++ s ∷ []) k found runs_now why w on)

    change_is : change_of state held s ≡ makes state held was (refs_of_node its_node.0) (Some w.fresh)
    change_is =
        ap (change_of state held) is_step ∙ ap (change_going state held) runs ∙ ap (change_by state held was) its_node.1 ∙ ap (makes state held was (refs_of_node its_node.0)) drawn

    -- what it is to take over is its indirection's own main node's
    raised : (r : Ref) → (is_owned later w.indirection w.replaced ≡ true → Contains (refs_of_node (node_at after.heap w.replaced)) r → ⊥) → is_in (over_at state held (goal_of was.line)) r ≡ false
    raised r apart = ap (λ g. is_in (over_at state held g) r) goal ∙ by (is_owned held w.indirection w.replaced) refl
      where
        named : (b : Bool) → is_in (refs_of_node (node_at state.heap w.replaced)) r ≡ b → is_owned held w.indirection w.replaced ≡ true → b ≡ false
        named true e own = absurd (apart (own_still (change_of state held s) held w.indirection w.replaced own) (subst (λ n. Contains (refs_of_node n) r) (sym node_goal) (among _ r e)))
        named false e own = refl

        by : (b : Bool) → is_owned held w.indirection w.replaced ≡ b → is_in (cond b (refs_of_node (node_at state.heap w.replaced)) []) r ≡ false
        by true own = named (is_in (refs_of_node (node_at state.heap w.replaced)) r) refl own
        by false own = refl

    new_itself : (r : Ref) → Contains (refs_of_node (node_at after.heap w.fresh)) r →
        (is_owned later w.indirection w.replaced ≡ true → Contains (refs_of_node (node_at after.heap w.replaced)) r → ⊥) → Has later (OfNode w.fresh) r
    new_itself r names apart =
        subst (λ (c : Change). Has (held_after c held) (OfNode w.fresh) r) (sym change_is)
        (comes (makes state held was (refs_of_node its_node.0) (Some w.fresh)) held (OfNode w.fresh) r
        (in_flat (claim_of_node (over_at state held (goal_of was.line)) w.fresh) (refs_of_node its_node.0) r (record { by = OfNode w.fresh; on = r })
        (subst (λ n. Contains (refs_of_node n) r) (acted.made_node limits ok xs s o after m refl its_node.0 (act.Make its_node.0) makes_it a_node w.fresh drawn) names)
        (rw (raised r apart) (0, omega arith, refl))))

    new_swap : SwapHolds after later Replaced w
    new_swap = record {
      itself = λ uncommitted r names apart. new_itself r names apart;
      link = λ past over. absurd (past at_first);
      before = λ past none. absurd (past at_first);
      rest = λ past none own r names free. absurd (past at_first);
      moved_on = λ past none own r has names. past at_first;
      replaced = λ past none. absurd (past at_first);
    }

  by_came : (k : ℕ) (found : Operation) (why : Purpose) (w : Swap) → operation_of after (suc k) ≡ Some found → found.line ≡ line.Swap why w → CameFrom state s k found →
      SwapHolds after later Replaced w
  by_came k found why w runs_now on (began call number is denial it) = absurd (no_first_swap call why w (ap (λ (q : Operation). q.line) (sym it) ∙ on))
  by_came k found why w runs_now on (gave was answer is at_k may it) = let bad : ⊥ = cc (ap (λ (q : Operation). q.line) (sym it) ∙ on) in absurd bad
  by_came k found why w runs_now on (rested was at_k it other) =
      let line_was : was.line ≡ line.Swap why w = ap (λ (q : Operation). q.line) (sym (it ∙ mark_only (marks_in state s) was)) ∙ on in
      swap_kept limits ok xs s o m taken fits each holds k was at_k why w w line_was (others_step other refl) found why runs_now on
  by_came k found why w runs_now on (went was is at_k g it) =
      by (swap_from state was why w was.line (ap (λ (q : Operation). q.line) (sym (it ∙ mark_only (marks_in state s) (operation_after state was))) ∙ on))
    where
      by : SwapFrom state was was.line w → SwapHolds after later Replaced w
      by (built goal drawn is_first) = new_swap k was found is at_k runs_now why w on goal drawn is_first
      by (went_on because before line_was goes) = swap_kept limits ok xs s o m taken fits each holds k was at_k because before w line_was (own_step is goes) found why runs_now on

  pub swaps_then : SwapsHold after later Replaced
  swaps_then k found why w runs_now on = by_came k found why w runs_now on (comes_from state s o after m k found runs_now)

-- ---- after every list of steps

module _ (limits : Bounds) (ok : AreBounds limits) where
  abbrev Hold : List Step → Type 0
  Hold xs = SwapsHold (run limits xs) (held_of limits xs) (IsReplacedBy limits xs)

  none_runs : (k : ℕ) (operation : Operation) → operation_of (run limits []) (suc k) ≡ Some operation → ⊥
  unfolding first_state run_from
  none_runs k operation e = none_found limits.actors k operation e

  -- a step that is denied changes nothing
  denied : (xs : List Step) (s : Step) → run limits (xs ++ s ∷ []) ≡ run limits xs → Hold xs → SwapsHold (run limits (xs ++ s ∷ [])) (held_of limits xs) (IsReplacedBy limits (xs ++ s ∷ []))
  denied xs s same h k operation why w runs on =
      let was = h k operation why w (ap (λ (z : State). operation_of z (suc k)) (sym same) ∙ runs) on in
      subst (λ (z : State). SwapHolds z (held_of limits xs) (IsReplacedBy limits (xs ++ s ∷ [])) w) (sym same) (record {
        itself = was.itself;
        link = was.link;
        before = was.before;
        rest = was.rest;
        moved_on = was.moved_on;
        replaced = λ past none. replaced_by_later limits xs (s ∷ []) w.indirection w.replaced w.fresh (was.replaced past none);
      })

  by_answer : (xs : List Step) (s : Step) → KeysFit xs → Hold xs → (a : Answer) → next (run limits xs) s ≡ a → MovesIfTaken (run limits xs) s a →
      SwapsHold (run limits (xs ++ s ∷ [])) (cond (is_taken_step a) (held_after (change_of (run limits xs) (held_of limits xs) s) (held_of limits xs)) (held_of limits xs))
      (IsReplacedBy limits (xs ++ s ∷ []))
  by_answer xs s keys h (Ok done) e mv =
      let is : done.1 ≡ run limits (xs ++ s ∷ []) = sym (run_push (first_state limits) xs s ∙ ap (state_after (run limits xs)) e) in
      swaps_then limits ok xs s done.0 (subst (λ (z : State). Moves (run limits xs) s done.0 z) is mv) (e ∙ ap (λ (z : State). Ok (done.0, z)) is) (claims_fit limits ok xs keys)
      (each_held limits ok xs) h
  by_answer xs s keys h (Err refusal) e mv = denied xs s (run_push (first_state limits) xs s ∙ ap (state_after (run limits xs)) e) h

  pub swaps_hold : (xs : List Step) → KeysFit xs → Hold xs
  swaps_hold xs keys =
      by_last (λ xs. KeysFit xs → Hold xs) (λ keys k operation why w runs on. absurd (none_runs k operation runs))
      (λ xs s h keys.
      let fit = keys_before xs (s ∷ []) keys in
      subst (λ held. SwapsHold (run limits (xs ++ s ∷ [])) held (IsReplacedBy limits (xs ++ s ∷ []))) (sym (held_push limits xs s))
      (by_answer xs s fit (h fit) (next (run limits xs) s) refl (moves (run limits xs) s))) xs keys
