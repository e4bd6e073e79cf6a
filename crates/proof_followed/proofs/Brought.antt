-- What a running operation is to bring it follows, and it brought it before the step or made it in that.
use Rattle.std.proofs.Common.{◌≡◌, ℕ, suc, ◌<◌, Bool, true, false, List, ◌∷◌, [], ◌++◌, Contains, get_or, Some, None, Ok, refl, sym, ap, ◌∙◌, subst, arith, ◌⊎◌, inl, inr}
use Rattle.std.proofs.lemmas.Bool.{false≢true}
use Rattle.std.proofs.lemmas.Option.{none-some, same_Some}
use Rattle.proof_followed.specs.Beneath.slot_arena.specs.declared.refs.Ref.{Ref}
use Rattle.proof_followed.specs.Beneath.slot_arena.specs.Heaps.{Heap, main_at, main_of, next_ref}
use Rattle.proof_followed.specs.Beneath.machine_model.specs.declared.copying.CopyLine.{CopyLine}
use Rattle.proof_followed.specs.Beneath.machine_model.specs.declared.copying.CopyLine.TheVariants as copy
use Rattle.proof_followed.specs.Beneath.machine_model.specs.declared.lines.Line.{Line}
use Rattle.proof_followed.specs.Beneath.machine_model.specs.declared.lines.Line.TheVariants as line
use Rattle.proof_followed.specs.Beneath.machine_model.specs.declared.operations.Operation.{Operation}
use Rattle.proof_followed.specs.Beneath.machine_model.specs.declared.reading.ReadLine.{ReadLine}
use Rattle.proof_followed.specs.Beneath.machine_model.specs.declared.roots.CompleteLine.{CompleteLine}
use Rattle.proof_followed.specs.Beneath.machine_model.specs.declared.roots.CompleteLine.TheVariants as complete
use Rattle.proof_followed.specs.Beneath.machine_model.specs.declared.roots.Descriptor.{Descriptor}
use Rattle.proof_followed.specs.Beneath.machine_model.specs.declared.roots.RootLine.{RootLine}
use Rattle.proof_followed.specs.Beneath.machine_model.specs.declared.roots.RootLine.TheVariants as root
use Rattle.proof_followed.specs.Beneath.machine_model.specs.declared.steps.Bounds.{Bounds}
use Rattle.proof_followed.specs.Beneath.machine_model.specs.declared.steps.Outcome.{Outcome}
use Rattle.proof_followed.specs.Beneath.machine_model.specs.declared.steps.Step.{Step}
use Rattle.proof_followed.specs.Beneath.machine_model.specs.declared.steps.Step.TheVariants as step
use Rattle.proof_followed.specs.Beneath.machine_model.specs.Copying.{copy_action}
use Rattle.proof_followed.specs.Beneath.machine_model.specs.Machine.{AreBounds, next, run}
use Rattle.proof_followed.specs.Beneath.machine_model.specs.Moves.{Moves}
use Rattle.proof_followed.specs.Beneath.machine_model.specs.Operations.{action_of, line_action, line_after}
use Rattle.proof_followed.specs.Beneath.machine_model.specs.Reading.{read_action}
use Rattle.proof_followed.specs.Beneath.machine_model.specs.Records.{record_of}
use Rattle.proof_followed.specs.Beneath.machine_model.specs.States.{State}
use Rattle.proof_followed.specs.Beneath.machine_model.specs.Swapping.{complete_action_at, root_action}
use Rattle.proof_followed.specs.Beneath.machine_model.specs.Times.{last_of, states_of}
use Rattle.proof_followed.specs.Beneath.machine_model.proofs.Times.{run_is}
use Rattle.proof_followed.specs.Beneath.proof_memory.specs.Wants.{AllHold, offer_wants}
use Rattle.proof_followed.specs.Beneath.proof_memory.proofs.Claims.Uses.{safe_of}
use Rattle.proof_followed.specs.Beneath.proof_memory.proofs.Safety.AtEachTime.{safe_along}
use Rattle.proof_followed.specs.Beneath.proof_memory.proofs.Safety.AtTimes.{node_found}
use Rattle.proof_followed.specs.Beneath.proof_memory.proofs.Safety.States.{IsSafe}
use Rattle.proof_followed.specs.Beneath.proof_commits.proofs.Words.Stood.{stands_now}
use Rattle.proof_followed.specs.Beneath.proof_generations.specs.Running.{Runs}
use Rattle.proof_followed.specs.Beneath.proof_generations.proofs.Falling.Counted.{fresh_used}
use Rattle.proof_followed.specs.Beneath.proof_generations.proofs.Falling.FreshRoots.{fresh_stands}
use Rattle.proof_followed.specs.Beneath.proof_generations.proofs.Handles.Operations.{Ran, ran_or_began}
use Rattle.proof_followed.specs.Beneath.proof_generations.proofs.Handles.Running.{comes}
use Rattle.proof_followed.specs.Beneath.proof_generations.proofs.Lines.Copy.{is_copy, no_copy_after}
use Rattle.proof_followed.specs.Beneath.proof_generations.proofs.Roots.Along.{IsOrdered, ordered_along}
use Rattle.proof_followed.specs.Beneath.proof_generations.proofs.Roots.Kept.{fresh_in, fresh_of}
use Rattle.proof_garbage.proofs.Kept.{IsSwapIn}
use Rattle.proof_order.proofs.Openings.Branches.{IsCleared}
use Rattle.proof_order.proofs.Openings.Copy.{copied, copied_kept, copied_made, MakesOver, over_found, over_branch, makes_over, fresh_copies}
use Rattle.proof_order.proofs.Openings.Fresh.{FreshBehind, stays, made, fresh_behind}
use Rattle.proof_followed.specs.Followed.{IsFollowed, from_slot, followed_wants}
use Rattle.proof_followed.proofs.Bringing.{main_stands}
use Rattle.proof_followed.proofs.Cleared.{cleared_made, first_uncleared}
use Rattle.proof_followed.proofs.FreshRoots.{stood_before, stand_at}
use Rattle.proof_followed.proofs.InUse.{line_followed}
use Rattle.proof_followed.proofs.LastStep.{last_is, before_is, after_is}
use Rattle.proof_followed.proofs.Stays.{own_wants, second_of}

-- a root that it made for its offer, the main node of such a root but for the expected one, or the branch over which it is to make one
abbrev pub IsBrought : State → Operation → Ref → Type 0
IsBrought state operation y =
    ((x : Bool) × (fresh_in x operation.line ≡ Some y))
    ⊎ (((x : Bool) × (q : Ref) × (fresh_in x operation.line ≡ Some q) × (main_at state.heap q ≡ y) × (y ≡ (copied operation.line).1 → ⊥)) ⊎ IsCleared operation.line y)

-- ---- a copy swaps nothing in

read_none : (i : Ref) (l : ReadLine) → IsSwapIn (read_action i l) → ⊥
read_none i l s = grind arith

complete_none : (offer : Descriptor) (l : CompleteLine) → IsSwapIn (complete_action_at offer l) → ⊥
complete_none offer (complete.Reading l) s = read_none offer.root l s
complete_none offer (complete.Swap main) s = s

copy_none : (l : CopyLine) → IsSwapIn (copy_action l) → ⊥
copy_none (copy.Read at r) s = read_none r.indirection r.line s
copy_none (copy.Complete c) s = complete_none c.offer c.line s
copy_none (copy.Successor at main) s = s
copy_none (copy.Second at main successor) s = s
copy_none (copy.Empty at main) s = s
copy_none (copy.Cleared at main branch) s = s
copy_none (copy.Offer offer) s = s

root_none : (l : RootLine) → IsSwapIn (root_action l) → ⊥
root_none root.Read s = s
root_none (root.Completing c) s = complete_none c.offer c.line s

-- nor does what leads to a copy
leads_none : (state : State) (operation : Operation) (l : Line) → is_copy (line_after state operation l) ≡ true → IsSwapIn (line_action state operation l) → ⊥
leads_none state operation (line.Copy l) c s = copy_none l s
leads_none state operation (line.Root l) c s = root_none l s
leads_none state operation l c s = false≢true (sym (no_copy_after state operation l refl refl) ∙ c)

cleared_copies : (l : Line) (b : Ref) → IsCleared l b → is_copy l ≡ true
cleared_copies (line.Copy l) b is = refl
cleared_copies l b is = absurd is

line_none : (state : State) (operation : Operation) (l : Line) → is_copy l ≡ true → IsSwapIn (line_action state operation l) → ⊥
line_none state operation (line.Copy l) c s = copy_none l s
line_none state operation l c s = false≢true c

fresh_is_copy : (x : Bool) (l : Line) (q : Ref) → fresh_in x l ≡ Some q → is_copy l ≡ true
fresh_is_copy x l q e = let (c, at) = fresh_copies l x q e in ap is_copy at

pub brought_none : (state : State) (operation : Operation) (y : Ref) → IsBrought state operation y → IsSwapIn (action_of state operation) → ⊥
brought_none state operation y (inl (x, e)) s = line_none state operation operation.line (fresh_is_copy x operation.line y e) s
brought_none state operation y (inr (inl (x, q, e, m, other))) s = line_none state operation operation.line (fresh_is_copy x operation.line q e) s
brought_none state operation y (inr (inr is)) s = line_none state operation operation.line (cleared_copies operation.line y is) s

-- ---- who is to bring it follows it

offer_follows : (S : Ref → Type 0) (heap : Heap) (offer : Descriptor) → AllHold S heap (offer_wants offer) → (x : Bool) (q : Ref) → fresh_of x offer ≡ Some q → S q
offer_follows S heap offer h true q e = subst S (same_Some _ _ e) (safe_of h.1.1.0)
offer_follows S heap offer h false q e = second_of S heap offer.second h.1.1.1.0 q e

module _ (S : Ref → Type 0) (state : State) (operation : Operation) where
  fresh_follows : (l : Line) → AllHold S state.heap (followed_wants state.limits.hash operation.call operation.access l) → (x : Bool) (q : Ref) → fresh_in x l ≡ Some q → S q
  fresh_follows (line.Copy (copy.Second at main successor)) h true q e = subst S (same_Some _ _ e) (safe_of h.1.1.0)
  fresh_follows (line.Copy (copy.Second at main successor)) h false q e = absurd (none-some q e)
  fresh_follows (line.Copy (copy.Offer offer)) h x q e = offer_follows S state.heap offer h x q e
  fresh_follows (line.Copy (copy.Complete c)) h x q e =
      offer_follows S state.heap c.offer (own_wants S state.heap state.limits.hash operation.call operation.access c.offer c.line h) x q e
  fresh_follows l h x q e = absurd (none-some q e)

  branch_follows : (l : Line) → AllHold S state.heap (followed_wants state.limits.hash operation.call operation.access l) → (b : Ref) → IsCleared l b → S b
  branch_follows (line.Copy (copy.Cleared at main branch)) h b is = subst S is (safe_of h.1.1.0)
  branch_follows l h b is = absurd is

module _ (limits : Bounds) (ok : AreBounds limits) (steps : List Step) where
  abbrev state : State
  state = run limits steps

  abbrev I : IsSafe state
  I = safe_along limits ok steps

  pub brought_followed : (P : ℕ → Type 0) (k : ℕ) (operation : Operation) → Runs (run limits steps) k operation → operation.is_marked ≡ false → P operation.id → (y : Ref) →
      IsBrought (run limits steps) operation y → IsFollowed (run limits steps) P y
  brought_followed P k operation runs unmarked p y b = by b
    where
      by : IsBrought state operation y → IsFollowed state P y
      by (inl (x, e)) = fresh_follows (IsFollowed state P) state operation operation.line (line_followed state I P (suc k) operation runs p) x y e
      by (inr (inl (x, q, e, main, other))) =
          from_slot q y (fresh_follows (IsFollowed state P) state operation operation.line (line_followed state I P (suc k) operation runs p) x q e)
          (subst (Contains _) main (main_stands limits ok steps k operation x q runs unmarked e))
      by (inr (inr is)) = branch_follows (IsFollowed state P) state operation operation.line (line_followed state I P (suc k) operation runs p) y is

  -- ---- where it comes from in a step

  module _ (s : Step) (o : Outcome) (after : State) (m : Moves (run limits steps) s o after) (taken : next (run limits steps) s ≡ Ok (o, after)) where
    pub data BroughtFrom (k : ℕ) (found : Operation) (y : Ref) : Type 0 where
      brought_then : (ran : Ran (run limits steps) s k found) → IsBrought (run limits steps) ran.was y → BroughtFrom k found y
      is_made : (ran : Ran (run limits steps) s k found) → s ≡ step.Go (suc k) → next_ref (run limits steps).heap ≡ Some y → (IsSwapIn (action_of (run limits steps) ran.was) → ⊥) →
          BroughtFrom k found y

    abbrev past : IsOrdered (run limits steps) (record_of limits steps)
    past = ordered_along limits ok steps

    -- a root that stays fresh keeps its main node
    main_kept : (k : ℕ) (was found : Operation) (x : Bool) (q : Ref) → Runs (run limits steps) k was → was.is_marked ≡ false → fresh_in x was.line ≡ Some q → Runs after k found →
        fresh_in x found.line ≡ Some q → main_at (run limits steps).heap q ≡ main_at after.heap q
    main_kept k was found x q runs unmarked f now e =
        let all = steps ++ s ∷ [] in
        let states = states_of limits all in
        let t = last_of limits steps in
        let whole = run_is limits all ok in
        let lt = within in
        let then = ap (λ (a : State). get_or a.actors k None) (before_is limits ok steps s o after taken) ∙ runs in
        let later = ap (λ (a : State). get_or a.actors k None) (after_is limits ok steps s o after taken) ∙ now in
        let main_then = ap main_of (node_found states t q (fresh_used whole t (omega (arith, lt)) k was x q then f)) in
        let main_later = ap main_of (node_found states (suc t) q (fresh_used whole (suc t) lt k found x q later e)) in
        let stood = stood_before whole t lt k was x q then unmarked f _ (stands_now (fresh_stands whole (suc t) lt k found x q later e) refl) in
        sym (ap (λ (a : State). main_at a.heap q) (before_is limits ok steps s o after taken))
        ∙ main_then ∙ stand_at whole t (omega (arith, lt)) k was x q then unmarked f _ stood ∙ sym main_later ∙ ap (λ (a : State). main_at a.heap q) (after_is limits ok steps s o after taken)
      where
        within : last_of limits steps < last_of limits (steps ++ s ∷ [])
        within = omega (arith, last_is limits ok steps s o after taken)

    module _ (k : ℕ) (found : Operation) (now : Runs after k found) (unmarked : found.is_marked ≡ false) (y : Ref) where
      abbrev Behind : Bool → Ref → Type 0
      Behind x q = FreshBehind (run limits steps) (record_of limits steps) (safe_along limits ok steps) (ordered_along limits ok steps) s o after m k found x q

      behind : (x : Bool) (q : Ref) → fresh_in x found.line ≡ Some q → Behind x q
      behind x q e = fresh_behind state (record_of limits steps) I past s o after m k found now x q e

      root_from : (x : Bool) → Behind x y → BroughtFrom k found y
      root_from x (stays ran f kept) = brought_then ran (inl (x, f))
      root_from x (made ran main go does n side goes used node) = is_made ran go n (λ swap. subst IsSwapIn does swap)

      main_from : (x : Bool) (q : Ref) → fresh_in x found.line ≡ Some q → main_at after.heap q ≡ y → (y ≡ (copied found.line).1 → ⊥) → Behind x q → BroughtFrom k found y
      main_from x q e is other (stays ran f kept) =
          let same : copied found.line ≡ copied ran.was.line = elim ran.line [
            | inl stood ↦ ap copied stood
            | inr (inl goes) ↦ ap copied goes.1 ∙ copied_kept state ran.was ran.was.line x x q q f (ap (fresh_in x) (sym goes.1) ∙ e)
            | inr (inr ended) ↦ absurd (none-some q (sym (ap (fresh_in x) ended.1) ∙ e))
          ] in
          brought_then ran
          (inr (inl (x, q, f, main_kept k ran.was found x q ran.at_k (ran.unmarked unmarked) f now e ∙ is, λ expected. other (expected ∙ sym (ap (λ p. p.1) same)))))
      main_from x q e is other (made ran main go does n side goes used node) =
          let same : copied found.line ≡ copied ran.was.line = ap copied goes ∙ copied_made state ran.was ran.was.line main q does n in
          by same (sym (ap main_of node) ∙ is) (makes_over state ran.was ran.was.line main (past.offers.own k ran.was ran.at_k) does)
        where
          by : copied found.line ≡ copied ran.was.line → main ≡ y → MakesOver state ran.was ran.was.line main → BroughtFrom k found y
          by same its (over_found at clear (inl on)) = absurd (other (sym its ∙ sym (ap (λ l. (copied l).1) on) ∙ sym (ap (λ p. p.1) same)))
          by same its (over_found at clear (inr (successor, on))) = absurd (other (sym its ∙ sym (ap (λ l. (copied l).1) on) ∙ sym (ap (λ p. p.1) same)))
          by same its (over_branch at before clear on) = brought_then ran (inr (inr (subst (λ l. IsCleared l y) (sym on) its)))

      branch_from : IsCleared found.line y → BroughtFrom k found y
      branch_from is = elim (ran_or_began state past.offers past.handles s k found (comes state s o after m k found now)) [
        | inl ran ↦ elim ran.line [
          | inl same ↦ brought_then ran (inr (inr (subst (λ l. IsCleared l y) same is)))
          | inr (inl goes) ↦
              is_made ran goes.0 (cleared_made state ran.was y ran.was.line (subst (λ l. IsCleared l y) goes.1 is))
              (leads_none state ran.was ran.was.line (ap is_copy (sym goes.1) ∙ cleared_copies found.line y is))
          | inr (inr ended) ↦ absurd (subst (λ l. IsCleared l y) ended.1 is)
        ]
        | inr (call, number, begins, d, it) ↦ absurd (first_uncleared call y (subst (λ (x : Operation). IsCleared x.line y) it is))
      ]

      pub brought_from : IsBrought after found y → BroughtFrom k found y
      brought_from (inl (x, e)) = root_from x (behind x y e)
      brought_from (inr (inl (x, q, e, is, other))) = main_from x q e is other (behind x q e)
      brought_from (inr (inr is)) = branch_from is
