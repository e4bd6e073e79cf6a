-- What was dropped and nobody follows any more one of the steps let go of.
use Rattle.std.proofs.Common.{◌≡◌, inl, inr, ℕ, suc, Bool, true, false, List, [], ◌∷◌, ◌++◌, refl, sym, ap, subst, ◌∙◌, append_assoc, arith}
use Rattle.proof_claims.specs.Beneath.slot_arena.specs.declared.nodes.Prev.TheVariants as prev
use Rattle.proof_claims.specs.Beneath.slot_arena.specs.declared.refs.Ref.{Ref}
use Rattle.proof_claims.specs.Beneath.slot_arena.specs.Heaps.{main_at, main_of, prev_at}
use Rattle.proof_claims.specs.Beneath.machine_model.specs.declared.reading.ReadLine.{ReadLine}
use Rattle.proof_claims.specs.Beneath.machine_model.specs.declared.reading.SwapLine.TheVariants as swap
use Rattle.proof_claims.specs.Beneath.machine_model.specs.declared.steps.Bounds.{Bounds}
use Rattle.proof_claims.specs.Beneath.machine_model.specs.declared.steps.Step.{Step}
use Rattle.proof_claims.specs.Beneath.machine_model.specs.declared.steps.Step.TheVariants as step
use Rattle.proof_claims.specs.Beneath.machine_model.specs.Machine.{AreBounds, run}
use Rattle.proof_claims.specs.Beneath.machine_model.specs.States.{State}
use Rattle.proof_claims.specs.Beneath.machine_model.specs.Times.{last_of, states_of}
use Rattle.proof_claims.specs.Beneath.machine_model.proofs.Grown.{node_standing, prev_grown}
use Rattle.proof_claims.specs.Beneath.machine_model.proofs.Times.{run_ends, run_is}
use Rattle.proof_claims.specs.Beneath.proof_commits.specs.Runs.{HasIndirection}
use Rattle.proof_claims.specs.Beneath.proof_commits.proofs.Course.AlongLists.{decided_for_good}
use Rattle.proof_claims.specs.Beneath.proof_commits.proofs.Course.Finals.{failed_final}
use Rattle.proof_claims.specs.Beneath.proof_commits.proofs.Words.Stood.{Stood, none≢pending, stands_now}
use Rattle.proof_claims.specs.Beneath.proof_garbage.proofs.Fresh.{node_word_of}
use Rattle.proof_claims.specs.Beneath.proof_garbage.proofs.Restoring.{last, w}
use Rattle.proof_claims.specs.Beneath.proof_memory.specs.Wants.{is_indirection}
use Rattle.proof_claims.specs.Beneath.proof_followed.specs.Followed.{IsFollowedByAny}
use Rattle.proof_claims.specs.Beneath.proof_generations.proofs.Falling.KnownRoots.{protocol_of}
use Rattle.proof_claims.specs.Beneath.proof_memory.specs.Laws.{IsInUse}
use Rattle.proof_claims.specs.Beneath.proof_reuse.proofs.InLists.{state_then, time_within}
use Rattle.proof_claims.specs.Held.{Change, is_owned}
use Rattle.proof_claims.specs.Changes.{change_of, checks}
use Rattle.proof_claims.specs.Claims.{held_of}
use Rattle.proof_claims.specs.Dropped.{CommitsOver, HasFailed, LetsGo, WasDropped, WasLetGo, failed, replaced, unmet, untaken}
use Rattle.proof_claims.proofs.Along.{own_on}
use Rattle.proof_claims.proofs.Checking.{checks_change, left_goes}
use Rattle.proof_claims.proofs.FromRoots.{main_in_use}
use Rattle.proof_claims.proofs.NamesHeld.{fresh_followed, fresh_used, replaced_followed}
use Rattle.proof_claims.proofs.PendingOwner.{owner_where}
use Rattle.proof_claims.proofs.SwapOn.{HasLooked, IsSwapping, decides_later, swap_at, swaps_on}
use Rattle.proof_claims.proofs.Unlinked.{over, used}

-- ---- prev words later

-- one that has failed stays so
failed_on : (limits : Bounds) → AreBounds limits → (before more : List Step) (f q : Ref) → IsInUse (run limits before).heap f → IsInUse (run limits (before ++ more)).heap f →
    prev_at (run limits before).heap f ≡ prev.Failed q → prev_at (run limits (before ++ more)).heap f ≡ prev.Failed q
failed_on limits ok before more f q used_then used_now e =
    let all = before ++ more in
    let t = last_of limits before in
    let u = last_of limits all in
    let p = protocol_of (run_is limits all ok) in
    let then = state_then limits all before more refl in
    let there : IsInUse (states_of limits all t).heap f = subst (λ (s : State). IsInUse s.heap f) (sym then) used_then in
    let now : IsInUse (states_of limits all u).heap f = subst (λ (s : State). IsInUse s.heap f) (sym (run_ends limits all)) used_now in
    let was = sym (prev_grown (states_of limits all) t f there.0 there.1) ∙ ap (λ (s : State). prev_at s.heap f) then ∙ e in
    ap (λ (s : State). prev_at s.heap f) (sym (run_ends limits all)) ∙ prev_grown (states_of limits all) u f now.0 now.1
    ∙ failed_final p f q t u (time_within limits all before more refl) (omega arith) was

-- so does one that a step has committed
none_on : (limits : Bounds) → AreBounds limits → (before : List Step) (s : Step) (more : List Step) (f m : Ref) → IsInUse (run limits before).heap f →
    IsInUse (run limits (before ++ s ∷ [])).heap f → IsInUse (run limits ((before ++ s ∷ []) ++ more)).heap f → prev_at (run limits before).heap f ≡ prev.Pending m →
    prev_at (run limits (before ++ s ∷ [])).heap f ≡ prev.None → prev_at (run limits ((before ++ s ∷ []) ++ more)).heap f ≡ prev.None
none_on limits ok before s more f m used_first used_then used_now pending none =
    let then = before ++ s ∷ [] in
    let all = then ++ more in
    let first_is = state_then limits all before (s ∷ more) (append_assoc before (s ∷ []) more) in
    let then_is = state_then limits all then more refl in
    let end_is = run_ends limits all in
    let prev_of = λ (x : State). prev_at x.heap f in
    ap prev_of (sym end_is)
    ∙ decided_for_good limits all ok (last_of limits before) (last_of limits then) (last_of limits all) (time_within limits then before (s ∷ []) refl) (time_within limits all then more refl)
    (omega arith) f m (subst (λ (x : State). IsInUse x.heap f) (sym first_is) used_first) (subst (λ (x : State). IsInUse x.heap f) (sym then_is) used_then)
    (subst (λ (x : State). IsInUse x.heap f) (sym end_is) used_now) (ap prev_of first_is ∙ pending) (λ e. none≢pending none (sym (ap prev_of then_is) ∙ e)) ∙ ap prev_of then_is ∙ none

-- ---- who decides what stands over another

module _ (limits : Bounds) (ok : AreBounds limits) (xs : List Step) (i m f : Ref) (has : HasIndirection (run limits xs) i) (stands : main_at (run limits xs).heap i ≡ f)
    (pending : prev_at (run limits xs).heap f ≡ prev.Pending m) where
  used_over : IsInUse (run limits xs).heap f
  used_over = subst (IsInUse (run limits xs).heap) stands (main_in_use limits xs ok i has.0 has.1)

  stood : Stood (w limits xs ok) (last limits xs ok) i f
  stood =
      let (slot, is) = has.0 in
      let node = node_word_of limits xs ok i slot is in
      let there = node_standing (run limits xs).heap i slot is in
      stands_now (ap is_indirection (node ∙ sym there) ∙ has.1) (ap main_of (node ∙ sym there) ∙ stands)

  -- its owner is in its SWAP
  decided_by : (actor : ℕ) × (line : ReadLine) × (swapping : IsSwapping (run limits xs) actor i m f) × (swapping.at ≡ swap.Deciding line)
  decided_by =
      let owner = owner_where limits ok xs i f m used_over pending stood in
      (suc owner.k, owner.reads, record { operation = owner.operation; runs = owner.runs; why = owner.why; at = swap.Deciding owner.reads; is_in = tt; on = owner.swaps }, refl)

-- ---- what was dropped

failing : (own : Bool) (i a f q : Ref) → LetsGo (checks own (prev.Failed q) (swap_at i a f swap.Check)) f
failing true i a f q = left_goes i f (checks true (prev.Failed q) (swap_at i a f swap.Check)) (λ c. refl)
failing false i a f q = left_goes i f (checks false (prev.Failed q) (swap_at i a f swap.Check)) (λ c. refl)

module _ (limits : Bounds) (ok : AreBounds limits) (steps : List Step) (j : Ref) (unfollowed : IsFollowedByAny (run limits steps) j → ⊥) where
  by_looks : (before since : List Step) → steps ≡ before ++ since → (actor : ℕ) (i a f : Ref) (h : HasLooked limits before since actor i a f) →
      LetsGo (change_of (run limits (before ++ h.middle)) (held_of limits (before ++ h.middle)) (step.Go actor)) j → WasLetGo limits steps j
  by_looks before since e actor i a f h lets = record {
    before = before ++ h.middle;
    s = step.Go actor;
    since = h.rest;
    goes_on = e ∙ ap (λ x. before ++ x) h.goes_on ∙ sym (append_assoc before (h.middle ++ step.Go actor ∷ []) h.rest)
        ∙ ap (λ x. x ++ h.rest) (sym (append_assoc before h.middle (step.Go actor ∷ [])));
    by = record { taken = h.looks.taken; lets = lets };
  }

  failed_goes : (before since : List Step) (actor : ℕ) (i m : Ref) → steps ≡ before ++ since → HasFailed (run limits before) actor i m j → WasLetGo limits steps j
  failed_goes before since actor i m e h =
      elim (swaps_on limits before actor i m j (record { operation = h.operation; runs = h.runs; why = h.why; at = swap.Check; is_in = tt; on = h.checks }) since) [
        | inl still ↦ absurd
            (unfollowed (subst (λ l. IsFollowedByAny (run limits l) j) (sym e)
            (fresh_followed (run limits (before ++ since)) actor still.operation still.why i m j still.at still.runs still.on)))
        | inr looked ↦
            let b = before ++ looked.middle in
            let l = looked.looks in
            let (q, was) = over limits ok before actor i m j h in
            let now = failed_on limits ok before looked.middle j q (used limits ok before actor i m j h) (fresh_used limits ok b actor l.operation l.why i m j swap.Check l.runs l.on) was in
            by_looks before since e actor i m j looked
            (subst (λ (c : Change). LetsGo c j)
            (sym (checks_change (run limits b) (held_of limits b) actor l.operation l.why i m j l.runs l.on
            ∙ ap (λ v. checks (is_owned (held_of limits b) i m) v (swap_at i m j swap.Check)) now)) (failing (is_owned (held_of limits b) i m) i m j q))
      ]

  replaced_goes : (before : List Step) (s : Step) (since : List Step) (i : Ref) → steps ≡ (before ++ s ∷ []) ++ since → CommitsOver limits before s i j →
      is_owned (held_of limits (before ++ s ∷ [])) i j ≡ true → WasLetGo limits steps j
  replaced_goes before s since i e c own =
      let (actor, reads, first, deciding) = decided_by limits ok before i j c.fresh c.has c.stood c.pending in
      let then = before ++ s ∷ [] in
      let next = decides_later limits before actor i j c.fresh first reads deciding s in
      elim (swaps_on limits then actor i j c.fresh next since) [
        | inl still ↦ absurd
            (unfollowed (subst (λ l. IsFollowedByAny (run limits l) j) (sym e)
            (replaced_followed (run limits (then ++ since)) actor still.operation still.why i j c.fresh still.at still.runs still.on)))
        | inr looked ↦
            let b = then ++ looked.middle in
            let l = looked.looks in
            let none = none_on limits ok before s looked.middle c.fresh j (used_over limits ok before i j c.fresh c.has c.stood c.pending)
            (fresh_used limits ok then actor next.operation next.why i j c.fresh next.at next.runs next.on)
            (fresh_used limits ok b actor l.operation l.why i j c.fresh swap.Check l.runs l.on) c.pending c.committed in
            by_looks then since e actor i j c.fresh looked
            (subst (λ (x : Change). LetsGo x j)
            (sym (checks_change (run limits b) (held_of limits b) actor l.operation l.why i j c.fresh l.runs l.on
            ∙ ap (λ o. checks o (prev_at (run limits b).heap c.fresh) (swap_at i j c.fresh swap.Check)) (own_on limits then looked.middle i j own)
            ∙ ap (λ v. checks true v (swap_at i j c.fresh swap.Check)) none)) (left_goes i j (checks true prev.None (swap_at i j c.fresh swap.Check)) (λ x. refl)))
      ]

  -- one of the steps let go of it
  pub was_let_go : WasDropped limits steps j → WasLetGo limits steps j
  was_let_go (replaced before s since i e (inl commits) r own) = replaced_goes before s since i e commits own
  was_let_go (replaced before s since i e (inr lets) r own) = record { before = before; s = s; since = since; goes_on = e; by = lets }
  was_let_go (failed before since actor i m e h) = failed_goes before since actor i m e h
  was_let_go (unmet before s since e lets u dead) = record { before = before; s = s; since = since; goes_on = e; by = lets }
  was_let_go (untaken before s since e lets link g nobody) = record { before = before; s = s; since = since; goes_on = e; by = lets }
