-- Behind the SWAP of its own change of its key an operation has its place.
use Rattle.std.proofs.Common.{◌≡◌, ℕ, suc, ◌<◌, ◌==◌, Bool, true, false, List, Option, refl, sym, ap, subst, ◌∙◌, arith}
use Rattle.proof_updates.specs.Vocabulary.{Reply, Ref, Prev, node_at, main_at, prev_at, prev_of, WalkLine, Purpose, Line, Operation, After, Gives, ReadLine, Swap, SwapLine, Bounds, Outcome, Step}
use Rattle.proof_updates.specs.Vocabulary.{handle_of, State, word_at, read_after, swap_after, after_publish, after_deciding, after_check, on_line, action_of, line_action, Moves, IsRun, grown}
use Rattle.proof_updates.specs.Vocabulary.{prev_word, is_placed, Protocol, stage_of, stage_of_actor, IsPublished, Notes}
use Rattle.proof_updates.specs.Beneath.slot_arena.specs.declared.nodes.Prev.TheVariants as prev
use Rattle.proof_updates.specs.Beneath.machine_model.specs.declared.actions.Action.TheVariants as act
use Rattle.proof_updates.specs.Beneath.machine_model.specs.declared.lines.Purpose.TheVariants as purpose
use Rattle.proof_updates.specs.Beneath.machine_model.specs.declared.lines.Line.TheVariants as line
use Rattle.proof_updates.specs.Beneath.machine_model.specs.declared.reading.After.TheVariants.{Goes}
use Rattle.proof_updates.specs.Beneath.machine_model.specs.declared.reading.SwapLine.TheVariants as swap
use Rattle.proof_updates.specs.Beneath.machine_model.specs.declared.steps.Step.TheVariants as step
use Rattle.proof_updates.specs.Beneath.machine_model.specs.Swapping.{after_swap as swap_on}
use Rattle.proof_updates.specs.Beneath.machine_model.specs.Operations.{after_swap}
use Rattle.proof_updates.specs.Beneath.proof_commits.proofs.Words.Stood.{none≢pending}
use Rattle.proof_updates.specs.Beneath.proof_commits.proofs.Words.Effects.{GoesOn, StaysPending, GetsCommitted, GetsFailed, goes_on}
use Rattle.proof_updates.specs.Beneath.proof_commits.proofs.Course.Swaps.{checked}
use Rattle.proof_updates.specs.Beneath.proof_commits.proofs.Known.Sounds.{sound_at}
use Rattle.proof_updates.specs.Beneath.proof_commits.proofs.Course.Finals.{effect, failed_final}
use Rattle.proof_updates.specs.Beneath.proof_commits.proofs.Known.Given.{ActsOn, Either, GrownSwaps, GrownStays}
use Rattle.proof_updates.specs.Beneath.proof_commits.proofs.Known.Acts.{acts_at}
use Rattle.proof_updates.specs.Beneath.proof_commits.proofs.Words.Along.{protocol}
use Rattle.proof_updates.specs.Beneath.proof_commits.proofs.Words.OfRuns.{slot_prev}
use Rattle.proof_order.specs.Facts.{Runs}
use Rattle.proof_order.proofs.Phases.Published.{seen}
use Rattle.proof_updates.proofs.Placed.Behind.{Behind, climbing_behind, update_climbs, climbed_climbs}
use Rattle.proof_updates.proofs.Tries.EachOperation.{OwnStep, own_notes}
use Rattle.proof_updates.proofs.Placed.Own.{commit_places}
use Rattle.proof_updates.specs.Beneath.proof_commits.proofs.Known.Acts.{known_run}
use Rattle.proof_updates.specs.Beneath.machine_model.proofs.Basics.{none≢failed}
use Rattle.proof_updates.proofs.Placed.Placing.{still}

module _ {limits : Bounds} {states : ℕ → State} {last : ℕ} (run : IsRun limits states last) where
  abbrev p : Protocol
  p = protocol limits states last (known_run run)

  module _ (t k : ℕ) (lt : t < last) (operation : Operation) (runs : Runs (states t) k operation) (s : Step) (o : Outcome)
      (m : Moves (states t) s o (states (suc t))) (notes : Notes states run.records t s) (path : List Ref) (former : Option ℕ)
      (x : Swap) (at : operation.line ≡ line.Swap (purpose.Update path former) x)
      (before : IsPublished x.line → prev_word states t x.fresh ≡ prev.None → is_placed (run.records t) operation.id ≡ true) where
    -- a node that is committed now
    deciding_next : (l : ReadLine) → x.line ≡ swap.Deciding l → (q : Ref) → prev_word states t x.fresh ≡ prev.Pending q → prev_word states (suc t) x.fresh ≡ prev.None →
        is_placed (run.records (suc t)) operation.id ≡ true
    deciding_next l e q pending none = by_fate (goes_on p.words t (effect p t lt) x.fresh q pending)
      where
        by_fate : GoesOn p.words t x.fresh q → is_placed (run.records (suc t)) operation.id ≡ true
        by_fate (StaysPending still) = absurd (none≢pending none still)
        by_fate (GetsCommitted commit) =
            commit_places run t k lt s o m notes operation runs path former x.indirection x.replaced x.fresh l
            (at ∙ ap (λ y. line.Swap (purpose.Update path former) (record { indirection = x.indirection; replaced = x.replaced; fresh = x.fresh; line = y })) e) q commit
        by_fate (GetsFailed fails) = absurd (none≢failed none fails.prev.here)

    pub none_next : IsPublished x.line → prev_word states (suc t) x.fresh ≡ prev.None → is_placed (run.records (suc t)) operation.id ≡ true
    none_next published none = by_word (prev_word states t x.fresh) refl
      where
        by_line : (q : Ref) → prev_word states t x.fresh ≡ prev.Pending q → (l : SwapLine) → x.line ≡ l → IsPublished l → is_placed (run.records (suc t)) operation.id ≡ true
        by_line q pending swap.Publish e h = absurd h
        by_line q pending (swap.Deciding l) e h = deciding_next l e q pending none
        by_line q pending swap.Check e h =
            absurd (checked p.words t (suc k) (sound_at p t (omega arith)) x.indirection x.replaced x.fresh
            (ap stage_of_actor runs ∙ ap stage_of at
            ∙ ap (λ y. stage_of (line.Swap (purpose.Update path former) (record { indirection = x.indirection; replaced = x.replaced; fresh = x.fresh; line = y }))) e) q pending)

        by_word : (v : Prev) → prev_word states t x.fresh ≡ v → is_placed (run.records (suc t)) operation.id ≡ true
        by_word prev.None e = still run t s o m notes operation.id (before published e)
        by_word (prev.Pending q) e = by_line q e x.line refl published
        by_word (prev.Failed q) e = absurd (none≢failed none (failed_final p x.fresh q t (suc t) (omega arith) lt e))

  -- ---- its own steps

  module _ (t k : ℕ) (lt : t < last) (operation : Operation) (own : OwnStep states run.records t k operation) (Right : Reply → Type 0) (Walks : WalkLine → Type 0) where
    abbrev On : Line → Type 0
    On l = Behind states run.records (suc t) operation.id Right Walks l

    abbrev after : Swap → After Swap Bool
    after x = swap_after (states t).heap operation.access (word_at (states t) (handle_of operation.call)) x

    -- of a change of its key
    module _ (path : List Ref) (former : Option ℕ) (x : Swap) (at : operation.line ≡ line.Swap (purpose.Update path former) x)
        (before : IsPublished x.line → prev_word states t x.fresh ≡ prev.None → is_placed (run.records t) operation.id ≡ true) where
      next : IsPublished x.line → prev_word states (suc t) x.fresh ≡ prev.None → is_placed (run.records (suc t)) operation.id ≡ true
      next published none = none_next t k lt operation own.runs (step.Go (suc k)) own.outcome own.moves (own_notes states run.records t k operation own) path former x at before published none

      -- swapped in, the node is pending
      publishes : x.line ≡ swap.Publish → (main_at (states t).heap x.indirection == x.replaced) ≡ true → prev_word states (suc t) x.fresh ≡ prev.Pending x.replaced
      publishes e there =
          let does : action_of (states t) operation ≡ act.Publish x.indirection x.replaced x.fresh =
          ap (line_action (states t) operation) at
          ∙ ap (λ y. line_action (states t) operation (line.Swap (purpose.Update path former) (record { indirection = x.indirection; replaced = x.replaced; fresh = x.fresh; line = y }))) e in
          let acts : ActsOn states t (act.Publish x.indirection x.replaced x.fresh) =
          subst (ActsOn states t) does (acts_at run t lt (suc k) own.outcome own.moves operation own.runs) in
          let written : GrownSwaps states t x.indirection x.replaced x.fresh =
          subst (λ b. Either b (GrownSwaps states t x.indirection x.replaced x.fresh) (GrownStays states t)) there acts.2 in
          ap prev_of written.prev ∙ slot_prev (prev.Pending x.replaced) (grown states t x.fresh) acts.1.made

      published_on : x.line ≡ swap.Publish → (b : Bool) → (main_at (states t).heap x.indirection == x.replaced) ≡ b →
          On (after_swap (states t) operation (purpose.Update path former) x (on_line x (after_publish x.fresh b)))
      published_on e true there = λ published none. absurd (none≢pending none (publishes e there))
      published_on e false there = tt

      decided_on : (l : ReadLine) → x.line ≡ swap.Deciding l → (out : After ReadLine Ref) → On (after_swap (states t) operation (purpose.Update path former) x (on_line x (after_deciding out)))
      decided_on l e (Goes r) = λ published none. next (subst IsPublished (sym e) tt) none
      decided_on l e (Gives main) = λ published none. next (subst IsPublished (sym e) tt) none

      checked_on : x.line ≡ swap.Check → (v : Prev) → prev_at (states t).heap x.fresh ≡ v → On (after_swap (states t) operation (purpose.Update path former) x (on_line x (after_check v)))
      checked_on e prev.None is =
          let none = sym (seen run t k (omega arith) operation own.runs (purpose.Update path former) x at lt e) ∙ is in
          climbing_behind states run.records (suc t) operation.id Right Walks _ (update_climbs operation path former (node_at (states t).heap x.fresh))
          (still run t (step.Go (suc k)) own.outcome own.moves (own_notes states run.records t k operation own) operation.id (before (subst IsPublished (sym e) tt) none))
      checked_on e (prev.Pending q) is = tt
      checked_on e (prev.Failed q) is = tt

      update_on : On (after_swap (states t) operation (purpose.Update path former) x (after x))
      update_on = by_line x.line refl
        where
          by_line : (l : SwapLine) → x.line ≡ l →
              On (after_swap (states t) operation (purpose.Update path former) x (on_line x (swap_on (states t).heap operation.access (word_at (states t) (handle_of operation.call)) x l)))
          by_line swap.Publish e = published_on e (main_at (states t).heap x.indirection == x.replaced) refl
          by_line (swap.Deciding l) e = decided_on l e (read_after (states t).heap operation.access (word_at (states t) (handle_of operation.call)) x.indirection l)
          by_line swap.Check e = checked_on e (prev_at (states t).heap x.fresh) refl

    -- of any other
    other_on : (why : Purpose) (x : Swap) → Behind states run.records t operation.id Right Walks (line.Swap why x) →
        ((path : List Ref) (former : Option ℕ) → why ≡ purpose.Update path former → ⊥) → (out : After Swap Bool) →
        On (after_swap (states t) operation why x out)
    other_on (purpose.Update path former) x h not out = absurd (not path former refl)
    other_on (purpose.Renew path) x h not (Goes y) = tt
    other_on (purpose.Renew path) x h not (Gives true) = tt
    other_on (purpose.Renew path) x h not (Gives false) = tt
    other_on purpose.Clean x h not (Goes y) = tt
    other_on purpose.Clean x h not (Gives done) = tt
    other_on (purpose.Climb c) x h not (Goes y) = still run t (step.Go (suc k)) own.outcome own.moves (own_notes states run.records t k operation own) operation.id h
    other_on (purpose.Climb c) x h not (Gives done) =
        climbing_behind states run.records (suc t) operation.id Right Walks _ (climbed_climbs operation c (node_at (states t).heap x.fresh) done)
        (still run t (step.Go (suc k)) own.outcome own.moves (own_notes states run.records t k operation own) operation.id h)

    pub swap_behind : (why : Purpose) (x : Swap) → operation.line ≡ line.Swap why x → Behind states run.records t operation.id Right Walks (line.Swap why x) →
        On (after_swap (states t) operation why x (after x))
    swap_behind (purpose.Update path former) x at h = update_on path former x at h
    swap_behind (purpose.Renew path) x at h = other_on (purpose.Renew path) x h (λ q f e. let wrong : ⊥ = cc in wrong) (after x)
    swap_behind purpose.Clean x at h = other_on purpose.Clean x h (λ q f e. let wrong : ⊥ = cc in wrong) (after x)
    swap_behind (purpose.Climb c) x at h = other_on (purpose.Climb c) x h (λ q f e. let wrong : ⊥ = cc in wrong) (after x)
