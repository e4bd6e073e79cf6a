-- An ABORT or a COMPLETE settles an offer that stands, and leaves all as it is where it finds it decided.
use Rattle.std.proofs.Common.{◌≡◌, ◌==◌, ℕ, Bool, true, false, Some, None, refl, sym, ap, subst, ◌∙◌, if◌then◌else◌}
use Rattle.std.specs.Prelude.{◌&&◌}
use Rattle.history.specs.declared.calls.Access.TheVariants.{Writable}
use Rattle.machine_model.specs.Beneath.slot_arena.specs.declared.refs.Ref.{Ref}
use Rattle.machine_model.specs.declared.actions.Action.TheVariants as act
use Rattle.machine_model.specs.declared.operations.Operation.{Operation}
use Rattle.machine_model.specs.declared.roots.RootWord.TheVariants.{Plain, Offer}
use Rattle.machine_model.specs.Acting.{acted, gone, if_changed, operation_after, attempt_after, mark_after, carried_out as carried}
use Rattle.machine_model.specs.Calls.{handle_of}
use Rattle.machine_model.specs.Machine.{AreBounds}
use Rattle.machine_model.specs.Moves.{GoesOn}
use Rattle.machine_model.specs.Operations.{action_of}
use Rattle.machine_model.specs.States.{State, operation_of, root_at, word_at, with_word, with_operation}
use Rattle.machine_model.specs.Swapping.{stands_in}
use Rattle.machine_model.proofs.Actors.{marks_by, marks_of, mark_one, mark_only}
use Rattle.proof_commits.proofs.Known.StepsAt.{after_mark}
use Rattle.lock_free.specs.declared.accounts.Account.{Account}
use Rattle.lock_free.specs.declared.accounts.Known.{Known}
use Rattle.lock_free.specs.declared.sizes.Sizes.{Sizes}
use Rattle.lock_free.specs.Accounts.{bounds_for, state_of, running, gone_on}
use Rattle.lock_free.specs.Making.{over_of}
use Rattle.lock_free.specs.OfferWords.{outcome_by}
use Rattle.lock_free.specs.Roots.{open_with, taken_back}
use Rattle.lock_free.specs.Settling.{Settles}
use Rattle.lock_free.specs.Steps.{Reads}
use Rattle.lock_free.specs.Trying.{as_before}
use Rattle.lock_free.proofs.OneStep.Aheads.{ahead_of, over_makes, ahead_acts}
use Rattle.lock_free.proofs.OneStep.Changing.{roots_then}
use Rattle.lock_free.proofs.OneStep.Marking.{other_marked, own_marked, leaves_by, try_else}
use Rattle.lock_free.proofs.OneStep.Settles.{stands, back_settles, out_settles}

module _ (sizes : Sizes) (account : Account) (bounds : AreBounds (bounds_for sizes account.steps)) (actor : ℕ) (operation : Operation) (runs : running sizes account actor operation) where
  abbrev state : State
  state = state_of sizes account

  abbrev h : ℕ
  h = handle_of operation.call

  abbrev put : State
  put = with_operation state actor (Some (operation_after state operation))

  -- ---- a step that changes nothing and marks nobody

  module _ (g : GoesOn (action_of state operation)) (makes_none : (i a : Ref) → over_of operation.line ≡ Some (i, a) → ⊥)
      (publishes_none : (i a f : Ref) → ahead_of operation.line ≡ Some (i, a, f) → ⊥)
      (attempt : attempt_after operation.attempt (action_of state operation) ≡ operation.attempt) (mark : mark_after operation.is_marked (action_of state operation) ≡ operation.is_marked)
      (gone_is : gone state actor operation ≡ put) (no_marks : marks_by state (Some operation) ≡ None) where
    pub nothing_done : Reads sizes account actor operation
    nothing_done =
        let leaves = leaves_by sizes account bounds actor operation runs g makes_none publishes_none (ap (λ (s : State). s.heap) gone_is) (ap (λ (s : State). s.generations) gone_is) in
        record {
          bounds = leaves.bounds;
          nodes = leaves.nodes;
          births = leaves.births;
          live = λ r live. (leaves.live r live, refl);
          reached = λ r h. refl;
          retired = λ x h g. refl;
          roots = roots_then sizes account bounds actor operation runs g (ap (λ (s : State). s.roots) gone_is);
          generations = leaves.generations;
          others = λ a differs. other_marked sizes account bounds actor operation runs g a differs ∙ ap (λ m. after_mark m (operation_of state a)) no_marks;
          own = own_marked sizes account bounds actor operation runs g ∙ ap (λ m. Some (mark_one m (operation_after state operation))) no_marks;
          tries = as_before (λ a. try_else sizes account bounds actor operation runs g attempt mark a (λ o e id is. absurd (none_is id (sym no_marks ∙ is))));
          aheads = leaves.aheads;
          still = λ i a f x none. leaves.still i a f x;
        }
      where
        none_is : (id : ℕ) → None ≡ Some id → ⊥
        none_is id e = let no : ⊥ = cc e in no

  -- ---- ABORT

  module _ (k : Known) (is : action_of state operation ≡ act.Abort k.offer) where
    abort_goes : GoesOn (action_of state operation)
    abort_goes = subst GoesOn (sym is) tt

    abort_makes_none : (i a : Ref) → over_of operation.line ≡ Some (i, a) → ⊥
    abort_makes_none i a over = let (node, made) = over_makes state operation operation.line (i, a) over in let both = sym made ∙ is in cc

    abort_publishes_none : (i a f : Ref) → ahead_of operation.line ≡ Some (i, a, f) → ⊥
    abort_publishes_none i a f ahead = let both = sym (ahead_acts state operation operation.line (i, a, f) ahead) ∙ is in cc

    abort_by : (b : Bool) → stands_in (word_at state h) k.offer ≡ b → gone state actor operation ≡ if_changed b (with_word put h (Plain k.offer.root)) put
    abort_by b e = ap (acted put h) is ∙ ap (λ c. if_changed c (with_word put h (Plain k.offer.root)) put) e

    pub abort_own : operation_of (state_of sizes (gone_on actor account)) actor ≡ Some (operation_after state operation)
    abort_own = own_marked sizes account bounds actor operation runs abort_goes ∙ ap (λ m. Some (mark_one m (operation_after state operation))) (ap (marks_of state h) is)

    -- it stands, and is taken back
    pub abort_settles : root_at state h ≡ open_with Writable (Offer k.offer) → Settles sizes account actor taken_back operation k
    abort_settles stood =
        back_settles sizes account bounds actor operation runs k stood abort_goes abort_makes_none abort_publishes_none (ap (attempt_after operation.attempt) is)
        (ap (mark_after operation.is_marked) is)
        (abort_by true (stands sizes account bounds actor operation runs k stood)) (ap (marks_of state h) is)

    -- it doesn't stand any more
    pub abort_misses : stands_in (word_at state h) k.offer ≡ false → Reads sizes account actor operation
    abort_misses gone_already =
        nothing_done abort_goes abort_makes_none abort_publishes_none (ap (attempt_after operation.attempt) is) (ap (mark_after operation.is_marked) is) (abort_by false gone_already)
        (ap (marks_of state h) is)

  -- ---- COMPLETE

  module _ (k : Known) (main : Ref) (is : action_of state operation ≡ act.Complete k.offer main) where
    complete_goes : GoesOn (action_of state operation)
    complete_goes = subst GoesOn (sym is) tt

    complete_makes_none : (i a : Ref) → over_of operation.line ≡ Some (i, a) → ⊥
    complete_makes_none i a over = let (node, made) = over_makes state operation operation.line (i, a) over in let both = sym made ∙ is in cc

    complete_publishes_none : (i a f : Ref) → ahead_of operation.line ≡ Some (i, a, f) → ⊥
    complete_publishes_none i a f ahead = let both = sym (ahead_acts state operation operation.line (i, a, f) ahead) ∙ is in cc

    complete_by : (b c : Bool) → stands_in (word_at state h) k.offer ≡ b → (main == k.offer.expected) ≡ c →
        gone state actor operation ≡ if_changed b (if c then carried put h k.offer else with_word put h (Plain k.offer.root)) put
    complete_by b c e f =
        ap (acted put h) is ∙ ap (λ x. if_changed x (if main == k.offer.expected then carried put h k.offer else with_word put h (Plain k.offer.root)) put) e
        ∙ ap (λ x. if_changed b (if x then carried put h k.offer else with_word put h (Plain k.offer.root)) put) f

    marks_are : (b c : Bool) → stands_in (word_at state h) k.offer ≡ b → (main == k.offer.expected) ≡ c → marks_by state (Some operation) ≡ (if b && c then Some k.offer.operation else None)
    marks_are b c e f = ap (marks_of state h) is ∙ ap (λ x. if x && (main == k.offer.expected) then Some k.offer.operation else None) e ∙ ap (λ x. if b && x then Some k.offer.operation else None) f

    -- the operation then, but for its mark
    pub complete_own : (mark : Bool) × (operation_of (state_of sizes (gone_on actor account)) actor ≡ Some (record (operation_after state operation) { is_marked = mark }))
    complete_own =
        let m = marks_by state (Some operation) in
        ((mark_one m (operation_after state operation)).is_marked, own_marked sizes account bounds actor operation runs complete_goes ∙ ap Some (mark_only m (operation_after state operation)))

    pub complete_settles : root_at state h ≡ open_with Writable (Offer k.offer) → (c : Bool) → (main == k.offer.expected) ≡ c → Settles sizes account actor (outcome_by c) operation k
    complete_settles stood true f =
        let so = stands sizes account bounds actor operation runs k stood in
        out_settles sizes account bounds actor operation runs k stood complete_goes complete_makes_none complete_publishes_none (ap (attempt_after operation.attempt) is)
        (ap (mark_after operation.is_marked) is)
        (complete_by true true so f) (marks_are true true so f)
    complete_settles stood false f =
        let so = stands sizes account bounds actor operation runs k stood in
        back_settles sizes account bounds actor operation runs k stood complete_goes complete_makes_none complete_publishes_none (ap (attempt_after operation.attempt) is)
        (ap (mark_after operation.is_marked) is)
        (complete_by true false so f) (marks_are true false so f)

    pub complete_misses : stands_in (word_at state h) k.offer ≡ false → Reads sizes account actor operation
    complete_misses gone_already =
        nothing_done complete_goes complete_makes_none complete_publishes_none (ap (attempt_after operation.attempt) is) (ap (mark_after operation.is_marked) is)
        (complete_by false (main == k.offer.expected) gone_already refl) (marks_are false (main == k.offer.expected) gone_already refl)
