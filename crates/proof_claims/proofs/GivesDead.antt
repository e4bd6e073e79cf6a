-- What an operation gives up that it made is dead after the step: nobody else knew it.
use Rattle.std.proofs.Common.{◌≡◌, ℕ, List, [], ◌∷◌, ◌++◌, Contains, Some, sym, ap, subst, ◌∙◌}
use Rattle.std.proofs.lemmas.Option.{same_Some}
use Rattle.proof_claims.specs.Beneath.slot_arena.specs.declared.refs.Ref.{Ref}
use Rattle.proof_claims.specs.Beneath.machine_model.specs.declared.actions.Action.{Action}
use Rattle.proof_claims.specs.Beneath.machine_model.specs.declared.actions.Action.TheVariants as act
use Rattle.proof_claims.specs.Beneath.machine_model.specs.declared.operations.Operation.{Operation}
use Rattle.proof_claims.specs.Beneath.machine_model.specs.declared.steps.Bounds.{Bounds}
use Rattle.proof_claims.specs.Beneath.machine_model.specs.declared.steps.Outcome.{Outcome}
use Rattle.proof_claims.specs.Beneath.machine_model.specs.declared.steps.Step.{Step}
use Rattle.proof_claims.specs.Beneath.machine_model.specs.declared.steps.Step.TheVariants as step
use Rattle.proof_claims.specs.Beneath.machine_model.specs.Calls.{handle_of}
use Rattle.proof_claims.specs.Beneath.machine_model.specs.Machine.{AreBounds, run}
use Rattle.proof_claims.specs.Beneath.machine_model.specs.Moves.{Begins, Ends, GivesUp as Stops, Goes, GoesOn, Moves, Sweeps}
use Rattle.proof_claims.specs.Beneath.machine_model.specs.Operations.{action_of}
use Rattle.proof_claims.specs.Beneath.machine_model.specs.States.{State, operation_of, word_at}
use Rattle.proof_claims.specs.Beneath.machine_model.specs.Swapping.{is_plain}
use Rattle.proof_claims.specs.Beneath.proof_garbage.specs.Live.{IsLive}
use Rattle.proof_claims.specs.Beneath.proof_shape.proofs.Runs.RunOf.{comes_to}
use Rattle.proof_claims.proofs.Acts.{missed_dead}
use Rattle.proof_claims.proofs.ChangeKinds.{Acting, GivesUp, MakesNode, a_node, a_root, missed, no_slot, told, unoffered}
use Rattle.proof_claims.proofs.Makes.{no_slot_dead}
use Rattle.proof_claims.proofs.Offering.{unoffered_dead}
use Rattle.proof_claims.proofs.Others.{told_dead}
use Rattle.proof_claims.proofs.Outcomes.{each_held}

-- an operation that is to make a node, to swap one in or to offer doesn't end
made_goes : (state : State) (node : _) (action : Action) → MakesNode state node action → GoesOn action
made_goes state node action a_node = tt
made_goes state node action (a_root main is) = tt

module _ (limits : Bounds) (ok : AreBounds limits) (xs : List Step) (x : Ref) where
  abbrev state : State
  state = run limits xs

  -- the step is of the operation that acts
  module _ (actor : ℕ) (operation : Operation) (runs : operation_of state actor ≡ Some operation) (action : Action) (a : Acting state (step.Go actor) action) where
    place : a.actor ≡ actor
    place = let same : step.Go actor ≡ step.Go a.actor = a.is_step in let back : actor ≡ a.actor = cc same in sym back

    one : a.operation ≡ operation
    one = same_Some a.operation operation (sym a.runs ∙ ap (operation_of state) place ∙ runs)

    acts : action_of state operation ≡ action
    acts = ap (action_of state) (sym one) ∙ a.acts

    mine : (private : List Ref) → a.operation.private ≡ private → Contains private x → Contains operation.private x
    mine private same c = subst (λ ps. Contains ps x) (sym (ap (λ (q : Operation). q.private) (sym one) ∙ same)) c

  ends_not : (actor : ℕ) (operation : Operation) (answer : _) → operation_of state actor ≡ Some operation → action_of state operation ≡ act.End answer → (action : Action) → GoesOn action →
      Acting state (step.Go actor) action → ⊥
  ends_not actor operation answer runs is action goes a = subst GoesOn (sym (acts actor operation runs action a) ∙ is) goes

  -- some operation goes on, or is given up
  acts_not : (s : Step) (private : List Ref) → GivesUp state s private → ((actor : ℕ) → s ≡ step.Go actor → ⊥) → ((actor : ℕ) → s ≡ step.GiveUp actor → ⊥) → ⊥
  acts_not s private (no_slot node action a makes none same) go stop = go a.actor a.is_step
  acts_not s private (missed i q f a hit same) go stop = go a.actor a.is_step
  acts_not s private (unoffered offer a stands same) go stop = go a.actor a.is_step
  acts_not s private (told actor operation gives runs same) go stop = stop actor gives

  pub gives_dead : (s : Step) (o : Outcome) (after : State) → Moves state s o after → run limits (xs ++ s ∷ []) ≡ after → (private : List Ref) → GivesUp state s private → Contains private x →
      IsLive after x → ⊥
  gives_dead s o after (Begins d) is private up c live = acts_not s private up (λ actor e. cc e) (λ actor e. cc e)
  gives_dead s o after (Sweeps spent) is private up c live = acts_not s private up (λ actor e. cc e) (λ actor e. cc e)
  gives_dead s o after (Ends {actor} {operation} {answer} d runs ending) is private (no_slot node action a makes none same) c live =
      ends_not actor operation answer runs ending action (made_goes state node action makes) a
  gives_dead s o after (Ends {actor} {operation} {answer} d runs ending) is private (missed i q f a hit same) c live = ends_not actor operation answer runs ending (act.Publish i q f) tt a
  gives_dead s o after (Ends {actor} {operation} {answer} d runs ending) is private (unoffered offer a stands same) c live = ends_not actor operation answer runs ending (act.Offer offer) tt a
  gives_dead s o after (Ends d runs ending) is private (told actor operation gives runs_now same) c live = let bad : ⊥ = cc gives in bad
  gives_dead s o after (Goes {actor} {operation} d runs acts_so g) is private (no_slot node action a makes none same) c live =
      no_slot_dead limits ok xs (each_held limits ok xs) actor operation runs o (Goes d runs acts_so g) (comes_to state s o after (Goes d runs acts_so g)) is node action
      (acts actor operation runs action a) makes none x
      (mine actor operation runs action a private same c) live
  gives_dead s o after (Goes {actor} {operation} d runs acts_so g) is private (missed i q f a hit same) c live =
      missed_dead limits ok xs (each_held limits ok xs) actor operation runs o (Goes d runs acts_so g) is i q f (acts actor operation runs (act.Publish i q f) a) hit x
      (mine actor operation runs (act.Publish i q f) a private same c) live
  gives_dead s o after (Goes {actor} {operation} d runs acts_so g) is private (unoffered offer a stands same) c live =
      unoffered_dead limits ok xs (each_held limits ok xs) actor operation runs o (Goes d runs acts_so g) is offer (acts actor operation runs (act.Offer offer) a)
      (ap (λ (q : Operation). is_plain (word_at state (handle_of q.call)) offer.root) (sym (one actor operation runs (act.Offer offer) a)) ∙ stands) x
      (mine actor operation runs (act.Offer offer) a private same c) live
  gives_dead s o after (Goes d runs acts_so g) is private (told actor operation gives runs_now same) c live = let bad : ⊥ = cc gives in bad
  gives_dead s o after (Stops {actor} {operation} {answer} d runs may) is private (no_slot node action a makes none same) c live = let bad : ⊥ = cc a.is_step in bad
  gives_dead s o after (Stops {actor} {operation} {answer} d runs may) is private (missed i q f a hit same) c live = let bad : ⊥ = cc a.is_step in bad
  gives_dead s o after (Stops {actor} {operation} {answer} d runs may) is private (unoffered offer a stands same) c live = let bad : ⊥ = cc a.is_step in bad
  gives_dead s o after (Stops {actor} {operation} {answer} d runs may) is private (told b other gives runs_now same) c live =
      let place_is : actor ≡ b = cc gives in
      let same_one : other ≡ operation = same_Some other operation (sym runs_now ∙ ap (operation_of state) (sym place_is) ∙ runs) in
      told_dead limits ok xs (each_held limits ok xs) actor operation answer runs o x
      (subst (λ ps. Contains ps x) (sym same ∙ ap (λ (q : Operation). q.private) same_one) c) live
