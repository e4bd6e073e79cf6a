-- A close that runs alone.
use Rattle.std.proofs.Common.{None, ◌≡◌, zero, suc, ◌+◌, ◌-◌, false, List, [], ◌∷◌, ◌++◌, set, Some, Ok, refl, ap, ◌∙◌, subst, arith}
use Rattle.proof_straight.specs.Beneath.history.specs.declared.calls.Call.TheVariants as call
use Rattle.proof_straight.specs.Beneath.history.specs.declared.replies.Reply.TheVariants as reply
use Rattle.proof_straight.specs.Vocabulary.{Ref, limbo_after, Operation, settled, begin_unless, begun_operation, next, State, Record, moment_at, noted_end, entrant_of, Entrant, on_time, Call}
use Rattle.machine_model.specs.declared.steps.Outcome.TheVariants as outcome
use Rattle.machine_model.specs.declared.steps.Step.TheVariants as step
use Rattle.machine_model.proofs.Actors.{begin_actor, begin_counts}
use Rattle.machine_model.proofs.Alike.{actor_within}
use Rattle.proof_straight.specs.Copies.{closed}
use Rattle.proof_straight.specs.Drafts.{Draft, after_call}
use Rattle.proof_straight.specs.Laws.{ClosesStraight}
use Rattle.proof_straight.specs.Running.{ComesTo, begins}
use Rattle.proof_straight.specs.Recorded.{closed_record}
use Rattle.proof_straight.specs.Beneath.history.specs.declared.events.Event.TheVariants as event
use Rattle.proof_straight.proofs.Change.Recording.{placed_at_end, placed_last}
use Rattle.std.proofs.lemmas.List.{append-nil}
use Rattle.proof_straight.proofs.Steps.Alone.{Alone, held_standing, stand}
use Rattle.proof_straight.proofs.Steps.Going.{begun_record, ends_so}
use Rattle.proof_straight.proofs.Steps.Settled.{settled_once}

pub closes_straight : ClosesStraight
unfolding next
closes_straight state past zero handle rests allowed is lasts = absurd (omega (arith, begin_counts state 0 (call.Close handle) None allowed))
closes_straight state past (suc k) handle rests allowed is lasts =
    subst (λ r. ComesTo state past (suc k) c 0 reply.Closed (after_call base draft 2) r) recorded
    (ends_so state past k c base alone draft operation 0 reply.Closed (λ left. begins first) refl (settled_once state.heap _ state.epoch state.limbo) lasts refl)
  where
    c : Call
    c = call.Close handle

    base : State
    base = (closed state handle).base

    draft : Draft
    draft = (closed state handle).draft

    operation : Operation
    operation = begun_operation state c None

    alone : Alone base k
    alone = record {
      actor = actor_within state (suc k) (begin_actor state (suc k) c None allowed);
      within = omega (arith, rests.actors, actor_within state (suc k) (begin_actor state (suc k) c None allowed));
      rest = rests.rest;
    }

    index : suc k - 1 ≡ k
    index = omega arith

    left_by : List Ref → State
    left_by held = record base {
      limbo = limbo_after state.heap held state.epoch state.limbo;
      actors = set base.actors k (Some operation);
      begun = state.begun + 1;
      steps = state.steps + 1;
    }

    first : next state (step.Begin (suc k) c None) ≡ Ok (outcome.Began state.begun, stand base k draft operation (state.steps + 1))
    first =
        ap (λ d. begin_unless state (suc k) c None d) allowed
        ∙ ap (λ i. Ok (outcome.Began state.begun, settled state (record base { actors = set base.actors i (Some operation); begun = state.begun + 1 }))) index
        ∙ ap (λ held. Ok (outcome.Began state.begun, left_by held)) (held_standing base k alone draft operation 0)

    begun : Record
    begun = begun_record state past k c

    e : Entrant
    e = entrant_of operation

    recorded : noted_end begun (suc k) e reply.Closed ≡ closed_record past state (suc k) c reply.Closed
    recorded =
        ap (λ ps. record begun { events = begun.events ++ event.End state.begun reply.Closed ∷ []; places = begun.places ++ ps })
        (placed_at_end begun e (moment_at begun (suc k)).moment reply.Closed (placed_last past.places (on_time state.steps false state.begun) state.begun refl))
        ∙ ap (λ ps. record begun { events = begun.events ++ event.End state.begun reply.Closed ∷ []; places = ps }) (append-nil begun.places)
