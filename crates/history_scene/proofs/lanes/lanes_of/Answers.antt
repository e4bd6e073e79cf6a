-- An actor that has begun something gets the next lane.
use Rattle.std.proofs.Common.{◌≡◌, ◌∙◌, ◌++◌, ◌∷◌, [], ℕ, List, Bool, false, get_or, length, if◌then◌else◌, sym, ap, arith, subst, length-set}
use Rattle.std.proofs.lemmas.List.{append-nil}
use Rattle.std.proofs.lemmas.Option.{get_or_from_slice_get}
use Rattle.history_scene.specs.Lanes.{works, workers_below}
use Rattle.history_scene.proofs.Working.{workers_more, actors_are, lane_noted}
use Rattle.history_scene.proofs.lanes.lanes_of.Goals as goal
use Rattle.history_scene.proofs.lanes.lanes_of.Goals.{then-works-actor+in_ok-push, else-works-actor}

pub loop-actor-preserved : goal.loop-actor-preserved
loop-actor-preserved c =
    let history = c.args.events.now in
    let actor = c.loop-actor.actor in
    let so_far = c.loop-actor.invariant in
    let size = so_far.1 in
    let items = ap length so_far.0 in
    let counted = c.len.ensures in
    let count : c.len.result ≡ length (workers_below history actor) = omega (arith, c.loop-actor.actors.ok.0) in
    let lanes = lane_noted history c.loop-actor.lanes actor c.len.result count (omega arith) so_far.2 in
    let tested : get_or c.workers-works.result actor false ≡ works history actor = get_or_from_slice_get c.workers-works.result actor (works history actor) false
    (c.workers-works.ensures.each actor (omega arith)) in
    let P : Bool → Type 0 = λ b. c.if-works-actor.actors.items ≡ workers_below history actor ++ (if b then actor ∷ [] else []) in
    let actors : P (works history actor) = elim c.if-works-actor.branch [
      | then-works-actor+in_ok-push w ↦
          let items = ap (λ (v : _). v.items) w.actors-is ∙ w.in_ok-push.ensures.items in
          subst P (sym w.if-works-actor.true ∙ tested) (items ∙ ap (λ (t : List ℕ). t ++ actor ∷ []) so_far.0)
      | else-works-actor w ↦
          let items = ap (λ (v : _). v.items) w.actors-is in
          subst P (sym w.if-works-actor.false ∙ tested) (items ∙ so_far.0 ∙ sym (append-nil (workers_below history actor)))
    ] in
    (actors ∙ sym (workers_more history actor), length-set c.loop-actor.lanes actor c.len.result ∙ so_far.1, lanes)

pub returns-clause-actors : goal.returns-clause-actors
returns-clause-actors c =
    let so_far = c.loop-actor.invariant in
    let end = c.loop-actor.auto.actor-end in
    let past = c.loop-actor-test.false in
    let last : c.loop-actor.actor ≡ 256 = omega arith in
    so_far.0 ∙ ap (workers_below c.args.events.now) last ∙ sym (actors_are c.args.events.now)
