-- A begin notes its actor, and an end none.
use Rattle.std.proofs.Common.{◌∙◌, ◌||◌, Bool, Some, false, refl, sym, ap, arith, take, length-set}
use Rattle.history_scene.specs.Lanes.{is_begin_of, works}
use Rattle.history_scene.proofs.Working.{at_same, works_more, begin_noted}
use Rattle.std.proofs.Math.Bool.{or-false}
use Rattle.history_scene.proofs.lanes.workers.Goals as goal
use Rattle.history_scene.proofs.lanes.workers.Goals.{in-Begin, in-End}

pub loop-event-init : goal.loop-event-init
loop-event-init c = (refl, λ actor lt. at_same 256 actor false lt)

pub loop-event-preserved : goal.loop-event-preserved
loop-event-preserved c =
    let history = c.args.events.now in
    let i = c.loop-event.event-index in
    let event = c.event-item.result in
    let is = c.event-item.is in
    let so_far = c.loop-event.invariant in
    elim c.match-event.branch [
      | in-Begin w ↦ let x = w.works-is in (
        rw x (length-set _ _ _ ∙ so_far.0),
        λ actor lt. rw x (begin_noted c.loop-event.works (works (take i history)) w.in-Begin.actor so_far.0 so_far.1 actor lt
            ∙ ap (λ (b : Bool). Some b) (ap (λ e. works (take i history) actor || is_begin_of actor e) (sym w.in-Begin.is ∙ is) ∙ sym (works_more history i actor event (omega arith)))),
      )
      | in-End w ↦ let x = w.works-is in (
        rw x so_far.0,
        λ actor lt. rw x (so_far.1 actor lt ∙ ap (λ (b : Bool). Some b) (sym (or-false (works (take i history) actor))
            ∙ ap (λ e. works (take i history) actor || is_begin_of actor e) (sym w.in-End.is ∙ is) ∙ sym (works_more history i actor event (omega arith)))),
      )
    ]
