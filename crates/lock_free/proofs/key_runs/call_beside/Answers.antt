use Rattle.std.proofs.Common.{◌<◌, None, length, sym, subst, ◌∙◌}
use Rattle.machine_model.specs.Beneath.slot_arena.specs.Heaps.{no_ref}
use Rattle.machine_model.specs.declared.building.Site.TheVariants as site
use Rattle.machine_model.specs.declared.lines.Line.TheVariants as line
use Rattle.lock_free.specs.declared.descending.Update.TheVariants as update
use Rattle.lock_free.specs.Attempts.{attempted_by, IsToChange}
use Rattle.lock_free.specs.Holding.{IsOn}
use Rattle.lock_free.proofs.KeyEnds.{attempted_as, attempted_runs, calling_on, done_since}
use Rattle.lock_free.proofs.PlacesReached.{answers_absent, builds_absent}
use Rattle.lock_free.proofs.key_runs.call_beside.Goals as goal

pub answer-requires-clause-ending : goal.answer-requires-clause-ending
answer-requires-clause-ending g c =
    let at = c.requires.at in
    subst (λ r. IsOn c.args.actor.now.me.0 (line.End r)) (sym c.absent_reply-reply.ensures)
    (answers_absent c.args.task.now.call (site.Beside c.args.position) c.args.actor.now.me.0 at.0 at.1 at.3.1 (sym c.inserts.ensures ∙ c.if-not-inserts.true))

pub give_value-swapped-requires-clause-some : goal.give_value-swapped-requires-clause-some
give_value-swapped-requires-clause-some g c = subst (λ xs. 0 < length xs) (sym c.as_slice-path.ensures.value) c.requires.some

pub give_value-swapped-requires-clause-at : goal.give_value-swapped-requires-clause-at
give_value-swapped-requires-clause-at g c =
    let v = c.args.actor.now.me.0 in
    let at = c.requires.at in
    let u = update.Builds (site.Beside c.args.position) None in
    subst (λ xs. IsToChange v xs c.args.given u) (sym c.as_slice-path.ensures.value)
    (record {
      path = at.0;
      main = at.1;
      other = no_ref;
      on = builds_absent c.args.task.now.call (site.Beside c.args.position) v at.0 at.1 at.3.1 (sym c.inserts.ensures ∙ c.if-not-inserts.false);
      place = at.2;
      knows = at.3.0;
    })

pub end_change-requires-clause-calling : goal.end_change-requires-clause-calling
end_change-requires-clause-calling g c =
    let v = c.args.actor.now.me.0 in
    let w = c.give_value-swapped.new.actor.me.0 in
    let a = attempted_by c.give_value-swapped.result c.args.task.now.call None in
    calling_on v w (attempted_runs v w a c.give_value-swapped.ensures.attempted) c.args.task.now.call c.args.task.now.access c.requires.calling

pub end_change-requires-clause-at : goal.end_change-requires-clause-at
end_change-requires-clause-at g c =
    attempted_as c.args.actor.now.me.0 c.give_value-swapped.new.actor.me.0 (attempted_by c.give_value-swapped.result c.args.task.now.call None) c.give_value-swapped.ensures.attempted

pub returns-clause-out : goal.returns-clause-out
returns-clause-out g c =
    let v = c.args.actor.now.me.0 in
    let w = c.give_value-swapped.new.actor.me.0 in
    let a = attempted_by c.give_value-swapped.result c.args.task.now.call None in
    done_since v w (attempted_runs v w a c.give_value-swapped.ensures.attempted) c.args.task.now.call c.end_change.result c.end_change.new.actor.me.0 c.end_change.ensures.out
