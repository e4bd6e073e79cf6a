use Rattle.std.proofs.Common.{Some, length, sym, ap, subst, ◌∙◌, ◌<◌}
use Rattle.lock_free.specs.declared.descending.Update.TheVariants as update
use Rattle.lock_free.specs.declared.descending.Found.TheVariants as found
use Rattle.lock_free.specs.Attempts.{attempted_by, IsToChange}
use Rattle.lock_free.specs.Descending.{rest_in}
use Rattle.lock_free.proofs.KeyEnds.{attempted_as, attempted_runs, calling_on, done_since, found_as}
use Rattle.lock_free.proofs.Removals.{removes}
use Rattle.lock_free.proofs.key_runs.call_removes.Goals as goal

pub take_out-swapped-requires-clause-some : goal.take_out-swapped-requires-clause-some
take_out-swapped-requires-clause-some g c = subst (λ xs. 0 < length xs) (sym c.as_slice-path.ensures.value) c.requires.some

pub take_out-swapped-requires-clause-at : goal.take_out-swapped-requires-clause-at
take_out-swapped-requires-clause-at g c =
    let v = c.args.actor.now.me.0 in
    let run = c.requires.calling.running in
    let given = c.args.given in
    subst (λ xs. IsToChange v xs given (update.Removes c.args.position c.args.former)) (sym c.as_slice-path.ensures.value)
    (found_as v v c.args.path.now.items run.0 run.1 c.args.words.now.table_id.words c.requires.sound (found.Changes (update.Removes c.args.position c.args.former) given)
    (removes c.args.words.now.table_id.words v c.requires.sound c.args.path.now.items given c.args.position c.args.former c.requires.at
    (sym c.in-Any.is ∙ c.rest_in.ensures ∙ ap (rest_in given.header.shape) c.len.ensures.value)))

pub end_change-requires-clause-calling : goal.end_change-requires-clause-calling
end_change-requires-clause-calling g c =
    let v = c.args.actor.now.me.0 in
    let w = c.take_out-swapped.new.actor.me.0 in
    let a = attempted_by c.take_out-swapped.result c.args.task.now.call (Some c.args.former) in
    calling_on v w (attempted_runs v w a c.take_out-swapped.ensures.attempted) c.args.task.now.call c.args.task.now.access c.requires.calling

pub end_change-requires-clause-at : goal.end_change-requires-clause-at
end_change-requires-clause-at g c =
    attempted_as c.args.actor.now.me.0 c.take_out-swapped.new.actor.me.0 (attempted_by c.take_out-swapped.result c.args.task.now.call (Some c.args.former))
    c.take_out-swapped.ensures.attempted

pub returns-in-Any-clause-out : goal.returns-in-Any-clause-out
returns-in-Any-clause-out g c =
    let v = c.args.actor.now.me.0 in
    let w = c.take_out-swapped.new.actor.me.0 in
    let a = attempted_by c.take_out-swapped.result c.args.task.now.call (Some c.args.former) in
    done_since v w (attempted_runs v w a c.take_out-swapped.ensures.attempted) c.args.task.now.call c.end_change.result c.end_change.new.actor.me.0 c.end_change.ensures.out
