use Rattle.std.proofs.Common.{◌<◌, Some, length, sym, subst, ◌∙◌}
use Rattle.machine_model.specs.declared.building.Site.TheVariants as site
use Rattle.lock_free.specs.declared.descending.Found.TheVariants as found
use Rattle.lock_free.specs.declared.descending.Update.TheVariants as update
use Rattle.lock_free.specs.Attempts.{attempted_by, IsToChange}
use Rattle.lock_free.proofs.KeyEnds.{attempted_as, attempted_runs, calling_on, done_since, found_as}
use Rattle.lock_free.proofs.KeyFound.{answers, sets}
use Rattle.lock_free.proofs.key_runs.call_at_key.Goals as goal

pub answer-requires-clause-ending : goal.answer-requires-clause-ending
answer-requires-clause-ending g c =
    let v = c.args.actor.now.me.0 in
    let run = c.requires.calling.running in
    found_as v v c.args.path.now.items run.0 run.1 c.args.words.now.table_id.words c.requires.sound (found.Answers c.in-Answers.reply)
    (answers v c.args.task.now.call c.args.path.now.items c.args.given c.args.position c.args.value c.requires.at c.in-Answers.reply (sym c.in-Answers.is ∙ c.when_found.ensures))

pub give_value-swapped-requires-clause-some : goal.give_value-swapped-requires-clause-some
give_value-swapped-requires-clause-some g c = subst (λ xs. 0 < length xs) (sym c.as_slice-path.ensures.value) c.requires.some

pub give_value-swapped-requires-clause-at : goal.give_value-swapped-requires-clause-at
give_value-swapped-requires-clause-at g c =
    let v = c.args.actor.now.me.0 in
    let run = c.requires.calling.running in
    let u = update.Builds (site.At c.args.position) (Some c.args.value) in
    subst (λ xs. IsToChange v xs c.args.given u) (sym c.as_slice-path.ensures.value)
    (found_as v v c.args.path.now.items run.0 run.1 c.args.words.now.table_id.words c.requires.sound (found.Changes u c.args.given)
    (sets v c.args.task.now.call c.args.path.now.items c.args.given c.args.position c.args.value c.requires.at (sym c.in-Sets.is ∙ c.when_found.ensures)))

pub end_change-requires-clause-calling : goal.end_change-requires-clause-calling
end_change-requires-clause-calling g c =
    let v = c.args.actor.now.me.0 in
    let w = c.give_value-swapped.new.actor.me.0 in
    let a = attempted_by c.give_value-swapped.result c.args.task.now.call (Some c.args.value) in
    calling_on v w (attempted_runs v w a c.give_value-swapped.ensures.attempted) c.args.task.now.call c.args.task.now.access c.requires.calling

pub end_change-requires-clause-at : goal.end_change-requires-clause-at
end_change-requires-clause-at g c =
    attempted_as c.args.actor.now.me.0 c.give_value-swapped.new.actor.me.0 (attempted_by c.give_value-swapped.result c.args.task.now.call (Some c.args.value))
    c.give_value-swapped.ensures.attempted

pub returns-in-Sets-clause-out : goal.returns-in-Sets-clause-out
returns-in-Sets-clause-out g c =
    let v = c.args.actor.now.me.0 in
    let w = c.give_value-swapped.new.actor.me.0 in
    let a = attempted_by c.give_value-swapped.result c.args.task.now.call (Some c.args.value) in
    done_since v w (attempted_runs v w a c.give_value-swapped.ensures.attempted) c.args.task.now.call c.end_change.result c.end_change.new.actor.me.0 c.end_change.ensures.out
