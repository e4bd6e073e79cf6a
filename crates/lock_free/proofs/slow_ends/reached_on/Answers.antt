use Rattle.std.proofs.Common.{sym, subst}
use Rattle.lock_free.specs.Descending.{HasFound}
use Rattle.lock_free.specs.LinkReads.{IsThere}
use Rattle.lock_free.specs.Reaching.{IsAtPlace}
use Rattle.lock_free.proofs.KeyEnds.{calling_on, found_as, found_runs, found_stock, found_task, done_since}
use Rattle.lock_free.proofs.slow_ends.reached_on.Goals as goal

pub find_there-found-requires-clause-at : goal.find_there-found-requires-clause-at
find_there-found-requires-clause-at g c =
    subst (λ xs. IsThere c.args.actor.now.me.0 xs c.args.reached.link (IsAtPlace c.args.actor.now.me.0 c.args.task.now c.args.reached.place)) (sym c.as_slice.ensures.value) c.requires.at

pub found_on-requires-clause-stock : goal.found_on-requires-clause-stock
found_on-requires-clause-stock g c =
    let run = c.requires.calling.running in
    found_stock c.args.actor.now.me.0 c.find_there-found.new.actor.me.0 c.args.path.now.items c.find_there-found.result (subst (λ xs. HasFound c.args.actor.now.me.0 xs c.find_there-found.result
    c.find_there-found.new.actor.me.0) c.as_slice.ensures.value c.find_there-found.ensures.found)
    run.0 run.1 c.args.words.now.table_id.words c.requires.sound c.args.stock.now c.requires.stock

pub found_on-requires-clause-task : goal.found_on-requires-clause-task
found_on-requires-clause-task g c =
    let run = c.requires.calling.running in
    found_task c.args.actor.now.me.0 c.find_there-found.new.actor.me.0 c.args.path.now.items c.find_there-found.result (subst (λ xs. HasFound c.args.actor.now.me.0 xs c.find_there-found.result
    c.find_there-found.new.actor.me.0) c.as_slice.ensures.value c.find_there-found.ensures.found)
    run.0 run.1 c.args.task.now c.requires.task

pub found_on-requires-clause-calling : goal.found_on-requires-clause-calling
found_on-requires-clause-calling g c =
    calling_on c.args.actor.now.me.0 c.find_there-found.new.actor.me.0 (found_runs c.args.actor.now.me.0 c.find_there-found.new.actor.me.0 c.args.path.now.items c.find_there-found.result (subst
    (λ xs. HasFound c.args.actor.now.me.0 xs c.find_there-found.result c.find_there-found.new.actor.me.0) c.as_slice.ensures.value c.find_there-found.ensures.found)) c.args.task.now.call
    c.args.task.now.access
    c.requires.calling

pub found_on-requires-clause-at : goal.found_on-requires-clause-at
found_on-requires-clause-at g c =
    let run = c.requires.calling.running in
    found_as c.args.actor.now.me.0 c.find_there-found.new.actor.me.0 c.args.path.now.items run.0 run.1 c.args.words.now.table_id.words c.find_there-found.ensures.sound c.find_there-found.result
    (subst (λ xs. HasFound c.args.actor.now.me.0 xs c.find_there-found.result c.find_there-found.new.actor.me.0) c.as_slice.ensures.value c.find_there-found.ensures.found)

pub returns-clause-out : goal.returns-clause-out
returns-clause-out g c =
    done_since c.args.actor.now.me.0 c.find_there-found.new.actor.me.0 (found_runs c.args.actor.now.me.0 c.find_there-found.new.actor.me.0 c.args.path.now.items c.find_there-found.result (subst
    (λ xs. HasFound c.args.actor.now.me.0 xs c.find_there-found.result c.find_there-found.new.actor.me.0) c.as_slice.ensures.value c.find_there-found.ensures.found)) c.args.task.now.call
    c.found_on.result c.found_on.new.actor.me.0 c.found_on.ensures.out
