use Rattle.std.proofs.Common.{Option, IfNone, ap, subst, ◌∙◌}
use Rattle.machine_model.specs.Beneath.ctrie_base.specs.Hashes.{hash_of}
use Rattle.machine_model.specs.Lines.{new_try}
use Rattle.lock_free.specs.declared.leaving.Left.TheVariants as left
use Rattle.lock_free.specs.declared.rooting.Rooted.{Rooted}
use Rattle.lock_free.specs.KeyRuns.{IsDone}
use Rattle.lock_free.specs.Leaving.{HasLeftOff}
use Rattle.lock_free.proofs.GetsWhole.{off_may, off_runs_on}
use Rattle.lock_free.proofs.KeyEnds.{calling_on, calling_task, done_since}
use Rattle.lock_free.proofs.Leavings.{left_stock}
use Rattle.lock_free.proofs.ParkedOn.{way_called}
use Rattle.lock_free.proofs.RunningOn.{runs_on_rooted}
use Rattle.lock_free.proofs.Trials.{root_ready, stock_ready, task_ready}
use Rattle.lock_free.proofs.key_runs.call_begun.Goals as goal

pub seek_root_within-requires-clause-way : goal.seek_root_within-requires-clause-way
seek_root_within-requires-clause-way g c = way_called c.args.actor.now.me.0 c.args.call c.args.access c.requires.calling.called c.handle-handle.result c.handle-handle.ensures

pub spent_on-requires-clause-stock : goal.spent_on-requires-clause-stock
spent_on-requires-clause-stock g c =
    left_stock c.args.words.now.table_id.words c.args.actor.now.me.0 c.requires.sound new_try c.requires.at left.MayGiveUp c.seek_root_within.new.actor.me.0
    (subst (λ (r : Option Rooted). IfNone r (HasLeftOff c.args.actor.now.me.0 left.MayGiveUp c.seek_root_within.new.actor.me.0)) c.in_default.is c.seek_root_within.ensures.left) c.args.stock.now
    c.requires.stock

pub spent_on-requires-clause-calling : goal.spent_on-requires-clause-calling
spent_on-requires-clause-calling g c =
    calling_on c.args.actor.now.me.0 c.seek_root_within.new.actor.me.0 (off_runs_on c.args.actor.now.me.0 c.requires.at c.seek_root_within.new.actor.me.0 (subst (λ (r : Option Rooted). IfNone r
    (HasLeftOff c.args.actor.now.me.0 left.MayGiveUp c.seek_root_within.new.actor.me.0)) c.in_default.is c.seek_root_within.ensures.left))
    c.args.call c.args.access c.requires.calling

pub spent_on-requires-clause-may : goal.spent_on-requires-clause-may
spent_on-requires-clause-may g c =
    off_may c.args.actor.now.me.0 c.requires.at c.seek_root_within.new.actor.me.0 (subst (λ (r : Option Rooted). IfNone r (HasLeftOff c.args.actor.now.me.0 left.MayGiveUp
    c.seek_root_within.new.actor.me.0)) c.in_default.is c.seek_root_within.ensures.left)

pub returns-in_default-clause-out : goal.returns-in_default-clause-out
returns-in_default-clause-out g c =
    done_since c.args.actor.now.me.0 c.seek_root_within.new.actor.me.0 (off_runs_on c.args.actor.now.me.0 c.requires.at c.seek_root_within.new.actor.me.0 (subst (λ (r : Option Rooted). IfNone r
    (HasLeftOff c.args.actor.now.me.0 left.MayGiveUp c.seek_root_within.new.actor.me.0)) c.in_default.is c.seek_root_within.ensures.left)) c.args.call
    c.spent_on.result c.spent_on.new.actor.me.0 c.spent_on.ensures.out

pub call_rooted-requires-clause-stock : goal.call_rooted-requires-clause-stock
call_rooted-requires-clause-stock g c =
    stock_ready c.args.actor.now.me.0 c.requires.at c.args.call c.args.access c.requires.calling.called c.requires.calling.keyed c.in-Some.rooted c.seek_root_within.new.actor.me.0
    (c.in-Some.ensures {u = tt}).rooted
    c.args.words.now.table_id.words c.requires.sound c.args.stock.now c.requires.stock

pub call_rooted-requires-clause-calling : goal.call_rooted-requires-clause-calling
call_rooted-requires-clause-calling g c =
    let t = c.new-task in
    calling_task c.seek_root_within.new.actor.me.0 c.args.call c.args.access t.result t.ensures.given.0 t.ensures.given.1
    (calling_on c.args.actor.now.me.0 c.seek_root_within.new.actor.me.0 (runs_on_rooted c.args.actor.now.me.0 c.seek_root_within.new.actor.me.0 c.in-Some.rooted (c.in-Some.ensures {u =
    tt}).rooted) c.args.call c.args.access c.requires.calling)

pub call_rooted-requires-clause-task : goal.call_rooted-requires-clause-task
call_rooted-requires-clause-task g c =
    let t = c.new-task in
    task_ready c.args.actor.now.me.0 c.requires.at c.args.call c.args.access c.requires.calling.called c.requires.calling.keyed c.in-Some.rooted c.seek_root_within.new.actor.me.0
    (c.in-Some.ensures {u = tt}).rooted
    t.result t.ensures.given.0 t.ensures.given.1 t.ensures.given.2 t.ensures.key
    (t.ensures.hash ∙ ap (λ z. hash_of z.hash t.result.key) (c.sizes.ensures ∙ c.requires.stock.sizes))

pub call_rooted-requires-clause-at : goal.call_rooted-requires-clause-at
call_rooted-requires-clause-at g c =
    root_ready c.args.actor.now.me.0 c.requires.at c.args.call c.args.access c.requires.calling.called c.requires.calling.keyed c.in-Some.rooted c.seek_root_within.new.actor.me.0
    (c.in-Some.ensures {u = tt}).rooted

pub returns-clause-out : goal.returns-clause-out
returns-clause-out g c =
    done_since c.args.actor.now.me.0 c.seek_root_within.new.actor.me.0 (runs_on_rooted c.args.actor.now.me.0 c.seek_root_within.new.actor.me.0 c.in-Some.rooted (c.in-Some.ensures {u =
    tt}).rooted) c.args.call c.call_rooted.result c.call_rooted.new.actor.me.0
    (subst (λ k. IsDone c.seek_root_within.new.actor.me.0 k c.call_rooted.result c.call_rooted.new.actor.me.0) c.new-task.ensures.given.0 c.call_rooted.ensures.out)
