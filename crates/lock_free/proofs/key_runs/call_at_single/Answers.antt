use Rattle.std.proofs.Common.{◌∙◌}
use Rattle.lock_free.specs.declared.finding.Met.TheVariants as met
use Rattle.lock_free.proofs.BranchEntries.{beside_there, met_runs, met_stock, met_task, one_found, single_ready}
use Rattle.lock_free.proofs.CallBegins.{same_run}
use Rattle.lock_free.proofs.CallsUnderWay.{few_then}
use Rattle.lock_free.proofs.KeyEnds.{calling_on, done_since}
use Rattle.lock_free.proofs.OfTasks.{on_key}
use Rattle.lock_free.proofs.key_runs.call_at_single.Goals as goal

pub meet_single-requires-clause-key : goal.meet_single-requires-clause-key
meet_single-requires-clause-key g c = on_key c.args.actor.now.me.0 c.args.task.now c.requires.task

pub meet_single-requires-clause-at : goal.meet_single-requires-clause-at
meet_single-requires-clause-at g c =
    single_ready c.args.actor.now.me.0 c.args.actor.now.me.0 c.args.task.now c.requires.task c.args.path.now.items c.args.given c.args.position c.args.slot c.requires.at

pub call_at_key-requires-clause-stock : goal.call_at_key-requires-clause-stock
call_at_key-requires-clause-stock g c =
    met_stock c.args.actor.now.me.0 c.meet_single.new.actor.me.0 c.args.path.now.items c.args.given c.args.position c.args.slot c.requires.at (met.Found c.in-Found.value) c.in-Found.ensures.met
    c.args.words.now.table_id.words c.requires.sound c.args.stock.now c.requires.stock

pub call_at_key-requires-clause-task : goal.call_at_key-requires-clause-task
call_at_key-requires-clause-task g c =
    met_task c.args.actor.now.me.0 c.meet_single.new.actor.me.0 c.args.path.now.items c.args.given c.args.position c.args.slot c.requires.at (met.Found c.in-Found.value) c.in-Found.ensures.met
    c.args.task.now c.requires.task

pub call_at_key-requires-clause-calling : goal.call_at_key-requires-clause-calling
call_at_key-requires-clause-calling g c =
    calling_on c.args.actor.now.me.0 c.meet_single.new.actor.me.0 (met_runs c.args.actor.now.me.0 c.meet_single.new.actor.me.0 c.args.path.now.items c.args.given c.args.position c.args.slot
    c.requires.at (met.Found c.in-Found.value) c.in-Found.ensures.met) c.args.task.now.call c.args.task.now.access c.requires.calling

pub call_at_key-requires-clause-at : goal.call_at_key-requires-clause-at
call_at_key-requires-clause-at g c =
    one_found c.args.actor.now.me.0 c.meet_single.new.actor.me.0 c.args.task.now c.requires.task c.args.path.now.items c.args.given c.args.position c.args.slot c.requires.at
    c.args.words.now.table_id.words c.requires.sound c.in-Found.value c.in-Found.ensures.met

pub returns-in-Found-clause-out : goal.returns-in-Found-clause-out
returns-in-Found-clause-out g c =
    done_since c.args.actor.now.me.0 c.meet_single.new.actor.me.0 (met_runs c.args.actor.now.me.0 c.meet_single.new.actor.me.0 c.args.path.now.items c.args.given c.args.position c.args.slot
    c.requires.at (met.Found c.in-Found.value) c.in-Found.ensures.met) c.args.task.now.call c.call_at_key.result c.call_at_key.new.actor.me.0 c.call_at_key.ensures.out

pub call_beside-requires-clause-stock : goal.call_beside-requires-clause-stock
call_beside-requires-clause-stock g c =
    met_stock c.args.actor.now.me.0 c.meet_single.new.actor.me.0 c.args.path.now.items c.args.given c.args.position c.args.slot c.requires.at met.Other c.in-Other.ensures.met
    c.args.words.now.table_id.words c.requires.sound c.args.stock.now c.requires.stock

pub call_beside-requires-clause-task : goal.call_beside-requires-clause-task
call_beside-requires-clause-task g c =
    met_task c.args.actor.now.me.0 c.meet_single.new.actor.me.0 c.args.path.now.items c.args.given c.args.position c.args.slot c.requires.at met.Other c.in-Other.ensures.met c.args.task.now
    c.requires.task

pub call_beside-requires-clause-calling : goal.call_beside-requires-clause-calling
call_beside-requires-clause-calling g c =
    calling_on c.args.actor.now.me.0 c.meet_single.new.actor.me.0 (met_runs c.args.actor.now.me.0 c.meet_single.new.actor.me.0 c.args.path.now.items c.args.given c.args.position c.args.slot
    c.requires.at met.Other c.in-Other.ensures.met) c.args.task.now.call c.args.task.now.access c.requires.calling

pub call_beside-requires-clause-at : goal.call_beside-requires-clause-at
call_beside-requires-clause-at g c =
    beside_there c.args.actor.now.me.0 c.meet_single.new.actor.me.0 c.args.task.now c.requires.task c.args.path.now.items c.args.given c.args.position c.args.slot c.requires.at
    c.args.words.now.table_id.words c.requires.sound c.in-Other.ensures.met

pub returns-in-Other-clause-out : goal.returns-in-Other-clause-out
returns-in-Other-clause-out g c =
    done_since c.args.actor.now.me.0 c.meet_single.new.actor.me.0 (met_runs c.args.actor.now.me.0 c.meet_single.new.actor.me.0 c.args.path.now.items c.args.given c.args.position c.args.slot
    c.requires.at met.Other c.in-Other.ensures.met) c.args.task.now.call c.call_beside.result c.call_beside.new.actor.me.0 c.call_beside.ensures.out

pub call_at_key-requires-clause-its : goal.call_at_key-requires-clause-its
call_at_key-requires-clause-its g c =
    (same_run c.args.actor.now.me.0 c.meet_single.new.actor.me.0 (met_runs c.args.actor.now.me.0 c.meet_single.new.actor.me.0 c.args.path.now.items c.args.given c.args.position c.args.slot
    c.requires.at (met.Found c.in-Found.value) c.in-Found.ensures.met)).actor ∙ c.requires.its

pub call_at_key-requires-clause-few : goal.call_at_key-requires-clause-few
call_at_key-requires-clause-few g c =
    few_then c.args.actor.now.me.0 c.meet_single.new.actor.me.0 (same_run c.args.actor.now.me.0 c.meet_single.new.actor.me.0 (met_runs c.args.actor.now.me.0 c.meet_single.new.actor.me.0
    c.args.path.now.items c.args.given c.args.position c.args.slot c.requires.at (met.Found c.in-Found.value) c.in-Found.ensures.met)) c.requires.few

pub call_beside-requires-clause-its : goal.call_beside-requires-clause-its
call_beside-requires-clause-its g c =
    (same_run c.args.actor.now.me.0 c.meet_single.new.actor.me.0 (met_runs c.args.actor.now.me.0 c.meet_single.new.actor.me.0 c.args.path.now.items c.args.given c.args.position c.args.slot
    c.requires.at met.Other c.in-Other.ensures.met)).actor ∙ c.requires.its

pub call_beside-requires-clause-few : goal.call_beside-requires-clause-few
call_beside-requires-clause-few g c =
    few_then c.args.actor.now.me.0 c.meet_single.new.actor.me.0 (same_run c.args.actor.now.me.0 c.meet_single.new.actor.me.0 (met_runs c.args.actor.now.me.0 c.meet_single.new.actor.me.0
    c.args.path.now.items c.args.given c.args.position c.args.slot c.requires.at met.Other c.in-Other.ensures.met)) c.requires.few
