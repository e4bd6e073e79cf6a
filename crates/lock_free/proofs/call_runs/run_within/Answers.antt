use Rattle.std.proofs.Common.{inl, inr, ◌∙◌}
use Rattle.lock_free.proofs.CallsBegun.{begun_so, not_begun}
use Rattle.lock_free.proofs.CallBegins.{opens_begun}
use Rattle.lock_free.proofs.CallNumbers.{plain_none}
use Rattle.lock_free.proofs.CallsUnderWay.{begun_left, begun_run}
use Rattle.lock_free.proofs.CopiesParked.{begun_low, begun_opens}
use Rattle.lock_free.proofs.WholeCalls.{begun_called, begun_try, tried_ready}
use Rattle.lock_free.proofs.call_runs.run_within.Goals as goal

pub begin_call_within-requires-clause-ready : goal.begin_call_within-requires-clause-ready
begin_call_within-requires-clause-ready c =
    tried_ready c.args.actor.now.me.0 c.args.opens c.requires.ready c.args.call c.requires.tried c.requires.number

pub run_begun-requires-clause-called : goal.run_begun-requires-clause-called
run_begun-requires-clause-called c =
    let v = c.args.actor.now.me.0 in
    let u = c.begin_call_within.new.actor.me.0 in
    begun_called v c.args.opens c.requires.ready c.args.call c.in-Ok.way u (begun_so v c.args.call c.in-Ok.way u (c.in-Ok.ensures {u = tt}).begun)

pub run_begun-requires-clause-way : goal.run_begun-requires-clause-way
run_begun-requires-clause-way c =
    let v = c.args.actor.now.me.0 in
    let u = c.begin_call_within.new.actor.me.0 in
    (begun_so v c.args.call c.in-Ok.way u (c.in-Ok.ensures {u = tt}).begun).3

pub run_begun-requires-clause-low : goal.run_begun-requires-clause-low
run_begun-requires-clause-low c =
    let v = c.args.actor.now.me.0 in
    let u = c.begin_call_within.new.actor.me.0 in
    begun_low v c.args.opens c.requires.ready c.args.call c.in-Ok.way u (begun_so v c.args.call c.in-Ok.way u (c.in-Ok.ensures {u = tt}).begun) c.requires.low

pub run_begun-requires-clause-opens : goal.run_begun-requires-clause-opens
run_begun-requires-clause-opens c =
    let v = c.args.actor.now.me.0 in
    let u = c.begin_call_within.new.actor.me.0 in
    begun_opens v c.args.opens c.requires.ready c.args.call c.in-Ok.way u (begun_so v c.args.call c.in-Ok.way u (c.in-Ok.ensures {u = tt}).begun) c.requires.number c.requires.reserved

pub run_begun-requires-clause-at : goal.run_begun-requires-clause-at
run_begun-requires-clause-at c =
    let v = c.args.actor.now.me.0 in
    let u = c.begin_call_within.new.actor.me.0 in
    begun_try v c.args.opens c.requires.ready c.args.call c.in-Ok.way u (begun_so v c.args.call c.in-Ok.way u (c.in-Ok.ensures {u = tt}).begun) c.requires.tried

pub run_begun-requires-clause-unopened : goal.run_begun-requires-clause-unopened
run_begun-requires-clause-unopened c plain =
    let v = c.args.actor.now.me.0 in
    let u = c.begin_call_within.new.actor.me.0 in
    opens_begun v c.args.opens c.requires.ready c.args.call c.in-Ok.way u
    (begun_so v c.args.call c.in-Ok.way u (c.in-Ok.ensures {u = tt}).begun) ∙ plain_none c.args.call c.args.opens c.requires.number plain

pub returns-in-Ok-clause-run : goal.returns-in-Ok-clause-run
returns-in-Ok-clause-run c =
    let v = c.args.actor.now.me.0 in
    let u = c.begin_call_within.new.actor.me.0 in
    let run = c.run_begun.ensures.run in
    inl (begun_run c.args.words.now.table_id.words v c.requires.sound c.args.opens c.requires.ready c.args.call c.in-Ok.way u c.begin_call_within.ensures.sound
    (begun_so v c.args.call c.in-Ok.way u (c.in-Ok.ensures {u = tt}).begun) run.0 run.1 c.run_begun.result c.run_begun.new.actor.me.0 run.2)

pub returns-in-Ok-clause-left : goal.returns-in-Ok-clause-left
returns-in-Ok-clause-left c =
    let v = c.args.actor.now.me.0 in
    let u = c.begin_call_within.new.actor.me.0 in
    let run = c.run_begun.ensures.run in
    begun_left c.args.words.now.table_id.words v c.requires.sound c.args.opens c.requires.ready c.args.call c.in-Ok.way u c.begin_call_within.ensures.sound
    (begun_so v c.args.call c.in-Ok.way u (c.in-Ok.ensures {u = tt}).begun) run.0 run.1 c.run_begun.result c.run_begun.new.actor.me.0 run.2 c.requires.number

pub returns-in-Err-clause-run : goal.returns-in-Err-clause-run
returns-in-Err-clause-run c =
    let v = c.args.actor.now.me.0 in
    let u = c.begin_call_within.new.actor.me.0 in
    elim (not_begun v c.args.call c.in-Err.why u (c.in-Err.ensures {u = tt}).begun) [
      | inl denied ↦ inl (inr denied)
      | inr late ↦ inr late
    ]

pub returns-in-Err-clause-left : goal.returns-in-Err-clause-left
returns-in-Err-clause-left c =
    (c.in-Err.ensures {u = tt}).rests c.args.opens c.requires.ready
