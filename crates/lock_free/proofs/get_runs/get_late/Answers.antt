use Rattle.std.proofs.Common.{None, subst}
use Rattle.history.specs.declared.calls.Call.TheVariants.{Get}
use Rattle.lock_free.specs.Answering.{HasAnswered}
use Rattle.lock_free.proofs.CallsBegun.{still_now}
use Rattle.lock_free.proofs.get_runs.get_late.Goals as goal

pub value_in-requires : goal.value_in-requires
value_in-requires g c =
    let v = c.args.actor.now.me.0 in
    ((c.in-Ok.ensures {u = tt}).told v (still_now c.args.words.now.table_id.words v (Get c.args.handle c.args.key) c.requires.sound c.requires.ready)).fits

pub returns-in-Ok-clause-told : goal.returns-in-Ok-clause-told
returns-in-Ok-clause-told g c before still =
    (subst (λ a. HasAnswered before (Get c.args.handle c.args.key) None a c.call_late.new.actor.me.0) c.value_in.ensures ((c.in-Ok.ensures {u = tt}).told before still).is, tt)

pub returns-in-Err-clause-told : goal.returns-in-Err-clause-told
returns-in-Err-clause-told g c before still =
    let told = (c.in-Err.ensures {u = tt}).told before still in
    (told.is, told.why)
