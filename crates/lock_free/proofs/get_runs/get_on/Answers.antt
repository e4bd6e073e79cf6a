use Rattle.std.proofs.Common.{None, Ok, Err, subst}
use Rattle.history.specs.declared.calls.Call.TheVariants.{Get}
use Rattle.lock_free.specs.Answering.{HasAnswered}
use Rattle.lock_free.specs.KeyRuns.{IsDone}
use Rattle.lock_free.proofs.get_runs.get_on.Goals as goal

pub value_in-requires : goal.value_in-requires
value_in-requires g c =
    let out = subst (λ k. IsDone c.args.actor.now.me.0 k (Ok c.in-Ok.reply) c.reached_on.new.actor.me.0) c.requires.asked (c.in-Ok.ensures {u = tt}).out in
    (out.0 c.requires.under.0 c.requires.under.1).fits

pub returns-in-Ok-clause-told : goal.returns-in-Ok-clause-told
returns-in-Ok-clause-told g c before under =
    let out = subst (λ k. IsDone c.args.actor.now.me.0 k (Ok c.in-Ok.reply) c.reached_on.new.actor.me.0) c.requires.asked (c.in-Ok.ensures {u = tt}).out in
    (subst (λ a. HasAnswered before (Get c.args.handle c.args.key) None a c.reached_on.new.actor.me.0) c.value_in.ensures (out.0 before under).is, tt)

pub returns-in-Err-clause-told : goal.returns-in-Err-clause-told
returns-in-Err-clause-told g c before under =
    let out = subst (λ k. IsDone c.args.actor.now.me.0 k (Err c.in-Err.error) c.reached_on.new.actor.me.0) c.requires.asked (c.in-Err.ensures {u = tt}).out in
    let told = out.0 before under in
    (told.is, told.why)

pub returns-in-Ok-clause-left : goal.returns-in-Ok-clause-left
returns-in-Ok-clause-left g c = (c.in-Ok.ensures {u = tt}).out.1

pub returns-in-Err-clause-left : goal.returns-in-Err-clause-left
returns-in-Err-clause-left g c = (c.in-Err.ensures {u = tt}).out.1
