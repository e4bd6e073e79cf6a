use Rattle.std.proofs.Common.{None, subst}
use Rattle.history.specs.declared.calls.Call.TheVariants.{Get}
use Rattle.lock_free.specs.Answering.{HasAnswered}
use Rattle.lock_free.proofs.get_runs.get_spent.Goals as goal

pub value_in-requires : goal.value_in-requires
value_in-requires g c =
    let out = (c.in-Ok.ensures {u = tt}).out in
    (out.0 c.requires.under.0 c.requires.under.1).fits

pub returns-in-Ok-clause-told : goal.returns-in-Ok-clause-told
returns-in-Ok-clause-told g c before under =
    let out = (c.in-Ok.ensures {u = tt}).out in
    (subst (λ a. HasAnswered before (Get c.args.handle c.args.key) None a c.spent_on.new.actor.me.0) c.value_in.ensures (out.0 before under).is, tt)

pub returns-in-Err-clause-told : goal.returns-in-Err-clause-told
returns-in-Err-clause-told g c before under =
    let out = (c.in-Err.ensures {u = tt}).out in
    let told = out.0 before under in
    (told.is, told.why)

pub returns-in-Ok-clause-left : goal.returns-in-Ok-clause-left
returns-in-Ok-clause-left g c = (c.in-Ok.ensures {u = tt}).out.1

pub returns-in-Err-clause-left : goal.returns-in-Err-clause-left
returns-in-Err-clause-left g c = (c.in-Err.ensures {u = tt}).out.1
