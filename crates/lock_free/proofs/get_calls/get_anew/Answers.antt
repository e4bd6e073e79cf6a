use Rattle.std.proofs.Common.{None, subst}
use Rattle.history.specs.declared.calls.Call.TheVariants.{Get}
use Rattle.lock_free.specs.Answering.{HasAnswered}
use Rattle.lock_free.proofs.get_calls.get_anew.Goals as goal

pub value_in-requires : goal.value_in-requires
value_in-requires g c = (c.in-Ok.ensures {u = tt}).told.3.fits

pub returns-in-Ok-clause-told : goal.returns-in-Ok-clause-told
returns-in-Ok-clause-told g c =
    let (last, in_vain, same, told) = (c.in-Ok.ensures {u = tt}).told in
    ((last, in_vain, same, subst (λ a. HasAnswered last (Get c.args.handle c.args.key) None a c.key_at_last.new.actor.me.0) c.value_in.ensures told.is), tt)

pub returns-in-Err-clause-told : goal.returns-in-Err-clause-told
returns-in-Err-clause-told g c =
    let (last, in_vain, same, told) = (c.in-Err.ensures {u = tt}).told in ((last, in_vain, same, told.is), told.why)
