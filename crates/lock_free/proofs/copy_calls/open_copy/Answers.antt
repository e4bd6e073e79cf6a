use Rattle.std.proofs.Common.{Ok, Err, refl}
use Rattle.lock_free.proofs.ToldAtLast.{last_number, last_refused, last_tells}
use Rattle.lock_free.proofs.copy_calls.open_copy.Goals as goal

pub handle_in-requires : goal.handle_in-requires
handle_in-requires g c =
    last_tells c.args.actor.now.me.0 c.run_at_last.new.actor.me.0 c.args.call c.requires.opens (Ok c.in-Ok.reply) (c.in-Ok.ensures {u = tt}).told c.in-Ok.reply refl

pub returns-in-Ok-clause-told : goal.returns-in-Ok-clause-told
returns-in-Ok-clause-told g c =
    last_number c.args.actor.now.me.0 c.run_at_last.new.actor.me.0 c.args.call c.requires.opens (Ok c.in-Ok.reply) (c.in-Ok.ensures {u = tt}).told c.in-Ok.reply refl c.handle_in.result
    c.handle_in.ensures

pub returns-in-Err-clause-told : goal.returns-in-Err-clause-told
returns-in-Err-clause-told g c =
    last_refused c.args.actor.now.me.0 c.run_at_last.new.actor.me.0 c.args.call c.requires.opens (Err c.in-Err.error) (c.in-Err.ensures {u = tt}).told c.in-Err.error refl

pub returns-in-Err-clause-why : goal.returns-in-Err-clause-why
returns-in-Err-clause-why g c = (c.in-Err.ensures {u = tt}).told.3.why
