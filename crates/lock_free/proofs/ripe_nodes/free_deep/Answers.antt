use Rattle.lock_free.proofs.FreesOn.{freed_more}
use Rattle.lock_free.proofs.ripe_nodes.free_deep.Goals as goal

pub returns-clause-freed : goal.returns-clause-freed
returns-clause-freed c =
    let v = c.args.actor.now.me.0 in
    let first = c.free_mains.new.actor.me.0 in
    let second = c.free_some.new.actor.me.0 in
    freed_more v second c.free_aged.new.actor.me.0 (freed_more v first second c.free_mains.ensures.freed c.free_some.ensures.freed) c.free_aged.ensures.freed
