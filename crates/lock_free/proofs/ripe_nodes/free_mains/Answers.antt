use Rattle.lock_free.proofs.FreesOn.{freed_more}
use Rattle.lock_free.proofs.ripe_nodes.free_mains.Goals as goal

pub returns-clause-freed : goal.returns-clause-freed
returns-clause-freed c =
    let v = c.args.actor.now.me.0 in
    let first = c.free_some.new.actor.me.0 in
    let second = c.free_some-2.new.actor.me.0 in
    freed_more v second c.free_some-3.new.actor.me.0 (freed_more v first second c.free_some.ensures.freed c.free_some-2.ensures.freed) c.free_some-3.ensures.freed
