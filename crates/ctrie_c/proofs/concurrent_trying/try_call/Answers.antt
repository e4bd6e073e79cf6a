use Rattle.ctrie_c.proofs.ConcurrentCalls.{makes_held}
use Rattle.ctrie_c.proofs.concurrent_trying.try_call.Goals as goal

pub returns-in-Some-clause-made : goal.returns-in-Some-clause-made
returns-in-Some-clause-made c =
    makes_held c.args.call c.try_call-told.result c.args.held.now.state c.give_caller.new.held.state c.in-Some.seat.value c.deref_mut.result.now c.try_call-told.new.self
    c.in-Some.ensures.some c.deref_mut.ensures.value c.give_caller.ensures c.try_call-told.ensures.same c.try_call-told.ensures.made
