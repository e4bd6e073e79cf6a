use Rattle.history.specs.declared.calls.Call.TheVariants as call
use Rattle.history.specs.declared.replies.Reply.TheVariants as reply
use Rattle.ctrie_c.proofs.ConcurrentCalls.{does_none}
use Rattle.ctrie_c.specs.Threading.{SaysCount, Walks}
use Rattle.ctrie_c.proofs.concurrent_reading.ctrie_concurrent_try_count.Goals as goal

pub returns-in-None-clause-does : goal.returns-in-None-clause-does
returns-in-None-clause-does c =
    does_none (Walks reply.Count (call.Count c.args.handle)) (SaysCount c.args.count.now) c.args.held.now.state c.take_caller.new.held.state c.in-None.ensures.none c.take_caller.ensures.empty
