use Rattle.ctrie_c.proofs.ConcurrentCalls.{does_none}
use Rattle.ctrie_c.specs.Threading.{Closes, SaysDone}
use Rattle.ctrie_c.proofs.concurrent_changing.ctrie_concurrent_close.Goals as goal

pub returns-in-None : goal.returns-in-None
returns-in-None c = does_none (Closes c.args.handle) SaysDone c.args.held.now.state c.take_caller.new.held.state c.in-None.ensures.none c.take_caller.ensures.empty
