-- The way is open, and the operation is its choice. It gets shorter.
use Rattle.std.proofs.Common.{length}
use Rattle.order_search.specs.Vocabulary.{hash_of}
use Rattle.order_search.specs.Marks.{Chooses}
use Rattle.order_search.specs.States.{AreFailures}
use Rattle.order_search.specs.Walks.{IsOpenWay}
use Rattle.order_search.proofs.walking.Way.next_operation.Given as goal

abbrev pub decreases-loop-found : goal.decreases-loop-found
decreases-loop-found l = length l.self.ids.items

abbrev pub invariant-loop-found : goal.invariant-loop-found
invariant-loop-found l = IsOpenWay (hash_of l.hash) l.events l.self × Chooses l.found l.events l.self.taken.items l.self.next × AreFailures (hash_of l.hash) l.events l.failures
