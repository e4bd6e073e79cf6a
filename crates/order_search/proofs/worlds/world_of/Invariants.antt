-- The world so far is that to which the operations so far lead, if all lead to one.
use Rattle.std.proofs.Common.{List, take}
use Rattle.order_search.specs.Vocabulary.{hash_of, Event, HandleMap, Records, LeadsTo}
use Rattle.order_search.proofs.worlds.world_of.Given as goal

abbrev pub invariant-loop-id : goal.invariant-loop-id
invariant-loop-id l =
    (history : List Event) (last : HandleMap) → Records history l.table → LeadsTo (hash_of l.hash) history l.ids last → LeadsTo (hash_of l.hash) history (take l.id-index l.ids) l.world
