use Rattle.std.proofs.Common.{take}
use Rattle.ctrie_base.specs.Hashes.{hash_of}
use Rattle.history.specs.Beginnings.{LeadsTo}
use Rattle.history.specs.Replays.{Marks}
use Rattle.history.proofs.orders.fault_in.Given as goal

abbrev pub invariant-loop-id : goal.invariant-loop-id
invariant-loop-id l =
    Marks l.events (take l.id-index l.order) l.replay.taken.items l.replay.latest
    × LeadsTo (hash_of l.hash) l.events (take l.id-index l.order) l.replay.world
