use Rattle.std.proofs.Common.{◌≡◌, ◌<◌, ℕ, length, Some, slice_get}
use Rattle.history_scene.specs.Lanes.{workers_below, lane_of}
use Rattle.history_scene.proofs.lanes.lanes_of.Given as goal

abbrev pub invariant-loop-actor : goal.invariant-loop-actor
invariant-loop-actor l =
    (l.actors.items ≡ workers_below l.events l.actor) × (length l.lanes ≡ 256)
    × ((other : ℕ) → other < l.actor → slice_get l.lanes other ≡ Some (lane_of l.events other))
