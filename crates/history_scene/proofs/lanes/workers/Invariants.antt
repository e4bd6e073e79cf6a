use Rattle.std.proofs.Common.{◌≡◌, ◌<◌, ℕ, length, take, Some, slice_get}
use Rattle.history_scene.specs.Lanes.{works}
use Rattle.history_scene.proofs.lanes.workers.Given as goal

abbrev pub invariant-loop-event : goal.invariant-loop-event
invariant-loop-event l =
    (length l.works ≡ 256) × ((actor : ℕ) → actor < 256 → slice_get l.works actor ≡ Some (works (take l.event-index l.events) actor))
