use Rattle.std.proofs.Common.{◌≡◌, ◌≤◌, length}
use Rattle.history_scene.specs.Placing.{AreLate, IsEarliest}
use Rattle.history_scene.proofs.late.late_of.Given as goal

abbrev pub decreases-loop-place : goal.decreases-loop-place
decreases-loop-place l = l.place

abbrev pub invariant-loop-place : goal.invariant-loop-place
invariant-loop-place l =
    (l.place ≤ length l.order) × (length l.late.items ≡ length l.order) × IsEarliest l.events l.order l.place l.earliest × AreLate l.events l.order l.place l.late.items
