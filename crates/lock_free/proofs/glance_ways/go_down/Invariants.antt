use Rattle.std.proofs.Common.{◌≡◌, ◌<◌, length}
use Rattle.lock_free.specs.Descending.{IsDescending}
use Rattle.lock_free.specs.GlanceGets.{GlancesOn}
use Rattle.lock_free.proofs.glance_ways.go_down.Given as goal

abbrev pub invariant-loop : goal.invariant-loop
invariant-loop l =
    (l.actor.table_id ≡ l.initial.actor.table_id) × (0 < length l.path.items)
    × GlancesOn l.words.table_id.words (λ x y. IsDescending x l.task l.path.items y) l.initial.actor.me.0 l.actor.me.0
