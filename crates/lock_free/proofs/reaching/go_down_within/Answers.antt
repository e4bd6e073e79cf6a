use Rattle.std.proofs.Common.{◌<◌, length, refl, sym, subst, ◌∙◌}
use Rattle.lock_free.specs.Descending.{HasGoneBelow, IsDescending, IsOnPath}
use Rattle.lock_free.specs.Leaving.{OrSpent}
use Rattle.lock_free.specs.Reaching.{HasGone, HasReached}
use Rattle.lock_free.proofs.LevelPassed.{level_spent, way_spent, begins, level_ready, next_level}
use Rattle.lock_free.proofs.PlacesReached.{reached_down}
use Rattle.lock_free.proofs.reaching.go_down_within.Goals as goal

pub loop-init : goal.loop-init
loop-init c = (refl, c.requires.sound, begins c.args.actor.now.me.0 c.args.task.now c.args.path.now.items c.requires.task c.requires.at)

pub go_through-requires-clause-table : goal.go_through-requires-clause-table
go_through-requires-clause-table c = c.loop.invariant.0 ∙ c.requires.table

pub go_through-requires-clause-sound : goal.go_through-requires-clause-sound
go_through-requires-clause-sound c = c.loop.invariant.1

pub go_through-requires-clause-task : goal.go_through-requires-clause-task
go_through-requires-clause-task c = c.loop.invariant.2.its

pub go_through-requires-clause-some : goal.go_through-requires-clause-some
go_through-requires-clause-some c = subst (λ xs. 0 < length xs) (sym c.as_slice.ensures.value) c.loop.invariant.2.some

pub go_through-requires-clause-at : goal.go_through-requires-clause-at
go_through-requires-clause-at c =
    subst (λ xs. IsOnPath c.loop.actor.me.0 xs) (sym c.as_slice.ensures.value)
    (level_ready c.args.actor.now.me.0 c.args.path.now.items c.requires.at c.args.task.now c.loop.path.items c.loop.actor.me.0 c.loop.invariant.2)

pub loop-preserved : goal.loop-preserved
loop-preserved c = (
  c.go_through.ensures.table ∙ c.loop.invariant.0,
  c.go_through.ensures.sound,
  subst (λ xs. IsDescending c.args.actor.now.me.0 c.args.task.now xs c.go_through.new.actor.me.0) (sym c.push.ensures.items)
      (next_level c.args.actor.now.me.0 c.args.path.now.items c.requires.at c.args.task.now c.loop.path.items c.loop.actor.me.0 c.loop.invariant.2 c.in-Below.slot c.go_through.new.actor.me.0
      (subst (λ xs. HasGoneBelow c.loop.actor.me.0 xs c.in-Below.slot c.go_through.new.actor.me.0) c.as_slice.ensures.value (subst (λ s. HasGone c.loop.actor.me.0 c.args.task.now
      c.as_slice.result.now s c.go_through.new.actor.me.0) c.in-Below.is (c.in-Some.ensures {u = tt}).gone))),
)

pub returns-in-Here-clause-table : goal.returns-in-Here-clause-table
returns-in-Here-clause-table c = c.go_through.ensures.table ∙ c.loop.invariant.0

pub returns-in-Here-clause-reached : goal.returns-in-Here-clause-reached
returns-in-Here-clause-reached c =
    reached_down c.args.actor.now.me.0 c.args.task.now c.loop.path.items c.loop.actor.me.0 c.loop.invariant.2 c.in-Here.reached c.go_through.new.actor.me.0
    (subst (λ xs. HasReached c.loop.actor.me.0 c.args.task.now xs c.in-Here.reached c.go_through.new.actor.me.0) c.as_slice.ensures.value (subst (λ s. HasGone c.loop.actor.me.0
    c.args.task.now c.as_slice.result.now s
    c.go_through.new.actor.me.0) c.in-Here.is (c.in-Some.ensures {u = tt}).gone))

pub returns-in_default-clause-table : goal.returns-in_default-clause-table
returns-in_default-clause-table c = c.go_through.ensures.table ∙ c.loop.invariant.0

pub returns-in_default-clause-reached : goal.returns-in_default-clause-reached
returns-in_default-clause-reached c =
    level_spent c.args.actor.now.me.0 c.args.path.now.items c.requires.at c.args.task.now c.loop.path.items c.loop.actor.me.0 c.loop.invariant.2 c.go_through.new.actor.me.0
    (subst (λ r. OrSpent (λ s. HasGone c.loop.actor.me.0 c.args.task.now c.as_slice.result.now s c.go_through.new.actor.me.0) r c.loop.actor.me.0 c.go_through.new.actor.me.0) c.in_default.is
    c.go_through.ensures.gone)

pub returns-clause-table : goal.returns-clause-table
returns-clause-table c = c.loop.invariant.0

pub returns-clause-sound : goal.returns-clause-sound
returns-clause-sound c = c.loop.invariant.1

pub returns-clause-reached : goal.returns-clause-reached
returns-clause-reached c =
    way_spent c.args.actor.now.me.0 c.args.path.now.items c.requires.at c.args.task.now c.loop.path.items c.loop.actor.me.0 c.loop.invariant.2

pub returns-in-Here-clause-some : goal.returns-in-Here-clause-some
returns-in-Here-clause-some c = c.loop.invariant.2.some

pub returns-in_default-clause-some : goal.returns-in_default-clause-some
returns-in_default-clause-some c = c.loop.invariant.2.some

pub returns-clause-some : goal.returns-clause-some
returns-clause-some c = c.loop.invariant.2.some
