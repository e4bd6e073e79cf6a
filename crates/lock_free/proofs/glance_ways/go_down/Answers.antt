use Rattle.std.proofs.Common.{◌<◌, ◌++◌, ◌∷◌, [], Option, IfSome, length, refl, sym, subst, ◌∙◌, arith}
use Rattle.std.proofs.lemmas.List.{length-append}
use Rattle.lock_free.specs.declared.reaching.Level.{Level}
use Rattle.lock_free.specs.declared.reaching.Level.TheVariants as level
use Rattle.lock_free.specs.Descending.{IsDescending, IsOnPath, IsTask}
use Rattle.lock_free.specs.GlanceGets.{GlancesOn, WhileItCounts}
use Rattle.lock_free.specs.Reaching.{HasGone, HasReached}
use Rattle.lock_free.proofs.OneGlance.Together.{glance_then, on_now, on_on, while_on}
use Rattle.lock_free.proofs.LevelPassed.{begins, level_ready, next_level}
use Rattle.lock_free.proofs.PlacesReached.{reached_down}
use Rattle.lock_free.proofs.glance_ways.go_down.Goals as goal

pub loop-init : goal.loop-init
loop-init c = (
  refl,
  c.requires.some,
  on_now c.args.words.now.table_id.words c.args.actor.now.me.0 c.requires.glances (λ x. IsTask x c.args.task.now × IsOnPath x c.args.path.now.items)
      (λ x y. IsDescending x c.args.task.now c.args.path.now.items y) c.requires.at (λ x s p. begins x c.args.task.now c.args.path.now.items p.0 p.1),
)

pub go_through-requires-clause-table : goal.go_through-requires-clause-table
go_through-requires-clause-table c = c.loop.invariant.0 ∙ c.requires.table

pub go_through-requires-clause-glances : goal.go_through-requires-clause-glances
go_through-requires-clause-glances c =
    glance_then c.args.words.now.table_id.words c.args.actor.now.me.0 c.requires.glances (λ x y. IsDescending x c.args.task.now c.loop.path.items y) c.loop.actor.me.0 c.loop.invariant.2

pub go_through-requires-clause-some : goal.go_through-requires-clause-some
go_through-requires-clause-some c = subst (λ xs. 0 < length xs) (sym c.as_slice.ensures.value) c.loop.invariant.1

pub go_through-requires-clause-at : goal.go_through-requires-clause-at
go_through-requires-clause-at c =
    let n = c.args.words.now.table_id.words in
    let task = c.args.task.now in
    let first = c.args.path.now.items in
    subst (λ xs. WhileItCounts (λ v. IsTask v task × IsOnPath v xs) c.loop.actor.me.0) (sym c.as_slice.ensures.value)
    (while_on n c.args.actor.now.me.0 c.loop.actor.me.0 c.requires.glances (λ x y. IsDescending x task c.loop.path.items y) c.loop.invariant.2 (λ x. IsTask x task × IsOnPath x first)
    (λ y. IsTask y task × IsOnPath y c.loop.path.items) c.requires.at (λ x y s p t d. (d.its, level_ready x first p.1 task c.loop.path.items y d)))

pub loop-preserved : goal.loop-preserved
loop-preserved c =
    let n = c.args.words.now.table_id.words in
    let task = c.args.task.now in
    let first = c.args.path.now.items in
    let slots = c.loop.path.items in
    let slot = c.in-Below.slot in
    let u = c.args.actor.now.me.0 in
    let v = c.loop.actor.me.0 in
    let w = c.go_through.new.actor.me.0 in
    let gone = subst (λ xs. GlancesOn n (λ x y. IfSome c.go_through.result (λ l. HasGone x task xs l y)) v w) c.as_slice.ensures.value c.go_through.ensures.gone in
    let some = subst (λ (r : Option Level). GlancesOn n (λ x y. IfSome r (λ l. HasGone x task slots l y)) v w) c.in-Some.is gone in
    let below = subst (λ l. GlancesOn n (λ x y. HasGone x task slots l y) v w) c.in-Below.is some in
    let on = on_on n u v c.requires.glances (λ x y. IsDescending x task slots y) c.loop.invariant.2 w (λ x y. HasGone x task slots (level.Below slot) y) below (λ x. IsTask x task × IsOnPath x first)
    (λ x z. IsDescending x task (slots ++ slot ∷ []) z) c.requires.at (λ x y z s p t d e h. next_level x first p.1 task slots y d slot z h) in
    let longer = length-append slots (slot ∷ []) in (
      c.go_through.ensures.table ∙ c.loop.invariant.0,
      subst (λ xs. 0 < length xs) (sym c.push.ensures.items) (omega (arith, longer)),
      subst (λ xs. GlancesOn n (λ x z. IsDescending x task xs z) u w) (sym c.push.ensures.items) on,
    )

pub returns-in-Here-clause-table : goal.returns-in-Here-clause-table
returns-in-Here-clause-table c = c.go_through.ensures.table ∙ c.loop.invariant.0

pub returns-in-Here-clause-reached : goal.returns-in-Here-clause-reached
returns-in-Here-clause-reached c =
    let n = c.args.words.now.table_id.words in
    let task = c.args.task.now in
    let first = c.args.path.now.items in
    let slots = c.loop.path.items in
    let reached = c.in-Here.reached in
    let u = c.args.actor.now.me.0 in
    let v = c.loop.actor.me.0 in
    let w = c.go_through.new.actor.me.0 in
    let gone = subst (λ xs. GlancesOn n (λ x y. IfSome c.go_through.result (λ l. HasGone x task xs l y)) v w) c.as_slice.ensures.value c.go_through.ensures.gone in
    let some = subst (λ (r : Option Level). GlancesOn n (λ x y. IfSome r (λ l. HasGone x task slots l y)) v w) c.in-Some.is gone in
    let here = subst (λ l. GlancesOn n (λ x y. HasGone x task slots l y) v w) c.in-Here.is some in
    on_on n u v c.requires.glances (λ x y. IsDescending x task slots y) c.loop.invariant.2 w (λ x y. HasGone x task slots (level.Here reached) y) here (λ x. IsTask x task × IsOnPath x first)
    (λ x z. HasReached x task slots reached z) c.requires.at (λ x y z s p t d e h. reached_down x task slots y d reached z h)
