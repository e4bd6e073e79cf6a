use Rattle.std.proofs.Common.{◌*◌, ◌+◌, refl}
use Rattle.machine_model.specs.declared.actions.Action.TheVariants as act
use Rattle.lock_free.specs.GlanceGets.{LooksAt}
use Rattle.lock_free.specs.Loading.{HasGone, HasLookedAtValue}
use Rattle.lock_free.proofs.OneGlance.Together.{on_as}
use Rattle.lock_free.proofs.OneGlance.Turns.{looking}
use Rattle.lock_free.proofs.Looking.{went, looked_value}
use Rattle.lock_free.proofs.glance_looks.look_at_value.Goals as goal

pub go-requires-clause-looks : goal.go-requires-clause-looks
go-requires-clause-looks c g is known = looking _ act.Look c.args.single (λ r. tt) (c.requires.looking g is known)

pub returns-clause-read : goal.returns-clause-read
returns-clause-read c =
    let n = c.args.words.now.table_id.words in
    let u = c.args.actor.now.me.0 in
    let v = c.go.new.actor.me.0 in
    let word = 2 * c.args.single + 1 in
    let found = c.go.result in
    on_as n u v c.requires.glances (λ x y. HasGone x word found y) c.go.ensures.on (λ x. LooksAt x act.Look c.args.single) (λ x y. HasLookedAtValue x found y) c.requires.looking
    (λ x y s p t gone. (went x c.args.single word found y gone, looked_value x c.args.single word found y gone p.0 refl))
