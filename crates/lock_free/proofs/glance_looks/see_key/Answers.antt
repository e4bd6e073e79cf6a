use Rattle.std.proofs.Common.{◌*◌, refl}
use Rattle.lock_free.specs.Loading.{HasSeen, HasSeenKey}
use Rattle.lock_free.proofs.OneGlance.Together.{on_as}
use Rattle.lock_free.proofs.Looking.{saw, seen_key}
use Rattle.lock_free.proofs.glance_looks.see_key.Goals as goal

pub returns-clause-seen : goal.returns-clause-seen
returns-clause-seen c =
    let word = 2 * c.args.single in
    let found = c.see.result in
    on_as c.args.words.now.table_id.words c.args.actor.now.me.0 c.see.new.actor.me.0 c.requires.glances (λ x y. HasSeen x word found y) c.see.ensures.on (λ x. Unit {0})
    (λ x y. HasSeenKey x c.args.single found y) (λ g is known. tt)
    (λ x y s p t seen. (saw x c.args.single word found y seen, seen_key x c.args.single word found y seen refl))
