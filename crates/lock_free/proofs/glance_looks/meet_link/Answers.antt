use Rattle.lock_free.specs.GoingDown.{HasMetLink, IsAtBelow}
use Rattle.lock_free.specs.Loading.{HasLookedAtLink}
use Rattle.lock_free.proofs.OneGlance.Together.{on_as, on_self}
use Rattle.lock_free.proofs.OneGlance.Turns.{below_there}
use Rattle.lock_free.proofs.LinkMeets.{meets_link}
use Rattle.lock_free.proofs.glance_looks.meet_link.Goals as goal

pub look_at_link-requires-clause-looking : goal.look_at_link-requires-clause-looking
look_at_link-requires-clause-looking c g is known = below_there _ c.args.indirection (c.requires.at g is known)

pub returns-then-not-is_inside-clause-met : goal.returns-then-not-is_inside-clause-met
returns-then-not-is_inside-clause-met c = on_self c.args.words.now.table_id.words c.args.actor.now.me.0 c.requires.glances (λ x y. Unit {0}) (λ x. tt)

pub returns-clause-met : goal.returns-clause-met
returns-clause-met c =
    let n = c.args.words.now.table_id.words in
    let link = c.look_at_link.result in
    on_as n c.args.actor.now.me.0 c.look_at_link.new.actor.me.0 c.requires.glances (λ x y. HasLookedAtLink x link y) c.look_at_link.ensures.read (λ x. IsAtBelow x c.args.indirection)
    (λ x y. HasMetLink x link y) c.requires.at (λ x y s p t looked. meets_link n x y s c.args.indirection p t link looked)
