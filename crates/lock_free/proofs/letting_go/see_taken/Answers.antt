use Rattle.std.proofs.Common.{sym, subst}
use Rattle.lock_free.specs.Halves.{entries_of_halves}
use Rattle.lock_free.specs.SeenNames.{HasSeenTaken}
use Rattle.lock_free.proofs.SeenMains.{all_taken, none_taken}
use Rattle.lock_free.proofs.letting_go.see_taken.Goals as goal

pub returns-else-replaced-clause-seen : goal.returns-else-replaced-clause-seen
returns-else-replaced-clause-seen c =
    subst (λ hs. HasSeenTaken c.args.actor.now.me.0 c.args.replaced (entries_of_halves hs) c.args.actor.now.me.0) (sym c.requires.none)
    (none_taken c.args.actor.now.me.0 c.args.replaced c.if-replaced.false)

pub returns-then-replaced-clause-seen : goal.returns-then-replaced-clause-seen
returns-then-replaced-clause-seen c =
    all_taken c.args.actor.now.me.0 c.see_names.new.actor.me.0 c.args.replaced (entries_of_halves c.see_names.new.halves.items) c.if-replaced.true c.see_names.ensures.seen
