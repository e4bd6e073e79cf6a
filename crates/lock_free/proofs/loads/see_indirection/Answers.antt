use Rattle.std.proofs.Common.{◌*◌, refl, sym, subst}
use Rattle.lock_free.specs.Loading.{IsSound, HasSeenIndirection}
use Rattle.lock_free.proofs.Looking.{saw, seen_link}
use Rattle.lock_free.proofs.Moments.{load_allowed}
use Rattle.lock_free.proofs.Within.{both_inside, held_lives}
use Rattle.lock_free.proofs.loads.see_indirection.Goals as goal

pub load-requires : goal.load-requires
load-requires c = (
  c.requires.table,
  (both_inside c.args.words.now.table_id.words c.args.actor.now.me.0 c.requires.sound c.requires.held.0 c.args.indirection
      (held_lives c.args.actor.now.me.0 c.requires.held.0 c.requires.held.1) c.requires.held.2).0,
  load_allowed c.args.words.now.key c.args.words.now.table_id.slots c.args.actor.now.id c.args.actor.now.me (2 * c.args.indirection) c.requires.sound.bounds.1,
)

pub returns-clause-seen : goal.returns-clause-seen
returns-clause-seen c =
    let v = c.args.actor.now.me.0 in
    let after = c.load.new.seat.me.0 in
    let word = 2 * c.args.indirection in
    let seen = c.load.ensures.2.0 in
    subst (λ x. HasSeenIndirection v c.args.indirection x after) (sym c.of_word.ensures) (
      saw v c.args.indirection word c.load.result after seen,
      seen_link v c.args.indirection word c.load.result after seen refl,
    )

pub returns-clause-sound : goal.returns-clause-sound
returns-clause-sound c = subst (λ n. IsSound n c.load.new.seat.me.0) (sym c.requires.sound.size) c.load.ensures.2.1
