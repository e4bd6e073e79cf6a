use Rattle.std.proofs.Common.{◌+◌, ◌*◌, ◌/◌, refl, sym, subst}
use Rattle.lock_free.specs.Loading.{IsSound, HasSeenPair}
use Rattle.lock_free.proofs.Looking.{saw, seen_pair}
use Rattle.lock_free.proofs.Moments.{load_allowed}
use Rattle.lock_free.proofs.Within.{pair_inside}
use Rattle.lock_free.proofs.loads.see_pair.Goals as goal

pub load-requires : goal.load-requires
load-requires c = (
  c.requires.table,
  pair_inside c.args.words.now.table_id.words c.args.actor.now.me.0 c.requires.sound c.args.main c.args.position c.requires.held,
  load_allowed c.args.words.now.key c.args.words.now.table_id.slots c.args.actor.now.id c.args.actor.now.me (2 * c.args.main + 1 + c.args.position / 2) c.requires.sound.bounds.1,
)

pub returns-clause-seen : goal.returns-clause-seen
returns-clause-seen c =
    let v = c.args.actor.now.me.0 in
    let after = c.load.new.seat.me.0 in
    let word = 2 * c.args.main + 1 + c.args.position / 2 in
    let seen = c.load.ensures.2.0 in
    subst (λ x. HasSeenPair v c.args.main c.args.position x after) (sym c.of_word.ensures)
    (saw v c.args.main word c.load.result after seen, seen_pair v c.args.main word c.load.result after seen c.args.position refl)

pub returns-clause-sound : goal.returns-clause-sound
returns-clause-sound c = subst (λ n. IsSound n c.load.new.seat.me.0) (sym c.requires.sound.size) c.load.ensures.2.1
