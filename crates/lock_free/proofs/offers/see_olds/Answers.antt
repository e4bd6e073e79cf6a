use Rattle.std.proofs.Common.{◌*◌, ◌+◌, sym, subst}
use Rattle.lock_free.specs.Loading.{IsSound}
use Rattle.lock_free.specs.RootWords.{HasSeenOlds}
use Rattle.lock_free.proofs.Moments.{load_allowed}
use Rattle.lock_free.proofs.OfferSeen.{offer_inside, olds_told}
use Rattle.lock_free.proofs.offers.see_olds.Goals as goal

pub load-requires : goal.load-requires
load-requires c = (
  c.requires.table,
  (offer_inside c.args.words.now.table_id.words c.args.actor.now.me.0 c.requires.sound c.requires.known.0 c.args.offer c.requires.known.1).1,
  load_allowed c.args.words.now.key c.args.words.now.table_id.slots c.args.actor.now.id c.args.actor.now.me (2 * c.args.offer + 1) c.requires.sound.bounds.1,
)

pub returns-clause-seen : goal.returns-clause-seen
returns-clause-seen c =
    let v = c.args.actor.now.me.0 in
    let after = c.load.new.seat.me.0 in
    subst (λ x. HasSeenOlds v c.args.offer x after) (sym c.of_word.ensures) (olds_told v c.args.offer c.load.result after c.load.ensures.2.0)

pub returns-clause-sound : goal.returns-clause-sound
returns-clause-sound c = subst (λ n. IsSound n c.load.new.seat.me.0) (sym c.requires.sound.size) c.load.ensures.2.1
