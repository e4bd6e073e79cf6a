use Rattle.std.proofs.Common.{◌*◌, sym, subst}
use Rattle.lock_free.specs.Loading.{IsSound}
use Rattle.lock_free.specs.RootWords.{HasMetOffer}
use Rattle.lock_free.proofs.OfferMet.{meet_allowed, meet_told}
use Rattle.lock_free.proofs.OfferSeen.{offer_inside}
use Rattle.lock_free.proofs.offers.meet_offer.Goals as goal

pub load-requires : goal.load-requires
load-requires c = (
  c.requires.table,
  (offer_inside c.args.words.now.table_id.words c.args.actor.now.me.0 c.requires.sound c.args.handle c.args.offer c.requires.known).0,
  meet_allowed c.args.words.now.key c.args.words.now.table_id.slots c.args.actor.now.id c.args.actor.now.me c.requires.sound.bounds.1 c.args.handle (2 * c.args.offer) c.requires.asking,
)

pub returns-clause-met : goal.returns-clause-met
returns-clause-met c =
    let v = c.args.actor.now.me.0 in
    let after = c.load.new.seat.me.0 in
    subst (λ f. HasMetOffer v c.args.handle c.args.offer f after) (sym c.fate_of.ensures) (meet_told v c.args.handle c.args.offer c.load.result c.requires.known after c.load.ensures.2.0)

pub returns-clause-sound : goal.returns-clause-sound
returns-clause-sound c = subst (λ n. IsSound n c.load.new.seat.me.0) (sym c.requires.sound.size) c.load.ensures.2.1
