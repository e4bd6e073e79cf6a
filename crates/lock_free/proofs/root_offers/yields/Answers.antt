use Rattle.std.proofs.Common.{sym, subst}
use Rattle.lock_free.specs.Loading.{IsSound}
use Rattle.lock_free.specs.RootOffers.{HasYielded}
use Rattle.lock_free.proofs.OfferSeen.{offer_inside}
use Rattle.lock_free.proofs.YieldStep.{yield_allowed, yield_told}
use Rattle.lock_free.proofs.root_offers.yields.Goals as goal

pub load-requires : goal.load-requires
load-requires c = (
  c.requires.table,
  (offer_inside c.args.words.now.table_id.words c.args.actor.now.me.0 c.requires.sound _ c.args.met c.requires.met.2).0,
  yield_allowed c.args.words.now.key c.args.words.now.table_id.slots c.args.actor.now.id c.args.actor.now.me c.requires.sound.bounds.1 c.args.met c.requires.met,
)

pub returns-clause-yielded : goal.returns-clause-yielded
returns-clause-yielded c =
    let v = c.args.actor.now.me.0 in
    let after = c.load.new.seat.me.0 in
    subst (λ f. HasYielded v c.args.met f after) (sym c.fate_of.ensures) (yield_told v _ c.args.met c.load.result c.requires.met.2 after c.load.ensures.2.0)

pub returns-clause-sound : goal.returns-clause-sound
returns-clause-sound c = subst (λ n. IsSound n c.load.new.seat.me.0) (sym c.requires.sound.size) c.load.ensures.2.1
