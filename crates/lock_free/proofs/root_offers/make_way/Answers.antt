use Rattle.std.proofs.Common.{true, false, refl, sym, ap, subst}
use Rattle.lock_free.specs.Loading.{Saw}
use Rattle.lock_free.specs.RootOffers.{HasYielded}
use Rattle.lock_free.proofs.Waiting.{saw_both, saw_none}
use Rattle.lock_free.proofs.OfferTries.{offer_met, settled_at, told_offer}
use Rattle.lock_free.proofs.root_offers.make_way.Goals as goal

pub yields-requires-clause-met : goal.yields-requires-clause-met
yields-requires-clause-met c =
    let v = c.args.actor.now.me.0 in
    offer_met v c.args.handle c.in-Offered.other c.requires.offering (told_offer v c.args.handle c.in-Offered.other c.args.found c.in-Offered.is c.requires.pinned c.requires.tells)

pub returns-in-Undecided-clause-made : goal.returns-in-Undecided-clause-made
returns-in-Undecided-clause-made c = subst (λ f. HasYielded c.args.actor.now.me.0 c.in-Offered.other f c.yields.new.actor.me.0) c.in-Undecided.is c.yields.ensures.yielded

pub clean_settled-requires-clause-settled : goal.clean_settled-requires-clause-settled
clean_settled-requires-clause-settled c =
    let v = c.args.actor.now.me.0 in
    settled_at v c.yields.new.actor.me.0 c.args.words.now.table_id.words c.args.handle c.in-Offered.other _ true c.requires.sound
    (told_offer v c.args.handle c.in-Offered.other c.args.found c.in-Offered.is c.requires.pinned c.requires.tells) refl
    (subst (λ f. HasYielded v c.in-Offered.other f c.yields.new.actor.me.0) c.in-CarriedOut.is c.yields.ensures.yielded)

pub clean_settled-requires-in-TakenBack-clause-settled : goal.clean_settled-requires-in-TakenBack-clause-settled
clean_settled-requires-in-TakenBack-clause-settled c =
    let v = c.args.actor.now.me.0 in
    settled_at v c.yields.new.actor.me.0 c.args.words.now.table_id.words c.args.handle c.in-Offered.other _ false c.requires.sound
    (told_offer v c.args.handle c.in-Offered.other c.args.found c.in-Offered.is c.requires.pinned c.requires.tells) refl
    (subst (λ f. HasYielded v c.in-Offered.other f c.yields.new.actor.me.0) c.in-TakenBack.is c.yields.ensures.yielded)

pub returns-in-CarriedOut-clause-made : goal.returns-in-CarriedOut-clause-made
returns-in-CarriedOut-clause-made c =
    let v = c.args.actor.now.me.0 in
    saw_both v c.yields.new.actor.me.0 (subst (λ f. HasYielded v c.in-Offered.other f c.yields.new.actor.me.0) c.in-CarriedOut.is c.yields.ensures.yielded).0 c.clean_settled.new.actor.me.0
    c.clean_settled.ensures.saw

pub returns-in-TakenBack-clause-made : goal.returns-in-TakenBack-clause-made
returns-in-TakenBack-clause-made c =
    let v = c.args.actor.now.me.0 in
    saw_both v c.yields.new.actor.me.0 (subst (λ f. HasYielded v c.in-Offered.other f c.yields.new.actor.me.0) c.in-TakenBack.is c.yields.ensures.yielded).0
    c.clean_settled-in-TakenBack.new.actor.me.0 c.clean_settled-in-TakenBack.ensures.saw

pub returns-in-ClosingWritable-clause-made : goal.returns-in-ClosingWritable-clause-made
returns-in-ClosingWritable-clause-made c =
    let v = c.args.actor.now.me.0 in
    subst (λ x. Saw v x) (sym (ap (λ me. me.0) c.unmark.ensures.same)) (saw_none c.args.words.now.table_id.words v c.requires.sound)

pub returns-in_default : goal.returns-in_default
returns-in_default c = record { table = refl; sound = c.requires.sound; made = saw_none c.args.words.now.table_id.words c.args.actor.now.me.0 c.requires.sound }
