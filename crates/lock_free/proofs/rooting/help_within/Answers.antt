use Rattle.std.proofs.Common.{true, false}
use Rattle.lock_free.proofs.Licenses.{settled_now}
use Rattle.lock_free.proofs.RootAsked.{asks_low}
use Rattle.lock_free.proofs.Rootings.{asks_root, completing_now, helped_stays, stayed_both, stayed_saw, way_now}
use Rattle.lock_free.proofs.RootsLeft.{help_left}
use Rattle.lock_free.proofs.rooting.help_within.Goals as goal

pub meet_offer-requires-clause-asking : goal.meet_offer-requires-clause-asking
meet_offer-requires-clause-asking c = asks_root c.args.actor.now.me.0 c.args.way c.requires.at c.requires.way

pub complete_within-requires-clause-way : goal.complete_within-requires-clause-way
complete_within-requires-clause-way c =
    way_now c.args.words.now.table_id.words c.args.actor.now.me.0 c.requires.sound c.args.way c.requires.at c.requires.way c.args.offer c.requires.known c.meet_offer.new.actor.me.0
    c.meet_offer.ensures.sound (c.in-Undecided.ensures {u = tt}).met

pub complete_within-requires-clause-completing : goal.complete_within-requires-clause-completing
complete_within-requires-clause-completing c =
    completing_now c.args.words.now.table_id.words c.args.actor.now.me.0 c.requires.sound c.args.way c.requires.at c.requires.way c.args.offer c.requires.known c.meet_offer.new.actor.me.0
    c.meet_offer.ensures.sound (c.in-Undecided.ensures {u = tt}).met

pub clean_settled-requires-clause-low : goal.clean_settled-requires-clause-low
clean_settled-requires-clause-low c =
    asks_low c.args.words.now.table_id.words c.args.actor.now.me.0 c.requires.sound c.args.way.handle (asks_root c.args.actor.now.me.0 c.args.way c.requires.at c.requires.way)

pub clean_settled-requires-clause-settled : goal.clean_settled-requires-clause-settled
clean_settled-requires-clause-settled c =
    settled_now c.args.words.now.table_id.words c.args.actor.now.me.0 c.requires.sound c.args.way.handle c.args.offer c.requires.known c.meet_offer.new.actor.me.0 c.meet_offer.ensures.sound true
    (c.in-CarriedOut.ensures {u = tt}).met

pub clean_settled-requires-in-TakenBack-clause-low : goal.clean_settled-requires-in-TakenBack-clause-low
clean_settled-requires-in-TakenBack-clause-low c =
    asks_low c.args.words.now.table_id.words c.args.actor.now.me.0 c.requires.sound c.args.way.handle (asks_root c.args.actor.now.me.0 c.args.way c.requires.at c.requires.way)

pub clean_settled-requires-in-TakenBack-clause-settled : goal.clean_settled-requires-in-TakenBack-clause-settled
clean_settled-requires-in-TakenBack-clause-settled c =
    settled_now c.args.words.now.table_id.words c.args.actor.now.me.0 c.requires.sound c.args.way.handle c.args.offer c.requires.known c.meet_offer.new.actor.me.0 c.meet_offer.ensures.sound false
    (c.in-TakenBack.ensures {u = tt}).met

pub returns-in-Ok-clause-stays : goal.returns-in-Ok-clause-stays
returns-in-Ok-clause-stays c =
    helped_stays c.args.words.now.table_id.words c.args.actor.now.me.0 c.requires.sound c.args.way c.requires.at c.requires.way c.args.offer c.requires.known c.meet_offer.new.actor.me.0
    c.meet_offer.ensures.sound (c.in-Undecided.ensures {u = tt}).met c.in-Ok.field-0 c.args.words.now.table_id.words c.complete_within.new.actor.me.0
    c.complete_within.ensures.sound (c.in-Ok.ensures {u = tt}).helped

pub returns-in-Err-clause-stays : goal.returns-in-Err-clause-stays
returns-in-Err-clause-stays c =
    help_left c.args.words.now.table_id.words c.args.actor.now.me.0 c.requires.sound c.args.way c.requires.at c.requires.way c.args.offer c.requires.known c.meet_offer.new.actor.me.0
    c.meet_offer.ensures.sound (c.in-Undecided.ensures {u = tt}).met c.in-Err.field-0 c.complete_within.new.actor.me.0 (c.in-Err.ensures {u = tt}).on

pub returns-in-CarriedOut-clause-stays : goal.returns-in-CarriedOut-clause-stays
returns-in-CarriedOut-clause-stays c =
    let n = c.args.words.now.table_id.words in
    let v = c.args.actor.now.me.0 in
    let w = c.meet_offer.new.actor.me.0 in
    stayed_both v w c.clean_settled.new.actor.me.0 (stayed_saw n v w c.requires.sound (c.in-CarriedOut.ensures {u = tt}).met.0)
    (stayed_saw n w c.clean_settled.new.actor.me.0 c.meet_offer.ensures.sound c.clean_settled.ensures.saw)

pub returns-in-TakenBack-clause-stays : goal.returns-in-TakenBack-clause-stays
returns-in-TakenBack-clause-stays c =
    let n = c.args.words.now.table_id.words in
    let v = c.args.actor.now.me.0 in
    let w = c.meet_offer.new.actor.me.0 in
    stayed_both v w c.clean_settled-in-TakenBack.new.actor.me.0 (stayed_saw n v w c.requires.sound (c.in-TakenBack.ensures {u = tt}).met.0)
    (stayed_saw n w c.clean_settled-in-TakenBack.new.actor.me.0 c.meet_offer.ensures.sound c.clean_settled-in-TakenBack.ensures.saw)
