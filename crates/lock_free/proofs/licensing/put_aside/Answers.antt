use Rattle.std.proofs.Common.{true, false}
use Rattle.lock_free.proofs.Licenses.{abort_ready, aborted_again, again_both, again_seen, asks_at, settled_now}
use Rattle.lock_free.proofs.RootAsked.{asks_low}
use Rattle.lock_free.proofs.licensing.put_aside.Goals as goal

pub meet_offer-requires-clause-asking : goal.meet_offer-requires-clause-asking
meet_offer-requires-clause-asking c = asks_at c.args.actor.now.me.0 c.args.handle c.requires.asking

pub abort-requires-clause-aborting : goal.abort-requires-clause-aborting
abort-requires-clause-aborting c =
    abort_ready c.args.words.now.table_id.words c.args.actor.now.me.0 c.requires.sound c.args.handle c.args.offer c.requires.known c.meet_offer.new.actor.me.0 c.meet_offer.ensures.sound
    c.requires.asking (c.in-Undecided.ensures {u = tt}).met

pub clean_settled-requires-clause-low : goal.clean_settled-requires-clause-low
clean_settled-requires-clause-low c =
    asks_low c.args.words.now.table_id.words c.args.actor.now.me.0 c.requires.sound c.args.handle (asks_at c.args.actor.now.me.0 c.args.handle c.requires.asking)

pub clean_settled-requires-clause-settled : goal.clean_settled-requires-clause-settled
clean_settled-requires-clause-settled c =
    settled_now c.args.words.now.table_id.words c.args.actor.now.me.0 c.requires.sound c.args.handle c.args.offer c.requires.known c.meet_offer.new.actor.me.0 c.meet_offer.ensures.sound true
    (c.in-CarriedOut.ensures {u = tt}).met

pub clean_settled-requires-in-TakenBack-clause-low : goal.clean_settled-requires-in-TakenBack-clause-low
clean_settled-requires-in-TakenBack-clause-low c =
    asks_low c.args.words.now.table_id.words c.args.actor.now.me.0 c.requires.sound c.args.handle (asks_at c.args.actor.now.me.0 c.args.handle c.requires.asking)

pub clean_settled-requires-in-TakenBack-clause-settled : goal.clean_settled-requires-in-TakenBack-clause-settled
clean_settled-requires-in-TakenBack-clause-settled c =
    settled_now c.args.words.now.table_id.words c.args.actor.now.me.0 c.requires.sound c.args.handle c.args.offer c.requires.known c.meet_offer.new.actor.me.0 c.meet_offer.ensures.sound false
    (c.in-TakenBack.ensures {u = tt}).met

pub returns-in-Undecided-clause-again : goal.returns-in-Undecided-clause-again
returns-in-Undecided-clause-again c =
    aborted_again c.args.words.now.table_id.words c.args.actor.now.me.0 c.requires.sound c.args.handle c.args.offer c.requires.known c.meet_offer.new.actor.me.0 c.meet_offer.ensures.sound
    c.requires.asking (c.in-Undecided.ensures {u = tt}).met c.abort.new.actor.me.0 c.abort.ensures.sound c.abort.result c.abort.ensures.aborted

pub returns-in-CarriedOut-clause-again : goal.returns-in-CarriedOut-clause-again
returns-in-CarriedOut-clause-again c =
    let n = c.args.words.now.table_id.words in
    let v = c.args.actor.now.me.0 in
    let w = c.meet_offer.new.actor.me.0 in
    again_both v w c.clean_settled.new.actor.me.0 (again_seen n v w c.requires.sound (c.in-CarriedOut.ensures {u = tt}).met.0)
    (again_seen n w c.clean_settled.new.actor.me.0 c.meet_offer.ensures.sound c.clean_settled.ensures.saw)

pub returns-in-TakenBack-clause-again : goal.returns-in-TakenBack-clause-again
returns-in-TakenBack-clause-again c =
    let n = c.args.words.now.table_id.words in
    let v = c.args.actor.now.me.0 in
    let w = c.meet_offer.new.actor.me.0 in
    again_both v w c.clean_settled-in-TakenBack.new.actor.me.0 (again_seen n v w c.requires.sound (c.in-TakenBack.ensures {u = tt}).met.0)
    (again_seen n w c.clean_settled-in-TakenBack.new.actor.me.0 c.meet_offer.ensures.sound c.clean_settled-in-TakenBack.ensures.saw)
