use Rattle.std.proofs.Common.{◌∙◌, refl, subst, ap}
use Rattle.lock_free.specs.RootOffers.{HasMadeWay, HasProposed}
use Rattle.lock_free.proofs.Waiting.{saw_both, saw_none}
use Rattle.lock_free.proofs.OfferTries.{missed_since, offered_since, seen_saw, seen_tells, still_to_offer, to_offer_since}
use Rattle.lock_free.proofs.root_offers.offer_within.Goals as goal
use Rattle.lock_free.specs.declared.rules.View.{View}

pub loop-init : goal.loop-init
loop-init c = (refl, c.requires.sound, saw_none c.args.words.now.table_id.words c.args.actor.now.me.0 c.requires.sound)

pub propose-requires-clause-table : goal.propose-requires-clause-table
propose-requires-clause-table c = c.loop.invariant.0 ∙ c.requires.table

pub propose-requires-clause-sound : goal.propose-requires-clause-sound
propose-requires-clause-sound c = c.loop.invariant.1

pub propose-requires-clause-offering : goal.propose-requires-clause-offering
propose-requires-clause-offering c =
    to_offer_since c.args.actor.now.me.0 c.loop.actor.me.0 c.loop.invariant.2 c.args.words.now.table_id.words c.args.handle c.args.root c.args.slot c.requires.sound c.requires.offering

pub returns-in-Stands-clause-table : goal.returns-in-Stands-clause-table
returns-in-Stands-clause-table c = c.propose.ensures.table ∙ c.loop.invariant.0

pub returns-in-Stands-clause-offered : goal.returns-in-Stands-clause-offered
returns-in-Stands-clause-offered c =
    offered_since c.args.actor.now.me.0 c.loop.actor.me.0 c.loop.invariant.2 c.args.slot c.propose.new.actor.me.0
    (subst (λ p. HasProposed c.loop.actor.me.0 c.args.handle c.args.slot p c.propose.new.actor.me.0) c.in-Stands.is c.propose.ensures.proposed)

pub returns-in-Misses-clause-table : goal.returns-in-Misses-clause-table
returns-in-Misses-clause-table c = c.propose.ensures.table ∙ c.loop.invariant.0

pub returns-in-Misses-clause-offered : goal.returns-in-Misses-clause-offered
returns-in-Misses-clause-offered c =
    missed_since c.args.actor.now.me.0 c.loop.actor.me.0 c.loop.invariant.2 c.propose.new.actor.me.0
    (subst (λ p. HasProposed c.loop.actor.me.0 c.args.handle c.args.slot p c.propose.new.actor.me.0) c.in-Misses.is c.propose.ensures.proposed)

pub make_way-requires-clause-table : goal.make_way-requires-clause-table
make_way-requires-clause-table c = c.propose.ensures.table ∙ c.loop.invariant.0 ∙ c.requires.table

pub make_way-requires-clause-offering : goal.make_way-requires-clause-offering
make_way-requires-clause-offering c =
    let u = c.args.actor.now.me.0 in
    let v = c.loop.actor.me.0 in
    let w = c.propose.new.actor.me.0 in
    let told = (subst (λ p. HasProposed v c.args.handle c.args.slot p w) c.in-Meets.is c.propose.ensures.proposed).0 in
    still_to_offer w c.args.handle c.args.root c.args.slot
    (to_offer_since u w (saw_both u v c.loop.invariant.2 w (seen_saw v w c.args.handle c.in-Meets.found told)) c.args.words.now.table_id.words c.args.handle c.args.root c.args.slot
    c.requires.sound c.requires.offering)

pub make_way-requires-clause-pinned : goal.make_way-requires-clause-pinned
make_way-requires-clause-pinned c =
    let v = c.loop.actor.me.0 in
    let w = c.propose.new.actor.me.0 in
    let told = subst (λ p. HasProposed v c.args.handle c.args.slot p w) c.in-Meets.is c.propose.ensures.proposed in
    (told.1.0, ap (λ (x : View). x.pin) told.0.0.after_is ∙ told.1.1)

pub make_way-requires-clause-tells : goal.make_way-requires-clause-tells
make_way-requires-clause-tells c =
    let v = c.loop.actor.me.0 in
    let w = c.propose.new.actor.me.0 in
    seen_tells v w c.args.handle c.in-Meets.found (subst (λ p. HasProposed v c.args.handle c.args.slot p w) c.in-Meets.is c.propose.ensures.proposed).0

pub returns-then-make_way-clause-table : goal.returns-then-make_way-clause-table
returns-then-make_way-clause-table c = c.make_way.ensures.table ∙ c.propose.ensures.table ∙ c.loop.invariant.0

pub returns-then-make_way-clause-offered : goal.returns-then-make_way-clause-offered
returns-then-make_way-clause-offered c =
    let u = c.args.actor.now.me.0 in
    let v = c.loop.actor.me.0 in
    let w = c.propose.new.actor.me.0 in
    let told = (subst (λ p. HasProposed v c.args.handle c.args.slot p w) c.in-Meets.is c.propose.ensures.proposed).0 in
    missed_since u w (saw_both u v c.loop.invariant.2 w (seen_saw v w c.args.handle c.in-Meets.found told)) c.make_way.new.actor.me.0
    (subst (λ b. HasMadeWay w b c.make_way.new.actor.me.0) c.if-make_way.true c.make_way.ensures.made)

pub loop-preserved : goal.loop-preserved
loop-preserved c =
    let u = c.args.actor.now.me.0 in
    let v = c.loop.actor.me.0 in
    let w = c.propose.new.actor.me.0 in
    let told = (subst (λ p. HasProposed v c.args.handle c.args.slot p w) c.in-Meets.is c.propose.ensures.proposed).0 in
    let seen = saw_both u v c.loop.invariant.2 w (seen_saw v w c.args.handle c.in-Meets.found told) in (
      c.make_way.ensures.table ∙ c.propose.ensures.table ∙ c.loop.invariant.0,
      c.make_way.ensures.sound,
      saw_both u w seen c.make_way.new.actor.me.0 (subst (λ b. HasMadeWay w b c.make_way.new.actor.me.0) c.if-make_way.false c.make_way.ensures.made),
    )

pub returns-clause-table : goal.returns-clause-table
returns-clause-table c = c.loop.invariant.0

pub returns-clause-sound : goal.returns-clause-sound
returns-clause-sound c = c.loop.invariant.1

pub returns-clause-offered : goal.returns-clause-offered
returns-clause-offered c = c.loop.invariant.2
