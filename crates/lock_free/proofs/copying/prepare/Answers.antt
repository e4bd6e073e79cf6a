use Rattle.std.proofs.Common.{ap, sym, subst}
use Rattle.lock_free.specs.CopySteps.{HasPreparedOrNone}
use Rattle.lock_free.proofs.LimboStays.{stock_elsewhere}
use Rattle.lock_free.proofs.CopyOffers.{stopped_ready, drafted_only, named_only, named_so, names_it, slot_free, stopped_there, unnamed_so}
use Rattle.lock_free.proofs.copying.prepare.Goals as goal

pub returns-in_err-roots-clause-prepared : goal.returns-in_err-roots-clause-prepared
returns-in_err-roots-clause-prepared c =
    let (root, main, at, main_placed, root_placed) = c.requires.ready in
    subst (λ x. HasPreparedOrNone c.args.actor.now.me.0 c.args.which c.args.opens c.args.handle c.args.root x c.make_roots.new.actor.me.0) (sym c.from_residual.ensures)
    ((c.in_err-roots.ensures {u = tt}).made root main at)

pub returns-in_err-slot-clause-prepared : goal.returns-in_err-slot-clause-prepared
returns-in_err-slot-clause-prepared c =
    let (root, main, at, main_placed, root_placed) = c.requires.ready in
    let u = c.args.actor.now.me.0 in
    let a = c.make_roots.new.actor.me.0 in
    let b = c.take.new.actor.me.0 in
    subst (λ x. HasPreparedOrNone u c.args.which c.args.opens c.args.handle c.args.root x b) (sym c.from_residual-in_err-slot.ensures)
    (stopped_there u c.args.which c.args.handle c.args.opens c.requires.copying c.args.root c.args.main c.args.class c.requires.ready c.in_ok-roots.roots a
    ((c.in_ok-roots.ensures {u = tt}).made root main at) b
    (c.in_err-slot.ensures {u = tt}).slot)

pub draft_offer-requires-clause-free : goal.draft_offer-requires-clause-free
draft_offer-requires-clause-free c =
    let (root, main, at, main_placed, root_placed) = c.requires.ready in
    slot_free c.args.actor.now.me.0 c.args.which c.args.handle c.args.opens c.requires.copying c.args.root c.args.main c.args.class c.requires.ready c.in_ok-roots.roots c.make_roots.new.actor.me.0
    ((c.in_ok-roots.ensures {u = tt}).made root main at) c.take.new.actor.me.0 c.in_ok-slot.slot (c.in_ok-slot.ensures {u = tt}).slot

pub name-requires-clause-naming : goal.name-requires-clause-naming
name-requires-clause-naming c =
    let (root, main, at, main_placed, root_placed) = c.requires.ready in
    names_it c.args.actor.now.me.0 c.args.which c.args.handle c.args.opens c.requires.copying c.args.root c.args.main c.args.class c.requires.ready c.in_ok-roots.roots c.make_roots.new.actor.me.0
    ((c.in_ok-roots.ensures {u = tt}).made root main at) c.take.new.actor.me.0 c.draft_offer.new.actor.me.0 c.in_ok-slot.slot (c.in_ok-slot.ensures {u = tt}).slot c.draft_offer.ensures.drafted
    c.in-Some.number c.in-Some.is

pub returns-in-Some-clause-prepared : goal.returns-in-Some-clause-prepared
returns-in-Some-clause-prepared c =
    let (root, main, at, main_placed, root_placed) = c.requires.ready in
    named_so c.args.actor.now.me.0 c.args.which c.args.handle c.args.opens c.requires.copying c.args.root c.args.main c.args.class c.requires.ready c.in_ok-roots.roots c.make_roots.new.actor.me.0
    ((c.in_ok-roots.ensures {u = tt}).made root main at) c.take.new.actor.me.0 c.draft_offer.new.actor.me.0 c.in_ok-slot.slot (c.in_ok-slot.ensures {u = tt}).slot c.draft_offer.ensures.drafted
    c.in-Some.number c.name.new.actor.me.0 (ap (λ me. me.0) c.name.ensures.named)

pub returns-in-None-clause-prepared : goal.returns-in-None-clause-prepared
returns-in-None-clause-prepared c =
    let (root, main, at, main_placed, root_placed) = c.requires.ready in
    unnamed_so c.args.actor.now.me.0 c.args.which c.args.handle c.args.opens c.requires.copying c.args.root c.args.main c.args.class c.requires.ready c.in_ok-roots.roots c.make_roots.new.actor.me.0
    ((c.in_ok-roots.ensures {u = tt}).made root main at) c.take.new.actor.me.0 c.draft_offer.new.actor.me.0 c.in_ok-slot.slot (c.in_ok-slot.ensures {u = tt}).slot c.draft_offer.ensures.drafted
    c.in-None.is

pub returns-in-Some-clause-stock : goal.returns-in-Some-clause-stock
returns-in-Some-clause-stock c =
    let b = c.take.new.actor.me.0 in
    let d = c.draft_offer.new.actor.me.0 in
    let x = c.name.new.actor.me.0 in
    stock_elsewhere c.take.new.stock d x (named_only d x c.in_ok-slot.slot (ap (λ me. me.0) c.name.ensures.named))
    (stock_elsewhere c.take.new.stock b d (drafted_only b d c.draft_offer.ensures.drafted.is) (c.in_ok-slot.ensures {u = tt}).stock)

pub returns-in-None-clause-stock : goal.returns-in-None-clause-stock
returns-in-None-clause-stock c =
    let b = c.take.new.actor.me.0 in
    let d = c.draft_offer.new.actor.me.0 in
    stock_elsewhere c.take.new.stock b d (drafted_only b d c.draft_offer.ensures.drafted.is) (c.in_ok-slot.ensures {u = tt}).stock

pub returns-then-not-has_room_to_part-clause-prepared : goal.returns-then-not-has_room_to_part-clause-prepared
returns-then-not-has_room_to_part-clause-prepared c = stopped_ready c.args.actor.now.me.0 c.args.which c.args.root c.args.main c.args.class c.requires.ready
