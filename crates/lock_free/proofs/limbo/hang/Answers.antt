use Rattle.std.proofs.Common.{◌∙◌, ◌<◌, refl, ap, subst, sym}
use Rattle.lock_free.specs.declared.rules.View.{View}
use Rattle.lock_free.specs.Cells.{loose_link}
use Rattle.lock_free.specs.Limbos.{chains_of, link_to}
use Rattle.lock_free.specs.Linking.{HasRetiredSlot}
use Rattle.lock_free.specs.Places.{IsSlot}
use Rattle.lock_free.proofs.HungNext.{hung_next, next_held, next_low, next_slot, next_small}
use Rattle.lock_free.proofs.limbo.hang.Goals as goal

pub see_link-known-requires-clause-retired : goal.see_link-known-requires-clause-retired
see_link-known-requires-clause-retired c =
    subst (λ (w : View). HasRetiredSlot w c.args.class c.args.slot) (sym (ap (λ (me : _). me.0) c.see_epoch-stamp.ensures.seen.1))
    (next_held c.args.limbo.now c.args.actor.now.me.0 c.args.kind c.args.class c.args.slot c.requires.next c.see_epoch-stamp.result 0 c.see_epoch-stamp.ensures.seen.2)

pub see_link-known-requires-clause-class : goal.see_link-known-requires-clause-class
see_link-known-requires-clause-class c =
    next_small c.args.limbo.now c.args.actor.now.me.0 c.args.kind c.args.class c.args.slot c.requires.next c.see_epoch-stamp.result 0 c.see_epoch-stamp.ensures.seen.2

pub see_link-known-requires-clause-slot : goal.see_link-known-requires-clause-slot
see_link-known-requires-clause-slot c =
    subst (λ z. IsSlot z c.args.class c.args.slot) c.requires.sizes
    (next_slot c.args.limbo.now c.args.actor.now.me.0 c.args.kind c.args.class c.args.slot c.requires.next c.see_epoch-stamp.result 0 c.see_epoch-stamp.ensures.seen.2)

pub link-requires-clause-class : goal.link-requires-clause-class
link-requires-clause-class c =
    next_small c.args.limbo.now c.args.actor.now.me.0 c.args.kind c.args.class c.args.slot c.requires.next c.see_epoch-stamp.result 0 c.see_epoch-stamp.ensures.seen.2

pub link-requires-clause-slot : goal.link-requires-clause-slot
link-requires-clause-slot c =
    subst (λ z. IsSlot z c.args.class c.args.slot) c.requires.sizes
    (next_slot c.args.limbo.now c.args.actor.now.me.0 c.args.kind c.args.class c.args.slot c.requires.next c.see_epoch-stamp.result 0 c.see_epoch-stamp.ensures.seen.2)

pub link-requires-clause-new : goal.link-requires-clause-new
link-requires-clause-new c =
    subst (λ n. n < loose_link) (sym c.link_to-next.ensures)
    (next_low c.args.limbo.now c.args.actor.now.me.0 c.args.kind c.args.class c.args.slot c.requires.next c.see_epoch-stamp.result 0 c.see_epoch-stamp.ensures.seen.2 c.requires.sound.range
    c.first_young.result c.first_young.ensures)

pub returns-clause-limbo : goal.returns-clause-limbo
returns-clause-limbo c h =
    let v = c.args.actor.now.me.0 in
    hung_next c.args.limbo.now v c.args.kind c.args.class c.args.slot h c.see_epoch-stamp.result c.see_link-known.result c.see_epoch-stamp.ensures.seen.2 c.args.sizes.now
    c.requires.sizes c.see_epoch-stamp.new.actor.me.0 c.see_link-known.new.actor.me.0 c.link.new.actor.me.0 (ap (λ (me : _). me.0) c.see_epoch-stamp.ensures.seen.1) c.see_link-known.ensures.seen
    (chains_of c.args.limbo.now c.args.kind c.args.class) refl c.link_to-next.result (c.link_to-next.ensures ∙ ap link_to c.first_young.ensures) c.link.ensures.linked
    c.set_young.new.self c.set_young.ensures
