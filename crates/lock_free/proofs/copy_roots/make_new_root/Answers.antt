use Rattle.std.proofs.Common.{subst, sym}
use Rattle.lock_free.specs.CopySteps.{HasTriedRoot}
use Rattle.lock_free.specs.Owing.{HoldsRaised}
use Rattle.lock_free.specs.Stocks.{IsStock}
use Rattle.lock_free.proofs.RootMakes.{root_made, root_noted, root_unmade}
use Rattle.lock_free.proofs.copy_roots.make_new_root.Goals as goal

pub try_roots-requires-clause-raised : goal.try_roots-requires-clause-raised
try_roots-requires-clause-raised c = subst HoldsRaised (sym (c.in_ok-slot.ensures {u = tt}).slot.is) c.requires.raised

pub returns-then-not-try_roots-clause-stock : goal.returns-then-not-try_roots-clause-stock
returns-then-not-try_roots-clause-stock c =
    let mid = c.take.new.actor.me.0 in
    let after = c.try_roots.new.actor.me.0 in
    root_unmade c.try_roots.new.stock mid after (subst (λ b. HasTriedRoot mid b after) c.if-not-try_roots.true c.try_roots.ensures.tried)
    (subst (λ s. IsStock s mid) (sym c.try_roots.ensures.stock) (c.in_ok-slot.ensures {u = tt}).stock)

pub returns-clause-stock : goal.returns-clause-stock
returns-clause-stock c =
    let slot = (c.in_ok-slot.ensures {u = tt}) in
    let mid = c.take.new.actor.me.0 in
    let after = c.try_roots.new.actor.me.0 in
    root_noted c.args.words.now.table_id.words c.args.actor.now.me.0 c.in_ok-slot.slot mid slot.slot slot.sound after
    (subst (λ b. HasTriedRoot mid b after) c.if-not-try_roots.false c.try_roots.ensures.tried) c.try_roots.new.stock c.note.new.self
    (subst (λ s. IsStock s mid) (sym c.try_roots.ensures.stock) slot.stock) c.note.ensures.sizes c.note.ensures.noted
    c.note.ensures.limbo

pub returns-clause-made : goal.returns-clause-made
returns-clause-made c =
    let slot = (c.in_ok-slot.ensures {u = tt}) in
    let mid = c.take.new.actor.me.0 in
    let after = c.try_roots.new.actor.me.0 in
    root_made c.args.words.now.table_id.words c.args.actor.now.me.0 c.in_ok-slot.slot mid slot.slot slot.sound after
    (subst (λ b. HasTriedRoot mid b after) c.if-not-try_roots.false c.try_roots.ensures.tried)
