use Rattle.std.proofs.Common.{ap, refl, sym, ◌∙◌}
use Rattle.lock_free.specs.declared.rules.View.{View}
use Rattle.lock_free.proofs.FreesOn.{freed_more, freed_none, has_late, running_on, turned_stock}
use Rattle.lock_free.proofs.ripe_nodes.free_aged.Goals as goal

pub loop-init : goal.loop-init
loop-init c = (
  refl,
  c.requires.sound,
  turned_stock c.args.actor.now.me.0 c.args.stock.now c.turn.new.self c.args.kind c.args.class c.requires.class c.requires.stock c.turn.ensures,
  c.requires.running,
  freed_none c.args.actor.now.me.0,
)

pub free_one-requires-clause-ripe : goal.free_one-requires-clause-ripe
free_one-requires-clause-ripe c = has_late c.loop.actor.me.0 c.loop.stock c.args.kind c.args.class c.loop.invariant.2 (c.has_ripe.ensures.ripe c.if-not-has_ripe.false)

pub free_one-requires-clause-sizes : goal.free_one-requires-clause-sizes
free_one-requires-clause-sizes c = ap (λ (v : View). v.sizes) c.loop.invariant.4.follows.is ∙ sym (c.sizes-sizes.ensures ∙ c.requires.stock.sizes)

pub returns-then-not-free_one-clause-freed : goal.returns-then-not-free_one-clause-freed
returns-then-not-free_one-clause-freed c = freed_more c.args.actor.now.me.0 c.loop.actor.me.0 c.free_one.new.actor.me.0 c.loop.invariant.4 c.free_one.ensures.freed

pub loop-preserved : goal.loop-preserved
loop-preserved c =
    let (t, sound, stock, running, freed) = c.loop.invariant in (
      c.free_one.ensures.table ∙ t,
      c.free_one.ensures.sound,
      c.free_one.ensures.stock,
      running_on c.loop.actor.me.0 c.free_one.new.actor.me.0 c.free_one.ensures.freed running,
      freed_more c.args.actor.now.me.0 c.loop.actor.me.0 c.free_one.new.actor.me.0 freed c.free_one.ensures.freed,
    )
