use Rattle.std.proofs.Common.{refl, arith, ◌∙◌}
use Rattle.lock_free.proofs.ClassesFree.{freed_after, none_freed, none_others, others_both}
use Rattle.lock_free.proofs.LetGo.{more_reclaimed, none_reclaimed}
use Rattle.lock_free.proofs.replaced.free_some.Goals as goal

pub loop-done-init : goal.loop-done-init
loop-done-init c = (
  refl,
  c.requires.sound,
  c.requires.stock,
  c.requires.ripe,
  none_reclaimed c.args.actor.now.me.0,
  none_freed c.args.class c.args.stock.now.limbo c.args.stock.now c.args.actor.now.me.0,
  none_others c.args.class c.args.stock.now.limbo c.args.stock.now,
)

pub returns-then-not-free_one-clause-others : goal.returns-then-not-free_one-clause-others
returns-then-not-free_one-clause-others c =
    let l = c.loop-done in
    others_both c.args.class c.args.stock.now.limbo c.args.stock.now l.stock.limbo l.stock c.free_one.new.stock.limbo c.free_one.new.stock l.invariant.6 c.free_one.ensures.others

pub returns-then-not-free_one-clause-reclaimed : goal.returns-then-not-free_one-clause-reclaimed
returns-then-not-free_one-clause-reclaimed c =
    more_reclaimed c.args.actor.now.me.0 c.loop-done.actor.me.0 c.free_one.new.actor.me.0 c.loop-done.invariant.4 c.free_one.ensures.reclaimed

pub returns-then-not-free_one-clause-freed : goal.returns-then-not-free_one-clause-freed
returns-then-not-free_one-clause-freed c many room =
    let l = c.loop-done in
    freed_after c.args.class l._done c.args.stock.now.limbo c.args.stock.now c.args.actor.now.me.0 l.stock.limbo l.stock l.actor.me.0 c.free_one.new.actor.me.0 l.invariant.5 c.free_one.ensures.freed
    c.free_one.ensures.reclaimed room

pub loop-done-preserved : goal.loop-done-preserved
loop-done-preserved c =
    let l = c.loop-done in (
      c.free_one.ensures.table ∙ l.invariant.0,
      c.free_one.ensures.sound,
      c.free_one.ensures.stock,
      c.free_one.ensures.ripe,
      more_reclaimed c.args.actor.now.me.0 l.actor.me.0 c.free_one.new.actor.me.0 l.invariant.4 c.free_one.ensures.reclaimed,
      (
        (λ e. absurd (omega (arith, e))),
        (λ some room. freed_after c.args.class l._done c.args.stock.now.limbo c.args.stock.now c.args.actor.now.me.0 l.stock.limbo l.stock l.actor.me.0 c.free_one.new.actor.me.0
            l.invariant.5 c.free_one.ensures.freed c.free_one.ensures.reclaimed room),
      ),
      others_both c.args.class c.args.stock.now.limbo c.args.stock.now l.stock.limbo l.stock c.free_one.new.stock.limbo c.free_one.new.stock l.invariant.6 c.free_one.ensures.others,
    )

pub returns-clause-freed : goal.returns-clause-freed
returns-clause-freed c many room = let over = c.loop-done-test.false in c.loop-done.invariant.5.1 (omega (arith, many, over)) room
