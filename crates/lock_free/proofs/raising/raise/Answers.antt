use Rattle.std.proofs.Common.{◌∙◌, sym, subst}
use Rattle.machine_model.specs.Beneath.slot_arena.specs.declared.refs.Ref.{Ref as ARef}
use Rattle.lock_free.specs.declared.counting.Raised.TheVariants as raised
use Rattle.lock_free.specs.Counting.{HasAtHand}
use Rattle.lock_free.proofs.Raisings.{raised_at}
use Rattle.lock_free.proofs.raising.raise.Goals as goal

pub try_raise-requires-clause-at_hand : goal.try_raise-requires-clause-at_hand
try_raise-requires-clause-at_hand c = subst (λ v. (k : ARef) × HasAtHand v k c.args.class c.args.slot) (sym c.loop.invariant.1) c.requires.at_hand

pub returns-in-Done-clause-raised : goal.returns-in-Done-clause-raised
returns-in-Done-clause-raised c k hand =
    raised_at c.args.actor.now.me.0 c.loop.actor.me.0 c.try_raise.new.actor.me.0 c.loop.invariant.1 k c.args.class c.args.slot raised.Done (c.in-Done.ensures {u = tt}).raised hand

pub returns-in-Gone-clause-raised : goal.returns-in-Gone-clause-raised
returns-in-Gone-clause-raised c k hand =
    raised_at c.args.actor.now.me.0 c.loop.actor.me.0 c.try_raise.new.actor.me.0 c.loop.invariant.1 k c.args.class c.args.slot raised.Gone (c.in-Gone.ensures {u = tt}).raised hand

pub returns-in-Full-clause-raised : goal.returns-in-Full-clause-raised
returns-in-Full-clause-raised c k hand =
    raised_at c.args.actor.now.me.0 c.loop.actor.me.0 c.try_raise.new.actor.me.0 c.loop.invariant.1 k c.args.class c.args.slot raised.Full (c.in-Full.ensures {u = tt}).raised hand

-- another seat was before it
pub loop-preserved : goal.loop-preserved
loop-preserved c =
    let (k, hand) = c.requires.at_hand in (
      c.try_raise.ensures.table ∙ c.loop.invariant.0,
      raised_at c.args.actor.now.me.0 c.loop.actor.me.0 c.try_raise.new.actor.me.0 c.loop.invariant.1 k c.args.class c.args.slot raised.Lost (c.in-Lost.ensures {u = tt}).raised hand,
    )
