use Rattle.std.proofs.Common.{subst}
use Rattle.lock_free.specs.LinkReads.{given_by, HasReadTo}
use Rattle.lock_free.proofs.ReadTurns.{passing, turn_spent, turns_there, read_turned}
use Rattle.lock_free.proofs.finding.read_link_turn_within.Goals as goal

pub read_link_within-requires-clause-passing : goal.read_link_within-requires-clause-passing
read_link_within-requires-clause-passing c = let v = c.args.actor.now.me.0 in passing v v c.args.indirection c.args.flag c.requires.at

pub turn_at-turn-requires-clause-at : goal.turn_at-turn-requires-clause-at
turn_at-turn-requires-clause-at c =
    let p = (c.in-Some.ensures {u = tt}).link in
    turns_there c.args.actor.now.me.0 c.read_link_within.new.actor.me.0 c.args.indirection c.args.flag c.requires.at (given_by c.in-Some.link p.0) p.1

pub returns-clause-turned : goal.returns-clause-turned
returns-clause-turned c =
    let p = (c.in-Some.ensures {u = tt}).link in (
      p.0,
      read_turned c.args.actor.now.me.0 c.read_link_within.new.actor.me.0 c.args.indirection c.args.flag c.requires.at (given_by c.in-Some.link p.0) p.1 c.turn_at-turn.new.actor.me.0
          c.turn_at-turn.result c.turn_at-turn.ensures.turned,
    )

pub returns-in_default-clause-turned : goal.returns-in_default-clause-turned
returns-in_default-clause-turned c =
    let v = c.args.actor.now.me.0 in
    let p = subst (λ r. HasReadTo v r c.read_link_within.new.actor.me.0) c.in_default.is c.read_link_within.ensures.link in
    turn_spent v v c.args.indirection c.args.flag c.requires.at p.0 c.read_link_within.new.actor.me.0 p.1
