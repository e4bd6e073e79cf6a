use Rattle.std.proofs.Common.{Ok, refl, subst, ◌∙◌, arith}
use Rattle.lock_free.specs.declared.walking.WalkError.{WalkError}
use Rattle.lock_free.specs.declared.walking.WalkError.TheVariants as lack
use Rattle.lock_free.specs.Walks.{NextBy}
use Rattle.lock_free.proofs.PairsAdded.{added_all, added_left, added_lost, added_most, added_next, added_none}
use Rattle.lock_free.proofs.walks.add_pairs_within.Goals as goal

pub loop-init : goal.loop-init
loop-init c = (refl, c.requires.sound, added_none c.args.way c.args.actor.now.me.0 c.args.walker.now c.args.pairs.now.items c.requires.way c.requires.at)

pub next_within-requires-clause-table : goal.next_within-requires-clause-table
next_within-requires-clause-table c = c.loop.invariant.0 ∙ c.requires.table

pub next_within-requires-clause-sound : goal.next_within-requires-clause-sound
next_within-requires-clause-sound c = c.loop.invariant.1

pub next_within-requires-clause-way : goal.next_within-requires-clause-way
next_within-requires-clause-way c = c.loop.invariant.2.on

pub next_within-requires-clause-at : goal.next_within-requires-clause-at
next_within-requires-clause-at c = (c.loop.invariant.2.taken, c.loop.invariant.2.at)

pub returns-in-Err-clause-table : goal.returns-in-Err-clause-table
returns-in-Err-clause-table c = c.next_within.ensures.table ∙ c.loop.invariant.0

pub returns-in-Err-clause-added : goal.returns-in-Err-clause-added
returns-in-Err-clause-added c =
    added_left _ _ _ _ _ _ _ _ c.loop.invariant.2 c.args.most (omega (arith, c.loop-test.true)) c.next_within.new.actor.me.0 c.next_within.new.self c.in-Err.error (c.in-Err.ensures {u = tt}).next

pub returns-in-Err-push-clause-table : goal.returns-in-Err-push-clause-table
returns-in-Err-push-clause-table c = c.next_within.ensures.table ∙ c.loop.invariant.0

pub returns-in-Err-push-clause-added : goal.returns-in-Err-push-clause-added
returns-in-Err-push-clause-added c =
    let w = c.next_within.new.actor.me.0 in
    added_lost _ _ _ _ _ _ _ _ c.loop.invariant.2 w c.next_within.new.self c.in-Some.pair
    (λ told at. subst (λ x. NextBy {E = WalkError} c.loop.actor.me.0 told (Ok x) w c.next_within.new.self) c.in-Some.is ((c.in-Ok.ensures {u = tt}).next told at)) c.args.most
    (omega (arith, c.loop-test.true)) lack.Memory c.push.new.self.items (c.in-Err-push.ensures {u = tt}).items

pub returns-in-None-clause-table : goal.returns-in-None-clause-table
returns-in-None-clause-table c = c.next_within.ensures.table ∙ c.loop.invariant.0

pub returns-in-None-clause-added : goal.returns-in-None-clause-added
returns-in-None-clause-added c =
    let w = c.next_within.new.actor.me.0 in
    added_all _ _ _ _ _ _ _ _ c.loop.invariant.2 c.args.most (omega (arith, c.loop-test.true)) w c.next_within.new.self
    (λ told at. subst (λ x. NextBy {E = WalkError} c.loop.actor.me.0 told (Ok x) w c.next_within.new.self) c.in-None.is ((c.in-Ok.ensures {u = tt}).next told at))

pub loop-preserved : goal.loop-preserved
loop-preserved c =
    let w = c.next_within.new.actor.me.0 in (
      c.next_within.ensures.table ∙ c.loop.invariant.0,
      c.next_within.ensures.sound,
      added_next _ _ _ _ _ _ _ _ c.loop.invariant.2 w c.next_within.new.self c.in-Some.pair
          (λ told at. subst (λ x. NextBy {E = WalkError} c.loop.actor.me.0 told (Ok x) w c.next_within.new.self) c.in-Some.is ((c.in-Ok.ensures {u = tt}).next told at))
          c.push.new.self.items (c.in-Ok-push.ensures {u = tt}).items,
    )

pub returns-clause-table : goal.returns-clause-table
returns-clause-table c = c.loop.invariant.0

pub returns-clause-sound : goal.returns-clause-sound
returns-clause-sound c = c.loop.invariant.1

pub returns-clause-added : goal.returns-clause-added
returns-clause-added c = added_most _ _ _ _ _ _ _ _ c.loop.invariant.2 c.args.most (omega (arith, c.loop-test.false, c.loop.auto.counter-end))
