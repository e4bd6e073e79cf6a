use Rattle.std.proofs.Common.{◌≡◌, Some, refl, sym, subst, ◌∙◌}
use Rattle.lock_free.specs.Passing.{HasAskedSome}
use Rattle.lock_free.proofs.Licenses.{again_both, again_seen, asking_then, asks_at, first_look, generation_asked, last_look, offer_now, one_look}
use Rattle.lock_free.proofs.licensing.ask_within.Goals as goal
use Rattle.lock_free.proofs.licensing.ask_within.Goals.{in-Offer, in-Nothing}

pub loop-init : goal.loop-init
loop-init c = (refl, first_look c.args.words.now.table_id.words c.args.actor.now.me.0 c.args.handle c.requires.sound c.requires.asking)

pub ask_word-requires-clause-table : goal.ask_word-requires-clause-table
ask_word-requires-clause-table c = c.loop.invariant.0 ∙ c.requires.table

pub ask_word-requires-clause-sound : goal.ask_word-requires-clause-sound
ask_word-requires-clause-sound c = c.loop.invariant.1.sound

pub ask_word-requires-clause-asking : goal.ask_word-requires-clause-asking
ask_word-requires-clause-asking c = asks_at c.loop.actor.me.0 c.args.handle c.loop.invariant.1.asking

pub see_generation-requires-clause-table : goal.see_generation-requires-clause-table
see_generation-requires-clause-table c = c.ask_word.ensures.table ∙ c.loop.invariant.0 ∙ c.requires.table

pub see_generation-requires-clause-root : goal.see_generation-requires-clause-root
see_generation-requires-clause-root c = let found = (c.in-Root.ensures {u = tt}).asked in (found.root, found.at, found.found)

pub returns-in-Root-clause-table : goal.returns-in-Root-clause-table
returns-in-Root-clause-table c = c.see_generation.ensures.table ∙ c.ask_word.ensures.table ∙ c.loop.invariant.0

pub returns-in-Root-clause-asked : goal.returns-in-Root-clause-asked
returns-in-Root-clause-asked c =
    let n = c.args.words.now.table_id.words in
    let v = c.loop.actor.me.0 in
    let w = c.ask_word.new.actor.me.0 in
    last_look n c.args.handle c.args.actor.now.me.0 v c.see_generation.new.actor.me.0 (Some c.see_generation.result) c.loop.invariant.1
    (generation_asked n v c.loop.invariant.1.sound c.args.handle c.in-Root.root w c.ask_word.ensures.sound (c.in-Root.ensures {u = tt}).asked c.see_generation.new.actor.me.0
    c.see_generation.result c.see_generation.ensures.seen c.loop.invariant.1.asking)

pub put_aside-requires-clause-table : goal.put_aside-requires-clause-table
put_aside-requires-clause-table c = c.ask_word.ensures.table ∙ c.loop.invariant.0 ∙ c.requires.table

pub put_aside-requires-clause-asking : goal.put_aside-requires-clause-asking
put_aside-requires-clause-asking c =
    let n = c.args.words.now.table_id.words in
    let v = c.loop.actor.me.0 in
    let w = c.ask_word.new.actor.me.0 in
    asking_then v w c.args.handle c.loop.invariant.1.asking (again_seen n v w c.loop.invariant.1.sound (c.in-Offer.ensures {u = tt}).asked.0)

pub put_aside-requires-clause-known : goal.put_aside-requires-clause-known
put_aside-requires-clause-known c =
    let saw = (c.in-Offer.ensures {u = tt}).asked in offer_now c.loop.actor.me.0 c.ask_word.new.actor.me.0 c.args.handle c.in-Offer.offer saw.0 saw.1

pub loop-preserved : goal.loop-preserved
loop-preserved c =
    let n = c.args.words.now.table_id.words in
    let u = c.args.actor.now in
    let v = c.loop.actor.me.0 in
    let w = c.ask_word.new.actor.me.0 in
    elim c.match-ask_word.branch [
      | in-Offer p ↦
          let z = p.put_aside.new.actor in
          subst (λ x. (x.table_id ≡ u.table_id) × HasAskedSome n c.args.handle u.me.0 x.me.0) (sym p.actor-is) (
            p.put_aside.ensures.table ∙ c.ask_word.ensures.table ∙ c.loop.invariant.0,
            one_look n c.args.handle u.me.0 v z.me.0 c.loop.invariant.1 p.put_aside.ensures.sound
                (again_both v w z.me.0 (again_seen n v w c.loop.invariant.1.sound (p.in-Offer.ensures {u = tt}).asked.0) p.put_aside.ensures.again),
          )
      | in-Nothing p ↦
          subst (λ x. (x.table_id ≡ u.table_id) × HasAskedSome n c.args.handle u.me.0 x.me.0) (sym p.actor-is) (
            c.ask_word.ensures.table ∙ c.loop.invariant.0,
            one_look n c.args.handle u.me.0 v w c.loop.invariant.1 c.ask_word.ensures.sound (again_seen n v w c.loop.invariant.1.sound (p.in-Nothing.ensures {u = tt}).asked),
          )
    ]

pub returns-clause-table : goal.returns-clause-table
returns-clause-table c = c.loop.invariant.0

pub returns-clause-sound : goal.returns-clause-sound
returns-clause-sound c = c.loop.invariant.1.sound

pub returns-clause-asked : goal.returns-clause-asked
returns-clause-asked c = c.loop.invariant.1.again
