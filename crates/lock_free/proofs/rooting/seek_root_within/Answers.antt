use Rattle.std.proofs.Common.{◌≡◌, refl, sym, subst, ◌∙◌}
use Rattle.lock_free.specs.declared.leaving.Left.TheVariants as left
use Rattle.lock_free.specs.Leaving.{HasStayedOrLeft}
use Rattle.lock_free.specs.Rooting.{HasLookedSome}
use Rattle.lock_free.proofs.Licenses.{offer_now}
use Rattle.lock_free.proofs.Rootings.{asks_root, first_look, last_look, one_look, root_then, stayed_both, stayed_saw, stayed_way}
use Rattle.lock_free.proofs.RootsLeft.{left_after, stayed_left}
use Rattle.lock_free.proofs.rooting.seek_root_within.Goals.{in-Offer+else-not-help_within, in-Nothing}
use Rattle.lock_free.proofs.rooting.seek_root_within.Goals as goal

pub loop-init : goal.loop-init
loop-init c = (refl, first_look c.args.words.now.table_id.words c.args.way c.args.actor.now.me.0 c.requires.sound c.requires.way c.requires.at)

pub ask_word-requires-clause-table : goal.ask_word-requires-clause-table
ask_word-requires-clause-table c = c.loop.invariant.0 ∙ c.requires.table

pub ask_word-requires-clause-sound : goal.ask_word-requires-clause-sound
ask_word-requires-clause-sound c = c.loop.invariant.1.sound

pub ask_word-requires-clause-asking : goal.ask_word-requires-clause-asking
ask_word-requires-clause-asking c = asks_root c.loop.actor.me.0 c.args.way c.loop.invariant.1.at c.loop.invariant.1.on

pub see_generation-generation-requires-clause-table : goal.see_generation-generation-requires-clause-table
see_generation-generation-requires-clause-table c = c.ask_word.ensures.table ∙ c.loop.invariant.0 ∙ c.requires.table

pub see_generation-generation-requires-clause-root : goal.see_generation-generation-requires-clause-root
see_generation-generation-requires-clause-root c = let found = (c.in-Root.ensures {u = tt}).asked in (found.root, found.at, found.found)

pub returns-in-Root-clause-table : goal.returns-in-Root-clause-table
returns-in-Root-clause-table c = c.see_generation-generation.ensures.table ∙ c.ask_word.ensures.table ∙ c.loop.invariant.0

pub returns-in-Root-clause-rooted : goal.returns-in-Root-clause-rooted
returns-in-Root-clause-rooted c =
    last_look c.args.words.now.table_id.words c.loop.actor.me.0 c.loop.invariant.1.sound c.args.way c.loop.invariant.1.at c.loop.invariant.1.on c.in-Root.slot c.ask_word.new.actor.me.0
    c.ask_word.ensures.sound (c.in-Root.ensures {u = tt}).asked c.see_generation-generation.new.actor.me.0 c.see_generation-generation.result c.see_generation-generation.ensures.seen
    c.args.actor.now.me.0 c.loop.invariant.1.stayed

pub help_within-requires-clause-table : goal.help_within-requires-clause-table
help_within-requires-clause-table c = c.ask_word.ensures.table ∙ c.loop.invariant.0 ∙ c.requires.table

pub help_within-requires-clause-way : goal.help_within-requires-clause-way
help_within-requires-clause-way c =
    let v = c.loop.actor.me.0 in
    let w = c.ask_word.new.actor.me.0 in
    stayed_way v w c.args.way (stayed_saw c.args.words.now.table_id.words v w c.loop.invariant.1.sound (c.in-Offer.ensures {u = tt}).asked.0) c.loop.invariant.1.at c.loop.invariant.1.on

pub help_within-requires-clause-at : goal.help_within-requires-clause-at
help_within-requires-clause-at c =
    let v = c.loop.actor.me.0 in
    let w = c.ask_word.new.actor.me.0 in
    root_then v w (stayed_saw c.args.words.now.table_id.words v w c.loop.invariant.1.sound (c.in-Offer.ensures {u = tt}).asked.0) c.loop.invariant.1.at

pub help_within-requires-clause-known : goal.help_within-requires-clause-known
help_within-requires-clause-known c =
    let saw = (c.in-Offer.ensures {u = tt}).asked in offer_now c.loop.actor.me.0 c.ask_word.new.actor.me.0 c.args.way.handle c.in-Offer.offer saw.0 saw.1

pub returns-then-not-help_within-clause-table : goal.returns-then-not-help_within-clause-table
returns-then-not-help_within-clause-table c = c.help_within.ensures.table ∙ c.ask_word.ensures.table ∙ c.loop.invariant.0

pub returns-then-not-help_within-clause-left : goal.returns-then-not-help_within-clause-left
returns-then-not-help_within-clause-left c =
    let n = c.args.words.now.table_id.words in
    let v = c.loop.actor.me.0 in
    let w = c.ask_word.new.actor.me.0 in
    left_after c.args.actor.now.me.0 w c.help_within.new.actor.me.0 left.MayGiveUp c.requires.at
    (stayed_both c.args.actor.now.me.0 v w c.loop.invariant.1.stayed (stayed_saw n v w c.loop.invariant.1.sound (c.in-Offer.ensures {u = tt}).asked.0))
    (subst (λ b. HasStayedOrLeft w b c.help_within.new.actor.me.0) c.if-not-help_within.true c.help_within.ensures.stays)

pub loop-preserved : goal.loop-preserved
loop-preserved c =
    let n = c.args.words.now.table_id.words in
    let u = c.args.actor.now in
    let v = c.loop.actor.me.0 in
    let w = c.ask_word.new.actor.me.0 in
    elim c.match-ask_word.branch [
      | in-Offer+else-not-help_within p ↦
          let z = p.help_within.new.actor in
          subst (λ x. (x.table_id ≡ u.table_id) × HasLookedSome n c.args.way u.me.0 x.me.0) (sym p.actor-is) (
            p.help_within.ensures.table ∙ c.ask_word.ensures.table ∙ c.loop.invariant.0,
            one_look n c.args.way u.me.0 v z.me.0 c.loop.invariant.1 p.help_within.ensures.sound
                (stayed_both v w z.me.0 (stayed_saw n v w c.loop.invariant.1.sound (p.in-Offer.ensures {u = tt}).asked.0) (subst
                (λ b. HasStayedOrLeft w b z.me.0) p.if-not-help_within.false p.help_within.ensures.stays)),
          )
      | in-Nothing p ↦
          subst (λ x. (x.table_id ≡ u.table_id) × HasLookedSome n c.args.way u.me.0 x.me.0) (sym p.actor-is) (
            c.ask_word.ensures.table ∙ c.loop.invariant.0,
            one_look n c.args.way u.me.0 v w c.loop.invariant.1 c.ask_word.ensures.sound (stayed_saw n v w c.loop.invariant.1.sound (p.in-Nothing.ensures {u = tt}).asked),
          )
    ]

pub returns-clause-table : goal.returns-clause-table
returns-clause-table c = c.loop.invariant.0

pub returns-clause-sound : goal.returns-clause-sound
returns-clause-sound c = c.loop.invariant.1.sound

pub returns-clause-left : goal.returns-clause-left
returns-clause-left c = stayed_left c.args.actor.now.me.0 c.loop.actor.me.0 c.requires.at c.loop.invariant.1.stayed
