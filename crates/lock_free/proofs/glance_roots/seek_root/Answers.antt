use Rattle.std.proofs.Common.{subst}
use Rattle.machine_model.specs.Lines.{new_try}
use Rattle.lock_free.specs.declared.asking.Named.TheVariants as named
use Rattle.lock_free.specs.GlanceGets.{GlancesOn}
use Rattle.lock_free.specs.Holding.{IsOn}
use Rattle.lock_free.specs.Passing.{IsOnWay}
use Rattle.lock_free.specs.Rooting.{HasRooted}
use Rattle.lock_free.specs.RootWords.{HasAskedRoot, HasSeenGeneration}
use Rattle.lock_free.specs.Shadows.{inner}
use Rattle.lock_free.proofs.OneGlance.Together.{glance_then, on_on}
use Rattle.lock_free.proofs.OneGlance.Asks.{at_root}
use Rattle.lock_free.proofs.Rootings.{asks_root, last_look, stayed_none}
use Rattle.lock_free.proofs.glance_roots.seek_root.Goals as goal

pub ask_word-requires-clause-asking : goal.ask_word-requires-clause-asking
ask_word-requires-clause-asking c g is known = let p = c.requires.at g is known in (asks_root (inner c.args.actor.now.me.0 g) c.args.way (at_root (inner c.args.actor.now.me.0 g) p.1) p.0, p.1)

pub see_generation-generation-requires-clause-glances : goal.see_generation-generation-requires-clause-glances
see_generation-generation-requires-clause-glances c =
    glance_then c.args.words.now.table_id.words c.args.actor.now.me.0 c.requires.glances (λ x y. HasAskedRoot x c.args.way.handle c.ask_word.result y) c.ask_word.new.actor.me.0
    c.ask_word.ensures.asked

pub returns-clause-rooted : goal.returns-clause-rooted
returns-clause-rooted c =
    let n = c.args.words.now.table_id.words in
    let u = c.args.actor.now.me.0 in
    let v = c.ask_word.new.actor.me.0 in
    let w = c.see_generation-generation.new.actor.me.0 in
    let slot = c.in-Root.slot in
    let generation = c.see_generation-generation.result in
    let on = subst (λ k. GlancesOn n (λ x y. HasAskedRoot x c.args.way.handle k y) u v) c.in-Root.is c.ask_word.ensures.asked in
    on_on n u v c.requires.glances (λ x y. HasAskedRoot x c.args.way.handle (named.Root slot) y) on w (λ x y. HasSeenGeneration x slot generation y) c.see_generation-generation.ensures.seen
    (λ x. IsOnWay x c.args.way × IsOn x new_try) (λ x z. HasRooted x (record { slot = slot; generation = generation }) z) c.requires.at
    (λ x y z s p t asked e seen. last_look n x s c.args.way (at_root x p.1) p.0 slot y t asked z generation seen x (stayed_none x))
