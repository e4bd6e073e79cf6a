use Rattle.std.proofs.Common.{eq-eqb, ne_eqb}
use Rattle.lock_free.specs.declared.finding.Met.TheVariants as met
use Rattle.lock_free.specs.GoingDown.{HasMet, IsAtSingle, IsOnKey}
use Rattle.lock_free.specs.Loading.{HasLookedAtKey, HasLookedAtValue, HasSeenKey}
use Rattle.machine_model.specs.declared.actions.Action.TheVariants as act
use Rattle.lock_free.specs.GlanceGets.{LooksAt}
use Rattle.lock_free.proofs.EntryMeets.{finds, passes_by, value_is}
use Rattle.lock_free.proofs.OneGlance.Together.{glance_then, on_on, on_self, while_on}
use Rattle.lock_free.proofs.OneGlance.Turns.{single_there}
use Rattle.lock_free.proofs.glance_looks.meet_single.Goals as goal

pub returns-then-not-is_inside-clause-met : goal.returns-then-not-is_inside-clause-met
returns-then-not-is_inside-clause-met c = on_self c.args.words.now.table_id.words c.args.actor.now.me.0 c.requires.glances (λ x y. Unit {0}) (λ x. tt)

pub look_at_value-requires-clause-glances : goal.look_at_value-requires-clause-glances
look_at_value-requires-clause-glances c =
    glance_then c.args.words.now.table_id.words c.args.actor.now.me.0 c.requires.glances (λ x y. HasSeenKey x c.args.single c.see_key.result y) c.see_key.new.actor.me.0 c.see_key.ensures.seen

pub look_at_value-requires-clause-looking : goal.look_at_value-requires-clause-looking
look_at_value-requires-clause-looking c =
    let n = c.args.words.now.table_id.words in
    while_on n c.args.actor.now.me.0 c.see_key.new.actor.me.0 c.requires.glances (λ x y. HasSeenKey x c.args.single c.see_key.result y) c.see_key.ensures.seen
    (λ x. IsOnKey x c.args.key × IsAtSingle x c.args.single) (λ y. LooksAt y act.Look c.args.single) c.requires.at
    (λ x y s p t seen. single_there n x y s c.args.single p.1 c.see_key.result seen t)

pub look_at_key-requires-clause-glances : goal.look_at_key-requires-clause-glances
look_at_key-requires-clause-glances c =
    glance_then c.args.words.now.table_id.words c.args.actor.now.me.0 c.requires.glances (λ x y. HasSeenKey x c.args.single c.see_key.result y) c.see_key.new.actor.me.0 c.see_key.ensures.seen

pub look_at_key-requires-clause-looking : goal.look_at_key-requires-clause-looking
look_at_key-requires-clause-looking c =
    let n = c.args.words.now.table_id.words in
    while_on n c.args.actor.now.me.0 c.see_key.new.actor.me.0 c.requires.glances (λ x y. HasSeenKey x c.args.single c.see_key.result y) c.see_key.ensures.seen
    (λ x. IsOnKey x c.args.key × IsAtSingle x c.args.single) (λ y. LooksAt y act.Look c.args.single) c.requires.at
    (λ x y s p t seen. single_there n x y s c.args.single p.1 c.see_key.result seen t)

pub returns-then-see_key-key-clause-met : goal.returns-then-see_key-key-clause-met
returns-then-see_key-key-clause-met c =
    let n = c.args.words.now.table_id.words in
    let told = c.see_key.result in
    let value = c.look_at_value.result in
    let single = c.args.single in
    on_on n c.args.actor.now.me.0 c.see_key.new.actor.me.0 c.requires.glances (λ x y. HasSeenKey x single told y) c.see_key.ensures.seen c.look_at_value.new.actor.me.0
    (λ x y. HasLookedAtValue x value y) c.look_at_value.ensures.read (λ x. IsOnKey x c.args.key × IsAtSingle x single) (λ x z. HasMet x (met.Found value) z) c.requires.at
    (λ x y z s p t seen e looked.
    finds n x y s single p.1 told seen t c.args.key p.0 z e looked.0 value (value_is n x y s single p.1 told seen t value z looked) (eq-eqb told c.args.key c.if-see_key-key.true))

pub returns-else-see_key-key-clause-met : goal.returns-else-see_key-key-clause-met
returns-else-see_key-key-clause-met c =
    let n = c.args.words.now.table_id.words in
    let told = c.see_key.result in
    let single = c.args.single in
    on_on n c.args.actor.now.me.0 c.see_key.new.actor.me.0 c.requires.glances (λ x y. HasSeenKey x single told y) c.see_key.ensures.seen c.look_at_key.new.actor.me.0
    (λ x y. HasLookedAtKey x c.look_at_key.result y) c.look_at_key.ensures.read (λ x. IsOnKey x c.args.key × IsAtSingle x single) (λ x z. HasMet x met.Other z) c.requires.at
    (λ x y z s p t seen e looked. passes_by n x y s single p.1 told seen t c.args.key p.0 z e looked.0 (ne_eqb told c.args.key c.if-see_key-key.false))
