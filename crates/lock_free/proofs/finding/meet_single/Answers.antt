use Rattle.std.proofs.Common.{eq-eqb, ne_eqb}
use Rattle.lock_free.proofs.EntryMeets.{holds_slot, single_ready, finds, passes_by, value_is}
use Rattle.lock_free.proofs.finding.meet_single.Goals as goal

pub see_key-requires-clause-held : goal.see_key-requires-clause-held
see_key-requires-clause-held c =
    let v = c.args.actor.now.me.0 in holds_slot c.args.words.now.table_id.words v v c.requires.sound c.args.single c.requires.at

pub look_at_value-requires-clause-looking : goal.look_at_value-requires-clause-looking
look_at_value-requires-clause-looking c =
    single_ready c.args.words.now.table_id.words c.args.actor.now.me.0 c.see_key.new.actor.me.0 c.requires.sound c.args.single c.requires.at c.see_key.result c.see_key.ensures.seen
    c.see_key.ensures.sound

pub look_at_key-requires-clause-looking : goal.look_at_key-requires-clause-looking
look_at_key-requires-clause-looking c =
    single_ready c.args.words.now.table_id.words c.args.actor.now.me.0 c.see_key.new.actor.me.0 c.requires.sound c.args.single c.requires.at c.see_key.result c.see_key.ensures.seen
    c.see_key.ensures.sound

pub returns-then-see_key-key-clause-met : goal.returns-then-see_key-key-clause-met
returns-then-see_key-key-clause-met c =
    let n = c.args.words.now.table_id.words in
    let v = c.args.actor.now.me.0 in
    let middle = c.see_key.new.actor.me.0 in
    let after = c.look_at_value.new.actor.me.0 in
    let seen = c.look_at_value.ensures.read in
    finds n v middle c.requires.sound c.args.single c.requires.at c.see_key.result c.see_key.ensures.seen c.see_key.ensures.sound c.args.key c.requires.key after c.look_at_value.ensures.sound
    seen.0 c.look_at_value.result
    (value_is n v middle c.requires.sound c.args.single c.requires.at c.see_key.result c.see_key.ensures.seen c.see_key.ensures.sound c.look_at_value.result after seen) (eq-eqb c.see_key.result
    c.args.key c.if-see_key-key.true)

pub returns-else-see_key-key-clause-met : goal.returns-else-see_key-key-clause-met
returns-else-see_key-key-clause-met c =
    passes_by c.args.words.now.table_id.words c.args.actor.now.me.0 c.see_key.new.actor.me.0 c.requires.sound c.args.single c.requires.at c.see_key.result c.see_key.ensures.seen
    c.see_key.ensures.sound c.args.key c.requires.key
    c.look_at_key.new.actor.me.0 c.look_at_key.ensures.sound c.look_at_key.ensures.read.0 (ne_eqb c.see_key.result c.args.key c.if-see_key-key.false)
