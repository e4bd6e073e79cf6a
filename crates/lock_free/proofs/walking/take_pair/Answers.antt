use Rattle.lock_free.proofs.OneWalk.Takes.{holds_taken, looks_taken, pair_taken}
use Rattle.lock_free.proofs.walking.take_pair.Goals as goal

pub see_key-key-requires-clause-held : goal.see_key-key-requires-clause-held
see_key-key-requires-clause-held c = holds_taken c.args.words.now.table_id.words c.args.actor.now.me.0 c.requires.sound c.args.single c.requires.at

pub look_at_value-value-requires-clause-looking : goal.look_at_value-value-requires-clause-looking
look_at_value-value-requires-clause-looking c =
    looks_taken c.args.words.now.table_id.words c.args.actor.now.me.0 c.requires.sound c.args.single c.requires.at c.see_key-key.new.actor.me.0 c.see_key-key.result c.see_key-key.ensures.seen
    c.see_key-key.ensures.sound

pub returns-clause-taken : goal.returns-clause-taken
returns-clause-taken c =
    λ at.
    pair_taken c.args.words.now.table_id.words c.args.actor.now.me.0 c.requires.sound c.args.single at c.see_key-key.new.actor.me.0 c.see_key-key.result c.see_key-key.ensures.seen
    c.see_key-key.ensures.sound c.look_at_value-value.new.actor.me.0 c.look_at_value-value.ensures.sound c.look_at_value-value.result c.look_at_value-value.ensures.read
