use Rattle.lock_free.proofs.Siblings.{has_position, look_ready, entombs, removes}
use Rattle.lock_free.proofs.descending.remove_beside.Goals as goal

pub see_entry-other-requires-clause-held : goal.see_entry-other-requires-clause-held
see_entry-other-requires-clause-held c = has_position c.args.words.now.table_id.words c.args.actor.now.me.0 c.requires.sound c.args.path.now c.args.given c.args.position c.args.former c.requires.at

pub look_at_key-requires-clause-looking : goal.look_at_key-requires-clause-looking
look_at_key-requires-clause-looking c =
    let x = c.see_entry-other in
    look_ready c.args.words.now.table_id.words c.args.actor.now.me.0 c.requires.sound c.args.path.now c.args.given c.args.position c.args.former c.requires.at x.new.actor.me.0 x.result x.ensures.seen
    x.ensures.sound

pub look_at_link-requires-clause-looking : goal.look_at_link-requires-clause-looking
look_at_link-requires-clause-looking c =
    let x = c.see_entry-other in
    look_ready c.args.words.now.table_id.words c.args.actor.now.me.0 c.requires.sound c.args.path.now c.args.given c.args.position c.args.former c.requires.at x.new.actor.me.0 x.result x.ensures.seen
    x.ensures.sound

pub returns-then-other-clause-found : goal.returns-then-other-clause-found
returns-then-other-clause-found c =
    let x = c.see_entry-other in
    entombs c.args.words.now.table_id.words c.args.actor.now.me.0 c.requires.sound c.args.path.now c.args.given c.args.position c.args.former c.requires.at x.new.actor.me.0 x.result x.ensures.seen
    x.ensures.sound c.look_at_key.new.actor.me.0 c.look_at_key.ensures.sound c.look_at_key.ensures.read.0 c.if-other.true

pub returns-else-other-clause-found : goal.returns-else-other-clause-found
returns-else-other-clause-found c =
    let x = c.see_entry-other in
    removes c.args.words.now.table_id.words c.args.actor.now.me.0 c.requires.sound c.args.path.now c.args.given c.args.position c.args.former c.requires.at x.new.actor.me.0 x.result x.ensures.seen
    x.ensures.sound c.look_at_link.new.actor.me.0 c.look_at_link.ensures.sound c.look_at_link.ensures.read.0 c.if-other.false
