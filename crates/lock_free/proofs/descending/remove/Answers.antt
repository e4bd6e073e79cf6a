use Rattle.std.proofs.Common.{sym, ◌∙◌, arith}
use Rattle.lock_free.proofs.Removals.{beside_few, beside_ready, single_few, single_ready, entombs, removes}
use Rattle.lock_free.proofs.descending.remove.Goals as goal

pub remove_beside-requires-clause-one : goal.remove_beside-requires-clause-one
remove_beside-requires-clause-one c =
    beside_few c.args.words.now.table_id.words c.args.actor.now.me.0 c.requires.sound c.args.path.now c.args.given c.args.position c.args.former c.requires.at (sym c.in-Entry.is ∙ c.rest_in.ensures)

pub remove_beside-requires-clause-at : goal.remove_beside-requires-clause-at
remove_beside-requires-clause-at c =
    beside_ready c.args.words.now.table_id.words c.args.actor.now.me.0 c.requires.sound c.args.path.now c.args.given c.args.position c.args.former c.requires.at (sym c.in-Entry.is ∙ c.rest_in.ensures)

pub overflow_cast-position : goal.overflow_cast-position
overflow_cast-position c =
    let few = single_few c.args.words.now.table_id.words c.args.actor.now.me.0 c.requires.sound c.args.path.now c.args.given c.args.position c.args.former c.requires.at
    (sym c.in-Single.is ∙ c.rest_in.ensures) in
    omega (arith, few)

pub overflow_sub-position : goal.overflow_sub-position
overflow_sub-position c =
    let few = single_few c.args.words.now.table_id.words c.args.actor.now.me.0 c.requires.sound c.args.path.now c.args.given c.args.position c.args.former c.requires.at
    (sym c.in-Single.is ∙ c.rest_in.ensures) in
    omega (arith, few)

pub see_entry-requires-clause-held : goal.see_entry-requires-clause-held
see_entry-requires-clause-held c =
    single_ready c.args.words.now.table_id.words c.args.actor.now.me.0 c.requires.sound c.args.path.now c.args.given c.args.position c.args.former c.requires.at
    (sym c.in-Single.is ∙ c.rest_in.ensures)

pub returns-in-Single-clause-found : goal.returns-in-Single-clause-found
returns-in-Single-clause-found c =
    entombs c.args.words.now.table_id.words c.args.actor.now.me.0 c.requires.sound c.args.path.now c.args.given c.args.position c.args.former c.requires.at (sym c.in-Single.is ∙ c.rest_in.ensures)
    c.see_entry.new.actor.me.0 c.see_entry.result c.see_entry.ensures.sound c.see_entry.ensures.seen

pub returns-in-Any-clause-found : goal.returns-in-Any-clause-found
returns-in-Any-clause-found c =
    removes c.args.words.now.table_id.words c.args.actor.now.me.0 c.requires.sound c.args.path.now c.args.given c.args.position c.args.former c.requires.at (sym c.in-Any.is ∙ c.rest_in.ensures)
