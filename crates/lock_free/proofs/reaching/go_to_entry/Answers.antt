use Rattle.std.proofs.Common.{sym, ◌∙◌}
use Rattle.machine_model.specs.declared.finding.KeyLine.TheVariants as key
use Rattle.machine_model.specs.declared.lines.Line.TheVariants as line
use Rattle.lock_free.proofs.BranchEntries.{entry_ready, one_ready, link_ready, goes_below, renews_here}
use Rattle.lock_free.proofs.PlacesReached.{one_reached, renews_reached}
use Rattle.lock_free.specs.LinkReads.{given_by}
use Rattle.lock_free.proofs.reaching.go_to_entry.Goals as goal

pub see_entry-entry-requires-clause-held : goal.see_entry-entry-requires-clause-held
see_entry-entry-requires-clause-held c =
    entry_ready c.args.words.now.table_id.words c.args.actor.now.me.0 c.requires.sound c.args.task.now c.requires.task c.args.path.now (given_by c.args.link c.requires.at.0) c.args.position
    c.requires.at.1

pub returns-then-entry-clause-gone : goal.returns-then-entry-clause-gone
returns-then-entry-clause-gone c =
    let x = c.see_entry-entry in
    one_reached c.args.actor.now.me.0 c.args.task.now c.args.path.now c.args.link c.requires.at.0 x.new.actor.me.0 x.ensures.seen.0 c.args.position x.result.slot
    (one_ready c.args.words.now.table_id.words c.args.actor.now.me.0 c.requires.sound c.args.task.now c.requires.task c.args.path.now (given_by c.args.link c.requires.at.0)
    c.args.position c.requires.at.1 x.new.actor.me.0
    x.result x.ensures.seen x.ensures.sound c.if-entry.true)

pub meet_link-below-requires-clause-at : goal.meet_link-below-requires-clause-at
meet_link-below-requires-clause-at c =
    let x = c.see_entry-entry in
    link_ready c.args.words.now.table_id.words c.args.actor.now.me.0 c.requires.sound c.args.task.now c.requires.task c.args.path.now (given_by c.args.link c.requires.at.0) c.args.position
    c.requires.at.1 x.new.actor.me.0
    x.result x.ensures.seen x.ensures.sound c.if-entry.false

pub returns-then-passes-clause-gone : goal.returns-then-passes-clause-gone
returns-then-passes-clause-gone c =
    let x = c.see_entry-entry in
    let y = c.meet_link-below in
    goes_below c.args.words.now.table_id.words c.args.actor.now.me.0 c.requires.sound c.args.task.now c.requires.task c.args.path.now (given_by c.args.link c.requires.at.0) c.args.position
    c.requires.at.1 x.new.actor.me.0
    x.result x.ensures.seen x.ensures.sound y.new.actor.me.0 y.result y.ensures.met y.ensures.sound (sym c.passes.ensures ∙ c.if-passes.true)

pub returns-else-passes-clause-gone : goal.returns-else-passes-clause-gone
returns-else-passes-clause-gone c =
    let x = c.see_entry-entry in
    let y = c.meet_link-below in
    let at = c.requires.at.1 in
    renews_reached c.args.actor.now.me.0 c.args.task.now c.args.path.now c.args.link c.requires.at.0 y.new.actor.me.0 (line.Key (key.Entry at.0 at.1 c.args.position)) at.3.1
    (renews_here c.args.words.now.table_id.words c.args.actor.now.me.0 c.requires.sound c.args.task.now c.requires.task c.args.path.now (given_by c.args.link c.requires.at.0)
    c.args.position c.requires.at.1 x.new.actor.me.0
    x.result x.ensures.seen x.ensures.sound y.new.actor.me.0 y.result y.ensures.met y.ensures.sound (sym c.passes.ensures ∙ c.if-passes.false))
