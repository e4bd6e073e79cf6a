use Rattle.std.proofs.Common.{◌≡◌, refl, sym, subst, ◌∙◌, arith}
use Rattle.lock_free.specs.Descending.{HasFound, IsSearching}
use Rattle.lock_free.proofs.KeyLists.{begins, see_ready, task_mid, meet_ready, found_ready, found_done, next_one, ends}
use Rattle.lock_free.proofs.OfTasks.{on_key}
use Rattle.lock_free.proofs.descending.search_list.Goals as goal

pub loop-position-init : goal.loop-position-init
loop-position-init c = (
  refl,
  c.requires.sound,
  subst (λ k. IsSearching c.args.actor.now.me.0 c.args.task.now c.args.path.now c.args.given k 0 c.args.actor.now.me.0) (sym c.entries_in-singles.ensures)
      (begins c.args.words.now.table_id.words c.args.actor.now.me.0 c.requires.sound c.args.task.now c.requires.task c.args.path.now c.args.given c.requires.at),
)

pub see_entry-entry-requires-clause-table : goal.see_entry-entry-requires-clause-table
see_entry-entry-requires-clause-table c = c.loop-position.invariant.0 ∙ c.requires.table

pub see_entry-entry-requires-clause-sound : goal.see_entry-entry-requires-clause-sound
see_entry-entry-requires-clause-sound c = c.loop-position.invariant.1

pub see_entry-entry-requires-clause-held : goal.see_entry-entry-requires-clause-held
see_entry-entry-requires-clause-held c =
    let i = c.loop-position.invariant in
    see_ready c.args.words.now.table_id.words c.args.actor.now.me.0 c.args.task.now c.args.path.now c.args.given c.entries_in-singles.result c.loop-position.position c.loop-position.actor.me.0 i.2 i.1
    c.loop-position-test.true

pub meet_single-requires-clause-table : goal.meet_single-requires-clause-table
meet_single-requires-clause-table c = c.see_entry-entry.ensures.table ∙ c.loop-position.invariant.0 ∙ c.requires.table

pub meet_single-requires-clause-key : goal.meet_single-requires-clause-key
meet_single-requires-clause-key c =
    let i = c.loop-position.invariant in
    let x = c.see_entry-entry in
    on_key x.new.actor.me.0 c.args.task.now
    (task_mid c.args.words.now.table_id.words c.args.actor.now.me.0 c.args.task.now c.args.path.now c.args.given c.entries_in-singles.result c.loop-position.position c.loop-position.actor.me.0 i.2 i.1
    c.loop-position-test.true x.new.actor.me.0 x.result x.ensures.seen x.ensures.sound)

pub meet_single-requires-clause-at : goal.meet_single-requires-clause-at
meet_single-requires-clause-at c =
    let i = c.loop-position.invariant in
    let x = c.see_entry-entry in
    meet_ready c.args.words.now.table_id.words c.args.actor.now.me.0 c.args.task.now c.args.path.now c.args.given c.entries_in-singles.result c.loop-position.position c.loop-position.actor.me.0
    i.2 i.1
    c.loop-position-test.true x.new.actor.me.0 x.result x.ensures.seen x.ensures.sound

pub at_key-requires-clause-table : goal.at_key-requires-clause-table
at_key-requires-clause-table c = c.meet_single.ensures.table ∙ c.see_entry-entry.ensures.table ∙ c.loop-position.invariant.0 ∙ c.requires.table

pub at_key-requires-clause-at : goal.at_key-requires-clause-at
at_key-requires-clause-at c =
    let i = c.loop-position.invariant in
    let x = c.see_entry-entry in
    found_ready c.args.words.now.table_id.words c.args.actor.now.me.0 c.args.task.now c.args.path.now c.args.given c.entries_in-singles.result c.loop-position.position c.loop-position.actor.me.0
    i.2 i.1
    c.loop-position-test.true x.new.actor.me.0 x.result x.ensures.seen x.ensures.sound c.meet_single.new.actor.me.0 c.in-Found.value c.in-Found.ensures.met

pub returns-in-Found-clause-table : goal.returns-in-Found-clause-table
returns-in-Found-clause-table c = c.at_key.ensures.table ∙ c.meet_single.ensures.table ∙ c.see_entry-entry.ensures.table ∙ c.loop-position.invariant.0

pub returns-in-Found-clause-found : goal.returns-in-Found-clause-found
returns-in-Found-clause-found c =
    let i = c.loop-position.invariant in
    let x = c.see_entry-entry in
    found_done c.args.words.now.table_id.words c.args.actor.now.me.0 c.args.task.now c.args.path.now c.args.given c.entries_in-singles.result c.loop-position.position c.loop-position.actor.me.0
    i.2 i.1
    c.loop-position-test.true x.new.actor.me.0 x.result x.ensures.seen x.ensures.sound c.meet_single.new.actor.me.0 c.in-Found.value c.in-Found.ensures.met c.at_key.new.actor.me.0 c.at_key.result
    c.at_key.ensures.found

pub loop-position-preserved : goal.loop-position-preserved
loop-position-preserved c =
    let i = c.loop-position.invariant in
    let x = c.see_entry-entry in (
      c.meet_single.ensures.table ∙ x.ensures.table ∙ i.0,
      c.meet_single.ensures.sound,
      next_one c.args.words.now.table_id.words c.args.actor.now.me.0 c.args.task.now c.args.path.now c.args.given c.entries_in-singles.result c.loop-position.position c.loop-position.actor.me.0
          i.2 i.1
          c.loop-position-test.true x.new.actor.me.0 x.result x.ensures.seen x.ensures.sound c.meet_single.new.actor.me.0 c.in-Other.ensures.met,
    )

pub returns-clause-table : goal.returns-clause-table
returns-clause-table c = c.loop-position.invariant.0

pub returns-clause-sound : goal.returns-clause-sound
returns-clause-sound c = c.loop-position.invariant.1

pub returns-clause-found : goal.returns-clause-found
returns-clause-found c =
    let most = c.loop-position.auto.position-end in
    let least = c.loop-position-test.false in
    let last : c.loop-position.position ≡ c.entries_in-singles.result = omega (arith, most, least) in
    subst (λ r. HasFound c.args.actor.now.me.0 c.args.path.now r c.loop-position.actor.me.0) (sym c.absent_listed.ensures)
    (ends c.args.actor.now.me.0 c.args.task.now c.args.path.now c.args.given c.entries_in-singles.result c.loop-position.actor.me.0
    (subst (λ k. IsSearching c.args.actor.now.me.0 c.args.task.now c.args.path.now c.args.given c.entries_in-singles.result k c.loop-position.actor.me.0) last c.loop-position.invariant.2))
