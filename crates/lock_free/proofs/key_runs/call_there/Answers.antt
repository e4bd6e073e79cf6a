use Rattle.std.proofs.Common.{◌<◌, None, length, sym, subst, ◌∙◌}
use Rattle.machine_model.specs.Beneath.slot_arena.specs.Heaps.{no_ref}
use Rattle.machine_model.specs.declared.building.Site.TheVariants as site
use Rattle.machine_model.specs.declared.lines.Line.TheVariants as line
use Rattle.lock_free.specs.declared.descending.Update.TheVariants as update
use Rattle.lock_free.specs.declared.reaching.Place.{Place}
use Rattle.lock_free.specs.Attempts.{attempted_by, IsToChange}
use Rattle.lock_free.specs.Descending.{IsAtOne}
use Rattle.lock_free.specs.LinkReads.{IsThere}
use Rattle.lock_free.specs.Reaching.{IsAtPlace}
use Rattle.lock_free.specs.Holding.{IsOn}
use Rattle.lock_free.proofs.Descents.{task_stayed}
use Rattle.lock_free.proofs.HeadersSeen.{as_given, as_placed, built_held, built_on, built_place, built_stayed, one_given, one_held, one_stayed}
use Rattle.lock_free.proofs.KeyEnds.{attempted_as, attempted_runs, calling_on, done_since}
use Rattle.lock_free.proofs.PlacesReached.{answers_absent, builds_absent}
use Rattle.lock_free.proofs.RunningOn.{runs_on_stayed}
use Rattle.lock_free.proofs.StockStays.{stock_stayed}
use Rattle.lock_free.proofs.key_runs.call_there.Goals as goal

pub see_given-given-requires-clause-held : goal.see_given-given-requires-clause-held
see_given-given-requires-clause-held g c =
    one_held c.args.words.now.table_id.words c.args.actor.now.me.0 c.requires.sound c.args.path.now.items c.args.reached.link c.in-Single.position c.in-Single.slot (subst (λ (p : Place). IsThere
    c.args.actor.now.me.0 c.args.path.now.items c.args.reached.link (IsAtPlace c.args.actor.now.me.0 c.args.task.now p)) c.in-Single.is c.requires.at)

pub call_at_single-requires-clause-stock : goal.call_at_single-requires-clause-stock
call_at_single-requires-clause-stock g c =
    stock_stayed c.args.words.now.table_id.words c.args.actor.now.me.0 c.see_given-given.new.actor.me.0 c.requires.sound c.requires.calling.running.0 c.requires.calling.running.1
    c.args.stock.now c.requires.stock
    (one_stayed c.args.words.now.table_id.words c.args.actor.now.me.0 c.requires.sound c.args.path.now.items c.args.reached.link c.in-Single.position c.in-Single.slot (subst (λ (p : Place).
    IsThere c.args.actor.now.me.0 c.args.path.now.items c.args.reached.link (IsAtPlace c.args.actor.now.me.0 c.args.task.now p)) c.in-Single.is c.requires.at) c.see_given-given.new.actor.me.0
    c.see_given-given.ensures.sound c.see_given-given.result.header c.see_given-given.ensures.seen)

pub call_at_single-requires-clause-task : goal.call_at_single-requires-clause-task
call_at_single-requires-clause-task g c =
    task_stayed c.args.actor.now.me.0 c.see_given-given.new.actor.me.0 c.args.task.now c.requires.calling.running.0 c.requires.calling.running.1 (one_stayed c.args.words.now.table_id.words
    c.args.actor.now.me.0 c.requires.sound c.args.path.now.items c.args.reached.link c.in-Single.position c.in-Single.slot (subst (λ (p : Place). IsThere c.args.actor.now.me.0
    c.args.path.now.items c.args.reached.link (IsAtPlace c.args.actor.now.me.0 c.args.task.now p)) c.in-Single.is c.requires.at) c.see_given-given.new.actor.me.0 c.see_given-given.ensures.sound
    c.see_given-given.result.header c.see_given-given.ensures.seen) c.requires.task

pub call_at_single-requires-clause-calling : goal.call_at_single-requires-clause-calling
call_at_single-requires-clause-calling g c =
    calling_on c.args.actor.now.me.0 c.see_given-given.new.actor.me.0 (runs_on_stayed c.args.actor.now.me.0 c.see_given-given.new.actor.me.0 (one_stayed c.args.words.now.table_id.words
    c.args.actor.now.me.0 c.requires.sound c.args.path.now.items c.args.reached.link c.in-Single.position c.in-Single.slot (subst (λ (p : Place). IsThere c.args.actor.now.me.0
    c.args.path.now.items c.args.reached.link (IsAtPlace c.args.actor.now.me.0 c.args.task.now p)) c.in-Single.is c.requires.at) c.see_given-given.new.actor.me.0 c.see_given-given.ensures.sound
    c.see_given-given.result.header c.see_given-given.ensures.seen)) c.args.task.now.call c.args.task.now.access c.requires.calling

pub call_at_single-requires-clause-at : goal.call_at_single-requires-clause-at
call_at_single-requires-clause-at g c =
    as_given c.see_given-given.new.actor.me.0 c.args.path.now.items c.args.reached.link c.see_given-given.result c.see_given-given.ensures.link (IsAtOne c.see_given-given.new.actor.me.0
    c.in-Single.position c.in-Single.slot) (one_given c.args.words.now.table_id.words c.args.actor.now.me.0 c.requires.sound c.args.path.now.items c.args.reached.link c.in-Single.position
    c.in-Single.slot (subst (λ (p : Place). IsThere c.args.actor.now.me.0 c.args.path.now.items c.args.reached.link (IsAtPlace c.args.actor.now.me.0 c.args.task.now p)) c.in-Single.is
    c.requires.at) c.see_given-given.new.actor.me.0 c.see_given-given.ensures.sound c.see_given-given.result.header c.see_given-given.ensures.seen)

pub returns-in-Single-clause-out : goal.returns-in-Single-clause-out
returns-in-Single-clause-out g c =
    done_since c.args.actor.now.me.0 c.see_given-given.new.actor.me.0 (runs_on_stayed c.args.actor.now.me.0 c.see_given-given.new.actor.me.0 (one_stayed c.args.words.now.table_id.words
    c.args.actor.now.me.0 c.requires.sound c.args.path.now.items c.args.reached.link c.in-Single.position c.in-Single.slot (subst (λ (p : Place). IsThere c.args.actor.now.me.0
    c.args.path.now.items c.args.reached.link (IsAtPlace c.args.actor.now.me.0 c.args.task.now p)) c.in-Single.is c.requires.at) c.see_given-given.new.actor.me.0 c.see_given-given.ensures.sound
    c.see_given-given.result.header c.see_given-given.ensures.seen)) c.args.task.now.call c.call_at_single.result
    c.call_at_single.new.actor.me.0 c.call_at_single.ensures.out

pub answer-requires-clause-ending : goal.answer-requires-clause-ending
answer-requires-clause-ending g c =
    let at = subst (λ (p : Place). IsThere c.args.actor.now.me.0 c.args.path.now.items c.args.reached.link (IsAtPlace c.args.actor.now.me.0 c.args.task.now p)) c.in-Absent.is c.requires.at in
    subst (λ r. IsOn c.args.actor.now.me.0 (line.End r)) (sym c.absent_reply-reply.ensures)
    (answers_absent c.args.task.now.call site.Absent c.args.actor.now.me.0 at.1.0 at.1.1 at.1.3 (sym c.inserts.ensures ∙ c.if-not-inserts.true))

pub see_given-given-requires-in-Absent-clause-held : goal.see_given-given-requires-in-Absent-clause-held
see_given-given-requires-in-Absent-clause-held g c =
    let at = subst (λ (p : Place). IsThere c.args.actor.now.me.0 c.args.path.now.items c.args.reached.link (IsAtPlace c.args.actor.now.me.0 c.args.task.now p)) c.in-Absent.is c.requires.at in
    built_held c.args.words.now.table_id.words c.args.actor.now.me.0 c.requires.sound c.args.path.now.items c.args.reached.link site.Absent None at.0 at.1.0 at.1.1 at.1.2 (builds_absent
    c.args.task.now.call site.Absent c.args.actor.now.me.0 at.1.0 at.1.1 at.1.3 (sym c.inserts.ensures ∙ c.if-not-inserts.false))

pub give_value-swapped-requires-clause-stock : goal.give_value-swapped-requires-clause-stock
give_value-swapped-requires-clause-stock g c =
    let at = subst (λ (p : Place). IsThere c.args.actor.now.me.0 c.args.path.now.items c.args.reached.link (IsAtPlace c.args.actor.now.me.0 c.args.task.now p)) c.in-Absent.is c.requires.at in
    stock_stayed c.args.words.now.table_id.words c.args.actor.now.me.0 c.see_given-given-in-Absent.new.actor.me.0 c.requires.sound c.requires.calling.running.0 c.requires.calling.running.1
    c.args.stock.now c.requires.stock
    (built_stayed c.args.words.now.table_id.words c.args.actor.now.me.0 c.requires.sound c.args.path.now.items c.args.reached.link site.Absent None at.0 at.1.0 at.1.1 at.1.2 (builds_absent
    c.args.task.now.call site.Absent c.args.actor.now.me.0 at.1.0 at.1.1 at.1.3 (sym c.inserts.ensures ∙ c.if-not-inserts.false)) c.see_given-given-in-Absent.new.actor.me.0
    c.see_given-given-in-Absent.ensures.sound c.see_given-given-in-Absent.result.header c.see_given-given-in-Absent.ensures.seen)

pub give_value-swapped-requires-clause-task : goal.give_value-swapped-requires-clause-task
give_value-swapped-requires-clause-task g c =
    let at = subst (λ (p : Place). IsThere c.args.actor.now.me.0 c.args.path.now.items c.args.reached.link (IsAtPlace c.args.actor.now.me.0 c.args.task.now p)) c.in-Absent.is c.requires.at in
    task_stayed c.args.actor.now.me.0 c.see_given-given-in-Absent.new.actor.me.0 c.args.task.now c.requires.calling.running.0 c.requires.calling.running.1 (built_stayed
    c.args.words.now.table_id.words c.args.actor.now.me.0 c.requires.sound c.args.path.now.items c.args.reached.link site.Absent None at.0 at.1.0 at.1.1 at.1.2 (builds_absent
    c.args.task.now.call site.Absent c.args.actor.now.me.0 at.1.0 at.1.1 at.1.3 (sym c.inserts.ensures ∙ c.if-not-inserts.false)) c.see_given-given-in-Absent.new.actor.me.0
    c.see_given-given-in-Absent.ensures.sound c.see_given-given-in-Absent.result.header c.see_given-given-in-Absent.ensures.seen) c.requires.task

pub end_change-requires-clause-calling : goal.end_change-requires-clause-calling
end_change-requires-clause-calling g c =
    let at = subst (λ (p : Place). IsThere c.args.actor.now.me.0 c.args.path.now.items c.args.reached.link (IsAtPlace c.args.actor.now.me.0 c.args.task.now p)) c.in-Absent.is c.requires.at in
    let w = c.see_given-given-in-Absent.new.actor.me.0 in
    let x = c.give_value-swapped.new.actor.me.0 in
    let a = attempted_by c.give_value-swapped.result c.args.task.now.call None in
    calling_on w x (attempted_runs w x a c.give_value-swapped.ensures.attempted) c.args.task.now.call c.args.task.now.access
    (calling_on c.args.actor.now.me.0 c.see_given-given-in-Absent.new.actor.me.0 (runs_on_stayed c.args.actor.now.me.0 c.see_given-given-in-Absent.new.actor.me.0 (built_stayed
    c.args.words.now.table_id.words c.args.actor.now.me.0 c.requires.sound c.args.path.now.items c.args.reached.link site.Absent None at.0 at.1.0 at.1.1 at.1.2 (builds_absent
    c.args.task.now.call site.Absent c.args.actor.now.me.0 at.1.0 at.1.1 at.1.3 (sym c.inserts.ensures ∙ c.if-not-inserts.false)) c.see_given-given-in-Absent.new.actor.me.0
    c.see_given-given-in-Absent.ensures.sound c.see_given-given-in-Absent.result.header c.see_given-given-in-Absent.ensures.seen)) c.args.task.now.call c.args.task.now.access c.requires.calling)

pub end_change-requires-clause-at : goal.end_change-requires-clause-at
end_change-requires-clause-at g c =
    attempted_as c.see_given-given-in-Absent.new.actor.me.0 c.give_value-swapped.new.actor.me.0 (attempted_by c.give_value-swapped.result c.args.task.now.call None)
    c.give_value-swapped.ensures.attempted

pub give_value-swapped-requires-clause-some : goal.give_value-swapped-requires-clause-some
give_value-swapped-requires-clause-some g c = subst (λ xs. 0 < length xs) (sym c.as_slice-path.ensures.value) c.requires.some

pub give_value-swapped-requires-clause-at : goal.give_value-swapped-requires-clause-at
give_value-swapped-requires-clause-at g c =
    let at = subst (λ (p : Place). IsThere c.args.actor.now.me.0 c.args.path.now.items c.args.reached.link (IsAtPlace c.args.actor.now.me.0 c.args.task.now p)) c.in-Absent.is c.requires.at in
    let w = c.see_given-given-in-Absent.new.actor.me.0 in
    subst (λ xs. IsToChange w xs c.see_given-given-in-Absent.result (update.Builds site.Absent None)) (sym c.as_slice-path.ensures.value)
    (record {
      path = at.1.0;
      main = at.1.1;
      other = no_ref;
      on = built_on c.args.words.now.table_id.words c.args.actor.now.me.0 c.requires.sound c.args.path.now.items c.args.reached.link site.Absent None at.0 at.1.0 at.1.1 at.1.2 (builds_absent
          c.args.task.now.call site.Absent c.args.actor.now.me.0 at.1.0 at.1.1 at.1.3 (sym c.inserts.ensures ∙ c.if-not-inserts.false)) c.see_given-given-in-Absent.new.actor.me.0
          c.see_given-given-in-Absent.ensures.sound c.see_given-given-in-Absent.result.header c.see_given-given-in-Absent.ensures.seen;
      place = as_placed w c.args.path.now.items c.args.reached.link c.see_given-given-in-Absent.result c.see_given-given-in-Absent.ensures.link at.1.0 at.1.1 (built_place
          c.args.words.now.table_id.words c.args.actor.now.me.0 c.requires.sound c.args.path.now.items c.args.reached.link site.Absent None at.0 at.1.0 at.1.1 at.1.2 (builds_absent
          c.args.task.now.call site.Absent c.args.actor.now.me.0 at.1.0 at.1.1 at.1.3 (sym c.inserts.ensures ∙ c.if-not-inserts.false)) c.see_given-given-in-Absent.new.actor.me.0
          c.see_given-given-in-Absent.ensures.sound c.see_given-given-in-Absent.result.header c.see_given-given-in-Absent.ensures.seen);
      knows = tt;
    })

pub returns-else-not-inserts-clause-out : goal.returns-else-not-inserts-clause-out
returns-else-not-inserts-clause-out g c =
    let at = subst (λ (p : Place). IsThere c.args.actor.now.me.0 c.args.path.now.items c.args.reached.link (IsAtPlace c.args.actor.now.me.0 c.args.task.now p)) c.in-Absent.is c.requires.at in
    done_since c.args.actor.now.me.0 c.see_given-given-in-Absent.new.actor.me.0 (runs_on_stayed c.args.actor.now.me.0 c.see_given-given-in-Absent.new.actor.me.0 (built_stayed
    c.args.words.now.table_id.words c.args.actor.now.me.0 c.requires.sound c.args.path.now.items c.args.reached.link site.Absent None at.0 at.1.0 at.1.1 at.1.2 (builds_absent
    c.args.task.now.call site.Absent c.args.actor.now.me.0 at.1.0 at.1.1 at.1.3 (sym c.inserts.ensures ∙ c.if-not-inserts.false)) c.see_given-given-in-Absent.new.actor.me.0
    c.see_given-given-in-Absent.ensures.sound c.see_given-given-in-Absent.result.header c.see_given-given-in-Absent.ensures.seen)) c.args.task.now.call c.end_change.result
    c.end_change.new.actor.me.0
    (let w = c.see_given-given-in-Absent.new.actor.me.0 in
    let x = c.give_value-swapped.new.actor.me.0 in
    let a = attempted_by c.give_value-swapped.result c.args.task.now.call None in
    done_since w x (attempted_runs w x a c.give_value-swapped.ensures.attempted) c.args.task.now.call c.end_change.result c.end_change.new.actor.me.0 c.end_change.ensures.out)
