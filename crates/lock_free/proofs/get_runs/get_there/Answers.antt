use Rattle.std.proofs.Common.{None, sym, subst}
use Rattle.history.specs.declared.calls.Call.TheVariants.{Get}
use Rattle.history.specs.declared.replies.Reply.TheVariants as reply
use Rattle.lock_free.specs.declared.descending.Found.TheVariants as found
use Rattle.lock_free.specs.declared.reaching.Place.{Place}
use Rattle.lock_free.specs.Descending.{HasFound, IsAtOne}
use Rattle.lock_free.specs.LinkReads.{IsThere}
use Rattle.lock_free.specs.Reaching.{IsAtPlace}
use Rattle.lock_free.proofs.GetsWhole.{value_ends, value_left, value_told}
use Rattle.lock_free.proofs.KeyEnds.{absent_ends, found_as, found_runs, found_stock}
use Rattle.lock_free.proofs.RunningOn.{runs_on_self}
use Rattle.lock_free.proofs.get_runs.get_there.Goals as goal

pub value_at-value-requires-clause-at : goal.value_at-value-requires-clause-at
value_at-value-requires-clause-at g c =
    subst (λ xs. IsThere c.args.actor.now.me.0 xs c.args.reached.link (IsAtOne c.args.actor.now.me.0 c.in-Single.position c.in-Single.slot)) (sym c.as_slice-path.ensures.value)
    (subst (λ (p : Place). IsThere c.args.actor.now.me.0 c.args.path.now.items c.args.reached.link (IsAtPlace c.args.actor.now.me.0 c.args.task.now p)) c.in-Single.is c.requires.at)

pub end-requires-clause-stock : goal.end-requires-clause-stock
end-requires-clause-stock g c =
    found_stock c.args.actor.now.me.0 c.value_at-value.new.actor.me.0 c.args.path.now.items (found.Answers (reply.Found c.value_at-value.result)) (subst (λ xs. HasFound c.args.actor.now.me.0 xs
    (found.Answers (reply.Found c.value_at-value.result)) c.value_at-value.new.actor.me.0) c.as_slice-path.ensures.value c.value_at-value.ensures.found)
    c.requires.calling.running.0 c.requires.calling.running.1 c.args.words.now.table_id.words c.requires.sound c.args.stock.now c.requires.stock

pub end-requires-clause-ending : goal.end-requires-clause-ending
end-requires-clause-ending g c =
    value_ends c.args.actor.now.me.0 c.value_at-value.new.actor.me.0 (found_runs c.args.actor.now.me.0 c.value_at-value.new.actor.me.0 c.args.path.now.items (found.Answers (reply.Found
    c.value_at-value.result)) (subst (λ xs. HasFound c.args.actor.now.me.0 xs (found.Answers (reply.Found c.value_at-value.result)) c.value_at-value.new.actor.me.0) c.as_slice-path.ensures.value
    c.value_at-value.ensures.found))
    c.value_at-value.result (found_as c.args.actor.now.me.0 c.value_at-value.new.actor.me.0 c.args.path.now.items c.requires.calling.running.0 c.requires.calling.running.1
    c.args.words.now.table_id.words c.value_at-value.ensures.sound (found.Answers (reply.Found c.value_at-value.result)) (subst (λ xs. HasFound c.args.actor.now.me.0 xs (found.Answers
    (reply.Found c.value_at-value.result)) c.value_at-value.new.actor.me.0) c.as_slice-path.ensures.value c.value_at-value.ensures.found))

pub returns-in-Single-clause-told : goal.returns-in-Single-clause-told
returns-in-Single-clause-told g c =
    value_told c.args.actor.now.me.0 c.value_at-value.new.actor.me.0 (found_runs c.args.actor.now.me.0 c.value_at-value.new.actor.me.0 c.args.path.now.items (found.Answers (reply.Found
    c.value_at-value.result)) (subst (λ xs. HasFound c.args.actor.now.me.0 xs (found.Answers (reply.Found c.value_at-value.result)) c.value_at-value.new.actor.me.0) c.as_slice-path.ensures.value
    c.value_at-value.ensures.found))
    c.value_at-value.result (found_as c.args.actor.now.me.0 c.value_at-value.new.actor.me.0 c.args.path.now.items c.requires.calling.running.0 c.requires.calling.running.1
    c.args.words.now.table_id.words c.value_at-value.ensures.sound (found.Answers (reply.Found c.value_at-value.result)) (subst (λ xs. HasFound c.args.actor.now.me.0 xs (found.Answers
    (reply.Found c.value_at-value.result)) c.value_at-value.new.actor.me.0) c.as_slice-path.ensures.value c.value_at-value.ensures.found))
    c.args.task.now.access c.end.new.actor.me.0 c.end.ensures.ended (Get c.args.handle c.args.key)

pub returns-in-Single-clause-left : goal.returns-in-Single-clause-left
returns-in-Single-clause-left g c =
    value_left c.args.actor.now.me.0 c.value_at-value.new.actor.me.0 (found_runs c.args.actor.now.me.0 c.value_at-value.new.actor.me.0 c.args.path.now.items (found.Answers (reply.Found
    c.value_at-value.result)) (subst (λ xs. HasFound c.args.actor.now.me.0 xs (found.Answers (reply.Found c.value_at-value.result)) c.value_at-value.new.actor.me.0) c.as_slice-path.ensures.value
    c.value_at-value.ensures.found))
    c.value_at-value.result (found_as c.args.actor.now.me.0 c.value_at-value.new.actor.me.0 c.args.path.now.items c.requires.calling.running.0 c.requires.calling.running.1
    c.args.words.now.table_id.words c.value_at-value.ensures.sound (found.Answers (reply.Found c.value_at-value.result)) (subst (λ xs. HasFound c.args.actor.now.me.0 xs (found.Answers
    (reply.Found c.value_at-value.result)) c.value_at-value.new.actor.me.0) c.as_slice-path.ensures.value c.value_at-value.ensures.found))
    c.args.task.now.access c.end.new.actor.me.0 c.end.ensures.ended c.requires.calling.running c.args.task.now.call c.requires.calling.called c.requires.calling.none

pub end-requires-in-Absent-clause-ending : goal.end-requires-in-Absent-clause-ending
end-requires-in-Absent-clause-ending g c =
    value_ends c.args.actor.now.me.0 c.args.actor.now.me.0 (runs_on_self c.args.actor.now.me.0) None (absent_ends c.args.actor.now.me.0 c.args.task.now c.requires.task.reads
    c.args.path.now.items c.args.reached.link (subst (λ (p : Place). IsThere c.args.actor.now.me.0 c.args.path.now.items c.args.reached.link (IsAtPlace c.args.actor.now.me.0 c.args.task.now p))
    c.in-Absent.is c.requires.at))

pub returns-in-Absent-clause-told : goal.returns-in-Absent-clause-told
returns-in-Absent-clause-told g c =
    value_told c.args.actor.now.me.0 c.args.actor.now.me.0 (runs_on_self c.args.actor.now.me.0) None (absent_ends c.args.actor.now.me.0 c.args.task.now c.requires.task.reads
    c.args.path.now.items c.args.reached.link (subst (λ (p : Place). IsThere c.args.actor.now.me.0 c.args.path.now.items c.args.reached.link (IsAtPlace c.args.actor.now.me.0 c.args.task.now p))
    c.in-Absent.is c.requires.at))
    c.args.task.now.access c.end-in-Absent.new.actor.me.0 c.end-in-Absent.ensures.ended (Get c.args.handle c.args.key)

pub returns-in-Absent-clause-left : goal.returns-in-Absent-clause-left
returns-in-Absent-clause-left g c =
    value_left c.args.actor.now.me.0 c.args.actor.now.me.0 (runs_on_self c.args.actor.now.me.0) None (absent_ends c.args.actor.now.me.0 c.args.task.now c.requires.task.reads
    c.args.path.now.items c.args.reached.link (subst (λ (p : Place). IsThere c.args.actor.now.me.0 c.args.path.now.items c.args.reached.link (IsAtPlace c.args.actor.now.me.0 c.args.task.now p))
    c.in-Absent.is c.requires.at))
    c.args.task.now.access c.end-in-Absent.new.actor.me.0 c.end-in-Absent.ensures.ended c.requires.calling.running c.args.task.now.call c.requires.calling.called c.requires.calling.none
