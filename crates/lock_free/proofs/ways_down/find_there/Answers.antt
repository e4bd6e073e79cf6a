use Rattle.std.proofs.Common.{[], None, refl, sym, subst, ◌∙◌}
use Rattle.machine_model.specs.Beneath.slot_arena.specs.Heaps.{no_ref}
use Rattle.machine_model.specs.declared.building.BuildLine.TheVariants as build
use Rattle.machine_model.specs.declared.building.Site.TheVariants as site
use Rattle.machine_model.specs.declared.lines.Line.TheVariants as line
use Rattle.machine_model.specs.declared.repairs.RenewLine.TheVariants as renew
use Rattle.lock_free.specs.declared.descending.Found.TheVariants as found
use Rattle.lock_free.specs.declared.descending.Update.TheVariants as update
use Rattle.lock_free.specs.declared.reaching.Place.{Place}
use Rattle.lock_free.specs.Descending.{IsAtList, IsAtOne}
use Rattle.lock_free.specs.Holding.{IsOn}
use Rattle.lock_free.specs.LinkReads.{IsThere}
use Rattle.lock_free.specs.Reaching.{IsAtPlace}
use Rattle.lock_free.specs.Seeking.{IsToRenew}
use Rattle.lock_free.proofs.Descents.{found_here, found_stayed, task_stayed}
use Rattle.lock_free.proofs.HeadersSeen.{as_given, as_placed, branch_held, branch_here, branch_stayed, built_held, built_on, built_place, built_stayed, list_held, list_here, list_stayed, list_task}
use Rattle.lock_free.proofs.HeadersSeen.{one_given, one_held, one_stayed}
use Rattle.lock_free.proofs.PlacesReached.{answers_absent, builds_absent}
use Rattle.lock_free.proofs.ways_down.find_there.Goals as goal

pub see_given-given-requires-clause-held : goal.see_given-given-requires-clause-held
see_given-given-requires-clause-held c =
    one_held c.args.words.now.table_id.words c.args.actor.now.me.0 c.requires.sound c.args.path.now c.args.reached.link c.in-Single.position c.in-Single.slot (subst (λ (p : Place). IsThere
    c.args.actor.now.me.0 c.args.path.now c.args.reached.link (IsAtPlace c.args.actor.now.me.0 c.args.task.now p)) c.in-Single.is c.requires.at)

pub at_single-requires-clause-task : goal.at_single-requires-clause-task
at_single-requires-clause-task c =
    let at = subst (λ (p : Place). IsThere c.args.actor.now.me.0 c.args.path.now c.args.reached.link (IsAtPlace c.args.actor.now.me.0 c.args.task.now p)) c.in-Single.is c.requires.at in
    task_stayed c.args.actor.now.me.0 c.see_given-given.new.actor.me.0 c.args.task.now at.1.3.1.0 at.1.3.1.1 (one_stayed c.args.words.now.table_id.words c.args.actor.now.me.0 c.requires.sound
    c.args.path.now c.args.reached.link c.in-Single.position c.in-Single.slot at c.see_given-given.new.actor.me.0 c.see_given-given.ensures.sound c.see_given-given.result.header
    c.see_given-given.ensures.seen) c.requires.task

pub at_single-requires-clause-at : goal.at_single-requires-clause-at
at_single-requires-clause-at c =
    as_given c.see_given-given.new.actor.me.0 c.args.path.now c.args.reached.link c.see_given-given.result c.see_given-given.ensures.link (IsAtOne c.see_given-given.new.actor.me.0
    c.in-Single.position c.in-Single.slot) (one_given c.args.words.now.table_id.words c.args.actor.now.me.0 c.requires.sound c.args.path.now c.args.reached.link c.in-Single.position
    c.in-Single.slot (subst (λ (p : Place). IsThere c.args.actor.now.me.0 c.args.path.now c.args.reached.link (IsAtPlace c.args.actor.now.me.0 c.args.task.now p)) c.in-Single.is c.requires.at)
    c.see_given-given.new.actor.me.0 c.see_given-given.ensures.sound c.see_given-given.result.header c.see_given-given.ensures.seen)

pub returns-in-Single-clause-found : goal.returns-in-Single-clause-found
returns-in-Single-clause-found c =
    let x = c.at_single in
    found_stayed c.args.actor.now.me.0 c.see_given-given.new.actor.me.0 x.new.actor.me.0 c.args.path.now x.result (one_stayed c.args.words.now.table_id.words c.args.actor.now.me.0
    c.requires.sound c.args.path.now c.args.reached.link c.in-Single.position c.in-Single.slot (subst (λ (p : Place). IsThere c.args.actor.now.me.0 c.args.path.now c.args.reached.link (IsAtPlace
    c.args.actor.now.me.0 c.args.task.now p)) c.in-Single.is c.requires.at) c.see_given-given.new.actor.me.0 c.see_given-given.ensures.sound c.see_given-given.result.header
    c.see_given-given.ensures.seen) x.ensures.found

pub returns-then-not-inserts-clause-found : goal.returns-then-not-inserts-clause-found
returns-then-not-inserts-clause-found c =
    let at = subst (λ (p : Place). IsThere c.args.actor.now.me.0 c.args.path.now c.args.reached.link (IsAtPlace c.args.actor.now.me.0 c.args.task.now p)) c.in-Absent.is c.requires.at in
    found_here c.args.actor.now.me.0 c.args.path.now (found.Answers c.absent_reply.result) at.1.0 at.1.1 no_ref (line.End c.absent_reply.result)
    (subst (λ r. IsOn c.args.actor.now.me.0 (line.End r)) (sym c.absent_reply.ensures)
    (answers_absent c.args.task.now.call site.Absent c.args.actor.now.me.0 at.1.0 at.1.1 at.1.3 (sym c.inserts.ensures ∙ c.if-not-inserts.true))) refl tt

pub see_given-given-requires-in-Absent-clause-held : goal.see_given-given-requires-in-Absent-clause-held
see_given-given-requires-in-Absent-clause-held c =
    let at = subst (λ (p : Place). IsThere c.args.actor.now.me.0 c.args.path.now c.args.reached.link (IsAtPlace c.args.actor.now.me.0 c.args.task.now p)) c.in-Absent.is c.requires.at in
    built_held c.args.words.now.table_id.words c.args.actor.now.me.0 c.requires.sound c.args.path.now c.args.reached.link site.Absent None at.0 at.1.0 at.1.1 at.1.2
    (builds_absent c.args.task.now.call site.Absent c.args.actor.now.me.0 at.1.0 at.1.1 at.1.3 (sym c.inserts.ensures ∙ c.if-not-inserts.false))

pub returns-else-not-inserts-clause-found : goal.returns-else-not-inserts-clause-found
returns-else-not-inserts-clause-found c =
    let at = subst (λ (p : Place). IsThere c.args.actor.now.me.0 c.args.path.now c.args.reached.link (IsAtPlace c.args.actor.now.me.0 c.args.task.now p)) c.in-Absent.is c.requires.at in
    let w = c.see_given-given-in-Absent.new.actor.me.0 in
    let result = found.Changes (update.Builds site.Absent None) c.see_given-given-in-Absent.result in
    found_stayed c.args.actor.now.me.0 w w c.args.path.now result (built_stayed c.args.words.now.table_id.words c.args.actor.now.me.0 c.requires.sound c.args.path.now c.args.reached.link
    site.Absent None at.0 at.1.0 at.1.1 at.1.2
    (builds_absent c.args.task.now.call site.Absent c.args.actor.now.me.0 at.1.0 at.1.1 at.1.3 (sym c.inserts.ensures ∙ c.if-not-inserts.false)) c.see_given-given-in-Absent.new.actor.me.0
    c.see_given-given-in-Absent.ensures.sound c.see_given-given-in-Absent.result.header c.see_given-given-in-Absent.ensures.seen)
    (found_here w c.args.path.now result at.1.0 at.1.1 no_ref (line.Build (build.Single at.1.0 at.1.1 site.Absent None)) (built_on c.args.words.now.table_id.words c.args.actor.now.me.0
    c.requires.sound c.args.path.now c.args.reached.link site.Absent None at.0 at.1.0 at.1.1 at.1.2
    (builds_absent c.args.task.now.call site.Absent c.args.actor.now.me.0 at.1.0 at.1.1 at.1.3 (sym c.inserts.ensures ∙ c.if-not-inserts.false)) c.see_given-given-in-Absent.new.actor.me.0
    c.see_given-given-in-Absent.ensures.sound c.see_given-given-in-Absent.result.header c.see_given-given-in-Absent.ensures.seen) refl (
      as_placed w c.args.path.now c.args.reached.link c.see_given-given-in-Absent.result c.see_given-given-in-Absent.ensures.link at.1.0 at.1.1 (built_place c.args.words.now.table_id.words
          c.args.actor.now.me.0 c.requires.sound c.args.path.now c.args.reached.link site.Absent None at.0 at.1.0 at.1.1 at.1.2
          (builds_absent c.args.task.now.call site.Absent c.args.actor.now.me.0 at.1.0 at.1.1 at.1.3 (sym c.inserts.ensures ∙ c.if-not-inserts.false)) c.see_given-given-in-Absent.new.actor.me.0
          c.see_given-given-in-Absent.ensures.sound c.see_given-given-in-Absent.result.header c.see_given-given-in-Absent.ensures.seen),
      tt,
    ))

pub see_given-given-requires-in-List-clause-held : goal.see_given-given-requires-in-List-clause-held
see_given-given-requires-in-List-clause-held c =
    list_held c.args.words.now.table_id.words c.args.actor.now.me.0 c.requires.sound c.args.path.now c.args.reached.link (subst (λ (p : Place). IsThere c.args.actor.now.me.0 c.args.path.now
    c.args.reached.link (IsAtPlace c.args.actor.now.me.0 c.args.task.now p)) c.in-List.is c.requires.at)

pub search_list-requires-clause-task : goal.search_list-requires-clause-task
search_list-requires-clause-task c =
    list_task c.args.words.now.table_id.words c.args.actor.now.me.0 c.requires.sound c.args.path.now c.args.reached.link (subst (λ (p : Place). IsThere c.args.actor.now.me.0 c.args.path.now
    c.args.reached.link (IsAtPlace c.args.actor.now.me.0 c.args.task.now p)) c.in-List.is c.requires.at) c.see_given-given-in-List.new.actor.me.0 c.see_given-given-in-List.ensures.sound
    c.see_given-given-in-List.result.header c.see_given-given-in-List.ensures.seen c.args.task.now c.requires.task

pub search_list-requires-clause-at : goal.search_list-requires-clause-at
search_list-requires-clause-at c =
    as_given c.see_given-given-in-List.new.actor.me.0 c.args.path.now c.args.reached.link c.see_given-given-in-List.result c.see_given-given-in-List.ensures.link (IsAtList
    c.see_given-given-in-List.new.actor.me.0)
    (list_here c.args.words.now.table_id.words c.args.actor.now.me.0 c.requires.sound c.args.path.now c.args.reached.link (subst (λ (p : Place). IsThere c.args.actor.now.me.0 c.args.path.now
    c.args.reached.link (IsAtPlace c.args.actor.now.me.0 c.args.task.now p)) c.in-List.is c.requires.at) c.see_given-given-in-List.new.actor.me.0 c.see_given-given-in-List.ensures.sound
    c.see_given-given-in-List.result.header c.see_given-given-in-List.ensures.seen)

pub returns-in-List-clause-found : goal.returns-in-List-clause-found
returns-in-List-clause-found c =
    let x = c.search_list in
    found_stayed c.args.actor.now.me.0 c.see_given-given-in-List.new.actor.me.0 x.new.actor.me.0 c.args.path.now x.result (list_stayed c.args.words.now.table_id.words c.args.actor.now.me.0
    c.requires.sound c.args.path.now c.args.reached.link (subst (λ (p : Place). IsThere c.args.actor.now.me.0 c.args.path.now c.args.reached.link (IsAtPlace c.args.actor.now.me.0 c.args.task.now
    p)) c.in-List.is c.requires.at) c.see_given-given-in-List.new.actor.me.0 c.see_given-given-in-List.ensures.sound c.see_given-given-in-List.result.header
    c.see_given-given-in-List.ensures.seen) x.ensures.found

pub see_given-requires-clause-held : goal.see_given-requires-clause-held
see_given-requires-clause-held c =
    branch_held c.args.words.now.table_id.words c.args.actor.now.me.0 c.requires.sound c.args.path.now c.args.reached.link (subst (λ (p : Place). IsThere c.args.actor.now.me.0 c.args.path.now
    c.args.reached.link (IsAtPlace c.args.actor.now.me.0 c.args.task.now p)) c.in-Renews.is c.requires.at)

pub returns-in-Renews-clause-found : goal.returns-in-Renews-clause-found
returns-in-Renews-clause-found c =
    let w = c.see_given.new.actor.me.0 in
    let there = subst (λ (p : Place). IsThere c.args.actor.now.me.0 c.args.path.now c.args.reached.link (IsAtPlace c.args.actor.now.me.0 c.args.task.now p)) c.in-Renews.is c.requires.at in
    let h = as_given w c.args.path.now c.args.reached.link c.see_given.result c.see_given.ensures.link (IsToRenew w) (branch_here c.args.words.now.table_id.words c.args.actor.now.me.0
    c.requires.sound c.args.path.now c.args.reached.link there c.see_given.new.actor.me.0 c.see_given.ensures.sound c.see_given.result.header c.see_given.ensures.seen) in
    found_stayed c.args.actor.now.me.0 w w c.args.path.now (found.Renews c.see_given.result) (branch_stayed c.args.words.now.table_id.words c.args.actor.now.me.0 c.requires.sound c.args.path.now
    c.args.reached.link there c.see_given.new.actor.me.0 c.see_given.ensures.sound c.see_given.result.header c.see_given.ensures.seen)
    (found_here w c.args.path.now (found.Renews c.see_given.result) h.0 h.1 no_ref (line.Renew (renew.Entry h.0 h.1 [])) h.3 refl h.2)
