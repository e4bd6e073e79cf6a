use Rattle.std.proofs.Common.{None, Option, Some, IfSome, subst}
use Rattle.history.specs.declared.replies.Reply.TheVariants as reply
use Rattle.machine_model.specs.declared.building.Site.TheVariants as site
use Rattle.machine_model.specs.declared.lines.Line.TheVariants as line
use Rattle.lock_free.specs.declared.descending.Found.TheVariants as found
use Rattle.lock_free.specs.declared.finding.Met.{Met}
use Rattle.lock_free.specs.declared.finding.Met.TheVariants as met
use Rattle.lock_free.specs.Descending.{HasFound, IsAtOne}
use Rattle.lock_free.specs.GetRuns.{IsLookup}
use Rattle.lock_free.specs.GlanceGets.{GlancesOn}
use Rattle.lock_free.specs.GoingDown.{HasMet}
use Rattle.lock_free.specs.Holding.{IsOn}
use Rattle.lock_free.specs.LinkReads.{given_by, IsThere}
use Rattle.lock_free.specs.Shadows.{inner}
use Rattle.lock_free.proofs.BranchEntries.{absent_done, one_found, one_found_done, single_ready}
use Rattle.lock_free.proofs.OneGlance.Together.{on_as}
use Rattle.lock_free.proofs.KeyEnds.{found_as}
use Rattle.lock_free.proofs.OfTasks.{on_key}
use Rattle.lock_free.proofs.ReaderAnswers.{absent_read, found_read}
use Rattle.lock_free.proofs.glance_ways.value_at.Goals as goal

pub meet_single-requires-clause-at : goal.meet_single-requires-clause-at
meet_single-requires-clause-at c g is known =
    let p = c.requires.at g is known in (
      on_key (inner c.args.actor.now.me.0 g) c.args.task.now p.0.its,
      single_ready (inner c.args.actor.now.me.0 g) (inner c.args.actor.now.me.0 g) c.args.task.now p.0.its c.args.path.now (given_by c.args.link p.1.0) c.args.position c.args.single p.1.1,
    )

pub returns-in-Some-Found-clause-found : goal.returns-in-Some-Found-clause-found
returns-in-Some-Found-clause-found c =
    let n = c.args.words.now.table_id.words in
    let u = c.args.actor.now.me.0 in
    let w = c.meet_single.new.actor.me.0 in
    let task = c.args.task.now in
    let path = c.args.path.now in
    let value = c.in-Some-Found.value in
    let some = subst (λ (r : Option Met). GlancesOn n (λ x y. IfSome r (λ m. HasMet x m y)) u w) c.in-Some-Found.is c.meet_single.ensures.met in
    let on = subst (λ (m : Met). GlancesOn n (λ x y. HasMet x m y) u w) c.in-Some-Found.field-0-is some in
    on_as n u w c.requires.glances (λ x y. HasMet x (met.Found value) y) on (λ x. IsLookup x task × IsThere x path c.args.link (IsAtOne x c.args.position c.args.single))
    (λ x y. IsOn y (line.End (reply.Found (Some value)))) c.requires.at
    (λ x y s p t h.
    found_as x y path p.1.1.3.1.0 p.1.1.3.1.1 n t (found.Answers (reply.Found (Some value)))
    (one_found_done x y task p.0.its path (given_by c.args.link p.1.0) c.args.position c.args.single p.1.1 n s value h y (found.Answers (reply.Found (Some value)))
    (found_read task.call p.0.reads y path (given_by c.args.link p.1.0) c.args.position value
    (one_found x y task p.0.its path (given_by c.args.link p.1.0) c.args.position c.args.single p.1.1 n s value h))))

pub returns-in-Some-Other-clause-found : goal.returns-in-Some-Other-clause-found
returns-in-Some-Other-clause-found c =
    let n = c.args.words.now.table_id.words in
    let u = c.args.actor.now.me.0 in
    let w = c.meet_single.new.actor.me.0 in
    let task = c.args.task.now in
    let path = c.args.path.now in
    let some = subst (λ (r : Option Met). GlancesOn n (λ x y. IfSome r (λ m. HasMet x m y)) u w) c.in-Some-Other.is c.meet_single.ensures.met in
    let on = subst (λ (m : Met). GlancesOn n (λ x y. HasMet x m y) u w) c.in-Some-Other.field-0-is some in
    on_as n u w c.requires.glances (λ x y. HasMet x met.Other y) on (λ x. IsLookup x task × IsThere x path c.args.link (IsAtOne x c.args.position c.args.single))
    (λ x y. IsOn y (line.End (reply.Found None))) c.requires.at
    (λ x y s p t h.
    found_as x y path p.1.1.3.1.0 p.1.1.3.1.1 n t (found.Answers (reply.Found None))
    (subst (λ r. HasFound x path r y) (absent_read task.call p.0.reads (site.Beside c.args.position) (given_by c.args.link p.1.0))
    (absent_done x y task p.0.its path (given_by c.args.link p.1.0) c.args.position c.args.single p.1.1 n s h)))
