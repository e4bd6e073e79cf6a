use Rattle.std.proofs.Common.{None, subst}
use Rattle.history.specs.declared.replies.Reply.TheVariants as reply
use Rattle.machine_model.specs.declared.lines.Line.TheVariants as line
use Rattle.lock_free.specs.declared.reaching.Place.{Place}
use Rattle.lock_free.specs.GetRuns.{IsLookup}
use Rattle.lock_free.specs.Holding.{IsOn}
use Rattle.lock_free.specs.LinkReads.{IsThere}
use Rattle.lock_free.specs.Reaching.{IsAtPlace}
use Rattle.lock_free.specs.Shadows.{inner}
use Rattle.lock_free.proofs.OneGlance.Together.{on_now}
use Rattle.lock_free.proofs.KeyEnds.{absent_ends}
use Rattle.lock_free.proofs.glance_ways.value_there.Goals as goal

pub value_at-requires-clause-at : goal.value_at-requires-clause-at
value_at-requires-clause-at c g is known =
    let p = c.requires.at g is known in (
      p.0,
      subst (λ (at : Place). IsThere (inner c.args.actor.now.me.0 g) c.args.path.now c.args.reached.link (IsAtPlace
          (inner c.args.actor.now.me.0 g) c.args.task.now at)) c.in-Single.is p.1,
    )

pub returns-in-Absent-clause-found : goal.returns-in-Absent-clause-found
returns-in-Absent-clause-found c =
    let task = c.args.task.now in
    on_now c.args.words.now.table_id.words c.args.actor.now.me.0 c.requires.glances
    (λ x. IsLookup x task × IsThere x c.args.path.now c.args.reached.link (IsAtPlace x task c.args.reached.place)) (λ x y. IsOn y (line.End (reply.Found None))) c.requires.at
    (λ x s p. absent_ends x task p.0.reads c.args.path.now c.args.reached.link (subst (λ (at : Place). IsThere x c.args.path.now c.args.reached.link (IsAtPlace x task at)) c.in-Absent.is p.1))
