use Rattle.std.proofs.Common.{Option, IfNone, refl, ap, subst, ◌∙◌}
use Rattle.history.specs.declared.calls.Call.TheVariants.{Get}
use Rattle.machine_model.specs.Calls.{needs_writable}
use Rattle.machine_model.specs.Beneath.ctrie_base.specs.Hashes.{hash_of}
use Rattle.machine_model.specs.Lines.{new_try}
use Rattle.lock_free.specs.declared.leaving.Left.TheVariants as left
use Rattle.lock_free.specs.declared.rooting.Rooted.{Rooted}
use Rattle.lock_free.specs.Leaving.{HasLeftOff}
use Rattle.lock_free.proofs.GetsWhole.{gotten_since, left_since_then, off_may, off_runs_on, still_under}
use Rattle.lock_free.proofs.KeyEnds.{calling_on, calling_task}
use Rattle.lock_free.proofs.Leavings.{left_stock}
use Rattle.lock_free.proofs.ParkedOn.{way_called}
use Rattle.lock_free.proofs.RunningOn.{runs_on_rooted}
use Rattle.lock_free.proofs.Trials.{root_ready, stock_ready, task_ready}
use Rattle.lock_free.proofs.get_runs.get_begun.Goals as goal

pub seek_root_within-requires-clause-way : goal.seek_root_within-requires-clause-way
seek_root_within-requires-clause-way g c = way_called c.args.actor.now.me.0 (Get c.args.handle c.args.key) c.args.access c.requires.calling.called c.args.handle refl

pub get_spent-requires-clause-stock : goal.get_spent-requires-clause-stock
get_spent-requires-clause-stock g c =
    left_stock c.args.words.now.table_id.words c.args.actor.now.me.0 c.requires.sound new_try c.requires.at left.MayGiveUp c.seek_root_within.new.actor.me.0
    (subst (λ (r : Option Rooted). IfNone r (HasLeftOff c.args.actor.now.me.0 left.MayGiveUp c.seek_root_within.new.actor.me.0)) c.in_default.is c.seek_root_within.ensures.left) c.args.stock.now
    c.requires.stock

pub get_spent-requires-clause-calling : goal.get_spent-requires-clause-calling
get_spent-requires-clause-calling g c =
    calling_on c.args.actor.now.me.0 c.seek_root_within.new.actor.me.0 (off_runs_on c.args.actor.now.me.0 c.requires.at c.seek_root_within.new.actor.me.0 (subst (λ (r : Option Rooted). IfNone r
    (HasLeftOff c.args.actor.now.me.0 left.MayGiveUp c.seek_root_within.new.actor.me.0)) c.in_default.is c.seek_root_within.ensures.left))
    (Get c.args.handle c.args.key) c.args.access c.requires.calling

pub get_spent-requires-clause-may : goal.get_spent-requires-clause-may
get_spent-requires-clause-may g c =
    off_may c.args.actor.now.me.0 c.requires.at c.seek_root_within.new.actor.me.0 (subst (λ (r : Option Rooted). IfNone r (HasLeftOff c.args.actor.now.me.0 left.MayGiveUp
    c.seek_root_within.new.actor.me.0)) c.in_default.is c.seek_root_within.ensures.left)

pub returns-in_default-clause-told : goal.returns-in_default-clause-told
returns-in_default-clause-told g c =
    gotten_since c.args.actor.now.me.0 c.seek_root_within.new.actor.me.0 (off_runs_on c.args.actor.now.me.0 c.requires.at c.seek_root_within.new.actor.me.0 (subst (λ (r : Option Rooted). IfNone
    r (HasLeftOff c.args.actor.now.me.0 left.MayGiveUp c.seek_root_within.new.actor.me.0)) c.in_default.is c.seek_root_within.ensures.left))
    (Get c.args.handle c.args.key) c.get_spent.result c.get_spent.new.actor.me.0 c.get_spent.ensures.told

pub get_rooted-requires-clause-stock : goal.get_rooted-requires-clause-stock
get_rooted-requires-clause-stock g c =
    stock_ready c.args.actor.now.me.0 c.requires.at (Get c.args.handle c.args.key) c.args.access c.requires.calling.called c.requires.calling.keyed c.in-Some.rooted
    c.seek_root_within.new.actor.me.0 (c.in-Some.ensures {u = tt}).rooted
    c.args.words.now.table_id.words c.requires.sound c.args.stock.now c.requires.stock

pub get_rooted-requires-clause-calling : goal.get_rooted-requires-clause-calling
get_rooted-requires-clause-calling g c =
    let t = c.new-task in
    calling_task c.seek_root_within.new.actor.me.0 (Get c.args.handle c.args.key) c.args.access t.result t.ensures.given.0 t.ensures.given.1
    (calling_on c.args.actor.now.me.0 c.seek_root_within.new.actor.me.0 (runs_on_rooted c.args.actor.now.me.0 c.seek_root_within.new.actor.me.0 c.in-Some.rooted (c.in-Some.ensures {u =
    tt}).rooted) (Get c.args.handle c.args.key) c.args.access c.requires.calling)

pub get_rooted-requires-clause-task : goal.get_rooted-requires-clause-task
get_rooted-requires-clause-task g c =
    let t = c.new-task in
    record {
      reads = ap needs_writable t.ensures.given.0;
      its =
          task_ready c.args.actor.now.me.0 c.requires.at (Get c.args.handle c.args.key) c.args.access c.requires.calling.called c.requires.calling.keyed c.in-Some.rooted
          c.seek_root_within.new.actor.me.0 (c.in-Some.ensures {u = tt}).rooted
          t.result t.ensures.given.0 t.ensures.given.1 t.ensures.given.2 t.ensures.key
          (t.ensures.hash ∙ ap (λ z. hash_of z.hash t.result.key) (c.sizes.ensures ∙ c.requires.stock.sizes));
    }

pub get_rooted-requires-clause-at : goal.get_rooted-requires-clause-at
get_rooted-requires-clause-at g c =
    root_ready c.args.actor.now.me.0 c.requires.at (Get c.args.handle c.args.key) c.args.access c.requires.calling.called c.requires.calling.keyed c.in-Some.rooted
    c.seek_root_within.new.actor.me.0 (c.in-Some.ensures {u = tt}).rooted

pub returns-clause-told : goal.returns-clause-told
returns-clause-told g c =
    gotten_since c.args.actor.now.me.0 c.seek_root_within.new.actor.me.0 (runs_on_rooted c.args.actor.now.me.0 c.seek_root_within.new.actor.me.0 c.in-Some.rooted (c.in-Some.ensures {u =
    tt}).rooted) (Get c.args.handle c.args.key) c.get_rooted.result
    c.get_rooted.new.actor.me.0 c.get_rooted.ensures.told

pub get_spent-requires-clause-under : goal.get_spent-requires-clause-under
get_spent-requires-clause-under g c =
    still_under c.args.actor.now.me.0 c.seek_root_within.new.actor.me.0 (off_runs_on c.args.actor.now.me.0 c.requires.at c.seek_root_within.new.actor.me.0 (subst (λ (r : Option Rooted). IfNone r
    (HasLeftOff c.args.actor.now.me.0 left.MayGiveUp c.seek_root_within.new.actor.me.0)) c.in_default.is c.seek_root_within.ensures.left)) (Get c.args.handle c.args.key) c.requires.under

pub returns-in_default-clause-left : goal.returns-in_default-clause-left
returns-in_default-clause-left g c =
    left_since_then c.args.actor.now.me.0 c.seek_root_within.new.actor.me.0 (off_runs_on c.args.actor.now.me.0 c.requires.at c.seek_root_within.new.actor.me.0 (subst (λ (r : Option Rooted).
    IfNone r (HasLeftOff c.args.actor.now.me.0 left.MayGiveUp c.seek_root_within.new.actor.me.0)) c.in_default.is c.seek_root_within.ensures.left)) c.get_spent.new.actor.me.0
    c.get_spent.ensures.left

pub get_rooted-requires-clause-under : goal.get_rooted-requires-clause-under
get_rooted-requires-clause-under g c =
    still_under c.args.actor.now.me.0 c.seek_root_within.new.actor.me.0 (runs_on_rooted c.args.actor.now.me.0 c.seek_root_within.new.actor.me.0 c.in-Some.rooted (c.in-Some.ensures {u =
    tt}).rooted) (Get c.args.handle c.args.key) c.requires.under

pub returns-clause-left : goal.returns-clause-left
returns-clause-left g c =
    left_since_then c.args.actor.now.me.0 c.seek_root_within.new.actor.me.0 (runs_on_rooted c.args.actor.now.me.0 c.seek_root_within.new.actor.me.0 c.in-Some.rooted (c.in-Some.ensures {u =
    tt}).rooted) c.get_rooted.new.actor.me.0 c.get_rooted.ensures.left
