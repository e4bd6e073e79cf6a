use Rattle.std.proofs.Common.{Option, [], ◌∷◌, ◌++◌, sym, ap, subst, ◌∙◌}
use Rattle.history.specs.declared.calls.Call.TheVariants.{Get}
use Rattle.machine_model.specs.declared.finding.KeyLine.TheVariants as key
use Rattle.machine_model.specs.declared.lines.Line.TheVariants as line
use Rattle.machine_model.specs.Paths.{current}
use Rattle.machine_model.specs.Reading.{reading}
use Rattle.lock_free.specs.declared.reaching.Reached.{Reached}
use Rattle.lock_free.specs.Descending.{IsOnPath}
use Rattle.lock_free.specs.KeyRuns.{IsCalling}
use Rattle.lock_free.specs.Leaving.{OrSpent}
use Rattle.lock_free.specs.Reaching.{HasReached}
use Rattle.lock_free.proofs.GetsWhole.{gotten_since, left_since_then, still_under}
use Rattle.lock_free.proofs.KeyEnds.{calling_on, spent_may, spent_runs, spent_stock}
use Rattle.lock_free.proofs.PlacesReached.{reached_runs_on, reached_stock, reached_task}
use Rattle.lock_free.proofs.get_runs.get_rooted.Goals as goal

pub go_down_within-requires-clause-at : goal.go_down_within-requires-clause-at
go_down_within-requires-clause-at g c = subst (λ xs. IsOnPath c.args.actor.now.me.0 xs) (sym (c.push.ensures.items ∙ ap (λ xs. xs ++ c.args.root ∷ []) c.new-path.ensures)) c.requires.at

pub get_spent-requires-clause-stock : goal.get_spent-requires-clause-stock
get_spent-requires-clause-stock g c =
    spent_stock c.args.actor.now.me.0 c.go_down_within.new.actor.me.0 (subst (λ (r : Option Reached). OrSpent (λ (x : Reached). HasReached c.args.actor.now.me.0 c.args.task.now
    c.go_down_within.new.path.items x c.go_down_within.new.actor.me.0) r c.args.actor.now.me.0 c.go_down_within.new.actor.me.0) c.in_default.is c.go_down_within.ensures.reached)
    c.requires.at.1.0 c.requires.at.1.1 c.args.words.now.table_id.words c.requires.sound c.args.stock.now c.requires.stock

pub get_spent-requires-clause-calling : goal.get_spent-requires-clause-calling
get_spent-requires-clause-calling g c =
    subst (λ x. IsCalling c.go_down_within.new.actor.me.0 x c.args.task.now.access) c.requires.asked
    (calling_on c.args.actor.now.me.0 c.go_down_within.new.actor.me.0 (spent_runs c.args.actor.now.me.0 c.go_down_within.new.actor.me.0 (subst (λ (r : Option Reached). OrSpent (λ (x : Reached).
    HasReached c.args.actor.now.me.0 c.args.task.now c.go_down_within.new.path.items x c.go_down_within.new.actor.me.0) r c.args.actor.now.me.0 c.go_down_within.new.actor.me.0) c.in_default.is
    c.go_down_within.ensures.reached))
    c.args.task.now.call c.args.task.now.access c.requires.calling)

pub get_spent-requires-clause-under : goal.get_spent-requires-clause-under
get_spent-requires-clause-under g c =
    still_under c.args.actor.now.me.0 c.go_down_within.new.actor.me.0 (spent_runs c.args.actor.now.me.0 c.go_down_within.new.actor.me.0 (subst (λ (r : Option Reached). OrSpent (λ (x : Reached).
    HasReached c.args.actor.now.me.0 c.args.task.now c.go_down_within.new.path.items x c.go_down_within.new.actor.me.0) r c.args.actor.now.me.0 c.go_down_within.new.actor.me.0) c.in_default.is
    c.go_down_within.ensures.reached))
    (Get c.args.handle c.args.key) c.requires.under

pub returns-in_default-clause-left : goal.returns-in_default-clause-left
returns-in_default-clause-left g c =
    left_since_then c.args.actor.now.me.0 c.go_down_within.new.actor.me.0 (spent_runs c.args.actor.now.me.0 c.go_down_within.new.actor.me.0 (subst (λ (r : Option Reached). OrSpent (λ (x :
    Reached). HasReached c.args.actor.now.me.0 c.args.task.now c.go_down_within.new.path.items x c.go_down_within.new.actor.me.0) r c.args.actor.now.me.0 c.go_down_within.new.actor.me.0)
    c.in_default.is c.go_down_within.ensures.reached))
    c.get_spent.new.actor.me.0 c.get_spent.ensures.left

pub get_spent-requires-clause-may : goal.get_spent-requires-clause-may
get_spent-requires-clause-may g c =
    spent_may c.args.actor.now.me.0 c.go_down_within.new.actor.me.0 (subst (λ (r : Option Reached). OrSpent (λ (x : Reached). HasReached c.args.actor.now.me.0 c.args.task.now
    c.go_down_within.new.path.items x c.go_down_within.new.actor.me.0) r c.args.actor.now.me.0 c.go_down_within.new.actor.me.0) c.in_default.is c.go_down_within.ensures.reached)
    c.requires.at.1.0 c.requires.at.1.1

pub returns-in_default-clause-told : goal.returns-in_default-clause-told
returns-in_default-clause-told g c =
    gotten_since c.args.actor.now.me.0 c.go_down_within.new.actor.me.0 (spent_runs c.args.actor.now.me.0 c.go_down_within.new.actor.me.0 (subst (λ (r : Option Reached). OrSpent (λ (x : Reached).
    HasReached c.args.actor.now.me.0 c.args.task.now c.go_down_within.new.path.items x c.go_down_within.new.actor.me.0) r c.args.actor.now.me.0 c.go_down_within.new.actor.me.0) c.in_default.is
    c.go_down_within.ensures.reached))
    (Get c.args.handle c.args.key) c.get_spent.result c.get_spent.new.actor.me.0 c.get_spent.ensures.told

pub get_there-requires-clause-stock : goal.get_there-requires-clause-stock
get_there-requires-clause-stock g c =
    let at = subst (λ xs. IsOnPath c.args.actor.now.me.0 xs) (sym (c.push.ensures.items ∙ ap (λ xs. xs ++ c.args.root ∷ []) c.new-path.ensures)) c.requires.at in
    reached_stock c.args.actor.now.me.0 (line.Key (key.Read at.0 (reading (current at.0)))) at.1 c.go_down_within.new.actor.me.0 c.args.task.now c.go_down_within.new.path.items c.in-Some.reached
    (c.in-Some.ensures {u = tt}).reached c.args.words.now.table_id.words c.requires.sound c.args.stock.now c.requires.stock

pub get_there-requires-clause-task : goal.get_there-requires-clause-task
get_there-requires-clause-task g c =
    let at = subst (λ xs. IsOnPath c.args.actor.now.me.0 xs) (sym (c.push.ensures.items ∙ ap (λ xs. xs ++ c.args.root ∷ []) c.new-path.ensures)) c.requires.at in
    record {
      its = reached_task c.args.actor.now.me.0 (line.Key (key.Read at.0 (reading (current at.0)))) at.1 c.go_down_within.new.actor.me.0 c.args.task.now c.go_down_within.new.path.items
          c.in-Some.reached (c.in-Some.ensures {u = tt}).reached c.args.task.now c.requires.task.its;
      reads = c.requires.task.reads;
    }

pub get_there-requires-clause-calling : goal.get_there-requires-clause-calling
get_there-requires-clause-calling g c =
    let at = subst (λ xs. IsOnPath c.args.actor.now.me.0 xs) (sym (c.push.ensures.items ∙ ap (λ xs. xs ++ c.args.root ∷ []) c.new-path.ensures)) c.requires.at in
    calling_on c.args.actor.now.me.0 c.go_down_within.new.actor.me.0 (reached_runs_on c.args.actor.now.me.0 (line.Key (key.Read at.0 (reading (current at.0)))) at.1
    c.go_down_within.new.actor.me.0 c.args.task.now c.go_down_within.new.path.items c.in-Some.reached (c.in-Some.ensures {u = tt}).reached) c.args.task.now.call c.args.task.now.access
    c.requires.calling

pub get_there-requires-clause-at : goal.get_there-requires-clause-at
get_there-requires-clause-at g c = (c.in-Some.ensures {u = tt}).reached.at

pub returns-clause-told : goal.returns-clause-told
returns-clause-told g c =
    let at = subst (λ xs. IsOnPath c.args.actor.now.me.0 xs) (sym (c.push.ensures.items ∙ ap (λ xs. xs ++ c.args.root ∷ []) c.new-path.ensures)) c.requires.at in
    gotten_since c.args.actor.now.me.0 c.go_down_within.new.actor.me.0 (reached_runs_on c.args.actor.now.me.0 (line.Key (key.Read at.0 (reading (current at.0)))) at.1
    c.go_down_within.new.actor.me.0 c.args.task.now c.go_down_within.new.path.items c.in-Some.reached (c.in-Some.ensures {u = tt}).reached) (Get c.args.handle c.args.key) c.get_there.result
    c.get_there.new.actor.me.0 c.get_there.ensures.told

pub get_there-requires-clause-under : goal.get_there-requires-clause-under
get_there-requires-clause-under g c =
    let at = subst (λ xs. IsOnPath c.args.actor.now.me.0 xs) (sym (c.push.ensures.items ∙ ap (λ xs. xs ++ c.args.root ∷ []) c.new-path.ensures)) c.requires.at in
    still_under c.args.actor.now.me.0 c.go_down_within.new.actor.me.0 (reached_runs_on c.args.actor.now.me.0 (line.Key (key.Read at.0 (reading (current at.0)))) at.1
    c.go_down_within.new.actor.me.0 c.args.task.now c.go_down_within.new.path.items c.in-Some.reached (c.in-Some.ensures {u = tt}).reached) (Get c.args.handle c.args.key) c.requires.under

pub returns-clause-left : goal.returns-clause-left
returns-clause-left g c =
    let at = subst (λ xs. IsOnPath c.args.actor.now.me.0 xs) (sym (c.push.ensures.items ∙ ap (λ xs. xs ++ c.args.root ∷ []) c.new-path.ensures)) c.requires.at in
    left_since_then c.args.actor.now.me.0 c.go_down_within.new.actor.me.0 (reached_runs_on c.args.actor.now.me.0 (line.Key (key.Read at.0 (reading (current at.0)))) at.1
    c.go_down_within.new.actor.me.0 c.args.task.now c.go_down_within.new.path.items c.in-Some.reached (c.in-Some.ensures {u = tt}).reached) c.get_there.new.actor.me.0 c.get_there.ensures.left
