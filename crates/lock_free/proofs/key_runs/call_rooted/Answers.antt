use Rattle.std.proofs.Common.{Option, [], ◌∷◌, ◌++◌, sym, ap, subst, ◌∙◌}
use Rattle.machine_model.specs.declared.finding.KeyLine.TheVariants as key
use Rattle.machine_model.specs.declared.lines.Line.TheVariants as line
use Rattle.machine_model.specs.Paths.{current}
use Rattle.machine_model.specs.Reading.{reading}
use Rattle.lock_free.specs.declared.reaching.Reached.{Reached}
use Rattle.lock_free.specs.Descending.{IsOnPath}
use Rattle.lock_free.specs.Leaving.{OrSpent}
use Rattle.lock_free.specs.Reaching.{HasReached}
use Rattle.lock_free.proofs.KeyEnds.{calling_on, done_since, spent_may, spent_runs, spent_stock}
use Rattle.lock_free.proofs.PlacesReached.{reached_runs_on, reached_stock, reached_task}
use Rattle.lock_free.proofs.key_runs.call_rooted.Goals as goal

pub go_down_within-requires-clause-at : goal.go_down_within-requires-clause-at
go_down_within-requires-clause-at g c = subst (λ xs. IsOnPath c.args.actor.now.me.0 xs) (sym (c.push.ensures.items ∙ ap (λ xs. xs ++ c.args.root ∷ []) c.new-path.ensures)) c.requires.at

pub spent_on-requires-clause-stock : goal.spent_on-requires-clause-stock
spent_on-requires-clause-stock g c =
    spent_stock c.args.actor.now.me.0 c.go_down_within.new.actor.me.0 (subst (λ (r : Option Reached). OrSpent (λ (x : Reached). HasReached c.args.actor.now.me.0 c.args.task.now
    c.go_down_within.new.path.items x c.go_down_within.new.actor.me.0) r c.args.actor.now.me.0 c.go_down_within.new.actor.me.0) c.in_default.is c.go_down_within.ensures.reached)
    c.requires.at.1.0 c.requires.at.1.1 c.args.words.now.table_id.words c.requires.sound c.args.stock.now c.requires.stock

pub spent_on-requires-clause-calling : goal.spent_on-requires-clause-calling
spent_on-requires-clause-calling g c =
    calling_on c.args.actor.now.me.0 c.go_down_within.new.actor.me.0 (spent_runs c.args.actor.now.me.0 c.go_down_within.new.actor.me.0 (subst (λ (r : Option Reached). OrSpent (λ (x : Reached).
    HasReached c.args.actor.now.me.0 c.args.task.now c.go_down_within.new.path.items x c.go_down_within.new.actor.me.0) r c.args.actor.now.me.0 c.go_down_within.new.actor.me.0) c.in_default.is
    c.go_down_within.ensures.reached))
    c.args.task.now.call c.args.task.now.access c.requires.calling

pub spent_on-requires-clause-may : goal.spent_on-requires-clause-may
spent_on-requires-clause-may g c =
    spent_may c.args.actor.now.me.0 c.go_down_within.new.actor.me.0 (subst (λ (r : Option Reached). OrSpent (λ (x : Reached). HasReached c.args.actor.now.me.0 c.args.task.now
    c.go_down_within.new.path.items x c.go_down_within.new.actor.me.0) r c.args.actor.now.me.0 c.go_down_within.new.actor.me.0) c.in_default.is c.go_down_within.ensures.reached)
    c.requires.at.1.0 c.requires.at.1.1

pub returns-in_default-clause-out : goal.returns-in_default-clause-out
returns-in_default-clause-out g c =
    done_since c.args.actor.now.me.0 c.go_down_within.new.actor.me.0 (spent_runs c.args.actor.now.me.0 c.go_down_within.new.actor.me.0 (subst (λ (r : Option Reached). OrSpent (λ (x : Reached).
    HasReached c.args.actor.now.me.0 c.args.task.now c.go_down_within.new.path.items x c.go_down_within.new.actor.me.0) r c.args.actor.now.me.0 c.go_down_within.new.actor.me.0) c.in_default.is
    c.go_down_within.ensures.reached)) c.args.task.now.call
    c.spent_on.result c.spent_on.new.actor.me.0 c.spent_on.ensures.out

pub call_there-requires-clause-stock : goal.call_there-requires-clause-stock
call_there-requires-clause-stock g c =
    let at = subst (λ xs. IsOnPath c.args.actor.now.me.0 xs) (sym (c.push.ensures.items ∙ ap (λ xs. xs ++ c.args.root ∷ []) c.new-path.ensures)) c.requires.at in
    reached_stock c.args.actor.now.me.0 (line.Key (key.Read at.0 (reading (current at.0)))) at.1 c.go_down_within.new.actor.me.0 c.args.task.now c.go_down_within.new.path.items c.in-Some.reached
    (c.in-Some.ensures {u = tt}).reached c.args.words.now.table_id.words c.requires.sound c.args.stock.now c.requires.stock

pub call_there-requires-clause-task : goal.call_there-requires-clause-task
call_there-requires-clause-task g c =
    let at = subst (λ xs. IsOnPath c.args.actor.now.me.0 xs) (sym (c.push.ensures.items ∙ ap (λ xs. xs ++ c.args.root ∷ []) c.new-path.ensures)) c.requires.at in
    reached_task c.args.actor.now.me.0 (line.Key (key.Read at.0 (reading (current at.0)))) at.1 c.go_down_within.new.actor.me.0 c.args.task.now c.go_down_within.new.path.items c.in-Some.reached
    (c.in-Some.ensures {u = tt}).reached c.args.task.now c.requires.task

pub call_there-requires-clause-calling : goal.call_there-requires-clause-calling
call_there-requires-clause-calling g c =
    let at = subst (λ xs. IsOnPath c.args.actor.now.me.0 xs) (sym (c.push.ensures.items ∙ ap (λ xs. xs ++ c.args.root ∷ []) c.new-path.ensures)) c.requires.at in
    calling_on c.args.actor.now.me.0 c.go_down_within.new.actor.me.0 (reached_runs_on c.args.actor.now.me.0 (line.Key (key.Read at.0 (reading (current at.0)))) at.1
    c.go_down_within.new.actor.me.0 c.args.task.now c.go_down_within.new.path.items c.in-Some.reached (c.in-Some.ensures {u = tt}).reached) c.args.task.now.call c.args.task.now.access
    c.requires.calling

pub call_there-requires-clause-at : goal.call_there-requires-clause-at
call_there-requires-clause-at g c = (c.in-Some.ensures {u = tt}).reached.at

pub returns-clause-out : goal.returns-clause-out
returns-clause-out g c =
    let at = subst (λ xs. IsOnPath c.args.actor.now.me.0 xs) (sym (c.push.ensures.items ∙ ap (λ xs. xs ++ c.args.root ∷ []) c.new-path.ensures)) c.requires.at in
    done_since c.args.actor.now.me.0 c.go_down_within.new.actor.me.0 (reached_runs_on c.args.actor.now.me.0 (line.Key (key.Read at.0 (reading (current at.0)))) at.1
    c.go_down_within.new.actor.me.0 c.args.task.now c.go_down_within.new.path.items c.in-Some.reached (c.in-Some.ensures {u = tt}).reached) c.args.task.now.call c.call_there.result
    c.call_there.new.actor.me.0
    c.call_there.ensures.out
