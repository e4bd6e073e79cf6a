-- Tries of a call on a key, one after another.
use Rattle.std.proofs.Common.{ℕ, List, refl, ap, ◌∙◌}
use Rattle.history.specs.declared.calls.Access.{Access}
use Rattle.history.specs.declared.calls.Call.{Call}
use Rattle.history.specs.declared.replies.Reply.TheVariants as reply
use Rattle.machine_model.specs.declared.operations.Operation.{Operation}
use Rattle.machine_model.specs.GivingUp.{given_up}
use Rattle.machine_model.specs.Lines.{new_try}
use Rattle.lock_free.specs.declared.attempts.Attempt.{Attempt}
use Rattle.lock_free.specs.declared.attempts.Attempt.TheVariants as attempt
use Rattle.lock_free.specs.declared.descending.Update.{Update}
use Rattle.lock_free.specs.declared.leaving.Left.{Left}
use Rattle.lock_free.specs.declared.leaving.Left.TheVariants as left
use Rattle.lock_free.specs.declared.parking.Came.TheVariants as came
use Rattle.lock_free.specs.declared.reading.Given.{Given}
use Rattle.lock_free.specs.declared.rules.View.{View}
use Rattle.lock_free.specs.declared.seeking.Sought.{Sought}
use Rattle.lock_free.specs.declared.seeking.Sought.TheVariants as sought
use Rattle.lock_free.specs.declared.tasks.Task.{Task}
use Rattle.lock_free.specs.Attempts.{HasAttempted, IsSought, IsToChange}
use Rattle.lock_free.specs.Descending.{IsTask, line_updated}
use Rattle.lock_free.specs.Holding.{IsOn}
use Rattle.lock_free.specs.Leaving.{IsRepair, Leaves}
use Rattle.lock_free.specs.Loading.{Runs}
use Rattle.lock_free.specs.Parking.{left_so, HasRunTo, IsOwnLeft}
use Rattle.lock_free.specs.RunningOn.{RunsOn}
use Rattle.lock_free.specs.Seeking.{HasTried, IsCalled}
use Rattle.lock_free.proofs.CallsRunOn.{tried_again, tried_answers, tried_full}
use Rattle.lock_free.proofs.Comings.{runs_one}
use Rattle.lock_free.proofs.RunningOn.{runs_on_both, runs_on_rooted}
use Rattle.lock_free.proofs.Seekings.{task_ended}

-- ---- one try

module _ (v : View) (on : IsOn v new_try) (slots : List ℕ) (task : Task) (w : View) where
  module _ (update : Update) (given : Given) (h : HasTried v slots (task, sought.Changes update given) w) where
    middle_runs : (o : Operation) × Runs h.0 o
    middle_runs = let x = (runs_on_rooted v h.0 (record { slot = h.1; generation = task.start }) h.2).runs on.0 on.1 in (x.0, x.1)

    task_changes : IsTask w task
    task_changes = let c = h.4 in task_ended h.0 w (line_updated c.path c.main c.other update) task middle_runs.0 middle_runs.1 c.ended h.3

    to_change : IsToChange w slots given update
    to_change =
        let c = h.4 in
        let x = c.ended.comes middle_runs.0 middle_runs.1 in
        record {
          path = c.path;
          main = c.main;
          other = c.other;
          on = (record middle_runs.0 { private = x.0; line = line_updated c.path c.main c.other update }, x.1, refl);
          place = c.place;
          knows = c.knows;
        }

-- what its way has come to

pub try_sought : (v : View) → IsOn v new_try → (slots : List ℕ) (task : Task) (w : View) (result : Sought) → HasTried v slots (task, result) w → IsSought w slots task result
try_sought v on slots task w (sought.Answers answer) h = tried_answers v w slots task on.0 on.1 answer h
try_sought v on slots task w (sought.Changes update given) h = (task_changes v on slots task w update given h, to_change v on slots task w update given h)
try_sought v on slots task w sought.Again h = tried_again v w slots task on.0 on.1 h
try_sought v on slots task w sought.Full h = tried_full v w slots task on.0 on.1 h

-- out of tries

pub own_left : (v : View) (result : Left) (w : View) → Leaves (λ call. reply.NoSlots) IsRepair v result w → IsOwnLeft result
own_left v left.MayGiveUp w h = tt
own_left v (left.Swapping s) w h = tt
own_left v (left.Completing s) w h = h.is

pub left_run : (v : View) → IsOn v new_try → (result : Left) (w : View) → Leaves (λ call. reply.NoSlots) IsRepair v result w → HasRunTo v (left_so result) w
left_run v on left.MayGiveUp w h = let x = h.on.runs on.0 on.1 in (h.on, (x.0, x.1, h.is x.0 x.1))
left_run v on (left.Swapping s) w h = (h.on, h.is)
left_run v on (left.Completing s) w h = absurd h.is

-- ---- one after another

pub attempted_later : (u v w : View) (result : Attempt) → RunsOn u v → HasAttempted v result w → HasAttempted u result w
attempted_later u v w attempt.Again p h = (runs_on_both u v w p h.0, h.1)
attempted_later u v w (attempt.Comes result) p h = (runs_on_both u v w p h.0, h.1)

-- all tries are used up
pub tries_spent : (v w : View) → RunsOn v w → IsOn w new_try → HasRunTo v came.Spent w
tries_spent v w on at = (on, (at.0, at.1, ap (given_up at.0.call) at.2))

-- the call is still the operation's
pub called_on : (v w : View) (o : Operation) → Runs v o → RunsOn v w → (call : Call) (access : Access) → IsCalled v call access → IsCalled w call access
called_on v w o r on call access its q s =
    let x = on.runs o r in
    let same = runs_one w q x.0 s x.1 in
    let was = its o r in
    (ap (λ (z : Operation). z.call) same ∙ ap (λ (z : Operation). z.call) x.2 ∙ was.0, ap (λ (z : Operation). z.access) same ∙ ap (λ (z : Operation). z.access) x.2 ∙ was.1)
