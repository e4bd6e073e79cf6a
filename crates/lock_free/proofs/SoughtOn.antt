-- A try goes on after a branch at its end was renewed.
use Rattle.std.proofs.Common.{◌<◌, ℕ, length, List, []}
use Rattle.machine_model.specs.declared.finding.KeyLine.TheVariants as key
use Rattle.machine_model.specs.declared.repairs.RenewLine.TheVariants as renew
use Rattle.machine_model.specs.declared.lines.Line.{Line}
use Rattle.machine_model.specs.declared.lines.Line.TheVariants as line
use Rattle.machine_model.specs.Paths.{current}
use Rattle.machine_model.specs.Reading.{reading}
use Rattle.lock_free.specs.declared.leaving.Swapping.{Swapping}
use Rattle.lock_free.specs.declared.reading.Given.{Given}
use Rattle.lock_free.specs.declared.renewing.Renewed.TheVariants as renewed
use Rattle.lock_free.specs.declared.rules.View.{View}
use Rattle.lock_free.specs.declared.seeking.Sought.{Sought}
use Rattle.lock_free.specs.declared.tasks.Task.{Task}
use Rattle.lock_free.specs.Descending.{IsHere, IsOnPath, IsTask}
use Rattle.lock_free.specs.Leaving.{IsRepair, LeavesSwap}
use Rattle.lock_free.specs.Seeking.{HasRenewedLast, HasSought, IsToRenew}
use Rattle.lock_free.proofs.RunningOn.{runs_on_ended}
use Rattle.lock_free.proofs.Seekings.{on_ended, sought_later, task_ended}
use Rattle.lock_free.proofs.SwapsBegun.{leaves_swap_on}

module _ (v : View) (slots : List ℕ) (given : Given) (at : IsHere v slots given (IsToRenew v)) (w : View) (e : HasRenewedLast v slots renewed.Reads w) where
  abbrev read_line : Line
  read_line = line.Key (key.Read e.0 (reading (current e.0)))

  pub read_ready : 0 < length slots → IsOnPath w slots
  read_ready some = (e.0, on_ended v w (line.Renew (renew.Entry at.0 at.1 [])) read_line at.3 e.1, e.2, some)

  pub read_task : (task : Task) → IsTask v task → IsTask w task
  read_task task t = task_ended v w read_line task at.3.0 at.3.1 e.1 t

  pub read_sought : (z : View) (slots2 : List ℕ) (result : Sought) → HasSought w slots2 result z → HasSought v slots2 result z
  read_sought z slots2 result h = sought_later v w z read_line slots2 result e.1 h

  pub read_leaves : (z : View) (s : Swapping) → LeavesSwap IsRepair w s z → LeavesSwap IsRepair v s z
  read_leaves z s left = leaves_swap_on IsRepair v w z s (runs_on_ended v w (λ o. read_line) e.1) left
