-- What a try of a call on a key comes to from the end of its way.
use Rattle.std.proofs.Common.{◌<◌, ◌^◌, ℕ, List, Ok, Err, refl}
use Rattle.history.specs.declared.replies.Reply.TheVariants as reply
use Rattle.machine_model.specs.declared.lines.Line.TheVariants as line
use Rattle.machine_model.specs.declared.operations.Operation.{Operation}
use Rattle.machine_model.specs.Lines.{new_try}
use Rattle.lock_free.specs.declared.leaving.Left.TheVariants as left
use Rattle.lock_free.specs.declared.leaving.Swapping.{Swapping}
use Rattle.lock_free.specs.declared.rules.View.{View}
use Rattle.lock_free.specs.declared.seeking.Sought.{Sought}
use Rattle.lock_free.specs.declared.seeking.Sought.TheVariants as sought
use Rattle.lock_free.specs.declared.tasks.Task.{Task}
use Rattle.lock_free.specs.Attempts.{IsSought}
use Rattle.lock_free.specs.Descending.{IsTask, line_updated}
use Rattle.lock_free.specs.GetRuns.{IsGotten}
use Rattle.lock_free.specs.Leaving.{IsRepair, LeavesSwap}
use Rattle.lock_free.specs.Loading.{Runs}
use Rattle.lock_free.specs.Seeking.{HasSought}
use Rattle.lock_free.proofs.CallsRunOn.{ended_on, left_may}
use Rattle.lock_free.proofs.Seekings.{task_ended}

module _ (v : View) (task : Task) (its : IsTask v task) (small : task.start < 2 ^ 36) (o : Operation) (r : Runs v o) (slots : List ℕ) (w : View) where
  come_sought : (result : Sought) → HasSought v slots result w → IsSought w slots task result
  come_sought (sought.Answers answer) h = ended_on v w (line.End answer) h o r
  come_sought (sought.Changes update given) h =
      let x = h.ended.comes o r in (
        task_ended v w (line_updated h.path h.main h.other update) task o r h.ended its,
        record {
          path = h.path;
          main = h.main;
          other = h.other;
          on = (record o { private = x.0; line = line_updated h.path h.main h.other update }, x.1, refl);
          place = h.place;
          knows = h.knows;
        },
      )
  come_sought sought.Again h = ended_on v w new_try h o r
  come_sought sought.Full h = left_may v w (λ q. reply.NoSlots) h o r

  pub come_gotten : (result : Sought) → HasSought v slots result w → IsGotten w slots (Ok (task, result))
  come_gotten result h = (small, come_sought result h)

pub swap_gotten : (v : View) (slots : List ℕ) (s : Swapping) (w : View) → LeavesSwap IsRepair v s w → IsGotten w slots (Err (left.Swapping s))
swap_gotten v slots s w h = (tt, (h.its, h.aim))
