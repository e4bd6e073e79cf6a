-- KEY with RENEW and CLEAN: a try goes on until it can answer, or change something.
use Rattle.std.specs.Prelude.{◌≡◌, ◌<◌, ℕ, List, [], length}
use Rattle.history.specs.declared.calls.Access.{Access}
use Rattle.history.specs.declared.calls.Call.{Call}
use Rattle.history.specs.declared.replies.Reply.TheVariants as reply
use Rattle.machine_model.specs.Beneath.slot_arena.specs.declared.refs.Ref.{Ref}
use Rattle.machine_model.specs.declared.operations.Operation.{Operation}
use Rattle.machine_model.specs.declared.finding.KeyLine.TheVariants as key
use Rattle.machine_model.specs.declared.repairs.CleanLine.TheVariants as clean
use Rattle.machine_model.specs.declared.repairs.RenewLine.TheVariants as renew
use Rattle.machine_model.specs.declared.lines.Line.TheVariants as line
use Rattle.machine_model.specs.Lines.{new_try}
use Rattle.machine_model.specs.Paths.{above, current}
use Rattle.machine_model.specs.Reading.{reading}
use Rattle.lock_free.specs.declared.descending.Update.{Update}
use Rattle.lock_free.specs.declared.reading.Given.{Given}
use Rattle.lock_free.specs.declared.renewing.Renewed.{Renewed}
use Rattle.lock_free.specs.declared.renewing.Renewed.TheVariants as renewed
use Rattle.lock_free.specs.declared.rules.View.{View}
use Rattle.lock_free.specs.declared.seeking.Sought.{Sought}
use Rattle.lock_free.specs.declared.seeking.Sought.TheVariants as sought
use Rattle.lock_free.specs.declared.tasks.Task.{Task}
use Rattle.lock_free.specs.Descending.{AreAt, IsPlace, IsTask, KnowsUpdate, line_updated}
use Rattle.lock_free.specs.Holding.{IsOn}
use Rattle.lock_free.specs.Loading.{Runs}
use Rattle.lock_free.specs.Repairing.{GivesUp, HasEndedAt}
use Rattle.lock_free.specs.Rooting.{HasRooted}

-- ---- the branch at the end of the path is renewed

abbrev pub IsToRenew : View → List Ref → Ref → Type 0
IsToRenew v path main = IsOn v (line.Renew (renew.Entry path main []))

-- it reads the last indirection of the path again, or begins anew, or has no slot
abbrev pub HasRenewedLast : View → List ℕ → Renewed → View → Type 0
HasRenewedLast before slots renewed.Reads after = (path : List Ref) × HasEndedAt (line.Key (key.Read path (reading (current path)))) before after × AreAt after path slots
HasRenewedLast before slots renewed.Again after = HasEndedAt new_try before after
HasRenewedLast before slots renewed.Full after = GivesUp (λ operation. reply.NoSlots) before after

-- ---- the last indirection but one is cleaned

abbrev pub IsToClean : View → List ℕ → Type 0
IsToClean v slots = (path : List Ref) × IsOn v (line.Clean (clean.Read (above path) (reading (current (above path))))) × AreAt v path slots × (1 < length path)

-- ---- all of it

-- it has come to a change of the main node at the end of the path
pub record HasComeToChange (before : View) (slots : List ℕ) (update : Update) (given : Given) (after : View) : Type 0 where
  pub path : List Ref
  pub main : Ref
  pub other : Ref
  pub ended : HasEndedAt (line_updated path main other update) before after
  pub place : IsPlace after slots given path main
  pub knows : KnowsUpdate after main other update

abbrev pub HasSought : View → List ℕ → Sought → View → Type 0
HasSought before slots (sought.Answers answer) after = HasEndedAt (line.End answer) before after
HasSought before slots (sought.Changes update given) after = HasComeToChange before slots update given after
HasSought before slots sought.Again after = HasEndedAt new_try before after
HasSought before slots sought.Full after = GivesUp (λ operation. reply.NoSlots) before after

-- it has come to the indirection at the end of this path, whatever it has of its own
pub record IsSeeking (before : View) (task : Task) (slots : List ℕ) (after : View) : Type 0 where
  pub path : List Ref
  pub ended : HasEndedAt (line.Key (key.Read path (reading (current path)))) before after
  pub places : AreAt after path slots
  pub some : 0 < length slots
  pub its : IsTask after task

-- ---- from the root

-- this is its call, on a handle that allows this
abbrev pub IsCalled : View → Call → Access → Type 0
IsCalled v call access = (operation : Operation) → Runs v operation → (operation.call ≡ call) × (operation.access ≡ access)

-- it has come to the root of its handle, of the generation that its try goes by, and from there to this
abbrev pub HasTried : View → List ℕ → Task × Sought → View → Type 0
HasTried before slots (task, result) after =
    (middle : View) × (slot : ℕ) × HasRooted before (record { slot = slot; generation = task.start }) middle × IsTask middle task × HasSought middle slots result after
