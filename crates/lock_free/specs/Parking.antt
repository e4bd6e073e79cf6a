-- What is under way of a call that is out of tries, and what it comes to.
use Rattle.std.specs.Prelude.{◌≡◌, ◌<◌, ℕ, [], true, Option, Some, None}
use Rattle.history.specs.declared.replies.Reply.{Reply}
use Rattle.history.specs.declared.replies.Reply.TheVariants as reply
use Rattle.machine_model.specs.declared.lines.Line.TheVariants as line
use Rattle.machine_model.specs.declared.lines.Purpose.{Purpose}
use Rattle.lock_free.specs.declared.leaving.Completing.{Completing}
use Rattle.lock_free.specs.declared.leaving.Left.{Left}
use Rattle.lock_free.specs.declared.leaving.Left.TheVariants as left
use Rattle.lock_free.specs.declared.leaving.Swapping.{Swapping}
use Rattle.lock_free.specs.declared.parking.Came.{Came}
use Rattle.lock_free.specs.declared.parking.Came.TheVariants as came
use Rattle.lock_free.specs.declared.parking.Parked.{Parked}
use Rattle.lock_free.specs.declared.parking.Parked.TheVariants as parked
use Rattle.lock_free.specs.declared.rules.View.{View}
use Rattle.lock_free.specs.CopySteps.{copies, copy_kind, is_snapshot, IsOwnCompleting}
use Rattle.lock_free.specs.Holding.{IsOn}
use Rattle.machine_model.specs.declared.operations.Operation.{Operation}
use Rattle.lock_free.specs.Leaving.{IsClimbAfter, IsRepair, IsSwapLeft, IsUpdate}
use Rattle.lock_free.specs.Loading.{Runs}
use Rattle.lock_free.specs.RunningOn.{MayAnswer, RunsOn}
use Rattle.lock_free.specs.Stocks.{own_nodes, IsStock, Stocked}
use Rattle.lock_free.specs.OwnOffers.{IsOwnCopy}

-- ---- what is under way

abbrev pub IsSwapFor : (Purpose → Type 0) → View → Swapping → Type 0
IsSwapFor aims v s = (its : IsSwapLeft v s) × aims its.why

-- the operation's own offer is to be completed from there on; it is of a copy that opens this handle, or of a clear
pub record IsCopyLeft (v : View) (s : Completing) (opens : Option ℕ) : Type 0 where
  pub handle : ℕ
  pub is : IsOwnCompleting v handle s
  pub copies : copies is.at.0.call ≡ true
  pub number : is.at.0.opens ≡ opens
  pub own : IsOwnCopy v handle s.offer opens (is_snapshot (copy_kind is.at.0.call))

abbrev pub IsParked : View → Parked → Type 0
IsParked v (parked.Repairs s) = IsSwapFor IsRepair v s
IsParked v (parked.Changes s former) = IsSwapFor (IsUpdate former) v s
IsParked v (parked.Climbs s former) = IsSwapFor (IsClimbAfter former) v s
IsParked v (parked.Copies s opens) = IsCopyLeft v s opens

-- the number that is reserved for the handle which its call opens
abbrev pub opens_of : Parked → Option ℕ
opens_of (parked.Copies s opens) = opens
opens_of other = None

-- ---- what it comes to

abbrev pub IsCome : View → Came → Type 0
IsCome v (came.Answered answer) = IsOn v (line.End answer)
IsCome v came.Spent = MayAnswer v reply.NoSlots
IsCome v (came.Parked p) = IsParked v p

-- its operation has run on to there
abbrev pub HasRunTo : View → Came → View → Type 0
HasRunTo before result after = RunsOn before after × IsCome after result

-- what a try on a key leaves
abbrev pub IsOwnLeft : Left → Type 0
IsOwnLeft (left.Completing s) = ⊥
IsOwnLeft result = Unit {0}

abbrev pub left_so : Left → Came
left_so (left.Swapping s) = came.Parked (parked.Repairs s)
left_so result = came.Spent

-- what the seat owns in plain memory is the same
abbrev pub StillOwns : View → View → Type 0
StillOwns before after = (stock : Stocked) → IsStock stock before → IsStock stock after

-- nothing is the operation's own
abbrev pub IsBare : View → Type 0
IsBare v = own_nodes v ≡ []

-- the seat has reserved this number, or none, for the handle that its operation opens
pub record IsToOpenAs (v : View) (opens : Option ℕ) : Type 0 where
  pub seat : v.opens ≡ opens
  pub operation : (operation : Operation) → Runs v operation → operation.opens ≡ opens
  pub low : (number : ℕ) → opens ≡ Some number → number < 256

-- its change was committed, and it is to end with this reply
abbrev pub HasWoundUp : View → Reply → View → Type 0
HasWoundUp before answer after = RunsOn before after × IsOn after (line.End answer)
