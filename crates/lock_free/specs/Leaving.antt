-- How a program ends that is out of tries: the operation may give up, or its SWAP or COMPLETE is under way and goes on.
use Rattle.std.specs.Prelude.{◌≡◌, ◌⊎◌, ℕ, Bool, true, false, List, [], Option, Some, None}
use Rattle.history.specs.declared.calls.Call.{Call}
use Rattle.history.specs.declared.replies.Reply.{Reply}
use Rattle.history.specs.declared.replies.Reply.TheVariants as reply
use Rattle.machine_model.specs.Beneath.slot_arena.specs.declared.refs.Ref.{Ref}
use Rattle.machine_model.specs.Beneath.slot_arena.specs.Heaps.{node_at}
use Rattle.machine_model.specs.declared.lines.Line.{Line}
use Rattle.machine_model.specs.declared.lines.Line.TheVariants as line
use Rattle.machine_model.specs.declared.lines.Purpose.{Purpose}
use Rattle.machine_model.specs.declared.lines.Purpose.TheVariants as purpose
use Rattle.machine_model.specs.declared.operations.Operation.{Operation}
use Rattle.machine_model.specs.declared.reading.After.TheVariants.{Goes}
use Rattle.machine_model.specs.declared.reading.ReadLine.{ReadLine}
use Rattle.machine_model.specs.declared.reading.SwapLine.TheVariants as swap
use Rattle.machine_model.specs.declared.roots.CompleteLine.TheVariants as complete
use Rattle.machine_model.specs.Calls.{handle_of}
use Rattle.machine_model.specs.GivingUp.{given_up}
use Rattle.lock_free.specs.declared.cleaning.Cleaned.{Cleaned}
use Rattle.lock_free.specs.declared.cleaning.CleanedEntries.{CleanedEntries}
use Rattle.lock_free.specs.declared.leaving.Completing.{Completing}
use Rattle.lock_free.specs.declared.leaving.Left.{Left}
use Rattle.lock_free.specs.declared.leaving.Left.TheVariants as left
use Rattle.lock_free.specs.declared.leaving.Swapping.{Swapping}
use Rattle.lock_free.specs.declared.rules.View.{View}
use Rattle.lock_free.specs.declared.reclaiming.Decided.{Decided}
use Rattle.lock_free.specs.Calling.{cut_short}
use Rattle.lock_free.specs.Entries.{HasStayed}
use Rattle.lock_free.specs.GoingDown.{HasMoved}
use Rattle.lock_free.specs.HandleWords.{HasOffer}
use Rattle.lock_free.specs.Accounts.{IsOwn}
use Rattle.lock_free.specs.Dropping.{AreDropped}
use Rattle.lock_free.specs.LettingGo.{HoldsLeft}
use Rattle.lock_free.specs.Loading.{now, Runs}
use Rattle.lock_free.specs.Nodes.{class_of}
use Rattle.lock_free.specs.Passing.{HasCome, IsFrom, IsPlaced}
use Rattle.lock_free.specs.Reclaiming.{is_committed, AddsRetired, LaterRetiring}
use Rattle.lock_free.specs.Repairing.{HasCleaned, HasCleanedAll}
use Rattle.lock_free.specs.Rooting.{completing_of}
use Rattle.lock_free.specs.RunningOn.{RunsOn}
use Rattle.lock_free.specs.Swaps.{is_done, retired_by, swap_done, swapped_by, IsSwapping, RetiresOwn}
use Rattle.machine_model.specs.declared.building.BuildLine.TheVariants as build
use Rattle.machine_model.specs.declared.building.Change.{Change}
use Rattle.lock_free.specs.Holding.{IsOn}

-- ---- it may give up

-- the operation may give up, and then has this answer to its call
abbrev pub MayLeave : (Call → Reply) → View → Type 0
MayLeave answers v = (operation : Operation) → Runs v operation → given_up operation.call operation.line ≡ Some (answers operation.call)

-- it has come to another line, and may give up if it might before, with the same answer
pub record HasLeftOff (before : View) (result : Left) (after : View) : Type 0 where
  pub is : result ≡ left.MayGiveUp
  pub next : Operation → Line
  pub moved : HasMoved next before after
  pub leaves : (answers : Call → Reply) → MayLeave answers before → MayLeave answers after

-- it is where it was, or out of tries
abbrev pub HasStayedOrLeft : View → Bool → View → Type 0
HasStayedOrLeft before true after = HasStayed before after
HasStayedOrLeft before false after = HasLeftOff before left.MayGiveUp after

-- it has come to another line, at which it may give up with this answer
pub record Halts (answer : Operation → Reply) (v w : View) : Type 0 where
  pub next : Operation → Line
  pub moved : HasMoved next v w
  pub gives_up : (operation : Operation) → Runs v operation → given_up operation.call (next operation) ≡ Some (answer operation)

-- as one that has no slot
abbrev pub IsSpent : View → View → Type 0
IsSpent v w = Halts (λ o. reply.NoSlots) v w

-- a program has come to this, or is out of tries
abbrev pub OrSpent : {A : Type 0} → (A → Type 0) → Option A → View → View → Type 0
OrSpent P (Some result) before after = P result
OrSpent P None before after = IsSpent before after

-- ---- a SWAP is under way

-- its fresh main node is swapped in, and is to be decided from there on; nothing is the operation's own
pub record IsSwapOf (v : View) (why : Purpose) (i replaced made : Ref) (s : Swapping) : Type 0 where
  pub operation : Operation
  pub runs : Runs v operation
  pub none : operation.private ≡ []
  pub at : ReadLine
  pub line_is : operation.line ≡ line.Swap why (record { indirection = i; replaced = replaced; fresh = made; line = swap.Deciding at })
  pub placed : IsPlaced v i s.indirection
  pub fresh : IsPlaced v made s.fresh
  pub from : IsFrom v i s.from
  -- the replaced node's slot, with its class, and whether it is the indirection's own
  pub old : IsPlaced v replaced s.replaced.slot
  pub owns : IsOwn v.account i replaced s.replaced.own
  pub class : class_of (node_at (now v).heap replaced) ≡ s.class
  pub drops : AreDropped v replaced made s.drops

pub record IsSwapLeft (v : View) (s : Swapping) : Type 0 where
  pub why : Purpose
  pub i : Ref
  pub replaced : Ref
  pub made : Ref
  pub its : IsSwapOf v why i replaced made s

-- it has gone on, and is under way still
pub record HasSwappedOn (before : View) (s next : Swapping) (after : View) : Type 0 where
  pub on : RunsOn before after
  pub pool : after.pool ≡ before.pool
  pub retired : after.retired ≡ before.retired
  pub still : (why : Purpose) (i replaced made : Ref) → IsSwapOf before why i replaced made s → IsSwapOf after why i replaced made next

-- it has come to its end
pub record HasDecidedSwap (before : View) (s : Swapping) (result : Decided) (after : View) : Type 0 where
  pub later : LaterRetiring before after
  pub which : RetiresOwn s.replaced s.class s.fresh (swapped_by result)
  pub comes : (why : Purpose) (i replaced made : Ref) → IsSwapOf before why i replaced made s → (operation : Operation) → Runs before operation → Runs after
      (swap_done why (node_at (now before).heap made) (is_done (swapped_by result)) operation)

-- ---- its last step

-- its READ has come to its end: it is to look how its fresh main node was decided
pub record IsCheckOf (v : View) (why : Purpose) (i replaced made : Ref) (s : Swapping) : Type 0 where
  pub operation : Operation
  pub runs : Runs v operation
  pub none : operation.private ≡ []
  pub line_is : operation.line ≡ line.Swap why (record { indirection = i; replaced = replaced; fresh = made; line = swap.Check })
  pub fresh : IsPlaced v made s.fresh
  pub old : IsPlaced v replaced s.replaced.slot
  pub owns : IsOwn v.account i replaced s.replaced.own
  pub class : class_of (node_at (now v).heap replaced) ≡ s.class
  pub drops : AreDropped v replaced made s.drops

pub record IsAtCheck (v : View) (s : Swapping) : Type 0 where
  pub why : Purpose
  pub i : Ref
  pub replaced : Ref
  pub made : Ref
  pub its : IsCheckOf v why i replaced made s

-- it has been taken
pub record HasEndedSwap (before : View) (s : Swapping) (result : Decided) (after : View) : Type 0 where
  pub later : LaterRetiring before after
  pub which : RetiresOwn s.replaced s.class s.fresh (swapped_by result)
  pub comes : (why : Purpose) (i replaced made : Ref) → IsCheckOf before why i replaced made s → (operation : Operation) → Runs before operation → Runs after
      (swap_done why (node_at (now before).heap made) (is_done (swapped_by result)) operation)

-- the seat has retired one slot more, or none, and lets go of nothing yet
pub record HasCheckedOn (before : View) (s : Swapping) (result : Decided) (after : View) : Type 0 where
  pub ended : HasEndedSwap before s result after
  pub adds : AddsRetired (retired_by (swapped_by result)) before.retired after.retired
  pub holds : (why : Purpose) (i replaced made : Ref) → IsCheckOf before why i replaced made s → HoldsLeft before s.replaced.own replaced made (is_committed result) after.owed

-- it has begun, and is under way; the slots that were free for the seat, or retired, are so
pub record HasLeftSwap (before : View) (s : Swapping) (after : View) : Type 0 where
  pub on : RunsOn before after
  pub pool : after.pool ≡ before.pool
  pub retired : after.retired ≡ before.retired
  pub its : (why : Purpose) (i replaced made : Ref) → IsSwapping before why i replaced made → IsSwapOf after why i replaced made s

-- the operation has run on to a SWAP that is for such a purpose
pub record LeavesSwap (aims : Purpose → Type 0) (before : View) (s : Swapping) (after : View) : Type 0 where
  pub on : RunsOn before after
  pub its : IsSwapLeft after s
  pub aim : aims its.why

-- a RENEW's or a CLEAN's
abbrev pub IsRepair : Purpose → Type 0
IsRepair (purpose.Renew path) = Unit {0}
IsRepair purpose.Clean = Unit {0}
IsRepair why = ⊥

-- that of a change of a key that had this value
abbrev pub IsUpdate : Option ℕ → Purpose → Type 0
IsUpdate former (purpose.Update path before) = before ≡ former
IsUpdate former why = ⊥

-- the same for the change that is to be made
abbrev pub LeavesChange : View → Swapping → View → Type 0
LeavesChange before s after =
    (path : List Ref) (main : Ref) (its : Change) (former : Option ℕ) → IsOn before (line.Build (build.Main path main its former)) → LeavesSwap (IsUpdate former) before s after

-- that of a climb after the removal of a key that had this value
abbrev pub IsClimbAfter : Option ℕ → Purpose → Type 0
IsClimbAfter former (purpose.Climb c) = c.former ≡ former
IsClimbAfter former why = ⊥

-- it is to end with this answer, or is cut short with it
abbrev pub EndsOrMay : View → Reply → Type 0
EndsOrMay v answer = (operation : Operation) × Runs v operation × ((operation.line ≡ line.End answer) ⊎ (cut_short operation.call operation.line ≡ Some answer))

-- ---- a COMPLETE is under way

pub record IsCompleteOf (v : View) (handle : ℕ) (s : Completing) : Type 0 where
  pub its : HasOffer v.sizes v.account v.pin handle s.offer
  pub operation : Operation
  pub runs : Runs v operation
  pub on : handle_of operation.call ≡ handle
  pub at : ReadLine
  pub line_is : completing_of operation.line ≡ Some (record { offer = its.its.offer; line = complete.Reading at })
  pub root : IsPlaced v its.its.offer.root s.root
  pub from : IsFrom v its.its.offer.root s.from

-- its READ has gone on
abbrev pub HasCompletedOn : View → ℕ → ℕ → Completing → View → Type 0
HasCompletedOn before handle offer next after = (at : ReadLine) × HasCome (Goes at) before after × IsCompleteOf after handle next × (next.offer ≡ offer)

-- ---- whichever it is

-- a SWAP that is under way is for such a purpose
abbrev pub IsLeft : (Call → Reply) → (Purpose → Type 0) → Left → View → Type 0
IsLeft answers aims left.MayGiveUp v = MayLeave answers v
IsLeft answers aims (left.Swapping s) v = (its : IsSwapLeft v s) × aims its.why
IsLeft answers aims (left.Completing s) v = ⊥

-- the operation has run on to there
pub record Leaves (answers : Call → Reply) (aims : Purpose → Type 0) (before : View) (result : Left) (after : View) : Type 0 where
  pub on : RunsOn before after
  pub is : IsLeft answers aims result after

-- ---- programs whose READ may be out of tries

abbrev pub CleanedOrNot : View → Option Cleaned → View → Type 0
CleanedOrNot before (Some cleaned) after = HasCleaned before cleaned after
CleanedOrNot before None after = IsSpent before after

abbrev pub AllCleanedOrNot : View → Option CleanedEntries → View → Type 0
AllCleanedOrNot before (Some cleaned) after = HasCleanedAll before cleaned after
AllCleanedOrNot before None after = IsSpent before after
