-- ROOT and COMPLETE: where an operation is in them, and what it comes to by them, whichever program they belong to.
use Rattle.std.specs.Prelude.{◌≡◌, ℕ, Bool, Option, Some, None, if◌then◌else◌}
use Rattle.machine_model.specs.Beneath.slot_arena.specs.declared.refs.Ref.{Ref}
use Rattle.machine_model.specs.Beneath.slot_arena.specs.Heaps.{generation_at}
use Rattle.machine_model.specs.declared.reading.After.TheVariants.{Gives}
use Rattle.machine_model.specs.declared.roots.Complete.{Complete}
use Rattle.machine_model.specs.declared.roots.RootLine.{RootLine}
use Rattle.machine_model.specs.declared.roots.RootLine.TheVariants as root
use Rattle.machine_model.specs.declared.repairs.ClimbLine.{ClimbLine}
use Rattle.machine_model.specs.declared.repairs.ClimbLine.TheVariants as climb
use Rattle.machine_model.specs.declared.copying.CopyLine.{CopyLine}
use Rattle.machine_model.specs.declared.copying.CopyLine.TheVariants as copy
use Rattle.machine_model.specs.declared.lines.Line.{Line}
use Rattle.machine_model.specs.declared.lines.Line.TheVariants as line
use Rattle.machine_model.specs.declared.operations.Operation.{Operation}
use Rattle.machine_model.specs.Calls.{handle_of}
use Rattle.machine_model.specs.Climbing.{climbed, climbing}
use Rattle.machine_model.specs.Operations.{from_root}
use Rattle.machine_model.specs.Paths.{is_start}
use Rattle.machine_model.specs.Swapping.{completing}
use Rattle.lock_free.specs.declared.reading.Way.{Way}
use Rattle.lock_free.specs.declared.rooting.Rooted.{Rooted}
use Rattle.lock_free.specs.declared.rules.View.{View}
use Rattle.lock_free.specs.Fates.{HasSettled}
use Rattle.lock_free.specs.Entries.{HasStayed}
use Rattle.lock_free.specs.HandleWords.{HasOffer}
use Rattle.lock_free.specs.Loading.{now, IsSound, Runs}
use Rattle.lock_free.specs.OfferWords.{HasCompleted, IsAtComplete, outcome_by}
use Rattle.lock_free.specs.Passing.{HasCome, IsOnWay, Later}
use Rattle.lock_free.specs.Places.{words_of}
use Rattle.lock_free.specs.RootWords.{IsRootAt}

-- ---- an offer that is settled

abbrev pub IsSettledAt : View → ℕ → ℕ → Bool → Type 0
IsSettledAt v handle offer carried = (h : HasOffer v.sizes v.account v.pin handle offer) × HasSettled v.sizes v.account h.its (outcome_by carried)

-- ---- COMPLETE

abbrev pub in_root : RootLine → Option Complete
in_root root.Read = None
in_root (root.Completing c) = Some c

abbrev pub in_climb : ClimbLine → Option Complete
in_climb (climb.Root c l) = in_root l
in_climb l = None

abbrev pub in_copy : CopyLine → Option Complete
in_copy (copy.Complete c) = Some c
in_copy l = None

-- the COMPLETE in which a line is
abbrev pub completing_of : Line → Option Complete
completing_of (line.Root l) = in_root l
completing_of (line.Climb l) = in_climb l
completing_of (line.Copy l) = in_copy l
completing_of l = None

-- the operation is at the first line of a COMPLETE of the offer in this slot
pub record IsCompleting (v : View) (handle offer : ℕ) : Type 0 where
  pub its : HasOffer v.sizes v.account v.pin handle offer
  pub operation : Operation
  pub runs : Runs v operation
  pub on : handle_of operation.call ≡ handle
  pub line : completing_of operation.line ≡ Some (completing its.its.offer)

-- it has read the root's main node, and is to settle the offer, which is in this slot, by whether that is the expected one
pub record HasReadExpected (before : View) (slot : ℕ) (expected : Bool) (after : View) : Type 0 where
  pub main : Ref
  pub come : HasCome (Gives main) before after
  pub at : IsAtComplete after slot expected

-- it has read the root's main node, and then settled the offer, or found it settled
abbrev pub HasHelped : View → Bool → View → Type 0
HasHelped before carried after = (main : Ref) × (middle : View) × HasCome (Gives main) before middle × HasCompleted middle carried after × IsSound (words_of before.sizes) middle

-- ---- ROOT

abbrev pub climbing_root : ClimbLine → Option RootLine
climbing_root (climb.Root c l) = Some l
climbing_root l = None

-- the ROOT in which a line is
abbrev pub rooting_of : Line → Option RootLine
rooting_of (line.Root l) = Some l
rooting_of (line.Climb l) = climbing_root l
rooting_of l = None

-- the operation is at the first line of a ROOT
abbrev pub IsAtRoot : View → Type 0
IsAtRoot v = (operation : Operation) × Runs v operation × (rooting_of operation.line ≡ Some root.Read)

-- after some looks it still is
pub record HasLookedSome (words : ℕ) (way : Way) (before after : View) : Type 0 where
  pub sound : IsSound words after
  pub on : IsOnWay after way
  pub at : IsAtRoot after
  pub stayed : HasStayed before after

-- the line with its ROOT on this one
abbrev pub climbing_on : ClimbLine → RootLine → ClimbLine
climbing_on (climb.Root c l) x = climb.Root c x
climbing_on l x = l

abbrev pub rooting_on : Line → RootLine → Line
rooting_on (line.Root l) x = line.Root x
rooting_on (line.Climb l) x = line.Climb (climbing_on l x)
rooting_on l x = l

-- what comes after a ROOT that gave this root of this generation
abbrev pub climb_rooted : Operation → ClimbLine → ℕ → Line
climb_rooted operation (climb.Root c l) generation = if is_start operation generation then climbing operation c else climbed operation c.former
climb_rooted operation l generation = line.Climb l

abbrev pub rooted : Ref → ℕ → Operation → Line → Operation
rooted r generation operation (line.Root l) = record operation { generation = Some generation; line = from_root operation.call r }
rooted r generation operation (line.Climb l) = record operation { line = climb_rooted operation l generation }
rooted r generation operation l = operation

pub record HasRooted (before : View) (given : Rooted) (after : View) : Type 0 where
  pub later : Later before after
  pub root : Ref
  pub at : IsRootAt after root given.slot
  pub generation : generation_at (now after).heap root ≡ given.generation
  pub comes : (operation : Operation) → Runs before operation → Runs after (rooted root given.generation operation operation.line)
