-- COPY: where an operation is on its way from the root to an offer that is carried out, and what it comes to.
use Rattle.history.specs.declared.calls.Call.{Call}
use Rattle.history.specs.declared.calls.Call.TheVariants.{Clear, Snapshot}
use Rattle.history.specs.declared.replies.Reply.TheVariants as reply
use Rattle.std.specs.Prelude.{◌≡◌, ◌<◌, map, ◌+◌, ◌*◌, ◌++◌, ◌∷◌, [], ℕ, Bool, true, false, List, Contains, Option, Some, None, is_some, unwrap_or, if◌then◌else◌}
use Rattle.trie_words.specs.Codes.{pair_code}
use Rattle.machine_model.specs.Beneath.slot_arena.specs.declared.refs.Ref.{Ref}
use Rattle.machine_model.specs.declared.copying.CopyLine.{CopyLine}
use Rattle.machine_model.specs.declared.copying.CopyLine.TheVariants as copy
use Rattle.machine_model.specs.declared.lines.Line.{Line}
use Rattle.machine_model.specs.declared.lines.Line.TheVariants as line
use Rattle.machine_model.specs.declared.operations.Operation.{Operation}
use Rattle.machine_model.specs.declared.roots.Descriptor.{Descriptor}
use Rattle.machine_model.specs.Calls.{handle_of}
pub use Rattle.machine_model.specs.Calls.{copies}
use Rattle.machine_model.specs.Copying.{after_given, copy_after_made, offering, copied_reply}
use Rattle.machine_model.specs.GivingUp.{copy_given_up}
use Rattle.machine_model.specs.Lines.{new_try}
use Rattle.machine_model.specs.Reading.{reading}
use Rattle.machine_model.specs.Swapping.{completing}
use Rattle.lock_free.specs.declared.copying.Copied.{Copied}
use Rattle.lock_free.specs.declared.copying.Copied.TheVariants as copied
use Rattle.lock_free.specs.declared.copy_roots.CopyKind.{CopyKind}
use Rattle.lock_free.specs.declared.copy_roots.CopyKind.TheVariants as kind
use Rattle.lock_free.specs.declared.copy_roots.NewRoots.{NewRoots}
use Rattle.lock_free.specs.declared.reading.Given.{Given}
use Rattle.lock_free.specs.declared.rules.Retired.{Retired}
use Rattle.lock_free.specs.declared.rules.View.{View}
use Rattle.lock_free.specs.Becoming.{Follows, HasBecome, HasRested}
use Rattle.lock_free.specs.Counting.{IsInSlot}
use Rattle.lock_free.specs.Counts.{how_often}
use Rattle.lock_free.specs.GoingDown.{HasMoved}
use Rattle.lock_free.specs.HandleWords.{HasOffer}
use Rattle.lock_free.specs.Loading.{Runs, Saw}
use Rattle.trie_words.specs.declared.names.Name.{Name}
use Rattle.lock_free.specs.Limbos.{having_retired, HasHung}
use Rattle.lock_free.specs.Outcomes.{ArePlaced, made_for, root_retired}
use Rattle.lock_free.specs.Owning.{IsBuilding}
use Rattle.lock_free.specs.Passing.{IsPlaced, KnowsLink, KnowsMain}
use Rattle.lock_free.specs.RootOffers.{IsToOffer}
use Rattle.lock_free.specs.OwnOffers.{IsOwnCopy}
use Rattle.lock_free.specs.Roots.{IsItsTry, undecided}
use Rattle.lock_free.specs.RunningOn.{IsStill}
use Rattle.lock_free.specs.Stocks.{IsStock, Stocked}
use Rattle.lock_free.specs.Storing.{HasMadeRoot}
use Rattle.machine_model.specs.declared.reading.After.TheVariants.{Goes}
use Rattle.machine_model.specs.declared.reading.ReadLine.{ReadLine}
use Rattle.machine_model.specs.declared.roots.CompleteLine.TheVariants as complete
use Rattle.lock_free.specs.declared.leaving.Completing.{Completing}
use Rattle.lock_free.specs.declared.leaving.Left.{Left}
use Rattle.lock_free.specs.declared.leaving.Left.TheVariants as left
use Rattle.lock_free.specs.Leaving.{MayLeave}
use Rattle.lock_free.specs.Passing.{HasCome, IsFrom}
use Rattle.lock_free.specs.RunningOn.{RunsOn}

-- the operation is on this line of COPY
abbrev pub IsAtCopy : View → CopyLine → Type 0
IsAtCopy v l = (operation : Operation) × Runs v operation × (operation.line ≡ line.Copy l)

-- ---- the root is read

abbrev pub IsAtOriginal : View → ℕ → Type 0
IsAtOriginal v name = (root : Ref) × IsAtCopy v (copy.Read root (reading root)) × IsPlaced v root name

-- it has read the main node there, and is to make a root of it, or for a clear an empty branch first
pub record HasReadOriginal (before : View) (root : Ref) (given : Given) (after : View) : Type 0 where
  pub main : Ref
  pub moved : HasMoved (λ operation. after_given operation.call root main) before after
  pub link : KnowsLink after root main given.link
  pub header : KnowsMain after main given.header

abbrev pub HasOriginal : View → Given → View → Type 0
HasOriginal before given after = (root : Ref) → IsAtCopy before (copy.Read root (reading root)) → HasReadOriginal before root given after

-- ---- a root is made

-- the main node of which it makes a root next
abbrev pub main_for : CopyLine → Option Ref
main_for (copy.Successor root main) = Some main
main_for (copy.Second root main successor) = Some main
main_for (copy.Cleared root main branch) = Some branch
main_for l = None

-- which is the root's own only where it has made that one too
abbrev pub IsAtNewRoot : View → Name → Type 0
IsAtNewRoot v name = (l : CopyLine) × (main : Ref) × IsAtCopy v l × (main_for l ≡ Some main) × IsPlaced v main name.slot
    × ((name.own ≡ true → IsBuilding (line.Copy l) main) × (IsBuilding (line.Copy l) main → name.own ≡ true))

-- it has tried to make it in the last of its free slots, by a generation that was the next one or not
abbrev pub HasTriedRoot : View → Bool → View → Type 0
HasTriedRoot before made after = (drafted : View) × (drafted ≡ record before { drafts = drafted.drafts }) × ((generation : ℕ) × HasMadeRoot drafted generation made after)

-- with a root more of its own
abbrev pub new_root_on : CopyLine → Ref → Operation → Operation
new_root_on l made operation = record operation { private = operation.private ++ made ∷ []; line = copy_after_made operation l made }

pub record HasNewRoot (before : View) (l : CopyLine) (name : ℕ) (after : View) : Type 0 where
  pub made : Ref
  pub placed : IsPlaced after made name
  pub become : HasBecome (new_root_on l made) before after

-- it has made one, in this slot, or had no slot or no generation for it: then its own slots alone have changed, and what is written there
abbrev pub HasRootOrNone : View → CopyLine → Option ℕ → View → Type 0
HasRootOrNone before l None after = after ≡ record before { pool = after.pool; drafts = after.drafts }
HasRootOrNone before l (Some name) after = HasNewRoot before l name after

abbrev pub HasRoot : View → Option ℕ → View → Type 0
HasRoot before result after = (l : CopyLine) (main : Ref) → IsAtCopy before l → main_for l ≡ Some main → HasRootOrNone before l result after

-- the same where the seat has counted a reference to the main node
abbrev pub HasSharedRootOrNone : View → CopyLine → Option ℕ → View → Type 0
HasSharedRootOrNone before l None after = HasRested before after
HasSharedRootOrNone before l (Some name) after = HasNewRoot before l name after

abbrev pub HasSharedRoot : View → Option ℕ → View → Type 0
HasSharedRoot before result after = (l : CopyLine) (main : Ref) → IsAtCopy before l → main_for l ≡ Some main → HasSharedRootOrNone before l result after

-- ---- which copy it makes

abbrev pub copy_kind : Call → CopyKind
copy_kind (Clear h) = kind.Clear
copy_kind (Snapshot h) = kind.Snapshot
copy_kind call = kind.Freeze

-- that may be written
abbrev pub is_snapshot : CopyKind → Bool
is_snapshot kind.Snapshot = true
is_snapshot k = false

abbrev pub IsKind : View → CopyKind → Type 0
IsKind v k = (operation : Operation) → Runs v operation → copy_kind operation.call ≡ k

-- its line once the main node of the root is read
abbrev pub given_line : CopyKind → Ref → Ref → CopyLine
given_line kind.Clear root main = copy.Empty root main
given_line kind.Snapshot root main = copy.Successor root main
given_line kind.Freeze root main = copy.Successor root main

-- ---- its roots are made

-- it has come to the line of its offer
abbrev pub ComesToOffer : Ref → Ref → Ref → Option Ref → View → View → Type 0
ComesToOffer root main successor second v w =
    (operation : Operation) → Runs v operation → (private : List Ref) × Runs w (record operation { private = private; line = offering operation root main successor second })

-- it has offered nothing yet, and may give up
abbrev pub StopsShort : View → View → Type 0
StopsShort v w =
    (operation : Operation) → Runs v operation → (private : List Ref) × (l : CopyLine) × Runs w (record operation { private = private; line = line.Copy l }) × (copy_given_up l ≡ Some reply.NoSlots)

-- a slot or a generation is missing
pub record HasStopped (v w : View) : Type 0 where
  pub still : IsStill v w
  pub stops : StopsShort v w

-- the second root, if there is one, is in this slot
abbrev pub IsSecond : View → Option Ref → Option ℕ → Type 0
IsSecond v None None = Unit {0}
IsSecond v (Some r) (Some name) = IsPlaced v r name
IsSecond v r name = ⊥

pub record HasNewRoots (before : View) (k : CopyKind) (root main : Ref) (roots : NewRoots) (after : View) : Type 0 where
  pub successor : Ref
  pub second : Option Ref
  pub two : is_some second ≡ is_snapshot k
  pub successor_placed : IsPlaced after successor roots.successor
  pub second_placed : IsSecond after second roots.second
  pub follows : Follows before after
  pub comes : ComesToOffer root main successor second before after

abbrev pub HasRootsOrNone : View → CopyKind → Ref → Ref → Option NewRoots → View → Type 0
HasRootsOrNone before k root main None after = HasStopped before after
HasRootsOrNone before k root main (Some roots) after = HasNewRoots before k root main roots after

-- the main node of its root, which is in this slot of this class, was read
abbrev pub IsGiven : View → CopyKind → ℕ → ℕ → Type 0
IsGiven v k name class = (root : Ref) × (main : Ref) × IsAtCopy v (given_line k root main) × IsInSlot v main class name

abbrev pub HasMadeRoots : View → CopyKind → Option NewRoots → View → Type 0
HasMadeRoots before k result after = (root main : Ref) → IsAtCopy before (given_line k root main) → HasRootsOrNone before k root main result after

-- ---- its offer is written

pub record HasDraftedOffer (before : View) (slot root main : ℕ) (roots : NewRoots) (after : View) : Type 0 where
  pub is : after ≡ record before { drafts = after.drafts }
  pub first : Contains after.drafts (2 * slot, undecided)
  pub olds : Contains after.drafts (2 * slot + 1, pair_code (record { low = root; high = main }))
  pub news : Contains after.drafts (2 * slot + 2, pair_code (record { low = roots.successor; high = unwrap_or roots.second 0 }))

-- its operation is about to offer it, by its next try
pub record HasPrepared (before : View) (k : CopyKind) (opens : Option ℕ) (handle root slot : ℕ) (after : View) : Type 0 where
  pub still : IsStill before after
  pub offers : IsToOffer after handle root slot
  pub opening : offers.0.opens ≡ opens
  pub two : is_some offers.0.second ≡ is_snapshot k
  pub comes : (operation : Operation) → Runs before operation →
      (private : List Ref) × (offer : Descriptor) × Runs after (record operation { private = private; line = line.Copy (copy.Offer offer) }) × IsItsTry
      (record operation { attempt = operation.attempt + 1 }) offer

abbrev pub HasPreparedOrNone : View → CopyKind → Option ℕ → ℕ → ℕ → Option ℕ → View → Type 0
HasPreparedOrNone before k opens handle root None after = HasStopped before after
HasPreparedOrNone before k opens handle root (Some slot) after = HasPrepared before k opens handle root slot after

-- its root is in this slot, and the main node that it has read there in that one of this class
abbrev pub IsReady : View → CopyKind → ℕ → ℕ → ℕ → Type 0
IsReady v k name main_name class = (root : Ref) × (main : Ref) × IsAtCopy v (given_line k root main) × IsInSlot v main class main_name × IsPlaced v root name

-- it is on this handle, and opens that number, if it does
pub record IsCopying (v : View) (k : CopyKind) (handle : ℕ) (opens : Option ℕ) : Type 0 where
  pub reserved : v.opens ≡ opens
  pub low : (number : ℕ) → opens ≡ Some number → number < 256
  pub which : IsKind v k
  pub on : (operation : Operation) → Runs v operation → (handle_of operation.call ≡ handle) × (operation.opens ≡ opens)

-- ---- its offer is completed

-- Its offer, which is in this slot, stands.
pub record IsToComplete (v : View) (handle slot : ℕ) : Type 0 where
  pub its : HasOffer v.sizes v.account v.pin handle slot
  pub at : IsAtCopy v (copy.Complete (completing its.its.offer))
  pub on : handle_of at.0.call ≡ handle
  pub its_try : IsItsTry at.0 its.its.offer

-- it was carried out, and the operation is to end, or else it starts anew
abbrev pub copied_line : Bool → Operation → Line
copied_line carried operation = if carried then line.End (copied_reply operation.call operation.opens) else new_try

-- but for what it holds, has retired, and knows of links and of the epoch
abbrev pub as_before : View → View → View
as_before before after = record after { epoch = before.epoch; passed = before.passed; retired = before.retired; owed = before.owed; links = before.links }

-- The seat has just retired the slots of the roots that were made for the offer in this slot: all others hang.
pub record HasLeftRoots (stock : Stocked) (slot : ℕ) (v : View) : Type 0 where
  pub operation : Operation
  pub runs : Runs v operation
  pub handle : ℕ
  pub its : HasOffer v.sizes v.account v.pin handle slot
  pub rest : List Retired
  pub epoch : ℕ
  pub is : v.retired ≡ rest ++ map (root_retired v.account epoch) (made_for its.its.offer)
  pub made : ArePlaced v.account (made_for its.its.offer)
  pub holds : IsStock stock (having_retired v rest)

pub record HasHungRoots (before after : View) : Type 0 where
  pub at : View
  pub saw : Saw before at
  pub hung : HasHung at after

-- and the seat holds what it held: what that gave it has let go of
pub record HasCopied (before : View) (carried : Bool) (after : View) : Type 0 where
  pub moved : HasMoved (copied_line carried) before (as_before before after)
  pub owed : (k : Ref) → how_often k after.owed ≡ how_often k before.owed

-- ---- a try as a whole

-- nothing is its own any more, and it has offered once more
abbrev pub copied_on : Bool → Operation → Operation
copied_on carried operation = record operation { private = []; attempt = operation.attempt + 1; line = copied_line carried operation }

pub record HasTried (before : View) (carried : Bool) (after : View) : Type 0 where
  pub still : IsStill before after
  pub comes : (operation : Operation) → Runs before operation → Runs after (copied_on carried operation)

abbrev pub HasTriedCopy : View → Copied → View → Type 0
HasTriedCopy before copied.Done after = HasTried before true after
HasTriedCopy before copied.Again after = HasTried before false after
HasTriedCopy before copied.Full after = HasStopped before after

-- ---- as often as it takes

-- the operation begins a try
abbrev pub IsAtTry : View → Type 0
IsAtTry v = (operation : Operation) × Runs v operation × (operation.line ≡ new_try) × (copies operation.call ≡ true)

-- the operation after some tries: what is its own, how often it has offered, and the generation of the root that it has read last
abbrev pub tried_on : List Ref → ℕ → Option ℕ → Line → Operation → Operation
tried_on private attempt generation l operation = record operation { private = private; attempt = attempt; generation = generation; line = l }

-- after some tries it has come to this line
pub record HasComeTo (next : Operation → Line) (v w : View) : Type 0 where
  pub still : IsStill v w
  pub comes : (operation : Operation) → Runs v operation → (private : List Ref) × (attempt : ℕ) × (generation : Option ℕ) × Runs w (tried_on private attempt generation (next operation) operation)

-- after some tries it found no slot, or no generation, and may give up
pub record HasGivenOut (v w : View) : Type 0 where
  pub still : IsStill v w
  pub stops : (operation : Operation) → Runs v operation →
      (private : List Ref) × (attempt : ℕ) × (generation : Option ℕ) × (l : CopyLine) × Runs w (tried_on private attempt generation (line.Copy l) operation) × (copy_given_up l ≡ Some reply.NoSlots)

abbrev pub HasMadeCopy : View → Bool → View → Type 0
HasMadeCopy before true after = HasComeTo (copied_line true) before after
HasMadeCopy before false after = HasGivenOut before after

-- ---- within a number of tries

abbrev pub OriginalOrNot : View → Option Given → View → Type 0
OriginalOrNot before (Some given) after = HasOriginal before given after
OriginalOrNot before None after = (reads : ReadLine) × HasCome (Goes reads) before after

-- its own offer was brought to stand, and is to be completed from there on
pub record IsOwnCompleting (v : View) (handle : ℕ) (s : Completing) : Type 0 where
  pub its : HasOffer v.sizes v.account v.pin handle s.offer
  pub reads : ReadLine
  pub at : IsAtCopy v (copy.Complete (record { offer = its.its.offer; line = complete.Reading reads }))
  pub on : handle_of at.0.call ≡ handle
  pub its_try : IsItsTry at.0 its.its.offer
  pub root : IsPlaced v its.its.offer.root s.root
  pub from : IsFrom v its.its.offer.root s.from

-- the COMPLETE has gone on
pub record HasCopiedOn (before : View) (handle offer : ℕ) (next : Completing) (after : View) : Type 0 where
  pub same : next.offer ≡ offer
  pub reads : ReadLine
  pub come : HasCome (Goes reads) before after
  pub is : IsOwnCompleting after handle next

-- the operation has run on to there; its offer is to be parted once it is settled
pub record LeavesCopy (before : View) (k : CopyKind) (handle : ℕ) (opens : Option ℕ) (s : Completing) (after : View) : Type 0 where
  pub on : RunsOn before after
  pub is : IsOwnCompleting after handle s
  pub own : IsOwnCopy after handle s.offer opens (is_snapshot k)

abbrev pub HasLeftCopy : View → CopyKind → ℕ → Option ℕ → Left → View → Type 0
HasLeftCopy before k handle opens left.MayGiveUp after = RunsOn before after × MayLeave (λ call. reply.NoSlots) after
HasLeftCopy before k handle opens (left.Completing s) after = LeavesCopy before k handle opens s after
HasLeftCopy before k handle opens (left.Swapping s) after = ⊥

-- its own offer is settled and parted, and what that opens is open
pub record HasSettledCopy (before : View) (done : Bool) (after : View) : Type 0 where
  pub still : IsStill before after
  pub comes : (operation : Operation) → Runs before operation → Runs after (record operation { line = copied_line done operation })
