-- Laws of main words and prev words, for every list of steps: who decides what, and what a READ gives.
use Rattle.std.specs.Prelude.{◌≡◌, ℕ, suc, ◌+◌, ◌<◌, ◌≤◌, ◌⊎◌, List, Option, Some, None, slice_get}
use Rattle.proof_commits.specs.Vocabulary.{Ref, Node, Tomb, node_at, main_at, prev_at, generation_at, logical_main, Operation, Moment, Gives, Read, ReadLine, SwapLine, Publish, Deciding, Check}
use Rattle.proof_commits.specs.Vocabulary.{Purpose, Line, Bounds, Step, Go, State, operation_of, closed_at, moment_at, record_of, read_step, read_of, AreBounds, run, taken_steps, states_of}
use Rattle.proof_commits.specs.Vocabulary.{records_of, last_of}
use Rattle.proof_commits.specs.Beneath.slot_arena.specs.declared.nodes.Prev.TheVariants as prev
use Rattle.proof_commits.specs.Beneath.machine_model.specs.declared.lines.Line.TheVariants as line
use Rattle.proof_commits.specs.Beneath.machine_model.specs.declared.reading.ReadLine.TheVariants as read
use Rattle.proof_commits.specs.Runs.{HasIndirection}
use Rattle.proof_memory.specs.Laws.{IsInUse}

-- ---- owners

-- the operation stands in a SWAP of the fresh node for the replaced one, at this line of it
abbrev pub IsInSwap : Operation → Ref → Ref → Ref → SwapLine → Type 0
IsInSwap operation indirection replaced fresh l =
    (why : Purpose) × (operation.line ≡ line.Swap why (record { indirection = indirection; replaced = replaced; fresh = fresh; line = l }))

-- a running operation that swapped the fresh node in over the replaced one, and is about to see how it is decided
pub record Owner (state : State) (indirection replaced fresh : Ref) : Type 0 where
  pub actor : ℕ
  pub operation : Operation
  pub runs : operation_of state actor ≡ Some operation
  pub line : ReadLine
  pub swaps : IsInSwap operation indirection replaced fresh (Deciding line)

-- a pending node has one running operation that swapped it in, still in that SWAP; nobody else is in a SWAP of it
abbrev pub PendingHasOwner : Type 0
PendingHasOwner =
    (limits : Bounds) (steps : List Step) → AreBounds limits → (fresh replaced : Ref) → IsInUse (run limits steps).heap fresh →
    prev_at (run limits steps).heap fresh ≡ prev.Pending replaced →
    (indirection : Ref) × (owner : Owner (run limits steps) indirection replaced fresh)
    × ((actor : ℕ) (operation : Operation) (at before : Ref) (l : SwapLine) → operation_of (run limits steps) actor ≡ Some operation → IsInSwap operation at before fresh l →
    actor ≡ owner.actor)

-- who is about to see how its fresh node was decided finds it decided
abbrev pub CheckedIsDecided : Type 0
CheckedIsDecided =
    (limits : Bounds) (steps : List Step) → AreBounds limits → (actor : ℕ) (operation : Operation) (indirection replaced fresh other : Ref) →
    operation_of (run limits steps) actor ≡ Some operation → IsInSwap operation indirection replaced fresh Check → IsInUse (run limits steps).heap fresh →
    ¬ (prev_at (run limits steps).heap fresh ≡ prev.Pending other)

-- ---- fresh nodes

-- the main node that a line of a READ names, if it names one
abbrev pub named_in : ReadLine → Option Ref
named_in read.Main = None
named_in (read.Prev main) = Some main
named_in (read.AskRoot main previous) = Some main
named_in (read.Abort main previous offer) = Some main
named_in (read.Decide main previous told) = Some main
named_in (read.Restore main previous) = Some main

-- nobody has met the node: no READ is about it, it is undecided, and no other actor is in a SWAP of it
pub record IsUnmet (state : State) (owner : ℕ) (fresh : Ref) : Type 0 where
  pub unread : (actor : ℕ) (operation : Operation) (r : Read) → operation_of state actor ≡ Some operation → read_of operation.line ≡ Some r → ¬ (named_in r.line ≡ Some fresh)
  pub undecided : IsInUse state.heap fresh → prev_at state.heap fresh ≡ prev.None
  pub unswapped : (actor : ℕ) (operation : Operation) (indirection replaced : Ref) (l : SwapLine) → operation_of state actor ≡ Some operation →
      IsInSwap operation indirection replaced fresh l → actor ≡ owner

-- a fresh node that an operation is yet to swap in is met by nobody
abbrev pub FreshIsUnmet : Type 0
FreshIsUnmet =
    (limits : Bounds) (steps : List Step) → AreBounds limits → (actor : ℕ) (operation : Operation) (indirection replaced fresh : Ref) →
    operation_of (run limits steps) actor ≡ Some operation → IsInSwap operation indirection replaced fresh Publish → IsUnmet (run limits steps) actor fresh

-- ---- prev words

-- what one step does to a prev word
pub data PrevChange (before after : State) (main : Ref) : Type 0 where
  Stays : prev_at after.heap main ≡ prev_at before.heap main → PrevChange before after main
  -- in the step that swaps the node in
  IsSwappedIn : {replaced : Ref} (actor : ℕ) (operation : Operation) (indirection : Ref) → operation_of before actor ≡ Some operation →
      IsInSwap operation indirection replaced main Publish → prev_at before.heap main ≡ prev.None →
      prev_at after.heap main ≡ prev.Pending replaced → PrevChange before after main
  IsCommitted : {replaced : Ref} → prev_at before.heap main ≡ prev.Pending replaced → prev_at after.heap main ≡ prev.None → PrevChange before after main
  HasFailed : {replaced : Ref} → prev_at before.heap main ≡ prev.Pending replaced → prev_at after.heap main ≡ prev.Failed replaced → PrevChange before after main

-- a prev word goes from none to pending in the step that swaps the node in, and from pending to none or failed
abbrev pub PrevWordsChange : Type 0
PrevWordsChange =
    (limits : Bounds) (steps : List Step) → AreBounds limits → (n : ℕ) → n < last_of limits steps → (main : Ref) →
    IsInUse (states_of limits steps n).heap main → IsInUse (states_of limits steps (n + 1)).heap main →
    PrevChange (states_of limits steps n) (states_of limits steps (n + 1)) main

-- once it was pending and isn't any more, it stays as it is
abbrev pub DecidedForGood : Type 0
DecidedForGood =
    (limits : Bounds) (steps : List Step) → AreBounds limits → (n k l : ℕ) → n ≤ k → k ≤ l → l ≤ last_of limits steps → (main replaced : Ref) →
    IsInUse (states_of limits steps n).heap main → IsInUse (states_of limits steps k).heap main → IsInUse (states_of limits steps l).heap main →
    prev_at (states_of limits steps n).heap main ≡ prev.Pending replaced → ¬ (prev_at (states_of limits steps k).heap main ≡ prev.Pending replaced) →
    prev_at (states_of limits steps l).heap main ≡ prev_at (states_of limits steps k).heap main

-- ---- logical main nodes

-- a step commits the node that stands in the main word; its owner built it from the one that was the logical main node
pub record CommitsMain (before after : State) (indirection : Ref) : Type 0 where
  pub fresh : Ref
  pub replaced : Ref
  pub stands : main_at before.heap indirection ≡ fresh
  pub was : logical_main before.heap indirection ≡ replaced
  pub is : logical_main after.heap indirection ≡ fresh
  pub owner : Owner before indirection replaced fresh

-- a logical main node changes only in a commit, from the node that the new one was built from
abbrev pub MainsChangeByCommits : Type 0
MainsChangeByCommits =
    (limits : Bounds) (steps : List Step) → AreBounds limits → (n : ℕ) → n < last_of limits steps → (indirection : Ref) →
    HasIndirection (states_of limits steps n) indirection → HasIndirection (states_of limits steps (n + 1)) indirection →
    (logical_main (states_of limits steps (n + 1)).heap indirection ≡ logical_main (states_of limits steps n).heap indirection)
    ⊎ CommitsMain (states_of limits steps n) (states_of limits steps (n + 1)) indirection

-- a node that was replaced never comes back
abbrev pub ReplacedForGood : Type 0
ReplacedForGood =
    (limits : Bounds) (steps : List Step) → AreBounds limits → (n k l : ℕ) → n ≤ k → k ≤ l → l ≤ last_of limits steps → (indirection : Ref) →
    HasIndirection (states_of limits steps n) indirection → HasIndirection (states_of limits steps k) indirection → HasIndirection (states_of limits steps l) indirection →
    ¬ (logical_main (states_of limits steps k).heap indirection ≡ logical_main (states_of limits steps n).heap indirection) →
    ¬ (logical_main (states_of limits steps l).heap indirection ≡ logical_main (states_of limits steps n).heap indirection)

-- a tomb that is the logical main node stays it
abbrev pub IsTomb : Node → Type 0
IsTomb (Tomb single) = Unit {0}
IsTomb node = ⊥

abbrev pub TombsStay : Type 0
TombsStay =
    (limits : Bounds) (steps : List Step) → AreBounds limits → (n k : ℕ) → n ≤ k → k ≤ last_of limits steps → (indirection tomb : Ref) →
    HasIndirection (states_of limits steps n) indirection → HasIndirection (states_of limits steps k) indirection →
    logical_main (states_of limits steps n).heap indirection ≡ tomb → IsInUse (states_of limits steps n).heap tomb → IsTomb (node_at (states_of limits steps n).heap tomb) →
    logical_main (states_of limits steps k).heap indirection ≡ tomb

-- ---- what a READ gives

-- the operation is in no SWAP
abbrev pub IsNoSwap : Line → Type 0
IsNoSwap (line.Swap why s) = ⊥
IsNoSwap l = Unit {0}

-- step n is the last of a READ of the actor's operation, and gives this main node of the indirection
pub record IsGiven (limits : Bounds) (steps : List Step) (n : ℕ) (indirection main : Ref) : Type 0 where
  pub actor : ℕ
  pub operation : Operation
  pub step : slice_get (taken_steps limits steps) n ≡ Some (Go actor)
  pub runs : operation_of (states_of limits steps n) actor ≡ Some operation
  pub no_swap : IsNoSwap operation.line
  pub read : Read
  pub reads : read_of operation.line ≡ Some read
  pub of : read.indirection ≡ indirection
  pub gives : read_step (states_of limits steps n) operation read ≡ Gives main

-- what is known of the operation's READs after that step
abbrev pub known_after : {limits : Bounds} {steps : List Step} {n : ℕ} {indirection main : Ref} → IsGiven limits steps n indirection main → Moment
known_after {limits} {steps} {n} given = moment_at (records_of limits steps (suc n)) given.actor

-- What it gives was the logical main node after its moment, and the moment is the first such step from its last read or swap of the main word on. The indirection
-- was in use at all these times.
abbrev pub MomentIsFirst : Type 0
MomentIsFirst =
    (limits : Bounds) (steps : List Step) → AreBounds limits → (n : ℕ) → n < last_of limits steps → (indirection main : Ref) (given : IsGiven limits steps n indirection main) →
    ((known_after given).read_at ≤ (known_after given).moment) × ((known_after given).moment ≤ n)
    × HasIndirection (states_of limits steps ((known_after given).moment + 1)) indirection
    × (logical_main (states_of limits steps ((known_after given).moment + 1)).heap indirection ≡ main)
    × ((k : ℕ) → (known_after given).read_at < k → k ≤ (known_after given).moment →
    HasIndirection (states_of limits steps k) indirection × ¬ (logical_main (states_of limits steps k).heap indirection ≡ main))

-- what it gives of an indirection whose generation was closed before that read or swap stays its logical main node for ever
abbrev pub GivenForGood : Type 0
GivenForGood =
    (limits : Bounds) (steps : List Step) → AreBounds limits → (n : ℕ) → n < last_of limits steps → (indirection main : Ref) (given : IsGiven limits steps n indirection main) →
    (closed : ℕ) → closed_at (record_of limits steps) (generation_at (states_of limits steps n).heap indirection) ≡ Some closed → closed < (known_after given).read_at →
    HasIndirection (states_of limits steps n) indirection →
    (k : ℕ) → (known_after given).moment < k → k ≤ last_of limits steps → HasIndirection (states_of limits steps k) indirection →
    logical_main (states_of limits steps k).heap indirection ≡ main

-- ---- after a closing

-- step n changes the logical main node of an indirection whose generation was closed before, at this step
pub record ChangesLate (limits : Bounds) (steps : List Step) (closed n : ℕ) (indirection : Ref) : Type 0 where
  pub late : closed ≤ n
  pub taken : n < last_of limits steps
  pub before : HasIndirection (states_of limits steps n) indirection
  pub after : HasIndirection (states_of limits steps (n + 1)) indirection
  pub closing : closed_at (record_of limits steps) (generation_at (states_of limits steps n).heap indirection) ≡ Some closed
  pub changes : ¬ (logical_main (states_of limits steps (n + 1)).heap indirection ≡ logical_main (states_of limits steps n).heap indirection)

-- what commits late stood in the main word before the closing: the indirection was in use then, and had it
abbrev pub LateStoodBefore : Type 0
LateStoodBefore =
    (limits : Bounds) (steps : List Step) → AreBounds limits → (closed n : ℕ) (indirection : Ref) → ChangesLate limits steps closed n indirection →
    (k : ℕ) × (k ≤ closed) × HasIndirection (states_of limits steps k) indirection
    × (main_at (states_of limits steps k).heap indirection ≡ main_at (states_of limits steps n).heap indirection)

-- at most one node commits late
abbrev pub LateOnce : Type 0
LateOnce =
    (limits : Bounds) (steps : List Step) → AreBounds limits → (closed n k : ℕ) (indirection : Ref) → ChangesLate limits steps closed n indirection →
    ChangesLate limits steps closed k indirection → n ≡ k
