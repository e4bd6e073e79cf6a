-- CLIMB: a tombed indirection gives way to the tomb's single in the parent, and so on upwards.
use Rattle.std.specs.Prelude.{◌≡◌, ◌<◌, ◌==◌, ℕ, Bool, true, false, List, length, slice_set}
use Rattle.arrayvec.specs.ArrayVec.{ArrayVec}
use Rattle.trie_words.specs.declared.entries.Entry.{Entry}
use Rattle.trie_words.specs.declared.links.Link.{Link}
use Rattle.machine_model.specs.Beneath.slot_arena.specs.declared.refs.Ref.{Ref}
use Rattle.machine_model.specs.Beneath.ctrie_base.specs.Hashes.{hash_of}
use Rattle.machine_model.specs.Beneath.slot_arena.specs.declared.nodes.Node.TheVariants.{Branch}
use Rattle.machine_model.specs.Beneath.slot_arena.specs.declared.nodes.Slot.{Slot}
use Rattle.machine_model.specs.Beneath.slot_arena.specs.Heaps.{node_at, entry_at, entries_of}
use Rattle.machine_model.specs.declared.operations.Operation.{Operation}
use Rattle.machine_model.specs.declared.repairs.Climb.{Climb}
use Rattle.machine_model.specs.declared.repairs.ClimbLine.TheVariants as climb
use Rattle.machine_model.specs.declared.roots.RootLine.TheVariants as root
use Rattle.machine_model.specs.declared.lines.Line.{Line}
use Rattle.machine_model.specs.declared.lines.Line.TheVariants as line
use Rattle.machine_model.specs.Calls.{changed_reply, key_of}
use Rattle.machine_model.specs.Climbing.{climbed, climbing, higher, holds_it, place_in}
use Rattle.machine_model.specs.Paths.{above, current, is_below_root}
use Rattle.machine_model.specs.Reading.{reading}
use Rattle.proof_memory.specs.Wants.{is_main_node, is_branch_or_list, flag_on}
use Rattle.lock_free.specs.declared.climbing.Climbed.{Climbed}
use Rattle.lock_free.specs.declared.climbing.Climbed.TheVariants as outcome
use Rattle.lock_free.specs.declared.rules.View.{View}
use Rattle.lock_free.specs.Accounts.{place_of}
use Rattle.lock_free.specs.Descending.{AreAt}
use Rattle.lock_free.specs.Entries.{HasStayed}
use Rattle.lock_free.specs.GoingDown.{HasMoved}
use Rattle.lock_free.specs.Holding.{IsOn}
use Rattle.lock_free.specs.Loading.{now, Runs, IsUsed, Holds}
use Rattle.lock_free.specs.Passing.{KnowsLink, IsPlaced}
use Rattle.lock_free.specs.Repairing.{GivesUp, HasEndedBy, IsBranch}
use Rattle.lock_free.specs.SeenEntries.{AreEntriesTo, entry_to, unowned}
use Rattle.lock_free.specs.declared.leaving.Swapping.{Swapping}
use Rattle.lock_free.specs.Leaving.{Halts, IsClimbAfter, LeavesSwap}

-- ---- an entry that leads to an indirection

-- whether the entry at this position of the branch or list in the first slot is the node in the other one
abbrev pub HasCompared : View → ℕ → ℕ → ℕ → Bool → View → Type 0
HasCompared before name position other result after =
    HasStayed before after
    × ((r i : Ref) (slot : Slot) → Holds before r → IsUsed before r slot → is_main_node slot.node ≡ true → is_branch_or_list slot.node ≡ true → position < length (entries_of slot.node) →
    place_of before.account r ≡ name → Holds before i → place_of before.account i ≡ other → result ≡ (entry_at (now before).heap r position == i))

-- ---- at the parent of an indirection that is tombed

-- it reads that
abbrev pub at_parent : Climb → Line
at_parent c = line.Climb (climb.Read c (reading (current (above c.path))))

-- the parent is in the first slot and the tombed one in the other; the tomb's single has this entry; this is the flag of the operation's key in the parent, which is
-- below the root or is the root
pub record KnowsClimb (v : View) (c : Climb) (parent tombed flag : ℕ) (single : Entry) (below : Bool) : Type 0 where
  pub parent_at : IsPlaced v (current (above c.path)) parent
  pub tombed_at : IsPlaced v (current c.path) tombed
  pub names : unowned single ≡ entry_to v c.single
  pub used : (slot : Slot) × IsUsed v c.single slot
  pub alone : single.is_single ≡ true
  pub flag_is : (operation : Operation) → Runs v operation → flag ≡ flag_on v.sizes.hash operation.call (above c.path)
  pub below_is : is_below_root (above c.path) ≡ below

abbrev pub IsAtParent : View → ℕ → ℕ → ℕ → Entry → Bool → Type 0
IsAtParent v parent tombed flag single below = (c : Climb) × IsOn v (at_parent c) × KnowsClimb v c parent tombed flag single below

-- what it comes to there
pub record ClimbsHigher (before : View) (c : Climb) (single : Entry) (after : View) : Type 0 where
  pub one : Ref
  pub ended : HasEndedBy (λ o. climbing o (higher c one)) before after
  pub names : unowned single ≡ entry_to after one
  pub used : (slot : Slot) × IsUsed after one slot
  pub alone : single.is_single ≡ true

abbrev pub ClimbedBy : View → Climb → Climbed → View → Type 0
ClimbedBy before c (outcome.Higher single) after = ClimbsHigher before c single after
ClimbedBy before c outcome.Again after = HasEndedBy (λ o. climbing o c) before after
ClimbedBy before c outcome.Ends after = HasEndedBy (λ o. climbed o c.former) before after
ClimbedBy before c outcome.Full after = GivesUp (λ o. changed_reply o.call c.former) before after

abbrev pub HasClimbed : View → Climbed → View → Type 0
HasClimbed before result after = (c : Climb) → IsOn before (at_parent c) → ClimbedBy before c result after

-- ---- at the parent's main node, a branch

pub record AtParentBranch (v : View) (c : Climb) (main : Ref) (parent : ℕ) (link : Link) (bitmap tombed flag : ℕ) (single : Entry) (below : Bool) : Type 0 where
  pub knows : KnowsClimb v c parent tombed flag single below
  pub link_is : KnowsLink v (current (above c.path)) main link
  pub branch : IsBranch v main bitmap

abbrev pub IsAtParentBranch : View → ℕ → Link → ℕ → ℕ → ℕ → Entry → Bool → Type 0
IsAtParentBranch v parent link bitmap tombed flag single below =
    (c : Climb) × (main : Ref) × IsOn v (line.Climb (climb.Main c main)) × AtParentBranch v c main parent link bitmap tombed flag single below

abbrev pub HasClimbedBranch : View → Climbed → View → Type 0
HasClimbedBranch before result after = (c : Climb) (main : Ref) → IsOn before (line.Climb (climb.Main c main)) → ClimbedBy before c result after

abbrev pub IsAtTombed : View → ℕ → ℕ → ℕ → ℕ → Type 0
IsAtTombed v name bitmap flag tombed =
    (c : Climb) × (main : Ref) × IsOn v (line.Climb (climb.Main c main)) × IsPlaced v main name × IsBranch v main bitmap × IsPlaced v (current c.path) tombed
    × ((operation : Operation) → Runs v operation → flag ≡ flag_on v.sizes.hash operation.call (above c.path))

-- whether its entry for the key is the tombed indirection
abbrev pub HasSeenIt : View → ℕ → Bool → View → Type 0
HasSeenIt before bitmap result after =
    HasStayed before after × ((c : Climb) (main : Ref) → IsOn before (line.Climb (climb.Main c main)) → (operation : Operation) → Runs before operation →
    holds_it (now before) operation c main bitmap (entries_of (node_at (now before).heap main)) ≡ result)

-- ---- it is made anew

-- it is to make the parent's main node with these entries
pub record ContractsParent (v : View) (c : Climb) (main : Ref) (parent : ℕ) (link : Link) (bitmap : ℕ) (entries : List Entry) (single : Entry) (below : Bool) : Type 0 where
  pub parent_at : IsPlaced v (current (above c.path)) parent
  pub link_is : KnowsLink v (current (above c.path)) main link
  pub refs : ArrayVec Ref
  pub node : node_at (now v).heap main ≡ Branch bitmap refs
  pub place : ℕ
  pub place_is : (operation : Operation) → Runs v operation → place_in (now v) operation c main ≡ place
  pub inside : place < length refs.items
  pub entries_are : AreEntriesTo v entries (slice_set refs.items place c.single)
  pub names : unowned single ≡ entry_to v c.single
  pub used : (slot : Slot) × IsUsed v c.single slot
  pub alone : single.is_single ≡ true
  pub below_is : is_below_root (above c.path) ≡ below

abbrev pub IsContracting : View → ℕ → Link → ℕ → List Entry → Entry → Bool → Type 0
IsContracting v parent link bitmap entries single below =
    (c : Climb) × (main : Ref) × IsOn v (line.Climb (climb.Contracted c main)) × ContractsParent v c main parent link bitmap entries single below

abbrev pub HasContracted : View → Climbed → View → Type 0
HasContracted before result after = (c : Climb) (main : Ref) → IsOn before (line.Climb (climb.Contracted c main)) → ClimbedBy before c result after

-- ---- another main node stood in the parent

abbrev pub IsAskingAgain : View → Type 0
IsAskingAgain v = (c : Climb) × IsOn v (line.Climb (climb.Root c root.Read))

-- it climbs there again where the root is still that of the operation's try
abbrev pub AskedBy : View → Climb → Climbed → View → Type 0
AskedBy before c outcome.Again after = HasMoved (λ o. climbing o c) before after
AskedBy before c outcome.Ends after = HasMoved (λ o. climbed o c.former) before after
AskedBy before c (outcome.Higher single) after = ⊥
AskedBy before c outcome.Full after = ⊥

abbrev pub HasAskedAgain : View → Climbed → View → Type 0
HasAskedAgain before result after = (c : Climb) → IsOn before (line.Climb (climb.Root c root.Read)) → AskedBy before c result after

-- ---- as a whole

-- it climbs from the last of these indirections, with the tomb's single
pub record IsClimbing (v : View) (path : List ℕ) (hash : ℕ) (single : Entry) : Type 0 where
  pub climb : Climb
  pub operation : Operation
  pub runs : Runs v operation
  pub on : operation.line ≡ climbing operation climb
  pub places : AreAt v climb.path path
  pub names : unowned single ≡ entry_to v climb.single
  pub used : (slot : Slot) × IsUsed v climb.single slot
  pub alone : single.is_single ≡ true
  pub hash_is : hash ≡ hash_of v.sizes.hash (key_of operation.call)

-- it is answered, or gives the climb up for want of a slot
abbrev pub AnsweredOrNot : View → Climb → Bool → View → Type 0
AnsweredOrNot before c true after = HasEndedBy (λ o. climbed o c.former) before after
AnsweredOrNot before c false after = GivesUp (λ o. changed_reply o.call c.former) before after

abbrev pub HasClimbedUp : View → Bool → View → Type 0
HasClimbedUp before result after = (c : Climb) → ((o : Operation) → Runs before o → o.line ≡ climbing o c) → AnsweredOrNot before c result after

-- ---- within a number of tries

abbrev pub AskedOrSpent : View → Climb → Climbed → View → Type 0
AskedOrSpent before c outcome.Full after = Halts (λ o. changed_reply o.call c.former) before after
AskedOrSpent before c result after = AskedBy before c result after

abbrev pub HasAskedWithin : View → Climbed → View → Type 0
HasAskedWithin before result after = (c : Climb) → IsOn before (line.Climb (climb.Root c root.Read)) → AskedOrSpent before c result after

-- its SWAP is under way
abbrev pub LeavesClimb : View → Climb → Swapping → View → Type 0
LeavesClimb before c s after = LeavesSwap (IsClimbAfter c.former) before s after

abbrev pub HasLeftContracted : View → Swapping → View → Type 0
HasLeftContracted before s after = (c : Climb) (main : Ref) → IsOn before (line.Climb (climb.Contracted c main)) → LeavesClimb before c s after

abbrev pub HasLeftBranch : View → Swapping → View → Type 0
HasLeftBranch before s after = (c : Climb) (main : Ref) → IsOn before (line.Climb (climb.Main c main)) → LeavesClimb before c s after

abbrev pub HasLeftParent : View → Swapping → View → Type 0
HasLeftParent before s after = (c : Climb) → IsOn before (at_parent c) → LeavesClimb before c s after

abbrev pub HasLeftClimb : View → List ℕ → ℕ → Entry → Swapping → View → Type 0
HasLeftClimb before path hash single s after = (at : IsClimbing before path hash single) → LeavesClimb before at.climb s after
