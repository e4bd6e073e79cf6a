-- The rule: the words say what the definition's machine comes to by a list of its steps, and each seat knows how this list was at its last access, since when its
-- actor has taken no step.
use Rattle.history.specs.declared.calls.Call.{Call}
use Rattle.std.specs.Prelude.{◌≡◌, ℕ, ◌+◌, ◌*◌, ◌<◌, ◌≤◌, ◌≢◌, ◌⊎◌, ◌==◌, Bool, true, false, is_some, if◌then◌else◌, List, [], ◌∷◌, ◌++◌, length, Option, Some, None, slice_index, slice_index_or}
use Rattle.std.specs.Prelude.{Contains, map}
use mathlib.Core.Option.{some}
use lib.ListN.{get_elem?}
use Rattle.atomic_table.specs.Table as Table
use Rattle.trie_words.specs.Codes.{pin_code, root_code, IsPin, IsRootWord}
use Rattle.trie_words.specs.declared.roots.RootWord.TheVariants as word
use Rattle.lock_free.specs.declared.rules.Checked.{Checked}
use Rattle.lock_free.specs.declared.rules.Closing.{Closing}
use Rattle.lock_free.specs.declared.rules.Heard.{Heard}
use Rattle.lock_free.specs.declared.rules.Pinned.{Pinned}
use Rattle.lock_free.specs.declared.rules.Pool.{Pool}
use Rattle.lock_free.specs.declared.rules.Retired.{Retired}
use Rattle.proof_waiting.specs.Beneath.proof_slots.specs.Unswept.{HasNoSweeps}
use Rattle.proof_garbage.specs.Grace.{HaveEnded}
use Rattle.proof_claims.specs.Claims.{held_of}
use Rattle.proof_claims.specs.Dropped.{HasFailed}
use Rattle.proof_claims.specs.Held.{is_owned}
use Rattle.proof_claims.specs.Beneath.proof_reuse.specs.Laws.{HasReplaced, IsGarbage}
use Rattle.lock_free.specs.TakenBack.{WasTakenBack}
use Rattle.lock_free.specs.Live.{IsLive}
use Rattle.machine_model.specs.Beneath.slot_arena.specs.declared.refs.Ref.{Ref}
use Rattle.machine_model.specs.Beneath.slot_arena.specs.declared.nodes.Slot.{Slot}
use Rattle.machine_model.specs.Beneath.slot_arena.specs.Refs.{slot_of}
use Rattle.machine_model.specs.Beneath.slot_arena.specs.Heaps.{entries_of}
use Rattle.machine_model.specs.declared.operations.Operation.{Operation}
use Rattle.machine_model.specs.Calls.{handle_of}
use Rattle.machine_model.specs.Keys.{KeysFit}
use Rattle.machine_model.specs.Machine.{AreBounds, run}
use Rattle.machine_model.specs.declared.steps.Step.{Step}
use Rattle.machine_model.specs.declared.steps.Step.TheVariants as step
use Rattle.machine_model.specs.States.{State, root_at, operation_of, handle_limit}
use Rattle.lock_free.specs.declared.accounts.Account.{Account}
use Rattle.lock_free.specs.declared.accounts.Known.{Known}
use Rattle.lock_free.specs.declared.accounts.Parted.{Parted}
use Rattle.lock_free.specs.declared.rules.View.{View}
use Rattle.lock_free.specs.declared.sizes.Sizes.{Sizes}
pub use Rattle.lock_free.specs.Cells.{pool_of, AreCells, IsFree}
use Rattle.lock_free.specs.Holdings.{AreHeld}
use Rattle.lock_free.specs.Links.{AreLinked}
use Rattle.lock_free.specs.Accounts.{bounds_for, state_of, place_at, HasGrown, HasWaited, HasStood, MayBeFound}
use Rattle.lock_free.specs.Fates.{TellsFate}
use Rattle.lock_free.specs.Nodes.{StandsAs, InTable, AreOwners, class_of}
use Rattle.lock_free.specs.Owning.{AreOwn, IsOwnBy}
pub use Rattle.lock_free.specs.Parting.{NamesOffer, Once}
use Rattle.lock_free.specs.Parting.{AreParted, KnowsOffers}
use Rattle.lock_free.specs.Places.{AreSizes, branch_slot, root_slot, words_of, words_in, IsSlot, IsTaken, HaveTaken, epoch_word, generation_word, pin_word, root_word}
use Rattle.lock_free.specs.Roots.{MeansRoot, IsWritten, NoOffer, AreMarked, IsPending, fate, undecided}

-- nothing has happened yet: there are the first branch and the root over it
abbrev pub first_account : Sizes → Account
first_account sizes = record {
  steps = [];
  names = branch_slot sizes ∷ root_slot sizes ∷ [];
  owned = record { holder = 1; held = 0; is_own = true } ∷ [];
  offered = [];
  offers = [];
  parted = [];
}

abbrev pub no_slots : Pool
no_slots = record { small = []; medium = []; wide = []; parted = [] }

-- nothing since the epoch was looked at
abbrev pub none_checked : Checked
none_checked = record { cleared = false; seats = 0 }

-- ---- nodes

-- which nodes stand in the table still
abbrev pub Standing : Type 0
Standing = ℕ → Bool

abbrev pub Stands : Standing → State → ℕ → Slot → Type 0
Stands stands state k slot = (stands k ≡ true) × (slice_index_or state.heap.slots k None ≡ Some slot)

pub record NodesStand (sizes : Sizes) (account : Account) (stands : Standing) (words : List ℕ) : Type 0 where
  pub within : (k : ℕ) (slot : Slot) → Stands stands (state_of sizes account) k slot → IsTaken sizes words (class_of slot.node) (place_at account k)
  -- so each of its words is one of the slot's
  pub small : (k : ℕ) (slot : Slot) → Stands stands (state_of sizes account) k slot → length (entries_of slot.node) ≤ 32
  pub apart : (j k : ℕ) (x y : Slot) → Stands stands (state_of sizes account) j x → Stands stands (state_of sizes account) k y → place_at account j ≡ place_at account k → j ≡ k
  pub offers : (x : Known) → Contains account.offers x → (k : ℕ) (slot : Slot) → Stands stands (state_of sizes account) k slot → place_at account k ≢ x.slot
  pub written : (k : ℕ) (slot : Slot) → Stands stands (state_of sizes account) k slot →
      StandsAs account (state_of sizes account) (InTable words) (place_at account k) k slot slot.node
  -- the slot of what is in use is one of the table, whether it stands there still or not
  pub inside : (k : ℕ) (slot : Slot) → slice_index_or (state_of sizes account).heap.slots k None ≡ Some slot → IsSlot sizes (class_of slot.node) (place_at account k)
  pub owners : AreOwners account (state_of sizes account)
  pub owned : AreOwn sizes account
  -- what a root or an operation leads to stands there
  pub live : (r : Ref) → IsLive (state_of sizes account) r → stands (slot_of r) ≡ true
  -- and what was a root since an operation has begun that runs still
  pub reached : (r : Ref) → MayBeFound sizes account r → stands (slot_of r) ≡ true

-- ---- handles

pub record RootsStand (sizes : Sizes) (account : Account) (words : List ℕ) : Type 0 where
  pub means : (handle : ℕ) → handle < handle_limit → MeansRoot account words handle (slice_index words (root_word handle)) (root_at (state_of sizes account) handle)
  pub offers : (k : Known) → Contains account.offers k → IsWritten account words k
  pub blocks : (k : Known) → Contains account.offers k → IsTaken sizes words 1 k.slot
  -- a slot has one offer
  pub single : (k l : Known) → Contains account.offers k → Contains account.offers l → k.slot ≡ l.slot → k ≡ l
  -- and a try of an operation has one
  pub tries : (k l : Known) → Contains account.offers k → Contains account.offers l → k.offer.operation ≡ l.offer.operation → k.offer.attempt ≡ l.offer.attempt → k ≡ l
  pub stood : (k : Known) → Contains account.offered k → HasStood sizes account k.offer
  pub came : (x : Parted) → Contains account.parted x → HasStood sizes account x.known.offer
  pub marks : AreMarked (state_of sizes account) words account.offers
  pub fates : (k : Known) → Contains account.offers k → TellsFate sizes account k (fate words k)
  pub pending : (k : Known) → Contains account.offers k → fate words k ≡ undecided → IsPending words k
  pub parting : AreParted account.offered account.offers account.parted words

-- the seat's last mark of this handle
abbrev pub latest : List Closing → ℕ → Option Closing
latest [] handle = None
latest (c ∷ marks) handle = if c.handle == handle then Some c else latest marks handle

-- the seat isn't pinned, or its word says that it is
abbrev pub IsShown : View → Type 0
IsShown v = (pinned : Pinned) → v.pin ≡ Some pinned → pinned.shown ≡ true

-- who would close a handle has found no call on it at the seats that it has looked at, and none has begun there since
pub record IsClosing (views : List View) (handle seat : ℕ) : Type 0 where
  pub id : ℕ
  pub view : View
  pub at : get_elem? views id ≡ some view
  pub its : view.actor ≡ seat
  pub closing : Closing
  pub is : latest view.closing handle ≡ Some closing
  pub this : closing.handle ≡ handle
  pub none : (other : ℕ) (w : View) → get_elem? views other ≡ some w → w.entered ≡ Some handle → w.actor ≢ seat → IsShown w → closing.looked < w.actor
  -- nor is a glance under way on it, once all have fallen
  pub clear : (view.passed.cleared ≡ true) ⊎ (1 ≤ closing.looked) → (other : ℕ) (w : View) → get_elem? views other ≡ some w → w.entered ≡ Some handle → w.actor ≢ seat → IsShown w

-- the word says that this seat would close the handle
abbrev pub SaysClosing : ℕ → ℕ → Type 0
SaysClosing found seat =
    ((root : ℕ) × IsRootWord (word.ClosingWritable root seat) × (found ≡ root_code (word.ClosingWritable root seat)))
    ⊎ ((root : ℕ) × IsRootWord (word.ClosingReadOnly root seat) × (found ≡ root_code (word.ClosingReadOnly root seat)))

-- ---- seats

abbrev pub pin_word_of : Option Pinned → ℕ
pin_word_of None = 0
pin_word_of (Some pinned) = if pinned.shown then pin_code pinned.pin else 0

-- no node and no offer has the slot
abbrev pub IsSpare : Sizes → Account → Standing → ℕ → Type 0
IsSpare sizes account stands name =
    ((k : ℕ) (slot : Slot) → Stands stands (state_of sizes account) k slot → place_at account k ≢ name) × ((k : Known) → Contains account.offers k → k.slot ≢ name)

-- what the seat has written in a free slot of its own
abbrev pub AreDrafts : List ℕ → View → ℕ × ℕ → Type 0
AreDrafts words v d = (slice_index words d.0 ≡ d.1) × ((class name : ℕ) × IsFree v class name × (2 * name ≤ d.0) × (d.0 < 2 * name + words_in class))

-- the seat has reserved the number, for an offer that isn't carried out yet
abbrev pub Reserves : State → View → ℕ → Type 0
Reserves state v handle = (v.opens ≡ Some handle) × ((operation : Operation) → operation_of state v.actor ≡ Some operation → operation.is_marked ≡ false)

-- nobody has opened it, and nobody else may
pub record IsHeld (state : State) (words : List ℕ) (handle : ℕ) : Type 0 where
  pub low : handle < handle_limit
  pub taken : slice_index words (root_word handle) ≢ 0
  pub closed : root_at state handle ≡ None

-- the word of its number names the offer that the seat writes in this slot
pub record Names (words : List ℕ) (v : View) (handle slot : ℕ) : Type 0 where
  pub low : handle < handle_limit
  pub fits : IsRootWord (word.Opening slot)
  pub is : slice_index words (root_word handle) ≡ root_code (word.Opening slot)
  pub free : IsFree v 1 slot

-- ---- handles whose words name no offer

abbrev pub RunsNothing : State → Type 0
RunsNothing state = (actor : ℕ) → operation_of state actor ≡ None

-- When so many operations had begun nothing ran, and the handle's word named no offer: it names none until the next one begins.
pub record IsPlainSo (sizes : Sizes) (account : Account) (words : List ℕ) (d : ℕ × ℕ) : Type 0 where
  pub low : d.0 < handle_limit
  pub begun : d.1 ≤ (state_of sizes account).begun
  pub plain : d.1 ≡ (state_of sizes account).begun → RunsNothing (state_of sizes account) × ((slot : ℕ) → NamesOffer (slice_index words (root_word d.0)) slot → ⊥)

-- ---- slots that were retired

-- The node was an indirection's own main node, in whose place a SWAP put another one; the last step of this SWAP retired it.
pub record WasReplaced (sizes : Sizes) (x : Retired) (m : Ref) : Type 0 where
  pub before : List Step
  pub actor : ℕ
  pub goes_on : x.account.steps ≡ before ++ step.Go actor ∷ []
  pub link : Ref
  pub fresh : Ref
  pub replaced : HasReplaced (run (bounds_for sizes before) before) actor link m fresh
  pub own : IsOwnBy sizes x.account (slot_of link) (slot_of m)
  pub owned : is_owned (held_of (bounds_for sizes before) before) link m ≡ true

-- The node was a fresh main node that a SWAP had swapped in, and that was refused; the last step of this SWAP retired it.
pub record WasRefused (sizes : Sizes) (x : Retired) (f : Ref) : Type 0 where
  pub before : List Step
  pub actor : ℕ
  pub goes_on : x.account.steps ≡ before ++ step.Go actor ∷ []
  pub link : Ref
  pub over : Ref
  pub failed : HasFailed (run (bounds_for sizes before) before) actor link over f

-- so that step let go of it
pub data WasLetGo (sizes : Sizes) (x : Retired) (m : Ref) : Type 0 where
  by_commit : WasReplaced sizes x m → WasLetGo sizes x m
  by_refusal : WasRefused sizes x m → WasLetGo sizes x m
  by_outcome : WasTakenBack sizes x m → WasLetGo sizes x m

-- when the seat retired the slot its node was garbage, and stood there
pub record WasGarbage (sizes : Sizes) (x : Retired) : Type 0 where
  pub node : Ref
  pub number : slot_of node ≡ x.number
  pub garbage : IsGarbage (state_of sizes x.account) node
  pub let_go : x.deep ≡ false → WasLetGo sizes x node
  pub slot : Slot
  pub stored : slice_index_or (state_of sizes x.account).heap.slots x.number None ≡ Some slot
  pub class : class_of slot.node ≡ x.class
  pub made : x.number < length x.account.names
  pub place : place_at x.account x.number ≡ x.name

-- and its words are the node's still
pub record IsRetired (sizes : Sizes) (account : Account) (stands : Standing) (x : Retired) : Type 0 where
  pub was : WasGarbage sizes x
  pub grown : HasGrown x.account account
  pub still : stands x.number ≡ true

-- whoever is pinned so has pinned itself while nothing ran there
pub record HasPinnedIdle (sizes : Sizes) (account : Account) (actor : ℕ) (pinned : Pinned) : Type 0 where
  pub grown : HasGrown pinned.account account
  pub idle : operation_of (state_of sizes pinned.account) actor ≡ None

pub record IsSeat (sizes : Sizes) (account : Account) (stands : Standing) (words : List ℕ) (v : View) : Type 0 where
  -- a seat that was given up has no sizes
  pub same : 1 ≤ v.sizes.seats → v.sizes ≡ sizes
  pub low : 1 ≤ v.actor
  pub top : v.actor ≤ v.last
  pub most : v.last ≤ sizes.seats
  pub waited : HasWaited v.actor v.account account
  pub counts : length v.account.names ≡ (state_of sizes v.account).heap.births
  -- the actors after it have never taken a step, and run nothing
  pub rested : (a : ℕ) → v.actor < a → a ≤ v.last → HasWaited a (first_account sizes) account
  pub rests : (a : ℕ) → v.actor < a → a ≤ v.last → (operation_of (state_of sizes account) a ≡ None) × (slice_index words (pin_word a) ≡ 0)
  pub pinned : slice_index words (pin_word v.actor) ≡ pin_word_of v.pin
  pub pinned_idle : (pinned : Pinned) → v.pin ≡ Some pinned → HasPinnedIdle sizes account v.actor pinned
  pub retired : (x : Retired) → Contains v.retired x → IsRetired sizes account stands x
  pub entered : (handle : ℕ) → v.entered ≡ Some handle →
      (handle < handle_limit) × (is_some (root_at (state_of sizes account) handle) ≡ true) × ((pinned : Pinned) × (v.pin ≡ Some pinned) × (pinned.pin.handle ≡ handle))
  pub calls : (operation : Operation) → operation_of (state_of sizes account) v.actor ≡ Some operation → v.entered ≡ Some (handle_of operation.call)
  pub opens : (handle : ℕ) → Reserves (state_of sizes account) v handle → IsHeld (state_of sizes account) words handle
  pub reserves : (operation : Operation) → operation_of (state_of sizes account) v.actor ≡ Some operation → v.opens ≡ operation.opens
  pub opening : (handle slot : ℕ) → v.opens ≡ Some handle → v.opening ≡ Some slot → Names words v handle slot
  pub spare : (class name : ℕ) → IsFree v class name → IsTaken sizes words class name × IsSpare sizes account stands name
  pub once : (class : ℕ) → class < 3 → Once (pool_of v.pool class)
  pub drafts : (d : ℕ × ℕ) → Contains v.drafts d → AreDrafts words v d
  pub plain : (d : ℕ × ℕ) → Contains v.plain d → IsPlainSo sizes account words d
  pub offering : KnowsOffers account.offered account.offers account.parted words v.actor v.pin v.offer v.pool.parted

-- the actor is one of the seat's
abbrev pub HasActor : View → ℕ → Type 0
HasActor v a = (v.actor ≤ a) × (a ≤ v.last)

-- ---- what seats have

-- A seat has reserved the handle for the offer that it writes in this slot.
pub record IsOpening (state : State) (views : List View) (handle slot : ℕ) : Type 0 where
  pub id : ℕ
  pub view : View
  pub at : get_elem? views id ≡ some view
  pub reserves : Reserves state view handle
  pub free : IsFree view 1 slot

-- the actor is a seat's
pub record HasSeat (views : List View) (actor : ℕ) : Type 0 where
  pub id : ℕ
  pub view : View
  pub at : get_elem? views id ≡ some view
  pub its : view.actor ≡ actor

-- ---- all of it

pub record IsKept (sizes : Sizes) (s : Table.State Call View) : Type 0 where
  pub account : Account
  pub stands : Standing
  pub range : AreSizes sizes
  pub bounds : AreBounds (bounds_for sizes account.steps)
  pub keys : KeysFit account.steps
  -- nothing is freed, so nodes are numbered as they are made
  pub quiet : HasNoSweeps account.steps
  -- each node that was made has its place
  pub counted : length account.names ≡ (state_of sizes account).heap.births
  pub size : length s.words ≡ words_of sizes
  pub taken : HaveTaken sizes s.words
  pub generations : slice_index s.words generation_word ≡ (state_of sizes account).generations
  pub nodes : NodesStand sizes account stands s.words
  pub roots : RootsStand sizes account s.words
  pub closings : (handle seat : ℕ) → handle < handle_limit → SaysClosing (slice_index s.words (root_word handle)) seat → IsClosing s.views handle seat
  -- a word that names an offer that doesn't stand yet
  pub openings : (handle slot : ℕ) → handle < handle_limit → IsRootWord (word.Opening slot) → slice_index s.words (root_word handle) ≡ root_code (word.Opening slot) → NoOffer account slot →
      IsOpening (state_of sizes account) s.views handle slot
  pub seats : (id : ℕ) (v : View) → get_elem? s.views id ≡ some v → IsSeat sizes account stands s.words v
  pub runners : (a : ℕ) (operation : Operation) → operation_of (state_of sizes account) a ≡ Some operation → HasSeat s.views a
  -- no two seats have the same actor, the same free slot or the same reserved number
  pub alone : (i j : ℕ) (v w : View) (a : ℕ) → get_elem? s.views i ≡ some v → get_elem? s.views j ≡ some w → HasActor v a → HasActor w a → i ≡ j
  pub pools : (i j : ℕ) (v w : View) (b c name : ℕ) → get_elem? s.views i ≡ some v → get_elem? s.views j ≡ some w → IsFree v b name → IsFree w c name → i ≡ j
  pub numbers : (i j : ℕ) (v w : View) (handle : ℕ) → get_elem? s.views i ≡ some v → get_elem? s.views j ≡ some w → Reserves (state_of sizes account) v handle → Reserves
      (state_of sizes account) w handle → i ≡ j
  pub held : AreHeld sizes account stands s.words s.views
  pub cells : AreCells sizes (IsSpare sizes account stands) s.words s.views

-- ---- seats that were given up

-- It was given up after it had seen this. No slot is free for it, it has retired none, it knows of no offer, and it holds no reference.
pub record WasGivenUp (views : List View) (h : Heard) : Type 0 where
  pub id : ℕ
  pub view : View
  pub at : get_elem? views id ≡ some view
  pub spent : view.sizes.seats ≡ 0
  pub actor : view.actor ≡ h.actor
  pub last : view.last ≡ h.last
  pub account : view.account ≡ h.account
  pub bare : (view.pool ≡ no_slots) × (view.retired ≡ []) × (view.account.offered ≡ []) × (view.owed ≡ []) × (view.offer ≡ None)

-- ---- the epoch

-- While a seat is pinned the epoch is at most one more than it was when it pinned itself.
pub record IsPinned (words : List ℕ) (pinned : Pinned) : Type 0 where
  pub fits : IsPin pinned.pin
  -- what its word says was so before
  pub read : pinned.pin.epoch ≤ pinned.since
  pub since : pinned.since ≤ slice_index words epoch_word
  pub soon : slice_index words epoch_word ≤ pinned.since + 1

pub record AreEpochs (words : List ℕ) (views : List View) : Type 0 where
  pub seen : (id : ℕ) (v : View) → get_elem? views id ≡ some v → v.epoch ≤ slice_index words epoch_word
  pub pinned : (id : ℕ) (v : View) → get_elem? views id ≡ some v → (pinned : Pinned) → v.pin ≡ Some pinned → IsPinned words pinned
  -- if a seat is pinned by which another one has gone once all glances had fallen, it has pinned itself since the epoch that this one has seen
  pub passed : (i j : ℕ) (v w : View) → get_elem? views i ≡ some v → get_elem? views j ≡ some w → v.passed.cleared ≡ true → w.actor ≤ v.passed.seats → (pinned : Pinned) → w.pin ≡ Some pinned →
      pinned.shown ≡ true → v.epoch ≤ pinned.since
  -- and so has whoever glances then
  pub cleared : (i j : ℕ) (v w : View) → get_elem? views i ≡ some v → get_elem? views j ≡ some w → v.passed.cleared ≡ true → (pinned : Pinned) → w.pin ≡ Some pinned → pinned.shown ≡ false →
      v.epoch ≤ pinned.since

-- ---- retired slots, the epoch and pins

-- a seat with this pin has pinned itself before the slot was retired, or since
abbrev pub IsApartFrom : Retired → Pinned → Type 0
IsApartFrom x pinned = (pinned.since ≤ x.stamp) ⊎ HasGrown x.account pinned.account

-- in the epoch then or the next one, or when all that ran then had ended
abbrev pub IsFarFrom : Sizes → Retired → Pinned → Type 0
IsFarFrom sizes x pinned = (pinned.since ≤ x.stamp + 1) ⊎ HaveEnded (state_of sizes x.account) (state_of sizes pinned.account)

pub record AreRetired (sizes : Sizes) (words : List ℕ) (views : List View) : Type 0 where
  pub stamps : (id : ℕ) (v : View) → get_elem? views id ≡ some v → (x : Retired) → Contains v.retired x → x.stamp ≤ slice_index words epoch_word
  pub pins : (i j : ℕ) (v w : View) → get_elem? views i ≡ some v → get_elem? views j ≡ some w → (x : Retired) → Contains v.retired x → (pinned : Pinned) → w.pin ≡ Some pinned →
      IsApartFrom x pinned × IsFarFrom sizes x pinned
  -- no node is retired twice
  pub once : (id : ℕ) (v : View) → get_elem? views id ≡ some v → Once (map (λ (x : Retired). x.number) v.retired)
  pub apart : (i j : ℕ) (v w : View) → get_elem? views i ≡ some v → get_elem? views j ≡ some w → (x y : Retired) → Contains v.retired x → Contains w.retired y → x.number ≡ y.number → i ≡ j

-- ---- references that seats hold themselves

pub record AreOwed (views : List View) : Type 0 where
  -- who holds one is pinned
  pub pinned : (id : ℕ) (v : View) → get_elem? views id ≡ some v → (k : Ref) → Contains v.owed k → (pinned : Pinned) × (v.pin ≡ Some pinned)
  -- in the epoch in which the node was retired, if it was, or the next one at most: so its slot isn't free yet
  pub early : (i j : ℕ) (v w : View) → get_elem? views i ≡ some v → get_elem? views j ≡ some w → (x : Retired) (k : Ref) → Contains v.retired x → Contains w.owed k → x.number ≡ slot_of k →
      (pinned : Pinned) → w.pin ≡ Some pinned → pinned.since ≤ x.stamp + 1

-- all of it, and that whom a seat has heard of makes no access any more
pub record IsRuled (sizes : Sizes) (s : Table.State Call View) : Type 0 where
  pub kept : IsKept sizes s
  pub epochs : AreEpochs s.words s.views
  pub retired : AreRetired sizes s.words s.views
  pub owed : AreOwed s.views
  pub linked : AreLinked sizes s.words s.views
  pub heard : (id : ℕ) (v : View) → get_elem? s.views id ≡ some v → (h : Heard) → Contains v.heard h → WasGivenUp s.views h
