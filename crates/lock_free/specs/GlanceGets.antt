-- A get whose seat glances: what it is while it is under way, and what comes of it.
use Rattle.history.specs.declared.calls.Call.{Call}
use Rattle.history.specs.declared.calls.Call.TheVariants.{Get}
use Rattle.history.specs.declared.replies.Reply.TheVariants as reply
use Rattle.history.specs.declared.calls.Access.{Access}
use Rattle.history.specs.declared.calls.Access.TheVariants.{Writable, ReadOnly}
use Rattle.std.specs.Prelude.{◌≡◌, ◌⊎◌, ℕ, false, List, [], Option, Some, None, IfSome}
use Rattle.trie_words.specs.declared.roots.RootWord.{RootWord}
use Rattle.trie_words.specs.declared.roots.RootWord.TheVariants as word
use Rattle.machine_model.specs.Lines.{new_try}
use Rattle.lock_free.specs.declared.glance_roots.Glancing.{Glancing}
use Rattle.lock_free.specs.Holding.{IsOn}
use Rattle.lock_free.specs.Seeking.{IsCalled}
use Rattle.machine_model.specs.declared.operations.Operation.{Operation}
use Rattle.machine_model.specs.declared.finding.KeyLine.{KeyLine}
use Rattle.machine_model.specs.declared.finding.KeyLine.TheVariants as key
use Rattle.machine_model.specs.Reading.{reading}
use Rattle.machine_model.specs.declared.actions.Action.{Action}
use Rattle.machine_model.specs.declared.actions.Action.TheVariants as act
use Rattle.machine_model.specs.Beneath.slot_arena.specs.declared.refs.Ref.{Ref}
use Rattle.machine_model.specs.GivingUp.{given_up}
use Rattle.lock_free.specs.declared.rules.Glance.{Glance}
use Rattle.lock_free.specs.declared.rules.Pinned.{Pinned}
use Rattle.lock_free.specs.declared.rules.View.{View}
use Rattle.lock_free.specs.Accounts.{HasWaited}
use Rattle.lock_free.specs.Answering.{HasAnswered}
use Rattle.lock_free.specs.BegunCalls.{StillBegins}
use Rattle.lock_free.specs.GoingDown.{IsAtKey}
use Rattle.lock_free.specs.Loading.{IsAt, IsAtSlot, IsSound, Runs, Saw}
use Rattle.lock_free.specs.Passing.{IsPlaced}
use Rattle.lock_free.specs.SeatWords.{pinned_for, IsIdle}
use Rattle.lock_free.specs.Shadows.{inner}
use Rattle.lock_free.specs.Stocks.{IsStock, Stocked}
use Rattle.lock_free.specs.UnderWay.{IsUnderWay}

-- ---- it is under way

-- as far as the seat knows its glance counts still, and it knows this as a pinned seat
abbrev pub WhileItCounts : (View → Type 0) → View → Type 0
WhileItCounts P v = (g : Glance) → v.glance ≡ Some g → g.lost ≡ false → P (inner v g)

-- its operation may give up, and has made nothing
pub record MayStop (v : View) (handle key : ℕ) : Type 0 where
  pub operation : Operation
  pub runs : Runs v operation
  pub call_is : operation.call ≡ Get handle key
  pub none : operation.private ≡ []
  pub may : given_up (Get handle key) operation.line ≡ Some reply.NoSlots

-- the seat has pinned itself for it, and it hasn't begun
abbrev pub IsToBegin : View → ℕ → ℕ → View → Type 0
IsToBegin before handle key v = (pinned : Pinned) × Saw (pinned_for before pinned (Get handle key)) v × IsIdle v

-- what the seat knows as a pinned one: the get hasn't begun since before, or is under way
pub record IsGetSince (words : ℕ) (before : View) (handle key : ℕ) (v : View) : Type 0 where
  pub sound : IsSound words v
  pub seat : v ≡ record before { account = v.account; pin = v.pin; asks = v.asks; entered = v.entered; owed = v.owed }
  pub at : IsToBegin before handle key v ⊎ (MayStop v handle key × IsUnderWay before (Get handle key) None v)

pub record IsGlanceOf (words : ℕ) (before : View) (handle key : ℕ) (v : View) : Type 0 where
  pub glance : Glance
  pub is : v.glance ≡ Some glance
  pub its : IsGetSince words before handle key (inner v glance)

-- of whichever get
abbrev pub IsGetGlance : ℕ → View → Type 0
IsGetGlance words v = (before : View) × (handle : ℕ) × (key : ℕ) × IsGlanceOf words before handle key v

-- ---- it goes on

-- it is a glance of the same get still; and while it counts it did when it came from there, and this has come of it as of a pinned seat
pub record GlancesOn (words : ℕ) (Q : View → View → Type 0) (u v : View) : Type 0 where
  pub first : Glance
  pub was : u.glance ≡ Some first
  pub later : Glance
  pub is : v.glance ≡ Some later
  pub same : later.read ≡ first.read
  pub goes_on : (before : View) (handle key : ℕ) → IsGlanceOf words before handle key u → IsGlanceOf words before handle key v
  pub told : later.lost ≡ false → (first.lost ≡ false) × Q (inner u first) (inner v later)

-- a step that looks at a node
abbrev pub IsLook : Action → Type 0
IsLook (act.ReadMain i) = Unit {0}
IsLook (act.ReadPrev main) = Unit {0}
IsLook (act.Look r) = Unit {0}
IsLook action = ⊥

-- its next step is such a one on the way to its key
pub record IsOnTheWay (v : View) (does : Action) : Type 0 where
  pub acts : IsAt v does
  pub at : KeyLine
  pub on : IsAtKey v at

abbrev pub IsLooking : View → Type 0
IsLooking v = (does : Action) × IsLook does × IsOnTheWay v does

-- it is to read or to look at the node in this slot so
abbrev pub LooksAt : View → (Ref → Action) → ℕ → Type 0
LooksAt v does name = IsAtSlot v does name × ((at : KeyLine) × IsAtKey v at)

-- it is to read the main node of the indirection in this slot
abbrev pub IsAtRead : ℕ → View → Type 0
IsAtRead name v = (path : List Ref) × (i : Ref) × IsAtKey v (key.Read path (reading i)) × IsPlaced v i name

-- ---- it begins

-- what an open handle with this word allows, if the word names its root
abbrev pub plain_access : RootWord → Option Access
plain_access (word.Writable slot) = Some Writable
plain_access (word.ReadOnly slot) = Some ReadOnly
plain_access found = None

-- it glances for this get, which has begun if that is told, and is at its first line
pub record HasBegunToGlance (words : ℕ) (before : View) (handle key : ℕ) (glancing : Glancing) (after : View) : Type 0 where
  pub its : IsGlanceOf words before handle key after
  pub count : its.glance.read ≡ glancing.count
  pub begun : IfSome glancing.access (λ access. WhileItCounts (λ v. IsOn v new_try × IsCalled v (Get handle key) access) after)

-- ---- what comes of it

-- the plain memory of a seat is what it was
abbrev pub KeepsStock : View → View → Type 0
KeepsStock before after = (stock : Stocked) → IsStock stock before → IsStock stock after

-- It was refused; or nothing of it is in the history, others alone have gone on, and what comes of the call now has come of it since before.
abbrev pub HasGlancedFor : ℕ → View → Call → View → Type 0
HasGlancedFor words before call after =
    HasAnswered before call None reply.NoSlots after ⊎ (StillBegins words before call after × HasWaited before.actor before.account after.account)

-- it was answered with this value, or the glance was for nothing
abbrev pub HasGlancedAtKey : ℕ → View → Call → Option (Option ℕ) → View → Type 0
HasGlancedAtKey words before call (Some value) after = HasAnswered before call None (reply.Found value) after
HasGlancedAtKey words before call None after = HasGlancedFor words before call after
