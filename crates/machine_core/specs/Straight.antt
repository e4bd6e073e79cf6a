-- Calls that are carried out at once.
use Rattle.std.specs.Prelude.{◌≡◌, ℕ, ◌+◌, ◌*◌, ◌<◌, ◌≤◌, None, [], length}
use Rattle.machine_core.specs.Vocabulary.{Call, Reply, Ref, birth_limit, Plain, key_of, longest_life, FitsKey, begin_denial, State, key_hash, word_at, IsOfRun, Comes}
use Rattle.machine_model.specs.declared.steps.Step.TheVariants as step
use Rattle.machine_core.specs.Beneath.proof_straight.specs.Passing.{Passes}
use Rattle.machine_core.specs.Beneath.proof_straight.specs.Running.{IsKeyed, IsReady}
use Rattle.machine_core.specs.declared.descending.Place.{Place}
use Rattle.machine_core.specs.declared.parts.Parts.{Parts}
use Rattle.machine_core.specs.Descending.{EndsAt}
use Rattle.machine_core.specs.Keeping.{IsCore, IsKept}
use Rattle.machine_core.specs.Seen.{seen}
use Rattle.proof_core.specs.Tries.{IsTrie}

-- begun in this state the actor's call goes on alone, comes to this reply, and leaves that state
abbrev pub CarriesOut : State → (actor : ℕ) → Call → Reply → State → Type 0
CarriesOut state actor call reply after = (n : ℕ) × Comes state actor call n reply after

-- no offer stands over this handle's root, and as many slots are free and as many steps left as a call takes at most that is carried out at once and renews no branch
pub record IsClear (state : State) (handle : ℕ) (root : Ref) : Type 0 where
  pub word : word_at state handle ≡ Plain root
  pub slots : 32 ≤ length state.heap.free
  pub steps : state.steps + 4096 ≤ state.limits.steps

-- the same of the parts of a core, which they stay
abbrev pub CarriesBy : Parts → (actor : ℕ) → Call → Reply → Parts → Type 0
CarriesBy before actor call reply after = CarriesOut (seen before) actor call reply (seen after) × IsCore after

-- ---- whoever calls

-- an actor may begin the call in this state
abbrev pub MayBegin : State → Call → Type 0
MayBegin state call = (actor : ℕ) × (begin_denial state actor call None ≡ None)

-- so it is carried out, whichever actor begins it that may
abbrev pub CarriesOutForAny : State → Call → Reply → State → Type 0
CarriesOutForAny state call reply after = (actor : ℕ) → begin_denial state actor call None ≡ None → CarriesOut state actor call reply after

-- the same of the parts of a core, which they stay
abbrev pub CarriesForAny : Parts → Call → Reply → Parts → Type 0
CarriesForAny before call reply after = (actor : ℕ) → begin_denial (seen before) actor call None ≡ None → CarriesBy before actor call reply after

-- ---- a call on one key

-- The call can go on alone in this state, be it one of a run or one in which the call renewed branches: so many of these are still to be renewed, each by 33 slots and
-- 138 steps at most, and its change takes 32 slots and 200 steps at most.
pub record CanGo (state : State) (actor : ℕ) (call : Call) (root : Ref) (levels : ℕ) : Type 0 where
  pub ready : IsReady state actor call root
  pub slots : 33 * levels + 32 ≤ length state.heap.free
  pub steps : state.steps + (138 * levels + 200) ≤ state.limits.steps
  pub life : state.limits.steps ≤ longest_life
  pub begun : state.begun ≤ longest_life
  pub births : state.heap.births + 66 < birth_limit
  pub trie : IsTrie state.heap root

-- so it can on these parts, which keep all that those of a core keep
pub record IsFit (parts : Parts) (actor : ℕ) (call : Call) (root : Ref) (levels : ℕ) : Type 0 where
  pub can : CanGo (seen parts) actor call root levels
  pub kept : IsKept parts
  pub settled : parts.heap.noted ≡ []

-- where the call goes on from the second state for longer than down to this depth, it comes there from the first one, too, which is one of a run
pub record LeadsTo (start now : State) (actor : ℕ) (call : Call) (depth : ℕ) : Type 0 where
  pub run : IsOfRun start
  pub begun : now.begun ≡ start.begun
  pub passes : Passes start now actor call (4 * depth + 3)

-- the call is carried out from that state, and leaves the parts of a core
abbrev pub CarriesFrom : State → (actor : ℕ) → Call → Reply → Parts → Type 0
CarriesFrom start actor call reply after = CarriesOut start actor call reply (seen after) × IsCore after

-- the call, which goes on alone from the first state, has come down to the place on these parts, and can be carried out there
pub record HasArrived (start : State) (parts : Parts) (actor : ℕ) (call : Call) (root : Ref) (place : Place) : Type 0 where
  pub fit : IsFit parts actor call root 0
  pub keyed : IsKeyed call
  pub fits : FitsKey (step.Begin actor call None)
  pub ends : EndsAt parts.heap.heap root (key_hash (seen parts) (key_of call)) (key_of call) place
  pub leads : LeadsTo start (seen parts) actor call place.depth

-- there is a call on this key of which that is so, and this too
abbrev pub IsReached : Parts → (root : Ref) → (key : ℕ) → Place → (Call → Type 0) → Type 0
IsReached parts root key place Asks = (start : State) × (actor : ℕ) × (call : Call) × (key ≡ key_of call) × Asks call × HasArrived start parts actor call root place

-- each such call is carried out, with this reply, and leaves the parts of a core
abbrev pub CarriesThere : Parts → (root : Ref) → (key : ℕ) → Place → (Call → Type 0) → (Call → Reply) → Parts → Type 0
CarriesThere before root key place Asks reply after =
    (start : State) (actor : ℕ) (call : Call) → key ≡ key_of call → Asks call → HasArrived start before actor call root place → CarriesFrom start actor call (reply call) after
