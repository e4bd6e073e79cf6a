-- Laws of the contents of handles, for each step that is taken after a list of steps whose keys have 64 bits.
use Rattle.std.specs.Prelude.{◌≡◌, ℕ, ◌⊎◌, List, [], ◌∷◌, ◌++◌, Option, Some, None, Ok}
use Rattle.std.specs.FinMap as map
use Rattle.proof_updates.specs.Vocabulary.{hash_of, Access, Writable, ReadOnly, Call, Clear, Snapshot, Freeze, Close, KeyMap, change_in, Ref, Root, Bounds, Outcome, Step, changed_reply, content_at}
use Rattle.proof_updates.specs.Vocabulary.{KeysFit, AreBounds, next, run, State, root_at}
use Rattle.proof_updates.specs.Beneath.machine_model.specs.declared.steps.Step.TheVariants as step
use Rattle.proof_updates.specs.Touching.{Reaches, CommitsUpdate, CommitsRepair, CarriesOutCall, Touches}

-- of the states before and after each step that is taken
abbrev pub OfEachStep : (Bounds → State → Step → State → Type 0) → Type 0
OfEachStep Law =
    (limits : Bounds) (steps : List Step) (s : Step) (outcome : Outcome) (after : State) → AreBounds limits → KeysFit (steps ++ s ∷ []) →
    next (run limits steps) s ≡ Ok (outcome, after) → Law limits (run limits steps) s after

-- the handle is open, of this kind, and these are the pairs of its map, by rising key
pub record HandleHolds (state : State) (handle : ℕ) (access : Access) (pairs : List (ℕ × ℕ)) : Type 0 where
  pub root : Root
  pub is_open : root_at state handle ≡ Some root
  pub kind : root.access ≡ access
  pub content : content_at state handle ≡ pairs

-- the call makes the later pairs of the earlier ones, where the former value is that of its key, and is answered by it
pub record Turns (hash : ℕ → ℕ) (call : Call) (former : Option ℕ) (earlier later : List (ℕ × ℕ)) : Type 0 where
  pub before : KeyMap
  pub after : KeyMap
  pub begins : map.entries before ≡ earlier
  pub ends : map.entries after ≡ later
  pub changes : change_in hash call before ≡ Some (changed_reply call former, after)

-- a handle that the step doesn't touch stays open, of its kind, and keeps its content
abbrev pub UntouchedStay : Bounds → State → Step → State → Type 0
UntouchedStay limits before s after =
    (handle : ℕ) (access : Access) (pairs : List (ℕ × ℕ)) → HandleHolds before handle access pairs → ¬ Touches before s handle → HandleHolds after handle access pairs

-- the commit of an operation's own update does that call's change to the content of each handle that reaches its indirection
abbrev pub UpdatesChange : Bounds → State → Step → State → Type 0
UpdatesChange limits before s after =
    (handle : ℕ) (access : Access) (pairs : List (ℕ × ℕ)) (i : Ref) (call : Call) (former : Option ℕ) → HandleHolds before handle access pairs → CommitsUpdate before s i call former →
    Reaches before handle i → (later : List (ℕ × ℕ)) × HandleHolds after handle access later × Turns (hash_of limits.hash) call former pairs later

-- the commit of a node made by renewing, cleaning or climbing leaves all handles and their contents alone
abbrev pub RepairsStay : Bounds → State → Step → State → Type 0
RepairsStay limits before s after =
    (handle : ℕ) (access : Access) (pairs : List (ℕ × ℕ)) → HandleHolds before handle access pairs → CommitsRepair before s → HandleHolds after handle access pairs

-- a clear that is carried out leaves its handle empty
abbrev pub ClearsEmpty : Bounds → State → Step → State → Type 0
ClearsEmpty limits before s after = (handle : ℕ) (opens : Option ℕ) → CarriesOutCall before s (Clear handle) opens → HandleHolds after handle Writable []

-- a close takes its handle away
abbrev pub ClosesTake : Bounds → State → Step → State → Type 0
ClosesTake limits before s after = (actor handle : ℕ) (number : Option ℕ) → s ≡ step.Begin actor (Close handle) number → root_at after handle ≡ None

-- a handle that a step opens was copied by a snapshot, and is writable, or by a freeze, and is read-only; its content is that of the handle copied
abbrev pub OpenedCopy : Bounds → State → Step → State → Type 0
OpenedCopy limits before s after =
    (handle : ℕ) (root : Root) → root_at before handle ≡ None → root_at after handle ≡ Some root →
    (copied : ℕ) × ((CarriesOutCall before s (Snapshot copied) (Some handle) × HandleHolds after handle Writable (content_at before copied))
    ⊎ (CarriesOutCall before s (Freeze copied) (Some handle) × HandleHolds after handle ReadOnly (content_at before copied)))
