-- What a machine's memory is like, and what a step does to it.
use Rattle.std.specs.Prelude.{◌≡◌, ℕ, ◌+◌, ◌≤◌, List, ◌++◌, Contains, Some}
use Rattle.proof_runs.specs.Vocabulary.{Ref, stored, refs_of_slot, Operation, Step, Sweep, held, refs_of_root, bounded, run, root_at, operation_of, IsInUse, IsZero}
use Rattle.proof_runs.specs.Machines.{Taken, state_of}

-- the reference names a slot that the machine uses, under that very birth
abbrev pub Uses : Taken → Ref → Type 0
Uses machine r = IsInUse (state_of machine).heap r

-- each reference that a running operation has got since its begin, or that stands in a root word, a private list or a slot, names a slot in use
pub record UsesWhatItNames (machine : Taken) : Type 0 where
  pub got : (actor : ℕ) (r : Ref) → Contains (held (bounded machine.limits) machine.steps actor) r → Uses machine r
  pub roots : (handle : ℕ) (r : Ref) → Contains (refs_of_root (root_at (state_of machine) handle)) r → Uses machine r
  pub privates : (actor : ℕ) (operation : Operation) (r : Ref) → operation_of (state_of machine) actor ≡ Some operation → Contains operation.private r → Uses machine r
  pub slots : (q r : Ref) → Contains (refs_of_slot (stored (state_of machine).heap q)) r → Uses machine r

-- nothing has referred to the slot since a state from which on the epoch grew by two at least
abbrev pub IsZeroForTwoEpochs : Taken → Ref → Type 0
IsZeroForTwoEpochs machine r =
    (before since : List Step) × (machine.steps ≡ before ++ since) × ((run (bounded machine.limits) before).epoch + 2 ≤ (state_of machine).epoch)
    × ((a b : List Step) → since ≡ a ++ b → IsZero (run (bounded machine.limits) (before ++ a)) r)

-- a slot that the step frees is freed by the sweep, and had no reference for two epochs
abbrev pub FreesLate : Taken → Step → Taken → Type 0
FreesLate before step after = (r : Ref) → Uses before r → ¬ Uses after r → (step ≡ Sweep) × IsZeroForTwoEpochs before r

-- a reference that comes into use in the step never was in use before
abbrev pub DrawsNew : Taken → Taken → Type 0
DrawsNew before after =
    (r : Ref) → ¬ Uses before r → Uses after r → (steps since : List Step) → before.steps ≡ steps ++ since → ¬ IsInUse (run (bounded before.limits) steps).heap r
