-- What is known of a node that its owner commits: what a repair was given, and at which depth a change is swapped in.
use Rattle.std.specs.Prelude.{◌≡◌, ℕ, ◌<◌, ◌≤◌, List, Option}
use Rattle.proof_updates.specs.Vocabulary.{Ref, Purpose, Bounds, Step, depth_of, State, node_under, Record, IsRepaired, OwnCommit, assigned_at, WasGiven}
use Rattle.proof_updates.specs.Beneath.machine_model.specs.declared.lines.Purpose.TheVariants as purpose

-- it swaps in what RENEW or CLEAN made
abbrev pub IsRepairing : Purpose → Type 0
IsRepairing (purpose.Renew path) = Unit {0}
IsRepairing purpose.Clean = Unit {0}
IsRepairing why = ⊥

-- the entries of a repair that is committed are those that it replaces, done by what READs of the repair gave
abbrev pub RepairsAreKnown : Bounds → (ℕ → State) → (ℕ → Record) → ℕ → Type 0
RepairsAreKnown limits states records last =
    (t : ℕ) (s : Step) → t < last → (own : OwnCommit limits states records last (assigned_at states last) t s) → IsRepairing own.why →
    IsRepaired (node_under states last) (assigned_at states last own.start t) (WasGiven states last own.start t) own.start own.replaced own.fresh

-- a change of a key is swapped in at the depth of its path's end
abbrev pub SitesOfUpdates : Bounds → (ℕ → State) → (ℕ → Record) → ℕ → (Ref → ℕ) → Type 0
SitesOfUpdates limits states records last depth =
    (t : ℕ) (s : Step) → t < last → (own : OwnCommit limits states records last (assigned_at states last) t s) → (path : List Ref) (former : Option ℕ) → own.why ≡ purpose.Update path former →
    (depth own.indirection ≡ depth_of path) × (depth own.indirection ≤ 13)
