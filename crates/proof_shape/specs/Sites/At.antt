-- What is asked of a run, and where nodes and paths of operations stand at each time of it.
use Rattle.std.specs.Prelude.{◌≡◌, ℕ, suc, ◌^◌, ◌<◌, ◌≤◌, true, List, length, slice_index_or, Option, Some, []}
use Rattle.proof_shape.specs.Vocabulary.{hash_of, Ref, no_ref, KeyLine, Line, Operation, CleanLine, ClimbLine, Bounds, Outcome, Step, Swap, key_of, current, depth_of, State, operation_of}
use Rattle.proof_shape.specs.Vocabulary.{node_under, Moves, FitsKey, LineLevel, renew_path, purpose_path, build_path}
use Rattle.proof_shape.specs.Beneath.machine_model.specs.declared.finding.KeyLine.TheVariants as key
use Rattle.proof_shape.specs.Beneath.machine_model.specs.declared.lines.Line.TheVariants as line
use Rattle.proof_shape.specs.Beneath.machine_model.specs.declared.lines.Purpose.TheVariants as purpose
use Rattle.proof_shape.specs.Beneath.machine_model.specs.declared.repairs.CleanLine.TheVariants as clean
use Rattle.proof_shape.specs.Beneath.machine_model.specs.declared.repairs.ClimbLine.TheVariants as climb
use Rattle.proof_shape.specs.Beneath.proof_memory.specs.Wants.{is_indirection}
use Rattle.proof_shape.specs.Sites.Nodes.{path_to, level_until, depth_of_run, path_of_run}
use Rattle.proof_shape.specs.Sites.Lines.{LineSite, sites_of}

-- ---- what is given

-- these steps lead from each state of a run to the next one
abbrev pub TakesSteps : (ℕ → State) → (ℕ → Step) → ℕ → Type 0
TakesSteps states steps last = (t : ℕ) → t < last → (o : Outcome) × Moves (states t) (steps t) o (states (suc t))

-- their keys have 64 bits
abbrev pub StepsFit : (ℕ → Step) → ℕ → Type 0
StepsFit steps last = (t : ℕ) → t < last → FitsKey (steps t)

-- ---- lines

-- what the line of each running operation has stands at its level, and on the way to its key
abbrev pub LinesHaveSites : Bounds → (ℕ → State) → (ℕ → Step) → ℕ → Type 0
LinesHaveSites limits states steps last =
    (t : ℕ) → t ≤ last → (actor : ℕ) (operation : Operation) → operation_of (states t) actor ≡ Some operation →
    LineLevel (level_until states steps last) operation.line × LineSite limits.hash (sites_of states steps last) (hash_of limits.hash (key_of operation.call)) operation.line
    × (key_of operation.call < 2 ^ 64)

-- the indirections from the root down to where a line is
abbrev pub way_of_key : KeyLine → List Ref
way_of_key (key.Read path r) = path
way_of_key (key.Main path main) = path
way_of_key (key.Entry path main position) = path
way_of_key (key.Listed path main position) = path
way_of_key (key.Sibling path main position former) = path

abbrev pub way_of_clean : CleanLine → List Ref
way_of_clean (clean.Read path r) = path
way_of_clean (clean.Main path main) = path
way_of_clean (clean.Entry path main done) = path
way_of_clean (clean.Child path main done r) = path
way_of_clean (clean.Tomb path main done child) = path
way_of_clean (clean.Contracted path main done) = path

abbrev pub way_of_climb : ClimbLine → List Ref
way_of_climb (climb.Read c r) = c.path
way_of_climb (climb.Main c main) = c.path
way_of_climb (climb.Contracted c main) = c.path
way_of_climb (climb.Root c l) = c.path

abbrev pub way_of : Line → List Ref
way_of (line.Key l) = way_of_key l
way_of (line.Build l) = build_path l
way_of (line.Swap why w) = purpose_path why
way_of (line.Renew l) = renew_path l
way_of (line.Clean l) = way_of_clean l
way_of (line.Climb l) = way_of_climb l
way_of l = []

-- the d-th of them has depth d, and leads to the hash of the operation's key; there are 14 at most
abbrev pub WaysHaveSites : Bounds → (ℕ → State) → (ℕ → Step) → ℕ → Type 0
WaysHaveSites limits states steps last =
    (t : ℕ) → t ≤ last → (actor : ℕ) (operation : Operation) → operation_of (states t) actor ≡ Some operation →
    (length (way_of operation.line) ≤ 14)
    × ((d : ℕ) → d < length (way_of operation.line) →
    let i = slice_index_or (way_of operation.line) d no_ref in
    (is_indirection (node_under states last i) ≡ true) × (depth_of_run states steps last i ≡ d) × (path_of_run states steps last i ≡ path_to (hash_of limits.hash (key_of operation.call)) d))

-- a change of a key is swapped in where its path ends
abbrev pub UpdatesHaveSites : Bounds → (ℕ → State) → (ℕ → Step) → ℕ → Type 0
UpdatesHaveSites limits states steps last =
    (t : ℕ) → t ≤ last → (actor : ℕ) (operation : Operation) → operation_of (states t) actor ≡ Some operation → (path : List Ref) (former : Option ℕ) (w : Swap) →
    operation.line ≡ line.Swap (purpose.Update path former) w →
    (w.indirection ≡ current path) × (depth_of_run states steps last w.indirection ≡ depth_of path) × (depth_of path ≤ 13)
    × (path_of_run states steps last w.indirection ≡ path_to (hash_of limits.hash (key_of operation.call)) (depth_of path))
