-- How generations fall along paths, over a run of so many steps: what is shown of it, in the words that the layers above use.
use Rattle.std.specs.Prelude.{◌≡◌, ℕ, suc, ◌<◌, ◌≤◌, ◌⊎◌, List, Contains, Some, []}
use Rattle.proof_generations.specs.Vocabulary.{Writable, ReadOnly, Ref, Indirection, generation_of, entries_of, Purpose, Operation, Moment, Gives, Read, Swap, RenewLine, Root, Bounds, Outcome, Go}
use Rattle.proof_generations.specs.Vocabulary.{State, root_at, operation_of, read_of, read_step, Moves, node_under, Record, closed_at, moment_at, noted, told_in, IsNoSwap, generation, node_in}
use Rattle.proof_generations.specs.Vocabulary.{counting_main, trie_of, ReadsBelow}
use Rattle.proof_generations.specs.Beneath.machine_model.specs.declared.lines.Line.TheVariants as line
use Rattle.proof_generations.specs.Beneath.machine_model.specs.declared.lines.Purpose.TheVariants as purpose
use Rattle.proof_generations.specs.Beneath.machine_model.specs.declared.reading.ReadLine.TheVariants as read
use Rattle.proof_generations.specs.Beneath.machine_model.specs.declared.repairs.RenewLine.TheVariants as renew
use Rattle.proof_generations.specs.Laws.Roots.{root_generation}

-- ---- what falls

-- by step t some handle's root had this generation: it was opened
abbrev pub WasOpened : (ℕ → State) → ℕ → ℕ → Type 0
WasOpened states t g =
    (u : ℕ) × (u ≤ t) × ((handle : ℕ) × (root : Root) × (root_at (states u) handle ≡ Some root) × (root_generation (states u) root ≡ g))

-- the generation was closed before step t
abbrev pub WasClosed : (ℕ → Record) → ℕ → ℕ → Type 0
WasClosed records t g = (c : ℕ) × (c < t) × (closed_at (records t) g ≡ Some c)

-- an indirection of generation h may stand below one of generation g: it has the same, or an older one that was closed before step t
abbrev pub MayStandBelow : (ℕ → Record) → ℕ → ℕ → ℕ → Type 0
MayStandBelow records t g h = (h ≡ g) ⊎ ((h < g) × WasClosed records t h)

-- an indirection of generation h stands under the reference; its main word doesn't count
abbrev pub IsIndirectionOf : (ℕ → State) → ℕ → ℕ → Ref → Type 0
IsIndirectionOf states last h r = (word : Ref) × (node_under states last r ≡ Indirection h word)

-- the same with no new root left out, and of all main nodes of the trie: none has a greater generation
abbrev pub NoneIsNewer : Bounds → (ℕ → State) → ℕ → Type 0
NoneIsNewer limits states last =
    (depth path : Ref → ℕ) (t : ℕ) → t ≤ last → (i child : Ref) (h : ℕ) (word : Ref) → let trie = trie_of limits states last depth path in Contains (entries_of (node_in trie t i)) child →
    trie.node child ≡ Indirection h word → generation trie child ≤ generation trie i

-- ---- the paths of operations

abbrev pub renew_path : RenewLine → List Ref
renew_path (renew.Entry path main done) = path
renew_path (renew.Read path main done r) = path
renew_path (renew.Link path main done child) = path
renew_path (renew.Branch path main done) = path

abbrev pub purpose_path : Purpose → List Ref
purpose_path (purpose.Update path former) = path
purpose_path (purpose.Renew path) = path
purpose_path purpose.Clean = []
purpose_path (purpose.Climb c) = c.path

-- who swaps does so on a writable handle, into an indirection of that generation; so what commits there is an operation's of that very generation
abbrev pub SwapsInOwnGeneration : (ℕ → State) → ℕ → Type 0
SwapsInOwnGeneration states last =
    (t : ℕ) → t ≤ last → (actor : ℕ) (operation : Operation) → operation_of (states t) actor ≡ Some operation → (why : Purpose) (s : Swap) → operation.line ≡ line.Swap why s →
    (operation.access ≡ Writable) × (operation.generation ≡ Some (generation_of (node_under states last s.indirection)))

-- ---- what is final

-- the operation is on a read-only handle, or a repair of it reads an indirection of another generation than that of its root
abbrev pub ReadsClosed : Operation → ℕ → Type 0
ReadsClosed operation h = (operation.access ≡ ReadOnly) ⊎ (ReadsBelow operation.line × (operation.generation ≡ Some h → ⊥))

-- the generation was closed before step t, and before the READ's last read or swap of the main word, if there was one
abbrev pub IsLate : (ℕ → Record) → ℕ → Moment → Read → ℕ → Type 0
IsLate records t x r h = (c : ℕ) × (c < t) × (closed_at (records t) h ≡ Some c) × ((r.line ≡ read.Main) ⊎ (c < x.read_at))

-- what is read so has a generation that was closed before the READ began
abbrev pub ClosedBeforeRead : (ℕ → State) → (ℕ → Record) → ℕ → Type 0
ClosedBeforeRead states records last =
    (t : ℕ) → t ≤ last → (actor : ℕ) (operation : Operation) (r : Read) → operation_of (states t) actor ≡ Some operation → read_of operation.line ≡ Some r →
    ReadsClosed operation (generation_of (node_under states last r.indirection)) → IsLate records t (moment_at (records t) actor) r (generation_of (node_under states last r.indirection))

-- step t is the last of a READ of the actor's operation, which gives this main node of the indirection
pub record GivesAt (states : ℕ → State) (records : ℕ → Record) (t actor : ℕ) (operation : Operation) (i m : Ref) : Type 0 where
  pub outcome : Outcome
  pub moves : Moves (states t) (Go actor) outcome (states (suc t))
  pub notes : records (suc t) ≡ noted (records t) (states t).steps (told_in (states t) (Go actor))
  pub runs : operation_of (states t) actor ≡ Some operation
  pub no_swap : IsNoSwap operation.line
  pub read : Read
  pub reads : read_of operation.line ≡ Some read
  pub of : read.indirection ≡ i
  pub gives : read_step (states t) operation read ≡ Gives m

-- and for ever, where it was read so
abbrev pub GivenForEver : (ℕ → State) → (ℕ → Record) → ℕ → Type 0
GivenForEver states records last =
    (t : ℕ) → t < last → (actor : ℕ) (operation : Operation) (i m : Ref) → GivesAt states records t actor operation i m → ReadsClosed operation (generation_of (node_under states last i)) →
    (u : ℕ) → (moment_at (records (suc t)) actor).moment < u → u ≤ last → counting_main states last u i ≡ m

-- What an operation of generation g knows at step t of a main node that it was given for an indirection: that it counted at some time, and, where the
-- indirection has another generation, that it counts for ever.
abbrev pub WasGiven : (ℕ → State) → ℕ → ℕ → ℕ → Ref → Ref → Type 0
WasGiven states last g t i m =
    ((u : ℕ) × (u ≤ t) × (counting_main states last u i ≡ m)) × ((generation_of (node_under states last i) ≡ g → ⊥) → counting_main states last last i ≡ m)

-- where a repair's READ gives it
abbrev pub RepairsAreGiven : (ℕ → State) → (ℕ → Record) → ℕ → Type 0
RepairsAreGiven states records last =
    (t : ℕ) → t < last → (actor : ℕ) (operation : Operation) (g : ℕ) (i m : Ref) → GivesAt states records t actor operation i m → operation.generation ≡ Some g → ReadsBelow operation.line →
    WasGiven states last g (suc t) i m
