-- Laws of memory, for every list of steps.
use Rattle.std.specs.Prelude.{◌≡◌, ℕ, ◌+◌, ◌≤◌, ◌||◌, Bool, true, false, is_some, List, [], ◌∷◌, ◌++◌, map, All, Contains, Some}
use Rattle.proof_memory.specs.Vocabulary.{Ref, Node, Slot, Heap, stored, next_ref, refs_of_slot, with_main_word, count_of, Zeroed, Line, Operation, Root, Bounds, Step, Sweep, handle_of, State}
use Rattle.proof_memory.specs.Vocabulary.{root_at, operation_of, outside, refs_of_root, content_at, held, action_of, AreBounds, run, next_state, standing, next_record, record_of}
use Rattle.machine_model.specs.declared.lines.Line.TheVariants as line
use Rattle.proof_memory.specs.Wants.{AllHold, is_formed, node_wants, prev_wants, word_wants, action_wants, line_wants}

-- the reference names a slot in use, under that very birth
abbrev pub IsInUse : Heap → Ref → Type 0
IsInUse heap r = (slot : Slot) × (standing heap r ≡ Some slot)

-- ---- references name slots in use

-- each reference that a running operation has got since its begin names a slot in use
abbrev pub HeldInUse : Type 0
HeldInUse =
    (limits : Bounds) (steps : List Step) → AreBounds limits → (actor : ℕ) (r : Ref) → Contains (held limits steps actor) r → IsInUse (run limits steps).heap r

-- each reference that stands in a root word, in a private list or in a slot in use does
abbrev pub StandingInUse : Type 0
StandingInUse =
    (limits : Bounds) (steps : List Step) → AreBounds limits →
    ((handle : ℕ) (r : Ref) → Contains (refs_of_root (root_at (run limits steps) handle)) r → IsInUse (run limits steps).heap r)
    × ((actor : ℕ) (operation : Operation) (r : Ref) → operation_of (run limits steps) actor ≡ Some operation → Contains operation.private r → IsInUse (run limits steps).heap r)
    × ((q r : Ref) → Contains (refs_of_slot (stored (run limits steps).heap q)) r → IsInUse (run limits steps).heap r)

-- ---- births

-- a reference that is drawn for a new slot was never in use before
abbrev pub DrawnOnce : Type 0
DrawnOnce =
    (limits : Bounds) (before since : List Step) (r : Ref) → AreBounds limits → next_ref (run limits (before ++ since)).heap ≡ Some r →
    ¬ IsInUse (run limits before).heap r

-- the node is the same, but for the main word of an indirection
abbrev pub SameNode : Node → Node → Type 0
SameNode before after = (m : Ref) × (after ≡ with_main_word m before)

-- whenever something stands under a reference it is the same node
abbrev pub OneNodeForEver : Type 0
OneNodeForEver =
    (limits : Bounds) (steps more : List Step) (r : Ref) (was now : Slot) → AreBounds limits → standing (run limits steps).heap r ≡ Some was →
    standing (run limits (steps ++ more)).heap r ≡ Some now → SameNode was.node now.node

-- ---- look-ups

-- what a running operation's line takes its references for they are, and so is what its step touches
abbrev pub LinesFind : Type 0
LinesFind =
    (limits : Bounds) (steps : List Step) (actor : ℕ) (operation : Operation) → AreBounds limits → operation_of (run limits steps) actor ≡ Some operation →
    AllHold (IsInUse (run limits steps).heap) (run limits steps).heap (line_wants limits.hash operation.call operation.access operation.line)
    × AllHold (IsInUse (run limits steps).heap) (run limits steps).heap (action_wants (action_of (run limits steps) operation))

-- what stands in a slot in use or a root word is what it is taken for there
abbrev pub NodesFind : Type 0
NodesFind =
    (limits : Bounds) (steps : List Step) → AreBounds limits →
    ((r : Ref) (slot : Slot) → standing (run limits steps).heap r ≡ Some slot →
    AllHold (IsInUse (run limits steps).heap) (run limits steps).heap (node_wants slot.node ++ prev_wants slot.prev) × (is_formed slot.node ≡ true))
    × ((handle : ℕ) (root : Root) → root_at (run limits steps) handle ≡ Some root → AllHold (IsInUse (run limits steps).heap) (run limits steps).heap (word_wants root.word))

-- the line is the end of an operation
abbrev pub is_end : Line → Bool
is_end (line.End answer) = true
is_end l = false

-- the line comes after a first line that gave a root
abbrev pub is_past_root : Line → Bool
is_past_root (line.Root l) = false
is_past_root (line.Walk l) = false
is_past_root (line.End answer) = false
is_past_root line.Impossible = false
is_past_root l = true

-- the handle of an operation is open until its end, and past the first line it knows the generation of its root
abbrev pub RootsFind : Type 0
RootsFind =
    (limits : Bounds) (steps : List Step) (actor : ℕ) (operation : Operation) → AreBounds limits → operation_of (run limits steps) actor ≡ Some operation →
    ((is_end operation.line || is_some (root_at (run limits steps) (handle_of operation.call))) ≡ true)
    × (is_past_root operation.line ≡ true → is_some operation.generation ≡ true)

-- no operation comes to the impossible line
abbrev pub NeverImpossible : Type 0
NeverImpossible =
    (limits : Bounds) (steps : List Step) (actor : ℕ) (operation : Operation) → AreBounds limits → operation_of (run limits steps) actor ≡ Some operation →
    ¬ (operation.line ≡ line.Impossible)

-- ---- counts

-- a slot in use to which nothing refers
abbrev pub IsZero : State → Ref → Type 0
IsZero state r = IsInUse state.heap r × (count_of state.heap (outside state) r ≡ 0)

-- limbo has the slots in use to which nothing refers
abbrev pub LimboIsExact : Type 0
LimboIsExact =
    (limits : Bounds) (steps : List Step) (r : Ref) → AreBounds limits →
    (IsZero (run limits steps) r → Contains (map (λ z. z.at) (run limits steps).limbo) r) × (Contains (map (λ z. z.at) (run limits steps).limbo) r → IsZero (run limits steps) r)

-- each became zero in the epoch of the one before it or later
abbrev pub IsRising : List Zeroed → Type 0
IsRising [] = Unit {0}
IsRising (z ∷ limbo) = All (λ y. z.epoch ≤ y.epoch) limbo × IsRising limbo

-- limbo's epochs rise and lie in the last three
abbrev pub LimboIsRecent : Type 0
LimboIsRecent =
    (limits : Bounds) (steps : List Step) → AreBounds limits →
    IsRising (run limits steps).limbo × All (λ z. (z.epoch ≤ (run limits steps).epoch) × ((run limits steps).epoch ≤ z.epoch + 2)) (run limits steps).limbo

-- A slot that is in use no more after a step was freed by the sweep; nothing referred to it since a state whose epoch is two less than the present one, or
-- still less.
abbrev pub FreedLate : Type 0
FreedLate =
    (limits : Bounds) (steps : List Step) (s : Step) (r : Ref) → AreBounds limits → IsInUse (run limits steps).heap r → ¬ IsInUse (next_state (run limits steps) s).heap r →
    (s ≡ Sweep)
    × ((before since : List Step) × (steps ≡ before ++ since) × ((run limits before).epoch + 2 ≤ (run limits steps).epoch)
    × ((a b : List Step) → since ≡ a ++ b → IsZero (run limits (before ++ a)) r))

-- ---- the sweep

-- a step of the sweep leaves the contents of all open handles alone, and nothing is recorded of it
abbrev pub SweepLeaves : Type 0
SweepLeaves =
    (limits : Bounds) (steps : List Step) → AreBounds limits →
    ((handle : ℕ) (root : Root) → root_at (run limits steps) handle ≡ Some root →
    (root_at (next_state (run limits steps) Sweep) handle ≡ Some root) × (content_at (next_state (run limits steps) Sweep) handle ≡ content_at (run limits steps) handle))
    × (next_record (run limits steps) (record_of limits steps) Sweep ≡ record_of limits steps)
