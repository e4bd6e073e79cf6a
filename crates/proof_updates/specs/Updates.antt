-- What the steps of a run do to its trie, and what operations find in it.
use Rattle.std.specs.Prelude.{◌≡◌, ◌≢◌, ℕ, suc, ◌<◌, ◌≤◌, false, List, [], Option, Some}
use Rattle.proof_updates.specs.Vocabulary.{hash_of, Writable, Reply, Ref, KeyLine, Operation, Bounds, Outcome, Step, key_of, changed_reply, action_of, current, State, operation_of, Moves, is_placed}
use Rattle.proof_updates.specs.Vocabulary.{Record, moment_at, Trie, content, Updates, Looks, main_of_key, entered_by_step, Replied, OwnCommit, assigned_at, Notes}
use Rattle.proof_updates.specs.Beneath.history.specs.declared.replies.Reply.TheVariants as reply
use Rattle.proof_updates.specs.Beneath.machine_model.specs.declared.actions.Action.TheVariants as act
use Rattle.proof_updates.specs.Beneath.machine_model.specs.declared.lines.Line.TheVariants as line
use Rattle.proof_updates.specs.Beneath.machine_model.specs.declared.lines.Purpose.TheVariants as purpose
use Rattle.proof_updates.specs.Beneath.machine_model.specs.declared.steps.Step.TheVariants as step
use Rattle.proof_updates.specs.Beneath.proof_contents.specs.Steps.{Does}
use Rattle.proof_order.specs.Facts.{act_in, Update}
use Rattle.proof_updates.specs.Paths.{LiesOn, path_of}

-- each step leaves the main nodes, repairs one, or updates a key in one
abbrev pub StepsDo : Trie → Type 0
StepsDo trie = (t : ℕ) → t < trie.last → Does trie t

-- ---- paths

-- the path of an operation on a writable handle lies on its key's path, in the generation of its root
abbrev pub PathsLie : (ℕ → State) → ℕ → Trie → Type 0
PathsLie states last trie =
    (t actor g : ℕ) (operation : Operation) (p : List Ref) → t ≤ last → operation_of (states t) actor ≡ Some operation → operation.access ≡ Writable →
    operation.generation ≡ Some g → path_of operation.line ≡ Some p → LiesOn trie t g (key_of operation.call) p

-- where KEY was given a main node it was that of the path's end just behind the operation's moment
abbrev pub KeysLook : (ℕ → State) → (ℕ → Record) → ℕ → Trie → Type 0
KeysLook states records last trie =
    (t actor g : ℕ) (operation : Operation) (l : KeyLine) (main : Ref) → t ≤ last → operation_of (states t) actor ≡ Some operation → operation.access ≡ Writable →
    operation.generation ≡ Some g → operation.line ≡ line.Key l → main_of_key l ≡ Some main →
    (p : List Ref) × (path_of operation.line ≡ Some p) × ((moment_at (records t) actor).moment < t) × Looks trie (suc (moment_at (records t) actor).moment) g (key_of operation.call) (current p) main

-- ---- own updates

-- a step that commits an operation's change of its key is an own update of that key, in the generation of the operation's root
abbrev pub UpdatesAt : Bounds → (ℕ → State) → (ℕ → Record) → ℕ → Trie → Type 0
UpdatesAt limits states records last trie =
    (t : ℕ) (s : Step) → t < last → (own : OwnCommit limits states records last (assigned_at states last) t s) → (path : List Ref) (former : Option ℕ) → own.why ≡ purpose.Update path former →
    Updates trie t own.start own.owner.call former

-- so the call leads the content of that generation on, with the reply for the former value, and every other content stays
abbrev pub UpdatesAct : Bounds → (ℕ → State) → (ℕ → Record) → ℕ → Trie → Type 0
UpdatesAct limits states records last trie =
    (t : ℕ) (s : Step) → t < last → (own : OwnCommit limits states records last (assigned_at states last) t s) → (path : List Ref) (former : Option ℕ) → own.why ≡ purpose.Update path former →
    (act_in (hash_of limits.hash) Writable own.owner.call (content trie own.start t) ≡ Some (changed_reply own.owner.call former, content trie own.start (suc t)))
    × ((other : ℕ) → other ≢ own.start → content trie other (suc t) ≡ content trie other t)

-- a step that commits no own update leaves all contents
abbrev pub StepsKeep : (ℕ → State) → (ℕ → Record) → ℕ → Trie → Type 0
StepsKeep states records last trie =
    (t : ℕ) (s : Step) (o : Outcome) → t < last → Moves (states t) s o (states (suc t)) → Notes states records t s → entered_by_step (records t) (states t) s ≡ [] →
    (g : ℕ) → content trie g (suc t) ≡ content trie g t

-- and one that commits an own update is such an update for the order
abbrev pub UpdatesFollow : Bounds → (ℕ → State) → (ℕ → Record) → ℕ → Trie → Type 0
UpdatesFollow limits states records last trie =
    (t : ℕ) (s : Step) (o : Outcome) → t < last → Moves (states t) s o (states (suc t)) → Notes states records t s → entered_by_step (records t) (states t) s ≢ [] →
    Update limits states records last (content trie) t (entered_by_step (records t) (states t) s)

-- ---- replies

-- an operation that ends without a place, but for want of slots, was answered by the content just behind its moment
abbrev pub RepliesRight : Bounds → (ℕ → State) → (ℕ → Record) → ℕ → Trie → Type 0
RepliesRight limits states records last trie =
    (t actor : ℕ) (operation : Operation) (answer : Reply) (o : Outcome) → t < last → Moves (states t) (step.Go actor) o (states (suc t)) → Notes states records t (step.Go actor) →
    operation_of (states t) actor ≡ Some operation → action_of (states t) operation ≡ act.End answer → answer ≢ reply.NoSlots →
    is_placed (records t) operation.id ≡ false → Replied limits states records last (content trie) operation (moment_at (records t) actor).moment answer
