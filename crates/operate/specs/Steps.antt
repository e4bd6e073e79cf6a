-- What a step of a call on one key comes to, does and asks.
use Rattle.std.specs.Prelude.{◌≡◌, ◌<◌, ℕ, List, length, Option, None}
use Rattle.operate.specs.Vocabulary.{Kind, Ref, Heap, Line, Operation, Root, RootWord, handle_of, generation_from, line_action, above, State, word_at, Next, More, AskRoot, Done, ReadAt, CanReadOn}
use Rattle.operate.specs.Vocabulary.{Task, at_heap, StepsOn, ActsInAll, CanRootOn, ReadsItsRoot, rooted_at, Table, CanChange, CanClean, CanClimb, CanRenew, KeyReply, reply_of}
use Rattle.operate.specs.Beneath.epochs.specs.Memories.{Memory}
use Rattle.operate.specs.Beneath.machine_model.specs.declared.lines.Line.TheVariants as line
use Rattle.operate.specs.Beneath.gcas.specs.declared.read.Read.{Read}
use Rattle.operate.specs.Beneath.gcas.specs.Reads.{committed_so}
use Rattle.operate.specs.Beneath.trie_parts.specs.Holding.{Acts}
use Rattle.operate.specs.Beneath.trie_parts.specs.Tasks.{for_task}
use Rattle.operate.specs.Beneath.rdcss_root.specs.declared.root.ReadRoot.{ReadRoot}
use Rattle.operate.specs.declared.key_op.KeyOp.{KeyOp}
use Rattle.operate.specs.declared.key_op.KeyAt.{KeyAt}
use Rattle.operate.specs.declared.key_op.KeyAt.TheVariants as op
use Rattle.operate.specs.declared.key_op.BelowAt.{BelowAt}
use Rattle.operate.specs.declared.key_op.BelowAt.TheVariants as at
use Rattle.operate.specs.Places.{key_line}

-- the definition's line after one that has answered this
abbrev pub line_behind : KeyReply → Line
line_behind answer = line.End (reply_of answer)

-- the operation, whatever else it has, of this call
abbrev pub operation_for : KeyOp → Operation → Operation
operation_for op operation = for_task op.task op.work.swap.read.access operation

-- ---- what a step comes to, whatever else stands in the state and in the operation

abbrev pub KeySteps : Heap → KeyOp → Line → KeyOp → Next KeyReply → Type 0
KeySteps heap op before after next =
    (state : State) → (operation : Operation) →
    StepsOn (at_heap state heap op.task.hashes) (operation_for op operation) before (key_line after None) after.work.swap.read.at line_behind next

-- the same for a step that may look at the root word
abbrev pub RootSteps : Heap → RootWord → KeyOp → Line → KeyOp → Next KeyReply → Type 0
RootSteps heap word op before after next =
    (state : State) → (operation : Operation) → word_at state (handle_of operation.call) ≡ word →
    StepsOn (at_heap state heap op.task.hashes) (operation_for op operation) before (key_line after None) after.work.swap.read.at line_behind next

-- the generation of the root that ROOT gave last, before a step from this line and behind it
abbrev pub KeepsGeneration : Heap → RootWord → KeyOp → Line → Task → Next KeyReply → Type 0
KeepsGeneration heap word op before after (More k) =
    (state : State) → (operation : Operation) → word_at state (handle_of operation.call) ≡ word →
    after.generation ≡ generation_from (at_heap state heap op.task.hashes) (operation_for op operation) before
KeepsGeneration heap word op before after AskRoot = after.generation ≡ op.task.generation
KeepsGeneration heap word op before after (Done k answer) =
    (state : State) → (operation : Operation) → word_at state (handle_of operation.call) ≡ word →
    after.generation ≡ generation_from (at_heap state heap op.task.hashes) (operation_for op operation) before

-- a READ that stands there has committed nothing by a step, if one that stands here hasn't
abbrev pub CommitsNoMore : ReadAt → ReadAt → Type 0
CommitsNoMore place place' = (k : Kind) → committed_so k place ≡ None → committed_so k place' ≡ None

-- ---- what it does

abbrev pub KeyActs : Memory → KeyOp → Line → Memory → List Ref → Type 0
KeyActs before op l after private' =
    (state : State) → (operation : Operation) →
    Acts before op.work.private (line_action (at_heap state before.heap op.task.hashes) (operation_for op operation) l) after private'

abbrev pub RootActs : Memory → List (Option Root) → KeyOp → Line → Memory → List (Option Root) → List Ref → Type 0
RootActs before roots op l after roots' private' =
    (state : State) → (operation : Operation) →
    ActsInAll before roots op.work.private (line_action (at_heap state before.heap op.task.hashes) (operation_for op operation) l) after roots' private'

-- the table of root words behind a step: only ROOT changes it, where it completes an offer
abbrev pub table_at : Table → ℕ → ReadRoot → KeyAt → Table
table_at table handle r op.Root = rooted_at table handle r
table_at table handle r op.RootAgain = rooted_at table handle r
table_at table handle r (op.Down place) = table

abbrev pub table_after : Table → ℕ → KeyOp → Table
table_after table handle o = table_at table handle o.root o.at

-- ---- what it asks of the heap and of the root words

abbrev pub CanBelow : Heap → KeyOp → BelowAt → Type 0
CanBelow heap o at.Read = CanReadOn heap o.work.swap.read
CanBelow heap o (at.Main main) = Unit {0}
CanBelow heap o (at.Entry main position) = length o.path < 14
CanBelow heap o (at.Listed main position) = Unit {0}
CanBelow heap o at.Change = CanChange heap o.task o.path o.work o.change
CanBelow heap o at.Renew = CanRenew heap o.work o.renew
CanBelow heap o at.Clean = CanClean heap (above o.path) o.work o.clean
CanBelow heap o at.Climb = CanClimb heap o.task o.path o.work o.climb
CanBelow heap o at.End = Unit {0}
CanBelow heap o at.Impossible = Unit {0}

abbrev pub CanKeyAt : Memory → Table → KeyOp → KeyAt → Type 0
CanKeyAt memory table o op.Root = CanRootOn memory table o.root o.work.swap.read
CanKeyAt memory table o op.RootAgain = CanRootOn memory table o.root o.work.swap.read
CanKeyAt memory table o (op.Down place) = CanBelow memory.heap o place

-- what is going to be changed, or referred to, is in use, and of its kind; what makes a node, goes one further down, or puts an entry to those that are done, has room for it
abbrev pub CanKey : Memory → Table → KeyOp → Type 0
CanKey memory table o = CanKeyAt memory table o o.at

-- where ROOT completes an offer its READ is that of the root which is to be swapped
abbrev pub ReadsAt : ReadRoot → Read → KeyAt → Type 0
ReadsAt r read op.Root = ReadsItsRoot r read
ReadsAt r read op.RootAgain = ReadsItsRoot r read
ReadsAt r read (op.Down place) = Unit {0}

abbrev pub ReadsKey : KeyOp → Type 0
ReadsKey o = ReadsAt o.root o.work.swap.read o.at
