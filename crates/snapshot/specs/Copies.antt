-- A COPY of the code as the definition's, and what a step of it comes to.
use Rattle.std.specs.Prelude.{◌≡◌, ℕ, ◌+◌, ◌<◌, ◌≤◌, ◌^◌, List, Option}
use Rattle.snapshot.specs.Vocabulary.{Ref, Node, Indirection, AreLive, empty_branch, times, Action, CopyLine, Line, Operation, Root, Offer, refs_of_word, line_action, generation_from, State}
use Rattle.snapshot.specs.Beneath.epochs.specs.Memories.{Memory}
use Rattle.snapshot.specs.Beneath.machine_model.specs.declared.copying.CopyLine.TheVariants as copy
use Rattle.snapshot.specs.Beneath.machine_model.specs.declared.lines.Line.TheVariants as line
use Rattle.snapshot.specs.Beneath.gcas.specs.declared.next.Next.{Next}
use Rattle.snapshot.specs.Beneath.gcas.specs.declared.next.Next.TheVariants.{More, AskRoot, Done}
use Rattle.snapshot.specs.Beneath.gcas.specs.declared.read.Read.{Read}
use Rattle.snapshot.specs.Beneath.gcas.specs.Reads.{read_of, CanReadOn}
use Rattle.snapshot.specs.Beneath.trie_parts.specs.Here.{no_state, no_operation}
use Rattle.snapshot.specs.Beneath.trie_parts.specs.declared.work.Work.{Work}
use Rattle.snapshot.specs.Beneath.trie_parts.specs.Steps.{CanMake}
use Rattle.snapshot.specs.Beneath.rdcss_root.specs.Holding.{root_refs}
use Rattle.snapshot.specs.Beneath.rdcss_root.specs.Programs.{root_of, complete_of, CanRootOn, CanCompleteOn, ReadsItsRoot, ReadsOffered}
use Rattle.snapshot.specs.Beneath.rdcss_root.specs.Tables.{Table}
use Rattle.snapshot.specs.declared.copy_op.Making.{Making}
use Rattle.snapshot.specs.declared.copy_op.Making.TheVariants as making
use Rattle.snapshot.specs.declared.copy_op.CopyOp.{CopyOp}
use Rattle.snapshot.specs.declared.copy_op.CopyAt.{CopyAt}
use Rattle.snapshot.specs.declared.copy_op.CopyAt.TheVariants as at
use Rattle.snapshot.specs.declared.tasks.CopyReply.{CopyReply}
use Rattle.snapshot.specs.Tasks.{reply_of}

-- ---- where it stands

-- the definition's line of what is to be made for the swap of this root
abbrev pub making_line : Ref → Making → CopyLine
making_line root (making.Successor main) = copy.Successor root main
making_line root (making.Second main successor) = copy.Second root main successor
making_line root (making.Empty main) = copy.Empty root main
making_line root (making.Cleared main branch) = copy.Cleared root main branch

-- the node that is made; a new root is of this generation
abbrev pub made_node : ℕ → Making → Node
made_node generation (making.Successor main) = Indirection generation main
made_node generation (making.Second main successor) = Indirection generation main
made_node generation (making.Empty main) = empty_branch
made_node generation (making.Cleared main branch) = Indirection generation branch

abbrev pub copy_line_at : Ref → Read → Option ℕ → CopyAt → Line
copy_line_at root r root_seen (at.Root l) = line.Root (root_of l r root_seen)
copy_line_at root r root_seen at.Read = line.Copy (copy.Read root (read_of r root_seen))
copy_line_at root r root_seen (at.Make m) = line.Copy (making_line root m)
copy_line_at root r root_seen (at.Offer offer) = line.Copy (copy.Offer offer.descriptor)
copy_line_at root r root_seen (at.Complete c) = line.Copy (copy.Complete (complete_of c r root_seen))

-- the definition's line of a snapshot, freeze or clear whose READ was told this of the root's generation
abbrev pub copy_line : Read → Option ℕ → CopyOp → Line
copy_line r root_seen s = copy_line_at s.root r root_seen s.at

-- what its step does
abbrev pub action_on : Line → Action
action_on l = line_action no_state no_operation l

-- the definition's line after one that has answered this
abbrev pub line_behind : CopyReply → Line
line_behind answer = line.End (reply_of answer)

-- The generation of the root that ROOT gave last, before a step from this line and behind it.
abbrev pub KeepsGeneration : State → Operation → Line → Option ℕ → Option ℕ → Next CopyReply → Type 0
KeepsGeneration state operation l before after (More k) = after ≡ generation_from state (record operation { generation = before }) l
KeepsGeneration state operation l before after AskRoot = after ≡ before
KeepsGeneration state operation l before after (Done k answer) = after ≡ generation_from state (record operation { generation = before }) l

-- ---- what it asks

-- the private list and what stands in root words is held, and what is put there can be held too
pub record IsReadyBeside (memory : Memory) (roots : List (Option Root)) (private : List Ref) : Type 0 where
  pub held : (r : Ref) → times r private + times r (root_refs roots) ≤ times r memory.outside
  pub room : (r : Ref) → times r memory.outside + 8 < 2 ^ 31

abbrev pub CanCopyAt : Memory → Table → Work → ℕ → CopyAt → Type 0
CanCopyAt memory table w generation (at.Root l) = CanRootOn memory table l w.swap.read
CanCopyAt memory table w generation at.Read = CanReadOn memory.heap w.swap.read
CanCopyAt memory table w generation (at.Make m) = CanMake memory.heap w.private (made_node generation m)
CanCopyAt memory table w generation (at.Offer offer) = AreLive memory.heap (refs_of_word (Offer offer.descriptor))
CanCopyAt memory table w generation (at.Complete c) = CanCompleteOn memory table c w.swap.read

-- what is going to be changed, or referred to, is in use, and of its kind; what makes a node has room for it; a new root is of this generation
abbrev pub CanCopy : Memory → Table → Work → ℕ → CopyOp → Type 0
CanCopy memory table w generation s = CanCopyAt memory table w generation s.at

-- where it completes an offer its READ is that of the root which is to be swapped
abbrev pub ReadsAt : CopyAt → Read → Type 0
ReadsAt (at.Root l) r = ReadsItsRoot l r
ReadsAt at.Read r = Unit {0}
ReadsAt (at.Make m) r = Unit {0}
ReadsAt (at.Offer offer) r = Unit {0}
ReadsAt (at.Complete c) r = ReadsOffered c.at c.offer r

-- so it stands behind a step, unless that was the last one
abbrev pub ReadsFor : Next CopyReply → CopyOp → Read → Type 0
ReadsFor (More k) s r = ReadsAt s.at r
ReadsFor AskRoot s r = Unit {0}
ReadsFor (Done k answer) s r = Unit {0}
