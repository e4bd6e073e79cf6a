-- A CLEAN of the code as the definition's, and what a step of it comes to.
use Rattle.std.specs.Prelude.{◌≡◌, ◌<◌, ℕ, List, length, Option}
use Rattle.contract.specs.Beneath.ctrie_base.specs.declared.kinds.Kind.TheVariants as kind
use Rattle.contract.specs.Beneath.history.specs.declared.replies.Reply.TheVariants as reply
use Rattle.contract.specs.Vocabulary.{Ref, Heap, Line, cleaned, new_try, impossible, Low, Next, More, AskRoot, Done, CanReadOn, swap_of, CanSwapOn, at_heap, no_state, Work, CanMake}
use Rattle.contract.specs.Beneath.machine_model.specs.declared.lines.Line.TheVariants as line
use Rattle.contract.specs.Beneath.machine_model.specs.declared.lines.Purpose.TheVariants as purpose
use Rattle.contract.specs.Beneath.machine_model.specs.declared.repairs.CleanLine.TheVariants as clean
use Rattle.contract.specs.Beneath.gcas.specs.declared.swap.Swap.{Swap}
use Rattle.contract.specs.Beneath.gcas.specs.Reads.{read_of}
use Rattle.contract.specs.declared.clean.Clean.{Clean}
use Rattle.contract.specs.declared.clean.CleanAt.{CleanAt}
use Rattle.contract.specs.declared.clean.CleanAt.TheVariants as at
use Rattle.contract.specs.declared.clean.Cleaned.{Cleaned as Outcome}
use Rattle.contract.specs.declared.clean.Cleaned.TheVariants.{Cleaned, NoSlots, Impossible}

-- ---- where it stands

abbrev pub clean_line_at : List Ref → Swap → Option ℕ → Ref → List Ref → CleanAt → Line
clean_line_at path s root_seen main done at.Read = line.Clean (clean.Read path (read_of s.read root_seen))
clean_line_at path s root_seen main done at.Main = line.Clean (clean.Main path main)
clean_line_at path s root_seen main done at.Entry = line.Clean (clean.Entry path main done)
clean_line_at path s root_seen main done at.Child = line.Clean (clean.Child path main done (read_of s.read root_seen))
clean_line_at path s root_seen main done (at.Tomb child) = line.Clean (clean.Tomb path main done child)
clean_line_at path s root_seen main done at.Contracted = line.Clean (clean.Contracted path main done)
clean_line_at path s root_seen main done at.Swap = line.Swap purpose.Clean (swap_of s root_seen)

-- the definition's line of a cleaning below the end of this path, whose READ and SWAP were told this of the root's generation
abbrev pub clean_line : List Ref → Swap → Option ℕ → Clean → Line
clean_line path s root_seen c = clean_line_at path s root_seen c.main c.done.items c.at

-- the definition's line after a cleaning that came to this
abbrev pub line_behind : Outcome → Line
line_behind Cleaned = new_try
line_behind NoSlots = line.End reply.NoSlots
line_behind Impossible = impossible

-- a look leads to this line: the program goes on with it, or comes to its end by it
abbrev pub GoesOn : Line → Line → Next Outcome → Type 0
GoesOn l after (More k) = (k ≡ kind.Look) × (l ≡ after)
GoesOn l after AskRoot = ⊥
GoesOn l after (Done k outcome) = (k ≡ kind.Look) × (l ≡ line_behind outcome)

-- ---- what it asks

abbrev pub CanCleanAt : Heap → List Ref → Work → Ref → List Ref → CleanAt → Type 0
CanCleanAt heap path w main done at.Read = CanReadOn heap w.swap.read
CanCleanAt heap path w main done at.Main = Unit {0}
CanCleanAt heap path w main done at.Entry = length done < 32
CanCleanAt heap path w main done at.Child = CanReadOn heap w.swap.read
CanCleanAt heap path w main done (at.Tomb child) = length done < 32
CanCleanAt heap path w main done at.Contracted = CanMake heap w.private (cleaned (at_heap no_state heap Low) path main done)
CanCleanAt heap path w main done at.Swap = CanSwapOn heap w.swap

-- what a READ or SWAP is going to change, and what the new node is to refer to, is in use, and of its kind; what makes a node, or puts an entry to those that are done, has
-- room for it
abbrev pub CanClean : Heap → List Ref → Work → Clean → Type 0
CanClean heap path w c = CanCleanAt heap path w c.main c.done.items c.at
