-- A CLIMB of the code as the definition's, and what a step of it comes to.
use Rattle.std.specs.Prelude.{ℕ, List, Option}
use Rattle.contract.specs.Vocabulary.{Ref, Node, Branch, Heap, Writable, Line, Operation, Climb as Defined, climbing, climbed, climbed_node, higher, impossible, CanReadOn, swap_of, CanSwapOn, Task}
use Rattle.contract.specs.Vocabulary.{at_heap, no_state, no_operation, Work, CanMake}
use Rattle.contract.specs.Beneath.machine_model.specs.declared.lines.Line.TheVariants as line
use Rattle.contract.specs.Beneath.machine_model.specs.declared.lines.Purpose.TheVariants as purpose
use Rattle.contract.specs.Beneath.machine_model.specs.declared.repairs.ClimbLine.TheVariants as climb
use Rattle.contract.specs.Beneath.machine_model.specs.declared.roots.RootLine.TheVariants as root
use Rattle.contract.specs.Beneath.gcas.specs.declared.swap.Swap.{Swap}
use Rattle.contract.specs.Beneath.gcas.specs.Reads.{read_of}
use Rattle.trie_parts.specs.Tasks.{for_task}
use Rattle.contract.specs.declared.climb.Climb.{Climb}
use Rattle.contract.specs.declared.climb.ClimbAt.{ClimbAt}
use Rattle.contract.specs.declared.climb.ClimbAt.TheVariants as at
use Rattle.contract.specs.declared.climb.Climbed.{Climbed as Outcome}
use Rattle.contract.specs.declared.climb.Climbed.TheVariants.{Higher, Climbed, Lost, Impossible}

-- ---- where it stands

-- the definition's climb from the end of this path
abbrev pub climb_of : List Ref → Climb → Defined
climb_of path c = record { path = path; single = c.single; former = c.former }

abbrev pub climb_line_at : Swap → Option ℕ → Defined → ClimbAt → Line
climb_line_at s root_seen c at.Read = line.Climb (climb.Read c (read_of s.read root_seen))
climb_line_at s root_seen c (at.Main main) = line.Climb (climb.Main c main)
climb_line_at s root_seen c (at.Contracted main) = line.Climb (climb.Contracted c main)
climb_line_at s root_seen c at.Swap = line.Swap (purpose.Climb c) (swap_of s root_seen)

-- the definition's line of a climb from the end of this path, whose READ and SWAP were told this of the root's generation
abbrev pub climb_line : List Ref → Swap → Option ℕ → Climb → Line
climb_line path s root_seen c = climb_line_at s root_seen (climb_of path c) c.at

-- the definition's line after a climb that came to this
abbrev pub line_behind : Operation → Defined → Outcome → Line
line_behind operation c (Higher single) = climbing operation (higher c single)
line_behind operation c Climbed = climbed operation c.former
line_behind operation c Lost = line.Climb (climb.Root c root.Read)
line_behind operation c Impossible = impossible

-- ---- what it asks

abbrev pub IsBranch : Node → Type 0
IsBranch (Branch bitmap entries) = Unit {0}
IsBranch node = ⊥

abbrev pub CanClimbAt : Heap → Task → Work → Defined → ClimbAt → Type 0
CanClimbAt heap task w c at.Read = CanReadOn heap w.swap.read
CanClimbAt heap task w c (at.Main main) = Unit {0}
CanClimbAt heap task w c (at.Contracted main) =
    CanMake heap w.private (climbed_node (at_heap no_state heap task.hashes) (for_task task Writable no_operation) c main)
CanClimbAt heap task w c at.Swap = CanSwapOn heap w.swap

-- what a READ or SWAP is going to change, and what the new node is to refer to, is in use, and of its kind; what makes a node has room for it
abbrev pub CanClimb : Heap → Task → List Ref → Work → Climb → Type 0
CanClimb heap task path w c = CanClimbAt heap task w (climb_of path c) c.at
