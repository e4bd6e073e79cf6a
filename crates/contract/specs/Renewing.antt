-- A RENEW of the code as the definition's, and what a step of it comes to.
use Rattle.std.specs.Prelude.{ℕ, ◌<◌, nat_lt, List, length, Option, if◌then◌else◌}
use Rattle.contract.specs.Beneath.history.specs.declared.replies.Reply.TheVariants as reply
use Rattle.contract.specs.Vocabulary.{Ref, Indirection, Heap, bitmap_of, node_at, renewed, Line, new_try, impossible, current, reading, CanReadOn, swap_of, CanSwapOn, Work, CanMake}
use Rattle.contract.specs.Beneath.machine_model.specs.declared.finding.KeyLine.TheVariants as key
use Rattle.contract.specs.Beneath.machine_model.specs.declared.lines.Line.TheVariants as line
use Rattle.contract.specs.Beneath.machine_model.specs.declared.lines.Purpose.TheVariants as purpose
use Rattle.contract.specs.Beneath.machine_model.specs.declared.repairs.RenewLine.TheVariants as renew
use Rattle.contract.specs.Beneath.gcas.specs.declared.swap.Swap.{Swap}
use Rattle.contract.specs.Beneath.gcas.specs.Reads.{read_of}
use Rattle.contract.specs.declared.renew.Renew.{Renew}
use Rattle.contract.specs.declared.renew.RenewAt.{RenewAt}
use Rattle.contract.specs.declared.renew.RenewAt.TheVariants as at
use Rattle.contract.specs.declared.renew.Renewed.{Renewed as Outcome}
use Rattle.contract.specs.declared.renew.Renewed.TheVariants.{Renewed, Lost, NoSlots, Impossible}

-- ---- where it stands

abbrev pub renew_line_at : List Ref → Swap → Option ℕ → Ref → List Ref → RenewAt → Line
renew_line_at path s root_seen main done at.Entry = line.Renew (renew.Entry path main done)
renew_line_at path s root_seen main done at.Read = line.Renew (renew.Read path main done (read_of s.read root_seen))
renew_line_at path s root_seen main done (at.Link child) = line.Renew (renew.Link path main done child)
renew_line_at path s root_seen main done at.Branch = line.Renew (renew.Branch path main done)
renew_line_at path s root_seen main done at.Swap = line.Swap (purpose.Renew path) (swap_of s root_seen)

-- the definition's line of a renewing of the node at the end of this path, whose READ and SWAP were told this of the root's generation
abbrev pub renew_line : List Ref → Swap → Option ℕ → Renew → Line
renew_line path s root_seen r = renew_line_at path s root_seen r.main r.done.items r.at

-- the line of the next entry behind those that are done, of a branch of so many; where all are done, that of the new branch
abbrev pub next_of : ℕ → List Ref → Ref → List Ref → Line
next_of entries path main done = if nat_lt (length done) entries then line.Renew (renew.Entry path main done) else line.Renew (renew.Branch path main done)

-- the definition's line after a renewing that came to this
abbrev pub line_behind : List Ref → Outcome → Line
line_behind path Renewed = line.Key (key.Read path (reading (current path)))
line_behind path Lost = new_try
line_behind path NoSlots = line.End reply.NoSlots
line_behind path Impossible = impossible

-- ---- what it asks

abbrev pub CanRenewAt : Heap → Work → Ref → List Ref → RenewAt → Type 0
CanRenewAt heap w main done at.Entry = length done < 32
CanRenewAt heap w main done at.Read = CanReadOn heap w.swap.read
CanRenewAt heap w main done (at.Link child) = CanMake heap w.private (Indirection 0 child) × (length done < 32)
CanRenewAt heap w main done at.Branch = CanMake heap w.private (renewed (bitmap_of (node_at heap main)) done)
CanRenewAt heap w main done at.Swap = CanSwapOn heap w.swap

-- what a READ or SWAP is going to change, and what the new node is to refer to, is in use, and of its kind; what makes a node, or puts an entry to those that are done, has
-- room for it
abbrev pub CanRenew : Heap → Work → Renew → Type 0
CanRenew heap w r = CanRenewAt heap w r.main r.done.items r.at
