-- Where a try stands, as the definition's lines.
use Rattle.std.specs.Prelude.{ℕ, List, Option}
use Rattle.key_change.specs.Beneath.slot_arena.specs.declared.refs.Ref.{Ref}
use Rattle.key_change.specs.Beneath.machine_model.specs.declared.finding.KeyLine.TheVariants as key
use Rattle.key_change.specs.Beneath.machine_model.specs.declared.lines.Line.{Line}
use Rattle.key_change.specs.Beneath.machine_model.specs.declared.lines.Line.TheVariants as line
use Rattle.key_change.specs.Beneath.machine_model.specs.declared.lines.Purpose.TheVariants as purpose
use Rattle.key_change.specs.Beneath.gcas.specs.declared.swap.Swap.{Swap}
use Rattle.key_change.specs.Beneath.gcas.specs.Swaps.{swap_of}
use Rattle.key_change.specs.declared.change.Change.{Change}
use Rattle.key_change.specs.declared.change.ChangeAt.{ChangeAt}
use Rattle.key_change.specs.declared.change.ChangeAt.TheVariants as at
use Rattle.key_change.specs.Built.{build_line}

abbrev pub line_at : List Ref → Swap → Option ℕ → Ref → ChangeAt → Line
line_at path s root_seen main (at.Sibling position former) = line.Key (key.Sibling path main position former)
line_at path s root_seen main (at.Build building) = line.Build (build_line path main building)
line_at path s root_seen main (at.Swap former) = line.Swap (purpose.Update path former) (swap_of s root_seen)

-- the definition's line of a try at the end of this path, whose SWAP was told this of the root's generation
abbrev pub line_of : List Ref → Swap → Option ℕ → Change → Line
line_of path s root_seen change = line_at path s root_seen change.main change.at
