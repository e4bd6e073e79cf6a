-- Where a call on one key stands, as the definition's lines.
use Rattle.std.specs.Prelude.{ℕ, List, Option, Some, None}
use Rattle.operate.specs.Vocabulary.{Reply, Ref, Line, Operation, climbing, climbed, impossible, above, clean_line, climb_line, climb_of, renew_line, Tried, Changed, reply_of}
use Rattle.operate.specs.Beneath.machine_model.specs.declared.finding.KeyLine.TheVariants as key
use Rattle.operate.specs.Beneath.machine_model.specs.declared.lines.Line.TheVariants as line
use Rattle.operate.specs.Beneath.machine_model.specs.declared.repairs.ClimbLine.TheVariants as climb
use Rattle.operate.specs.Beneath.gcas.specs.Reads.{read_of}
use Rattle.operate.specs.Beneath.rdcss_root.specs.Programs.{root_of}
use Rattle.operate.specs.Beneath.key_change.specs.Lines.{line_of as change_line}
use Rattle.operate.specs.declared.key_op.KeyOp.{KeyOp}
use Rattle.operate.specs.declared.key_op.KeyAt.{KeyAt}
use Rattle.operate.specs.declared.key_op.KeyAt.TheVariants.{Root, RootAgain, Down}
use Rattle.operate.specs.declared.key_op.BelowAt.{BelowAt}
use Rattle.operate.specs.declared.key_op.BelowAt.TheVariants as at

abbrev pub below_line : KeyOp → Option ℕ → BelowAt → Line
below_line op root_seen at.Read = line.Key (key.Read op.path (read_of op.work.swap.read root_seen))
below_line op root_seen (at.Main main) = line.Key (key.Main op.path main)
below_line op root_seen (at.Entry main position) = line.Key (key.Entry op.path main position)
below_line op root_seen (at.Listed main position) = line.Key (key.Listed op.path main position)
below_line op root_seen at.Change = change_line op.path op.work.swap root_seen op.change
below_line op root_seen at.Renew = renew_line op.path op.work.swap root_seen op.renew
below_line op root_seen at.Clean = clean_line (above op.path) op.work.swap root_seen op.clean
below_line op root_seen at.Climb = climb_line op.path op.work.swap root_seen op.climb
below_line op root_seen at.End = line.End (reply_of op.reply)
below_line op root_seen at.Impossible = impossible

abbrev pub key_line_at : KeyOp → Option ℕ → KeyAt → Line
key_line_at op root_seen Root = line.Root (root_of op.root op.work.swap.read root_seen)
key_line_at op root_seen RootAgain = line.Climb (climb.Root (climb_of op.path op.climb) (root_of op.root op.work.swap.read root_seen))
key_line_at op root_seen (Down place) = below_line op root_seen place

-- the definition's line of a call whose READ was told this of the root's generation
abbrev pub key_line : KeyOp → Option ℕ → Line
key_line op root_seen = key_line_at op root_seen op.at

-- the definition's line after a change was committed, of a main node that is a tomb of this single, if it is one
abbrev pub changed_line : Operation → List Ref → Option ℕ → Option Ref → Line
changed_line operation path former None = climbed operation former
changed_line operation path former (Some single) = climbing operation (record { path = path; single = single; former = former })

-- the value before of a key that a try changed
abbrev pub former_of : Tried → Option ℕ
former_of (Changed former) = former
former_of tried = None

-- the reply with which an operation on this line ends next, if it does
abbrev pub answer_of : Line → Option Reply
answer_of (line.End answer) = Some answer
answer_of l = None
