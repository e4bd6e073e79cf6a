-- COPY: a snapshot, a freeze or a clear offers to swap the root for a new one of a new generation, and completes
-- the offer.
use Rattle.std.specs.Prelude.{ℕ, ◌+◌, ◌||◌, Bool, true, false, Option, Some, None, unwrap_or, if◌then◌else◌}
use Rattle.history.specs.declared.calls.Call.{Call}
use Rattle.history.specs.declared.calls.Call.TheVariants.{Clear, Snapshot}
use Rattle.history.specs.declared.replies.Reply.{Reply}
use Rattle.history.specs.declared.replies.Reply.TheVariants as reply
use Rattle.machine_model.specs.Beneath.slot_arena.specs.declared.refs.Ref.{Ref}
use Rattle.machine_model.specs.declared.operations.Operation.{Operation}
use Rattle.machine_model.specs.declared.reading.After.{After}
use Rattle.machine_model.specs.declared.reading.After.TheVariants.{Goes, Gives}
use Rattle.machine_model.specs.declared.reading.Read.{Read}
use Rattle.machine_model.specs.declared.roots.Complete.{Complete}
use Rattle.machine_model.specs.declared.roots.Descriptor.{Descriptor}
use Rattle.machine_model.specs.declared.copying.CopyLine.{CopyLine}
use Rattle.machine_model.specs.declared.copying.CopyLine.TheVariants as copy
use Rattle.machine_model.specs.declared.lines.Line.{Line}
use Rattle.machine_model.specs.declared.lines.Line.TheVariants as line
use Rattle.machine_model.specs.declared.actions.Action.{Action}
use Rattle.machine_model.specs.declared.actions.Action.TheVariants as act
use Rattle.machine_model.specs.Beneath.slot_arena.specs.Heaps.{empty_branch, next_ref}
use Rattle.machine_model.specs.Calls.{handle_of}
use Rattle.machine_model.specs.States.{State, word_at}
use Rattle.machine_model.specs.Reading.{read_action, read_step}
use Rattle.machine_model.specs.Swapping.{completing, complete_action, complete_after, is_plain}
use Rattle.machine_model.specs.Lines.{new_try, impossible}

-- what its step does
abbrev pub copy_action : CopyLine → Action
copy_action (copy.Read root read) = read_action read.indirection read.line
copy_action (copy.Successor root main) = act.MakeRoot main
copy_action (copy.Second root main successor) = act.MakeRoot main
copy_action (copy.Empty root main) = act.Make empty_branch
copy_action (copy.Cleared root main branch) = act.MakeRoot branch
copy_action (copy.Offer offer) = act.Offer offer
copy_action (copy.Complete c) = complete_action c

-- the operation's next offer
abbrev pub offering : Operation → Ref → Ref → Ref → Option Ref → Line
offering operation root main successor second = line.Copy (copy.Offer (record {
  operation = operation.id;
  attempt = operation.attempt + 1;
  root = root;
  expected = main;
  successor = successor;
  second = second;
  opens = operation.opens;
}))

-- a clear makes an empty branch first
abbrev pub after_given : Call → Ref → Ref → Line
after_given (Clear h) root main = line.Copy (copy.Empty root main)
after_given call root main = line.Copy (copy.Successor root main)

abbrev pub copy_after_read : Operation → Ref → After Read Ref → Line
copy_after_read operation root (Goes read) = line.Copy (copy.Read root read)
copy_after_read operation root (Gives main) = after_given operation.call root main

-- a writable snapshot makes a second root
abbrev pub after_successor : Operation → Call → Ref → Ref → Ref → Line
after_successor operation (Snapshot h) root main made = line.Copy (copy.Second root main made)
after_successor operation call root main made = offering operation root main made None

abbrev pub copy_after_made : Operation → CopyLine → Ref → Line
copy_after_made operation (copy.Successor root main) made = after_successor operation operation.call root main made
copy_after_made operation (copy.Second root main successor) made = offering operation root main successor (Some made)
copy_after_made operation (copy.Empty root main) made = line.Copy (copy.Cleared root main made)
copy_after_made operation (copy.Cleared root main branch) made = offering operation root main made None
copy_after_made operation step made = impossible

abbrev pub copy_if_made : Operation → CopyLine → Option Ref → Line
copy_if_made operation step None = line.End reply.NoSlots
copy_if_made operation step (Some made) = copy_after_made operation step made

-- once the offer stands it is completed; where another root or offer stands the operation starts anew
abbrev pub after_offer : Descriptor → Bool → Line
after_offer offer true = line.Copy (copy.Complete (completing offer))
after_offer offer false = new_try

abbrev pub copied_reply : Call → Option ℕ → Reply
copied_reply (Clear h) opens = reply.Cleared
copied_reply call opens = reply.Opened (unwrap_or opens 0)

-- it ends where its offer was carried out, by this step or before it by another operation, and else starts anew
abbrev pub copy_after_complete : Operation → After Complete Bool → Line
copy_after_complete operation (Goes c) = line.Copy (copy.Complete c)
copy_after_complete operation (Gives done) = if done || operation.is_marked then line.End (copied_reply operation.call operation.opens) else new_try

-- what comes after a step of COPY
abbrev pub copy_after : State → Operation → CopyLine → Line
copy_after state operation (copy.Read root read) = copy_after_read operation root (read_step state operation read)
copy_after state operation (copy.Offer offer) = after_offer offer (is_plain (word_at state (handle_of operation.call)) offer.root)
copy_after state operation (copy.Complete c) =
    copy_after_complete operation (complete_after state.heap operation.access (word_at state (handle_of operation.call)) c)
copy_after state operation step = copy_if_made operation step (next_ref state.heap)
