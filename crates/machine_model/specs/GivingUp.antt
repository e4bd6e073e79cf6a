-- Giving up: an operation that has published nothing of its own may go on as one that finds no free slot. So do threads that find no slot in what they
-- hold ready, or that learn that what they have read may not count.
use Rattle.std.specs.Prelude.{ℕ, Bool, true, false, not, is_some, [], Option, Some, None}
use Rattle.history.specs.declared.calls.Call.{Call}
use Rattle.history.specs.declared.calls.Call.TheVariants.{Put, PutIfAbsent, Replace, Remove}
use Rattle.history.specs.declared.replies.Reply.{Reply}
use Rattle.history.specs.declared.replies.Reply.TheVariants as reply
use Rattle.machine_model.specs.declared.operations.Operation.{Operation}
use Rattle.machine_model.specs.declared.reading.SwapLine.{SwapLine}
use Rattle.machine_model.specs.declared.reading.SwapLine.TheVariants as swap
use Rattle.machine_model.specs.declared.repairs.ClimbLine.{ClimbLine}
use Rattle.machine_model.specs.declared.repairs.ClimbLine.TheVariants as climb
use Rattle.machine_model.specs.declared.copying.CopyLine.{CopyLine}
use Rattle.machine_model.specs.declared.copying.CopyLine.TheVariants as copy
use Rattle.machine_model.specs.declared.lines.Purpose.{Purpose}
use Rattle.machine_model.specs.declared.lines.Purpose.TheVariants as purpose
use Rattle.machine_model.specs.declared.lines.Line.{Line}
use Rattle.machine_model.specs.declared.lines.Line.TheVariants as line
use Rattle.machine_model.specs.Calls.{changed_reply}

-- ---- which replies tell of an effect

-- the call changed its key, if it answers that this was the key's value before
abbrev pub changed_from : Call → Option ℕ → Bool
changed_from (Put h k v) before = true
changed_from (PutIfAbsent h k v) before = not (is_some before)
changed_from (Replace h k v) before = is_some before
changed_from (Remove h k) before = is_some before
changed_from call before = false

-- the reply is that of an operation which had an effect
abbrev pub tells_effect : Call → Reply → Bool
tells_effect call (reply.Found before) = changed_from call before
tells_effect call (reply.Truth changed) = changed
tells_effect call (reply.Opened handle) = true
tells_effect call reply.Closed = true
tells_effect call reply.Cleared = true
tells_effect call answer = false

-- ---- how an operation gives up

-- the value that the removed key had for which a CLIMB repairs
abbrev pub former_of : ClimbLine → Option ℕ
former_of (climb.Read c r) = c.former
former_of (climb.Main c main) = c.former
former_of (climb.Contracted c main) = c.former
former_of (climb.Root c l) = c.former

-- in a SWAP: before its first line alone, while no one else can have met its fresh node
abbrev pub swap_given_up : Call → Purpose → SwapLine → Option Reply
swap_given_up call (purpose.Climb c) swap.Publish = Some (changed_reply call c.former)
swap_given_up call why swap.Publish = Some reply.NoSlots
swap_given_up call why l = None

-- in a COPY: while it hasn't offered
abbrev pub copy_given_up : CopyLine → Option Reply
copy_given_up (copy.Complete c) = None
copy_given_up l = Some reply.NoSlots

abbrev pub unless_effect : Bool → Option Reply
unless_effect true = None
unless_effect false = Some reply.NoSlots

-- What an operation on this line answers once it gives up, if it may. It is refused as for want of slots; in a CLIMB, where its own change is committed, it
-- is answered, and the climb alone is given up. It may not where a node or an offer of its own is published, or where it is about to answer that it had an effect.
abbrev pub given_up : Call → Line → Option Reply
given_up call (line.Climb l) = Some (changed_reply call (former_of l))
given_up call (line.Swap why s) = swap_given_up call why s.line
given_up call (line.Copy l) = copy_given_up l
given_up call (line.End answer) = unless_effect (tells_effect call answer)
given_up call line.Impossible = None
given_up call l = Some reply.NoSlots

-- the operation once it has given up: it is about to end with this reply, and what it made and nobody met is no longer its own
abbrev pub gave_up : Operation → Reply → Operation
gave_up operation answer = record operation { private = []; line = line.End answer }
