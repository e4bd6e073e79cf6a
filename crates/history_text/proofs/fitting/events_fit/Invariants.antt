-- The events so far have a spelling.
use Rattle.std.proofs.Common.{All, take}
use Rattle.history_text.specs.Grammar.{EventFits}
use Rattle.history_text.proofs.fitting.events_fit.Given as goal

abbrev pub invariant-loop-event : goal.invariant-loop-event
invariant-loop-event l = All EventFits (take l.event-index l.events)
