use Rattle.std.proofs.Output.{has_written_of_eq}
use Rattle.history_text.proofs.Spaced.{begin_text}
use Rattle.history_text.proofs.event_text.EventTextDisplay.fmt.Goals as goal

pub returns-in-Begin-clause-writes : goal.returns-in-Begin-clause-writes
returns-in-Begin-clause-writes g c =
    λ p ok. rw c.in-Begin.is (has_written_of_eq _ _ _ _ _ (begin_text c.in-Begin.id c.in-Begin.actor c.in-Begin.call c.in-Begin.opens) (c.write.ensures.writes p ok))
