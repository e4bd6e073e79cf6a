use Rattle.std.proofs.Output.{has_written_of_eq}
use Rattle.std.specs.Prelude.{map, codes}
use Rattle.std.specs.Fmt.{decimal}
use Rattle.history_text.proofs.Spaced.{spaced_first}
use Rattle.history_text.proofs.event_text.OrderTextDisplay.fmt.Goals as goal

pub returns-clause-writes : goal.returns-clause-writes
returns-clause-writes g c =
    λ p ok. has_written_of_eq _ _ _ _ _ (spaced_first (codes "order") (map decimal c.args.self.now.0.now)) (c.write.ensures.writes p ok)
