use Rattle.std.proofs.Output.{has_written_of_eq}
use Rattle.std.specs.Prelude.{map, codes}
use Rattle.history_text.specs.Texts.{pair_text}
use Rattle.history_text.proofs.Spaced.{spaced_first}
use Rattle.history_text.proofs.reply_text.ReplyTextDisplay.fmt.Goals as goal

pub returns-in-Pairs-clause-writes : goal.returns-in-Pairs-clause-writes
returns-in-Pairs-clause-writes g c =
    λ p ok. rw (c.in-Pairs.is, ← c.as_slice.ensures) (has_written_of_eq _ _ _ _ _ (spaced_first (codes "pairs") (map pair_text c.as_slice.result.now)) (c.write-in-Pairs.ensures.writes p ok))
