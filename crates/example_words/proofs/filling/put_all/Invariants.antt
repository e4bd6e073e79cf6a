use Rattle.concurrent_map.specs.Seats.{IsSeatOf}
use Rattle.example_words.proofs.filling.put_all.Given as goal

abbrev pub invariant-loop-n : goal.invariant-loop-n
invariant-loop-n g l = IsSeatOf l.map l.seat
