use Rattle.lock_free.specs.Finishing.{gone}
use Rattle.lock_free.proofs.finishing.hear.Given as goal

abbrev pub ghosts-hear_as : goal.ghosts-hear_as
ghosts-hear_as a = record { spent = gone a.other.me.0 }
