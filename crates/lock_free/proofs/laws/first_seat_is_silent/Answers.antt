use Rattle.lock_free.proofs.KeysApart.{first_seat_is_silent}
use Rattle.lock_free.proofs.laws.first_seat_is_silent.Goals as goal

pub returns : goal.returns
returns c = first_seat_is_silent
