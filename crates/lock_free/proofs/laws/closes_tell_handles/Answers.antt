use Rattle.lock_free.proofs.DenialsTold.{closes_tell_handles}
use Rattle.lock_free.proofs.laws.closes_tell_handles.Goals as goal

pub returns : goal.returns
returns c = closes_tell_handles c.seats_are_explained.ensures
