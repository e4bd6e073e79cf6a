use Rattle.lock_free.proofs.DenialsTold.{denials_tell_handles}
use Rattle.lock_free.proofs.laws.denials_tell_handles.Goals as goal

pub returns : goal.returns
returns c = denials_tell_handles c.seats_are_explained.ensures
