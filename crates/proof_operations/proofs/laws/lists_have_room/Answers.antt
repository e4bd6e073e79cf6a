use Rattle.proof_operations.proofs.Rooms.{lists_have_room as law}
use Rattle.proof_operations.proofs.laws.lists_have_room.Goals as goal

pub returns : goal.returns
returns c = law
