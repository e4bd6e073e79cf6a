use Rattle.proof_slots.proofs.Unswept.Orders.{slots_are_taken_in_order}
use Rattle.proof_slots.proofs.laws.slots_are_taken_in_order.Goals as goal

pub returns : goal.returns
returns c = slots_are_taken_in_order
