use Rattle.proof_order.proofs.Views.Unconditional.{rising_moves, rising_sorted}
use Rattle.proof_order.proofs.laws.orders.rising_sorts.Goals as goal

pub returns : goal.returns
returns c places = (rising_moves places, rising_sorted places)
