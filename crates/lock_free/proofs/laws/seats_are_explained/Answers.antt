use Rattle.lock_free.specs.Accounts.{bounds_for}
use Rattle.lock_free.proofs.laws.seats_are_explained.Goals as goal

pub returns : goal.returns
returns c words v sound = c.every_order_is_legal.ensures (bounds_for v.sizes v.account.steps) v.account.steps sound.bounds sound.keys
