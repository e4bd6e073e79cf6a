-- The reading is what was given, and the checker was handed its events and its order.
use Rattle.history_commands.proofs.checking.judge.Goals as goal

pub returns-in-Ok-clause-verdict : goal.returns-in-Ok-clause-verdict
returns-in-Ok-clause-verdict c = (
  record { hash = c.in_ok-given.given.hash; events = c.in_ok-given.given.events.items; order = c.in_ok-given.given.order.items },
  (c.in_ok-given.ensures.found, c.in_ok-given.ensures.exact),
  rw c.as_slice-order.ensures.value at (rw c.as_slice-events.ensures.value at c.in-Ok.ensures.exact),
)
