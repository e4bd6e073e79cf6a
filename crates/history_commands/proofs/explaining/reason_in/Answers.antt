-- The reading is what was given, and its events and its order were judged.
use Rattle.ctrie_base.specs.Hashes.{hash_of}
use Rattle.history_text.specs.Views.{given}
use Rattle.history_scene.proofs.Each.{judges_of}
use Rattle.history_commands.proofs.explaining.reason_in.Goals as goal

pub returns-in-Ok-clause-reason : goal.returns-in-Ok-clause-reason
returns-in-Ok-clause-reason c =
    let read = given c.in_ok-given.given in (
      read,
      (c.in_ok-given.ensures.found, c.in_ok-given.ensures.exact),
      judges_of (hash_of read.hash) read.events read.order c.in-Ok.reason (rw (c.as_slice-events.ensures.value, c.as_slice-order.ensures.value) at c.in-Ok.ensures.exact)
          (rw (c.as_slice-events.ensures.value, c.as_slice-order.ensures.value) at c.in-Ok.ensures.first),
    )
