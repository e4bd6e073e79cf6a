-- The reading is what was given, and the scene is that of its events and its order.
use Rattle.ctrie_base.specs.Hashes.{hash_of}
use Rattle.history_text.specs.Views.{given}
use Rattle.history_scene.specs.Scenes.{IsScene}
use Rattle.history_commands.proofs.drawing.scene_in.Goals as goal

pub returns-in-Ok-clause-scene : goal.returns-in-Ok-clause-scene
returns-in-Ok-clause-scene c =
    let read = given c.in_ok-given.given in
    let shows : IsScene (hash_of read.hash) read.events read.order c.in-Ok.scene = rw (c.as_slice-events.ensures.value, c.as_slice-order.ensures.value) at c.in-Ok.ensures.scene in
    record {
      reading = read;
      says = (c.in_ok-given.ensures.found, c.in_ok-given.ensures.exact);
      shows = shows;
      each = λ id begin operation begins. c.has_each_operation.ensures (hash_of read.hash) read.events read.order c.in-Ok.scene id begin operation c.in_ok-given.ensures.found.1 shows begins;
    }
