-- What a step that makes and frees nothing leaves alone.
use Rattle.std.specs.Prelude.{◌≡◌, ◌+◌, ◌≤◌, length}
use Rattle.machine_model.specs.Beneath.slot_arena.specs.declared.refs.Ref.{Ref}
use Rattle.machine_model.specs.Beneath.slot_arena.specs.Arenas.{is_live}
use Rattle.machine_model.specs.Beneath.slot_arena.specs.Ticking.{TakesUpTo}
use Rattle.machine_model.specs.Beneath.epochs.specs.Memories.{Memory, KeepsEpochs}

-- nothing is made or freed, and of all but the words in the slots, the notes and the ticks nothing changes
pub record KeepsBeside (before after : Memory) : Type 0 where
  pub outside : after.outside ≡ before.outside
  pub stay : (q : Ref) → is_live after.heap q ≡ is_live before.heap q
  pub epochs : KeepsEpochs before after
  pub few : length after.noted ≤ length before.noted + 2
  pub ticks : TakesUpTo 2 before.ticks after.ticks
