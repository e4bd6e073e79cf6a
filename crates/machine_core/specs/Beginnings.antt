-- How an actor's operation begins and ends.
use Rattle.std.specs.Prelude.{◌≡◌, ℕ, [], length, Some, None}
use Rattle.machine_core.specs.Vocabulary.{Access, first_line, KeepsOthers, IsSound, call_for, generation_in, line_for, NotesUpTo}
use Rattle.epochs.specs.Memories.{Memory}
use Rattle.machine_core.specs.declared.parts.Actor.{Actor}
use Rattle.machine_core.specs.declared.parts.UnderWay.{UnderWay}

-- the actor begins this operation, on a handle of this kind
pub record Begins (u : UnderWay) (access : Access) (before after : Actor) : Type 0 where
  pub under_way : after.under_way ≡ Some u
  pub line : (handle : ℕ) → line_for u.program after.programs ≡ first_line (call_for handle u.program)
  pub attempt : after.programs.copy.attempt ≡ 0
  pub generation : generation_in u.program after.programs ≡ None
  pub hashes : after.programs.key.task.hashes ≡ before.programs.key.task.hashes
  pub access_is : after.programs.key.work.swap.read.access ≡ access
  pub private : after.programs.key.work.private ≡ before.programs.key.work.private
  pub sound : IsSound u.program after.programs

-- the actor's operation has ended with this reply, and nothing is left of it; what it held is released
pub record Leaves (memory now : Memory) (before after : Actor) : Type 0 where
  pub under_way : after.under_way ≡ None
  pub hashes : after.programs.key.task.hashes ≡ before.programs.key.task.hashes
  pub private : after.programs.key.work.private ≡ []
  pub others : KeepsOthers before.programs.key.work.private memory [] now
  pub work : NotesUpTo (length before.programs.key.work.private) (length before.programs.key.work.private) memory now
