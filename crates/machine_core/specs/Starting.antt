-- Actors of a machine that has taken no step.
use Rattle.std.specs.Prelude.{◌≡◌, ℕ, List, [], All, length, None}
use Rattle.machine_core.specs.Vocabulary.{HashKind}
use Rattle.machine_core.specs.declared.parts.Actor.{Actor}

-- the actor runs nothing
pub record IsIdle (hashes : HashKind) (actor : Actor) : Type 0 where
  pub under_way : actor.under_way ≡ None
  pub hashes_are : actor.programs.key.task.hashes ≡ hashes
  pub private : actor.programs.key.work.private ≡ []

-- these are so many actors, and none of them runs anything
pub record AreIdle (hashes : HashKind) (number : ℕ) (actors : List Actor) : Type 0 where
  pub many : length actors ≡ number
  pub idle : All (IsIdle hashes) actors
