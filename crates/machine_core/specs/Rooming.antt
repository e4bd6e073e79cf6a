-- What an actor is whose walk was given room.
use Rattle.std.specs.Prelude.{◌≡◌, Option, Some, None}
use Rattle.machine_core.specs.Vocabulary.{Program, line_for, IsSound, CanStep, IsWalk, RoomFor, Scene}
use Rattle.machine_core.specs.declared.parts.Actor.{Actor}
use Rattle.machine_core.specs.declared.parts.UnderWay.{UnderWay}

-- it stands where it stood
pub record GivesRoom (was is : Actor) : Type 0 where
  pub rest : is ≡ record was { programs = record was.programs { walk = is.programs.walk } }
  pub lines : (program : Program) → line_for program is.programs ≡ line_for program was.programs
  pub sound : (program : Program) → IsSound program was.programs → IsSound program is.programs

-- what it has under way has room for its next step
abbrev pub HasRoomToStep : Actor → Type 0
HasRoomToStep actor = (u : UnderWay) → actor.under_way ≡ Some u → RoomFor u.program actor.programs

-- what it has under way is a walk
abbrev pub IsWalking : Option UnderWay → Type 0
IsWalking None = ⊥
IsWalking (Some u) = IsWalk u.program

-- it has something under way, whose next step can be taken
pub record CanGo (scene : Scene) (actor : Actor) : Type 0 where
  pub under_way : UnderWay
  pub runs : actor.under_way ≡ Some under_way
  pub can : CanStep scene under_way.program
  pub room : RoomFor under_way.program actor.programs
  pub sound : IsSound under_way.program actor.programs
