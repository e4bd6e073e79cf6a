-- Programs whose walk was given room.
use Rattle.std.specs.Prelude.{◌≡◌, refl}
use Rattle.snapshot.specs.declared.walk.Walk.{Walk as AWalk}
use Rattle.running.specs.declared.job.Program.{Program}
use Rattle.running.specs.declared.job.Program.TheVariants.{Key, Copy, Walk, Close}
use Rattle.running.specs.declared.programs.Programs.{Programs}
use Rattle.running.specs.Places.{generation_in}

-- the generation of the root stands beside it
pub generation_same : (p : Programs) (w : AWalk) (program : Program) → generation_in program (record p { walk = w }) ≡ generation_in program p
generation_same p w (Key call) = refl
generation_same p w (Copy call) = refl
generation_same p w (Walk call) = refl
generation_same p w Close = refl
