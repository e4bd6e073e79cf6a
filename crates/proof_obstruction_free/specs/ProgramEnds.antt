-- COMPLETE, RENEW, CLEAN and CLIMB, where one actor alone takes steps, in steps alone.
use Rattle.std.specs.Prelude.{ℕ, ◌+◌, ◌<◌, ◌≤◌, ◌⊎◌, Option, Some}
use Rattle.proof_obstruction_free.specs.Vocabulary.{Reply, Ref, ReadLine, CleanLine, ClimbLine, RenewLine, Descriptor, new_try, renew_path}
use Rattle.proof_obstruction_free.specs.Beneath.machine_model.specs.declared.copying.CopyLine.TheVariants as copy
use Rattle.proof_obstruction_free.specs.Beneath.machine_model.specs.declared.lines.Line.TheVariants as line
use Rattle.proof_obstruction_free.specs.Beneath.machine_model.specs.declared.lines.Purpose.TheVariants as purpose
use Rattle.proof_obstruction_free.specs.Beneath.machine_model.specs.declared.reading.ReadLine.TheVariants as read
use Rattle.proof_obstruction_free.specs.Beneath.machine_model.specs.declared.roots.CompleteLine.TheVariants as complete
use Rattle.proof_obstruction_free.specs.Alone.{Lone, Stands}
use Rattle.proof_obstruction_free.specs.SwapEnds.{HasEnded}

-- how many steps a COMPLETE takes from the first line of its READ, and from any
abbrev pub complete_steps : ℕ
complete_steps = 10

abbrev pub complete_steps_left : ℕ
complete_steps_left = 13

-- how many RENEW, CLEAN and CLIMB take from any of their lines, each with its SWAPs
abbrev pub renew_steps : ℕ
renew_steps = 310

abbrev pub clean_steps : ℕ
clean_steps = 319

abbrev pub climb_steps : ℕ
climb_steps = 329

module _ (a : Lone) where
  -- within so many steps from step t on the operation's own offer was carried out and it is to end, or a new try begins
  pub record HasCompleted (t n : ℕ) (g : Option ℕ) : Type 0 where
    pub at : ℕ
    pub from : t ≤ at
    pub soon : at ≤ t + n
    pub so : ((answer : Reply) × Stands a at g (line.End answer)) ⊎ Stands a at g new_try

  abbrev pub CompleteEnds : Type 0
  CompleteEnds =
      (offer : Descriptor) (t : ℕ) (g : Option ℕ) → Stands a t g (line.Copy (copy.Complete (record { offer = offer; line = complete.Reading read.Main }))) →
      t + complete_steps ≤ a.last → HasCompleted t complete_steps g

  abbrev pub CompleteGoesToItsEnd : Type 0
  CompleteGoesToItsEnd =
      (offer : Descriptor) (l : ReadLine) (t : ℕ) (g : Option ℕ) → Stands a t g (line.Copy (copy.Complete (record { offer = offer; line = complete.Reading l }))) →
      t + complete_steps_left ≤ a.last → HasCompleted t complete_steps_left g

  -- a RENEW comes to the end of its SWAP
  abbrev pub RenewEnds : Type 0
  RenewEnds =
      (l : RenewLine) (t g : ℕ) → Stands a t (Some g) (line.Renew l) → t + renew_steps ≤ a.last →
      (fresh : Ref) × HasEnded a t renew_steps (Some g) (purpose.Renew (renew_path l)) fresh

  -- a CLEAN comes to a new try
  abbrev pub CleanEnds : Type 0
  CleanEnds =
      (l : CleanLine) (t : ℕ) (g : Option ℕ) → Stands a t g (line.Clean l) → t + clean_steps ≤ a.last → (u : ℕ) × (t ≤ u) × (u ≤ t + clean_steps) × Stands a u g new_try

  -- with a CLIMB the operation ends: no run in which it never does is longer
  abbrev pub ClimbEnds : Type 0
  ClimbEnds = (l : ClimbLine) (t : ℕ) (g : Option ℕ) → Stands a t g (line.Climb l) → a.last < t + climb_steps
