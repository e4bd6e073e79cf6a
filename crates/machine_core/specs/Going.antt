-- A step of an operation in place: what its programs did.
use Rattle.std.specs.Prelude.{◌≡◌, ℕ, ◌-◌, None}
use Rattle.machine_core.specs.Vocabulary.{Kind, Table, line_for, scene, Taken}
use Rattle.ctrie_base.specs.declared.kinds.Kind.TheVariants as kind
use Rattle.epochs.specs.Memories.{Memory}
use Rattle.running.specs.Steps.{Does}
use Rattle.machine_core.specs.declared.parts.Actor.{Actor}
use Rattle.machine_core.specs.declared.parts.Parts.{Parts}
use Rattle.machine_core.specs.declared.parts.UnderWay.{UnderWay}
use Rattle.machine_core.specs.Keeping.{Replaces}

-- the actor's programs took this step of its operation
pub record StepsTo (u : UnderWay) (memory : Memory) (table : Table) (generations : ℕ) (taken : Taken) (memory' : Memory) (table' : Table) (generations' : ℕ) (was is : Actor) : Type 0 where
  pub under_way : is.under_way ≡ was.under_way
  pub does : Does u.job u.program (line_for u.program was.programs) (scene memory table generations was.programs) taken (scene memory' table' generations' is.programs)

-- nothing else has changed
pub record Steps (before : Parts) (actor : ℕ) (u : UnderWay) (taken : Taken) (after : Parts) : Type 0 where
  pub actors : Replaces before.actors.items (actor - 1) (StepsTo u before.heap before.table before.generations taken after.heap after.table after.generations) after.actors.items
  pub rest : after ≡ record before { heap = after.heap; table = after.table; generations = after.generations; actors = after.actors }

-- where the step was of another kind than a swap of the root, no offer was carried out of which nothing was told
abbrev pub CarriesUnless : Kind → Table → Type 0
CarriesUnless kind.SwapRoot table = Unit {0}
CarriesUnless k table = table.carried ≡ None
