-- BUILD and the SWAP after it: what the change of one key comes to.
use Rattle.std.specs.Prelude.{ℕ, List, [], Option, Some, None}
use Rattle.machine_model.specs.Beneath.slot_arena.specs.declared.refs.Ref.{Ref}
use Rattle.machine_model.specs.declared.building.BuildLine.TheVariants as build
use Rattle.machine_model.specs.declared.building.Change.{Change}
use Rattle.machine_model.specs.declared.building.Change.TheVariants as change
use Rattle.machine_model.specs.declared.building.Site.{Site}
use Rattle.machine_model.specs.declared.lines.Line.{Line}
use Rattle.machine_model.specs.declared.lines.Line.TheVariants as line
use Rattle.machine_model.specs.declared.operations.Operation.{Operation}
use Rattle.machine_model.specs.Climbing.{climbed, climbing}
use Rattle.machine_model.specs.Lines.{new_try}
use Rattle.machine_model.specs.Paths.{current}
use Rattle.lock_free.specs.declared.building.Builder.{Builder}
use Rattle.lock_free.specs.declared.changing.Edit.{Edit}
use Rattle.lock_free.specs.declared.reading.Given.{Given}
use Rattle.lock_free.specs.declared.rules.View.{View}
use Rattle.lock_free.specs.declared.swapping.Swapped.{Swapped}
use Rattle.lock_free.specs.declared.swapping.Swapped.TheVariants.{Commits, Fails, Misses}
use Rattle.lock_free.specs.Becoming.{HasBecome, HasRested}
use Rattle.lock_free.specs.BuildingUp.{HasStopped, IsAtSingle}
use Rattle.lock_free.specs.Changing.{IsChanging}
use Rattle.lock_free.specs.Holding.{IsOn}
use Rattle.lock_free.specs.Passing.{IsPlaced, KnowsLink}

-- ---- with a new single

-- it is to make its new single, and this is the slot of the indirection at the end of its path
abbrev pub IsAtUpdate : View → Builder → Given → Site → Option ℕ → ℕ → Type 0
IsAtUpdate v by given place former indirection = (at : IsAtSingle v by given place former) × IsPlaced v (current at.0) indirection

-- it is answered, or begins a new try; nothing is its own any more
abbrev pub updated : Option ℕ → Swapped → Operation → Operation
updated former (Commits r) o = record o { private = []; line = climbed o former }
updated former (Fails r) o = record o { private = []; line = new_try }
updated former Misses o = record o { private = []; line = new_try }

-- or no slot was had
abbrev pub HasUpdated : View → Option ℕ → Option Swapped → View → Type 0
HasUpdated before former None after = HasStopped before after
HasUpdated before former (Some result) after = HasBecome (updated former result) before after

-- ---- with one main node alone

-- it is to make this change of the main node that READ gave at the end of its path, and this is the slot of the indirection there
pub record IsAtChange (v : View) (indirection : ℕ) (given : Given) (flag : ℕ) (e : Edit) : Type 0 where
  pub changing : IsChanging v given.link.main given.header.shape flag e
  pub link : KnowsLink v (current changing.path) changing.main given.link
  pub placed : IsPlaced v (current changing.path) indirection

-- a tomb climbs, any other change is answered
abbrev pub changed_to : List Ref → Option ℕ → Change → Operation → Line
changed_to path former (change.Entomb single) o = climbing o (record { path = path; single = single; former = former })
changed_to path former c o = climbed o former

abbrev pub changed_by : List Ref → Option ℕ → Change → Swapped → Operation → Operation
changed_by path former c (Commits r) o = record o { private = []; line = changed_to path former c o }
changed_by path former c (Fails r) o = record o { private = []; line = new_try }
changed_by path former c Misses o = record o { private = []; line = new_try }

-- or no slot was had
abbrev pub HasChangedBy : View → List Ref → Option ℕ → Change → Option Swapped → View → Type 0
HasChangedBy before path former c None after = HasRested before after
HasChangedBy before path former c (Some result) after = HasBecome (changed_by path former c result) before after

abbrev pub HasChanged : View → Option Swapped → View → Type 0
HasChanged before result after =
    (path : List Ref) (main : Ref) (its : Change) (former : Option ℕ) → IsOn before (line.Build (build.Main path main its former)) → HasChangedBy before path former its result after
