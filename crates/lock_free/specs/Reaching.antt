-- Where the way down to a key ends in a main node, whatever the call does there.
use Rattle.std.specs.Prelude.{ℕ, List}
use Rattle.machine_model.specs.Beneath.slot_arena.specs.declared.refs.Ref.{Ref}
use Rattle.machine_model.specs.declared.building.Site.TheVariants as site
use Rattle.machine_model.specs.declared.lines.Line.{Line}
use Rattle.lock_free.specs.declared.reaching.Level.{Level}
use Rattle.lock_free.specs.declared.reaching.Level.TheVariants as level
use Rattle.lock_free.specs.declared.reaching.Place.{Place}
use Rattle.lock_free.specs.declared.reaching.Place.TheVariants as place
use Rattle.lock_free.specs.declared.reaching.Reached.{Reached}
use Rattle.lock_free.specs.declared.rules.View.{View}
use Rattle.lock_free.specs.declared.tasks.Task.{Task}
use Rattle.lock_free.specs.Descending.{HasGoneBelow, IsAtList, IsAtOne, IsAtTomb, absent_in}
use Rattle.lock_free.specs.GoingDown.{HasMoved}
use Rattle.lock_free.specs.Holding.{IsOn}
use Rattle.lock_free.specs.LinkReads.{IsThere}
use Rattle.lock_free.specs.Seeking.{IsToRenew}

-- it is at this place in the main node
abbrev pub IsAtPlace : View → Task → Place → List Ref → Ref → Type 0
IsAtPlace v task (place.Single position slot) path main = IsAtOne v position slot path main
IsAtPlace v task place.Absent path main = IsOn v (absent_in task.call site.Absent path main)
IsAtPlace v task place.List path main = IsAtList v path main
IsAtPlace v task (place.Tomb single) path main = IsAtTomb v task.access single path main
IsAtPlace v task place.Renews path main = IsToRenew v path main

-- the way has come to its end
pub record HasReached (before : View) (task : Task) (slots : List ℕ) (reached : Reached) (after : View) : Type 0 where
  pub next : Line
  pub moved : HasMoved (λ operation. next) before after
  pub at : IsThere after slots reached.link (IsAtPlace after task reached.place)

-- or to the next indirection
abbrev pub HasGone : View → Task → List ℕ → Level → View → Type 0
HasGone before task slots (level.Below slot) after = HasGoneBelow before slots slot after
HasGone before task slots (level.Here reached) after = HasReached before task slots reached after
