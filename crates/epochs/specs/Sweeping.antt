-- The sweep: one step frees a slot, or reads an actor's record of the epoch, or lets the epoch grow. So a slot is freed two
-- epochs after its count became zero, when no operation that began before is running any more.
use Rattle.std.specs.Prelude.{ℕ, zero, suc, ⊤, ◌+◌, ◌-◌, ◌<◌, ◌==◌, ◌&&◌, Bool, true, nat_le, is_none, List, [], ◌∷◌, length, slice_index_or, Option, Some, None, if◌then◌else◌}
use Rattle.std.specs.List.{list_all}
use Rattle.slot_arena.specs.declared.refs.Ref.{Ref}
use Rattle.slot_arena.specs.Heaps.{Heap, freed}
use Rattle.epochs.specs.declared.limbo.Zeroed.{Zeroed}
use Rattle.epochs.specs.declared.limbo.Swept.{Swept}
use Rattle.epochs.specs.declared.limbo.Swept.TheVariants as swept

-- what the sweep works on
pub record Reclaimer : Type 0 where
  pub heap : Heap
  pub limbo : List Zeroed
  pub epoch : ℕ
  -- the actor whose record of the epoch is read next; actors are counted from 1
  pub cursor : ℕ

-- the first slot of limbo, where it became zero two epochs ago or earlier
abbrev pub ripe : ℕ → List Zeroed → Option Ref
ripe epoch [] = None
ripe epoch (z ∷ limbo) = if nat_le (z.epoch + 2) epoch then Some z.at else None

-- an actor passes where it has recorded no epoch, or the present one
abbrev pub is_passed : ℕ → Option ℕ → Bool
is_passed epoch None = true
is_passed epoch (Some recorded) = recorded == epoch

-- reads the record of the actor at the cursor, and goes on if it is passed
abbrev pub scanned : Reclaimer → Bool → Swept × Reclaimer
scanned r passed = (swept.Scanned passed, record r { cursor = r.cursor + (if passed then 1 else 0) })

-- all actors were passed: the epoch grows
abbrev pub advanced : Reclaimer → Swept × Reclaimer
advanced r = (swept.Advanced (r.epoch + 1), record r { epoch = r.epoch + 1; cursor = 1 })

abbrev pub sweep_by : List (Option ℕ) → Reclaimer → Option Ref → Swept × Reclaimer
sweep_by pins r (Some at) = (swept.Freed, record r { heap = freed r.heap at })
sweep_by pins r None = if nat_le r.cursor (length pins) then scanned r (is_passed r.epoch (slice_index_or pins (r.cursor - 1) None)) else advanced r

-- a step of the sweep, where these are the epochs that the actors have recorded
abbrev pub swept_once : List (Option ℕ) → Reclaimer → Swept × Reclaimer
swept_once pins r = sweep_by pins r (ripe r.epoch r.limbo)

-- so many steps of the sweep
unfoldable pub swept_times : List (Option ℕ) → ℕ → Reclaimer → Reclaimer
swept_times pins zero r = r
swept_times pins (suc n) r = swept_times pins n (swept_once pins r).1

-- the next steps pass each actor, from the first one on, and then the epoch grows
abbrev pub passes_all : List (Option ℕ) → Reclaimer → Bool
passes_all pins r = is_none (ripe r.epoch r.limbo) && r.cursor == 1 && list_all (is_passed r.epoch) pins

-- the epoch is over for an actor: it has recorded none, or a later one
abbrev pub IsOlder : ℕ → Option ℕ → Type 0
IsOlder epoch None = ⊤
IsOlder epoch (Some recorded) = epoch < recorded
