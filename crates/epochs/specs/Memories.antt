-- What a contract sees of a heap whose slots are reclaimed by epochs.
use Rattle.std.specs.Prelude.{◌≡◌, ℕ, ⊤, ◌+◌, ◌-◌, ◌*◌, ◌<◌, ◌≤◌, ◌&&◌, List, [], ◌++◌, map, filter, length, replicate, slice_index_or, Option, None, Some}
use Rattle.slot_arena.specs.declared.refs.Ref.{Ref}
use Rattle.slot_arena.specs.Refs.{slot_of}
use Rattle.slot_arena.specs.Heaps.{Heap}
use Rattle.slot_arena.specs.Times.{times}
use Rattle.slot_arena.specs.Tallies.{naming}
use Rattle.slot_arena.specs.Arenas.{Contents, AreLive, AreSlots, waiting, new_arena}
use Rattle.epochs.specs.declared.limbo.Zeroed.{Zeroed}
use Rattle.epochs.specs.declared.limbo.Swept.{Swept}
use Rattle.epochs.specs.declared.limbo.Swept.TheVariants as swept
use Rattle.epochs.specs.Limbo.{is_in_use, is_zero, limbo_after, newly_zero}
use Rattle.epochs.specs.Sweeping.{Reclaimer}
use Rattle.epochs.specs.Rings.{Bags, all_of}

pub record Memory : Type 0 where
  pub heap : Heap
  -- the references that are held from outside the slots
  pub outside : List Ref
  pub limbo : List Zeroed
  pub epoch : ℕ
  pub cursor : ℕ
  -- the epochs that the actors have recorded
  pub pins : List (Option ℕ)
  -- the slots that the next settling looks at
  pub noted : List ℕ
  -- how often a link, a flag, a count, a note or an entry of a list was looked at
  pub ticks : ℕ

-- what the sweep works on
abbrev pub reclaimer_of : Memory → Reclaimer
reclaimer_of memory = record { heap = memory.heap; limbo = memory.limbo; epoch = memory.epoch; cursor = memory.cursor }

-- limbo, the epochs and the actors' records are as before
abbrev pub KeepsEpochs : Memory → Memory → Type 0
KeepsEpochs before after = (after.limbo ≡ before.limbo) × (after.epoch ≡ before.epoch) × (after.cursor ≡ before.cursor) × (after.pins ≡ before.pins)

-- as many slots and actors as there may be
abbrev pub AreSizes : ℕ → ℕ → Type 0
AreSizes slots actors = AreSlots slots × (1 ≤ actors) × (actors ≤ 64)

-- all slots are free, and no actor has recorded an epoch; the links were written
abbrev pub new_memory : ℕ → ℕ → Memory
new_memory slots actors = record {
  heap = (new_arena slots).heap;
  outside = [];
  limbo = [];
  epoch = 0;
  cursor = 1;
  pins = replicate actors None;
  noted = [];
  ticks = slots + 6;
}

-- a bag whose slots became zero in this epoch
abbrev pub zeroed_at : ℕ → List Ref → List Zeroed
zeroed_at epoch rs = map (λ r. record { at = r; epoch = epoch }) rs

-- limbo, from the bags of the three last epochs
abbrev pub limbo_of : ℕ → Bags → List Zeroed
limbo_of epoch bags = zeroed_at (epoch - 2) bags.oldest ++ zeroed_at (epoch - 1) bags.middle ++ zeroed_at epoch bags.present

-- what stays in limbo when it is brought up to date
abbrev pub staying : Heap → List Ref → List Zeroed → List Zeroed
staying heap outside limbo = filter (λ z. is_in_use heap z.at && is_zero heap outside z.at) limbo

-- What settling does: slots that are referred to leave limbo, and those to which nothing refers any more enter it; all else stays. It takes 3 ticks for each
-- noted slot, and 12 for each that enters or leaves.
pub record Settles (before after : Memory) : Type 0 where
  pub limbo : after.limbo ≡ limbo_after before.heap before.outside before.epoch before.limbo
  pub settled : after.noted ≡ []
  pub heap : after.heap ≡ before.heap
  pub outside : after.outside ≡ before.outside
  pub epochs : (after.epoch ≡ before.epoch) × (after.cursor ≡ before.cursor) × (after.pins ≡ before.pins)
  pub ticks : after.ticks + 12 * length (staying before.heap before.outside before.limbo)
      ≤ before.ticks + 3 * length before.noted + 12 * length before.limbo + 12 * length (newly_zero before.heap before.outside before.limbo)
  pub rising : before.ticks ≤ after.ticks

-- how many slots the sweep has freed
abbrev pub freed_by : Swept → ℕ
freed_by (swept.Scanned passed) = 0
freed_by (swept.Advanced epoch) = 0
freed_by swept.Freed = 1

-- What the bags know of the arena: each slot stands in them once, under its reference, and they list what waits, but for what is noted.
pub record Lists (arena : Contents) (bags : Bags) : Type 0 where
  pub sizes : bags.size ≡ length arena.heap.slots
  pub live : AreLive arena.heap (all_of bags)
  pub single : (slot : ℕ) → naming slot (all_of bags) ≤ 1
  pub waits : (r : Ref) → 0 < times r (all_of bags) → times (slot_of r) arena.noted ≡ 0 → waiting arena (slot_of r) ≡ Some r
  pub listed : (r : Ref) → waiting arena (slot_of r) ≡ Some r → times (slot_of r) arena.noted ≡ 0 → 0 < times r (all_of bags)

-- an actor's record is of the present epoch or the one before, and of the present one where the sweep has passed the actor in it
abbrev pub IsRecent : ℕ → Type 0 → Option ℕ → Type 0
IsRecent epoch passed None = ⊤
IsRecent epoch passed (Some recorded) = (recorded ≤ epoch) × (epoch ≤ recorded + 1) × (passed → recorded ≡ epoch)

pub record IsMemory (arena : Contents) (bags : Bags) (epoch cursor : ℕ) (pins : List (Option ℕ)) : Type 0 where
  pub lists : Lists arena bags
  -- three bags are enough: the epoch grows only where the oldest one is empty
  pub oldest_first : 0 < length bags.oldest → 2 ≤ epoch
  pub middle_next : 0 < length bags.middle → 1 ≤ epoch
  pub started : 1 ≤ cursor
  pub passed : cursor ≤ length pins + 1
  pub few : length pins ≤ 64
  pub recent : (actor : ℕ) → IsRecent epoch (actor + 1 < cursor) (slice_index_or pins actor None)
