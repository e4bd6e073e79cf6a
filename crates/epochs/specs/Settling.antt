-- What a settling finds in the arena's notes.
use Rattle.std.specs.Prelude.{◌≡◌, ℕ, ◌<◌, ◌≤◌, ◌==◌, List, [], ◌∷◌, ◌++◌, filter, Option, Some, None, if◌then◌else◌}
use Rattle.slot_arena.specs.declared.refs.Ref.{Ref}
use Rattle.slot_arena.specs.Refs.{slot_of}
use Rattle.slot_arena.specs.Times.{times, other_slots}
use Rattle.slot_arena.specs.Tallies.{naming}
use Rattle.slot_arena.specs.Arenas.{Contents, waiting}
use Rattle.epochs.specs.Limbo.{is_zero}
use Rattle.epochs.specs.Rings.{Bags, all_of}

-- the new ones, for how many there is room, and how often one was looked at
pub record Listed : Type 0 where
  pub refs : List Ref
  pub room : ℕ
  pub ticks : ℕ

-- the slot waits, and stood in no bag
abbrev pub IsFresh : Contents → Bags → Ref → Type 0
IsFresh arena bags r = (waiting arena (slot_of r) ≡ Some r) × (naming (slot_of r) (all_of bags) ≡ 0)

-- the references whose slot isn't referred to
abbrev pub unreferred : Contents → List Ref → List Ref
unreferred arena rs = filter (λ r. is_zero arena.heap arena.outside r) rs

-- bags after one slot was looked at, by what waits in it
abbrev pub bags_after : Option Ref → ℕ → Bags → Bags
bags_after None slot bags =
    record { oldest = other_slots slot bags.oldest; middle = other_slots slot bags.middle; present = other_slots slot bags.present; size = bags.size }
bags_after (Some r) slot bags = bags

-- the new ones after it, by how often the slot stands in the bags
abbrev pub fresh_after : Option Ref → ℕ → List Ref → List Ref
fresh_after None listed fresh = fresh
fresh_after (Some r) listed fresh = if listed == 0 then fresh ++ r ∷ [] else fresh

-- the notes were looked at: bags keep what still waits, and these are new
pub record IsSifted (arena : Contents) (before after : Bags) (fresh : List Ref) : Type 0 where
  pub oldest : after.oldest ≡ unreferred arena before.oldest
  pub middle : after.middle ≡ unreferred arena before.middle
  pub present : after.present ≡ unreferred arena before.present
  pub size : after.size ≡ before.size
  -- each new one once, and all of them
  pub are_fresh : (r : Ref) → 0 < times r fresh → IsFresh arena before r
  pub all_fresh : (r : Ref) → IsFresh arena before r → 0 < times r fresh
  pub once_each : (r : Ref) → times r fresh ≤ 1
