-- What limbo after a step doesn't depend on, and what isn't freed.
use Rattle.std.specs.Prelude.{◌≡◌, ℕ, ◌+◌, ◌<◌, ◌≤◌, ◌⊎◌, List, ◌∷◌, take, drop, All, Some, None, slice_index_or}
use Rattle.slot_arena.specs.declared.refs.Ref.{Ref}
use Rattle.slot_arena.specs.Heaps.{Heap, freed}
use Rattle.slot_arena.specs.Times.{times}
use Rattle.slot_arena.specs.Counts.{count_of}
use Rattle.epochs.specs.declared.limbo.Zeroed.{Zeroed}
use Rattle.epochs.specs.declared.limbo.Swept.{Swept}
use Rattle.epochs.specs.Limbo.{limbo_after}
use Rattle.epochs.specs.Sweeping.{swept_once, IsOlder}
use Rattle.epochs.specs.Memories.{Memory, reclaimer_of, freed_by}

-- the two lists have each reference equally often
abbrev pub AreAlike : List Ref → List Ref → Type 0
AreAlike rs qs = (r : Ref) → times r rs ≡ times r qs

-- once its slot was freed, it doesn't matter whether an entry of limbo still stands there
abbrev pub FreedLeaves : Type 0
FreedLeaves =
    (heap : Heap) (outside : List Ref) (epoch : ℕ) (entry : Zeroed) (limbo : List Zeroed) →
    limbo_after (freed heap entry.at) outside epoch (entry ∷ limbo) ≡ limbo_after (freed heap entry.at) outside epoch limbo

-- of the references from outside only the counts matter
abbrev pub CountsAlone : Type 0
CountsAlone =
    (heap : Heap) (outside others : List Ref) (epoch : ℕ) (limbo : List Zeroed) → AreAlike outside others →
    limbo_after heap outside epoch limbo ≡ limbo_after heap others epoch limbo

-- ---- sequences of a heap's calls, by what their clauses say of limbo and the epochs

-- making, swapping, publishing, holding, releasing, counting, recording an epoch and giving it up
abbrev pub Stays : Memory → Memory → Type 0
Stays before after = (after.limbo ≡ before.limbo) × (after.epoch ≡ before.epoch)

abbrev pub Settles : Memory → Memory → Type 0
Settles before after = (after.limbo ≡ limbo_after before.heap before.outside before.epoch before.limbo) × (after.epoch ≡ before.epoch)

abbrev pub Sweeps : Swept → Memory → Memory → Type 0
Sweeps did before after =
    ((did, record { heap = after.heap; limbo = before.limbo; epoch = after.epoch; cursor = after.cursor }) ≡ swept_once before.pins (reclaimer_of before))
    × (after.limbo ≡ drop (freed_by did) before.limbo) × All (λ entry. All (IsOlder entry.epoch) before.pins) (take (freed_by did) before.limbo)

abbrev pub IsCall : Memory → Memory → Type 0
IsCall before after = Stays before after ⊎ Settles before after ⊎ ((did : Swept) × Sweeps did before after)

-- limbo is up to date
abbrev pub IsSettled : Memory → Type 0
IsSettled memory = (limbo : List Zeroed) × (memory.limbo ≡ limbo_after memory.heap memory.outside memory.epoch limbo)

-- In every sequence of calls: an operation recorded the epoch when it began, and has that record still; at or after its begin
-- a slot was referred to. Then a step of the sweep doesn't free it.
abbrev pub RunningKeeps : Type 0
RunningKeeps =
    (memories : ℕ → Memory) → ((t : ℕ) → IsCall (memories t) (memories (t + 1))) → (begun seen now actor : ℕ) (r : Ref) (did : Swept) → begun ≤ seen → seen ≤ now →
    IsSettled (memories seen) → 0 < count_of (memories seen).heap (memories seen).outside r → slice_index_or (memories now).pins actor None ≡ Some (memories begun).epoch →
    Sweeps did (memories now) (memories (now + 1)) → All (λ entry. entry.at ≡ r → ⊥) (take (freed_by did) (memories now).limbo)
