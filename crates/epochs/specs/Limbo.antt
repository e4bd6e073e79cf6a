-- Limbo: the slots in use that nothing refers to, in the order in which their count became zero.
use Rattle.std.specs.Prelude.{ℕ, ◌==◌, ◌&&◌, Bool, not, nat_lt, List, ◌++◌, map, filter}
use Rattle.std.specs.List.{list_any}
use Rattle.epochs.specs.Beneath.ctrie_base.specs.Sorting.{put_by, sorted_by}
use Rattle.slot_arena.specs.declared.refs.Ref.{Ref}
use Rattle.slot_arena.specs.Heaps.{Heap, in_use}
use Rattle.slot_arena.specs.Counts.{count_of}
use Rattle.epochs.specs.declared.limbo.Zeroed.{Zeroed}

-- nothing refers to the slot, neither from slots in use nor from outside
abbrev pub is_zero : Heap → List Ref → Ref → Bool
is_zero heap outside r = count_of heap outside r == 0

abbrev pub put_in : Ref → List Ref → List Ref
put_in = put_by nat_lt

-- references by rising number: those that are words, by rising birth
abbrev pub by_birth : List Ref → List Ref
by_birth = sorted_by nat_lt

-- the slot stands in this list of limbo
abbrev pub is_in : List Zeroed → Ref → Bool
is_in limbo r = list_any (λ z. z.at == r) limbo

abbrev pub is_in_use : Heap → Ref → Bool
is_in_use heap r = list_any (λ q. q == r) (in_use heap)

-- the slots in use whose count is zero and that don't stand in limbo yet
abbrev pub newly_zero : Heap → List Ref → List Zeroed → List Ref
newly_zero heap outside limbo = by_birth (filter (λ r. is_zero heap outside r && not (is_in limbo r)) (in_use heap))

-- Limbo after a step: a slot stays in it while it is in use with count zero, and those whose count has become zero stand
-- behind, by rising birth, with the present epoch.
abbrev pub limbo_after : Heap → List Ref → ℕ → List Zeroed → List Zeroed
limbo_after heap outside epoch limbo =
    filter (λ z. is_in_use heap z.at && is_zero heap outside z.at) limbo ++ map (λ r. record { at = r; epoch = epoch }) (newly_zero heap outside limbo)
