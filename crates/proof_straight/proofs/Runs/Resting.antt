-- After each run limbo is up to date, and the free slots are empty ones.
use Rattle.std.proofs.Common.{◌≡◌, ℕ, zero, suc, ◌+◌, ◌<◌, ◌≤◌, ◌==◌, ◌&&◌, Bool, false, not, nat_lt, is_some, List, [], ◌∷◌, ◌++◌, filter, flat_map, map, length, get_or}
use Rattle.std.proofs.Common.{replicate, count_by, Option, Some, None, refl, sym, ap, ◌∙◌, eq-eqb, ltb-true, arith}
use Rattle.std.proofs.Math.ListN.{get_or-map}
use Rattle.std.proofs.lemmas.Bool.{true≢false}
use Rattle.std.proofs.lemmas.List.{length-map}
use Rattle.proof_straight.specs.Vocabulary.{Slot, Ref, count_of, taken, named_from, refs_of_slot, ref_to, times, Zeroed, by_birth, limbo_after, Bounds, Outcome, Step, ended, gone, settled, outside}
use Rattle.proof_straight.specs.Vocabulary.{with_operation, refs_of_operation, begun_operation, run, swept, with_begin, Moves, Begins, Ends, Sweeps, State, first_heap, first_state, GivesUp, gave_up}
use Rattle.machine_model.specs.Moves.{Goes}
use Rattle.machine_model.proofs.Along.{along}
use Rattle.machine_model.proofs.Basics.{two_or_more}
use Rattle.machine_model.proofs.Rest.{one_if}
use Rattle.machine_model.proofs.Slots.{sound_along}
use Rattle.proof_straight.specs.Beneath.ctrie_base.proofs.Sorting.{count_more}
use Rattle.proof_straight.specs.Resting.{LimboUpToDate, FreeSlotsEmpty}
use Rattle.proof_straight.specs.Running.{AreEmpty, IsUpToDate}
use Rattle.proof_straight.proofs.Steps.Settled.{settled_once}

-- ---- limbo

settled_well : (before after : State) → IsUpToDate (settled before after)
settled_well before after = settled_once after.heap (outside after) after.epoch before.limbo

settled_up_to_date : (state : State) (s : Step) (o : Outcome) (after : State) → Moves state s o after → IsUpToDate after
settled_up_to_date state s o after (Begins {actor} {call} {number} d) = settled_well state (with_begin state actor call (begun_operation state call number))
settled_up_to_date state s o after (Goes {actor} {operation} d is a g) = settled_well state (gone state actor operation)
settled_up_to_date state s o after (Ends {actor} d is a) = settled_well state (ended state actor)
settled_up_to_date state s o after (GivesUp {actor} {operation} {answer} d is a) = settled_well state (with_operation state actor (Some (gave_up operation answer)))
settled_up_to_date state s o after (Sweeps spent) = settled_well state (swept state).1

none_named : (n k : ℕ) → named_from k (replicate n None) ≡ []
none_named zero k = refl
none_named (suc n) k = none_named n (k + 1)

none_referred : (n : ℕ) → flat_map refs_of_slot (replicate n None) ≡ []
none_referred zero = refl
none_referred (suc n) = none_referred n

none_running : (n : ℕ) → flat_map refs_of_operation (replicate n None) ≡ []
none_running zero = refl
none_running (suc n) = none_running n

-- what enters limbo where none stands there, by what is in use and what stands in slots
abbrev entering : List Ref → List Ref → List Ref → List Zeroed
entering used refs held = map (λ r. record { at = r; epoch = 0 }) (by_birth (filter (λ r. (count_by (λ q. q == r) (refs ++ held) == 0) && not false) used))

-- at first the branch stands in the root, and the root in its word
first_enters : (n : ℕ) (held : List Ref) → held ≡ ref_to 2 1 ∷ [] → limbo_after (first_heap (suc (suc n))) held 0 [] ≡ []
unfolding count_of taken
first_enters n held is =
    ap (λ rs. entering (ref_to 1 0 ∷ ref_to 2 1 ∷ rs) (ref_to 1 0 ∷ flat_map refs_of_slot (replicate n None)) held) (none_named n 2)
    ∙ ap (λ rs. entering (ref_to 1 0 ∷ ref_to 2 1 ∷ []) (ref_to 1 0 ∷ rs) held) (none_referred n) ∙ ap (λ rs. entering (ref_to 1 0 ∷ ref_to 2 1 ∷ []) (ref_to 1 0 ∷ []) rs) is

first_held : (limits : Bounds) → outside (first_state limits) ≡ ref_to 2 1 ∷ []
unfolding first_state
first_held limits = ap (λ rs. ref_to 2 1 ∷ rs) (none_running limits.actors)

first_up_to_date : (limits : Bounds) (n : ℕ) → limits.slots ≡ suc (suc n) → IsUpToDate (first_state limits)
unfolding first_state
first_up_to_date limits n size =
    ap (λ slots. limbo_after (first_heap slots) (outside (first_state limits)) 0 []) size ∙ first_enters n (outside (first_state limits)) (first_held limits)

pub limbo_up_to_date : LimboUpToDate
limbo_up_to_date limits steps ok =
    let (n, size) = two_or_more limits.slots ok.0 in
    along limits IsUpToDate (first_up_to_date limits n size) (λ done s o after m h. settled_up_to_date (run limits done) s o after m) steps

-- ---- free slots

-- each of these slots is free at most once, and not used, and no more than there are
abbrev AreFree : List Bool → List ℕ → Type 0
AreFree flags free = (k : ℕ) → times k free + one_if (get_or flags k false) ≤ one_if (nat_lt k (length flags))

first_is_free : (flags : List Bool) (slot : ℕ) (free : List ℕ) → times slot (slot ∷ free) + one_if (get_or flags slot false) ≤ one_if (nat_lt slot (length flags)) →
    (slot < length flags) × (get_or flags slot false ≡ false) × (times slot free ≡ 0)
first_is_free flags slot free h = grind (arith, h, count_more (λ m. m == slot) slot free, eq-eqb slot slot refl, ltb-true slot (length flags))

fewer_free : (flags : List Bool) (slot : ℕ) (free : List ℕ) → AreFree flags (slot ∷ free) → AreFree flags free
fewer_free flags slot free h k = omega (arith, h k, count_more (λ m. m == k) slot free)

unflagged : (o : Option Slot) → is_some o ≡ false → o ≡ None
unflagged None h = refl
unflagged (Some slot) h = absurd (true≢false h)

free_are_empty : (slots : List (Option Slot)) (free : List ℕ) → AreFree (map is_some slots) free → AreEmpty slots free
free_are_empty slots [] h = tt
free_are_empty slots (slot ∷ free) h =
    let (within, unused, once) = first_is_free (map is_some slots) slot free (h slot) in (
      omega (arith, within, length-map slots (is_some {T = Slot})),
      unflagged (get_or slots slot None) (sym (get_or-map is_some slots slot None) ∙ unused),
      once,
      free_are_empty slots free (fewer_free (map is_some slots) slot free h),
    )

pub free_slots_empty : FreeSlotsEmpty
free_slots_empty limits steps ok =
    let sound = (sound_along limits ok steps).heap in
    record {
      empty = free_are_empty (run limits steps).heap.slots (run limits steps).heap.free (λ k. omega (arith, sound.rest.each k));
    }
