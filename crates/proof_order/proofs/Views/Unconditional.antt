-- What holds of every list of steps, without facts about contents.
use Rattle.std.proofs.Common.{◌≡◌, ◌≢◌, ℕ, zero, suc, ◌+◌, ◌<◌, Bool, true, false, cond, List, [], ◌∷◌, ◌++◌, length, get_or, Some, refl, sym, ap, ◌∙◌, subst, arith}
use Rattle.std.specs.List.Sorted.{IsPermutation, IsSortedBy}
use Rattle.std.proofs.lemmas.List.Sorted.{IsPermutation-refl, IsPermutation-trans, IsPermutation-cons, IsPermutation-swap}
use Rattle.proof_order.specs.Vocabulary.{Reply, NoSlots, HasEnded, OrderedAt, Place, is_before, placed, rising, ids_by_place, Bounds, Step, State, first_state, next_state, run, order_of, record_of}
use Rattle.proof_order.specs.Vocabulary.{record_from, Record, next_record, first_record}
use Rattle.proof_order.proofs.Places.Elements.{among_map, get_among}
use Rattle.proof_order.proofs.Places.Sorting.{Rises, rising_rises, rising_among}
use Rattle.proof_order.proofs.History.Books.{Books}
use Rattle.proof_order.proofs.History.AllBooks.{books_kept, first_books}
use Rattle.proof_order.proofs.History.Growing.{Answered, answered_kept, first_answered, Grows, grows_same, grows_trans, places_grow}
use Rattle.proof_order.specs.Beneath.machine_model.proofs.Recorded.{along_with, record-append, kept_by_notes}

-- ---- after each list of steps

pub books_of : (limits : Bounds) (steps : List Step) → Books (run limits steps) (record_of limits steps)
books_of limits = along_with limits Books (first_books limits) (λ steps s o after m books. books_kept (run limits steps) (record_of limits steps) s o after m books)

answered_of : (limits : Bounds) (steps : List Step) → Answered (record_of limits steps)
answered_of limits =
    along_with limits (λ state past. Answered past) (first_answered limits) (λ steps s o after m h. answered_kept (run limits steps) (record_of limits steps) s o after m h)

-- each answered operation stands in the order
pub ordered : (limits : Bounds) (steps : List Step) (id : ℕ) (answer : Reply) → HasEnded (record_of limits steps).events id answer → answer ≢ NoSlots →
    (i : ℕ) × OrderedAt (order_of (record_of limits steps)) i id
unfolding ids_by_place
ordered limits steps id answer ended other =
    let (p, within, same) = answered_of limits steps id answer ended other in
    let places = (record_of limits steps).places in
    let (i, at) = get_among (order_of (record_of limits steps)) p.id (among_map (λ (q : Place). q.id) (rising places) p (rising_among places p within)) in
    (i, at ∙ ap Some same)

-- the places grow along more steps
stay_from : (first : Record) (state : State) (past : Record) (more : List Step) → Grows first.places past.places → Grows first.places (record_from state past more).places
unfolding record_from
stay_from first state past [] g = g
stay_from first state past (s ∷ more) g =
    stay_from first (next_state state s) (next_record state past s) more
    (kept_by_notes (λ state q. Grows first.places q.places) state past s g (λ o after m. grows_trans first.places past.places _ g (places_grow state past s o after m)))

pub stay : (limits : Bounds) (steps more : List Step) → Grows (record_of limits steps).places (record_of limits (steps ++ more)).places
stay limits steps more =
    subst (λ (q : Record). Grows (record_of limits steps).places q.places) (sym (record-append (first_state limits) (first_record limits) steps more))
    (stay_from (record_of limits steps) (run limits steps) (record_of limits steps) more (grows_same (record_of limits steps).places (record_of limits steps).places refl))

-- ---- sorting

placed_moves_by : (p q : Place) (qs : List Place) (b : Bool) → IsPermutation (p ∷ qs) (placed p qs) → IsPermutation (p ∷ q ∷ qs) (cond b (p ∷ q ∷ qs) (q ∷ placed p qs))
placed_moves_by p q qs true rest = IsPermutation-refl (p ∷ q ∷ qs)
placed_moves_by p q qs false rest =
    IsPermutation-trans (p ∷ q ∷ qs) (q ∷ p ∷ qs) (q ∷ placed p qs)
    (IsPermutation-swap (p ∷ q ∷ qs) (q ∷ p ∷ qs) 0 1 (omega arith) (omega arith) refl)
    (IsPermutation-cons q (p ∷ qs) (placed p qs) rest)

placed_moves : (p : Place) (qs : List Place) → IsPermutation (p ∷ qs) (placed p qs)
placed_moves p [] = IsPermutation-refl (p ∷ [])
placed_moves p (q ∷ qs) = placed_moves_by p q qs (is_before p q) (placed_moves p qs)

pub rising_moves : (places : List Place) → IsPermutation places (rising places)
rising_moves [] = IsPermutation-refl []
rising_moves (p ∷ ps) = IsPermutation-trans (p ∷ ps) (p ∷ rising ps) (placed p (rising ps)) (IsPermutation-cons p ps (rising ps) (rising_moves ps)) (placed_moves p (rising ps))

sorted_by : (ps : List Place) → Rises ps → (k : ℕ) (d : Place) → k + 1 < length ps → is_before (get_or ps (k + 1) d) (get_or ps k d) ≡ false
sorted_by ps h k d lt = subst (λ n. is_before (get_or ps n d) (get_or ps k d) ≡ false) (omega arith) (next ps h k (omega (arith, lt)))
  where
    next : (ps : List Place) → Rises ps → (k : ℕ) → suc k < length ps → is_before (get_or ps (suc k) d) (get_or ps k d) ≡ false
    next [] h k lt = absurd (omega (arith, lt))
    next (p ∷ []) h k lt = absurd (omega (arith, lt))
    next (p ∷ q ∷ ps) h zero lt = h.0.0
    next (p ∷ q ∷ ps) h (suc k) lt = next (q ∷ ps) h.1 k (omega (arith, lt))

pub rising_sorted : (places : List Place) → IsSortedBy is_before (rising places)
rising_sorted places k d low lt = sorted_by (rising places) (rising_rises places) k d lt
