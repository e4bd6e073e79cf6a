-- A step that isn't the sweep's frees nothing.
use Rattle.std.proofs.Common.{◌≡◌, ℕ, ◌≤◌, List, [], ◌∷◌, ◌++◌, length, None, refl, sym, ap, ◌∙◌, subst, arith}
use Rattle.std.proofs.lemmas.Option.{none-some}
use Rattle.proof_slots.specs.Vocabulary.{Heap, taken, take_from, with_main, with_prev, Outcome, Step, handle_of, State, first_state, action_of, begun_operation, next_state, run, run_from, Moves}
use Rattle.proof_slots.specs.Vocabulary.{Begins, Ends, Sweeps, GivesUp}
use Rattle.machine_model.specs.Moves.{Goes}
use Rattle.machine_model.proofs.Along.{kept_by_moves, run-append}
use Rattle.machine_model.proofs.HeapMoves.{HeapMoves, Stays, Takes, Publishes, Restores, Commit, Fail, Frees, acted_heap, begin_heap}
use Rattle.proof_slots.specs.Unswept.{IsNoSweep, HasNoSweeps, FreeAtTheEnd}

pub unswept_moves : (state : State) (s : Step) (o : Outcome) (after : State) → IsNoSweep s → Moves state s o after → HeapMoves state.heap None after.heap
unswept_moves state s o after quiet (Begins {actor} {call} {number} d) = subst (HeapMoves state.heap None) (sym (begin_heap state actor call (begun_operation state call number))) Stays
unswept_moves state s o after quiet (Goes {actor} {operation} d is a g) = acted_heap _ None (handle_of operation.call) (action_of state operation)
unswept_moves state s o after quiet (Ends d is a) = Stays
unswept_moves state s o after quiet (Sweeps spent) = absurd quiet
unswept_moves state s o after quiet (GivesUp d is a) = Stays

-- what no effect but freeing breaks holds along a list without sweeps
pub unswept_along : (P : Heap → Type 0) → ((heap after : Heap) → HeapMoves heap None after → P heap → P after) → (steps : List Step) (state : State) → HasNoSweeps steps →
    P state.heap → P (run_from state steps).heap
unfolding run_from
unswept_along P keeps [] state quiet h = h
unswept_along P keeps (s ∷ steps) state quiet h =
    unswept_along P keeps steps (next_state state s) quiet.1
    (kept_by_moves (λ (x : State). P x.heap) state s h (λ o after m. keeps state.heap after.heap (unswept_moves state s o after quiet.0 m) h))

-- the free slots don't become more
fewer : (n : ℕ) (heap after : Heap) → HeapMoves heap None after → length heap.free ≤ n → length after.free ≤ n
unfolding taken with_main with_prev
fewer n heap after Stays h = h
fewer n heap after (Takes node) h = by heap.free refl
  where
    by : (free : List ℕ) → heap.free ≡ free → length (take_from heap node free).free ≤ n
    by [] e = h
    by (slot ∷ free) e = omega (arith, h, ap length e)
fewer n heap after (Publishes i replaced fresh e) h = h
fewer n heap after (Restores i main previous e) h = h
fewer n heap after (Commit i main previous told e) h = h
fewer n heap after (Fail i main previous told e) h = h
fewer n heap after (Frees r e) h = absurd (none-some r e)

pub unswept_behind : (done rest : List Step) → HasNoSweeps (done ++ rest) → HasNoSweeps rest
unswept_behind [] rest quiet = quiet
unswept_behind (s ∷ done) rest quiet = unswept_behind done rest quiet.1

pub free_at_the_end : FreeAtTheEnd
free_at_the_end limits steps quiet some done rest s e =
    let behind : run limits steps ≡ run_from (run limits done) (s ∷ rest) = ap (run limits) e ∙ run-append (first_state limits) done (s ∷ rest) in
    let no_rest : HasNoSweeps (s ∷ rest) = unswept_behind done (s ∷ rest) (subst HasNoSweeps e quiet) in
    let shrinks = unswept_along (λ heap. length heap.free ≤ length (run limits done).heap.free) (fewer (length (run limits done).heap.free)) (s ∷ rest) (run limits done) no_rest (omega arith) in
    omega (arith, some, shrinks, ap (λ (x : State). length x.heap.free) behind)
