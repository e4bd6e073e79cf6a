-- From any of its lines CLEAN comes to a new try, where one actor alone takes steps.
use Rattle.std.proofs.Common.{◌≡◌, ℕ, suc, ◌+◌, ◌-◌, ◌*◌, ◌<◌, ◌≤◌, ◌⊎◌, inl, inr, true, List, [], ◌∷◌, ◌++◌, length, Option, arith}
use Rattle.std.proofs.lemmas.Nat.{mul-le}
use Rattle.std.proofs.lemmas.List.{length-append}
use Rattle.proof_obstruction_free.specs.Vocabulary.{Ref, entries_of, Read, new_try, current, IsInUse, AMain, Is, is_branch, done_wants, read_wants}
use Rattle.proof_obstruction_free.specs.Beneath.machine_model.specs.declared.lines.Line.TheVariants as line
use Rattle.proof_obstruction_free.specs.Beneath.machine_model.specs.declared.lines.Purpose.TheVariants as purpose
use Rattle.proof_obstruction_free.specs.Beneath.machine_model.specs.declared.repairs.CleanLine.TheVariants as clean
use Rattle.proof_obstruction_free.specs.Beneath.proof_memory.proofs.Claims.Uses.{first_hold}
use Rattle.proof_obstruction_free.specs.Alone.{Lone, Stands, Within, IsWeight, node}
use Rattle.proof_obstruction_free.specs.Keys.{IsContracted, CleansOn}
use Rattle.proof_obstruction_free.specs.Machines.{Machines, IsSwapped, WasRead}
use Rattle.proof_obstruction_free.specs.Stepping.{Stepping}
use Rattle.proof_obstruction_free.proofs.Renew.Nodes.{sees_more, few_of_branch}
use Rattle.proof_obstruction_free.proofs.Clean.Lines.{Gone, tomb_on_within, read_on_within}
use Rattle.proof_obstruction_free.proofs.Clean.Made.{Contracts, contracted_within}
use Rattle.proof_obstruction_free.proofs.Clean.First.{Begins, Begun, begun_within, current_read, current_main, current_reads}
use Rattle.proof_obstruction_free.proofs.Clean.Comes.{Cleans, goes_from, entry_from}
use Rattle.proof_obstruction_free.proofs.Step.Within.{here, weaken, map, bind}

module _ (a : Lone) (steps : Stepping a) (weight : ℕ → ℕ) (c : ℕ) (heavy : IsWeight a weight) (machines : Machines a weight c) (g : Option ℕ) (path : List Ref) where
  abbrev Anew : ℕ → Type 0
  Anew u = Stands a u g new_try

  abbrev WithinOn : ℕ → ℕ → Type 0
  WithinOn = Within a weight Anew

  -- the SWAP ends, with success or not
  swap_on : (main : Ref) (done : List Ref) (t : ℕ) → IsContracted a weight c g path main done t → WithinOn 10 t
  swap_on main done t x =
      map a weight (IsSwapped a weight c t g purpose.Clean (current path) main x.fresh) Anew 10 t (λ u past within y. y.stands)
      (machines.swaps_first purpose.Clean (current path) main x.fresh t g x.stands)

  cleans_on_by : (main : Ref) (done : List Ref) (t u : ℕ) → Cleans a steps weight c heavy machines g path main done t u → WithinOn 10 u
  cleans_on_by main done t u x = by_so x.to.so
    where
      by_so : (Stands a u g new_try × (x.to.done ≡ entries_of (node a main))) ⊎ IsContracted a weight c g path main x.to.done u → WithinOn 10 u
      by_so (inl s) = weaken a weight Anew 0 10 u (omega arith) (here a weight Anew u s.0)
      by_so (inr y) = swap_on main x.to.done u y

  -- with so many entries left
  from_it : (n left : ℕ) (main : Ref) (done : List Ref) (t : ℕ) → left ≤ n → Within a weight (Cleans a steps weight c heavy machines g path main done t)
      (left * (c + 2) + 2) t → WithinOn (n * (c + 2) + 12) t
  from_it n left main done t few first =
      let low : left * (c + 2) ≤ n * (c + 2) = mul-le left (c + 2) n (c + 2) few (omega arith) in
      weaken a weight Anew (left * (c + 2) + 2 + 10) (n * (c + 2) + 12) t (omega (arith, low))
      (bind a weight (Cleans a steps weight c heavy machines g path main done t) Anew (left * (c + 2) + 2) 10 t first (λ u past within x. cleans_on_by main done t u x))

  from_entry : (main : Ref) (done : List Ref) (t : ℕ) → Stands a t g (line.Clean (clean.Entry path main done)) → WithinOn (32 * (c + 2) + 12) t
  from_entry main done t s =
      let seen = sees_more a steps t s.until path main done (steps.wants t g (line.Clean (clean.Entry path main done)) s) in
      let left = length (entries_of (node a main)) - length done in
      from_it 32 left main done t (omega (arith, seen.few)) (entry_from a steps weight c heavy machines g path main done t left s (omega (arith, seen.more)))

  -- behind an entry
  from_gone : (main : Ref) (done : List Ref) (t : ℕ) → length done < length (entries_of (node a main)) → length (entries_of (node a main)) ≤ 32 → (u : ℕ) →
      Gone a steps g path main done weight c heavy machines u → WithinOn (31 * (c + 2) + 12) u
  from_gone main done t low few u x =
      let left = length (entries_of (node a main)) - suc (length done) in
      from_it 31 left main (done ++ x.put ∷ []) u (omega (arith, few))
      (goes_from a steps weight c heavy machines g path main left (done ++ x.put ∷ []) u (omega (arith, low, length-append done (x.put ∷ []))) x.stands)

  from_child : (main : Ref) (done : List Ref) (r : Read) (t : ℕ) → Stands a t g (line.Clean (clean.Child path main done r)) → WithinOn (c + 7 + (31 * (c + 2) + 12)) t
  from_child main done r t s =
      let seen = sees_more a steps t s.until path main done
      (first_hold (IsInUse (a.states t).heap) (a.states t).heap (done_wants path main done) (read_wants r.indirection r.line) (steps.wants t g (line.Clean (clean.Child path main done r)) s)) in
      bind a weight (Gone a steps g path main done weight c heavy machines) Anew (c + 7) (31 * (c + 2) + 12) t
      (read_on_within a steps g path main done weight c heavy machines r.indirection r.line t s) (λ u past within x. from_gone main done t seen.more seen.few u x)

  from_tomb : (main : Ref) (done : List Ref) (child : Ref) (t : ℕ) → Stands a t g (line.Clean (clean.Tomb path main done child)) → WithinOn (1 + (31 * (c + 2) + 12)) t
  from_tomb main done child t s =
      let seen = sees_more a steps t s.until path main done
      (first_hold (IsInUse (a.states t).heap) (a.states t).heap (done_wants path main done) (Is child AMain ∷ []) (steps.wants t g (line.Clean (clean.Tomb path main done child)) s)) in
      bind a weight (Gone a steps g path main done weight c heavy machines) Anew 1 (31 * (c + 2) + 12) t
      (tomb_on_within a steps g path main done weight c heavy machines child t s) (λ u past within x. from_gone main done t seen.more seen.few u x)

  from_contracted : (main : Ref) (done : List Ref) (t : ℕ) → Stands a t g (line.Clean (clean.Contracted path main done)) → WithinOn 12 t
  from_contracted main done t s =
      bind a weight (Contracts a steps weight c heavy g path main done t) Anew 2 10 t (contracted_within a steps weight c heavy g path main done t s) (λ u past within x. swap_on main done u x.so)

  from_begun : (main : Ref) (t u : ℕ) → Begun a steps g path main t u → WithinOn (32 * (c + 2) + 12) u
  from_begun main t u x = by_so x.so
    where
      by_so : Begins a steps g path main u ⊎ ((is_branch (node a main) ≡ true → ⊥) × Stands a u g new_try) → WithinOn (32 * (c + 2) + 12) u
      by_so (inl y) =
          from_it 32 (length (entries_of (node a main))) main [] u (few_of_branch a main y.branch)
          (goes_from a steps weight c heavy machines g path main (length (entries_of (node a main))) [] u (omega arith) y.stands)
      by_so (inr s) = weaken a weight Anew 0 (32 * (c + 2) + 12) u (omega arith) (here a weight Anew u s.1)

  from_main : (main : Ref) (t : ℕ) → Stands a t g (current_main path main) → WithinOn (1 + (32 * (c + 2) + 12)) t
  from_main main t s = bind a weight (Begun a steps g path main t) Anew 1 (32 * (c + 2) + 12) t (begun_within a steps g path main weight heavy t s) (λ u past within x. from_begun main t u x)

  from_read : (r : Read) (t : ℕ) → Stands a t g (line.Clean (clean.Read path r)) → WithinOn (c + 6 + (1 + (32 * (c + 2) + 12))) t
  from_read r t s =
      bind a weight (WasRead a weight c t g (current_main path)) Anew (c + 6) (1 + (32 * (c + 2) + 12)) t
      (machines.reads_on (current_read path r.indirection) (current_main path) r.indirection (current_reads a.own path r.indirection) t g r.line s) (λ u past within x. from_main x.main u x.stands)

module _ (a : Lone) (steps : Stepping a) (weight : ℕ → ℕ) (c : ℕ) (heavy : IsWeight a weight) (machines : Machines a weight c) where
  soon : (n t : ℕ) (g : Option ℕ) → n ≤ 33 * (c + 2) + 20 → Within a weight (λ u. Stands a u g new_try) n t → Within a weight (λ u. Stands a u g new_try) (33 * (c + 2) + 20) t
  soon n t g le = weaken a weight (λ u. Stands a u g new_try) n (33 * (c + 2) + 20) t le

  pub cleans_on : CleansOn a weight c
  cleans_on (clean.Read path r) t g s = soon _ t g (omega arith) (from_read a steps weight c heavy machines g path r t s)
  cleans_on (clean.Main path main) t g s = soon _ t g (omega arith) (from_main a steps weight c heavy machines g path main t s)
  cleans_on (clean.Entry path main done) t g s = soon _ t g (omega arith) (from_entry a steps weight c heavy machines g path main done t s)
  cleans_on (clean.Child path main done r) t g s = soon _ t g (omega arith) (from_child a steps weight c heavy machines g path main done r t s)
  cleans_on (clean.Tomb path main done child) t g s = soon _ t g (omega arith) (from_tomb a steps weight c heavy machines g path main done child t s)
  cleans_on (clean.Contracted path main done) t g s = soon _ t g (omega arith) (from_contracted a steps weight c heavy machines g path main done t s)
