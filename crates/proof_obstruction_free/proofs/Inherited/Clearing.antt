-- CLEAN leaves the main nodes of all other indirections.
use Rattle.std.proofs.Common.{◌≡◌, ℕ, ◌+◌, ◌*◌, ◌⊎◌, inl, inr, true, List, [], length, Option, arith}
use Rattle.std.proofs.Math.Nat.{mul-le-mul_right}
use Rattle.proof_obstruction_free.specs.Vocabulary.{Ref, entries_of, new_try, current, reading, is_branch}
use Rattle.proof_obstruction_free.specs.Beneath.machine_model.specs.declared.lines.Line.TheVariants as line
use Rattle.proof_obstruction_free.specs.Beneath.machine_model.specs.declared.lines.Purpose.TheVariants as purpose
use Rattle.proof_obstruction_free.specs.Beneath.machine_model.specs.declared.repairs.CleanLine.TheVariants as clean
use Rattle.proof_obstruction_free.specs.Alone.{IsWeight, KeepsBut, Lone, Stands, Within, WordStays, node}
use Rattle.proof_obstruction_free.specs.Keys.{IsContracted}
use Rattle.proof_obstruction_free.specs.Machines.{IsRead, IsSwapped, Machines}
use Rattle.proof_obstruction_free.specs.Stepping.{Stepping}
use Rattle.proof_obstruction_free.proofs.Clean.Comes.{Cleans, goes_from}
use Rattle.proof_obstruction_free.proofs.Clean.First.{Begins, Begun, begun_within, current_main, current_read, current_reads}
use Rattle.proof_obstruction_free.proofs.Renew.Nodes.{few_of_branch}
use Rattle.proof_obstruction_free.proofs.Step.Within.{bind, here, keeps_but, keeps_but_on, map, stays_on, weaken}

module _ (a : Lone) (weight : ℕ → ℕ) (c : ℕ) (heavy : IsWeight a weight) (steps : Stepping a) (machines : Machines a weight c) (path : List Ref) (g : Option ℕ) where
  abbrev W : (ℕ → Type 0) → ℕ → ℕ → Type 0
  W = Within a weight

  pub record IsCleared (t u : ℕ) : Type 0 where
    pub stands : Stands a u g new_try
    pub keeps : KeepsBut a t u (current path)
    pub word : WordStays a t u

  later : (t u v : ℕ) → KeepsBut a t u (current path) → WordStays a t u → IsCleared u v → IsCleared t v
  later t u v keeps word x = record { stands = x.stands; keeps = keeps_but_on a t u v (current path) keeps x.keeps; word = stays_on a t u v word x.word }

  after_swap : (main fresh : Ref) (t u : ℕ) → IsSwapped a weight c t g purpose.Clean (current path) main fresh u → IsCleared t u
  after_swap main fresh t u x = record { stands = x.stands; keeps = x.keeps; word = x.word }

  done : (main : Ref) (t u : ℕ) → Cleans a steps weight c heavy machines g path main [] t u → W (IsCleared t) 10 u
  done main t u x = by x.to.so
    where
      by : (Stands a u g new_try × (x.to.done ≡ entries_of (node a main))) ⊎ IsContracted a weight c g path main x.to.done u → W (IsCleared t) 10 u
      by (inl s) = weaken a weight (IsCleared t) 0 10 u (omega arith) (here a weight (IsCleared t) u (record { stands = s.0; keeps = keeps_but a t u (current path) x.to.keeps; word = x.to.word }))
      by (inr y) =
          map a weight (IsSwapped a weight c u g purpose.Clean (current path) main y.fresh) (IsCleared t) 10 u
          (λ v past within w. later t u v (keeps_but a t u (current path) x.to.keeps) x.to.word (after_swap main y.fresh u v w))
          (machines.swaps_first purpose.Clean (current path) main y.fresh u g y.stands)

  begun : (main : Ref) (t u : ℕ) → Begun a steps g path main t u → W (IsCleared t) (32 * (c + 2) + 12) u
  begun main t u x = by x.so
    where
      by : Begins a steps g path main u ⊎ ((is_branch (node a main) ≡ true → ⊥) × Stands a u g new_try) → W (IsCleared t) (32 * (c + 2) + 12) u
      by (inl y) =
          let n = length (entries_of (node a main)) in
          let few = mul-le-mul_right (c + 2) (few_of_branch a main y.branch) in
          weaken a weight (IsCleared t) (n * (c + 2) + 2 + 10) (32 * (c + 2) + 12) u (omega (arith, few))
          (bind a weight (Cleans a steps weight c heavy machines g path main [] u) (IsCleared t) (n * (c + 2) + 2) 10 u
          (goes_from a steps weight c heavy machines g path main n [] u (omega arith) y.stands)
          (λ v past within z.
          map a weight (IsCleared u) (IsCleared t) 10 v (λ w after in_time k. later t u w (keeps_but a t u (current path) x.calm.keeps) x.calm.word k) (done main u v z)))
      by (inr s) =
          weaken a weight (IsCleared t) 0 (32 * (c + 2) + 12) u (omega arith)
          (here a weight (IsCleared t) u (record { stands = s.1; keeps = keeps_but a t u (current path) x.calm.keeps; word = x.calm.word }))

  -- from its first line
  pub cleared : (t : ℕ) → Stands a t g (line.Clean (clean.Read path (reading (current path)))) → W (IsCleared t) (33 * (c + 2) + 11) t
  cleared t s =
      weaken a weight (IsCleared t) (c + (1 + (32 * (c + 2) + 12))) (33 * (c + 2) + 11) t (omega arith)
      (bind a weight (IsRead a weight c t g (current_main path) (current path)) (IsCleared t) c (1 + (32 * (c + 2) + 12)) t
      (machines.reads_first (current_read path (current path)) (current_main path) (current path) (current_reads a.own path (current path)) t g s)
      (λ u past within read.
      map a weight (IsCleared u) (IsCleared t) (1 + (32 * (c + 2) + 12)) u (λ v after in_time x. later t u v (keeps_but a t u (current path) read.keeps) read.word x)
      (bind a weight (Begun a steps g path read.main u) (IsCleared u) 1 (32 * (c + 2) + 12) u (begun_within a steps g path read.main weight heavy u read.stands)
      (λ v after in_time x. begun read.main u v x))))
