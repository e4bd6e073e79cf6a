-- A main node that stands undecided weighs: who swapped it in has it.
use Rattle.std.proofs.Common.{◌≡◌, ℕ, ◌≤◌, ◌==◌, Bool, true, false, refl, sym, ap, ◌∙◌, eq-eqb, arith}
use Rattle.proof_obstruction_free.specs.Vocabulary.{Ref, Prev, no_ref, prev_of, node_under, main_word, prev_word, ReadLine, Decides}
use Rattle.proof_obstruction_free.specs.Beneath.slot_arena.specs.declared.nodes.Prev.TheVariants as prev
use Rattle.proof_obstruction_free.specs.Beneath.proof_memory.specs.Wants.{is_indirection}
use Rattle.proof_obstruction_free.specs.Beneath.proof_memory.proofs.Claims.Nodes.{no_main}
use Rattle.proof_obstruction_free.specs.Beneath.proof_memory.proofs.Heap.NoRef.{nothing_stands}
use Rattle.proof_obstruction_free.specs.Beneath.proof_commits.proofs.Known.Owners.{Owner}
use Rattle.proof_obstruction_free.specs.Alone.{Lone}
use Rattle.proof_obstruction_free.specs.Weighing.{Sees}
use Rattle.proof_obstruction_free.proofs.Read.Words.{w, p, sound}
use Rattle.proof_obstruction_free.proofs.Weights.FailedOwners.{FailedOwner, failed_owned}
use Rattle.proof_obstruction_free.proofs.Weights.FineSums.{sum_has}
use Rattle.proof_obstruction_free.proofs.Weights.FineWeight.{node_weight, stage_weight}
use Rattle.proof_obstruction_free.proofs.Weights.FineSteps.{actor_weight, in_range}
use Rattle.proof_obstruction_free.proofs.Weights.FinePays.{fine}

module _ (a : Lone) where
  -- ---- who swapped a node in weighs for it

  pub pending_weight : (t k : ℕ) (i below m q : Ref) (l : ReadLine) → (w a).stage t k ≡ Decides i below m l → prev_word a.states t m ≡ prev.Pending q → actor_weight a t k ≡ 5
  pending_weight t k i below m q l stage pending = ap (stage_weight (w a) t) stage ∙ ap (λ v. node_weight v (main_word a.states t i == m)) pending

  pub owner : (t : ℕ) → t ≤ a.last → (m q : Ref) → prev_word a.states t m ≡ prev.Pending q → Owner (w a) t m q
  owner t within m q pending = (sound a t within).owned m q pending

  pub weighs : (t : ℕ) (i m q : Ref) → a.start ≤ t → t ≤ a.last → Sees a t i m (prev.Pending q) → 5 ≤ fine a t
  weighs t i m q since within sees =
      let o = owner t within m q sees.prev in
      let range = in_range a t o.actor within o.link q m o.line o.stage in
      let five = pending_weight t o.actor o.link q m q o.line o.stage sees.prev in
      let all = sum_has (actor_weight a t) o.actor a.limits.actors range.0 range.1 in
      omega (arith, five, all)

  -- what names an undecided node is an indirection
  link_seen : (t : ℕ) → t ≤ a.last → (i m : Ref) (v : Prev) → Sees a t i m v → (v ≡ prev.None → ⊥) → is_indirection (node_under a.states t i) ≡ true
  link_seen t within i m v sees undecided = by_test (is_indirection (node_under a.states t i)) refl
    where
      by_test : (b : Bool) → is_indirection (node_under a.states t i) ≡ b → is_indirection (node_under a.states t i) ≡ true
      by_test true e = e
      by_test false e =
          let none : m ≡ no_ref = sym sees.main ∙ no_main (node_under a.states t i) e in
          absurd (undecided (sym sees.prev ∙ ap (prev_word a.states t) none ∙ ap prev_of (nothing_stands a.run t within)))

  pub failed_owner : (t : ℕ) → t ≤ a.last → (i m q : Ref) → Sees a t i m (prev.Failed q) → FailedOwner (w a) t i m
  failed_owner t within i m q sees =
      failed_owned (p a) t within i m q (link_seen t within i m (prev.Failed q) sees (λ e. let wrong : prev.Failed q ≡ prev.None = e in cc)) sees.prev sees.main

  pub failed_weight : (t k : ℕ) (i below m q : Ref) (l : ReadLine) → (w a).stage t k ≡ Decides i below m l → prev_word a.states t m ≡ prev.Failed q →
      main_word a.states t i ≡ m → actor_weight a t k ≡ 1
  failed_weight t k i below m q l stage failed stands =
      ap (stage_weight (w a) t) stage ∙ ap (λ v. node_weight v (main_word a.states t i == m)) failed ∙ ap (node_weight (prev.Failed q)) (eq-eqb _ m stands)

  pub weighs_failed : (t : ℕ) (i m q : Ref) → a.start ≤ t → t ≤ a.last → Sees a t i m (prev.Failed q) → 1 ≤ fine a t
  weighs_failed t i m q since within sees =
      let o = failed_owner t within i m q sees in
      let range = in_range a t o.actor within i o.below m o.line o.stage in
      let one = failed_weight t o.actor i o.below m q o.line o.stage sees.prev sees.main in
      let all = sum_has (actor_weight a t) o.actor a.limits.actors range.0 range.1 in
      omega (arith, one, all)
