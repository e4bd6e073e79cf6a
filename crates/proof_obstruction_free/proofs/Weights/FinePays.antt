-- The fine weight, and how it changes in a step.
use Rattle.std.proofs.Common.{◌≡◌, ℕ, suc, ◌+◌, ◌*◌, ◌≤◌, sym, ◌∙◌, subst, arith}
use Rattle.proof_obstruction_free.specs.Vocabulary.{Action}
use Rattle.proof_obstruction_free.specs.Beneath.machine_model.proofs.Found.{found_within}
use Rattle.proof_obstruction_free.specs.Beneath.proof_generations.proofs.Handles.Running.{place_of_actor}
use Rattle.proof_obstruction_free.specs.Beneath.proof_commits.proofs.Known.Given.{ActsOn}
use Rattle.proof_obstruction_free.specs.Alone.{Lone, word, offer_weight}
use Rattle.proof_obstruction_free.specs.Stepping.{IsNoEnd}
use Rattle.proof_obstruction_free.specs.Weighing.{Acts}
use Rattle.proof_obstruction_free.proofs.Step.Keeps.{acts_so}
use Rattle.proof_obstruction_free.proofs.Ends.StandsAt.{StandsSome, stands_at, goes_on}
use Rattle.proof_obstruction_free.proofs.Weights.Offers.{weighs_at_most}
use Rattle.proof_obstruction_free.proofs.Weights.Flat.{line_acts}
use Rattle.proof_obstruction_free.proofs.Read.Words.{w, NonePending}
use Rattle.proof_obstruction_free.proofs.Weights.FineSums.{sum_to, sums_less, sums_pay, sum_most}
use Rattle.proof_obstruction_free.proofs.Weights.FineWeight.{stage_weight, stage_most}
use Rattle.proof_obstruction_free.proofs.Weights.NonePending.{IsNoPublish, none_pending}
use Rattle.proof_obstruction_free.proofs.Weights.FineSteps.{actor_weight, actors_at, for_same, each_lighter, others_lighter}

module _ (a : Lone) where
  -- what all actors weigh
  abbrev pub swapping : ℕ → ℕ
  swapping t = sum_to (actor_weight a t) a.limits.actors

  abbrev pub fine : ℕ → ℕ
  fine t = offer_weight (word a t) + swapping t

  -- it is at most this
  pub fine_at_most : (t : ℕ) → fine t ≤ 2 + 5 * a.limits.actors
  fine_at_most t =
      let most = sum_most (actor_weight a t) a.limits.actors (λ k. stage_most (w a) t ((w a).stage t k)) in
      let offer = weighs_at_most (word a t) in
      omega (arith, most, offer)

  -- ---- a step

  module _ (t : ℕ) (action : Action) (acts : Acts a t action) where
    some : StandsSome a t
    some = let more = acts.more in stands_at a t acts.since (omega (arith, more))

    not_end : IsNoEnd some.line
    not_end = goes_on a t some.generation some.line some.stands acts.more

    pub does : ActsOn a.states t action
    does = subst (ActsOn a.states t) (line_acts a t action acts some) (acts_so a t some.generation some.line some.stands acts.more)

    -- one that makes no node pending
    pub lighter : NonePending a t → swapping (suc t) ≤ swapping t
    lighter none =
        sums_less (actor_weight a t) (actor_weight a (suc t)) a.limits.actors (λ j within. each_lighter a t some.generation some.line some.stands acts.more not_end none j)

    pub quiet_lighter : IsNoPublish action → swapping (suc t) ≤ swapping t
    quiet_lighter quiet = lighter (none_pending a t action quiet does)

    -- one by which this actor weighs less for what it is about
    pub pays : IsNoPublish action → (k off on : ℕ) → (1 ≤ k) × (k ≤ a.limits.actors) → stage_weight (w a) (suc t) ((w a).stage t k) + off ≤ actor_weight a t k + on →
        swapping (suc t) + off ≤ swapping t + on
    pays quiet k off on range less =
        let none = none_pending a t action quiet does in
        let same = for_same a t some.generation some.line some.stands acts.more not_end none k in
        sums_pay (actor_weight a t) (actor_weight a (suc t)) k off on a.limits.actors
        (λ j apart. each_lighter a t some.generation some.line some.stands acts.more not_end none j) (omega (arith, same, less)) range.0 range.1

    -- to swap a node in costs the acting one at most five
    pub publishes : (k : ℕ) → k ≡ a.actor → (1 ≤ k) × (k ≤ a.limits.actors) → swapping (suc t) ≤ swapping t + 5
    publishes k own range =
        let most = stage_most (w a) (suc t) ((w a).stage (suc t) k) in
        let all = sums_pay (actor_weight a t) (actor_weight a (suc t)) k 0 5 a.limits.actors
        (λ j apart. others_lighter a t some.generation some.line some.stands acts.more not_end j (λ e. apart (e ∙ sym own))) (omega (arith, most)) range.0 range.1 in
        omega (arith, all)

  -- the actor is one of them
  pub actor_range : (t : ℕ) → t ≤ a.last → {action : Action} → Acts a t action → (1 ≤ a.actor) × (a.actor ≤ a.limits.actors)
  actor_range t within acts =
      let (k, place, runs) = place_of_actor (a.states t) a.actor acts.operation acts.runs in
      let inside = found_within (a.states t).actors k acts.operation runs in
      let long = actors_at a t within in
      (omega (arith, place), omega (arith, place, inside, long))
