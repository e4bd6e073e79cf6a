-- What the actors weigh over one step of an operation that is alone.
use Rattle.std.proofs.Common.{◌≡◌, ℕ, zero, suc, ◌<◌, ◌≤◌, length, Option, Some, None, refl, sym, ap, ◌∙◌, subst, arith}
use native.Mathlib.Decide.{ℕ_discrete}
use Rattle.std.proofs.lemmas.List.{length-replicate}
use Rattle.proof_obstruction_free.specs.Vocabulary.{Ref, Line, Operation, State, first_state, operation_of, action_of, line_action, line_after, Rests, Decides, stage_of, stage_of_actor}
use Rattle.proof_obstruction_free.specs.Beneath.machine_model.proofs.Actors.{marks_by}
use Rattle.proof_obstruction_free.specs.Beneath.machine_model.proofs.Found.{found_within}
use Rattle.proof_obstruction_free.specs.Beneath.machine_model.proofs.Times.{at_each_time}
use Rattle.proof_obstruction_free.specs.Beneath.proof_commits.specs.Protocol as Word
use Rattle.proof_obstruction_free.specs.Beneath.proof_commits.proofs.Course.Finals.{effect}
use Rattle.proof_obstruction_free.specs.Beneath.proof_commits.proofs.Known.StepsAt.{mark_stage, go_others, actor_counts}
use Rattle.proof_obstruction_free.specs.Beneath.proof_commits.proofs.Lines.Turns.{line_turn}
use Rattle.proof_obstruction_free.specs.Beneath.proof_commits.proofs.Words.Along.{line_facts, remembers_at}
use Rattle.proof_obstruction_free.specs.Beneath.proof_generations.proofs.Handles.Running.{actors_length}
use Rattle.proof_obstruction_free.specs.Alone.{Lone, Stands}
use Rattle.proof_obstruction_free.specs.Stepping.{IsNoEnd}
use Rattle.proof_obstruction_free.proofs.Step.Next.{takes, next, no_end, own_run}
use Rattle.proof_obstruction_free.proofs.Step.Keeps.{after_so, goes_by, noted_so}
use Rattle.proof_obstruction_free.proofs.Read.Words.{w, p, sound, NonePending}
use Rattle.proof_obstruction_free.proofs.Weights.FineWeight.{stage_weight, still_lighter, own_lighter}
use Rattle.proof_obstruction_free.specs.Beneath.proof_commits.proofs.Known.Acts.{known_run}

module _ (a : Lone) where
  -- ---- which actors weigh

  -- what an actor weighs before step t
  abbrev pub actor_weight : ℕ → ℕ → ℕ
  actor_weight t k = stage_weight (w a) t ((w a).stage t k)

  pub actors_at : (t : ℕ) → t ≤ a.last → length (a.states t).actors ≡ a.limits.actors
  unfolding first_state
  actors_at t within =
      at_each_time a.run (λ s. length s.actors ≡ a.limits.actors) (length-replicate _ _) (λ before s o after m e. actors_length before s o after m ∙ e) t within

  -- who is in a SWAP is one of them
  pub in_range : (t k : ℕ) → t ≤ a.last → (i x f : Ref) (l : _) → (w a).stage t k ≡ Decides i x f l → (1 ≤ k) × (k ≤ a.limits.actors)
  in_range t zero within i x f l stage = let wrong : Rests ≡ Decides i x f l = stage in let bad : ⊥ = cc in absurd bad
  in_range t (suc k) within i x f l stage = by_operation (operation_of (a.states t) (suc k)) refl
    where
      by_operation : (o : Option Operation) → operation_of (a.states t) (suc k) ≡ o → (1 ≤ suc k) × (suc k ≤ a.limits.actors)
      by_operation None e = let wrong : Rests ≡ Decides i x f l = sym (ap stage_of_actor e) ∙ stage in let bad : ⊥ = cc in absurd bad
      by_operation (Some operation) e =
          let inside = found_within (a.states t).actors k operation e in
          let long = actors_at t within in
          (omega arith, omega (arith, inside, long))

  module _ (t : ℕ) (g : Option ℕ) (l : Line) (s : Stands a t g l) (more : t < a.last) (not : IsNoEnd l) where
    -- the others are about the same
    same_stage : (j : ℕ) → (j ≡ a.actor → ⊥) → (w a).stage (suc t) j ≡ (w a).stage t j
    same_stage j apart =
        ap (λ (x : State). stage_of_actor (operation_of x j)) (after_so a t g l s more not)
        ∙ ap stage_of_actor (go_others (a.states t) a.actor s.operation (actor_counts (a.states t) a.actor s.operation s.runs) j apart)
        ∙ mark_stage (marks_by (a.states t) (Some s.operation)) (operation_of (a.states t) j)

    -- its own turn
    own_turn : Word.Moves (w a) t a.actor ((w a).stage t a.actor) ((w a).stage (suc t) a.actor)
    own_turn =
        let moved = takes a t s.since more in
        let after = next a t g l s more not in
        let goes = goes_by (action_of (a.states t) s.operation) (λ answer e. no_end (a.states t) s.operation l not answer (ap (line_action (a.states t) s.operation) (sym s.line) ∙ e)) in
        let turn = line_turn a.limits a.states a.last (known_run (own_run a)) t more a.actor s.operation s.operation.line goes (record {
          facts = line_facts a.limits a.states a.last (known_run (own_run a)) t more a.actor s.operation moved.outcome moved.moves s.runs (noted_so a t g l s more not);
          remembers = remembers_at a.limits a.states a.last (known_run (own_run a)) t s.until a.actor s.operation s.runs;
        }) in
        subst (λ x. Word.Moves (w a) t a.actor x ((w a).stage (suc t) a.actor)) (sym (ap stage_of_actor s.runs))
        (subst (λ x. Word.Moves (w a) t a.actor (stage_of s.operation.line) x)
        (sym (ap stage_of_actor after.runs ∙ ap stage_of after.line ∙ ap (λ x. stage_of (line_after (a.states t) s.operation x)) (sym s.line))) turn)

    -- each actor weighs no more than for what it was about
    pub for_same : NonePending a t → (j : ℕ) → actor_weight (suc t) j ≤ stage_weight (w a) (suc t) ((w a).stage t j)
    for_same none j = elim (ℕ_discrete j a.actor) [
      | yes own ↦
          subst (λ k. actor_weight (suc t) k ≤ stage_weight (w a) (suc t) ((w a).stage t k)) (sym own)
          (own_lighter (w a) t a.actor _ _ ((sound a t s.until).staged a.actor) none own_turn)
      | no apart ↦ let same = ap (stage_weight (w a) (suc t)) (same_stage j apart) in omega (arith, same)
    ]

    -- what was about before weighs no more
    staged_lighter : (j : ℕ) → stage_weight (w a) (suc t) ((w a).stage t j) ≤ actor_weight t j
    staged_lighter j = still_lighter (w a) t j (sound a t s.until) (effect (p a) t more) ((w a).stage t j) ((sound a t s.until).staged j)

    pub each_lighter : NonePending a t → (j : ℕ) → actor_weight (suc t) j ≤ actor_weight t j
    each_lighter none j =
        let same = for_same none j in
        let less = staged_lighter j in
        omega (arith, same, less)

    pub others_lighter : (j : ℕ) → (j ≡ a.actor → ⊥) → actor_weight (suc t) j ≤ actor_weight t j
    others_lighter j apart =
        let same = ap (stage_weight (w a) (suc t)) (same_stage j apart) in
        let less = staged_lighter j in
        omega (arith, same, less)
