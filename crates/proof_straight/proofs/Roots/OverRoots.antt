-- Steps of a call that runs alone that change roots, or draw a generation.
use Rattle.std.proofs.Common.{◌≡◌, ℕ, zero, suc, ◌+◌, ◌-◌, ◌<◌, true, false, cond, is_some, List, [], ◌∷◌, ◌++◌, flat_map, map, set, Option, Some, None, Ok, refl, sym, ap, ◌∙◌, subst, eq-eqb, arith}
use Rattle.std.specs.List.{list_any}
use Rattle.std.proofs.lemmas.Bool.{true≢false}
use Rattle.std.proofs.lemmas.List.{set-set, get_or-set_same}
use Rattle.proof_straight.specs.Vocabulary.{Call, Heap, Ref, limbo_after, Action, Operation, Root, RootWord, acted, marked, operation_after, handle_of, refs_of_operation, refs_of_root, settled}
use Rattle.proof_straight.specs.Vocabulary.{next, GoesOn, action_of, kind_of, State, rewritten, root_at, with_operation, with_word, word_at, word_of, Progress, Record, noted, noted_progress}
use Rattle.proof_straight.specs.Vocabulary.{progress_of, told_in}
use Rattle.machine_model.specs.declared.steps.Outcome.TheVariants as outcome
use Rattle.machine_model.specs.declared.steps.Step.TheVariants as step
use Rattle.machine_model.proofs.Found.{found_within}
use Rattle.proof_straight.specs.Drafts.{Draft, redrafted}
use Rattle.proof_straight.specs.Running.{GoesAlone, goes}
use Rattle.proof_straight.proofs.Steps.Alone.{Alone, goes_by, held_standing, stand, steps_by, tells_so}
use Rattle.proof_straight.proofs.Steps.Going.{Stands}

-- the state at rest, with these roots and this next generation
abbrev pub rebased : State → List (Option Root) → ℕ → State
rebased base roots generations = record base { roots = roots; generations = generations }

rebased_alone : (base : State) (k : ℕ) (roots : List (Option Root)) (generations : ℕ) → Alone base k → Alone (rebased base roots generations) k
rebased_alone base k roots generations alone = record { actor = alone.actor; within = alone.within; rest = alone.rest }

none_marked : (xs : List (Option Operation)) (id : ℕ) → list_any is_some xs ≡ false → map (marked id) xs ≡ xs
none_marked [] id rest = refl
none_marked (Some other ∷ xs) id rest = absurd (true≢false rest)
none_marked (None ∷ xs) id rest = ap (λ l. None ∷ l) (none_marked xs id rest)

-- where only one runs a mark is its own
pub mark_alone : (xs : List (Option Operation)) (k id : ℕ) (operation : Operation) → list_any is_some xs ≡ false → operation.id ≡ id →
    map (marked id) (set xs k (Some operation)) ≡ set xs k (Some (record operation { is_marked = true }))
mark_alone [] k id operation rest same = refl
mark_alone (Some other ∷ xs) k id operation rest same = absurd (true≢false rest)
mark_alone (None ∷ xs) zero id operation rest same =
    ap (λ b. Some (cond b (record operation { is_marked = true }) operation) ∷ map (marked id) xs) (eq-eqb operation.id id same)
    ∙ ap (λ l. Some (record operation { is_marked = true }) ∷ l) (none_marked xs id rest)
mark_alone (None ∷ xs) (suc k) id operation rest same = ap (λ l. None ∷ l) (mark_alone xs k id operation rest same)

module _ (base : State) (k : ℕ) (alone : Alone base k) (roots : List (Option Root)) (generations : ℕ) where
  abbrev after : State
  after = rebased base roots generations

  settles_over : (draft : Draft) (operation becomes : Operation) (n : ℕ) (heap : Heap) (newest : Ref) (xs : List (Option Operation)) → xs ≡ set base.actors k (Some becomes) →
      settled (stand base k draft operation n) (record (stand base k draft operation n) { heap = heap; roots = roots; generations = generations; actors = xs })
      ≡ stand after k (redrafted after draft heap becomes.private newest) becomes (n + 1)
  settles_over draft operation becomes n heap newest xs same =
      ap (λ ys. left_by ys (flat_map refs_of_root roots ++ flat_map refs_of_operation ys)) same
      ∙ ap (λ held. left_by (set base.actors k (Some becomes)) held) (held_standing after k (rebased_alone base k roots generations alone) draft becomes n)
    where
      left_by : List (Option Operation) → List Ref → State
      left_by ys held = record after { heap = heap; limbo = limbo_after heap held base.epoch draft.limbo; actors = ys; begun = base.begun + 1; steps = n + 1 }

  -- a step that does this to the state
  steps_over : (draft : Draft) (operation next_operation becomes : Operation) (n : ℕ) (heap : Heap) (newest : Ref) (xs : List (Option Operation)) (action : Action) →
      n < base.limits.steps → GoesOn action → action_of (stand base k draft operation n) operation ≡ action → operation_after (stand base k draft operation n) operation ≡ next_operation →
      acted (with_operation (stand base k draft operation n) (suc k) (Some next_operation)) (handle_of operation.call) action
      ≡ record (stand base k draft operation n) { heap = heap; roots = roots; generations = generations; actors = xs } →
      xs ≡ set base.actors k (Some becomes) →
      next (stand base k draft operation n) (step.Go (suc k)) ≡ Ok (outcome.Went (kind_of action), stand after k (redrafted after draft heap becomes.private newest) becomes (n + 1))
  steps_over draft operation next_operation becomes n heap newest xs action left on is comes acts same =
      steps_by base k alone draft operation n left action is ∙ goes_by (stand base k draft operation n) (suc k) operation next_operation action on is comes
      ∙ ap (λ s. Ok (outcome.Went (kind_of action), settled (stand base k draft operation n) s)) acts
      ∙ ap (λ s. Ok (outcome.Went (kind_of action), s)) (settles_over draft operation becomes n heap newest xs same)

  -- the same of a call that goes on alone, by what it tells
  pub moves_over : {so_far : Record} (state : State) (past : Record) (call : Call) (draft : Draft) (operation next_operation becomes : Operation) (c : ℕ) (heap : Heap) (newest : Ref)
      (xs : List (Option Operation)) (action : Action) (p : Progress) → Stands state past k call so_far base draft operation c → GoesOn action →
      action_of (stand base k draft operation (state.steps + suc c)) operation ≡ action → progress_of (stand base k draft operation (state.steps + suc c)) operation ≡ p →
      operation_after (stand base k draft operation (state.steps + suc c)) operation ≡ next_operation →
      acted (with_operation (stand base k draft operation (state.steps + suc c)) (suc k) (Some next_operation)) (handle_of operation.call) action
      ≡ record (stand base k draft operation (state.steps + suc c)) { heap = heap; roots = roots; generations = generations; actors = xs } →
      xs ≡ set base.actors k (Some becomes) →
      Stands state past k call (noted_progress so_far (state.steps + suc c) (suc k) p) after (redrafted after draft heap becomes.private newest) becomes (suc c)
  moves_over {so_far} state past call draft operation next_operation becomes c heap newest xs action p before on is tells comes acts same left =
      subst (λ r. GoesAlone state past (suc k) call (suc c) (stand after k (redrafted after draft heap becomes.private newest) becomes (state.steps + suc (suc c))) r)
      (ap (λ t. noted so_far (state.steps + suc c) t) (tells_so base k alone draft operation (state.steps + suc c) action on is) ∙ ap
      (λ q. noted_progress so_far (state.steps + suc c) (suc k) q) tells)
      (subst (λ n. GoesAlone state past (suc k) call (suc c) (stand after k (redrafted after draft heap becomes.private newest) becomes n)
      (noted so_far (state.steps + suc c) (told_in (stand base k draft operation (state.steps + suc c)) (step.Go (suc k))))) one_more
      (goes (before (omega (arith, left))) (steps_over draft operation next_operation becomes (state.steps + suc c) heap newest xs action (omega (arith, left)) on is comes acts same)))
    where
      one_more : state.steps + suc c + 1 ≡ state.steps + suc (suc c)
      one_more = omega arith

  -- where the actor's operation is put in
  pub put_in_place : (operation becomes : Operation) → set (set base.actors k (Some operation)) (suc k - 1) (Some becomes) ≡ set base.actors k (Some becomes)
  put_in_place operation becomes = ap (λ i. set (set base.actors k (Some operation)) i (Some becomes)) index ∙ set-set base.actors k (Some operation) (Some becomes)
    where
      index : suc k - 1 ≡ k
      index = omega arith

-- ---- root words

-- a word that was written is found
pub word_written : (state : State) (handle : ℕ) (root : Root) (w : RootWord) → root_at state handle ≡ Some root → word_at (with_word state handle w) handle ≡ w
word_written state handle root w is =
    ap word_of (get_or-set_same state.roots handle (rewritten w (root_at state handle)) None (found_within state.roots handle root is)) ∙ ap (λ r. word_of (rewritten w r)) is

-- what is written twice is as if the first had not been
pub word_again : (state : State) (handle : ℕ) (root : Root) (v w : RootWord) → root_at state handle ≡ Some root → with_word (with_word state handle v) handle w ≡ with_word state handle w
word_again state handle root v w is =
    ap (λ r. record state { roots = set (set state.roots handle (rewritten v (root_at state handle))) handle (rewritten w r) })
    (get_or-set_same state.roots handle (rewritten v (root_at state handle)) None (found_within state.roots handle root is) ∙ ap (rewritten v) is)
    ∙ ap (λ rs. record state { roots = rs }) (set-set state.roots handle (rewritten v (root_at state handle)) (Some (record root { word = w })))
    ∙ ap (λ r. record state { roots = set state.roots handle (rewritten w r) }) (sym is)
