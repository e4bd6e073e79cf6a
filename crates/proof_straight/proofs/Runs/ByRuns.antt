-- What a call comes to a run of its steps comes to.
use Rattle.std.proofs.Common.{None, ◌≡◌, ℕ, zero, suc, List, [], ◌∷◌, ◌++◌, replicate, cond, Ok, refl, sym, ap, ◌∙◌}
use Rattle.std.proofs.lemmas.List.{append-nil}
use Rattle.proof_straight.specs.Vocabulary.{Call, Outcome, Step, is_taken_step, next, run_from, state_after, Record, noted, record_from, State, told_in, Reply}
use Rattle.machine_model.specs.declared.steps.Step.TheVariants as step
use Rattle.proof_straight.specs.Running.{Comes, ComesByRun, ComesTo, GoesAlone, GoesOn, begins, goes, starts, walks}

one_earlier : {X : Type 0} (n : ℕ) (x : X) (xs : List X) → replicate n x ++ x ∷ xs ≡ x ∷ replicate n x ++ xs
one_earlier zero x xs = refl
one_earlier (suc n) x xs = ap (λ l. x ∷ l) (one_earlier n x xs)

-- a step that is taken, and more behind it
run_on : (before after : State) (s : Step) (o : Outcome) (rest : List Step) → next before s ≡ Ok (o, after) → run_from before (s ∷ rest) ≡ run_from after rest
unfolding run_from
run_on before after s o rest is = ap (λ a. run_from (state_after before a) rest) is

record_on : (before after : State) (past : Record) (s : Step) (o : Outcome) (rest : List Step) → next before s ≡ Ok (o, after) →
    record_from before past (s ∷ rest) ≡ record_from after (noted past before.steps (told_in before s)) rest
unfolding record_from
record_on before after past s o rest is =
    ap (λ a. record_from (state_after before a) (cond (is_taken_step a) (noted past before.steps (told_in before s)) past) rest) is

-- so it is while the call goes on
runs_on : (state : State) (past : Record) (actor : ℕ) (c : Call) (n : ℕ) (now : State) (so_far : Record) → GoesAlone state past actor c n now so_far → (rest : List Step) →
    (run_from state (step.Begin actor c None ∷ replicate n (step.Go actor) ++ rest) ≡ run_from now rest)
    × (record_from state past (step.Begin actor c None ∷ replicate n (step.Go actor) ++ rest) ≡ record_from now so_far rest)
runs_on state past actor c n now so_far (begins is) rest = (run_on state now _ _ rest is, record_on state now past _ _ rest is)
runs_on state past actor c n now so_far (goes {n = m} {before} {so_far = r} earlier is) rest =
    let (states, records) = runs_on state past actor c m before r earlier (step.Go actor ∷ rest) in (
      ap (λ l. run_from state (step.Begin actor c None ∷ l)) (sym (one_earlier m (step.Go actor) rest)) ∙ states ∙ run_on before now _ _ rest is,
      ap (λ l. record_from state past (step.Begin actor c None ∷ l)) (sym (one_earlier m (step.Go actor) rest)) ∙ records ∙ record_on before now r _ _ rest is,
    )

pub comes_by_run : ComesByRun
unfolding run_from record_from
comes_by_run state past actor c n answer after recorded h =
    let (states, records) = runs_on state past actor c n h.last h.so_far h.goes (step.Go actor ∷ []) in
    let all = ap (λ l. step.Begin actor c None ∷ l) (sym (one_earlier n (step.Go actor) [] ∙ ap (λ l. step.Go actor ∷ l) (append-nil _))) in (
      ap (λ l. run_from state l) all ∙ states ∙ run_on h.last after _ _ [] h.ends,
      ap (λ l. record_from state past l) all ∙ records ∙ record_on h.last after h.so_far _ _ [] h.ends ∙ h.records,
    )

-- ---- where no record is kept

pub goes_without_record : (state : State) (past : Record) (actor : ℕ) (c : Call) (n : ℕ) (now : State) (so_far : Record) → GoesAlone state past actor c n now so_far →
    GoesOn state actor c n now
goes_without_record state past actor c n now so_far (begins is) = starts is
goes_without_record state past actor c n now so_far (goes {n = m} {before} {so_far = r} earlier is) = walks (goes_without_record state past actor c m before r earlier) is

-- and with a record it goes on as it does without one
pub goes_with_record : (state : State) (past : Record) (actor : ℕ) (c : Call) (n : ℕ) (now : State) → GoesOn state actor c n now → (so_far : Record) × GoesAlone state past actor c n now so_far
goes_with_record state past actor c n now (starts is) = (noted past state.steps (told_in state (step.Begin actor c None)), begins is)
goes_with_record state past actor c n now (walks {n = m} {before} earlier is) =
    let (so_far, alone) = goes_with_record state past actor c m before earlier in (noted so_far before.steps (told_in before (step.Go actor)), goes alone is)

-- a call comes to the same without the record
pub comes_without_record : (state : State) (past : Record) (actor : ℕ) (c : Call) (n : ℕ) (answer : Reply) (after : State) (recorded : Record) →
    ComesTo state past actor c n answer after recorded → Comes state actor c n answer after
comes_without_record state past actor c n answer after recorded h =
    record { last = h.last; goes = goes_without_record state past actor c n h.last h.so_far h.goes; ends = h.ends }
