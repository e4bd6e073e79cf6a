-- Steps of the sweep, one after the other.
use Rattle.std.specs.Prelude.{◌≡◌, ◌<◌, ◌+◌, ◌^◌, ℕ, zero, suc, Bool, true, false, [], None, Result, Ok, Err}
use Rattle.std.proofs.Common.{refl, sym, ap, subst, arith, ◌∙◌}
use Rattle.std.proofs.lemmas.Bool.{false≢true}
use borrow.Author.Count.{below_more}
use Rattle.proof_runs.specs.Vocabulary.{Refusal, Sweep, Outcome, Bounds, bounded, State, Answer, next, denial_of, is_busy, is_spent, is_taken_step}
use Rattle.proof_runs.specs.Beneath.ctrie_base.specs.declared.refusals.Refusal.TheVariants as refuse
use Rattle.proof_runs.specs.Beneath.machine_model.proofs.Along.{limits_along}
use Rattle.proof_runs.specs.Beneath.machine_model.proofs.Moves.{moved}
use Rattle.proof_runs.specs.Beneath.machine_model.proofs.Frames.{steps_counted}
use Rattle.proof_runs.specs.Machines.{Taken, state_of, with_step, IsTaken, Applied}
use Rattle.proof_runs.specs.Callers.{Stepped, swept, HasLimbo, AreNeeded, Reclaims}
use Rattle.proof_runs.proofs.Telling.{stepped}

-- so many steps of the sweep led here, and each was taken and needed
pub record IsSwept (before machine : Taken) : Type 0 where
  pub turns : ℕ
  pub led : machine ≡ swept turns before
  pub needed : AreNeeded turns before

-- none led here
pub unswept : (before : Taken) → IsSwept before before
unfolding swept
unswept before = record { turns = zero; led = refl; needed = λ m within. absurd (omega (arith, within)) }

-- one step more at the end
swept_push : (n : ℕ) (before : Taken) → swept (suc n) before ≡ with_step (swept n before) Sweep
unfolding swept
swept_push zero before = refl
swept_push (suc n) before = swept_push n (with_step before Sweep)

needed_push : (n : ℕ) (before : Taken) → AreNeeded n before → HasLimbo (swept n before) × IsTaken (state_of (swept n before)) Sweep → AreNeeded (suc n) before
needed_push n before needed last m within =
    below_more (λ m. HasLimbo (swept m before) × IsTaken (state_of (swept m before)) Sweep) n needed last m (omega (arith, within))

-- one step more
pub again : (before machine after : Taken) → IsSwept before machine → HasLimbo machine → Stepped (Ok tt) machine Sweep after →
    IsSwept before after
again before machine after so needed taken = let step = taken.1 in record {
  turns = suc so.turns;
  led = step.0 ∙ ap (λ m. with_step m Sweep) so.led ∙ sym (swept_push so.turns before);
  needed = needed_push so.turns before so.needed (subst (λ m. HasLimbo m) so.led needed, subst (λ m. IsTaken (state_of m) Sweep) so.led (rw step.1 refl));
}

-- limbo is empty
pub finished : (before machine : Taken) → is_busy (state_of before) ≡ false → IsSwept before machine → (state_of machine).limbo ≡ [] → Reclaims (Ok tt) before machine
finished before machine idle so empty = rw idle (so.turns, so.led, so.needed, empty)

-- only a machine that has taken all its steps denies the sweep
spent_alone : (state : State) (spent : Bool) (refusal : Refusal) → is_spent state ≡ spent → next state Sweep ≡ Err refusal →
    (refusal ≡ refuse.Spent) × (spent ≡ true)
unfolding next
spent_alone state true refusal e d = (let d' = rw e at d in grind (arith, d'), refl)
spent_alone state false refusal e d = let d' = rw e at d in absurd (grind (arith, d'))

-- a step is refused
refused_by : (before machine after : Taken) (refusal : Refusal) → is_busy (state_of before) ≡ false → IsSwept before machine →
    HasLimbo machine → Applied (Err refusal) machine Sweep after → Reclaims (Err refusal) before after
refused_by before machine after refuse.Memory idle so needed step =
    rw idle (so.turns, step.0 ∙ so.led, so.needed, (subst (λ m. HasLimbo m) (sym step.0) needed, subst (λ m. denial_of (state_of m) Sweep ≡ None) (sym step.0) step.1))
refused_by before machine after refuse.Spent idle so needed step =
    rw idle (
      so.turns,
      step.0 ∙ so.led,
      so.needed,
      (
        subst (λ m. HasLimbo m) (sym step.0) needed,
        subst (λ m. is_spent (state_of m) ≡ true) (sym step.0) (spent_alone (state_of machine) (is_spent (state_of machine)) refuse.Spent refl step.1).1,
      ),
    )
refused_by before machine after refusal idle so needed step =
    let only = (spent_alone (state_of machine) (is_spent (state_of machine)) refusal refl step.1).0 in absurd (grind (arith, only))

pub refused : (before machine after : Taken) (refusal : Refusal) (result : Result (Unit {0}) Refusal) → is_busy (state_of before) ≡ false → IsSwept before machine →
    HasLimbo machine → Applied (Err refusal) machine Sweep after → result ≡ Err refusal → Reclaims result before after
refused before machine after refusal result idle so needed step is = rw is (refused_by before machine after refusal idle so needed step)

-- each step is counted, and the machine has but so many
counted : (state : State) (spent : Bool) (o : Outcome) (after : State) → is_spent state ≡ spent → next state Sweep ≡ Ok (o, after) → state.steps < state.limits.steps
unfolding next
counted state true o after e d = let d' = rw e at d in absurd (grind (arith, d'))
counted state false o after e d = grind (arith, e)

pub nearer : (machine after : Taken) → Stepped (Ok tt) machine Sweep after →
    ((state_of machine).steps < 2 ^ 40) × ((state_of after).steps ≡ (state_of machine).steps + 1)
nearer machine after taken =
    let o = taken.0 in
    let step = taken.1 in (
      omega (arith, counted (state_of machine) (is_spent (state_of machine)) o (state_of after) refl step.1, ap (λ (l : Bounds). l.steps) (limits_along (bounded machine.limits) machine.steps)),
      steps_counted (state_of machine) Sweep o (state_of after) (moved (state_of machine) Sweep o (state_of after) step.1),
    )

-- a step that the definition takes
pub step_by : (machine : Taken) (answer : Answer) → next (state_of machine) Sweep ≡ answer → is_taken_step answer ≡ true → Stepped (Ok tt) machine Sweep (with_step machine Sweep)
step_by machine (Ok (o, state)) e taken = (o, (refl, e ∙ ap (λ s. Ok (o, s)) (sym (stepped machine Sweep o state e))))
step_by machine (Err why) e taken = absurd (false≢true taken)
