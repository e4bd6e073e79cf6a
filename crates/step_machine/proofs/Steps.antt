-- What holds of a machine's parts holds of them with a step more.
use Rattle.std.specs.Prelude.{◌≡◌, List, [], ◌∷◌, ◌++◌, Ok}
use Rattle.std.proofs.lemmas.List.Elements.{All-nil}
use Rattle.std.proofs.Common.{refl, sym, ap, ◌∙◌, subst}
use Rattle.step_machine.specs.Vocabulary.{Bounds, Limits, Step, Outcome, State, first_state, AreLimits, bounded, next, run, run_from, first_record, next_record, record_from, record_of, FitsKey}
use Rattle.machine_model.proofs.Recorded.{record_push}
use Rattle.chronicle.specs.Chronicled.{Chronicled}
use Rattle.step_machine.specs.Taking.{HasTaken, TakesAndTells}
use Rattle.proof_runs.specs.Machines.{Taken, Applied}
use Rattle.proof_runs.proofs.Steps.{run_with, taken_push, keys_with}

pub holds_after : (limits : Limits) (before after : State) (past now : Chronicled) (steps items : List Step) (s : Step) (o : Outcome) → HasTaken limits steps before past →
    TakesAndTells (Ok o) before past s after now → items ≡ steps ++ s ∷ [] → FitsKey s → HasTaken limits items after now
holds_after limits before after past now steps items s o h takes is key =
    let answer : next (run (bounded limits) steps) s ≡ Ok (o, after) = subst (λ state. next state s ≡ Ok (o, after)) h.led takes.0 in
    subst (λ xs. HasTaken limits xs after now) (sym is) (record {
      led = run_with (bounded limits) steps s o after answer;
      past = takes.1 ∙ ap (λ state. next_record state past.past s) h.led ∙ ap (λ r. next_record (run (bounded limits) steps) r s) h.past
          ∙ sym (record_push (first_state (bounded limits)) (first_record (bounded limits)) steps s);
      slots = takes.2 ∙ h.slots;
      in_range = h.in_range;
      taken = taken_push limits steps s h.taken (rw answer refl);
      keys = keys_with steps s h.keys key;
    })

-- room for what is told is seen by nobody
pub holds_roomy : (limits : Limits) (steps items : List Step) (state : State) (past now : Chronicled) → HasTaken limits steps state past → now.past ≡ past.past → now.slots ≡ past.slots →
    items ≡ steps → HasTaken limits items state now
holds_roomy limits steps items state past now h same slots is =
    subst (λ xs. HasTaken limits xs state now) (sym is)
    (record { led = h.led; past = same ∙ h.past; slots = slots ∙ h.slots; in_range = h.in_range; taken = h.taken; keys = h.keys })

-- a machine of these sizes that has taken these steps
abbrev pub machine_of : Limits → List Step → Taken
machine_of limits steps = record { limits = limits; steps = steps }

-- so a step that was taken is what contracts say of it
pub taken_applied : (limits : Limits) (before after : State) (steps items : List Step) (s : Step) (o : Outcome) → before ≡ run (bounded limits) steps → next before s ≡ Ok (o, after) →
    items ≡ steps ++ s ∷ [] → Applied (Ok o) (machine_of limits steps) s (machine_of limits items)
taken_applied limits before after steps items s o led takes is =
    let answer : next (run (bounded limits) steps) s ≡ Ok (o, after) = subst (λ state. next state s ≡ Ok (o, after)) led takes in
    let later : after ≡ run (bounded limits) items = run_with (bounded limits) steps s o after answer ∙ ap (run (bounded limits)) (sym is) in
    (ap (λ (xs : List Step). machine_of limits xs) is, answer ∙ ap (λ (x : State). Ok (o, x)) later)

-- what one step more leaves and leads to
pub ruleset one_more = (run_with, holds_after, holds_roomy)

-- ---- it holds of a machine that has taken none

nothing_cut : {A : Type 0} (before : List A) (at : A) (after : List A) → [] ≡ before ++ at ∷ after → ⊥
nothing_cut [] at after e = cc
nothing_cut (b ∷ before) at after e = cc

first_led : (limits : Bounds) → first_state limits ≡ run limits []
unfolding run_from
first_led limits = refl

first_told : (limits : Bounds) → first_record limits ≡ record_of limits []
unfolding record_from
first_told limits = refl

pub holds_at_first : (limits : Limits) (state : State) (kept : Chronicled) (items : List Step) → state ≡ first_state (bounded limits) → kept.past ≡ first_record (bounded limits) →
    kept.slots ≡ limits.slots → items ≡ [] → AreLimits limits → HasTaken limits items state kept
holds_at_first limits state kept items is past slots none ok =
    subst (λ xs. HasTaken limits xs state kept) (sym none) (record {
      led = is ∙ first_led (bounded limits);
      past = past ∙ first_told (bounded limits);
      slots = slots;
      in_range = ok;
      taken = λ before after step e. absurd (nothing_cut before step after e);
      keys = All-nil FitsKey;
    })
