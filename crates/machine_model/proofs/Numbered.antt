-- The step of a number, among those that are taken, leads from the state before it to the next, and is recorded.
use Rattle.std.proofs.Common.{◌≡◌, ℕ, zero, suc, cond, List, [], ◌∷◌, slice_get, Some, Ok, Err, refl, ap, sym, ◌∙◌, subst}
use Rattle.std.proofs.lemmas.Option.{none-some, same_Some}
use Rattle.machine_model.specs.declared.steps.Bounds.{Bounds}
use Rattle.machine_model.specs.declared.steps.Outcome.{Outcome}
use Rattle.machine_model.specs.declared.steps.Step.{Step}
use Rattle.machine_model.specs.States.{State, first_state}
use Rattle.machine_model.specs.Machine.{Answer, next, next_state, state_after, is_taken_step, taken_from, taken_steps}
use Rattle.machine_model.specs.Moves.{Moves}
use Rattle.machine_model.specs.Records.{Record, first_record, next_record, noted}
use Rattle.machine_model.specs.Tellings.{told_in}
use Rattle.machine_model.specs.Times.{states_from, states_of, records_from, records_of}
use Rattle.machine_model.proofs.Moves.{moved}
use Rattle.machine_model.proofs.Times.{records_from-zero, states_from-zero}
use Rattle.std.proofs.Common.{Bool, true, false}
use Rattle.std.proofs.lemmas.Bool.{true≢false}

-- it leads on
abbrev LeadsOn : State → List Step → ℕ → Step → Type 0
LeadsOn state steps n s = (o : Outcome) × Moves (states_from state steps n) s o (states_from state steps (suc n))

-- a step in front of others leads to the state from which they go on
leads_first : (state : State) (s : Step) (steps : List Step) (o : Outcome) (after : State) → after ≡ next_state state s → Moves state s o after → LeadsOn state (s ∷ steps) zero s
unfolding states_from
leads_first state s steps o after e m = (o, subst (λ q. Moves state s o q) (e ∙ sym (states_from-zero (next_state state s) steps)) m)

leads_later : (state : State) (x : Step) (steps : List Step) (n : ℕ) (s : Step) → LeadsOn (next_state state x) steps n s → LeadsOn state (x ∷ steps) (suc n) s
unfolding states_from
leads_later state x steps n s l = l

abbrev FoundLeads : State → List Step → Type 0
FoundLeads state steps = (n : ℕ) (s : Step) → slice_get steps n ≡ Some s → LeadsOn state steps n s

found_first : (state : State) (x : Step) (steps : List Step) → ((o : Outcome) (after : State) → next state x ≡ Ok (o, after) → Moves state x o after) → (done : Outcome × State) →
    next state x ≡ Ok done → FoundLeads (next_state state x) steps → FoundLeads state (x ∷ steps)
found_first state x steps move done e rest zero s at =
    let same : x ≡ s = same_Some _ _ at in
    subst (λ y. LeadsOn state (x ∷ steps) zero y) same (leads_first state x steps done.0 done.1 (ap (state_after state) (sym e)) (move done.0 done.1 e))
found_first state x steps move done e rest (suc n) s at = leads_later state x steps n s (rest n s at)

found_by : (state : State) (x : Step) (steps : List Step) (answer : Answer) → next state x ≡ answer → FoundLeads (next_state state x) (taken_from (next_state state x) steps) →
    FoundLeads state (cond (is_taken_step answer) (x ∷ taken_from (next_state state x) steps) (taken_from (next_state state x) steps))
found_by state x steps (Ok done) e rest = found_first state x (taken_from (next_state state x) steps) (λ o after is. moved state x o after is) done e rest
found_by state x steps (Err refusal) e rest = subst (λ q. FoundLeads q (taken_from (next_state state x) steps)) (ap (state_after state) e) rest

found_leads : (state : State) (steps : List Step) → FoundLeads state (taken_from state steps)
unfolding taken_from
found_leads state [] = λ n s at. absurd (none-some s at)
found_leads state (x ∷ steps) = found_by state x steps (next state x) refl (found_leads (next_state state x) steps)

-- the step of this number leads from the state before it to the next
pub step_leads : (limits : Bounds) (steps : List Step) (n : ℕ) (s : Step) → slice_get (taken_steps limits steps) n ≡ Some s →
    (o : Outcome) × Moves (states_of limits steps n) s o (states_of limits steps (suc n))
step_leads limits steps n s at = found_leads (first_state limits) steps n s at

-- ---- what is recorded

-- what it tells is recorded
abbrev NotesOn : State → Record → List Step → ℕ → Step → Type 0
NotesOn state past steps n s =
    records_from state past steps (suc n) ≡ noted (records_from state past steps n) (states_from state steps n).steps (told_in (states_from state steps n) s)

abbrev FoundNotes : State → Record → List Step → Type 0
FoundNotes state past steps = (n : ℕ) (s : Step) → slice_get steps n ≡ Some s → NotesOn state past steps n s

notes_first : (state : State) (past : Record) (x : Step) (steps : List Step) → is_taken_step (next state x) ≡ true →
    FoundNotes (next_state state x) (next_record state past x) steps → FoundNotes state past (x ∷ steps)
unfolding states_from records_from
notes_first state past x steps e rest zero s at =
    subst (λ y. NotesOn state past (x ∷ steps) zero y) (same_Some _ _ at)
    (records_from-zero (next_state state x) (next_record state past x) steps ∙ ap (λ b. cond b (noted past state.steps (told_in state x)) past) e)
notes_first state past x steps e rest (suc n) s at = rest n s at

stays : (state : State) (answer : Answer) → is_taken_step answer ≡ false → state_after state answer ≡ state
stays state (Ok done) e = absurd (true≢false e)
stays state (Err why) e = refl

notes_found : (state : State) (past : Record) (steps : List Step) → FoundNotes state past (taken_from state steps)
unfolding taken_from
notes_found state past [] = λ n s at. absurd (none-some s at)
notes_found state past (x ∷ steps) = by (is_taken_step (next state x)) refl (notes_found (next_state state x) (next_record state past x) steps)
  where
    by : (taken : Bool) → is_taken_step (next state x) ≡ taken → FoundNotes (next_state state x) (next_record state past x) (taken_from (next_state state x) steps) →
        FoundNotes state past (cond taken (x ∷ taken_from (next_state state x) steps) (taken_from (next_state state x) steps))
    by true e rest = notes_first state past x (taken_from (next_state state x) steps) e rest
    by false e rest =
        subst (λ q. FoundNotes q past (taken_from (next_state state x) steps)) (stays state (next state x) e)
        (subst (λ q. FoundNotes (next_state state x) q (taken_from (next_state state x) steps)) (ap (λ b. cond b (noted past state.steps (told_in state x)) past) e) rest)

-- the step of this number is recorded behind those before it
pub step_noted : (limits : Bounds) (steps : List Step) (n : ℕ) (s : Step) → slice_get (taken_steps limits steps) n ≡ Some s →
    records_of limits steps (suc n) ≡ noted (records_of limits steps n) (states_of limits steps n).steps (told_in (states_of limits steps n) s)
step_noted limits steps n s at = notes_found (first_state limits) (first_record limits) steps n s at
