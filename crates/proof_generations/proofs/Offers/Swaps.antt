-- What a step does to closings and roots: it leaves them, or carries an offer out, which closes the generation of the old root.
use Rattle.std.proofs.Common.{◌≡◌, ℕ, ◌==◌, Bool, true, false, cond, find, inl, inr, ◌⊎◌, List, ◌∷◌, ◌++◌, Option, Some, None, get_or, set, refl, sym, ap, ◌∙◌, subst, append-nil}
use Rattle.std.proofs.Common.{eqb-true, eq-eqb, ne_eqb, []}
use Rattle.std.proofs.lemmas.Bool.{true≢false, cond_both}
use Rattle.std.proofs.lemmas.Option.{none-some, same_Some}
use Rattle.proof_generations.specs.Vocabulary.{Call, Ref, generation_at, Action, Closing, Operation, Descriptor, Root, Outcome, Step, handle_of, is_close, State, root_at, root_of, word_at, word_of}
use Rattle.proof_generations.specs.Vocabulary.{operation_of, with_operation, is_carried_out, action_of, gone, operation_after, settled, handle_closed, Begins, Ends, Sweeps, GivesUp, Moves, step_of}
use Rattle.proof_generations.specs.Vocabulary.{Record, noted_progress, noted, closed_by, carried_by, progress_of, told_in, Carried}
use Rattle.proof_generations.specs.Beneath.machine_model.specs.declared.actions.Action.TheVariants as act
use Rattle.proof_generations.specs.Beneath.machine_model.specs.declared.steps.Step.TheVariants as step
use Rattle.proof_generations.specs.Beneath.machine_model.specs.Moves.{Goes}
use Rattle.proof_generations.specs.Beneath.machine_model.proofs.Found.{found_elsewhere, found_here}
use Rattle.proof_generations.proofs.Offers.Same.{HasOffers, same_offer}
use Rattle.proof_generations.proofs.Handles.Footings.{ActionCarriesOut, RootFrom, stood, swapped, newly, root_from}
use Rattle.proof_generations.specs.Beneath.machine_model.proofs.Notes.{noted_going, noted_ending}

-- ---- closings

-- the step that closed a generation, by the list of closings
abbrev pub closed_in : List Closing → ℕ → Option ℕ
closed_in closings generation = step_of (find (λ c. c.generation == generation) closings)

kept_by : (xs ys : List Closing) (x : Closing) (generation c : ℕ) (b : Bool) → step_of (cond b (Some x) (find (λ c. c.generation == generation) xs)) ≡ Some c →
    (closed_in xs generation ≡ Some c → closed_in (xs ++ ys) generation ≡ Some c) → step_of (cond b (Some x) (find (λ c. c.generation == generation) (xs ++ ys))) ≡ Some c
kept_by xs ys x generation c true e rest = e
kept_by xs ys x generation c false e rest = rest e

-- more closings don't change it
pub closed_kept : (xs ys : List Closing) (generation c : ℕ) → closed_in xs generation ≡ Some c → closed_in (xs ++ ys) generation ≡ Some c
closed_kept [] ys generation c e = absurd (none-some c e)
closed_kept (x ∷ xs) ys generation c e = kept_by xs ys x generation c (x.generation == generation) e (closed_kept xs ys generation c)

new_by : (xs : List Closing) (x new : Closing) (generation c : ℕ) (b : Bool) → step_of (cond b (Some x) (find (λ c. c.generation == generation) xs)) ≡ None →
    step_of (cond b (Some x) (find (λ c. c.generation == generation) (xs ++ new ∷ []))) ≡ Some c →
    (closed_in xs generation ≡ None → closed_in (xs ++ new ∷ []) generation ≡ Some c → (new.generation ≡ generation) × (new.step ≡ c)) → (new.generation ≡ generation) × (new.step ≡ c)
new_by xs x new generation c true none e rest = absurd (none-some x.step (sym none))
new_by xs x new generation c false none e rest = rest none e

last_by : (new : Closing) (generation c : ℕ) (b : Bool) → (new.generation == generation) ≡ b → step_of (cond b (Some new) None) ≡ Some c → (new.generation ≡ generation) × (new.step ≡ c)
last_by new generation c true is e = (eqb-true new.generation generation is, same_Some new.step c e)
last_by new generation c false is e = absurd (none-some c e)

-- who wasn't closed and is closed with one more closing is closed by it
pub closed_new : (xs : List Closing) (new : Closing) (generation c : ℕ) → closed_in xs generation ≡ None → closed_in (xs ++ new ∷ []) generation ≡ Some c →
    (new.generation ≡ generation) × (new.step ≡ c)
closed_new [] new generation c none e = last_by new generation c (new.generation == generation) refl e
closed_new (x ∷ xs) new generation c none e = new_by xs x new generation c (x.generation == generation) none e (closed_new xs new generation c)

none_by : (xs : List Closing) (x new : Closing) (generation : ℕ) (b : Bool) → step_of (cond b (Some x) (find (λ c. c.generation == generation) xs)) ≡ None →
    (closed_in xs generation ≡ None → closed_in (xs ++ new ∷ []) generation ≡ None) → step_of (cond b (Some x) (find (λ c. c.generation == generation) (xs ++ new ∷ []))) ≡ None
none_by xs x new generation true none rest = absurd (none-some x.step (sym none))
none_by xs x new generation false none rest = rest none

-- a closing of another generation doesn't close it
pub closed_other : (xs : List Closing) (new : Closing) (generation : ℕ) → closed_in xs generation ≡ None → (new.generation ≡ generation → ⊥) → closed_in (xs ++ new ∷ []) generation ≡ None
closed_other [] new generation none other = ap (λ b. step_of (cond b (Some new) None)) (ne_eqb new.generation generation other)
closed_other (x ∷ xs) new generation none other = none_by xs x new generation (x.generation == generation) none (λ e. closed_other xs new generation e other)

last_closed_by : (xs : List Closing) (x new : Closing) (generation : ℕ) (b : Bool) → step_of (cond b (Some x) (find (λ c. c.generation == generation) xs)) ≡ None →
    (closed_in xs generation ≡ None → closed_in (xs ++ new ∷ []) generation ≡ Some new.step) → step_of (cond b (Some x) (find (λ c. c.generation == generation) (xs ++ new ∷ []))) ≡ Some new.step
last_closed_by xs x new generation true none rest = absurd (none-some x.step (sym none))
last_closed_by xs x new generation false none rest = rest none

-- a closing of it closes it, where it wasn't closed
pub closed_last : (xs : List Closing) (new : Closing) (generation : ℕ) → closed_in xs generation ≡ None → new.generation ≡ generation → closed_in (xs ++ new ∷ []) generation ≡ Some new.step
closed_last [] new generation none is = ap (λ b. step_of (cond b (Some new) None)) (eq-eqb new.generation generation is)
closed_last (x ∷ xs) new generation none is = last_closed_by xs x new generation (x.generation == generation) none (λ e. closed_last xs new generation e is)

-- ---- an action

-- this offer is carried out, or none
carries_or_not : (st : State) (at : ℕ) (action : Action) → ((offer : Descriptor) × ActionCarriesOut st at action offer) ⊎ ((offer : Descriptor) → ActionCarriesOut st at action offer → ⊥)
carries_or_not st at (act.Complete own main) = by (is_carried_out (word_at st at) own main) refl
  where
    same_main : (a b : Descriptor) (m n : Ref) → act.Complete a m ≡ act.Complete b n → (a ≡ b) × (m ≡ n)
    same_main a b m n e = (cc e, cc e)

    by : (b : Bool) → is_carried_out (word_at st at) own main ≡ b →
        ((offer : Descriptor) × ActionCarriesOut st at (act.Complete own main) offer) ⊎ ((offer : Descriptor) → ActionCarriesOut st at (act.Complete own main) offer → ⊥)
    by true e = inl (own, record { main = main; is_it = refl; carried = e })
    by false e = inr (λ offer c.
        let p = same_main own offer main c.main c.is_it in
        true≢false (sym c.carried ∙ ap (λ d. is_carried_out (word_at st at) d c.main) (sym p.0) ∙ ap (λ m. is_carried_out (word_at st at) own m) (sym p.1) ∙ e))
carries_or_not st at (act.Abort own) = inr (λ offer c. let wrong : ⊥ = cc c.is_it in wrong)
carries_or_not st at (act.Offer own) = inr (λ offer c. let wrong : ⊥ = cc c.is_it in wrong)
carries_or_not st at (act.MakeRoot main) = inr (λ offer c. let wrong : ⊥ = cc c.is_it in wrong)
carries_or_not st at action = inr (λ offer c. let wrong : ⊥ = cc c.is_it in wrong)

-- what closes the old root
abbrev pub closing_of : State → Descriptor → Closing
closing_of st offer = record { generation = generation_at st.heap offer.root; step = st.steps }

-- what is told of it
abbrev carrying : State → Descriptor → Carried
carrying st offer = record { generation = generation_at st.heap offer.root; operation = offer.operation }

pub carried_none : (st : State) (at : ℕ) (action : Action) → ((offer : Descriptor) → ActionCarriesOut st at action offer → ⊥) → carried_by st at action ≡ None
carried_none st at (act.Complete own main) none = by (is_carried_out (word_at st at) own main) refl
  where
    by : (b : Bool) → is_carried_out (word_at st at) own main ≡ b → cond b (Some (carrying st own)) None ≡ None
    by true e = absurd (none own (record { main = main; is_it = refl; carried = e }))
    by false e = refl
carried_none st at (act.Abort own) none = refl
carried_none st at (act.Offer own) none = refl
carried_none st at (act.MakeRoot main) none = refl
carried_none st at action none = refl

pub carried_some : (st : State) (at : ℕ) (action : Action) (offer : Descriptor) → ActionCarriesOut st at action offer → carried_by st at action ≡ Some (carrying st offer)
carried_some st at action offer c =
    ap (λ a. carried_by st at a) c.is_it ∙ ap (λ b. cond b (Some (carrying st offer)) None) c.carried

-- what a step of an operation that goes on leaves of the closings
gone_closings : (state : State) (past : Record) (actor : ℕ) (operation : Operation) (x : Option Carried) → carried_by state (handle_of operation.call) (action_of state operation) ≡ x →
    (noted_progress past state.steps actor (progress_of state operation)).closings ≡ past.closings ++ closed_by state.steps x
gone_closings state past actor operation x e = ap (λ c. past.closings ++ closed_by state.steps c) e

-- ---- a step

-- the handle was open over this root, and of this kind
abbrev pub Kept : State → ℕ → Root → Type 0
Kept state handle now = (root : Root) × (root_at state handle ≡ Some root) × (now.access ≡ root.access) × (root_of now.word ≡ root_of root.word)

pub data StepKind (state : State) (past : Record) (s : Step) (after : State) (now : Record) : Type 0 where
  quiet : now.closings ≡ past.closings → ((handle : ℕ) (root : Root) → root_at after handle ≡ Some root → Kept state handle root) → StepKind state past s after now
  swaps : (actor : ℕ) (mover : Operation) (offer : Descriptor) → s ≡ step.Go actor → operation_of state actor ≡ Some mover
      → ActionCarriesOut state (handle_of mover.call) (action_of state mover) offer →
      now.closings ≡ past.closings ++ closing_of state offer ∷ [] →
      ((handle : ℕ) (root : Root) → root_at after handle ≡ Some root → RootFrom state (handle_of mover.call) (action_of state mover) handle root) → StepKind state past s after now

kept_from : (state : State) (at : ℕ) (action : Action) → ((offer : Descriptor) → ActionCarriesOut state at action offer → ⊥) → (handle : ℕ) (now : Root) →
    RootFrom state at action handle now → Kept state handle now
kept_from state at action none handle now (stood root e access word free) = (root, e, access, word)
kept_from state at action none handle now (swapped root offer c at_it e is) = absurd (none offer c)
kept_from state at action none handle now (newly offer n c its at_it is) = absurd (none offer c)

begun_kept : (state : State) (call : Call) (handle : ℕ) (now : Root) → root_at (handle_closed state call) handle ≡ Some now → Kept state handle now
begun_kept state call handle now =
    cond_both (is_close call) _ _ (λ (q : State). root_at q handle ≡ Some now → Kept state handle now) (λ c e. (now, taken_away e, refl, refl)) (λ c e. (now, e, refl, refl))
  where
    taken_away : get_or (set state.roots (handle_of call) None) handle None ≡ Some now → root_at state handle ≡ Some now
    taken_away e =
        sym (found_elsewhere state.roots (handle_of call) handle None
        (λ same. none-some now (found_here state.roots (handle_of call) None now (subst (λ h. get_or (set state.roots (handle_of call) None) h None ≡ Some now) same e)))) ∙ e

-- as it is in a state with these words
here_from : (st state : State) → st.roots ≡ state.roots → (at : ℕ) (action : Action) (handle : ℕ) (now : Root) → RootFrom st at action handle now → RootFrom state at action handle now
here_from st state same at action handle now from = by from
  where
    there : (offer : Descriptor) → ActionCarriesOut state at action offer → ActionCarriesOut st at action offer
    there offer c = record { main = c.main; is_it = c.is_it; carried = ap (λ r. is_carried_out (word_of (get_or r at None)) offer c.main) same ∙ c.carried }

    here : (offer : Descriptor) → ActionCarriesOut st at action offer → ActionCarriesOut state at action offer
    here offer c = record { main = c.main; is_it = c.is_it; carried = ap (λ r. is_carried_out (word_of (get_or r at None)) offer c.main) (sym same) ∙ c.carried }

    by : RootFrom st at action handle now → RootFrom state at action handle now
    by (stood root e access word free) = stood root (ap (λ r. get_or r handle None) (sym same) ∙ e) access word (λ offer c. free offer (there offer c))
    by (swapped root offer c at_it e is) = swapped root offer (here offer c) at_it (ap (λ r. get_or r at None) (sym same) ∙ e) is
    by (newly offer n c its at_it is) = newly offer n (here offer c) its at_it is

-- the state on which a step's action works
abbrev pub stepped : State → ℕ → Operation → State
stepped state actor operation = with_operation state actor (Some (operation_after state operation))

module _ (state : State) (I : HasOffers state) (past : Record) (actor : ℕ) (operation : Operation) (is : operation_of state actor ≡ Some operation) where
  abbrev at : ℕ
  at = handle_of operation.call

  roots_from : (handle : ℕ) (now : Root) → root_at (gone state actor operation) handle ≡ Some now → RootFrom state at (action_of state operation) handle now
  roots_from handle now e =
      here_from (stepped state actor operation) state refl at (action_of state operation) handle now
      (root_from (stepped state actor operation) at handle now (action_of state operation) (λ own settled stands. same_offer state I actor operation own is settled at stands) e)

  gone_kind : ((offer : Descriptor) × ActionCarriesOut state at (action_of state operation) offer) ⊎ ((offer : Descriptor) → ActionCarriesOut state at (action_of state operation) offer → ⊥) →
      StepKind state past (step.Go actor) (settled state (gone state actor operation)) (noted_progress past state.steps actor (progress_of state operation))
  gone_kind (inl (offer, c)) =
      swaps actor operation offer refl is c (gone_closings state past actor operation _ (carried_some state at (action_of state operation) offer c)) roots_from
  gone_kind (inr none) =
      quiet (gone_closings state past actor operation _ (carried_none state at (action_of state operation) none) ∙ append-nil past.closings)
      (λ handle now e. kept_from state at (action_of state operation) none handle now (roots_from handle now e))

pub step_kind : (state : State) → HasOffers state → (past now : Record) (s : Step) (o : Outcome) (after : State) → Moves state s o after →
    now ≡ noted past state.steps (told_in state s) → StepKind state past s after now
step_kind state I past now s o after (Begins {actor} {call} {number} d) e =
    quiet (ap (λ (r : Record). r.closings) e) (λ handle root at_it. begun_kept state call handle root at_it)
step_kind state I past now s o after (Goes {actor} {operation} {action} d is a g) e =
    subst (λ r. StepKind state past s after r) (sym (e ∙ noted_going state past actor operation action is a g))
    (gone_kind state I past actor operation is (carries_or_not state (handle_of operation.call) (action_of state operation)))
step_kind state I past now s o after (Ends {actor} {operation} {answer} d is a) e =
    quiet (ap (λ (r : Record). r.closings) (e ∙ noted_ending state past actor operation answer is a)) (λ handle root at_it. (root, at_it, refl, refl))
step_kind state I past now s o after (GivesUp d is a) e = quiet (ap (λ (r : Record). r.closings) e) (λ handle root at_it. (root, at_it, refl, refl))
step_kind state I past now s o after (Sweeps spent) e = quiet (ap (λ (r : Record). r.closings) e) (λ handle root at_it. (root, at_it, refl, refl))
