-- What is left by a step that begins an operation, and by the two that close a handle.
use Rattle.std.proofs.Common.{Option, ◌≡◌, ◌≢◌, ◌+◌, ◌-◌, ◌<◌, ◌≤◌, ◌++◌, ℕ, zero, suc, Bool, true, false, []}
use Rattle.std.proofs.Common.{◌∷◌, length, Contains, Some, None, get_or, is_some, set, refl, sym, ap, subst, ◌∙◌, inl, inr, arith}
use Rattle.std.proofs.Common.{append_assoc}
use Rattle.std.specs.Prelude.{if◌then◌else◌}
use Rattle.std.proofs.lemmas.Bool.{cases_eq}
use Rattle.std.proofs.lemmas.List.{get_or-set_same}
use Rattle.std.proofs.lemmas.Option.{same_Some, none-some}
use Rattle.history.specs.declared.calls.Call.{Call}
use Rattle.history.specs.declared.calls.Call.TheVariants.{Entries, Count, Close}
use Rattle.history.specs.declared.events.Event.TheVariants as event
use Rattle.history.specs.declared.replies.Reply.TheVariants as reply
use Rattle.machine_model.specs.declared.operations.Operation.{Operation}
use Rattle.machine_model.specs.declared.steps.Outcome.TheVariants as outcome
use Rattle.machine_model.specs.declared.steps.Step.TheVariants as step
use Rattle.machine_model.specs.Calls.{handle_of, is_close, opens_handle}
use Rattle.machine_model.specs.Counting.{settled}
use Rattle.machine_model.specs.Keys.{FitsKey}
use Rattle.machine_model.specs.Machine.{AreBounds, is_taken_step, next, next_state, state_after, begin_denial, begin_unless, begun_operation, with_begin, handle_closed, number_for}
use Rattle.machine_model.specs.Moves.{Moves, Begins as Begun}
use Rattle.machine_model.specs.Operations.{first_line}
use Rattle.machine_model.specs.declared.roots.RootWord.TheVariants.{Offer}
use Rattle.machine_model.specs.States.{State, operation_of, root_at, word_at, word_of, with_root}
use Rattle.machine_model.proofs.Actors.{begin_actors, begin_counts}
use Rattle.machine_model.proofs.Found.{found_elsewhere}
use Rattle.machine_model.proofs.HeapMoves.{begin_heap}
use Rattle.proof_memory.proofs.Holding.Sizes.{sizes_stay}
use Rattle.proof_memory.proofs.Safety.AtEachTime.{safe_along}
use Rattle.proof_commits.proofs.Known.StepsAt.{begin_others}
use Rattle.proof_garbage.proofs.Step.{step_known}
use Rattle.proof_waiting.specs.Beneath.proof_slots.specs.Lasting.{widened}
use Rattle.lock_free.specs.declared.accounts.Account.{Account}
use Rattle.lock_free.specs.declared.accounts.Known.{Known}
use Rattle.lock_free.specs.declared.sizes.Sizes.{Sizes}
use Rattle.lock_free.specs.Accounts.{bounds_for, past_of, state_of, gone_on, HasStood}
use Rattle.lock_free.specs.Beginning.{Begins, Ends, Closes, closed_by, taking}
use Rattle.lock_free.specs.Fates.{TellsFate}
use Rattle.lock_free.specs.Offering.{LeavesNodes}
use Rattle.lock_free.proofs.Fates.{fate_kept, words_same}
use Rattle.lock_free.proofs.OneStep.Aheads.{ahead_of}
use Rattle.lock_free.proofs.OneStep.Longer.{bounds_more}
use Rattle.lock_free.proofs.OneStep.Sitting.{whole, leaves_nodes, ends_of}
use Rattle.lock_free.proofs.OneStep.Standing.{known_once}
use Rattle.lock_free.proofs.OneStep.Telling.{begin_told, end_told}

first_ahead : (call : Call) → ahead_of (first_line call) ≡ None
first_ahead (Entries h) = refl
first_ahead (Count h) = refl
first_ahead (Close h) = refl
first_ahead call = refl

-- it is to open the chosen handle, if one is chosen
pub number_is : (state : State) (number : Option ℕ) (opens : Bool) → opens ≡ is_some number → (if opens then Some (number_for state number) else None) ≡ number
number_is state None opens e = ap (λ b. if b then Some (number_for state None) else None) e
number_is state (Some n) opens e = ap (λ b. if b then Some n else None) e

module _ (sizes : Sizes) (account : Account) (bounds : AreBounds (bounds_for sizes account.steps)) (actor : ℕ) (call : Call) (number : Option ℕ) (most : actor ≤ sizes.seats)
    (idle : operation_of (state_of sizes account) actor ≡ None)
    (allowed : begin_denial (state_of sizes account) actor call number ≡ None) where
  abbrev now : State
  now = state_of sizes account

  abbrev operation : Operation
  operation = begun_operation now call number

  abbrev begin_state : State
  begin_state = settled now (with_begin now actor call operation)

  begin_move : Moves now (step.Begin actor call number) (outcome.Began operation.id) begin_state
  begin_move = Begun allowed

  begin_next : next_state now (step.Begin actor call number) ≡ begin_state
  unfolding next
  begin_next = ap (λ d. state_after now (begin_unless now actor call number d)) allowed

  positive : 0 < actor
  positive = begin_counts now actor call number allowed

  begun_own : operation_of begin_state actor ≡ Some operation
  begun_own = by actor refl positive
    where
      by : (n : ℕ) → n ≡ actor → 0 < n → operation_of begin_state actor ≡ Some operation
      by zero e some = absurd (omega (arith, some))
      by (suc k) e some =
          let place : actor - 1 ≡ k = omega (arith, e) in
          let long = (sizes_stay (bounds_for sizes account.steps) account.steps).1 in
          ap (operation_of begin_state) (sym e) ∙ ap (λ xs. get_or xs k None) (begin_actors now actor call operation) ∙ ap (λ n. get_or (set now.actors n (Some operation)) k None) place
          ∙ get_or-set_same now.actors k (Some operation) None (omega (arith, e, most, long))

  begun_others : (a : ℕ) → a ≢ actor → operation_of begin_state a ≡ operation_of now a
  begun_others a differs = begin_others now actor call operation positive a differs

  generations_are : begin_state.generations ≡ now.generations
  generations_are = by (is_close call)
    where
      by : (b : Bool) → (if b then with_root now (handle_of call) None else now).generations ≡ now.generations
      by true = refl
      by false = refl

  begin_whole : state_of sizes (taking (step.Begin actor call number) account) ≡ widened 1 (length (account.steps ++ step.Begin actor call number ∷ []) + 1) begin_state
  begin_whole = whole sizes account bounds (step.Begin actor call number) (outcome.Began operation.id) begin_state begin_move begin_next

  pub begin_leaves : LeavesNodes sizes account (taking (step.Begin actor call number) account)
  begin_leaves =
      leaves_nodes sizes account bounds (step.Begin actor call number) (outcome.Began operation.id) begin_state begin_move begin_next (begin_heap now actor call operation) generations_are
      (λ r k. step_known now (safe_along (bounds_for sizes account.steps) bounds account.steps) (λ id. Unit {0}) (step.Begin actor call number) _ begin_state begin_move tt k) actor begun_others
      (λ x e. absurd (none-some x (sym idle ∙ e)))
      (λ x e. ap (λ (o : Operation). ahead_of o.line) (same_Some x operation (sym e ∙ begun_own)) ∙ first_ahead call)

  pub begin_own : operation_of (state_of sizes (taking (step.Begin actor call number) account)) actor ≡ Some operation
  begin_own = ap (λ s. operation_of s actor) begin_whole ∙ begun_own

  pub begin_other : (a : ℕ) → a ≢ actor → operation_of (state_of sizes (taking (step.Begin actor call number) account)) a ≡ operation_of now a
  begin_other a differs = ap (λ s. operation_of s a) begin_whole ∙ begun_others a differs

  pub begin_roots : (state_of sizes (taking (step.Begin actor call number) account)).roots ≡ (handle_closed now call).roots
  begin_roots = ap (λ (s : State). s.roots) begin_whole

  -- a call that doesn't close its handle
  pub begins_of : opens_handle call ≡ is_some number → (closes_none : is_close call ≡ false) → FitsKey (step.Begin actor call number) →
      ((k : Known) → Contains account.offers k → HasStood sizes account k.offer) →
      Begins sizes account actor (step.Begin actor call number) call number
  begins_of opens closes_none fits stood = record {
    leaves = begin_leaves;
    fits = fits;
    its = λ a differs e. differs (sym e);
    roots = begin_roots ∙ ap (λ b. (if b then with_root now (handle_of call) None else now).roots) closes_none;
    others = begin_other;
    operation = operation;
    own = begin_own;
    its_call = refl;
    its_opens = number_is now number (opens_handle call) opens;
    unmarked = refl;
    alone = refl;
    fresh = λ k c its. (let known = known_once sizes account bounds k.offer (stood k c) in let begun = known.has_begun in let same = its.its in omega (arith, begun, same));
  }

-- ---- two steps one after the other

both_leave : (sizes : Sizes) (a b c : Account) → LeavesNodes sizes a b → LeavesNodes sizes b c → LeavesNodes sizes a c
both_leave sizes a b c x y = record {
  bounds = y.bounds;
  nodes = λ k. y.nodes k ∙ x.nodes k;
  births = y.births ∙ x.births;
  live = λ r k. x.live r (y.live r k);
  reached = λ r h. elim (y.reached r h) [
    | inl was ↦ x.reached r was
    | inr live ↦ inr (x.live r live)
  ];
  generations = y.generations ∙ x.generations;
  aheads = λ i a f h. x.aheads i a f (y.aheads i a f h);
  still = λ i a f h. y.still i a f (x.still i a f h);
}

-- the handle is closed then, and all else is as it was
record Shuts (sizes : Sizes) (account last : Account) (handle : ℕ) : Type 0 where
  leaves : LeavesNodes sizes account last
  closed : root_at (state_of sizes last) handle ≡ None
  roots : (g : ℕ) → g ≢ handle → root_at (state_of sizes last) g ≡ root_at (state_of sizes account) g
  fates : (k : Known) (n : ℕ) → (word_at (state_of sizes account) k.handle ≡ Offer k.offer → k.handle ≢ handle) → TellsFate sizes account k n → TellsFate sizes last k n
  operations : (n : ℕ) → operation_of (state_of sizes last) n ≡ operation_of (state_of sizes account) n

module _ (sizes : Sizes) (account : Account) (bounds : AreBounds (bounds_for sizes account.steps)) (actor handle : ℕ) (most : actor ≤ sizes.seats) (low : handle < 256)
    (idle : operation_of (state_of sizes account) actor ≡ None)
    (allowed : begin_denial (state_of sizes account) actor (Close handle) None ≡ None) where
  abbrev state : State
  state = state_of sizes account

  abbrev pub middle : Account
  middle = taking (step.Begin actor (Close handle) None) account

  abbrev pub last : Account
  last = gone_on actor middle

  -- it begins
  pub close_taken : is_taken_step (next state (step.Begin actor (Close handle) None)) ≡ true
  unfolding next
  close_taken = ap (λ d. is_taken_step (begin_unless state actor (Close handle) None d)) allowed

  pub middle_bounds : AreBounds (bounds_for sizes middle.steps)
  middle_bounds = bounds_more sizes account.steps (step.Begin actor (Close handle) None ∷ []) bounds

  pub runs : operation_of (state_of sizes middle) actor ≡ Some (begun_operation state (Close handle) None)
  runs = begin_own sizes account bounds actor (Close handle) None most idle allowed

  pub same_steps : closed_by actor handle account ≡ last
  same_steps = ap (λ l. record account { steps = l }) (sym (append_assoc account.steps (step.Begin actor (Close handle) None ∷ []) (step.Go actor ∷ [])))

  middle_roots : (state_of sizes middle).roots ≡ set state.roots handle None
  middle_roots = begin_roots sizes account bounds actor (Close handle) None most idle allowed

  ends : Ends sizes middle actor
  ends = ends_of sizes middle middle_bounds actor (begun_operation state (Close handle) None) runs reply.Closed refl

  shuts : Shuts sizes account last handle
  shuts = record {
    leaves = both_leave sizes account middle last (begin_leaves sizes account bounds actor (Close handle) None most idle allowed) ends.leaves;
    closed = ap (λ rs. get_or rs handle None) (ends.roots ∙ middle_roots)
        ∙ get_or-set_same state.roots handle None None (let long = (sizes_stay (bounds_for sizes account.steps) account.steps).0 in omega (arith, long, low));
    roots = λ g differs. ap (λ rs. get_or rs g None) (ends.roots ∙ middle_roots) ∙ found_elsewhere state.roots handle g None differs;
    fates = λ k n elsewhere h.
        fate_kept sizes middle last (step.Go actor) refl k n (λ e. words_same (state_of sizes middle) (state_of sizes last) ends.roots k.handle ∙ e)
        (fate_kept sizes account middle (step.Begin actor (Close handle) None) refl k n
        (λ e. ap (λ rs. word_of (get_or rs k.handle None)) middle_roots ∙ ap word_of (found_elsewhere state.roots handle k.handle None (elsewhere e)) ∙ e) h);
    operations = λ n. elim (cases_eq n actor) [
      | inl own ↦ ap (operation_of (state_of sizes last)) own ∙ ends.own ∙ sym idle ∙ ap (operation_of state) (sym own)
      | inr other ↦ ends.others n other ∙ begin_other sizes account bounds actor (Close handle) None most idle allowed n other
    ];
  }

  -- the history has both
  pub close_told : (past_of sizes (closed_by actor handle account)).events ≡ (past_of sizes account).events ++ event.Begin state.begun actor (Close handle) None ∷
      event.End state.begun reply.Closed ∷ []
  close_told =
      ap (λ a. (past_of sizes a).events) same_steps ∙ end_told sizes middle middle_bounds actor (begun_operation state (Close handle) None) reply.Closed runs refl
      ∙ ap (λ es. es ++ event.End state.begun reply.Closed ∷ []) (begin_told sizes account bounds actor (Close handle) None allowed)
      ∙ append_assoc (past_of sizes account).events (event.Begin state.begun actor (Close handle) None ∷ []) (event.End state.begun reply.Closed ∷ [])

  pub closes_of : Closes sizes account actor handle
  closes_of = let x = subst (λ a. Shuts sizes account a handle) (sym same_steps) shuts in record { leaves = x.leaves; closed = x.closed; roots = x.roots; fates = x.fates; operations = x.operations }
