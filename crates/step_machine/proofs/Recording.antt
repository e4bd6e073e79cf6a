-- Runs that leave out what is denied, step by step, and their records.
use Rattle.std.specs.Prelude.{◌≡◌, Bool, true, false, if◌then◌else◌, List, [], ◌∷◌, ◌++◌, Result, Ok, Err, IfOk}
use Rattle.std.proofs.Common.{refl, sym, ap, subst, ◌∙◌}
use Rattle.step_machine.specs.Vocabulary.{Refusal, Limits, Step, Outcome, in_use, first_record, order_of, record_of, bounded, State, first_state, next, next_state, run_from, run, is_taken_step}
use Rattle.step_machine.specs.Vocabulary.{taken_from, hash_of, Explains}
use Rattle.ctrie_base.specs.declared.refusals.Refusal.TheVariants as refuse
use Rattle.std.specs.Prelude.{length}
use Rattle.machine_model.proofs.Taken.{run-taken}
use Rattle.machine_model.proofs.Recorded.{record-taken}
use Rattle.step_machine.specs.Beneath.proof_order.specs.Laws.Orders.{ShowsContents, IsExplained}
use Rattle.proof_runs.specs.Machines.{Taken, fresh, past_of, state_of, with_step, Applied}
use Rattle.step_machine.specs.declared.records.Record.{Record}
use Rattle.step_machine.specs.Records.{IsAfter, IsRecordOf, IsRecord, IsLegalRecord}

-- its state is that of the run
pub run_kept : (limits : Limits) (steps : List Step) (machine : Taken) → IsAfter limits steps machine → state_of machine ≡ run (bounded limits) steps
run_kept limits steps machine kept = ap (λ m. state_of m) kept ∙ run-taken (first_state (bounded limits)) steps

-- and so is its record
pub record_kept : (limits : Limits) (steps : List Step) (machine : Taken) → IsAfter limits steps machine → past_of machine ≡ record_of (bounded limits) steps
record_kept limits steps machine kept = ap (λ m. past_of m) kept ∙ record-taken (first_state (bounded limits)) (first_record (bounded limits)) steps

-- the last step is taken, or denied

behind : (b : Bool) (x s : Step) (ys zs : List Step) → zs ≡ ys ++ s ∷ [] → (if b then x ∷ zs else zs) ≡ (if b then x ∷ ys else ys) ++ s ∷ []
behind true x s ys zs e = ap (λ l. x ∷ l) e
behind false x s ys zs e = e

taken_push : (state : State) (xs : List Step) (s : Step) (o : Outcome) (after : State) → next (run_from state xs) s ≡ Ok (o, after) →
    taken_from state (xs ++ s ∷ []) ≡ taken_from state xs ++ s ∷ []
unfolding run_from taken_from
taken_push state [] s o after e = let taken : next state s ≡ Ok (o, after) = e in rw taken refl
taken_push state (x ∷ xs) s o after e =
    behind (is_taken_step (next state x)) x s (taken_from (next_state state x) xs) (taken_from (next_state state x) (xs ++ s ∷ [])) (taken_push (next_state state x) xs s o after e)

denied_push : (state : State) (xs : List Step) (s : Step) (refusal : Refusal) → next (run_from state xs) s ≡ Err refusal →
    taken_from state (xs ++ s ∷ []) ≡ taken_from state xs
unfolding run_from taken_from
denied_push state [] s refusal e = let refused : next state s ≡ Err refusal = e in rw refused refl
denied_push state (x ∷ xs) s refusal e =
    ap (λ ys. if is_taken_step (next state x) then x ∷ ys else ys) (denied_push (next_state state x) xs s refusal e)

-- before the first step
pub none_kept : (limits : Limits) → IsAfter limits [] (fresh limits)
unfolding taken_from
none_kept limits = refl

-- a step that is taken
pub kept_taken : (limits : Limits) (xs : List Step) (s : Step) (o : Outcome) (machine after : Taken) → IsAfter limits xs machine →
    Applied (Ok o) machine s after → IsAfter limits (xs ++ s ∷ []) after
kept_taken limits xs s o machine after kept step =
    step.0 ∙ ap (λ m. with_step m s) kept ∙ ap (λ ys. record { limits = limits; steps = ys })
    (sym (taken_push (first_state (bounded limits)) xs s o (state_of after) (subst (λ state. next state s ≡ Ok (o, state_of after)) (run_kept limits xs machine kept) step.1)))

-- a step that is denied
pub kept_denied : (limits : Limits) (xs : List Step) (s : Step) (refusal : Refusal) (machine after : Taken) → IsAfter limits xs machine →
    Applied (Err refusal) machine s after → (refusal ≡ refuse.Memory → ⊥) → IsAfter limits (xs ++ s ∷ []) after
kept_denied limits xs s refuse.Memory machine after kept step other = absurd (other refl)
kept_denied limits xs s refusal machine after kept step other =
    step.0 ∙ kept ∙ ap (λ ys. record { limits = limits; steps = ys })
    (sym (denied_push (first_state (bounded limits)) xs s refusal (subst (λ state. next state s ≡ Err refusal) (run_kept limits xs machine kept) step.1)))

-- the record of such a machine is that of the run
pub recorded : (limits : Limits) (steps : List Step) (machine : Taken) (made : Record) → IsAfter limits steps machine → IsRecordOf machine made → IsRecord limits steps made
recorded limits steps machine made after r = record {
  sizes = r.sizes ∙ ap (λ m. m.limits) after;
  path = r.path ∙ ap (λ m. m.steps) after;
  history = r.history ∙ ap (λ past. past.events) (record_kept limits steps machine after);
  order = r.order ∙ ap (λ past. order_of past) (record_kept limits steps machine after);
  used = r.used ∙ ap (λ state. length (in_use state.heap)) (run_kept limits steps machine after);
  free = r.free ∙ ap (λ state. length state.heap.free) (run_kept limits steps machine after);
  limbo = r.limbo ∙ ap (λ state. length state.limbo) (run_kept limits steps machine after);
}

-- ---- its order

record_legal : (machine : Taken) → IsExplained (bounded machine.limits) (state_of machine) (past_of machine) → (made : Record) → IsRecordOf machine made → IsLegalRecord made
record_legal machine (world, explains, shows) made is =
    let by_hash = subst (λ (sizes : Limits). Explains (hash_of sizes.hash) (past_of machine).events (order_of (past_of machine)) world) (sym is.sizes) explains in
    let by_events = subst (λ events. Explains (hash_of made.limits.hash) events (order_of (past_of machine)) world) (sym is.history) by_hash in
    let by_order = subst (λ order. Explains (hash_of made.limits.hash) made.events.items order world) (sym is.order) by_events in
    let by_sizes = subst (λ (sizes : Limits). ShowsContents world (run (bounded sizes) machine.steps)) (sym is.sizes) shows in
    (world, by_order, subst (λ steps. ShowsContents world (run (bounded made.limits) steps)) (sym is.path) by_sizes)

pub if_record_legal : {E : Type 0} (machine : Taken) → IsExplained (bounded machine.limits) (state_of machine) (past_of machine) → (result : Result Record E) → IfOk result (IsRecordOf machine) →
    IfOk result IsLegalRecord
if_record_legal machine explained (Ok made) is = record_legal machine explained made is
if_record_legal machine explained (Err why) is = tt
