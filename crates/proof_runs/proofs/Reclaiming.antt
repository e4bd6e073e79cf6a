-- What the sweep leaves, once it has come to an end.
use Rattle.std.specs.Prelude.{◌≡◌, ℕ, zero, suc, Bool, true, false, is_some, Result, Ok, Err, OnOk}
use Rattle.std.specs.List.{list_any}
use Rattle.std.proofs.Common.{refl, sym, ap, subst, ◌∙◌}
use Rattle.proof_runs.specs.Vocabulary.{Refusal, Busy, Sweep, State, first_state, root_at, bounded, AreBounds, Answer, next, next_state, state_after, is_busy, Sweeps, MovesIfTaken, content_at}
use Rattle.proof_runs.specs.Vocabulary.{first_record, order_of, SweepLeaves, UsesReached, Reclaimed}
use Rattle.proof_runs.specs.Beneath.machine_model.proofs.Along.{run_push}
use Rattle.proof_runs.specs.Beneath.machine_model.proofs.Moves.{moves}
use Rattle.proof_runs.specs.Beneath.machine_model.proofs.Recorded.{record_push}
use Rattle.proof_runs.specs.Machines.{Taken, past_of, state_of, with_step}
use Rattle.proof_runs.specs.Callers.{swept, Reclaims, ReclaimsUnless}
use Rattle.proof_runs.specs.Reclaiming.{LooksSame}

pub same_looks : (machine : Taken) → LooksSame machine machine
same_looks machine = record { events = refl; order = refl; roots = λ handle. refl; contents = λ handle root e. refl }

looks_on : (a b c : Taken) → LooksSame a b → LooksSame b c → LooksSame a c
looks_on a b c x y = record {
  events = y.events ∙ x.events;
  order = y.order ∙ x.order;
  roots = λ handle. y.roots handle ∙ x.roots handle;
  contents = λ handle root e. y.contents handle root (x.roots handle ∙ e) ∙ x.contents handle root e;
}

-- one step of the sweep leaves roots and actors
sweeps_alone : (state : State) (answer : Answer) → MovesIfTaken state Sweep answer →
    ((state_after state answer).roots ≡ state.roots) × ((state_after state answer).actors ≡ state.actors)
sweeps_alone state (Ok (o, after)) (Sweeps spent) = (refl, refl)
sweeps_alone state (Err why) m = (refl, refl)

module _ (leaves : SweepLeaves) where
  one_step : (machine : Taken) → AreBounds (bounded machine.limits) → LooksSame machine (with_step machine Sweep) × (is_busy (state_of (with_step machine Sweep)) ≡ is_busy (state_of machine))
  one_step machine ok =
      let state : State = state_of machine in
      let alone = sweeps_alone state (next state Sweep) (moves state Sweep) in
      let left = leaves (bounded machine.limits) machine.steps ok in
      let to : state_of (with_step machine Sweep) ≡ next_state state Sweep = run_push (first_state (bounded machine.limits)) machine.steps Sweep in
      let told : past_of (with_step machine Sweep) ≡ past_of machine =
      record_push (first_state (bounded machine.limits)) (first_record (bounded machine.limits)) machine.steps Sweep ∙ left.1 in (
        record {
          events = ap (λ past. past.events) told;
          order = ap (λ past. order_of past) told;
          roots = λ handle. ap (λ s. root_at s handle) to ∙ ap (λ rs. root_at (record state { roots = rs }) handle) alone.0;
          contents = λ handle root e. ap (λ s. content_at s handle) to ∙ (left.0 handle root e).1;
        },
        ap (λ s. is_busy s) to ∙ ap (list_any is_some) alone.1,
      )

  pub steps_on : (n : ℕ) (machine : Taken) → AreBounds (bounded machine.limits) →
      LooksSame machine (swept n machine) × (is_busy (state_of (swept n machine)) ≡ is_busy (state_of machine))
      × ((swept n machine).limits ≡ machine.limits)
  unfolding swept
  steps_on zero machine ok = (same_looks machine, refl, refl)
  steps_on (suc n) machine ok =
      let first = one_step machine ok in
      let rest = steps_on n (with_step machine Sweep) ok in
      (looks_on machine (with_step machine Sweep) (swept n (with_step machine Sweep)) first.0 rest.0, rest.1 ∙ first.1, rest.2)

  looks_by : (busy : Bool) (result : Result (Unit {0}) Refusal) (before after : Taken) → AreBounds (bounded before.limits) → ReclaimsUnless busy result before after →
      LooksSame before after
  looks_by true result before after ok r = subst (λ m. LooksSame before m) (sym r.1) (same_looks before)
  looks_by false result before after ok (n, is, needed, until) = subst (λ m. LooksSame before m) (sym is) (steps_on n before ok).0

  pub looks_same : (result : Result (Unit {0}) Refusal) (before after : Taken) → AreBounds (bounded before.limits) → Reclaims result before after → LooksSame before after
  looks_same result before after ok r = looks_by (is_busy (state_of before)) result before after ok r

  clean_by : (busy : Bool) (before after : Taken) → Reclaimed → AreBounds (bounded before.limits) → is_busy (state_of before) ≡ busy → ReclaimsUnless busy (Ok tt) before after →
      UsesReached (state_of after)
  clean_by true before after law ok busy (bad, same) = let wrong : Ok tt ≡ Err Busy = bad in cc
  clean_by false before after law ok idle (n, is, needed, empty) =
      let on = steps_on n before ok in
      let rest : is_busy (state_of after) ≡ false = subst (λ m. is_busy (state_of m) ≡ false) (sym is) (on.1 ∙ idle) in
      let sizes : AreBounds (bounded after.limits) = subst (λ m. AreBounds (bounded m.limits)) (sym is) (subst (λ l. AreBounds (bounded l)) (sym on.2) ok) in
      law (bounded after.limits) after.steps sizes rest empty

  uses_reached : (before after : Taken) → Reclaimed → AreBounds (bounded before.limits) → Reclaims (Ok tt) before after → UsesReached (state_of after)
  uses_reached before after law ok r = clean_by (is_busy (state_of before)) before after law ok refl r

  pub on_ok : (result : Result (Unit {0}) Refusal) (before after : Taken) → Reclaimed → AreBounds (bounded before.limits) → Reclaims result before after → OnOk result (UsesReached (state_of after))
  on_ok (Ok done) before after law ok r = uses_reached before after law ok r
  on_ok (Err why) before after law ok r = tt
