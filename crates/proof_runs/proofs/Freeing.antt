-- How many steps of the sweep it takes to free slots, where no operation runs.
use Rattle.std.specs.Prelude.{◌≡◌, ◌≤◌, ◌+◌, ◌*◌, ℕ, zero, suc, Bool, true, false, [], length}
use Rattle.std.specs.Prelude.{Result, Ok, Err}
use Rattle.std.proofs.Common.{refl, sym, ap, subst, arith, ◌∙◌}
use Rattle.std.proofs.Math.Nat.{mul-suc}
use Rattle.proof_runs.specs.Vocabulary.{Refusal, Limits, bounded, AreBounds, is_busy, next, State, steps_for_a_slot}
use Rattle.proof_runs.specs.Beneath.machine_model.specs.declared.steps.Step.TheVariants as step
use Rattle.proof_runs.specs.Beneath.machine_model.proofs.Moves.{moved}
use Rattle.proof_memory.proofs.Holding.Sizes.{sizes_stay}
use Rattle.proof_memory.proofs.Limbo.Epochs.{limbo_lies}
use Rattle.proof_memory.proofs.Safety.AtEachTime.{safe_along}
use Rattle.proof_runs.specs.Callers.{AreNeeded, HasLimbo, Reclaims, ReclaimsUnless, SweepsUntil, swept}
use Rattle.proof_runs.specs.Machines.{IsTaken, Taken, state_of, with_step}
use Rattle.proof_runs.specs.Reclaiming.{SweepsFew, SweepsUpTo}
use Rattle.proof_runs.proofs.Sweeping.{nearer, step_by}
use Rattle.proof_memory.proofs.Limbo.Nearing.{Nears, counts_along, frees, move_nears, nears, ripe_most, until_ripe}

-- ---- a step of a machine

abbrev until : Taken → ℕ
until machine = until_ripe machine.limits.actors (state_of machine).cursor (state_of machine).epoch (state_of machine).limbo

until_at_most : (machine : Taken) → until machine ≤ 2 * machine.limits.actors + 2
until_at_most machine =
    ripe_most machine.limits.actors (state_of machine).cursor (state_of machine).epoch (counts_along (bounded machine.limits) machine.steps) (state_of machine).limbo

module _ (machine : Taken) (ok : AreBounds (bounded machine.limits)) (idle : is_busy (state_of machine) ≡ false) (some : HasLimbo machine) (taken : IsTaken (state_of machine) step.Sweep) where
  abbrev later : State
  later = state_of (with_step machine step.Sweep)

  step_nears : Nears machine.limits.actors (state_of machine) later × (is_busy later ≡ false)
  step_nears =
      let (o, so) = step_by machine (next (state_of machine) step.Sweep) refl taken in
      move_nears (state_of machine) (safe_along (bounded machine.limits) ok machine.steps) (limbo_lies (bounded machine.limits) machine.steps) idle some machine.limits.actors
      (sizes_stay (bounded machine.limits) machine.steps).1 o later (moved (state_of machine) step.Sweep o later so.1)

-- ---- many steps

abbrev free_in : Taken → ℕ
free_in machine = length (state_of machine).heap.free

abbrev rate : Taken → ℕ
rate machine = steps_for_a_slot machine.limits.actors

-- the more steps were taken the more slots are free, or the nearer is the next one
pub record Led (before after : Taken) : Type 0 where
  pub limits : after.limits ≡ before.limits
  pub idle : is_busy (state_of after) ≡ false
  pub rises : (state_of before).steps ≤ (state_of after).steps
  pub few : (state_of after).steps + rate before * free_in before + until after ≤ (state_of before).steps + rate before * free_in after + until before

le_same : (n : ℕ) → n ≤ n
le_same n = omega arith

freed_sum : (rate k k' s s' u u1 u' : ℕ) → u1 + 1 ≤ rate → s' + (k + rate) + u' ≤ s + 1 + k' + u1 → s' + k + u' ≤ s + k' + u
freed_sum rate k k' s s' u u1 u' low h = omega (arith, low, h)

nearer_sum : (k k' s s' u u1 u' : ℕ) → u1 + 1 ≤ u → s' + k + u' ≤ s + 1 + k' + u1 → s' + k + u' ≤ s + k' + u
nearer_sum k k' s s' u u1 u' low h = omega (arith, low, h)

module _ (machine : Taken) (last : Taken) (counted : (state_of (with_step machine step.Sweep)).steps ≡ (state_of machine).steps + 1)
    (h : Led (with_step machine step.Sweep) last) where
  abbrev middle : Taken
  middle = with_step machine step.Sweep

  sums : (state_of last).steps + rate machine * free_in middle + until last ≤ (state_of machine).steps + 1 + rate machine * free_in last + until middle
  sums = subst (λ s. (state_of last).steps + rate machine * free_in middle + until last ≤ s + rate machine * free_in last + until middle) counted h.few

  by_nears : Nears machine.limits.actors (state_of machine) (state_of middle) →
      (state_of last).steps + rate machine * free_in machine + until last ≤ (state_of machine).steps + rate machine * free_in last + until machine
  by_nears (frees more) =
      freed_sum (rate machine) (rate machine * free_in machine) (rate machine * free_in last) (state_of machine).steps (state_of last).steps (until machine) (until middle) (until last)
      (let low = until_at_most middle in omega (arith, low))
      (subst (λ n. (state_of last).steps + n + until last ≤ (state_of machine).steps + 1 + rate machine * free_in last + until middle)
      (ap (λ n. rate machine * n) more ∙ mul-suc (rate machine) (free_in machine)) sums)
  by_nears (nears same near) =
      nearer_sum (rate machine * free_in machine) (rate machine * free_in last) (state_of machine).steps (state_of last).steps (until machine) (until middle) (until last) near
      (subst (λ n. (state_of last).steps + rate machine * n + until last ≤ (state_of machine).steps + 1 + rate machine * free_in last + until middle) same sums)

pub led : (n : ℕ) (machine : Taken) → AreBounds (bounded machine.limits) → is_busy (state_of machine) ≡ false → AreNeeded n machine → Led machine (swept n machine)
unfolding swept
led zero machine ok idle needed = record { limits = refl; idle = idle; rises = le_same _; few = le_same _ }
led (suc n) machine ok idle needed =
    let (some, taken) = needed zero (omega arith) in
    let (near, rest) = step_nears machine ok idle some taken in
    let more = led n (with_step machine step.Sweep) ok rest (λ m below. needed (suc m) (omega (arith, below))) in
    let (below, counted) = nearer machine (with_step machine step.Sweep) (step_by machine (next (state_of machine) step.Sweep) refl taken) in
    let later = more.rises in
    record { limits = more.limits; idle = more.idle; rises = omega (arith, later, counted); few = by_nears machine (swept n (with_step machine step.Sweep)) counted more near }

-- ---- all of it

ended_sum : (k k' s s' u most : ℕ) → u ≤ most → s' + k + most ≤ s + k' + u → s' + k ≤ s + k' + 0
ended_sum k k' s s' u most low h = omega (arith, low, h)

broken_sum : (k k' s s' u u' most : ℕ) → u ≤ most → s' + k + u' ≤ s + k' + u → s' + k ≤ s + k' + most
broken_sum k k' s s' u u' most low h = omega (arith, low, h)

more_sum : (k s most : ℕ) → s + k ≤ s + k + most
more_sum k s most = omega arith

-- from where limbo is empty it is as far as can be
pub led_to_empty : (before after : Taken) → Led before after → (state_of after).limbo ≡ [] → SweepsUpTo 0 before after
led_to_empty before after h empty =
    let far : until after ≡ 2 * before.limits.actors + 2 =
    ap (until_ripe after.limits.actors (state_of after).cursor (state_of after).epoch) empty ∙ ap (λ (l : Limits). 2 * l.actors + 2) h.limits in
    ended_sum (rate before * free_in before) (rate before * free_in after) (state_of before).steps (state_of after).steps (until before) (2 * before.limits.actors + 2) (until_at_most before)
    (subst (λ n. (state_of after).steps + rate before * free_in before + n ≤ (state_of before).steps + rate before * free_in after + until before) far h.few)

pub led_so_far : (before after : Taken) → Led before after → SweepsUpTo (2 * before.limits.actors + 2) before after
led_so_far before after h =
    broken_sum (rate before * free_in before) (rate before * free_in after) (state_of before).steps (state_of after).steps (until before) (until after) (2 * before.limits.actors + 2)
    (until_at_most before) h.few

by_result : (result : Result (Unit {0}) Refusal) (before after : Taken) → Led before after → SweepsUntil result after → SweepsFew result before after
by_result (Ok done) before after h empty = led_to_empty before after h empty
by_result (Err why) before after h broken = led_so_far before after h

unless_busy : (busy : Bool) (result : Result (Unit {0}) Refusal) (before after : Taken) → AreBounds (bounded before.limits) → is_busy (state_of before) ≡ busy →
    ReclaimsUnless busy result before after →
    SweepsFew result before after
unless_busy true result before after ok e (is, same) = rw is (subst (SweepsUpTo (2 * before.limits.actors + 2) before) (sym same) (more_sum _ _ _))
unless_busy false result before after ok e (n, is, needed, until_so) = by_result result before after (subst (Led before) (sym is) (led n before ok e needed)) until_so

pub sweeps_few : (result : Result (Unit {0}) Refusal) (before after : Taken) → AreBounds (bounded before.limits) → Reclaims result before after → SweepsFew result before after
sweeps_few result before after ok r = unless_busy (is_busy (state_of before)) result before after ok refl r
