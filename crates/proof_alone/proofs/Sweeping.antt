-- What the sweep leaves while nothing runs, and what is in use where limbo is empty.
use Rattle.std.specs.Prelude.{◌≡◌, ◌≢◌, ◌≤◌, ◌+◌, ◌*◌, ℕ, zero, suc, false, [], length, Option, Some, None, option_map, Ok}
use Rattle.std.specs.Cmp.{nat_cmp_total}
use Rattle.std.specs.FinMap as map
use Rattle.std.specs.FinMap.{same_map, nat_cmp-IsAntisymmetric}
use Rattle.std.proofs.Common.{refl, sym, ap, subst, arith, ◌∙◌}
use Rattle.std.proofs.Math.Nat.{mul-le-mul_left, mul-suc}
use Rattle.proof_alone.specs.Vocabulary.{in_use, Root, Bounds, Outcome, Step, Sweep, content_at, is_busy, next, next_state, run, state_after, Ends, Moves, Sweeps as SweepsOnce, State, root_at}
use Rattle.proof_alone.specs.Vocabulary.{named_at, world_of, IsOfRun, UsesReached, steps_for_a_slot}
use Rattle.proof_alone.specs.Beneath.machine_model.proofs.Frames.{limits_kept, steps_counted}
use Rattle.proof_alone.specs.Beneath.machine_model.proofs.Moves.{moved}
use Rattle.proof_alone.specs.Beneath.machine_model.proofs.Slots.{add_up}
use Rattle.proof_alone.specs.Beneath.proof_memory.proofs.Levels.Runs.{has_levels, levels_of}
use Rattle.proof_alone.specs.Beneath.proof_memory.proofs.Limbo.Measure.{all_reached}
use Rattle.proof_alone.specs.Beneath.proof_memory.proofs.Limbo.Ranks.{reached_in_use}
use Rattle.proof_alone.specs.Beneath.proof_memory.proofs.Limbo.Sweeps.{sweep_leaves}
use Rattle.proof_alone.specs.Beneath.proof_memory.proofs.Limbo.Zeros.{has_zeros}
use Rattle.proof_alone.specs.Beneath.proof_memory.proofs.Safety.AtEachTime.{safe_along}
use Rattle.proof_alone.specs.Beneath.proof_memory.proofs.Safety.States.{IsSafe}
use Rattle.map_worlds.proofs.Shown.{shows_roots}
use Rattle.proof_alone.specs.Sweeps.{CleanIsReached, Sweeps, SweepsLeave, most_sweeps, sweeps, unswept}
use Rattle.proof_alone.proofs.Freeing.{IsSwept, is_swept, step_nears, until, until_at_most}
use Rattle.proof_alone.specs.Beneath.proof_memory.proofs.Limbo.Nearing.{Nears, frees, nears, until_ripe}
use Rattle.proof_alone.proofs.Runs.{by_run, of_run_behind}

-- ---- the world stays

same_roots : (state : State) (s : Step) (o : Outcome) (after : State) → Moves state s o after → s ≡ Sweep → after.roots ≡ state.roots
same_roots state s o after (SweepsOnce spent) is = refl
same_roots state s o after (Ends d found a) is = refl
same_roots state s o after m is = cc is

module _ (state : State) (safe : IsSafe state) (o : Outcome) (after : State) (e : next state Sweep ≡ Ok (o, after)) where
  led : next_state state Sweep ≡ after
  led = ap (state_after state) e

  root_stays : (handle : ℕ) → root_at after handle ≡ root_at state handle
  root_stays handle = ap (λ rs. root_at (record state { roots = rs }) handle) (same_roots state Sweep o after (moved state Sweep o after e) refl)

  named_so : (handle : ℕ) (found : Option Root) → root_at state handle ≡ found → option_map (named_at after handle) found ≡ option_map (named_at state handle) found
  named_so handle None at = refl
  named_so handle (Some root) at =
      let content = ap (λ s. content_at s handle) (sym led) ∙ (sweep_leaves state safe handle root at).1 in
      ap (λ pairs. Some (record { access = root.access; pairs = map.from_entries pairs })) content

  handle_stays : (handle : ℕ) → map.get (world_of after) handle ≡ map.get (world_of state) handle
  handle_stays handle =
      shows_roots after handle ∙ ap (option_map (named_at after handle)) (root_stays handle) ∙ named_so handle (root_at state handle) refl ∙ sym (shows_roots state handle)

  world_stays : world_of after ≡ world_of state
  world_stays = same_map nat_cmp_total nat_cmp-IsAntisymmetric (world_of after) (world_of state) handle_stays

-- ---- many steps

abbrev free_in : State → ℕ
free_in state = length state.heap.free

abbrev rate : State → ℕ
rate state = steps_for_a_slot state.limits.actors

-- the more steps were taken the more slots are free, or the nearer is the next one
record Led (before : State) (n : ℕ) (after : State) : Type 0 where
  of_run : IsOfRun after
  limits : after.limits ≡ before.limits
  rest : is_busy after ≡ false
  world : world_of after ≡ world_of before
  counted : after.steps ≡ before.steps + n
  few : n + rate before * free_in before + until after ≤ rate before * free_in after + until before

freed_sum : (rate n k k' u u' first : ℕ) → u' + 1 ≤ rate → n + k + u ≤ k' + first → suc n + k + u' ≤ k' + rate + first
freed_sum rate n k k' u u' first low h = omega (arith, low, h)

nearer_sum : (n k k' u u' first : ℕ) → u' + 1 ≤ u → n + k + u ≤ k' + first → suc n + k + u' ≤ k' + first
nearer_sum n k k' u u' first low h = omega (arith, low, h)

none_sum : (k u : ℕ) → zero + k + u ≤ k + u
none_sum k u = omega arith

module _ (before : State) (n : ℕ) (middle : State) (so_far : Led before n middle) (some : middle.limbo ≢ []) (o : Outcome) (after : State) (e : next middle Sweep ≡ Ok (o, after)) where
  actors_same : middle.limits.actors ≡ before.limits.actors
  actors_same = ap (λ (b : Bounds). b.actors) so_far.limits

  there : IsSwept middle
  there = is_swept middle so_far.of_run

  of_run_then : IsOfRun after
  of_run_then = of_run_behind middle so_far.of_run Sweep o after tt e

  its_move : Moves middle Sweep o after
  its_move = moved middle Sweep o after e

  limits_then : after.limits ≡ before.limits
  limits_then = limits_kept middle Sweep o after its_move ∙ so_far.limits

  one_nearer : Nears before.limits.actors middle after × (is_busy after ≡ false)
  one_nearer = subst (λ k. Nears k middle after × (is_busy after ≡ false)) actors_same (step_nears middle there so_far.rest some o after e)

  far_at_most : until after + 1 ≤ rate before
  far_at_most =
      let most = until_at_most after (is_swept after of_run_then) in
      let same = ap (λ (b : Bounds). b.actors) limits_then in omega (arith, most, same)

  few_then : Nears before.limits.actors middle after → suc n + rate before * free_in before + until after ≤ rate before * free_in after + until before
  few_then (frees more) =
      subst (λ k. suc n + rate before * free_in before + until after ≤ k + until before) (sym (ap (λ m. rate before * m) more ∙ mul-suc (rate before) (free_in middle)))
      (freed_sum (rate before) n (rate before * free_in before) (rate before * free_in middle) (until middle) (until after) (until before) far_at_most so_far.few)
  few_then (nears same near) =
      subst (λ m. suc n + rate before * free_in before + until after ≤ rate before * m + until before) (sym same)
      (nearer_sum n (rate before * free_in before) (rate before * free_in middle) (until middle) (until after) (until before)
      (subst
      (λ k. until_ripe k after.cursor after.epoch after.limbo + 1 ≤ until middle) (sym (ap (λ (b : Bounds). b.actors) limits_then))
      (subst (λ k. until_ripe before.limits.actors after.cursor after.epoch after.limbo + 1 ≤ until_ripe k middle.cursor middle.epoch middle.limbo) (sym actors_same) near)) so_far.few)

  one_more : Led before (suc n) after
  one_more = record {
    of_run = of_run_then;
    limits = limits_then;
    rest = one_nearer.1;
    world = world_stays middle there.safe o after e ∙ so_far.world;
    counted = let one = steps_counted middle Sweep o after its_move in let counted = so_far.counted in omega (arith, one, counted);
    few = few_then one_nearer.0;
  }

led_by : (before : State) → IsOfRun before → is_busy before ≡ false → (n : ℕ) (after : State) → Sweeps before n after → Led before n after
led_by before of_run rest n after unswept =
    record { of_run = of_run; limits = refl; rest = rest; world = refl; counted = omega arith; few = none_sum (rate before * free_in before) (until before) }
led_by before of_run rest n after (sweeps {n = m} {middle} {outcome} earlier some e) =
    one_more before m middle (led_by before of_run rest m middle earlier) some outcome after e

-- ---- all of them

all_sum : (rate n k k' u u' : ℕ) → u + 1 ≤ rate → n + k + u' ≤ k' + u → n + k ≤ k' + rate
all_sum rate n k k' u u' low h = omega (arith, low, h)

most_sum : (n k most : ℕ) → n + k ≤ most → n ≤ most
most_sum n k most h = omega (arith, h)

pub sweeps_leave : SweepsLeave
sweeps_leave before n after of_run rest way =
    let led = led_by before of_run rest n after way in
    let next_free : suc (free_in after) ≡ free_in after + 1 = omega arith in
    let few : n + rate before * free_in before ≤ rate before * (free_in after + 1) =
    subst (λ m. n + rate before * free_in before ≤ m) (sym (mul-suc (rate before) (free_in after)) ∙ ap (λ m. rate before * m) next_free)
    (all_sum (rate before) n (rate before * free_in before) (rate before * free_in after) (until before) (until after)
    (let most = until_at_most before (is_swept before of_run) in omega (arith, most)) led.few) in
    record {
      of_run = led.of_run;
      limits = led.limits;
      rest = led.rest;
      world = led.world;
      steps = led.counted;
      few = few;
      most = most_by led few;
    }
  where
    most_by : Led before n after → n + rate before * free_in before ≤ rate before * (free_in after + 1) → n ≤ most_sweeps before
    most_by led few =
        let slots = add_up after.limits.slots after.heap (is_swept after led.of_run).safe.sound.heap in
        let same = ap (λ (b : Bounds). b.slots) led.limits in
        let fits : free_in after + 1 ≤ before.limits.slots + 1 = omega (arith, slots, same) in
        let bound = mul-le-mul_left (rate before) fits in
        most_sum n (rate before * free_in before) (most_sweeps before) (most_trans few bound)
      where
        most_trans : {a b c : ℕ} → a ≤ b → b ≤ c → a ≤ c
        most_trans x y = omega (arith, x, y)

-- ---- where limbo is empty

abbrev IsClean : State → Type 0
IsClean state = UsesReached state × (length (in_use state.heap) + length state.heap.free ≡ state.limits.slots)

pub clean_is_reached : CleanIsReached
clean_is_reached =
    by_run (λ state. is_busy state ≡ false → state.limbo ≡ [] → IsClean state)
    (λ limits steps ok fit rest empty.
    let safe = safe_along limits ok steps in (
      λ r. (all_reached (run limits steps) safe (levels_of limits steps) (has_levels limits ok steps) (has_zeros limits ok steps) empty rest r, reached_in_use (run limits steps) safe r),
      add_up (run limits steps).limits.slots (run limits steps).heap safe.sound.heap,
    ))
