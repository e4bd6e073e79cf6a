-- Steps of the sweep that pass each actor and let the epoch grow.
use Rattle.std.proofs.Common.{arith, ◌≡◌, ◌≢◌, ℕ, zero, suc, ◌+◌, ◌<◌, ◌≤◌, true, false, [], length, map, Ok, refl, sym, ap, ◌∙◌, subst}
use Rattle.std.proofs.lemmas.List.{length-map}
use Rattle.epochs.specs.Memories.{reclaimer_of as what_it_works_on}
use Rattle.machine_core.specs.Vocabulary.{TakesUpTo, times, Swept, limbo_after, Reclaimer, passes_all, Sweep, outside, is_spent, next, pin_of, reclaimer_of, settled_after, swept_with, State, Worked}
use Rattle.machine_core.specs.Vocabulary.{IsOfRun, IsUpToDate}
use Rattle.epochs.specs.declared.limbo.Swept.TheVariants as swept
use Rattle.epochs.proofs.Growing.{from_first, grows_last, passes_next}
use Rattle.epochs.specs.Memories.{Memory}
use Rattle.epochs.proofs.Forgetting.{counts_alone}
use Rattle.machine_model.specs.declared.steps.Outcome.TheVariants as outcome
use Rattle.proof_core.proofs.Given.{sizes}
use Rattle.proof_core.proofs.Bounded.{taken_run}
use Rattle.machine_core.specs.declared.parts.Parts.{Parts}
use Rattle.machine_core.specs.Keeping.{IsCore}
use Rattle.machine_core.specs.Seen.{seen}
use Rattle.machine_core.specs.Work.{SweepsLittle, worked}
use Rattle.machine_core.specs.Beneath.proof_straight.proofs.Runs.Resting.{limbo_up_to_date}
use Rattle.machine_core.specs.Sweeping.{Reclaims, at_first, one_more}
use Rattle.machine_core.proofs.Ends.{alike}
use Rattle.machine_core.proofs.Kept.{kept_alike}
use Rattle.machine_core.proofs.Reclaimed.{IsReclaimed}
use Rattle.machine_core.proofs.Steps.{sweep_answer}

-- steps of the sweep lead from a state of a run to one
pub reclaimed_run : (before : Worked) (n : ℕ) (after : Worked) → IsOfRun before.state → Reclaims before n after → IsOfRun after.state
reclaimed_run before zero after run at_first = run
reclaimed_run before (suc n) after run (one_more {middle = middle} {outcome = o} so_far some is little) =
    taken_run middle.state after.state Sweep o is tt (reclaimed_run before n middle run so_far)

-- so many behind so many
pub reclaims_on : (before middle : Worked) (n : ℕ) (after : Worked) (m : ℕ) → Reclaims before m middle → Reclaims middle n after → Reclaims before (n + m) after
reclaims_on before middle zero after m first at_first = subst (λ k. Reclaims before k middle) (let none : m ≡ 0 + m = omega arith in none) first
reclaims_on before middle (suc n) after m first (one_more {middle = between} so_far some is little) =
    subst (λ k. Reclaims before k after) (let all : suc (n + m) ≡ suc n + m = omega arith in all) (one_more {middle = between} (reclaims_on before middle n between m first so_far) some is little)

module _ (state : State) (work : ℕ) (calm : IsUpToDate state) (some : state.limbo ≢ []) (passes : passes_all (map pin_of state.actors) (reclaimer_of state) ≡ true)
    (left : state.steps + length (map pin_of state.actors) < state.limits.steps) where
  -- after so many steps
  abbrev pub passed_by : ℕ → State
  passed_by n = record state { cursor = n + 1; steps = state.steps + n }

  abbrev at : ℕ → Worked
  at n = record { state = passed_by n; work = work }

  unspent : (n : ℕ) → n ≤ length (map pin_of state.actors) → is_spent (passed_by n) ≡ false
  unspent n within = grind (arith, within, left)

  next_passed : (n : ℕ) → n < length (map pin_of state.actors) → next (passed_by n) Sweep ≡ Ok (outcome.Swept (swept.Scanned true), passed_by (n + 1))
  next_passed n within =
      sweep_answer (passed_by n) (unspent n (omega (arith, within)))
      ∙ ap (λ (d : Swept × Reclaimer). settled_after (passed_by n) (swept_with (passed_by n) d)) (passes_next (map pin_of state.actors) (reclaimer_of state) passes n within)
      ∙ ap (λ l. Ok (outcome.Swept (swept.Scanned true), record state { cursor = n + 1 + 1; limbo = l; steps = state.steps + n + 1 })) calm
      ∙ ap (λ k. Ok (outcome.Swept (swept.Scanned true), record state { cursor = n + 1 + 1; steps = k })) (let sum : state.steps + n + 1 ≡ state.steps + (n + 1) = omega arith in sum)

  passed : (n : ℕ) → n ≤ length (map pin_of state.actors) → Reclaims (at 0) n (at n)
  passed zero within = at_first
  passed (suc n) within =
      subst (λ k. Reclaims (at 0) (suc n) (at k)) (let next : n + 1 ≡ suc n = omega arith in next)
      (one_more {middle = at n} {after = at (n + 1)} (passed n (omega (arith, within))) some (next_passed n (omega (arith, within))) (omega arith, omega arith))

  -- the epoch has grown
  abbrev pub grown : State
  grown = record state { epoch = state.epoch + 1; cursor = 1; steps = state.steps + (length (map pin_of state.actors) + 1) }

  next_grown : limbo_after state.heap (outside state) (state.epoch + 1) state.limbo ≡ state.limbo → next (passed_by (length (map pin_of state.actors))) Sweep
      ≡ Ok (outcome.Swept (swept.Advanced (state.epoch + 1)), grown)
  next_grown stays =
      let n : ℕ = length (map pin_of state.actors) in
      sweep_answer (passed_by n) (unspent n (omega arith))
      ∙ ap (λ (d : Swept × Reclaimer). settled_after (passed_by n) (swept_with (passed_by n) d)) (grows_last (map pin_of state.actors) (reclaimer_of state) passes)
      ∙ ap (λ l. Ok (outcome.Swept (swept.Advanced (state.epoch + 1)), record state { epoch = state.epoch + 1; cursor = 1; limbo = l; steps = state.steps + n + 1 })) stays
      ∙ ap (λ k. Ok (outcome.Swept (swept.Advanced (state.epoch + 1)), record state { epoch = state.epoch + 1; cursor = 1; steps = k }))
      (let sum : state.steps + n + 1 ≡ state.steps + (n + 1) = omega arith in sum)

  -- one for each actor, and one more
  pub grows : (work' : ℕ) → limbo_after state.heap (outside state) (state.epoch + 1) state.limbo ≡ state.limbo → work ≤ work' → work' ≤ work + 1 →
      Reclaims (record { state = state; work = work }) (suc (length (map pin_of state.actors))) (record { state = grown; work = work' })
  grows work' stays more little =
      let n : ℕ = length (map pin_of state.actors) in
      let first : passed_by 0 ≡ state =
      ap (λ k. record state { cursor = k; steps = state.steps + 0 }) (sym (from_first (map pin_of state.actors) (reclaimer_of state) passes))
      ∙ ap (λ k. record state { steps = k }) (let none : state.steps + 0 ≡ state.steps = omega arith in none) in
      subst (λ s. Reclaims (record { state = s; work = work }) (suc n) (record { state = grown; work = work' })) first
      (one_more {middle = at n} {after = record { state = grown; work = work' }} (passed n (omega arith)) some (next_grown stays) (omega (arith, more), omega (arith, little)))

-- ---- parts of a core

-- the heap and the count of steps changed, and a run leads there
pub core_over : (parts : Parts) (memory : Memory) (steps : ℕ) → IsOfRun (seen (record parts { heap = memory; steps = steps })) → memory.outside ≡ parts.heap.outside →
    memory.pins ≡ parts.heap.pins → memory.noted ≡ [] → IsCore parts → IsCore (record parts { heap = memory; steps = steps })
core_over parts memory steps run outside pins noted core = record {
  run = run;
  kept = kept_alike parts (record parts { heap = memory; steps = steps }) (record {
    limits = refl;
    table = refl;
    actors = refl;
    handles = refl;
    outside = λ r. ap (times r) outside;
    pins = pins;
  }) core.kept;
  settled = noted;
}

-- the heap's epoch has grown at once
pub grown_parts : (parts : Parts) → IsCore parts → (seen parts).limbo ≢ [] → true ≡ passes_all parts.heap.pins (what_it_works_on parts.heap) →
    parts.steps + (parts.limits.actors + 1) ≤ parts.limits.steps → parts.heap.limbo ≡ limbo_after parts.heap.heap parts.heap.outside (parts.heap.epoch + 1) parts.heap.limbo →
    Reclaims (worked parts) (parts.limits.actors + 1)
    (worked (record parts { heap = record parts.heap { epoch = parts.heap.epoch + 1; ticks = parts.heap.ticks + 1 }; steps = parts.steps + (parts.limits.actors + 1) }))
grown_parts parts core some passes left settled =
    let state : State = seen parts in
    let tied = core.kept.tied in
    let so : passes_all (map pin_of state.actors) (reclaimer_of state) ≡ true = ap (λ ps. passes_all ps (reclaimer_of state)) (sym tied.pins) ∙ sym passes in
    let many : length (map pin_of state.actors) ≡ state.limits.actors = length-map state.actors pin_of ∙ (sizes state core.run).1 in
    let calm : IsUpToDate state = subst IsUpToDate (sym core.run.is) (limbo_up_to_date state.limits core.run.steps core.run.limits) in
    let stays : limbo_after state.heap (outside state) (state.epoch + 1) state.limbo ≡ state.limbo =
    sym (counts_alone state.heap parts.heap.outside (outside state) (state.epoch + 1) state.limbo (alike parts.heap state tied)) ∙ sym settled in
    let to : ℕ → ℕ → Worked = λ cursor steps. record { state = record state { epoch = state.epoch + 1; cursor = cursor; steps = steps }; work = parts.heap.ticks + 1 } in
    let n : ℕ = length (map pin_of state.actors) in
    subst (λ k. Reclaims (worked parts) (state.limits.actors + 1) (to k (state.steps + (state.limits.actors + 1)))) (sym (from_first (map pin_of state.actors) (reclaimer_of state) so))
    (subst (λ m. Reclaims (worked parts) (m + 1) (to 1 (state.steps + (m + 1)))) many
    (subst (λ m. Reclaims (worked parts) m (to 1 (state.steps + (n + 1)))) (let all : suc n ≡ n + 1 = omega arith in all)
    (grows state parts.heap.ticks calm some so (omega (arith, many, left)) (parts.heap.ticks + 1) stays (omega arith) (omega arith))))

-- ---- in the loop

pub reclaimed_grown : (before now after : Parts) (n : ℕ) → IsReclaimed before now → Reclaims (worked now) n (worked after) → IsCore after → IsReclaimed before after
reclaimed_grown before now after n so_far on core = record { n = n + so_far.n; reclaims = reclaims_on (worked before) (worked now) n (worked after) so_far.n so_far.reclaims on; core = core }

-- a step more, before which the heap was looked at
pub reclaimed_more : (before now after : Parts) (ticks : ℕ) (swept : Swept) → IsReclaimed before now → (seen now).limbo ≢ [] → TakesUpTo 1 now.heap.ticks ticks →
    next (seen now) Sweep ≡ Ok (outcome.Swept swept, seen after) → SweepsLittle (record { state = seen now; work = ticks }) (worked after) → IsCore after → IsReclaimed before after
reclaimed_more before now after ticks swept so_far some looks is little core = record {
  n = suc so_far.n;
  reclaims = one_more {middle = worked now} {after = worked after} so_far.reclaims some is (omega (arith, looks.0, little.0), omega (arith, looks.1, little.1));
  core = core;
}
