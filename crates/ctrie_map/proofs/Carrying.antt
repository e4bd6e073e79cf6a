-- A call that is carried out from rest with the sweep behind it, seen in its handles.
use Rattle.std.specs.Prelude.{◌≡◌, ◌+◌, ◌*◌, ◌<◌, ◌≤◌, ◌^◌, ◌&&◌, ℕ, false, nat_eq, [], length, None, Ok}
use Rattle.std.proofs.Common.{refl, sym, ap, subst, arith, ◌∙◌}
use Rattle.ctrie_map.specs.Vocabulary.{Call, Reply, NoSlots, Bounds, key_of, State}
use Rattle.history.specs.declared.calls.Call.TheVariants as call
use Rattle.ctrie_map.specs.Beneath.proof_obstruction_free.specs.Laws.{most_steps_alone}
use Rattle.proof_sizes.specs.Beneath.proof_alone.specs.Calls.{Acts, CallsDo, CanCall, Does, EnoughSlotsForCalls, RefusedIfOut, RunsOut, steps_of}
use Rattle.ctrie_map.specs.Beneath.proof_obstruction_free.specs.Calls.{IsNoWalk, slots_of}
use Rattle.proof_sizes.specs.Beneath.proof_alone.specs.Sweeps.{Sweeps, SweepsLeave, Swept, most_sweeps}
use Rattle.ctrie_map.specs.Beneath.proof_memory.specs.Sweeping.{steps_for_a_slot}
use Rattle.ctrie_map.specs.Beneath.proof_straight.specs.Resting.{IsOfRun}
use Rattle.ctrie_map.specs.Beneath.proof_straight.specs.Running.{Comes}
use Rattle.ctrie_map.specs.Beneath.map_worlds.specs.Worlds.{world_of}
use Rattle.ctrie_map.specs.Cores.{Carries, IsCalm, Replies, TakesUpTo, adds, core_denial, free_in, is_worn_out, the_actor}
use Rattle.ctrie_map.specs.Costs.{work_of_call}
use Rattle.ctrie_map.specs.Performing.{IsChange}
use Rattle.ctrie_map.proofs.Denying.{is_begun}
use Rattle.ctrie_map.proofs.Leaving.{SizeLaws, lacks_if, leaves_room}

short : (c : Call) → IsChange c → IsNoWalk c
short (call.Entries h) change = change
short (call.Count h) change = change
short c change = tt

few_steps : (c : Call) → steps_of c ≤ most_steps_alone
few_steps (call.Close h) = omega arith
few_steps (call.Clear h) = omega arith
few_steps (call.Snapshot h) = omega arith
few_steps (call.Freeze h) = omega arith
few_steps c = omega arith

module _ (before : State) (c : Call) (calm : IsCalm before) (run : IsOfRun before) (change : IsChange c) (allowed : core_denial before c ≡ None) (life : is_worn_out before ≡ false)
    (fits : key_of c < 2 ^ 64) where
  pub can : CanCall before the_actor c
  can = record { of_run = run; rest = calm.rest; allowed = is_begun before run calm.rest calm.one c change allowed life; short = short c change; fits = fits; left = grind (arith, life) }

  -- it was carried out
  module _ (law : CallsDo) (answer : Reply) (middle : State) (comes : (n : ℕ) × Comes before the_actor c n answer middle) where
    pub does : Does before c answer middle
    does = law before the_actor c can comes.0 answer middle comes.1

    -- enough steps are left for the sweep
    pub left : middle.steps + most_sweeps middle < middle.limits.steps
    left =
        let all : before.steps + (1 + most_steps_alone + most_sweeps before) < before.limits.steps = grind (arith, life) in
        subst (λ (l : Bounds). middle.steps + steps_for_a_slot l.actors * (l.slots + 1) < l.steps) (sym does.limits)
        (let most = does.steps in let few = few_steps c in omega (arith, all, most, few))

    -- and then all was swept
    module _ (leave : SweepsLeave) (after : State) (way : (k : ℕ) × Sweeps middle k after) where
      swept : Swept middle way.0 after
      swept = leave middle way.0 after does.of_run does.rest way.1

      module _ (laws : SizeLaws) (begun : (nat_eq (free_in before) 0 && adds (world_of before) c) ≡ false) where
        pub calm_after : after.limbo ≡ [] → IsCalm after
        calm_after clean =
            let same = swept.limits ∙ does.limits in record {
              one = ap (λ (l : Bounds). l.actors) same ∙ calm.one;
              life = ap (λ (l : Bounds). l.steps) same ∙ calm.life;
              rest = swept.rest;
              clean = clean;
              room = leaves_room laws before c calm can allowed begun answer middle comes does way.0 after way.1 swept;
            }

        module _ (out : RefusedIfOut) (enough : EnoughSlotsForCalls) where
          runs_out : answer ≡ NoSlots → RunsOut before the_actor c
          runs_out none = out before the_actor c can comes.0 middle (subst (λ a. Comes before the_actor c comes.0 a middle) none comes.1)

          answers : (a : Reply) → answer ≡ a → Acts before c a middle → Replies before c a after
          answers NoSlots is acts = (lacks_if laws before c calm can allowed begun answer middle comes does enough is (runs_out is), (swept.limits ∙ does.limits, swept.world ∙ acts))
          answers a is acts = (acts.0, world_of middle, acts.1, (swept.limits ∙ does.limits, swept.world))

          pub performs : Carries (Ok answer) before c after
          performs = (life, answers answer refl does.acts)

      pub works : TakesUpTo (work_of_call c) before after
      works =
          let one : middle.limits.actors ≡ 1 = ap (λ (l : Bounds). l.actors) does.limits ∙ calm.one in
          let few : way.0 + 5 * length middle.heap.free ≤ 5 * (length after.heap.free + 1) =
          subst (λ a. way.0 + steps_for_a_slot a * length middle.heap.free ≤ steps_for_a_slot a * (length after.heap.free + 1)) one swept.few in
          let so_far = swept.steps in let rises = does.rises in let steps = does.steps in let slots = does.slots in
          (omega (arith, so_far, rises), omega (arith, so_far, few, steps, slots))

      pub slots_left : length before.heap.free ≤ length after.heap.free + (slots_of c + 1)
      slots_left =
          let one : middle.limits.actors ≡ 1 = ap (λ (l : Bounds). l.actors) does.limits ∙ calm.one in
          let few : way.0 + 5 * length middle.heap.free ≤ 5 * (length after.heap.free + 1) =
          subst (λ a. way.0 + steps_for_a_slot a * length middle.heap.free ≤ steps_for_a_slot a * (length after.heap.free + 1)) one swept.few in
          let slots = does.slots in omega (arith, few, slots)
