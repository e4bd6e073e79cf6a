-- The end of each step, and a step of the sweep.
use Rattle.std.proofs.Common.{◌≡◌, ℕ, ◌+◌, ◌-◌, nat_le, Bool, true, false, cond, List, [], ◌∷◌, length, map, drop, slice_index_or, Option, Some, None, Ok, refl, sym, ap, ◌∙◌, subst}
use Rattle.std.proofs.lemmas.Option.{none-some, same_Some}
use Rattle.machine_core.specs.Vocabulary.{Ref, Slot, freed, Zeroed, Swept, limbo_after, AreAlike, Reclaimer, ripe, is_passed, scanned, advanced, sweep_by, swept_once, freed_by, outside, settled}
use Rattle.machine_core.specs.Vocabulary.{standing, next, is_spent, pin_of, reclaimer_of, swept_with, settled_after, State, root_refs}
use Rattle.slot_arena.proofs.Times.{times-append}
use Rattle.epochs.specs.Memories.{Memory}
use Rattle.epochs.proofs.Forgetting.{counts_alone, freed_leaves}
use Rattle.machine_model.specs.declared.steps.Outcome.TheVariants as outcome
use Rattle.machine_model.specs.declared.steps.Step.TheVariants as step
use Rattle.machine_core.specs.Beneath.proof_memory.proofs.Heap.Under.{freed_before}
use Rattle.machine_core.specs.Ties.{IsTied, private_refs}
use Rattle.machine_core.proofs.Steps.{sweep_answer}

-- ---- limbo

-- the references that the heap holds are those of the definition
pub alike : (memory : Memory) (state : State) → IsTied memory state.roots state.actors → AreAlike memory.outside (outside state)
alike memory state tied r = tied.held r ∙ sym (times-append r (root_refs state.roots) (private_refs state.actors))

pub limbo_by : (memory : Memory) (state : State) (limbo : List Zeroed) → IsTied memory state.roots state.actors →
    limbo_after state.heap memory.outside state.epoch limbo ≡ limbo_after state.heap (outside state) state.epoch limbo
limbo_by memory state limbo tied = counts_alone state.heap memory.outside (outside state) state.epoch limbo (alike memory state tied)

-- what the settling of this heap comes to
pub record SettledTo (state : State) (before after : Memory) : Type 0 where
  pub limbo : after.limbo ≡ limbo_after state.heap before.outside state.epoch state.limbo
  pub heap : after.heap ≡ state.heap
  pub epoch : after.epoch ≡ state.epoch
  pub cursor : after.cursor ≡ state.cursor

pub settles : (state : State) (before after : Memory) → IsTied before state.roots state.actors → SettledTo state before after →
    record state { heap = after.heap; limbo = after.limbo; epoch = after.epoch; cursor = after.cursor; steps = state.steps + 1 } ≡ settled state state
settles state before after tied to = rw (to.heap, to.epoch, to.cursor, to.limbo ∙ limbo_by before state state.limbo tied) refl

-- ---- a step of the sweep

-- what is freed is the first of limbo
ripe_first : (epoch : ℕ) (limbo : List Zeroed) (at : Ref) → ripe epoch limbo ≡ Some at → (z : Zeroed) × (rest : List Zeroed) × (limbo ≡ z ∷ rest) × (at ≡ z.at)
ripe_first epoch [] at e = absurd (none-some at e)
ripe_first epoch (z ∷ limbo) at e = (z, limbo, refl, by (nat_le (z.epoch + 2) epoch) e)
  where
    by : (b : Bool) → cond b (Some z.at) None ≡ Some at → at ≡ z.at
    by true h = sym (same_Some z.at at h)
    by false h = absurd (none-some at h)

-- where nothing is freed nothing leaves limbo
none_freed : (pins : List (Option ℕ)) (r : Reclaimer) → freed_by (sweep_by pins r None).0 ≡ 0
none_freed pins r = by (nat_le r.cursor (length pins))
  where
    by : (b : Bool) → freed_by (cond b (scanned r (is_passed r.epoch (slice_index_or pins (r.cursor - 1) None))) (advanced r)).0 ≡ 0
    by true = refl
    by false = refl

-- whether what is freed left limbo at once, or at the end of the step, comes to the same
left_by : (pins : List (Option ℕ)) (r : Reclaimer) (held : List Ref) (due : Option Ref) → ripe r.epoch r.limbo ≡ due →
    (let done = sweep_by pins r due in limbo_after done.1.heap held done.1.epoch (drop (freed_by done.0) r.limbo) ≡ limbo_after done.1.heap held done.1.epoch r.limbo)
left_by pins r held None e = ap (λ n. limbo_after (sweep_by pins r None).1.heap held (sweep_by pins r None).1.epoch (drop n r.limbo)) (none_freed pins r)
left_by pins r held (Some at) e =
    let (z, rest, is, there) = ripe_first r.epoch r.limbo at e in
    ap (λ l. limbo_after (freed r.heap at) held r.epoch (drop 1 l)) is
    ∙ ap (λ x. limbo_after (freed r.heap x) held r.epoch rest) there
    ∙ sym (freed_leaves r.heap held r.epoch z rest)
    ∙ ap (λ x. limbo_after (freed r.heap x) held r.epoch (z ∷ rest)) (sym there)
    ∙ ap (λ l. limbo_after (freed r.heap at) held r.epoch l) (sym is)

pub left : (pins : List (Option ℕ)) (r : Reclaimer) (held : List Ref) (did : Swept) (after : Reclaimer) → (did, after) ≡ swept_once pins r →
    limbo_after after.heap held after.epoch (drop (freed_by did) r.limbo) ≡ limbo_after after.heap held after.epoch r.limbo
left pins r held did after e =
    subst (λ (done : Swept × Reclaimer). limbo_after done.1.heap held done.1.epoch (drop (freed_by done.0) r.limbo) ≡ limbo_after done.1.heap held done.1.epoch r.limbo)
    (sym e) (left_by pins r held (ripe r.epoch r.limbo) refl)

-- what the heap's step of the sweep and its settling come to
pub record SweptTo (state : State) (before middle after : Memory) (did : Swept) : Type 0 where
  pub swept : (did, record { heap = middle.heap; limbo = before.limbo; epoch = middle.epoch; cursor = middle.cursor }) ≡ swept_once before.pins (reclaimer_of state)
  pub same : before.limbo ≡ state.limbo
  pub left : middle.limbo ≡ drop (freed_by did) before.limbo
  pub outside : middle.outside ≡ before.outside
  pub settled : after.limbo ≡ limbo_after middle.heap middle.outside middle.epoch middle.limbo
  pub heap : after.heap ≡ middle.heap
  pub epoch : after.epoch ≡ middle.epoch
  pub cursor : after.cursor ≡ middle.cursor

-- the state over this heap, after one step more
abbrev pub stepped : State → Memory → State
stepped state memory = record state { heap = memory.heap; limbo = memory.limbo; epoch = memory.epoch; cursor = memory.cursor; steps = state.steps + 1 }

swept_state : (state : State) (before middle after : Memory) (did : Swept) → SweptTo state before middle after did →
    stepped state after ≡ record state { heap = middle.heap; limbo = after.limbo; epoch = middle.epoch; cursor = middle.cursor; steps = state.steps + 1 }
swept_state state before middle after did to = rw (to.heap, to.epoch, to.cursor) refl

-- is the definition's step
pub sweeps : (state : State) (before middle after : Memory) (did : Swept) → is_spent state ≡ false →
    IsTied before state.roots state.actors → SweptTo state before middle after did → next state step.Sweep ≡ Ok (outcome.Swept did, stepped state after)
sweeps state before middle after did unspent tied to =
    let r : Reclaimer = reclaimer_of state in
    let left_with : Reclaimer = record { heap = middle.heap; limbo = before.limbo; epoch = middle.epoch; cursor = middle.cursor } in
    let done : (did, left_with) ≡ swept_once (map pin_of state.actors) r = to.swept ∙ ap (λ ps. swept_once ps r) tied.pins in
    let held : after.limbo ≡ limbo_after middle.heap (outside state) middle.epoch state.limbo =
    to.settled ∙ ap (λ rs. limbo_after middle.heap rs middle.epoch middle.limbo) to.outside
    ∙ ap (λ l. limbo_after middle.heap before.outside middle.epoch l) (to.left ∙ ap (drop (freed_by did)) to.same)
    ∙ left (map pin_of state.actors) r before.outside did left_with done
    ∙ counts_alone middle.heap before.outside (outside state) middle.epoch state.limbo (alike before state tied) in
    sweep_answer state unspent ∙ ap (λ d. settled_after state (swept_with state d)) (sym done)
    ∙ ap (λ l. Ok (outcome.Swept did, record state { heap = middle.heap; limbo = l; epoch = middle.epoch; cursor = middle.cursor; steps = state.steps + 1 })) (sym held)
    ∙ ap (λ x. Ok (outcome.Swept did, x)) (sym (swept_state state before middle after did to))

-- what stands after it stood before
stood_by : (pins : List (Option ℕ)) (r : Reclaimer) (due : Option Ref) (main : Ref) (slot : Slot) → standing (sweep_by pins r due).1.heap main ≡ Some slot → standing r.heap main ≡ Some slot
stood_by pins r (Some at) main slot e = freed_before r.heap at main slot e
stood_by pins r None main slot e = by (nat_le r.cursor (length pins)) e
  where
    by : (b : Bool) → standing (cond b (scanned r (is_passed r.epoch (slice_index_or pins (r.cursor - 1) None))) (advanced r)).1.heap main ≡ Some slot → standing r.heap main ≡ Some slot
    by true e = e
    by false e = e

pub stood : (pins : List (Option ℕ)) (r : Reclaimer) (did : Swept) (after : Reclaimer) → (did, after) ≡ swept_once pins r → (main : Ref) (slot : Slot) →
    standing after.heap main ≡ Some slot → standing r.heap main ≡ Some slot
stood pins r did after e main slot there =
    stood_by pins r (ripe r.epoch r.limbo) main slot (subst (λ (done : Swept × Reclaimer). standing done.1.heap main ≡ Some slot) e there)
