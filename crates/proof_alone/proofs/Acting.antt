-- What a call does that runs alone from rest.
use Rattle.std.specs.Prelude.{None, ◌≡◌, ◌≢◌, ◌≤◌, ◌+◌, ℕ, suc, true, List, [], ◌∷◌, ◌++◌, length, replicate, Option}
use Rattle.std.proofs.Common.{refl, sym, ap, subst, arith, ◌∙◌}
use Rattle.std.proofs.lemmas.List.{append_assoc}
use Rattle.proof_alone.specs.Vocabulary.{hash_of, Call, Clear, Close, Count, Entries, Freeze, Snapshot, Reply, Closed, NoSlots, Effect, HandleMap, Heap, Bounds, Ended, Step, Go, is_close, KeysFit}
use Rattle.proof_alone.specs.Vocabulary.{AreBounds, next, run, Record, record_of, State, acts, refused, RanAlone, world_of, IsCopying, IsOnKeyOrRoot, makes_alone, most_makes_alone}
use Rattle.proof_alone.specs.Vocabulary.{most_steps_of_copies, IsOfRun, Comes, IsNoWalk, slots_of}
use Rattle.proof_alone.specs.Beneath.machine_model.specs.declared.steps.Step.TheVariants.{Begin}
use Rattle.proof_alone.specs.Beneath.machine_model.proofs.Along.{limits_along}
use Rattle.proof_alone.specs.Beneath.machine_model.proofs.Frames.{steps_counted}
use Rattle.proof_alone.specs.Beneath.machine_model.proofs.Moves.{moved}
use Rattle.proof_alone.specs.Beneath.proof_linearizable.specs.Laws.{Does as DoesInOrder}
use Rattle.proof_alone.specs.Beneath.proof_linearizable.proofs.Legal.{alone_it_acts}
use Rattle.map_worlds.proofs.Shown.{shown_is_one}
use Rattle.proof_obstruction_free.proofs.Ends.Alone.{all_fit}
use Rattle.proof_obstruction_free.proofs.Slots.AtBegin.{tries_first}
use Rattle.proof_obstruction_free.proofs.Slots.Few.{copies_make_few}
use Rattle.proof_obstruction_free.proofs.Slots.Free.{free_after}
use Rattle.proof_obstruction_free.proofs.Slots.Tries.{tries_make_few}
use Rattle.proof_alone.specs.Calls.{Acts, CallsDo, CanCall, Does, steps_of}
use Rattle.proof_alone.proofs.Ending.{alone, closes, first_step, fit, free_first, within, own}
use Rattle.proof_alone.proofs.Going.{began, end_is_there, is_there, of_run_on_its_way, steps_so_far, there, went_on}
use Rattle.proof_alone.proofs.Resting.{comes_to_rest}
use Rattle.proof_alone.proofs.Runs.{by_run, of_run_behind}
use Rattle.proof_alone.proofs.Steps.{begun, end_leaves}
use Rattle.proof_alone.proofs.Telling.{told_at_end}

-- ---- its effect

-- a reply that tells of no want of slots
acts_so : (before : State) (call : Call) (answer : Reply) (after : State) → answer ≢ NoSlots → (opens : Option ℕ) →
    Effect (hash_of before.limits.hash) (world_of before) call opens answer (world_of after) → Acts before call answer after
acts_so before call NoSlots after other opens effect = absurd (other refl)
acts_so before call answer after other opens effect = (opens, effect)

acts_by : (before : State) (call : Call) (answer : Reply) (after : State) (past now : Record) (id : ℕ) (opens : Option ℕ) (world next : HandleMap) → world ≡ world_of before →
    next ≡ world_of after → DoesInOrder (hash_of before.limits.hash) past now id call opens answer world next → Acts before call answer after
acts_by before call answer after past now id opens world next from to (refused none order stays) =
    subst (λ a. Acts before call a after) (sym none) (sym to ∙ stays ∙ from)
acts_by before call answer after past now id opens world next from to (acts other order effect) =
    acts_so before call answer after other opens
    (subst (λ w. Effect (hash_of before.limits.hash) w call opens answer (world_of after)) from
    (subst (λ w. Effect (hash_of before.limits.hash) world call opens answer w) to effect))

module _ (limits : Bounds) (steps : List Step) (ok : AreBounds limits) (keys : KeysFit steps) (actor : ℕ) (call : Call) (can : CanCall (run limits steps) actor call)
    (n : ℕ) (answer : Reply) (after : State) (h : Comes (run limits steps) actor call n answer after) where
  abbrev before : State
  before = run limits steps

  abbrev behind : List Step
  behind = Begin actor call None ∷ replicate (suc n) (Go actor)

  all_steps : began limits steps actor call ++ replicate (suc n) (Go actor) ≡ steps ++ behind
  all_steps = append_assoc steps (Begin actor call None ∷ []) (replicate (suc n) (Go actor))

  is_after : there limits steps actor call (suc n) ≡ after
  is_after = end_is_there limits steps actor call n h.last answer after h.goes h.ends

  fit_behind : KeysFit (began limits steps actor call ++ replicate (suc n) (Go actor))
  fit_behind = all_fit (began limits steps actor call) actor (suc n) (fit limits steps ok keys actor call can)

  of_run_after : IsOfRun after
  of_run_after = of_run_behind h.last (of_run_on_its_way before actor call can.of_run can.fits n h.last h.goes) (Go actor) (Ended before.begun answer) after tt h.ends

  same_limits : after.limits ≡ before.limits
  same_limits =
      ap (λ (s : State). s.limits) (sym is_after) ∙ limits_along limits (began limits steps actor call ++ replicate (suc n) (Go actor)) ∙ sym (limits_along limits steps)

  told : RanAlone before (record_of limits steps) (record_of limits (steps ++ behind)) before.begun actor call (own limits steps ok keys actor call can).opens answer
  told = record {
    rest = can.rest;
    told = ap (λ l. (record_of limits l).events) (sym all_steps)
        ∙ told_at_end limits steps actor call (begun before actor call) (first_step limits steps ok keys actor call can) n answer after
        (went_on limits steps actor call n h.last h.goes)
        (ap (λ s. next s (Go actor)) (is_there limits steps actor call n h.last h.goes) ∙ h.ends);
  }

  its_effect : Acts before call answer after
  its_effect =
      let (world, next_world, shows, shows_next, does) =
      alone_it_acts limits steps behind before.begun actor call (own limits steps ok keys actor call can).opens answer ok (subst KeysFit all_steps fit_behind) told in
      acts_by before call answer after (record_of limits steps) (record_of limits (steps ++ behind)) before.begun (own limits steps ok keys actor call can).opens world next_world
      (shown_is_one world before shows)
      (shown_is_one next_world (run limits (steps ++ behind)) shows_next ∙ ap (λ l. world_of (run limits l)) (sym all_steps) ∙ ap world_of is_after)
      (subst (λ (b : Bounds). DoesInOrder (hash_of b.hash) (record_of limits steps) (record_of limits (steps ++ behind)) before.begun call (own limits steps ok keys actor call can).opens answer world
      next_world) (sym (limits_along limits steps)) does)

  -- ---- its steps

  at_end : suc n ≤ steps_of call
  at_end = within limits steps ok keys actor call can n h.last h.goes

  all_counted : after.steps ≡ before.steps + (1 + suc n)
  all_counted =
      let so_far = steps_so_far before actor call n h.last h.goes in
      let one = steps_counted h.last (Go actor) _ after (moved h.last (Go actor) _ after h.ends) in omega (arith, so_far, one)

  -- ---- its slots

  abbrev free_then : ℕ
  free_then = length (there limits steps actor call (suc n)).heap.free

  -- it takes no more than it makes nodes
  made_few : (most : ℕ) → makes_alone limits (began limits steps actor call) actor (suc n) ≤ most → length before.heap.free ≤ free_then + most
  made_few most few = let taken = free_after limits (began limits steps actor call) actor (suc n) in let same = free_first limits steps ok keys actor call can in omega (arith, taken, few, same)

  made_by_copy : IsOnKeyOrRoot call → IsCopying call → length before.heap.free ≤ free_then + most_steps_of_copies
  made_by_copy on copies =
      made_few most_steps_of_copies
      (copies_make_few limits (began limits steps actor call) actor (own limits steps ok keys actor call can) (alone limits steps ok keys actor call can on) copies (tries_first call on) (suc n))

  made_by_try : IsOnKeyOrRoot call → length before.heap.free ≤ free_then + most_makes_alone
  made_by_try on =
      made_few most_makes_alone
      (tries_make_few limits (began limits steps actor call) actor (own limits steps ok keys actor call can) (alone limits steps ok keys actor call can on) (tries_first call on) (suc n))

  made_by_close : is_close call ≡ true → suc n ≤ 1 → length before.heap.free ≤ free_then + 0
  made_by_close closing few =
      let heap = end_leaves (run limits (began limits steps actor call)) actor before.begun Closed _ (closes limits steps ok keys actor call can closing) in
      let first : suc n ≡ 1 = omega (arith, few) in
      let same : free_then ≡ length (run limits (began limits steps actor call)).heap.free =
      ap (λ k. length (there limits steps actor call k).heap.free) first ∙ ap (λ (x : Heap). length x.free) heap in
      let before_it = free_first limits steps ok keys actor call can in omega (arith, same, before_it)

  few_slots : (c : Call) → call ≡ c → length before.heap.free ≤ free_then + slots_of c
  few_slots (Close h) is = made_by_close (ap is_close is) (subst (λ c. suc n ≤ steps_of c) is at_end)
  few_slots (Clear h) is = made_by_copy (rw is tt) (rw is tt)
  few_slots (Snapshot h) is = made_by_copy (rw is tt) (rw is tt)
  few_slots (Freeze h) is = made_by_copy (rw is tt) (rw is tt)
  few_slots (Entries h) is = absurd (subst IsNoWalk is can.short)
  few_slots (Count h) is = absurd (subst IsNoWalk is can.short)
  few_slots c is = made_by_try (rw is tt)

  does : Does before call answer after
  does = record {
    of_run = of_run_after;
    limits = same_limits;
    rest = comes_to_rest before actor call can.rest n answer after h;
    acts = its_effect;
    rises = omega (arith, all_counted);
    steps = omega (arith, all_counted, at_end);
    slots = subst (λ (s : State). length before.heap.free ≤ length s.heap.free + slots_of call) is_after (few_slots call refl);
  }

pub calls_do : CallsDo
calls_do state actor call can =
    by_run (λ s. CanCall s actor call → (n : ℕ) (answer : Reply) (after : State) → Comes s actor call n answer after → Does s call answer after)
    (λ limits steps ok keys can. does limits steps ok keys actor call can) state can.of_run can
