-- When a call that runs alone from rest is refused for want of slots.
use Rattle.std.specs.Prelude.{◌≡◌, ◌≢◌, ◌≤◌, ◌+◌, ℕ, suc, true, List, [], ◌∷◌, ◌++◌, Contains, length, replicate, Ok}
use Rattle.std.proofs.Common.{refl, sym, ap, subst, arith, ◌∙◌, inl, inr}
use Rattle.std.proofs.lemmas.List.{append_assoc, replicate-append-replicate}
use Rattle.std.proofs.lemmas.List.Elements.{Contains-push}
use Rattle.std.proofs.lemmas.Option.{same_Some}
use Rattle.proof_alone.specs.Vocabulary.{Call, Clear, Close, Count, Entries, Freeze, Snapshot, Reply, Closed, NoSlots, Operation, Bounds, Ended, Step, Go, GiveUp, is_close, KeysFit, FindsNoSlot}
use Rattle.proof_alone.specs.Vocabulary.{AreBounds, next, run, State, IsCopying, IsOnKeyOrRoot, most_makes_alone, most_steps_of_copies, Comes, starts, walks, IsNoWalk, slots_of}
use Rattle.proof_alone.specs.Beneath.machine_model.proofs.Moves.{ending, moved}
use Rattle.proof_alone.specs.Beneath.machine_model.proofs.Refusals.{IsRefusal, end_line, first_refusal}
use Rattle.proof_alone.specs.Beneath.machine_model.proofs.Refused.{refused_alone}
use Rattle.proof_obstruction_free.proofs.Ends.Lists.{none_more}
use Rattle.proof_obstruction_free.proofs.Slots.AtBegin.{tries_first}
use Rattle.proof_obstruction_free.proofs.Slots.Few.{enough_for_copies}
use Rattle.proof_obstruction_free.proofs.Slots.Tries.{enough_for_tries}
use Rattle.proof_straight.specs.Running.{GoesOn}
use Rattle.proof_alone.specs.Calls.{CanCall, EnoughSlotsForCalls, RefusedIfOut, RunsOut, steps_of}
use Rattle.proof_alone.proofs.Ending.{alone, closes, free_first, own, runs, within}
use Rattle.proof_alone.proofs.Going.{began, is_there, there}
use Rattle.proof_alone.proofs.Runs.{by_run}
use Rattle.proof_alone.proofs.Steps.{one_answer}

-- ---- the last of its steps

not_empty : (xs : List Step) (x : Step) (ys : List Step) → [] ≡ xs ++ x ∷ ys → ⊥
not_empty [] x ys e = cc e
not_empty (y ∷ xs) x ys e = cc e

-- where nothing behind it is the same the last one is at the end
last_one : (x : Step) (xs ys zs : List Step) → xs ++ x ∷ [] ≡ ys ++ x ∷ zs → ¬ Contains zs x → xs ≡ ys
last_one x [] [] zs e without = refl
last_one x [] (y ∷ ys) zs e without = absurd (not_empty ys x zs (cc e))
last_one x (a ∷ xs) [] zs e without = let rest : xs ++ x ∷ [] ≡ zs = cc e in absurd (without (subst (λ l. Contains l x) rest (Contains-push xs x)))
last_one x (a ∷ xs) (b ∷ ys) zs e without =
    let head : a ≡ b = cc e in
    let rest : xs ++ x ∷ [] ≡ ys ++ x ∷ zs = cc e in
    ap (λ h. h ∷ xs) head ∙ ap (λ l. b ∷ l) (last_one x xs ys zs rest without)

-- nor is it one that something else comes behind
other_last : (x y : Step) (xs ys zs : List Step) → xs ++ x ∷ [] ≡ ys ++ y ∷ zs → ¬ Contains zs x → x ≢ y → ⊥
other_last x y [] [] zs e without apart = let head : x ≡ y = cc e in apart head
other_last x y [] (z ∷ ys) zs e without apart = not_empty ys y zs (cc e)
other_last x y (a ∷ xs) [] zs e without apart = let rest : xs ++ x ∷ [] ≡ zs = cc e in without (subst (λ l. Contains l x) rest (Contains-push xs x))
other_last x y (a ∷ xs) (b ∷ ys) zs e without apart =
    let rest : xs ++ x ∷ [] ≡ ys ++ y ∷ zs = cc e in
    other_last x y xs ys zs rest without apart

one_longer : (n : ℕ) (x : Step) (xs : List Step) → (xs ++ replicate n x) ++ x ∷ [] ≡ xs ++ replicate (suc n) x
one_longer n x xs =
    let one : n + 1 ≡ suc n = omega arith in
    append_assoc xs (replicate n x) (x ∷ []) ∙ ap (λ l. xs ++ l) (replicate-append-replicate n 1 x ∙ ap (λ m. replicate m x) one)

module _ (limits : Bounds) (steps : List Step) (ok : AreBounds limits) (keys : KeysFit steps) (actor : ℕ) (call : Call) (can : CanCall (run limits steps) actor call) where
  abbrev id : ℕ
  id = (run limits steps).begun

  -- ---- where it is refused

  -- behind its begin alone it isn't
  not_at_first : (after : State) → next (run limits (began limits steps actor call)) (Go actor) ≡ Ok (Ended id NoSlots, after) → ⊥
  not_at_first after e =
      let first : State = run limits (began limits steps actor call) in
      let (operation, found, same, ends, allowed) = ending first actor id NoSlots after (moved first (Go actor) (Ended id NoSlots) after e) in
      let one = same_Some operation (own limits steps ok keys actor call can) (sym found ∙ runs limits steps ok keys actor call can) in
      first_refusal call (subst (λ (x : Operation). IsRefusal x.line) one (end_line first operation operation.line ends))

  -- its last step found none
  finds_none : (m : ℕ) (after : State) → next (there limits steps actor call (suc m)) (Go actor) ≡ Ok (Ended id NoSlots, after) → FindsNoSlot (there limits steps actor call m) actor id
  finds_none m after e =
      elim (refused_alone limits (began limits steps actor call ++ replicate (suc m) (Go actor)) actor id after e) [
        | inl (before, between, is, without, finds) ↦
            let front = last_one (Go actor) (began limits steps actor call ++ replicate m (Go actor)) before between (longer m ∙ is) without in
            subst (λ l. FindsNoSlot (run limits l) actor id) (sym front) finds
        | inr (before, between, is, without, runs) ↦
            absurd (other_last (Go actor) (GiveUp actor) (began limits steps actor call ++ replicate m (Go actor)) before between (longer m ∙ is) without (λ same. cc same))
      ]
    where
      longer : (m : ℕ) → (began limits steps actor call ++ replicate m (Go actor)) ++ Go actor ∷ [] ≡ began limits steps actor call ++ replicate (suc m) (Go actor)
      longer m = one_longer m (Go actor) (began limits steps actor call)

  runs_out : (n : ℕ) (last : State) → GoesOn (run limits steps) actor call n last → (after : State) → next last (Go actor) ≡ Ok (Ended id NoSlots, after) →
      RunsOut (run limits steps) actor call
  runs_out n last (starts is) after ends =
      absurd (not_at_first after
      (ap (λ s. next s (Go actor)) (sym (none_more limits (began limits steps actor call) actor) ∙ is_there limits steps actor call 0 last (starts is)) ∙ ends))
  runs_out n last (walks {n = m} {before} earlier is) after ends =
      let here = is_there limits steps actor call (suc m) last (walks earlier is) in record {
        n = m;
        now = before;
        goes = earlier;
        finds = subst (λ s. FindsNoSlot s actor id) (is_there limits steps actor call m before earlier) (finds_none m after (ap (λ s. next s (Go actor)) here ∙ ends));
        after = after;
        ends = record { last = last; goes = walks earlier is; ends = ends };
      }

  -- ---- where so many slots are free as it may take

  module _ (free : slots_of call ≤ length (run limits steps).heap.free) (n : ℕ) (answer : Reply) (after : State) (h : Comes (run limits steps) actor call n answer after) where
    ends_there : next (there limits steps actor call n) (Go actor) ≡ Ok (Ended id answer, after)
    ends_there = ap (λ s. next s (Go actor)) (is_there limits steps actor call n h.last h.goes) ∙ h.ends

    free_there : (most : ℕ) → most ≤ slots_of call → most ≤ length (run limits (began limits steps actor call)).heap.free
    free_there most low = let same = free_first limits steps ok keys actor call can in omega (arith, low, same, free)

    try_spared : IsOnKeyOrRoot call → most_makes_alone ≤ slots_of call → answer ≢ NoSlots
    try_spared on low =
        enough_for_tries limits (began limits steps actor call) actor (own limits steps ok keys actor call can) (alone limits steps ok keys actor call can on) (tries_first call on)
        (free_there most_makes_alone low) n id answer after ends_there

    copy_spared : IsOnKeyOrRoot call → IsCopying call → most_steps_of_copies ≤ slots_of call → answer ≢ NoSlots
    copy_spared on copies low =
        enough_for_copies limits (began limits steps actor call) actor (own limits steps ok keys actor call can) (alone limits steps ok keys actor call can on) copies (tries_first call on)
        (free_there most_steps_of_copies low) n id answer after ends_there

    -- a close is answered at once
    close_spared : is_close call ≡ true → suc n ≤ 1 → answer ≢ NoSlots
    close_spared closing few is =
        let none : n ≡ 0 = omega (arith, few) in
        let first = ap (λ k. next (there limits steps actor call k) (Go actor)) (sym none) ∙ ends_there in
        let closed = ap (λ s. next s (Go actor)) (none_more limits (began limits steps actor call) actor) ∙ closes limits steps ok keys actor call can closing in
        let same : answer ≡ Closed = one_answer id id answer Closed after _ (sym first ∙ closed) in
        let wrong : Closed ≡ NoSlots = sym same ∙ is in cc wrong

    spared : (c : Call) → call ≡ c → answer ≢ NoSlots
    spared (Close handle) is = close_spared (ap is_close is) (subst (λ c. suc n ≤ steps_of c) is (within limits steps ok keys actor call can n h.last h.goes))
    spared (Clear h) is = copy_spared (rw is tt) (rw is tt) (rw is (omega arith))
    spared (Snapshot h) is = copy_spared (rw is tt) (rw is tt) (rw is (omega arith))
    spared (Freeze h) is = copy_spared (rw is tt) (rw is tt) (rw is (omega arith))
    spared (Entries h) is = absurd (subst IsNoWalk is can.short)
    spared (Count h) is = absurd (subst IsNoWalk is can.short)
    spared c is = try_spared (rw is tt) (rw is (omega arith))

-- ---- the laws

pub refused_if_out : RefusedIfOut
refused_if_out state actor call can =
    by_run (λ s. CanCall s actor call → (n : ℕ) (after : State) → Comes s actor call n NoSlots after → RunsOut s actor call)
    (λ limits steps ok keys can n after h. runs_out limits steps ok keys actor call can n h.last h.goes after h.ends) state can.of_run can

pub enough_slots_for_calls : EnoughSlotsForCalls
enough_slots_for_calls state actor call can free =
    by_run (λ s. CanCall s actor call → slots_of call ≤ length s.heap.free → (n : ℕ) (answer : Reply) (after : State) → Comes s actor call n answer after → answer ≢ NoSlots)
    (λ limits steps ok keys can free n answer after h. spared limits steps ok keys actor call can free n answer after h call refl) state can.of_run can free
