-- From where a try begins an operation on one key makes few nodes, where its actor alone takes steps.
use Rattle.std.proofs.Common.{◌≡◌, ℕ, zero, suc, ◌+◌, ◌≤◌, ◌⊎◌, inl, inr, None, refl, sym, ap, subst, ◌∙◌, List, arith}
use Rattle.std.proofs.lemmas.Option.{same_Some}
use Rattle.proof_obstruction_free.specs.Vocabulary.{Access, ReadOnly, Writable, Call, Clear, Freeze, Snapshot, Close, Entries, Count, Operation, Bounds, Step, new_try, State, operation_of, last_of}
use Rattle.proof_obstruction_free.specs.Alone.{Lone, Stands}
use Rattle.proof_obstruction_free.specs.Copies.{IsCopying}
use Rattle.proof_obstruction_free.specs.Keys.{IsOnKey}
use Rattle.proof_obstruction_free.specs.Laws.{IsOnKeyOrRoot, RunsAlone, alone_after, most_steps_of}
use Rattle.proof_obstruction_free.specs.Slots.{EnoughForTries, TriesMakeFew, makes_next, most_makes_alone}
use Rattle.proof_obstruction_free.proofs.Ends.Alone.{EndedBefore, StillRuns, each, goes_or_ended, has_ended, lone}
use Rattle.proof_obstruction_free.proofs.Ends.Bounds.{readers_end}
use Rattle.proof_obstruction_free.proofs.Ends.Lists.{last_all, state_at}
use Rattle.proof_obstruction_free.proofs.Ends.StandsAt.{begins}
use Rattle.proof_obstruction_free.proofs.Inherited.EndsAll.{alone_it_ends}
use Rattle.proof_obstruction_free.proofs.Making.Ends.{try_made}
use Rattle.proof_obstruction_free.proofs.Making.Few.{all_made, made_next}
use Rattle.proof_obstruction_free.proofs.Making.Few.{made as made_in}
use Rattle.proof_obstruction_free.proofs.Root.Machines.{flat_machines}
use Rattle.proof_obstruction_free.proofs.Slots.Few.{copies_make_few, few_at_end, made_no_more, made_steps, no_refusal}
use Rattle.proof_obstruction_free.proofs.Slots.Free.{made, none_made, not_for_want, one_made}
use Rattle.proof_obstruction_free.proofs.Step.Step.{stepping}
use Rattle.proof_obstruction_free.specs.Beneath.slot_arena.proofs.Times.{bit}
use Rattle.proof_obstruction_free.specs.Beneath.epochs.proofs.InUse.{bit_small}

module _ (limits : Bounds) (steps : List Step) (actor : ℕ) (operation : Operation) (r : RunsAlone limits steps actor operation) where
  -- ---- while it runs

  module _ (n : ℕ) (still : StillRuns limits steps actor operation r n) where
    abbrev a : Lone
    a = lone limits steps actor operation r n still

    abbrev start : ℕ
    start = last_of limits steps

    -- the nodes that it makes in the run in which it never ends
    made_there : (k : ℕ) → k ≤ n → made_in a (start + k) ≡ made_in a start + made limits steps actor k
    made_there zero le = let same : start + 0 ≡ start = omega arith in omega (arith, ap (made_in a) same, none_made limits steps actor)
    made_there (suc k) le =
        let place : start + suc k ≡ suc (start + k) = omega arith in
        let before = made_there k (omega (arith, le)) in
        let state = state_at limits steps actor n (each limits steps actor operation r n still) k (omega (arith, le)) in
        let same = ap (λ (x : State). bit (makes_next x actor)) state in
        omega (arith, ap (made_in a) place, made_next a (start + k), before, same, one_made limits steps actor k)

    made_running : IsOnKey operation.call → operation.access ≡ Writable → operation.line ≡ new_try → made limits steps actor n ≤ 569
    made_running on writes at =
        let last : a.last ≡ start + n = last_all limits steps actor n (each limits steps actor operation r n still) in
        let within : start ≤ a.last = omega (arith, last) in
        let few = all_made a 558 start (try_made a (stepping a) (flat_machines a) writes on start operation.generation (subst (Stands a start operation.generation) at (begins a within))) in
        omega (arith, few, ap (made_in a) last, made_there n (omega arith))

  -- ---- on a writable handle

  module _ (on : IsOnKey operation.call) (writes : operation.access ≡ Writable) (at : operation.line ≡ new_try) where
    -- while it runs; the step that ends it makes one at most
    abbrev Made : ℕ → Type 0
    Made n = (made limits steps actor n ≤ 569) ⊎ ((made limits steps actor n ≤ most_makes_alone) × (operation_of (alone_after limits steps actor n) actor ≡ None))

    on_ended : (n : ℕ) → Made n → EndedBefore limits steps actor operation r (suc n) → Made (suc n)
    on_ended n (inl low) ended =
        let one = one_made limits steps actor n in
        let most = bit_small (makes_next (alone_after limits steps actor n) actor) in
        inr (omega (arith, low, one, most), (has_ended limits steps actor operation r (suc n) ended).idle)
    on_ended n (inr (low, idle)) ended =
        let next : n + 1 ≡ suc n = omega arith in
        let same = ap (made limits steps actor) (sym next) ∙ made_no_more limits steps actor operation r n 1 idle in
        inr (omega (arith, low, same), (has_ended limits steps actor operation r (suc n) ended).idle)

    made_by : (n : ℕ) → n ≤ most_steps_of limits.actors → Made n
    made_by zero le = inl (omega (arith, none_made limits steps actor))
    made_by (suc n) le = by (made_by n (omega (arith, le))) (goes_or_ended limits steps actor operation r (suc n) le)
      where
        by : Made n → StillRuns limits steps actor operation r (suc n) ⊎ EndedBefore limits steps actor operation r (suc n) → Made (suc n)
        by before (inl still) = inl (made_running (suc n) still on writes at)
        by before (inr ended) = on_ended n before ended

    few_by : (n : ℕ) → Made n → made limits steps actor n ≤ most_makes_alone
    few_by n (inl low) = omega (arith, low)
    few_by n (inr (low, idle)) = low

    writer_makes : (n : ℕ) → made limits steps actor n ≤ most_makes_alone
    writer_makes =
        few_at_end limits steps actor operation r (most_steps_of limits.actors) most_makes_alone ((alone_it_ends limits steps actor operation r).idle) (λ n le. few_by n (made_by n le))

  -- ---- each call

  by_access : (x : Access) → operation.access ≡ x → IsOnKey operation.call → operation.line ≡ new_try → (n : ℕ) → made limits steps actor n ≤ most_makes_alone
  by_access Writable e on at n = writer_makes on e at n
  by_access ReadOnly e on at n =
      few_at_end limits steps actor operation r 166 most_makes_alone ((readers_end limits steps actor operation r on e).idle)
      (λ k le. let low = made_steps limits steps actor k in omega (arith, low, le)) n

  copy_makes : IsCopying operation.call → operation.line ≡ new_try → (n : ℕ) → made limits steps actor n ≤ most_makes_alone
  copy_makes copies at n = let low = copies_make_few limits steps actor operation r copies at n in omega (arith, low)

  by_call : (call : Call) → operation.call ≡ call → IsOnKeyOrRoot call → operation.line ≡ new_try → (n : ℕ) → made limits steps actor n ≤ most_makes_alone
  by_call (Clear h) e on at n = copy_makes (rw e tt) at n
  by_call (Snapshot h) e on at n = copy_makes (rw e tt) at n
  by_call (Freeze h) e on at n = copy_makes (rw e tt) at n
  by_call (Close h) e on at n = absurd on
  by_call (Entries h) e on at n = absurd on
  by_call (Count h) e on at n = absurd on
  by_call call e on at n = by_access operation.access refl (rw e tt) at n

pub tries_make_few : TriesMakeFew
tries_make_few limits steps actor operation r at = by_call limits steps actor operation r operation.call refl r.call at

pub enough_for_tries : EnoughForTries
enough_for_tries limits steps actor operation r at room =
    not_for_want limits steps actor most_makes_alone (tries_make_few limits steps actor operation r at) room
    (λ found there refused. no_refusal found.line (ap (λ (o : Operation). o.line) (sym (same_Some operation found (sym r.runs ∙ there))) ∙ at) refused)
