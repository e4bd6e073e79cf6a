-- A call of the core that goes on to its end, and the sweep behind it: no step of either is refused.
use Rattle.std.specs.Prelude.{None, ◌≡◌, ◌+◌, ◌-◌, ◌<◌, ℕ, zero, suc, true, false, Some, Result, Ok, Err}
use Rattle.std.proofs.Common.{sym, ap, subst, inl, inr, arith, ◌∙◌}
use Rattle.ctrie_map.specs.Vocabulary.{Kind, Refusal, Call, Reply, Operation, Outcome, Began, Went, Ended, Go, needs_read_only, Answer, is_busy, is_spent, next, State, operation_of}
use Rattle.history.specs.declared.calls.Call.TheVariants as call
use Rattle.machine_model.specs.declared.steps.Step.TheVariants.{Begin}
use Rattle.ctrie_map.specs.Beneath.proof_core.specs.Bounds.{Answers, Applies, Walks}
use Rattle.machine_core.specs.Sweeping.{Reclaims, at_first, one_more}
use Rattle.ctrie_map.specs.Beneath.proof_core.specs.Work.{Worked}
use Rattle.proof_sizes.specs.Beneath.proof_alone.specs.Calls.{CallsBegin, CallsGoOn, CanCall, LeadsOn, steps_of}
use Rattle.ctrie_map.specs.Beneath.proof_obstruction_free.specs.Calls.{IsNoWalk}
use Rattle.proof_sizes.specs.Beneath.proof_alone.specs.Sweeps.{Sweeps, SweepsLeave, most_sweeps, sweeps, unswept}
use Rattle.proof_sizes.specs.Beneath.proof_alone.proofs.Going.{steps_so_far}
use Rattle.ctrie_map.specs.Beneath.proof_straight.specs.Resting.{IsOfRun}
use Rattle.ctrie_map.specs.Beneath.proof_straight.specs.Running.{Comes, GoesOn, starts, walks}
use Rattle.ctrie_map.specs.Cores.{the_actor}

-- two answers of one step
same_answer : (x y : Outcome × State) → ◌≡◌ {A = Answer} (Ok x) (Ok y) → x ≡ y
same_answer x y e = cc e

-- an answer is no refusal
no_refusal : {A : Type 0} (answer : Result A Refusal) (done : A) (why : Refusal) → answer ≡ Ok done → answer ≡ Err why → ⊥
no_refusal answer done why is other = cc (sym is ∙ other)

no_walk : (c : Call) → IsNoWalk c → needs_read_only c ≡ true → ⊥
no_walk (call.Entries h) short reads = short
no_walk (call.Count h) short reads = short
no_walk c short reads = absurd (grind (arith, reads))

-- the call that began there is on its way
abbrev pub IsOnWay : State → Call → State → Type 0
IsOnWay start c now = (n : ℕ) × GoesOn start the_actor c n now

module _ (start : State) (c : Call) (can : CanCall start the_actor c) where
  module _ (law : CallsBegin) where
    begins_by : (id : ℕ) (after first : State) → GoesOn start the_actor c zero first → next start (Begin the_actor c None) ≡ Ok (Began id, after) → GoesOn start the_actor c zero after
    begins_by id after first (starts e) is =
        let same : first ≡ after = ap (λ p. p.1) (same_answer _ _ (sym e ∙ is)) in subst (GoesOn start the_actor c zero) same (starts e)

    -- it begins
    pub begins : (id : ℕ) (after : State) → next start (Begin the_actor c None) ≡ Ok (Began id, after) → IsOnWay start c after
    begins id after is = let (first, goes) = law start the_actor c can in (0, begins_by id after first goes is)

    not_refused_by : (why : Refusal) (first : State) → GoesOn start the_actor c zero first → next start (Begin the_actor c None) ≡ Err why → ⊥
    not_refused_by why first (starts e) is = no_refusal _ _ why e is

    pub begin_not_refused : (why : Refusal) (after : State) → Answers (Err why) start (next start (Begin the_actor c None)) after → ⊥
    begin_not_refused why after refused = let (first, goes) = law start the_actor c can in not_refused_by why first goes refused.1

  module _ (law : CallsGoOn) (now : State) (way : IsOnWay start c now) where
    -- a step leads on
    pub leads_on : (kind : Kind) (after : State) → next now (Go the_actor) ≡ Ok (Went kind, after) → IsOnWay start c after
    leads_on kind after is = (suc way.0, walks way.1 is)

    leads_by : (why : Refusal) → LeadsOn start now the_actor → next now (Go the_actor) ≡ Err why → ⊥
    leads_by why (inl goes) is = no_refusal _ _ why goes.2 is
    leads_by why (inr ends) is = no_refusal _ _ why ends.2 is

    walks_over : (operation : Operation) → operation_of now the_actor ≡ Some operation → operation.call ≡ c → Walks (operation_of now the_actor) → ⊥
    walks_over operation runs same reads = no_walk c can.short (ap needs_read_only (sym same) ∙ subst Walks runs reads)

    pub go_not_refused : (why : Refusal) (after : State) → Applies (Err why) now the_actor (next now (Go the_actor)) after → ⊥
    go_not_refused why after (same, inl denied) = let on = law start the_actor c can way.0 now way.1 in leads_by why on.leads denied
    go_not_refused why after (same, inr (memory, taken, reads)) = let on = law start the_actor c can way.0 now way.1 in walks_over on.operation on.runs on.same reads

    pub end_not_refused : (why : Refusal) (after : State) → Answers (Err why) now (next now (Go the_actor)) after → ⊥
    end_not_refused why after refused = let on = law start the_actor c can way.0 now way.1 in leads_by why on.leads refused.1

    ends_by : (id : ℕ) (answer : Reply) (after : State) → LeadsOn start now the_actor → next now (Go the_actor) ≡ Ok (Ended id answer, after) → Comes start the_actor c way.0 answer after
    ends_by id answer after (inl goes) is = cc (ap (λ p. p.0) (same_answer _ _ (sym goes.2 ∙ is)))
    ends_by id answer after (inr ends) is =
        let same = same_answer _ _ (sym ends.2 ∙ is) in
        let ids : start.begun ≡ id = cc (ap (λ p. p.0) same) in
        record { last = now; goes = way.1; ends = subst (λ i. next now (Go the_actor) ≡ Ok (Ended i answer, after)) (sym ids) is }

    -- or to its end
    pub ends_so : (id : ℕ) (answer : Reply) (after : State) → next now (Go the_actor) ≡ Ok (Ended id answer, after) → (n : ℕ) × Comes start the_actor c n answer after
    ends_so id answer after is = let on = law start the_actor c can way.0 now way.1 in (way.0, ends_by id answer after on.leads is)

    -- it comes nearer to its end
    pub comes_nearer : (kind : Kind) (after : State) → next now (Go the_actor) ≡ Ok (Went kind, after) →
        start.steps + (1 + steps_of c) - after.steps < start.steps + (1 + steps_of c) - now.steps
    comes_nearer kind after is =
        let few = (law start the_actor c can way.0 now way.1).few in
        let so_far = steps_so_far start the_actor c way.0 now way.1 in
        let then = steps_so_far start the_actor c (suc way.0) after (walks way.1 is) in omega (arith, few, so_far, then)

-- ---- the sweep

-- the sweep has come there
abbrev pub IsSwept : State → State → Type 0
IsSwept start now = (n : ℕ) × Sweeps start n now

sweeps_by : (before : Worked) (n : ℕ) (after : Worked) → Reclaims before n after → Sweeps before.state n after.state
sweeps_by before zero after at_first = unswept
sweeps_by before (suc n) after (one_more {middle = middle} earlier some is little) = sweeps (sweeps_by before n middle earlier) some is

pub is_swept : (before after : Worked) → ((n : ℕ) × Reclaims before n after) → IsSwept before.state after.state
is_swept before after (n, reclaims) = (n, sweeps_by before n after reclaims)

-- and isn't spent then
pub unspent : (start : State) → SweepsLeave → IsOfRun start → is_busy start ≡ false → start.steps + most_sweeps start < start.limits.steps → (now : State) → IsSwept start now → is_spent now ≡ false
unspent start law run rest left now way =
    let led = law start way.0 now run rest way.1 in
    let few = led.most in let so_far = led.steps in let same : now.limits.steps ≡ start.limits.steps = ap (λ l. l.steps) led.limits in
    grind (arith, few, so_far, same, left)
