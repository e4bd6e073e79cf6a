-- The legal order of a machine, from the laws.
use Rattle.std.specs.Prelude.{◌≡◌, ℕ, ◌+◌, List, ◌++◌, Option, Some, None, option_map, Result, Ok, Err, IfOk, IfErr, OnOk, IsSome, Vec, false, ◌≤◌, [], ◌∷◌, length}
use Rattle.std.specs.FinMap as map
use Rattle.std.specs.Ordering.{nat_cmp}
use Rattle.std.proofs.Common.{refl, sym, ap, subst, ◌∙◌, inl, inr, arith}
use Rattle.std.proofs.lemmas.List.Elements.{All-contains, Contains-push}
use Rattle.std.proofs.lemmas.Option.{same_Some}
use Rattle.std.specs.declared.alloc.Global.{Global}
use Rattle.proof_runs.specs.Vocabulary.{Refusal, NoHandle, Writable, Call, Reply, NoSlots, HandleState, Root, Limits, Outcome, State, first_state, root_at, order_of, content_at, FitsKey, KeysFit}
use Rattle.proof_runs.specs.Vocabulary.{AreLimits, bounded, next, access_of, begin_denial, begin_unless, is_access, is_busy, state_after, go_limit, RefusesContent, Names, IsExplained, AloneItActs}
use Rattle.proof_runs.specs.Vocabulary.{RanAlone, slots_of, ClosesEnd, EachStepLeadsToItsEnd, most_steps_alone}
use Rattle.proof_runs.specs.Beneath.machine_model.specs.declared.steps.Step.TheVariants as step
use Rattle.proof_runs.specs.Beneath.machine_model.proofs.Along.{run_push}
use Rattle.proof_linearizable.proofs.Legal.{fit_in_front}
use Rattle.proof_runs.specs.Machines.{Taken, past_of, state_of, with_step}
use Rattle.proof_runs.specs.Callers.{going_on, Resumes, Completes, CompletesUnless}
use Rattle.proof_runs.specs.Legality.{IsLegalFor, LeadsToContents, HasInOrder, InOrder, IsInOrder, writable_in, ActedAlone, RestsIfAnswered, WentAlone}
use Rattle.proof_runs.proofs.Bounds.{in_bounds}
use Rattle.proof_runs.proofs.Going.{HasMore, going-append, has_more}
use Rattle.proof_runs.proofs.Ending.{EnoughForCall, spared_behind}
use Rattle.proof_runs.specs.Ending.{IsSpared, IsSure}
use Rattle.proof_runs.proofs.Resting.{leads_to_rest, unanswered_at_rest}
use Rattle.proof_runs.specs.Beneath.proof_commits.proofs.Resting.{OnlyRuns, only_at_rest, still_only}
use Rattle.proof_runs.proofs.Telling.{Tells, stepped, tells}

module _ (machine : Taken) (explained : IsExplained (bounded machine.limits) (state_of machine) (past_of machine)) where
  pub legal : (order : List ℕ) → order ≡ order_of (past_of machine) → IsLegalFor machine order
  legal order is = subst (IsLegalFor machine) (sym is) (explained.0, explained.1)

  pub if_legal : (result : Result (Vec ℕ Global) Refusal) → IfOk result (λ order. order.items ≡ order_of (past_of machine)) → IfOk result (λ order. IsLegalFor machine order.items)
  if_legal (Ok order) is = legal order.items is
  if_legal (Err why) is = tt

  pub if_leads : (result : Result (Vec ℕ Global) Refusal) → IfOk result (λ order. order.items ≡ order_of (past_of machine)) → IfOk result (λ order. LeadsToContents machine order.items)
  if_leads (Ok order) is = subst (LeadsToContents machine) (sym is) explained
  if_leads (Err why) is = tt

  pub if_in_order : (handle : ℕ) (result : Result (Vec (ℕ × ℕ) Global) Refusal) → IfOk result (λ pairs. pairs.items ≡ content_at (state_of machine) handle) →
      IfOk result (λ pairs. IsInOrder machine handle pairs.items)
  if_in_order handle (Ok pairs) is = subst (IsInOrder machine handle) (sym is) (explained.0, explained.1, explained.2 handle)
  if_in_order handle (Err why) is = tt

  -- a handle that isn't open isn't in the world
  closed : (handle : ℕ) → root_at (state_of machine) handle ≡ None → InOrder machine (λ world. map.get world handle ≡ None)
  closed handle is =
      let (world, explains, shows) = explained in
      (world, explains, subst (λ o. Names o (content_at (state_of machine) handle) (map.get world handle)) is (shows handle))

  closed_by : (handle : ℕ) (why : Refusal) → RefusesContent (state_of machine) handle why → why ≡ NoHandle → InOrder machine (λ world. map.get world handle ≡ None)
  closed_by handle why (inl none) is = closed handle none.0
  closed_by handle why (inr lacking) is = let other = lacking.1 in absurd (grind (arith, other, is))

  pub if_closed : {A : Type 0} (handle : ℕ) (result : Result A Refusal) → IfErr result (λ why. RefusesContent (state_of machine) handle why) →
      IfErr result (λ why. why ≡ NoHandle → InOrder machine (λ world. map.get world handle ≡ None))
  if_closed handle (Ok pairs) why = tt
  if_closed handle (Err refusal) why = closed_by handle refusal why

  -- its map there has the values that it has here
  value_by : (key : ℕ) (o : Option Root) (pairs : List (ℕ × ℕ)) (shown : Option HandleState) → IsSome o → Names o pairs shown →
      (it : HandleState) × (shown ≡ Some it) × (map.find nat_cmp key pairs ≡ map.get it.pairs key)
  value_by key None pairs shown some names = cc some
  value_by key (Some root) pairs shown some (m, is, same) =
      (record { access = root.access; pairs = m }, is, ap (map.find nat_cmp key) (sym same) ∙ sym (map.get-entries m key))

  has_in_order : (handle key : ℕ) → IsSome (root_at (state_of machine) handle) → HasInOrder machine handle key (map.find nat_cmp key (content_at (state_of machine) handle))
  has_in_order handle key is_open =
      let (world, explains, shows) = explained in
      (world, explains, value_by key (root_at (state_of machine) handle) (content_at (state_of machine) handle) (map.get world handle) is_open (shows handle))

  pub if_has : (handle key : ℕ) (result : Result (Option ℕ) Refusal) → IfOk result (λ value. value ≡ map.find nat_cmp key (content_at (state_of machine) handle)) →
      OnOk result (IsSome (root_at (state_of machine) handle)) → IfOk result (HasInOrder machine handle key)
  if_has handle key (Ok value) is is_open = subst (HasInOrder machine handle key) (sym is) (has_in_order handle key is_open)
  if_has handle key (Err why) is is_open = tt

  -- it is writable there where it is here
  writable_by : (o : Option Root) (pairs : List (ℕ × ℕ)) (shown : Option HandleState) → Names o pairs shown →
      option_map (λ access. is_access Writable (Some access)) (access_of o) ≡ option_map (λ s. is_access Writable (Some s.access)) shown
  writable_by None pairs shown names = rw names refl
  writable_by (Some root) pairs shown (m, is, same) = rw is refl

  pub kind_in_order : (handle : ℕ) → InOrder machine (λ world. option_map (λ access. is_access Writable (Some access)) (access_of (root_at (state_of machine) handle)) ≡ writable_in world handle)
  kind_in_order handle =
      let (world, explains, shows) = explained in
      (world, explains, writable_by (root_at (state_of machine) handle) (content_at (state_of machine) handle) (map.get world handle) (shows handle))

-- ---- a call that runs alone

taken_begin : (state : State) (actor : ℕ) (call : Call) (denial : Option Refusal) → denial ≡ None → (o : _) × (after : State) × (begin_unless state actor call None denial ≡ Ok (o, after))
taken_begin state actor call None e = (_, _, refl)
taken_begin state actor call (Some refusal) e = cc e

denied_begin : (state : State) (actor : ℕ) (call : Call) (denial : Option Refusal) (why : Refusal) → denial ≡ Some why → begin_unless state actor call None denial ≡ Err why
denied_begin state actor call None why e = cc e
denied_begin state actor call (Some refusal) why e = ap Err (same_Some refusal why e)

module _ (before after : Taken) (actor : ℕ) (call : Call) (rest : is_busy (state_of before) ≡ false) where
  abbrev middle : Taken
  middle = with_step before (step.Begin actor call None)

  -- behind a begin that was denied nothing is answered
  not_denied : (n : ℕ) (answer : Reply) (why : Refusal) → begin_denial (state_of before) actor call None ≡ Some why → going_on n actor middle ≡ (Ok (Some answer), after) → ⊥
  unfolding next
  not_denied n answer why d goes =
      let denied : next (state_of before) (step.Begin actor call None) ≡ Err why = denied_begin (state_of before) actor call (begin_denial (state_of before) actor call None) why d in
      let same : state_of middle ≡ state_of before = run_push (first_state (bounded before.limits)) before.steps (step.Begin actor call None) ∙ ap (state_after (state_of before)) denied in
      unanswered_at_rest n actor middle after answer (subst (λ s. is_busy s ≡ false) (sym same) rest) goes

  -- so it was taken
  begin_by : (n : ℕ) (answer : Reply) (denial : Option Refusal) → begin_denial (state_of before) actor call None ≡ denial → going_on n actor middle ≡ (Ok (Some answer), after) →
      (o : Outcome) × (state : State) × (next (state_of before) (step.Begin actor call None) ≡ Ok (o, state))
  unfolding next
  begin_by n answer None d goes = taken_begin (state_of before) actor call (begin_denial (state_of before) actor call None) d
  begin_by n answer (Some why) d goes = absurd (not_denied n answer why d goes)

  rests_behind : (n : ℕ) (answer : Reply) → going_on n actor middle ≡ (Ok (Some answer), after) → is_busy (state_of after) ≡ false
  rests_behind n answer goes =
      let (o, state, taken) = begin_by n answer (begin_denial (state_of before) actor call None) refl goes in
      let only = still_only actor (state_of before) (step.Begin actor call None) o state taken refl (only_at_rest (state_of before) rest actor) in
      leads_to_rest n actor middle after answer (subst (OnlyRuns actor) (sym (stepped before (step.Begin actor call None) o state taken)) only) goes

  -- what went on before an answer leads to it too
  goes_further : (n k : ℕ) (machine : Taken) (answer : Reply) → going_on n actor middle ≡ (Ok None, machine) → going_on k actor machine ≡ (Ok (Some answer), after) →
      going_on (n + k) actor middle ≡ (Ok (Some answer), after)
  goes_further n k machine answer so goes = going-append n k actor middle machine so ∙ goes

  completed_by : (denial : Option Refusal) (answer : Reply) → CompletesUnless denial (Ok (Some answer)) before actor call after → going_on go_limit actor middle ≡ (Ok (Some answer), after)
  completed_by (Some why) answer c = cc c.0
  completed_by None answer (inl memory) = cc memory.0
  completed_by None answer (inr goes) = goes

  pub rests : (result : Result (Option Reply) Refusal) → Completes result before actor call after → RestsIfAnswered result after
  rests (Ok (Some answer)) c = rests_behind go_limit answer (completed_by (begin_denial (state_of before) actor call None) answer c)
  rests (Ok None) c = tt
  rests (Err why) c = tt

  module _ (law : AloneItActs) (sizes : AreLimits after.limits) (keys : KeysFit after.steps) where
    acted_by : (answer : Reply) → Tells before after actor call answer → ActedAlone (Ok (Some answer)) before actor call after
    acted_by answer told =
        let led = told.led in
        let longer : Taken = record { limits = before.limits; steps = before.steps ++ led.more } in
        let same : after ≡ longer = ap (λ (l : Limits). record { limits = l; steps = after.steps }) led.limits ∙ ap (λ xs. record { limits = before.limits; steps = xs }) led.steps in
        let events = sym (ap (λ m. (past_of m).events) same) ∙ led.events in
        let alone : RanAlone (state_of before) (past_of before) (past_of longer) told.id actor call told.opens answer = record { rest = rest; told = events } in
        let in_range = in_bounds before.limits (subst AreLimits led.limits sizes) in
        let acts = law (bounded before.limits) before.steps led.more told.id actor call told.opens answer in_range (subst KeysFit led.steps keys) alone in
        subst (ActedAlone (Ok (Some answer)) before actor call) (sym same) (told.id, told.opens, acts.0, acts.1, events, acts.2, acts.3, acts.4)

    acted_behind : (n : ℕ) (answer : Reply) → going_on n actor middle ≡ (Ok (Some answer), after) → ActedAlone (Ok (Some answer)) before actor call after
    acted_behind n answer goes =
        let (o, state, taken) = begin_by n answer (begin_denial (state_of before) actor call None) refl goes in
        acted_by answer (tells n before after actor call answer goes o state taken)

    pub acted : (result : Result (Option Reply) Refusal) → Completes result before actor call after → ActedAlone result before actor call after
    acted (Ok (Some answer)) c = acted_behind go_limit answer (completed_by (begin_denial (state_of before) actor call None) answer c)
    acted (Ok None) c = tt
    acted (Err why) c = tt

-- ---- the same, where it is taken up again

module _ (before machine after : Taken) (actor : ℕ) (call : Call) (went : WentAlone before actor call machine) where
  pub rests_again : (result : Result (Option Reply) Refusal) → Resumes result machine actor after → RestsIfAnswered result after
  rests_again (Ok (Some answer)) goes =
      rests_behind before after actor call went.0 (went.1.0 + go_limit) answer (goes_further before after actor call went.0 went.1.0 go_limit machine answer went.1.1 goes)
  rests_again (Ok None) goes = tt
  rests_again (Err why) goes = tt

  pub acted_again : AloneItActs → AreLimits after.limits → KeysFit after.steps → (result : Result (Option Reply) Refusal) → Resumes result machine actor after →
      ActedAlone result before actor call after
  acted_again law sizes keys (Ok (Some answer)) goes =
      acted_behind before after actor call went.0 law sizes keys (went.1.0 + go_limit) answer
      (goes_further before after actor call went.0 went.1.0 go_limit machine answer went.1.1 goes)
  acted_again law sizes keys (Ok None) goes = tt
  acted_again law sizes keys (Err why) goes = tt

  -- the steps before it are some of those behind it
  more : (k : ℕ) (answer : Reply) → going_on k actor machine ≡ (Ok (Some answer), after) → HasMore (with_step before (step.Begin actor call None)) after
  more k answer goes =
      has_more (went.1.0 + k) actor (with_step before (step.Begin actor call None)) after (Ok (Some answer)) (goes_further before after actor call went.0 went.1.0 k machine answer went.1.1 goes)

  spared_by : (law : EachStepLeadsToItsEnd) (closes : ClosesEnd) (spare : EnoughForCall) → AreLimits after.limits → KeysFit after.steps → IsSure (state_of before) call (1 + most_steps_alone) →
      slots_of call ≤ length (state_of before).heap.free → going_on go_limit actor machine ≡ (Ok (Some NoSlots), after) → (denial : Option Refusal) →
      begin_denial (state_of before) actor call None ≡ denial → ⊥
  spared_by law closes spare sizes keys sure free goes (Some why) d =
      not_denied before after actor call went.0 (went.1.0 + go_limit) NoSlots why d (goes_further before after actor call went.0 went.1.0 go_limit machine NoSlots went.1.1 goes)
  spared_by law closes spare sizes keys sure free goes None d =
      let h = more go_limit NoSlots goes in
      let fit = fit_in_front (before.steps ++ step.Begin actor call None ∷ []) h.more (subst KeysFit h.steps keys) in
      spared_behind law closes spare before actor call (subst AreLimits h.limits sizes) (fit_in_front before.steps (step.Begin actor call None ∷ []) fit)
      (All-contains FitsKey (before.steps ++ step.Begin actor call None ∷ []) (step.Begin actor call None) fit (Contains-push before.steps (step.Begin actor call None))) sure free d
      (went.1.0 + go_limit) after
      (goes_further before after actor call went.0 went.1.0 go_limit machine NoSlots went.1.1 goes)

  pub spares_again : EachStepLeadsToItsEnd → ClosesEnd → EnoughForCall → AreLimits after.limits → KeysFit after.steps → (result : Result (Option Reply) Refusal) →
      Resumes result machine actor after →
      IsSpared before call result
  spares_again law closes spare sizes keys result goes sure free is =
      spared_by law closes spare sizes keys sure free (subst (λ r. Resumes r machine actor after) is goes) (begin_denial (state_of before) actor call None) refl
