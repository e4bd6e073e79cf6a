-- All that a running operation has got since its begin is safe.
use Rattle.std.proofs.Common.{◌≡◌, ℕ, zero, suc, ◌==◌, ◌&&◌, List, ◌∷◌, ◌++◌, All, Contains, get_or, Option, Some, None, Ok, Err, refl, sym, ap, ◌∙◌, subst, eqb-true, append-nil, arith, []}
use Rattle.std.proofs.lemmas.Bool.{cond_both, and_parts, false≢true}
use Rattle.std.proofs.lemmas.Option.{none-some}
use Rattle.std.proofs.lemmas.List.Elements.{All-nil, All-cons, All-append, All-weaker, All-contains}
use Rattle.proof_memory.specs.Vocabulary.{Refusal, Call, Ref, Node, Indirection, Branch, Single, Tomb, List as Listed, Prev, Heap, node_at, prev_at, main_at, next_ref, refs_of_node, refs_of_prev}
use Rattle.proof_memory.specs.Vocabulary.{refs_of_option, Operation, Action, RootWord, Plain, Offer, Bounds, Outcome, Step, handle_of, State, first_state, operation_of, word_at, action_of, gone}
use Rattle.proof_memory.specs.Vocabulary.{settled, refs_of_word, got_by, got_in, got_of, while_running, held_from, held, Answer, AreBounds, begin_denial, next, next_state, state_after}
use Rattle.proof_memory.specs.Vocabulary.{is_taken_step, run_from, run, Begins, Ends, Sweeps, GivesUp, Moves, GoesOn, MovesIfTaken}
use Rattle.proof_memory.specs.Beneath.slot_arena.specs.declared.nodes.Prev.TheVariants as prev
use Rattle.machine_model.specs.declared.actions.Action.TheVariants as act
use Rattle.machine_model.specs.declared.steps.Step.TheVariants as step
use Rattle.machine_model.proofs.Found.{none_found}
use Rattle.machine_model.proofs.Moves.{moves}
use Rattle.machine_model.specs.Moves.{Goes}
use Rattle.machine_model.proofs.Actors.{IsOf, is_of, mark_only, marks_in, marks_by, of_others, of_itself, of_end, of_giving_up}
use Rattle.proof_memory.specs.Wants.{Wanted, Is, Each, Holds, AllHold, node_wants, prev_wants, word_wants, action_wants}
use Rattle.proof_memory.specs.Laws.{IsInUse}
use Rattle.proof_memory.proofs.Claims.Uses.{Meets, safe_of, all_of}
use Rattle.proof_memory.proofs.Claims.Nodes.{main_read}
use Rattle.proof_memory.proofs.Claims.Named.{third_claim, past_third}
use Rattle.proof_memory.proofs.Safety.Guards.{Safe}
use Rattle.proof_memory.proofs.Safety.EachStep.{at_place}
use Rattle.proof_memory.specs.Making.{made_node}
use Rattle.proof_memory.proofs.Safety.States.{IsSafe, heaped}
use Rattle.proof_memory.proofs.Safety.Steps.{step_claims, gone_carries, made_fresh, its_word, step_carries}
use Rattle.proof_memory.proofs.Safety.AtEachTime.{safe_next}
use Rattle.proof_memory.proofs.Safety.First.{safe_at_first}

-- ---- references of what is claimed

module _ (S : Ref → Type 0) (heap : Heap) where
  one_safe : {wanted : Wanted} (r : Ref) → Holds S heap (Is r wanted) → All S (r ∷ [])
  one_safe r h = All-cons S r [] (safe_of h) (All-nil S)

  each_safe : {wanted : Wanted} (rs : List Ref) → Holds S heap (Each rs wanted) → All S rs
  each_safe {wanted} rs h = All-weaker (Meets S heap wanted) S (λ r m. m.0) rs (all_of h)

  pub node_refs : (node : Node) → AllHold S heap (node_wants node) → All S (refs_of_node node)
  node_refs (Indirection generation main) h = one_safe main h.0
  node_refs (Branch bitmap entries) h = each_safe entries.items h.0
  node_refs (Single key value) h = All-nil S
  node_refs (Tomb single) h = one_safe single h.0
  node_refs (Listed singles) h = each_safe singles.items h.0

  pub prev_refs : (p : Prev) → AllHold S heap (prev_wants p) → All S (refs_of_prev p)
  prev_refs prev.None h = All-nil S
  prev_refs (prev.Pending p) h = one_safe p h.0
  prev_refs (prev.Failed p) h = one_safe p h.0

  pub word_refs : (word : RootWord) → AllHold S heap (word_wants word) → All S (refs_of_word word)
  word_refs (Plain r) h = one_safe r h.0
  word_refs (Offer offer) h =
      All-cons S offer.root (offer.expected ∷ offer.successor ∷ refs_of_option offer.second) (safe_of h.0)
      (All-cons S offer.expected (offer.successor ∷ refs_of_option offer.second) (safe_of h.1.0)
      (All-cons S offer.successor (refs_of_option offer.second) (safe_of (third_claim h)) (each_safe (refs_of_option offer.second) (past_third h).0)))

-- ---- what an operation gets in its step

module _ (state : State) (I : IsSafe state) (actor k : ℕ) (operation : Operation) (found : get_or state.actors k None ≡ Some operation) (g : GoesOn (action_of state operation)) where
  abbrev after : State
  after = settled state (gone state actor operation)

  abbrev S : Ref → Type 0
  S = Safe state operation.epoch

  abbrev T : Ref → Type 0
  T = Safe after operation.epoch

  carried_all : (rs : List Ref) → All S rs → All T rs
  carried_all rs all = All-weaker S T (λ r h. (gone_carries state I actor k operation found r h).0) rs all

  made_by : (o : Option Ref) → next_ref state.heap ≡ o → (node : Node) → made_node state (action_of state operation) ≡ Some node → All T (refs_of_option o)
  made_by None e node is = All-nil T
  made_by (Some made) e node is = All-cons T made [] ((made_fresh state I actor k operation found node made is e).0) (All-nil T)

  got_safe : (action : Action) → action_of state operation ≡ action → AllHold S state.heap (action_wants action) → All T (got_by state (handle_of operation.call) action)
  got_safe act.ReadRoot e h = carried_all _ (word_refs S state.heap (word_at state (handle_of operation.call)) (its_word state I actor k operation found g))
  got_safe (act.ReadMain i) e h = carried_all (main_at state.heap i ∷ []) (one_safe S state.heap (main_at state.heap i) (main_read S state.heap (heaped state I operation.epoch) h.0))
  got_safe (act.ReadPrev main) e h = carried_all _ (prev_refs S state.heap (prev_at state.heap main) ((heaped state I operation.epoch).before main (safe_of h.0)))
  got_safe (act.Look at) e h = carried_all _ (node_refs S state.heap (node_at state.heap at) ((heaped state I operation.epoch).inside at (safe_of h.0)))
  got_safe (act.Make node) e h = made_by (next_ref state.heap) refl node (ap (made_node state) e)
  got_safe (act.MakeRoot main) e h = made_by (next_ref state.heap) refl _ (ap (made_node state) e)
  got_safe action e h = All-nil T

-- an actor that begins ran nothing
pub idle_before : (state : State) (actor : ℕ) (call : Call) (number : Option ℕ) → begin_denial state actor call number ≡ None → operation_of state actor ≡ None
idle_before state actor call number d = grind arith

not_running : (state : State) (actor : ℕ) (call : Call) (number : Option ℕ) (k : ℕ) → actor ≡ suc k → begin_denial state actor call number ≡ None → get_or state.actors k None ≡ None
not_running state actor call number k own d = sym (ap (λ a. operation_of state a) own) ∙ idle_before state actor call number d

-- ---- step by step

-- what the actor of this place holds is safe for its operation; nothing is held where none runs
pub record HoldsSafe (state : State) (k : ℕ) (refs : List Ref) : Type 0 where
  pub safe : (operation : Operation) → get_or state.actors k None ≡ Some operation → All (Safe state operation.epoch) refs
  pub none : get_or state.actors k None ≡ None → refs ≡ []

module _ (state : State) (I : IsSafe state) (k : ℕ) (refs : List Ref) (h : HoldsSafe state k refs) where
  -- another's step gives nothing
  nothing_got : (s : Step) → (IsOf (suc k) s → ⊥) → got_of state (suc k) s ≡ []
  nothing_got (step.Begin other call number) not_own = refl
  nothing_got (step.Go other) not_own =
      cond_both (other == suc k && is_taken_step (next state (step.Go other))) _ _ (λ (rs : List Ref). rs ≡ [])
      (λ e. absurd (not_own (eqb-true other (suc k) (and_parts (other == suc k) _ e).0))) (λ e. refl)
  nothing_got step.Sweep not_own = refl
  nothing_got (step.GiveUp other) not_own = refl

  by_owner : (s : Step) (o : Outcome) (after : State) → Moves state s o after → Dec (IsOf (suc k) s) → (found : Operation) → get_or after.actors k None ≡ Some found →
      All (Safe after found.epoch) (refs ++ got_of state (suc k) s)
  by_owner s o after m (no other) found at_k =
      let (was, at_was, same) = of_others state s o after m k other found at_k in
      let kept = All-weaker (Safe state was.epoch) (Safe after was.epoch)
      (λ r x. (step_carries state I s o after m was.epoch (I.recent k was at_was).0 (I.recent k was at_was).1 r x).0) refs (h.safe was at_was) in
      subst (λ (x : Operation). All (Safe after x.epoch) (refs ++ got_of state (suc k) s)) (sym (same ∙ mark_only (marks_in state s) was))
      (subst (λ got. All (Safe after was.epoch) (refs ++ got)) (sym (nothing_got s other)) (subst (All (Safe after was.epoch)) (sym (append-nil refs)) kept))
  by_owner s o after (Begins {actor} {call} {number} d) (yes own) found at_k =
      subst (λ rs. All (Safe after found.epoch) (rs ++ [])) (sym (h.none (not_running state actor call number k own d))) (All-nil (Safe after found.epoch))
  by_owner s o after (Goes {actor} {operation} d is a g) (yes own) found at_k =
      let at_was = at_place state actor k operation own is in
      let goes_on : GoesOn (action_of state operation) = rw a g in
      let kept = carried_all state I actor k operation at_was goes_on refs (h.safe operation at_was) in
      let got = got_safe state I actor k operation at_was goes_on (action_of state operation) refl (step_claims state I k operation at_was) in
      subst (λ (x : Operation). All (Safe after x.epoch) (refs ++ got_of state (suc k) (step.Go actor)))
      (sym (of_itself state actor operation k own found at_k ∙ mark_only (marks_by state (Some operation)) _))
      (All-append (Safe after operation.epoch) refs _ kept
      (cond_both (actor == suc k && is_taken_step (next state (step.Go actor))) _ _ (All (Safe after operation.epoch))
      (λ e. subst (λ o. All (Safe after operation.epoch) (got_in state o)) (sym at_was) got) (λ e. All-nil (Safe after operation.epoch))))
  by_owner s o after (Ends {actor} d is a) (yes own) found at_k = absurd (of_end state actor k own found at_k)
  by_owner s o after (GivesUp {actor} {operation} {answer} d is a) (yes own) found at_k =
      let at_was = at_place state actor k operation own is in
      let kept = All-weaker (Safe state operation.epoch) (Safe after operation.epoch)
      (λ r x. (step_carries state I s o after (GivesUp d is a) operation.epoch (I.recent k operation at_was).0 (I.recent k operation at_was).1 r x).0) refs (h.safe operation at_was) in
      subst (λ (x : Operation). All (Safe after x.epoch) (refs ++ [])) (of_giving_up state actor operation answer k own found at_k)
      (subst (All (Safe after operation.epoch)) (sym (append-nil refs)) kept)
  by_owner s o after (Sweeps spent) (yes own) found at_k = absurd own

-- ---- along a run

-- where an operation runs what it got so far is kept, and else nothing
kept_while : (state : State) (k : ℕ) (refs : List Ref) (o : Option Operation) → get_or state.actors k None ≡ o →
    ((operation : Operation) → get_or state.actors k None ≡ Some operation → All (Safe state operation.epoch) refs) → HoldsSafe state k (while_running o refs)
kept_while state k refs None e f = record { safe = λ operation is. absurd (none-some operation (sym e ∙ is)); none = λ is. refl }
kept_while state k refs (Some operation) e f = record { safe = f; none = λ is. absurd (none-some operation (sym is ∙ e)) }

-- a denied step gives nothing
denied_gives : (state : State) (k : ℕ) (s : Step) (why : Refusal) → next state s ≡ Err why → got_of state (suc k) s ≡ []
denied_gives state k (step.Begin other call number) why e = refl
denied_gives state k (step.Go other) why e =
    cond_both (other == suc k && is_taken_step (next state (step.Go other))) _ _ (λ (rs : List Ref). rs ≡ [])
    (λ t. absurd (false≢true (sym (ap is_taken_step e) ∙ (and_parts (other == suc k) _ t).1))) (λ t. refl)
denied_gives state k step.Sweep why e = refl
denied_gives state k (step.GiveUp other) why e = refl

held_by : (state : State) (I : IsSafe state) (k : ℕ) (refs : List Ref) → HoldsSafe state k refs → (s : Step) (answer : Answer) → next state s ≡ answer → MovesIfTaken state s answer →
    HoldsSafe (state_after state answer) k (while_running (operation_of (state_after state answer) (suc k)) (refs ++ got_of state (suc k) s))
held_by state I k refs h s (Ok done) e m = kept_while done.1 k (refs ++ got_of state (suc k) s) (operation_of done.1 (suc k)) refl (by_owner state I k refs h s done.0 done.1 m (is_of (suc k) s))
held_by state I k refs h s (Err why) e m =
    kept_while state k (refs ++ got_of state (suc k) s) (operation_of state (suc k)) refl
    (λ operation found. subst (λ got. All (Safe state operation.epoch) (refs ++ got)) (sym (denied_gives state k s why e))
    (subst (All (Safe state operation.epoch)) (sym (append-nil refs)) (h.safe operation found)))

held_along : (steps : List Step) (state : State) → IsSafe state → (k : ℕ) (refs : List Ref) → HoldsSafe state k refs → HoldsSafe (run_from state steps) k (held_from state (suc k) refs steps)
unfolding held_from run_from
held_along [] state I k refs h = h
held_along (s ∷ steps) state I k refs h =
    held_along steps (next_state state s) (safe_next state I s) k (while_running (operation_of (next_state state s) (suc k)) (refs ++ got_of state (suc k) s))
    (held_by state I k refs h s (next state s) refl (moves state s))

-- there is no actor 0
none_by_zero : (steps : List Step) (state : State) → held_from state zero [] steps ≡ []
unfolding held_from
none_by_zero [] state = refl
none_by_zero (s ∷ steps) state = none_by_zero steps (next_state state s)

first_holds : (limits : Bounds) (k : ℕ) → HoldsSafe (first_state limits) k []
unfolding first_state
first_holds limits k = record { safe = λ operation found. absurd (none_found limits.actors k operation found); none = λ e. refl }

-- what is held is in use
in_use_by : (state : State) (k : ℕ) (refs : List Ref) → HoldsSafe state k refs → (o : Option Operation) → get_or state.actors k None ≡ o → (r : Ref) → Contains refs r → IsInUse state.heap r
in_use_by state k refs h None e r c = none_contained r (subst (λ rs. Contains rs r) (h.none e) c)
  where
    none_contained : (r : Ref) → Contains [] r → IsInUse state.heap r
    none_contained r (i, within, at_i) = absurd (omega arith)
in_use_by state k refs h (Some operation) e r c = (All-contains (Safe state operation.epoch) refs r (h.safe operation e) c).used

pub held_in_use : (limits : Bounds) → AreBounds limits → (steps : List Step) (actor : ℕ) (r : Ref) → Contains (held limits steps actor) r → IsInUse (run limits steps).heap r
held_in_use limits ok steps zero r c = none_contained (subst (λ rs. Contains rs r) (none_by_zero steps (first_state limits)) c)
  where
    none_contained : Contains [] r → IsInUse (run limits steps).heap r
    none_contained (i, within, at_i) = absurd (omega arith)
held_in_use limits ok steps (suc k) r c =
    in_use_by (run limits steps) k (held limits steps (suc k)) (held_along steps (first_state limits) (safe_at_first limits ok) k [] (first_holds limits k))
    (operation_of (run limits steps) (suc k)) refl r c
