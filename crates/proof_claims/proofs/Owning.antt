-- What is an indirection's own by the list of steps is so in its run.
use Rattle.std.proofs.Common.{◌≡◌, ◌⊎◌, inl, inr, ℕ, ◌==◌, ◌&&◌, ◌||◌, Bool, true, false, List, [], ◌∷◌, ◌++◌, Option, Some, None, Ok, Err}
use Rattle.std.proofs.Common.{refl, sym, ap, subst, ◌∙◌, arith, append_assoc, append-nil, eqb-true, cond}
use Rattle.std.proofs.lemmas.Bool.{true≢false}
use Rattle.std.specs.List.{list_any}
use Rattle.std.proofs.lemmas.List.Folds.{list_any-append}
use Rattle.proof_claims.specs.Beneath.history.specs.declared.calls.Call.{Call}
use Rattle.proof_claims.specs.Beneath.history.specs.declared.calls.Call.TheVariants.{Close}
use Rattle.proof_claims.specs.Beneath.slot_arena.specs.declared.nodes.Node.{Node}
use Rattle.proof_claims.specs.Beneath.slot_arena.specs.declared.nodes.Node.TheVariants.{Indirection}
use Rattle.proof_claims.specs.Beneath.slot_arena.specs.declared.nodes.Prev.{Prev}
use Rattle.proof_claims.specs.Beneath.slot_arena.specs.declared.nodes.Prev.TheVariants as prev
use Rattle.proof_claims.specs.Beneath.slot_arena.specs.declared.refs.Ref.{Ref}
use Rattle.proof_claims.specs.Beneath.slot_arena.specs.Heaps.{Heap, main_at, main_of, next_ref, node_at, refs_of_node, taken, with_main, with_prev}
use Rattle.proof_claims.specs.Beneath.slot_arena.specs.Refs.{ref_to}
use Rattle.proof_claims.specs.Beneath.machine_model.specs.declared.actions.Action.{Action}
use Rattle.proof_claims.specs.Beneath.machine_model.specs.declared.actions.Action.TheVariants as act
use Rattle.proof_claims.specs.Beneath.machine_model.specs.declared.building.BuildLine.TheVariants as build
use Rattle.proof_claims.specs.Beneath.machine_model.specs.declared.copying.CopyLine.TheVariants as copy
use Rattle.proof_claims.specs.Beneath.machine_model.specs.declared.lines.Line.{Line}
use Rattle.proof_claims.specs.Beneath.machine_model.specs.declared.lines.Line.TheVariants as line
use Rattle.proof_claims.specs.Beneath.machine_model.specs.declared.operations.Operation.{Operation}
use Rattle.proof_claims.specs.Beneath.machine_model.specs.declared.reading.Swap.{Swap}
use Rattle.proof_claims.specs.Beneath.machine_model.specs.declared.roots.Descriptor.{Descriptor}
use Rattle.proof_claims.specs.Beneath.machine_model.specs.declared.steps.Bounds.{Bounds}
use Rattle.proof_claims.specs.Beneath.machine_model.specs.declared.steps.Outcome.{Outcome}
use Rattle.proof_claims.specs.Beneath.machine_model.specs.declared.steps.Step.{Step}
use Rattle.proof_claims.specs.Beneath.machine_model.specs.declared.steps.Step.TheVariants as step
use Rattle.proof_claims.specs.Beneath.machine_model.specs.Acting.{acted, gone, if_changed, new_root_taken, operation_after}
use Rattle.proof_claims.specs.Beneath.machine_model.specs.Calls.{handle_of}
use Rattle.proof_claims.specs.Beneath.machine_model.specs.Counting.{settled}
use Rattle.proof_claims.specs.Beneath.machine_model.specs.Machine.{Answer, AreBounds, is_taken_step, next, run, state_after}
use Rattle.proof_claims.specs.Beneath.machine_model.specs.Grown.{standing}
use Rattle.proof_claims.specs.Beneath.machine_model.specs.Moves.{Begins, Ends, Goes, GivesUp, Moves, MovesIfTaken, Sweeps}
use Rattle.proof_claims.specs.Beneath.machine_model.specs.Operations.{action_of, line_action}
use Rattle.proof_claims.specs.Beneath.machine_model.proofs.Along.{by_last, run_push}
use Rattle.proof_claims.specs.Beneath.machine_model.proofs.Moves.{moves}
use Rattle.proof_claims.specs.Beneath.machine_model.specs.Reading.{Verdict}
use Rattle.proof_claims.specs.Beneath.machine_model.specs.States.{State, first_state, operation_of, with_operation}
use Rattle.proof_claims.specs.Beneath.machine_model.specs.Swapping.{swapping}
use Rattle.proof_claims.specs.Beneath.machine_model.specs.Paths.{start_of}
use Rattle.proof_claims.specs.Beneath.proof_commits.specs.Protocol.{Builds}
use Rattle.proof_claims.specs.Beneath.proof_commits.specs.Runs.{HasIndirection}
use Rattle.proof_claims.specs.Beneath.proof_commits.specs.Stages.{stage_of}
use Rattle.proof_claims.specs.Beneath.proof_fresh.proofs.Publishing.{publishing}
use Rattle.proof_claims.specs.Beneath.proof_memory.specs.Laws.{IsInUse}
use Rattle.proof_claims.specs.Beneath.proof_memory.specs.Wants.{AllHold, is_indirection, line_wants, purpose_wants, swap_wants}
use Rattle.proof_claims.specs.Beneath.proof_memory.proofs.Claims.Uses.{first_hold, meets_of, safe_of}
use Rattle.proof_claims.specs.Beneath.proof_memory.proofs.Heap.Under.{fresh_slot, taken_all}
use Rattle.proof_claims.specs.Beneath.proof_memory.proofs.Safety.AtEachTime.{safe_along}
use Rattle.proof_claims.specs.Beneath.proof_memory.proofs.Safety.AtTimes.{line_finds}
use Rattle.proof_claims.specs.Beneath.machine_model.proofs.Grown.{node_standing}
use Rattle.proof_claims.specs.Beneath.proof_reuse.specs.Laws.{WasSwappedIn}
use Rattle.proof_claims.specs.Held.{Change, Held, held_after, is_owned}
use Rattle.proof_claims.specs.Changes.{change_by, change_beginning, change_going, change_giving_up, change_of, checks, checks_at, completes, decides, makes, offers, owned_at, publishes}
use Rattle.proof_claims.specs.Claims.{held_from, held_of}
use Rattle.proof_claims.proofs.Along.{held_push}
use Rattle.proof_claims.proofs.Lists.{both_true}
use Rattle.proof_claims.proofs.Standing.{link_here, main_is, node_still, used_after, used_after_main}

-- how a main node came to be the indirection's own, by beginnings of the list
pub data CameOwn (limits : Bounds) (steps : List Step) (i m : Ref) : Type 0 where
  swapped_in : WasSwappedIn limits steps i m → CameOwn limits steps i m
  built_over : (before : List Step) (actor : ℕ) (more : List Step) (operation : Operation) (o : Outcome) (after : State) → steps ≡ (before ++ step.Go actor ∷ []) ++ more →
      operation_of (run limits before) actor ≡ Some operation → stage_of operation.line ≡ Builds m → next (run limits before) (step.Go actor) ≡ Ok (o, after) →
      next_ref (run limits before).heap ≡ Some i → HasIndirection (run limits (before ++ step.Go actor ∷ [])) i → main_at (run limits (before ++ step.Go actor ∷ [])).heap i ≡ m →
      CameOwn limits steps i m
  at_first : i ≡ ref_to 2 1 → m ≡ ref_to 1 0 → CameOwn limits steps i m

-- it is found so in a longer list
pub came_later : (limits : Bounds) (xs ys : List Step) (i m : Ref) → CameOwn limits xs i m → CameOwn limits (xs ++ ys) i m
came_later limits xs ys i m (swapped_in h) =
    swapped_in (record {
      before = h.before;
      actor = h.actor;
      more = h.more ++ ys;
      goes_on = ap (λ l. l ++ ys) h.goes_on ∙ append_assoc (h.before ++ step.Go h.actor ∷ []) h.more ys;
      operation = h.operation;
      runs = h.runs;
      why = h.why;
      over = h.over;
      line = h.line;
      outcome = h.outcome;
      after = h.after;
      taken = h.taken;
      has = h.has;
      stands = h.stands;
    })
came_later limits xs ys i m (built_over before actor more operation o after e runs stage done drawn has is) =
    built_over before actor (more ++ ys) operation o after (ap (λ l. l ++ ys) e ∙ append_assoc (before ++ step.Go actor ∷ []) more ys) runs stage done drawn has is
came_later limits xs ys i m (at_first a b) = at_first a b

-- ---- most changes make nothing own

no_decides : (own : Bool) (v : Verdict) (names : List Ref) (f p : Ref) → (decides own v names f p).owned ≡ []
no_decides own v names f p = grind arith

no_checks : (own : Bool) (v : Prev) (s : Swap) → (checks own v s).owned ≡ []
no_checks own v s = grind arith

no_checks_at : (state : State) (held : Held) (l : Line) → (checks_at state held l).owned ≡ []
no_checks_at state held l = grind arith

no_offers : (stands : Bool) (private : List Ref) (handle : ℕ) (offer : Descriptor) → (offers stands private handle offer).owned ≡ []
no_offers stands private handle offer = grind arith

no_completes : (out : Bool) (handle : ℕ) (offer : Descriptor) (operation : Operation) → (completes out handle offer operation).owned ≡ []
no_completes out handle offer operation = grind arith

no_begins : (state : State) (call : Call) → (change_beginning state call).owned ≡ []
no_begins state (Close handle) = refl
no_begins state call = refl

-- ---- what a change makes own

abbrev IsAmong : List (Ref × Ref) → Ref → Ref → Type 0
IsAmong owned i m = list_any (λ (pair : Ref × Ref). (pair.0 == i) && (pair.1 == m)) owned ≡ true

none_among : (owned : List (Ref × Ref)) (i m : Ref) → owned ≡ [] → IsAmong owned i m → ⊥
none_among owned i m none e = true≢false (sym e ∙ ap (λ l. list_any (λ (pair : Ref × Ref). (pair.0 == i) && (pair.1 == m)) l) none)

alone : (b : Bool) → (b || false) ≡ true → b ≡ true
alone true e = refl
alone false e = absurd (true≢false (sym e))

one_among : (x y i m : Ref) → IsAmong ((x, y) ∷ []) i m → (x ≡ i) × (y ≡ m)
one_among x y i m e = let (a, b) = both_true (x == i) (y == m) (alone _ e) in (eqb-true x i a, eqb-true y m b)

-- the node that is made is an indirection over what its maker holds
module _ (state : State) (operation : Operation) (x i m : Ref) where
  abbrev IsLink : Line → Node → Type 0
  IsLink l node = (x ≡ i) × (stage_of l ≡ Builds m) × (is_indirection node ≡ true) × (main_of node ≡ m)

  link_made : (l : Line) (node : Node) → line_action state operation l ≡ act.Make node → IsAmong (owned_at l x) i m → IsLink l node
  link_made (line.Build (build.Link path main position below depth)) node e among =
      let (at_i, of_m) = one_among x below i m among in
      let same : Indirection (start_of operation) below ≡ node = cc e in
      (at_i, ap Builds of_m, ap is_indirection (sym same), ap main_of (sym same) ∙ of_m)
  link_made (line.Copy (copy.Cleared root main branch)) node e among = let bad : ⊥ = cc e in absurd bad
  link_made l node e among = absurd (true≢false (sym among))

  root_made : (l : Line) (main : Ref) → line_action state operation l ≡ act.MakeRoot main → IsAmong (owned_at l x) i m → IsLink l (Indirection state.generations main)
  root_made (line.Copy (copy.Cleared root old branch)) main e among =
      let (at_i, of_m) = one_among x branch i m among in
      let same : branch ≡ main = cc e in
      (at_i, ap Builds of_m, refl, sym same ∙ of_m)
  root_made (line.Build (build.Link path old position below depth)) main e among = let bad : ⊥ = cc e in absurd bad
  root_made l main e among = absurd (true≢false (sym among))

module _ (limits : Bounds) (ok : AreBounds limits) (xs : List Step) (i m : Ref) where
  abbrev state : State
  state = run limits xs

  abbrev held : Held
  held = held_of limits xs

  -- ---- a step of an operation

  module _ (actor : ℕ) (operation : Operation) (runs : operation_of state actor ≡ Some operation) (o : Outcome) (after : State) (taken_so : next state (step.Go actor) ≡ Ok (o, after))
      (is : run limits (xs ++ step.Go actor ∷ []) ≡ after) (gone_is : after ≡ settled state (gone state actor operation)) where
    abbrev put : State
    put = with_operation state actor (Some (operation_after state operation))

    abbrev Came : Type 0
    Came = CameOwn limits (xs ++ step.Go actor ∷ []) i m

    heap_is : (action : Action) → action_of state operation ≡ action → (run limits (xs ++ step.Go actor ∷ [])).heap ≡ (acted put (handle_of operation.call) action).heap
    heap_is action acts = ap (λ (a : State). a.heap) (is ∙ gone_is) ∙ ap (λ a. (acted put (handle_of operation.call) a).heap) acts

    by_publish : (j a f : Ref) → action_of state operation ≡ act.Publish j a f → (b : Bool) → (main_at state.heap j == a) ≡ b → IsAmong (publishes b operation.private j f).owned i m → Came
    by_publish j a f acts false e among = absurd (true≢false (sym among))
    by_publish j a f acts true e among =
        let (why, on) = publishing state operation j a f acts in
        let (at_i, of_m) = one_among j f i m among in
        let wants = first_hold (IsInUse state.heap) state.heap (swap_wants (swapping j a f)) (purpose_wants why)
        (subst (λ l. AllHold (IsInUse state.heap) state.heap (line_wants state.limits.hash operation.call operation.access l)) on (line_finds state (safe_along limits ok xs) actor operation runs)) in
        let used_j = safe_of wants.0 in
        let link_j = meets_of wants.0 in
        let between : Heap = with_main state.heap j f in
        let f_between = used_after_main state.heap j f used_j link_j f (safe_of wants.1.1.0) in
        let j_between = used_after_main state.heap j f used_j link_j j used_j in
        let heap = heap_is (act.Publish j a f) acts ∙ ap (λ b. if_changed b (with_prev (with_main state.heap j f) f (prev.Pending a)) state.heap) e in
        let node = ap (λ h. node_at h j) heap ∙ node_still (with_main state.heap j f) f (prev.Pending a) f_between j j_between in
        subst (λ k. CameOwn limits (xs ++ step.Go actor ∷ []) k m) at_i (subst (λ k. CameOwn limits (xs ++ step.Go actor ∷ []) j k) of_m (swapped_in (record {
          before = xs;
          actor = actor;
          more = [];
          goes_on = sym (append-nil (xs ++ step.Go actor ∷ []));
          operation = operation;
          runs = runs;
          why = why;
          over = a;
          line = on;
          outcome = o;
          after = after;
          taken = taken_so;
          has = (subst (λ h. IsInUse h j) (sym heap) (used_after (with_main state.heap j f) f (prev.Pending a) f_between j j_between), ap is_indirection node ∙ link_here state.heap j f used_j link_j);
          stands = ap main_of node ∙ main_is state.heap j f used_j link_j;
        })))

    by_made : (node : Node) (x : Ref) → next_ref state.heap ≡ Some x → (run limits (xs ++ step.Go actor ∷ [])).heap ≡ taken state.heap node → IsLink state operation x i m operation.line node → Came
    by_made node x drawn heap (at_i, stage, link, main) =
        let here = ap (λ h. standing h x) heap ∙ (taken_all state.limits.slots state.heap ((safe_along limits ok xs).sound.heap) node x drawn).0 in
        let found = node_standing (run limits (xs ++ step.Go actor ∷ [])).heap x (fresh_slot state.heap node) here in
        built_over xs actor [] operation o after (sym (append-nil (xs ++ step.Go actor ∷ []))) runs stage taken_so (drawn ∙ ap Some at_i)
        (subst (HasIndirection (run limits (xs ++ step.Go actor ∷ []))) at_i ((fresh_slot state.heap node, here), ap is_indirection found ∙ link))
        (subst (λ k. main_at (run limits (xs ++ step.Go actor ∷ [])).heap k ≡ m) at_i (ap main_of found ∙ main))

    by_make : (node : Node) → action_of state operation ≡ act.Make node → (n : Option Ref) → next_ref state.heap ≡ n → IsAmong (makes state held operation (refs_of_node node) n).owned i m → Came
    by_make node acts None drawn among = absurd (true≢false (sym among))
    by_make node acts (Some x) drawn among = by_made node x drawn (heap_is (act.Make node) acts) (link_made state operation x i m operation.line node acts among)

    by_root : (main : Ref) → action_of state operation ≡ act.MakeRoot main → (n : Option Ref) → next_ref state.heap ≡ n → IsAmong (makes state held operation (main ∷ []) n).owned i m → Came
    by_root main acts None drawn among = absurd (true≢false (sym among))
    by_root main acts (Some x) drawn among =
        by_made (Indirection state.generations main) x drawn (heap_is (act.MakeRoot main) acts ∙ ap (λ n. (new_root_taken put main n).heap) drawn)
        (root_made state operation x i m operation.line main acts among)

    by_action : (action : Action) → action_of state operation ≡ action → IsAmong (change_by state held operation action).owned i m → Came
    by_action (act.Publish j a f) acts among = by_publish j a f acts (main_at state.heap j == a) refl among
    by_action (act.Make node) acts among = by_make node acts (next_ref state.heap) refl among
    by_action (act.MakeRoot main) acts among = by_root main acts (next_ref state.heap) refl among
    by_action (act.Decide j f p seen) acts among = absurd (none_among _ i m (no_decides _ _ _ f p) among)
    by_action (act.ReadPrev main) acts among = absurd (none_among _ i m (no_checks_at state held operation.line) among)
    by_action (act.Offer offer) acts among = absurd (none_among _ i m (no_offers _ operation.private _ offer) among)
    by_action (act.Complete offer main) acts among = absurd (none_among _ i m (no_completes _ _ offer operation) among)
    by_action action acts among = absurd (true≢false (sym among))

  -- ---- a step that is taken

  new_own : (s : Step) (o : Outcome) (after : State) → Moves state s o after → next state s ≡ Ok (o, after) → run limits (xs ++ s ∷ []) ≡ after → IsAmong (change_of state held s).owned i m →
      CameOwn limits (xs ++ s ∷ []) i m
  new_own s o after (Begins {actor} {call} {number} d) taken_so is among = absurd (none_among _ i m (no_begins state call) among)
  new_own s o after (Goes {actor} {operation} {action} d runs acts g) taken_so is among =
      by_action actor operation runs o after taken_so is refl action acts
      (subst (λ c. IsAmong c.owned i m) (ap (change_going state held) runs ∙ ap (change_by state held operation) acts) among)
  new_own s o after (Ends {actor} {operation} {answer} d runs acts) taken_so is among =
      absurd (true≢false (sym (subst (λ (c : Change). IsAmong c.owned i m) (ap (change_going state held) runs ∙ ap (change_by state held operation) acts) among)))
  new_own s o after (Sweeps spent) taken_so is among = absurd (true≢false (sym among))
  new_own s o after (GivesUp {actor} {operation} {answer} d runs may) taken_so is among =
      absurd (true≢false (sym (subst (λ (c : Change). IsAmong c.owned i m) (ap change_giving_up runs) among)))

module _ (limits : Bounds) (ok : AreBounds limits) where
  abbrev AllOwn : List Step → Type 0
  AllOwn xs = (i m : Ref) → is_owned (held_of limits xs) i m ≡ true → CameOwn limits xs i m

  own_first : AllOwn []
  unfolding held_from
  own_first i m e = let (a, b) = one_among (ref_to 2 1) (ref_to 1 0) i m e in at_first (sym a) (sym b)

  -- what was own or is so by this change
  own_cases : (a b : Bool) → (a || b) ≡ true → (a ≡ true) ⊎ (b ≡ true)
  own_cases true b e = inl refl
  own_cases false b e = inr e

  by_answer : (xs : List Step) (s : Step) → AllOwn xs → (a : Answer) → next (run limits xs) s ≡ a → MovesIfTaken (run limits xs) s a → (i m : Ref) →
      is_owned (cond (is_taken_step a) (held_after (change_of (run limits xs) (held_of limits xs) s) (held_of limits xs)) (held_of limits xs)) i m ≡ true → CameOwn limits (xs ++ s ∷ []) i m
  by_answer xs s h (Err refusal) e moved i m owned = came_later limits xs (s ∷ []) i m (h i m owned)
  by_answer xs s h (Ok done) e moved i m owned = elim (own_cases _ _ (sym (list_any-append _ (held_of limits xs).owned (change_of (run limits xs) (held_of limits xs) s).owned) ∙ owned)) [
    | inl before ↦ came_later limits xs (s ∷ []) i m (h i m before)
    | inr now ↦ new_own limits ok xs i m s done.0 done.1 moved e (run_push (first_state limits) xs s ∙ ap (state_after (run limits xs)) e) now
  ]

  pub came_own : (xs : List Step) → AllOwn xs
  came_own xs =
      by_last AllOwn own_first
      (λ xs s h i m owned. by_answer xs s h (next (run limits xs) s) refl (moves (run limits xs) s) i m (subst (λ (held : Held). is_owned held i m ≡ true) (held_push limits xs s) owned)) xs
