-- What claims of nodes are on: an indirection's are on main nodes that stood there, and either a handle's root had its generation, or a copy has made it and is to offer it or to carry its offer out;
-- a main node's are on entries.
use Rattle.std.proofs.Common.{◌≡◌, ◌⊎◌, inl, inr, ℕ, suc, Bool, true, false, List, [], ◌∷◌, ◌++◌, Contains, Option, Some, Ok, Err, cond, refl, sym, ap, subst, ◌∙◌, arith, eq-eqb}
use Rattle.std.proofs.lemmas.Bool.{true≢false}
use Rattle.std.proofs.lemmas.List.Elements.{Contains-push}
use Rattle.proof_claims.specs.Beneath.slot_arena.specs.declared.nodes.Node.{Node}
use Rattle.proof_claims.specs.Beneath.slot_arena.specs.declared.nodes.Node.TheVariants.{Indirection}
use Rattle.proof_claims.specs.Beneath.slot_arena.specs.declared.nodes.Prev.TheVariants as prev
use Rattle.proof_claims.specs.Beneath.slot_arena.specs.declared.refs.Ref.{Ref}
use Rattle.proof_claims.specs.Beneath.slot_arena.specs.Heaps.{generation_at, generation_of, main_at, main_of, next_ref, node_at, refs_of_node, with_main, with_prev}
use Rattle.proof_claims.specs.Beneath.slot_arena.specs.Refs.{ref_to}
use Rattle.proof_claims.specs.Beneath.history.specs.declared.calls.Call.{Call}
use Rattle.proof_claims.specs.Beneath.history.specs.declared.calls.Call.TheVariants.{Snapshot}
use Rattle.proof_claims.specs.Beneath.history.specs.declared.calls.Access.TheVariants.{Writable}
use Rattle.proof_claims.specs.Beneath.machine_model.specs.declared.actions.Action.{Action}
use Rattle.proof_claims.specs.Beneath.machine_model.specs.declared.actions.Action.TheVariants as act
use Rattle.proof_claims.specs.Beneath.machine_model.specs.declared.copying.CopyLine.TheVariants as copy
use Rattle.proof_claims.specs.Beneath.machine_model.specs.declared.lines.Line.{Line}
use Rattle.proof_claims.specs.Beneath.machine_model.specs.declared.operations.Operation.{Operation}
use Rattle.proof_claims.specs.Beneath.machine_model.specs.declared.roots.RootWord.TheVariants.{Plain}
use Rattle.proof_claims.specs.Beneath.machine_model.specs.declared.steps.Bounds.{Bounds}
use Rattle.proof_claims.specs.Beneath.machine_model.specs.declared.steps.Outcome.{Outcome}
use Rattle.proof_claims.specs.Beneath.machine_model.specs.declared.steps.Step.{Step}
use Rattle.proof_claims.specs.Beneath.machine_model.specs.declared.steps.Step.TheVariants as step
use Rattle.proof_claims.specs.Beneath.machine_model.specs.Acting.{if_changed, operation_after, private_after, with_made}
use Rattle.proof_claims.specs.Beneath.machine_model.specs.Copying.{after_successor, copy_if_made}
use Rattle.proof_claims.specs.Beneath.machine_model.specs.Machine.{Answer, AreBounds, is_taken_step, next, run, run_from, state_after}
use Rattle.proof_claims.specs.Beneath.machine_model.specs.Moves.{Moves, MovesIfTaken}
use Rattle.proof_claims.specs.Beneath.machine_model.specs.Grown.{standing}
use Rattle.proof_claims.specs.Beneath.machine_model.specs.Reading.{Commits, verdict}
use Rattle.proof_claims.specs.Beneath.machine_model.specs.Swapping.{swapping}
use Rattle.proof_claims.specs.Beneath.machine_model.specs.Operations.{action_of, line_after}
use Rattle.proof_claims.specs.Beneath.machine_model.specs.States.{State, first_state, operation_of, root_at}
use Rattle.proof_claims.specs.Beneath.machine_model.specs.Times.{last_of, states_of}
use Rattle.proof_claims.specs.Beneath.machine_model.proofs.Actors.{mark_one, mark_only, marks_in}
use Rattle.proof_claims.specs.Beneath.machine_model.proofs.Along.{by_last, run_push}
use Rattle.proof_claims.specs.Beneath.machine_model.proofs.Fates.{Follows, ends, follows, gives_up, place_of_actor, rests, steps}
use Rattle.proof_claims.specs.Beneath.machine_model.proofs.Moves.{moves}
use Rattle.proof_claims.specs.Beneath.machine_model.proofs.Times.{run_ends, run_is}
use Rattle.proof_claims.specs.Beneath.proof_commits.specs.Runs.{HasIndirection}
use Rattle.proof_claims.specs.Beneath.proof_followed.proofs.InUse.{followed_used}
use Rattle.proof_claims.specs.Beneath.proof_followed.specs.Followed.{from_root}
use Rattle.proof_claims.specs.Beneath.proof_fresh.proofs.Publishing.{publishing}
use Rattle.proof_claims.specs.Beneath.proof_garbage.proofs.Claims.{refs_held}
use Rattle.proof_claims.specs.Beneath.proof_generations.proofs.Falling.Nodes.{used_generation}
use Rattle.proof_claims.specs.Beneath.proof_generations.proofs.Falling.Runs.{gen_of}
use Rattle.proof_claims.specs.Beneath.proof_generations.proofs.Lines.ReaderKnows.{indirection_is}
use Rattle.proof_claims.specs.Beneath.proof_generations.proofs.Roots.Kept.{fresh_in}
use Rattle.proof_claims.specs.Beneath.proof_generations.specs.Falling.{WasOpened}
use Rattle.proof_claims.specs.Beneath.proof_generations.proofs.Roots.OfLists.{has_handles_along}
use Rattle.proof_claims.specs.Beneath.proof_memory.proofs.Claims.Uses.{meets_of, safe_of}
use Rattle.proof_claims.specs.Beneath.proof_memory.proofs.Safety.AtEachTime.{safe_along}
use Rattle.proof_claims.specs.Beneath.proof_memory.specs.Laws.{IsInUse}
use Rattle.proof_claims.specs.Beneath.proof_memory.proofs.Heap.Under.{fresh_slot}
use Rattle.proof_claims.specs.Beneath.proof_memory.specs.Wants.{AMain, AllHold, action_wants, is_indirection, meets, node_wants}
use Rattle.proof_claims.specs.Beneath.proof_order.proofs.Openings.Copy.{MakesOver, makes_over, over_branch, over_found}
use Rattle.proof_claims.specs.Beneath.proof_owned.proofs.Reading.{swap_opened}
use Rattle.proof_claims.specs.Beneath.proof_owned.proofs.Unopened.{root_link}
use Rattle.proof_claims.specs.Changes.{change_of}
use Rattle.proof_claims.specs.Claims.{Has, held_from, held_of}
use Rattle.proof_claims.specs.Held.{Held, Holder, OfHandle, OfNode, Stays, held_after}
use Rattle.proof_claims.proofs.Acted as acted
use Rattle.proof_claims.proofs.Acted.{acted_after, named_wanted}
use Rattle.proof_claims.proofs.Along.{held_push}
use Rattle.proof_claims.proofs.ChangeKinds.{Acting, MakesNode, a_node, a_root}
use Rattle.proof_claims.proofs.ClaimsDiffer.{first_is, root_stands}
use Rattle.proof_claims.proofs.FirstClaims.{root_node, root_used}
use Rattle.proof_claims.proofs.FromRoots.{named_by_link, node_claims}
use Rattle.proof_claims.proofs.InSwap.{plain_f}
use Rattle.proof_claims.proofs.Letting.{link_names}
use Rattle.proof_claims.proofs.LinksOpened.{link_opened}
use Rattle.proof_claims.proofs.NewClaims.{Comes, came, first, frozen, made, moved, published, second, stood}
use Rattle.proof_claims.proofs.OnceSo.{HasGeneration, IsOpenNow, OnceSo, StandsIn, WasOpen, open_later, so_later, so_now}
use Rattle.proof_claims.proofs.PendingOwner.{pending_owner}
use Rattle.proof_claims.proofs.PrevMoves.{was_pending}
use Rattle.proof_claims.proofs.Standing.{link_here, main_is, node_still, used_after, used_after_main}
use Rattle.proof_claims.proofs.RootsInCourse.{CourseGoes, InCourse, OnHandle, comes_to_stand, course_goes, goes_on, lets_go, unoffered}

-- it is in use, and no main node
abbrev pub IsEntry : Ref → State → Type 0
IsEntry k state = IsInUse state.heap k × (meets AMain (node_at state.heap k) ≡ false)

pub data ClaimFits (limits : Bounds) (xs : List Step) (y k : Ref) : Type 0 where
  by_link : OnceSo limits xs (StandsIn y k) → WasOpen limits xs y ⊎ InCourse (run limits xs) y → ClaimFits limits xs y k
  on_entry : OnceSo limits xs (IsEntry k) → ClaimFits limits xs y k

-- what a node names that is no indirection is no main node
pub named_entry : (limits : Bounds) (xs : List Step) → AreBounds limits → (n : Node) → AllHold (IsInUse (run limits xs).heap) (run limits xs).heap (node_wants n) → is_indirection n ≡ false →
    (k : Ref) → Contains (refs_of_node n) k → IsEntry k (run limits xs)
named_entry limits xs ok n wants plain k c =
    (refs_held (IsInUse (run limits xs).heap) (run limits xs).heap (node_wants n) wants k (named_wanted n k c), by (meets AMain (node_at (run limits xs).heap k)) refl)
  where
    by : (b : Bool) → meets AMain (node_at (run limits xs).heap k) ≡ b → meets AMain (node_at (run limits xs).heap k) ≡ false
    by true e = absurd (true≢false (sym (named_by_link limits xs ok n k wants c e).0 ∙ plain))
    by false e = e

-- who makes a root is to make another one, or to offer it
next_fresh : (state : State) (operation : Operation) (l : Line) (main x : Ref) → MakesOver state operation l main → next_ref state.heap ≡ Some x →
    (b : Bool) × (fresh_in b (line_after state operation l) ≡ Some x)
next_fresh state operation l main x (over_found root clear (inl e)) drawn =
    let (b, is) = by operation.call in
    (b, ap (λ y. fresh_in b (line_after state operation y)) e ∙ ap (λ r. fresh_in b (copy_if_made operation (copy.Successor root main) r)) drawn ∙ is)
  where
    by : (call : Call) → (b : Bool) × (fresh_in b (after_successor operation call root main x) ≡ Some x)
    by (Snapshot h) = (true, refl)
    by call = (true, refl)
next_fresh state operation l main x (over_found root clear (inr (successor, e))) drawn =
    (false, ap (λ y. fresh_in false (line_after state operation y)) e ∙ ap (λ r. fresh_in false (copy_if_made operation (copy.Second root main successor) r)) drawn)
next_fresh state operation l main x (over_branch root found clear e) drawn =
    (true, ap (λ y. fresh_in true (line_after state operation y)) e ∙ ap (λ r. fresh_in true (copy_if_made operation (copy.Cleared root found main) r)) drawn)

module _ (limits : Bounds) (ok : AreBounds limits) (xs : List Step) (s : Step) (o : Outcome) (m : Moves (run limits xs) s o (run limits (xs ++ s ∷ [])))
    (h : (y k : Ref) → Has (held_of limits xs) (OfNode y) k → ClaimFits limits xs y k) where
  abbrev state : State
  state = run limits xs

  abbrev after : State
  after = run limits (xs ++ s ∷ [])

  abbrev then : List Step
  then = xs ++ s ∷ []

  abbrev held : Held
  held = held_of limits xs

  -- ---- a claim that stays

  -- what stands on a handle is an indirection
  handle_opens : (y : Ref) → OnHandle after y → WasOpen limits then y
  handle_opens y (handle, root, e, is) =
      let used : IsInUse after.heap y = followed_used after (safe_along limits ok then) (λ id. ⊥) (from_root handle root y e is) in
      let link : is_indirection (node_at after.heap y) ≡ true =
      subst (λ (z : State). is_indirection (node_at z.heap y) ≡ true) (run_ends limits then)
      (subst (λ r. is_indirection (node_at (states_of limits then (last_of limits then)).heap r) ≡ true) is
      (root_link (run_is limits then ok) (last_of limits then) (omega arith) handle root (ap (λ (z : State). root_at z handle) (run_ends limits then) ∙ e))) in (
        generation_at after.heap y,
        so_now limits then (HasGeneration y (generation_at after.heap y)) ((used, link), refl),
        so_now limits then (IsOpenNow (generation_at after.heap y)) (handle, root, e, ap (generation_at after.heap) is),
      )

  still : (y k : Ref) → ClaimFits limits xs y k → (change_of state held s).fate (record { by = OfNode y; on = k }) ≡ Stays (OfNode y) → ClaimFits limits then y k
  still y k (on_entry once) stays = on_entry (so_later limits xs (s ∷ []) (IsEntry k) once)
  still y k (by_link once (inl opened)) stays = by_link (so_later limits xs (s ∷ []) (StandsIn y k) once) (inl (open_later limits xs (s ∷ []) y opened))
  still y k (by_link once (inr course)) stays = by (course_goes limits ok xs s o m y course)
    where
      by : CourseGoes after (change_of state held s) y → ClaimFits limits then y k
      by (goes_on more) = by_link (so_later limits xs (s ∷ []) (StandsIn y k) once) (inr more)
      by (comes_to_stand on) = by_link (so_later limits xs (s ∷ []) (StandsIn y k) once) (inl (handle_opens y on))
      by (lets_go none) = absurd (none k (OfNode y) stays)

  -- ---- one that goes over by a commit

  over_fits : (i f p : Ref) (told : Option ℕ) → (a : Acting state s (act.Decide i f p told)) → verdict state.heap i f p told ≡ Commits → (k : Ref) → Contains (refs_of_node (node_at state.heap f)) k →
      ClaimFits limits then f k
  over_fits i f p told a v k names =
      let claims = acted.wants limits ok xs s o after m refl (act.Decide i f p told) a in
      let owner = pending_owner limits ok xs a.actor a.operation i f p told a.runs a.acts (safe_of claims.1.0) (was_pending limits ok xs s o after m refl i f p told a v) in
      let plain = plain_f limits ok xs owner.k owner.operation owner.runs owner.why _ owner.swaps in
      on_entry (so_later limits xs (s ∷ []) (IsEntry k) (so_now limits xs (IsEntry k)
      (named_entry limits xs ok (node_at state.heap f) (node_claims limits xs ok f (safe_of claims.1.0)) plain k names)))

  -- ---- one of a node that is made

  module _ (node : Node) (action : Action) (a : Acting state s action) (makes_it : MakesNode state node action) (y : Ref) (drawn : next_ref state.heap ≡ Some y) where
    stands_now : standing after.heap y ≡ Some (fresh_slot state.heap node)
    stands_now = acted.made_stands limits ok xs s o after m refl node action a makes_it y drawn

    node_now : node_at after.heap y ≡ node
    node_now = acted.made_node limits ok xs s o after m refl node action a makes_it y drawn

    wants : (action : Action) → Acting state s action → MakesNode state node action → is_indirection node ≡ false → AllHold (IsInUse state.heap) state.heap (node_wants node)
    wants action a a_node plain = (acted.wants limits ok xs s o after m refl (act.Make node) a).1
    wants action a (a_root main is) plain = absurd (true≢false (sym (ap is_indirection is) ∙ plain))

    -- its root is to be offered
    root_course : (main : Ref) → action_of state a.operation ≡ act.MakeRoot main → InCourse after y
    root_course main acts = let (k, place, at_k) = place_of_actor state a.actor a.operation a.runs in by k place (follows state s o after m k a.operation at_k)
      where
        by : (k : ℕ) → a.actor ≡ suc k → Follows state s after k a.operation → InCourse after y
        by k place (rests other at_k) = absurd (other (a.is_step ∙ ap step.Go place))
        by k place (ends answer is e) = let wrong : act.End answer ≡ act.MakeRoot main = sym e ∙ acts in let bad : ⊥ = cc wrong in absurd bad
        by k place (gives_up answer is given at_k) = let wrong : step.GiveUp (suc k) ≡ step.Go a.actor = sym is ∙ a.is_step in let bad : ⊥ = cc wrong in absurd bad
        by k place (steps is goes at_k) =
            let same = mark_only (marks_in state s) (operation_after state a.operation) in
            let over = makes_over state a.operation a.operation.line main ((has_handles_along limits xs).0.own k a.operation (sym (ap (operation_of state) place) ∙ a.runs)) acts in
            let (x, fresh) = next_fresh state a.operation a.operation.line main y over drawn in
            unoffered k (mark_one (marks_in state s) (operation_after state a.operation)) x at_k (ap (λ (q : Operation). fresh_in x q.line) same ∙ fresh)
            (subst (λ ps. Contains ps y)
            (sym (ap (λ (q : Operation). q.private) same ∙ ap (private_after state a.operation.private) acts ∙ ap (with_made a.operation.private) drawn)) (Contains-push a.operation.private y))

    -- the generation of one that is no root is a root's
    link_open : (h : ℕ) (word : Ref) → node ≡ Indirection h word → WasOpened (states_of limits xs) (last_of limits xs) h → WasOpen limits then y
    link_open h word is opened = (
      h,
      so_now limits then (HasGeneration y h) (((fresh_slot state.heap node, stands_now), ap is_indirection node_now ∙ ap is_indirection is), ap generation_of node_now ∙ ap generation_of is),
      so_later limits xs (s ∷ []) (IsOpenNow h) opened,
    )

    known : (action : Action) → (b : Acting state s action) → MakesNode state node action → a.operation ≡ b.operation → (h : ℕ) (word : Ref) → node ≡ Indirection h word →
        WasOpen limits then y ⊎ InCourse after y
    known action b a_node same h word is =
        inl (link_open h word is (link_opened limits ok xs b.actor b.operation b.runs h word (b.acts ∙ ap (λ n. act.Make n) is)))
    known action b (a_root main root_is) same h word is = inr (root_course main (ap (action_of state) same ∙ b.acts))

    made_fits : (k : Ref) → Contains (refs_of_node node) k → ClaimFits limits then y k
    made_fits k names = by (is_indirection node) refl
      where
        by : (b : Bool) → is_indirection node ≡ b → ClaimFits limits then y k
        by false plain =
            on_entry (so_later limits xs (s ∷ []) (IsEntry k) (so_now limits xs (IsEntry k) (named_entry limits xs ok node (wants action a makes_it plain) plain k names)))
        by true link =
            let (h, word, is) = indirection_is node link in
            by_link (so_now limits then (StandsIn y k) (((fresh_slot state.heap node, stands_now), ap is_indirection node_now ∙ link), ap main_of node_now ∙ link_names node k link names))
            (known action a makes_it refl h word is)

  -- ---- one of an indirection at which a main node is swapped in
  module _ (i q f : Ref) (a : Acting state s (act.Publish i q f)) (hit : main_at state.heap i ≡ q) where
    claims : AllHold (IsInUse state.heap) state.heap (action_wants (act.Publish i q f))
    claims = acted.wants limits ok xs s o after m refl (act.Publish i q f) a

    has_then : HasIndirection state i
    has_then = (safe_of claims.0, meets_of claims.0)

    stands_there : StandsIn i f after
    stands_there =
        let between : (r : Ref) → IsInUse state.heap r → IsInUse (with_main state.heap i f) r = used_after_main state.heap i f has_then.0 has_then.1 in
        let heap = ap (λ (z : State). z.heap) (acted_after state s o after m (act.Publish i q f) a tt)
        ∙ ap (λ b. if_changed b (with_prev (with_main state.heap i f) f (prev.Pending q)) state.heap) (eq-eqb (main_at state.heap i) q hit) in
        let used_f = between f (safe_of claims.1.1.0) in
        let node = ap (λ h. node_at h i) heap ∙ node_still (with_main state.heap i f) f (prev.Pending q) used_f i (between i has_then.0) in
        let used_i = subst (λ h. IsInUse h i) (sym heap) (used_after (with_main state.heap i f) f (prev.Pending q) used_f i (between i has_then.0)) in (
          (used_i, ap is_indirection node ∙ link_here state.heap i f has_then.0 has_then.1),
          ap main_of node ∙ main_is state.heap i f has_then.0 has_then.1,
        )

    opened_there : WasOpen limits then i
    opened_there =
        let (why, on) = publishing state a.operation i q f a.acts in
        let has_last : HasIndirection (states_of limits xs (last_of limits xs)) i = subst (λ (z : State). HasIndirection z i) (sym (run_ends limits xs)) has_then in
        let opened = swap_opened (run_is limits xs ok) (last_of limits xs) (omega arith) a.actor a.operation (ap (λ (z : State). operation_of z a.actor) (run_ends limits xs) ∙ a.runs) why
        (swapping i q f) on in
        let g = gen_of (states_of limits xs) (last_of limits xs) i in (
          g,
          so_later limits xs (s ∷ []) (HasGeneration i g)
              (last_of limits xs, omega arith, (has_last, sym (used_generation (run_is limits xs ok) (last_of limits xs) (omega arith) i has_last.0))),
          so_later limits xs (s ∷ []) (IsOpenNow g) opened,
        )

    published_fits : ClaimFits limits then i f
    published_fits = by_link (so_now limits then (StandsIn i f) stands_there) (inl opened_there)

  -- ---- all of them

  pub places_then : (y k : Ref) → Has (held_after (change_of (run limits xs) (held_of limits xs) s) (held_of limits xs)) (OfNode y) k → ClaimFits limits (xs ++ s ∷ []) y k
  places_then y k has = by (OfNode y) refl (came state held (OfNode y) k s has)
    where
      by : (holder : Holder) → holder ≡ OfNode y → Comes state held s (change_of state held s) holder k → ClaimFits limits then y k
      by holder is (stood had stays) =
          still y k (h y k (subst (λ z. Has held z k) is had)) (subst (λ z. (change_of state held s).fate (record { by = z; on = k }) ≡ Stays z) is stays)
      by holder is (moved i f p told a v own at_f had names) =
          let holders : OfNode f ≡ OfNode y = sym at_f ∙ is in
          let same : f ≡ y = cc holders in
          subst (λ z. ClaimFits limits then z k) same (over_fits i f p told a v k names)
      by holder is (made node action x a makes_it drawn at_x names raised) =
          let holders : OfNode x ≡ OfNode y = sym at_x ∙ is in
          let same : x ≡ y = cc holders in
          subst (λ z. ClaimFits limits then z k) same (made_fits node action a makes_it x drawn k names)
      by holder is (published i q f a hit at_i at_f) =
          let holders : OfNode i ≡ OfNode y = sym at_i ∙ is in
          let same : i ≡ y = cc holders in
          subst (λ z. ClaimFits limits then z k) same (subst (λ z. ClaimFits limits then i z) (sym at_f) (published_fits i q f a hit))
      by holder is (frozen offer main n a out_now none_second opens at_h at_root had) = let wrong : OfHandle n ≡ OfNode y = sym at_h ∙ is in let bad : ⊥ = cc wrong in absurd bad
      by holder is (first offer a plain at_h at_root) = let wrong = sym at_h ∙ is in let bad : ⊥ = cc in absurd bad
      by holder is (second offer n a plain opens at_root at_h) = let wrong : OfHandle n ≡ OfNode y = sym at_h ∙ is in let bad : ⊥ = cc wrong in absurd bad

-- ---- after every list of steps

module _ (limits : Bounds) (ok : AreBounds limits) where
  abbrev Fit : List Step → Type 0
  Fit xs = (y k : Ref) → Has (held_of limits xs) (OfNode y) k → ClaimFits limits xs y k

  abbrev root : Ref
  root = ref_to 2 1

  first_claim : ClaimFits limits [] root (ref_to 1 0)
  unfolding run_from
  first_claim =
      let used = root_used limits ok in
      let has : HasIndirection (run limits []) root = (used, ap is_indirection (root_node limits ok)) in
      by_link (so_now limits [] (StandsIn root (ref_to 1 0)) (has, ap main_of (root_node limits ok)))
      (inl (
        generation_at (run limits []).heap root,
        so_now limits [] (HasGeneration root (generation_at (run limits []).heap root)) (has, refl),
        so_now limits [] (IsOpenNow (generation_at (run limits []).heap root)) (0, record { access = Writable; word = Plain root }, root_stands limits ok, refl),
      ))

  first_fits : Fit []
  unfolding held_from
  first_fits y k has =
      first_is limits ok (λ by on. (y : Ref) → by ≡ OfNode y → ClaimFits limits [] y on) (λ z same. let bad : ⊥ = cc same in absurd bad)
      (λ z same. let at_root : root ≡ z = cc same in subst (λ r. ClaimFits limits [] r (ref_to 1 0)) at_root first_claim) (OfNode y) k has y refl

  by_answer : (xs : List Step) (s : Step) → Fit xs → (a : Answer) → next (run limits xs) s ≡ a → MovesIfTaken (run limits xs) s a → (y k : Ref) →
      Has (cond (is_taken_step a) (held_after (change_of (run limits xs) (held_of limits xs) s) (held_of limits xs)) (held_of limits xs)) (OfNode y) k → ClaimFits limits (xs ++ s ∷ []) y k
  by_answer xs s h (Ok done) e mv y k has =
      let is : done.1 ≡ run limits (xs ++ s ∷ []) = sym (run_push (first_state limits) xs s ∙ ap (state_after (run limits xs)) e) in
      places_then limits ok xs s done.0 (subst (λ (z : State). Moves (run limits xs) s done.0 z) is mv) h y k has
  by_answer xs s h (Err refusal) e mv y k has = by (h y k has)
    where
      same : run limits (xs ++ s ∷ []) ≡ run limits xs
      same = run_push (first_state limits) xs s ∙ ap (state_after (run limits xs)) e

      by : ClaimFits limits xs y k → ClaimFits limits (xs ++ s ∷ []) y k
      by (on_entry once) = on_entry (so_later limits xs (s ∷ []) (IsEntry k) once)
      by (by_link once (inl opened)) = by_link (so_later limits xs (s ∷ []) (StandsIn y k) once) (inl (open_later limits xs (s ∷ []) y opened))
      by (by_link once (inr course)) = by_link (so_later limits xs (s ∷ []) (StandsIn y k) once) (inr (subst (λ (z : State). InCourse z y) (sym same) course))

  pub claim_places : (xs : List Step) → Fit xs
  claim_places xs =
      by_last Fit first_fits
      (λ xs s h y k has. by_answer xs s h (next (run limits xs) s) refl (moves (run limits xs) s) y k (subst (λ (held : Held). Has held (OfNode y) k) (held_push limits xs s) has)) xs
