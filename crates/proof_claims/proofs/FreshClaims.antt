-- The claims of a fresh main node: nobody has one on it until it is swapped in, and until it is committed it has none on what it takes over.
use Rattle.std.proofs.Common.{◌≡◌, ◌⊎◌, inl, inr, ℕ, suc, Bool, true, false, List, [], ◌∷◌, ◌++◌, Contains, Option, Some, cond, arith, refl, sym, ap, subst, ◌∙◌}
use Rattle.std.proofs.lemmas.Bool.{cases_eq, true≢false}
use Rattle.std.proofs.lemmas.Option.{same_Some}
use Rattle.proof_claims.specs.Beneath.history.specs.declared.calls.Call.{Call}
use Rattle.proof_claims.specs.Beneath.slot_arena.specs.declared.nodes.Node.{Node}
use Rattle.proof_claims.specs.Beneath.slot_arena.specs.declared.nodes.Prev.TheVariants as prev
use Rattle.proof_claims.specs.Beneath.slot_arena.specs.declared.refs.Ref.{Ref}
use Rattle.proof_claims.specs.Beneath.slot_arena.specs.Heaps.{next_ref, node_at, prev_at, refs_of_node}
use Rattle.proof_claims.specs.Beneath.machine_model.specs.declared.actions.Action.{Action}
use Rattle.proof_claims.specs.Beneath.machine_model.specs.declared.actions.Action.TheVariants as act
use Rattle.proof_claims.specs.Beneath.machine_model.specs.declared.lines.Line.TheVariants as line
use Rattle.proof_claims.specs.Beneath.machine_model.specs.declared.lines.Purpose.{Purpose}
use Rattle.proof_claims.specs.Beneath.machine_model.specs.declared.operations.Operation.{Operation}
use Rattle.proof_claims.specs.Beneath.machine_model.specs.declared.reading.After.{After}
use Rattle.proof_claims.specs.Beneath.machine_model.specs.declared.reading.After.TheVariants.{Goes, Gives}
use Rattle.proof_claims.specs.Beneath.machine_model.specs.declared.reading.Swap.{Swap}
use Rattle.proof_claims.specs.Beneath.machine_model.specs.declared.reading.SwapLine.{SwapLine}
use Rattle.proof_claims.specs.Beneath.machine_model.specs.declared.reading.SwapLine.TheVariants as swap
use Rattle.proof_claims.specs.Beneath.machine_model.specs.declared.steps.Bounds.{Bounds}
use Rattle.proof_claims.specs.Beneath.machine_model.specs.declared.steps.Outcome.{Outcome}
use Rattle.proof_claims.specs.Beneath.machine_model.specs.declared.steps.Step.{Step}
use Rattle.proof_claims.specs.Beneath.machine_model.specs.declared.steps.Step.TheVariants as step
use Rattle.proof_claims.specs.Beneath.machine_model.specs.Acting.{operation_after}
use Rattle.proof_claims.specs.Beneath.machine_model.specs.Calls.{handle_of}
use Rattle.proof_claims.specs.Beneath.machine_model.specs.Machine.{AreBounds, run}
use Rattle.proof_claims.specs.Beneath.machine_model.specs.Moves.{Moves}
use Rattle.proof_claims.specs.Beneath.machine_model.specs.Operations.{action_of, first_line, line_action}
use Rattle.proof_claims.specs.Beneath.machine_model.specs.Reading.{Commits, verdict}
use Rattle.proof_claims.specs.Beneath.machine_model.specs.States.{State, operation_of, word_at}
use Rattle.proof_claims.specs.Beneath.machine_model.specs.Swapping.{after_swap, on_line, swap_after, swapping}
use Rattle.proof_claims.specs.Beneath.machine_model.proofs.Actors.{IsOf, mark_only, marks_in}
use Rattle.proof_claims.specs.Beneath.machine_model.proofs.Fates.{Comes as CameFrom, began, comes, gave, rested, went}
use Rattle.proof_claims.specs.Beneath.proof_fresh.proofs.Publishing.{publishing}
use Rattle.proof_claims.specs.Beneath.proof_garbage.proofs.Fresh.{fresh_decided}
use Rattle.proof_claims.specs.Beneath.proof_garbage.specs.Live.{refs_of_claims}
use Rattle.proof_claims.specs.Beneath.proof_memory.proofs.Claims.Uses.{meets_of}
use Rattle.proof_claims.specs.Beneath.proof_memory.specs.Laws.{IsInUse}
use Rattle.proof_claims.specs.Beneath.proof_memory.specs.Wants.{action_wants, is_indirection}
use Rattle.proof_claims.specs.Changes.{change_of, goal_of, over_at}
use Rattle.proof_claims.specs.Claims.{Has, held_of}
use Rattle.proof_claims.specs.Held.{Held, Holder, OfHandle, OfNode, held_after, is_in, is_owned}
use Rattle.proof_claims.proofs.Acted as acted
use Rattle.proof_claims.proofs.Acted.{made_new, names_not, names_used, used_made, wanted_not, wanted_used}
use Rattle.proof_claims.proofs.ChangeKinds.{Acting, MakesNode, a_node}
use Rattle.proof_claims.proofs.Goals.{goal_in_use, goal_makes}
use Rattle.proof_claims.proofs.InSwap.{its_private, link_i, not_theirs, plain_f, plain_m, stands_nowhere, the_fresh, the_replaced, used_f, used_i, used_m, fresh_no_link}
use Rattle.proof_claims.proofs.IntoSwap.{SwapFrom, built, swap_from, went_on}
use Rattle.proof_claims.proofs.Lists.{found_in}
use Rattle.proof_claims.proofs.Made.{AreMade, IsMade, second_wanted}
use Rattle.proof_claims.proofs.NewClaims.{Comes, OwnComes, built_over, came, first, frozen, made, moved, own_came, published, second, stood, swapped_in, was_own}
use Rattle.proof_claims.proofs.PrevMoves.{PrevMoves, is_committed, now_committed, now_failed, now_pending, prev_moves, same_prev, was_pending}

-- its fresh node isn't committed: it is to be swapped in, or stands over the other one, pending or failed
pub data IsUncommitted (state : State) (w : Swap) : Type 0 where
  publishes : w.line ≡ swap.Publish → IsUncommitted state w
  stands_over : (prev_at state.heap w.fresh ≡ prev.None → ⊥) → IsUncommitted state w

pub record SwapFits (state : State) (held : Held) (w : Swap) : Type 0 where
  pub unclaimed : w.line ≡ swap.Publish → (by : Holder) → Has held by w.fresh → ⊥
  pub apart : IsUncommitted state w → (r : Ref) → Has held (OfNode w.fresh) r → is_owned held w.indirection w.replaced ≡ true → Contains (refs_of_node (node_at state.heap w.replaced)) r → ⊥

abbrev pub SwapsFit : State → Held → Type 0
SwapsFit state held = (k : ℕ) (operation : Operation) (why : Purpose) (w : Swap) → operation_of state (suc k) ≡ Some operation → operation.line ≡ line.Swap why w → SwapFits state held w

-- ---- lines

-- nobody begins in a SWAP
pub no_first_swap : (call : Call) (why : Purpose) (w : Swap) → first_line call ≡ line.Swap why w → ⊥
no_first_swap call why w e = grind arith

-- it is the same SWAP, past its first line
pub record GoesOnIn (was w : Swap) : Type 0 where
  pub indirection : w.indirection ≡ was.indirection
  pub replaced : w.replaced ≡ was.replaced
  pub fresh : w.fresh ≡ was.fresh
  pub past : w.line ≡ swap.Publish → ⊥

goes_same : (a b : Swap) → ◌≡◌ {A = After Swap Bool} (Goes a) (Goes b) → a ≡ b
goes_same a b e = cc e

pub goes_on_in : (state : State) (operation : Operation) (was w : Swap) → swap_after state.heap operation.access (word_at state (handle_of operation.call)) was ≡ Goes w → GoesOnIn was w
goes_on_in state operation was w e = by (after_swap state.heap operation.access (word_at state (handle_of operation.call)) was was.line) refl e
  where
    past_first : (l : SwapLine) (a : SwapLine) → after_swap state.heap operation.access (word_at state (handle_of operation.call)) was l ≡ Goes a → a ≡ swap.Publish → ⊥
    past_first l a is publishes_now = grind arith

    by : (a : After SwapLine Bool) → after_swap state.heap operation.access (word_at state (handle_of operation.call)) was was.line ≡ a → on_line was a ≡ Goes w → GoesOnIn was w
    by (Goes l) is e =
        let it = goes_same (record was { line = l }) w e in
        record {
          indirection = ap (λ (q : Swap). q.indirection) (sym it);
          replaced = ap (λ (q : Swap). q.replaced) (sym it);
          fresh = ap (λ (q : Swap). q.fresh) (sym it);
          past = λ first. past_first was.line l is (ap (λ (q : Swap). q.line) it ∙ first);
        }
    by (Gives done) is e = let bad : ⊥ = cc e in absurd bad

-- ---- a step

module _ (limits : Bounds) (ok : AreBounds limits) (xs : List Step) (s : Step) (o : Outcome) (m : Moves (run limits xs) s o (run limits (xs ++ s ∷ []))) (h : AreMade (run limits xs)
    (held_of limits xs))
    (fits : SwapsFit (run limits xs) (held_of limits xs)) where
  abbrev state : State
  state = run limits xs

  abbrev after : State
  after = run limits (xs ++ s ∷ [])

  abbrev held : Held
  held = held_of limits xs

  abbrev later : Held
  later = held_after (change_of state held s) held

  -- two that act are one
  pub one_acts : (x y : Action) (a : Acting state s x) (b : Acting state s y) → x ≡ y
  one_acts x y a b =
      let step_is : step.Go a.actor ≡ step.Go b.actor = sym a.is_step ∙ b.is_step in
      let place : a.actor ≡ b.actor = cc step_is in
      let one : a.operation ≡ b.operation = same_Some a.operation b.operation (sym a.runs ∙ ap (operation_of state) place ∙ b.runs) in
      sym a.acts ∙ ap (action_of state) one ∙ b.acts

  -- who acts isn't one that rests
  apart_from : (k : ℕ) → (IsOf (suc k) s → ⊥) → (action : Action) (a : Acting state s action) → suc k ≡ a.actor → ⊥
  apart_from k other action a same = other (subst (λ n. IsOf n s) (sym same) (subst (IsOf a.actor) (sym a.is_step) refl))

  -- what is made isn't in use before
  new_unused : (node : Node) (action : Action) (a : Acting state s action) → MakesNode state node action → (x : Ref) → next_ref state.heap ≡ Some x → IsInUse state.heap x → ⊥
  new_unused node action a makes_it x drawn used = made_new limits ok xs s o after m refl node action a makes_it x drawn (used_made limits ok xs s o after m refl x used)

  -- ---- an operation in a SWAP, before the step

  module _ (k : ℕ) (was : Operation) (runs : operation_of state (suc k) ≡ Some was) (why : Purpose) (w : Swap) (on : was.line ≡ line.Swap why w) where
    -- whether the replaced node is the indirection's own stays
    pub own_before : is_owned later w.indirection w.replaced ≡ true → is_owned held w.indirection w.replaced ≡ true
    own_before e = by (own_came state held s w.indirection w.replaced e)
      where
        by : OwnComes state held s w.indirection w.replaced → is_owned held w.indirection w.replaced ≡ true
        by (was_own is) = is
        by (built_over node action a makes_it drawn) = absurd (new_unused node action a makes_it w.indirection drawn (used_i limits ok xs k was runs why w on))
        by (swapped_in q a hit) = elim (cases_eq (suc k) a.actor) [
          | inl same ↦
              let (because, line_is) = publishing state a.operation w.indirection q w.replaced a.acts in
              let one : was ≡ a.operation = same_Some was a.operation (sym runs ∙ ap (operation_of state) same ∙ a.runs) in
              let both : line.Swap why w ≡ line.Swap because (swapping w.indirection q w.replaced) = sym on ∙ ap (λ (x : Operation). x.line) one ∙ line_is in
              let swaps : w ≡ swapping w.indirection q w.replaced = cc both in
              let is_q : w.replaced ≡ q = ap (λ (x : Swap). x.replaced) swaps in
              absurd (stands_nowhere limits ok xs a.actor a.operation a.runs because w.indirection q w.replaced line_is w.indirection (used_i limits ok xs k was runs why w on)
              (link_i limits ok xs k was runs why w on) (hit ∙ sym is_q))
          | inr other ↦
              let (because, line_is) = publishing state a.operation w.indirection q w.replaced a.acts in
              absurd (not_theirs limits ok xs k was runs why w on a.actor a.operation a.runs other w.replaced (the_replaced refl)
              (its_private limits ok xs a.actor a.operation a.runs because w.indirection q w.replaced line_is))
        ]

    -- what holds the fresh node's claims, where they are another's on what it is to take over
    module _ (w' : Swap) (goes_on : (w' ≡ w) ⊎ GoesOnIn w w') (found : Operation) (why' : Purpose) (runs_now : operation_of after (suc k) ≡ Some found) (on_now : found.line ≡ line.Swap why' w') where
      same_i : w'.indirection ≡ w.indirection
      same_i = elim goes_on [ inl same ↦ ap (λ (q : Swap). q.indirection) same | inr past ↦ past.indirection ]

      same_m : w'.replaced ≡ w.replaced
      same_m = elim goes_on [ inl same ↦ ap (λ (q : Swap). q.replaced) same | inr past ↦ past.replaced ]

      same_f : w'.fresh ≡ w.fresh
      same_f = elim goes_on [ inl same ↦ ap (λ (q : Swap). q.fresh) same | inr past ↦ past.fresh ]

      used_f_then : IsInUse after.heap w.fresh
      used_f_then = subst (IsInUse after.heap) same_f (used_f limits ok (xs ++ s ∷ []) k found runs_now why' w' on_now)

      used_m_then : IsInUse after.heap w.replaced
      used_m_then = subst (IsInUse after.heap) same_m (used_m limits ok (xs ++ s ∷ []) k found runs_now why' w' on_now)

      -- the node that is replaced is as before
      pub node_m : node_at after.heap w'.replaced ≡ node_at state.heap w.replaced
      node_m =
          ap (node_at after.heap) same_m
          ∙ (acted.still limits ok xs s o after m refl w.replaced (used_made limits ok xs s o after m refl w.replaced (used_m limits ok xs k was runs why w on)) used_m_then).node
          (plain_m limits ok xs k was runs why w on)

      pub node_f : node_at after.heap w'.fresh ≡ node_at state.heap w.fresh
      node_f =
          ap (node_at after.heap) same_f
          ∙ (acted.still limits ok xs s o after m refl w.fresh (used_made limits ok xs s o after m refl w.fresh (used_f limits ok xs k was runs why w on)) used_f_then).node
          (plain_f limits ok xs k was runs why w on)

      pub prev_was : IsUncommitted after w' → IsUncommitted state w
      prev_was (publishes first_line') = elim goes_on [
        | inl same ↦ publishes (ap (λ (q : Swap). q.line) (sym same) ∙ first_line')
        | inr past ↦ absurd (past.past first_line')
      ]
      prev_was (stands_over over) =
          by (prev_moves limits ok xs s o after m refl w.fresh (used_f limits ok xs k was runs why w on) used_f_then) (λ none. over (ap (prev_at after.heap) same_f ∙ none))
        where
          by : PrevMoves state s after w.fresh → (prev_at after.heap w.fresh ≡ prev.None → ⊥) → IsUncommitted state w
          by (same_prev is) apart = stands_over (λ none. apart (is ∙ none))
          by (now_committed i p told a v pends none) apart = absurd (apart none)
          by (now_failed i p told a v pends failed) apart = stands_over (λ none. let wrong : prev.None ≡ prev.Pending p = sym none ∙ pends in let bad : ⊥ = cc wrong in bad)
          by (now_pending i q a hit pends) apart =
              let (because, line_is) = publishing state a.operation i q w.fresh a.acts in
              elim (cases_eq (suc k) a.actor) [
                | inl same ↦
                    let one : was ≡ a.operation = same_Some was a.operation (sym runs ∙ ap (operation_of state) same ∙ a.runs) in
                    let both : line.Swap why w ≡ line.Swap because (swapping i q w.fresh) = sym on ∙ ap (λ (x : Operation). x.line) one ∙ line_is in
                    let swaps : w ≡ swapping i q w.fresh = cc both in
                    publishes (ap (λ (x : Swap). x.line) swaps)
                | inr other ↦
                    absurd (not_theirs limits ok xs k was runs why w on a.actor a.operation a.runs other w.fresh (the_fresh refl)
                    (its_private limits ok xs a.actor a.operation a.runs because i q w.fresh line_is))
              ]

      own_then : is_owned later w'.indirection w'.replaced ≡ true → is_owned held w.indirection w.replaced ≡ true
      own_then e = own_before (subst (λ x. is_owned later w.indirection x ≡ true) same_m (subst (λ x. is_owned later x w'.replaced ≡ true) same_i e))

      -- nobody else decides a node that is to be swapped in
      not_decided : IsUncommitted after w' → (i p : Ref) (told : Option ℕ) → (a : Acting state s (act.Decide i w.fresh p told)) → verdict state.heap i w.fresh p told ≡ Commits → ⊥
      not_decided (stands_over over) i p told a v = over (ap (prev_at after.heap) same_f ∙ is_committed limits ok xs s o after m refl i w.fresh p told a v)
      not_decided (publishes first_line') i p told a v =
          let pends = was_pending limits ok xs s o after m refl i w.fresh p told a v in
          let at_first : w.line ≡ swap.Publish = elim goes_on [ inl same ↦ ap (λ (q : Swap). q.line) (sym same) ∙ first_line' | inr past ↦ absurd (past.past first_line') ] in
          let on_first : was.line ≡ line.Swap why (swapping w.indirection w.replaced w.fresh) = on ∙ ap (λ l. line.Swap why (record w { line = l })) at_first in
          let none = fresh_decided limits xs ok (suc k) was w.indirection w.replaced w.fresh why runs on_first (used_f limits ok xs k was runs why w on) in
          let wrong : prev.None ≡ prev.Pending p = sym none ∙ pends in
          let bad : ⊥ = cc wrong in bad

      pub apart_still : IsUncommitted after w' → (r : Ref) → Has later (OfNode w'.fresh) r → is_owned later w'.indirection w'.replaced ≡ true →
          Contains (refs_of_node (node_at after.heap w'.replaced)) r → ⊥
      apart_still uncommitted r has own names =
          by (OfNode w.fresh) refl (came state held (OfNode w.fresh) r s (subst (λ x. Has later (OfNode x) r) same_f has))
        where
          by : (holder : Holder) → holder ≡ OfNode w.fresh → Comes state held s (change_of state held s) holder r → ⊥
          by holder is (stood had stays) =
              (fits k was why w runs on).apart (prev_was uncommitted) r (subst (λ x. Has held x r) is had) (own_then own) (subst (λ n. Contains (refs_of_node n) r) node_m names)
          by holder is (moved i f p told a commits owns at_f had named) =
              let same : f ≡ w.fresh = cc (sym at_f ∙ is) in
              not_decided uncommitted i p told (subst (λ x. Acting state s (act.Decide i x p told)) same a) (subst (λ x. verdict state.heap i x p told ≡ Commits) same commits)
          by holder is (made node action x a makes_it drawn at_x named raised) =
              let same : x ≡ w.fresh = cc (sym at_x ∙ is) in
              new_unused node action a makes_it w.fresh (drawn ∙ ap Some same) (used_f limits ok xs k was runs why w on)
          by holder is (published i q f a hit at_i at) =
              let same : i ≡ w.fresh = cc (sym at_i ∙ is) in
              let link = meets_of (acted.wants limits ok xs s o after m refl (act.Publish i q f) a).0 in
              true≢false (sym link ∙ ap (λ x. is_indirection (node_at state.heap x)) same ∙ plain_f limits ok xs k was runs why w on)
          by holder is (frozen offer main n a out second' opens at_h at had) = let bad : ⊥ = cc (sym at_h ∙ is) in bad
          by holder is (first offer a stands at_h at) = let bad : ⊥ = cc (sym at_h ∙ is) in bad
          by holder is (second offer n a stands opens at at_h) = let bad : ⊥ = cc (sym at_h ∙ is) in bad

    -- nobody comes to have a claim on a node that is to be swapped in by another's step
    pub unclaimed_still : w.line ≡ swap.Publish → (IsOf (suc k) s → ⊥) → (by : Holder) → Has later by w.fresh → ⊥
    unclaimed_still at_first other by has = from by (came state held by w.fresh s has)
      where
        before : (by : Holder) → Has held by w.fresh → ⊥
        before by had = (fits k was why w runs on).unclaimed at_first by had

        own_f : Contains was.private w.fresh
        own_f = its_private limits ok xs (suc k) was runs why w.indirection w.replaced w.fresh (on ∙ ap (λ l. line.Swap why (record w { line = l })) at_first)

        unwanted : (action : Action) (a : Acting state s action) → Contains (refs_of_claims (action_wants action)) w.fresh → ⊥
        unwanted action a c = wanted_not limits ok xs s o after m refl action a (suc k) was runs (apart_from k other action a) w.fresh c own_f

        from : (by : Holder) → Comes state held s (change_of state held s) by w.fresh → ⊥
        from by (stood had stays) = before by had
        from by (moved i f p told a commits owns at_f had named) = before (OfNode p) had
        from by (frozen offer main n a out second' opens at_h at had) = before _ (subst (λ r. Has held (OfHandle (handle_of a.operation.call)) r) (sym at) had)
        from by (made node action x a makes_it drawn at_x named raised) =
            names_not limits ok xs s o after m refl node action a makes_it x drawn (suc k) was runs (apart_from k other action a) w.fresh named own_f
        from by (published i q f a hit at_i at) = unwanted (act.Publish i q f) a (2, omega arith, sym at)
        from by (first offer a stands at_h at) = unwanted (act.Offer offer) a (2, omega arith, sym at)
        from by (second offer n a stands opens at at_h) = unwanted (act.Offer offer) a (second_wanted offer w.fresh at)

  -- ---- a fresh node that is made now

  module _ (k : ℕ) (was found : Operation) (is_step : s ≡ step.Go (suc k)) (runs : operation_of state (suc k) ≡ Some was) (runs_now : operation_of after (suc k) ≡ Some found) (why : Purpose)
      (w : Swap)
      (on : found.line ≡ line.Swap why w) (goal : goal_of was.line ≡ Some (w.indirection, w.replaced)) (drawn : next_ref state.heap ≡ Some w.fresh) where
    its_node : (n : Node) × (line_action state was was.line ≡ act.Make n)
    its_node = goal_makes state was was.line (w.indirection, w.replaced) goal

    makes_it : Acting state s (act.Make its_node.0)
    makes_it = record { actor = suc k; operation = was; is_step = is_step; runs = runs; acts = its_node.1 }

    new : IsInUse state.heap w.fresh → ⊥
    new used = new_unused its_node.0 (act.Make its_node.0) makes_it a_node w.fresh drawn used

    not_made : IsMade state w.fresh → ⊥
    not_made then = made_new limits ok xs s o after m refl its_node.0 (act.Make its_node.0) makes_it a_node w.fresh drawn then

    pub new_unclaimed : (by : Holder) → Has later by w.fresh → ⊥
    new_unclaimed by has = from by (came state held by w.fresh s has)
      where
        from : (by : Holder) → Comes state held s (change_of state held s) by w.fresh → ⊥
        from by (stood had stays) = not_made (h.made by w.fresh had)
        from by (moved i f p told a commits owns at_f had named) = not_made (h.made (OfNode p) w.fresh had)
        from by (frozen offer main n a out second' opens at_h at had) = not_made (subst (IsMade state) (sym at) (h.made _ offer.root had))
        from by (made node action x a makes drawn_x at_x named raised) = new (names_used limits ok xs s o after m refl node action a makes x drawn_x w.fresh named)
        from by (published i q f a hit at_i at) = new (wanted_used limits ok xs s o after m refl (act.Publish i q f) a w.fresh (2, omega arith, sym at))
        from by (first offer a stands at_h at) = new (wanted_used limits ok xs s o after m refl (act.Offer offer) a w.fresh (2, omega arith, sym at))
        from by (second offer n a stands opens at at_h) = new (wanted_used limits ok xs s o after m refl (act.Offer offer) a w.fresh (second_wanted offer w.fresh at))

    -- what is own then was own before
    own_was : is_owned later w.indirection w.replaced ≡ true → is_owned held w.indirection w.replaced ≡ true
    own_was e = by (own_came state held s w.indirection w.replaced e)
      where
        by : OwnComes state held s w.indirection w.replaced → is_owned held w.indirection w.replaced ≡ true
        by (was_own is) = is
        by (swapped_in q a hit) = let bad : ⊥ = cc (one_acts _ _ a makes_it) in absurd bad
        by (built_over node action a makes drawn_i) =
            let same : w.indirection ≡ w.fresh = same_Some _ _ (sym drawn_i ∙ drawn) in
            absurd (fresh_no_link limits ok (xs ++ s ∷ []) k found runs_now why w on (sym same))

    used_goal : IsInUse state.heap w.replaced
    used_goal = goal_in_use limits ok xs (suc k) was runs (w.indirection, w.replaced) goal

    node_goal : node_at after.heap w.replaced ≡ node_at state.heap w.replaced
    node_goal =
        let then = acted.still limits ok xs s o after m refl w.replaced (used_made limits ok xs s o after m refl w.replaced used_goal) (used_m limits ok (xs ++ s ∷ []) k found runs_now why w on) in
        then.node (sym then.link ∙ plain_m limits ok (xs ++ s ∷ []) k found runs_now why w on)

    pub new_apart : (r : Ref) → Has later (OfNode w.fresh) r → is_owned later w.indirection w.replaced ≡ true → Contains (refs_of_node (node_at after.heap w.replaced)) r → ⊥
    new_apart r has own names = by (OfNode w.fresh) refl (came state held (OfNode w.fresh) r s has)
      where
        over_is : (goal' : Option (Ref × Ref)) → goal' ≡ Some (w.indirection, w.replaced) → is_in (over_at state held goal') r ≡ false → ⊥
        over_is goal' e raised =
            let there : is_in (refs_of_node (node_at state.heap w.replaced)) r ≡ true = found_in _ r (subst (λ n. Contains (refs_of_node n) r) node_goal names) in
            true≢false (sym there ∙ ap (λ b. is_in (cond b (refs_of_node (node_at state.heap w.replaced)) []) r) (sym (own_was own)) ∙ ap (λ g. is_in (over_at state held g) r) (sym e) ∙ raised)

        by : (holder : Holder) → holder ≡ OfNode w.fresh → Comes state held s (change_of state held s) holder r → ⊥
        by holder is (stood had stays) = not_made (h.holders (OfNode w.fresh) r (subst (λ x. Has held x r) is had))
        by holder is (moved i f p told a commits owns at_f had named) =
            let same : f ≡ w.fresh = cc (sym at_f ∙ is) in
            new (subst (IsInUse state.heap) same (wanted_used limits ok xs s o after m refl (act.Decide i f p told) a f (1, omega arith, refl)))
        by holder is (made node action x a makes drawn_x at_x named raised) =
            let step_is : step.Go a.actor ≡ step.Go (suc k) = sym a.is_step ∙ is_step in
            let place : a.actor ≡ suc k = cc step_is in
            let one : a.operation ≡ was = same_Some a.operation was (sym a.runs ∙ ap (operation_of state) place ∙ runs) in
            over_is (goal_of a.operation.line) (ap (λ (q : Operation). goal_of q.line) one ∙ goal) raised
        by holder is (published i q f a hit at_i at) =
            let same : i ≡ w.fresh = cc (sym at_i ∙ is) in
            new (subst (IsInUse state.heap) same (wanted_used limits ok xs s o after m refl (act.Publish i q f) a i (0, omega arith, refl)))
        by holder is (frozen offer main n a out second' opens at_h at had) = let bad : ⊥ = cc (sym at_h ∙ is) in bad
        by holder is (first offer a stands at_h at) = let bad : ⊥ = cc (sym at_h ∙ is) in bad
        by holder is (second offer n a stands opens at at_h) = let bad : ⊥ = cc (sym at_h ∙ is) in bad

  -- ---- all of them

  by_came : (k : ℕ) (found : Operation) (why : Purpose) (w : Swap) → operation_of after (suc k) ≡ Some found → found.line ≡ line.Swap why w → CameFrom state s k found → SwapFits after later w
  by_came k found why w runs_now on (began call number is denial it) = absurd (no_first_swap call why w (ap (λ (q : Operation). q.line) (sym it) ∙ on))
  by_came k found why w runs_now on (gave was answer is at_k may it) = let bad : ⊥ = cc (ap (λ (q : Operation). q.line) (sym it) ∙ on) in absurd bad
  by_came k found why w runs_now on (rested was at_k it other) =
      let line_was : was.line ≡ line.Swap why w = ap (λ (q : Operation). q.line) (sym (it ∙ mark_only (marks_in state s) was)) ∙ on in
      record {
        unclaimed = λ at_first by has. unclaimed_still k was at_k why w line_was at_first other by has;
        apart = apart_still k was at_k why w line_was w (inl refl) found why runs_now on;
      }
  by_came k found why w runs_now on (went was is at_k g it) =
      by (swap_from state was why w was.line (ap (λ (q : Operation). q.line) (sym (it ∙ mark_only (marks_in state s) (operation_after state was))) ∙ on))
    where
      by : SwapFrom state was was.line w → SwapFits after later w
      by (built goal drawn is_first) = record {
        unclaimed = λ at_first by has. new_unclaimed k was found is at_k runs_now why w on goal drawn by has;
        apart = λ uncommitted r has own names. new_apart k was found is at_k runs_now why w on goal drawn r has own names;
      }
      by (went_on because before line_was goes) =
          let past = goes_on_in state was before w goes in
          record {
            unclaimed = λ at_first by has. absurd (past.past at_first);
            apart = apart_still k was at_k because before line_was w (inr past) found why runs_now on;
          }

  pub swaps_after : SwapsFit after later
  swaps_after k found why w runs_now on = by_came k found why w runs_now on (comes state s o after m k found runs_now)
