-- The entries of a main node were made before it, or at first.
use Rattle.std.proofs.Common.{◌≡◌, ◌≤◌, ◌++◌, ◌∷◌, [], inl, inr, ℕ, false, List, Contains, Ok, Err, Some, refl, sym, ap, subst, ◌∙◌, arith}
use Rattle.std.proofs.lemmas.Bool.{true≢false}
use Rattle.std.proofs.lemmas.List.Elements.{All-contains, Contains-append_left}
use Rattle.machine_model.specs.Beneath.slot_arena.specs.declared.nodes.Node.{Node}
use Rattle.machine_model.specs.Beneath.slot_arena.specs.declared.nodes.Node.TheVariants.{Indirection, Branch, Single, Tomb, List as Listed}
use Rattle.machine_model.specs.Beneath.slot_arena.specs.declared.refs.Ref.{Ref}
use Rattle.machine_model.specs.Beneath.slot_arena.specs.Heaps.{entries_of, node_at, refs_of_node, refs_of_prev, refs_of_slot}
use Rattle.machine_model.specs.Beneath.slot_arena.specs.Refs.{birth_of}
use Rattle.machine_model.specs.declared.steps.Bounds.{Bounds}
use Rattle.machine_model.specs.declared.steps.Outcome.{Outcome}
use Rattle.machine_model.specs.declared.steps.Step.{Step}
use Rattle.machine_model.specs.Machine.{Answer, AreBounds, next, run, state_after}
use Rattle.machine_model.specs.Moves.{Moves, MovesIfTaken}
use Rattle.machine_model.specs.States.{State, first_state}
use Rattle.machine_model.proofs.Along.{by_last, run_push}
use Rattle.machine_model.proofs.Grown.{node_standing}
use Rattle.machine_model.proofs.Moves.{moves}
use Rattle.proof_claims.proofs.Acted as acted
use Rattle.proof_memory.specs.Laws.{IsInUse}
use Rattle.proof_memory.specs.Wants.{is_indirection}
use Rattle.proof_memory.proofs.Safety.AtEachTime.{safe_along}
use Rattle.proof_memory.proofs.Safety.States.{IsSafe, stood_or_made}
use Rattle.proof_memory.proofs.Safety.Standing.{none_contained, slot_refs}
use Rattle.proof_memory.proofs.Safety.Steps.{step_effect}

-- only a main node has any
no_link : (n : Node) (k : Ref) → Contains (entries_of n) k → is_indirection n ≡ false
no_link (Indirection generation main) k c = none_contained k c
no_link (Branch bitmap entries) k c = refl
no_link (Single key value) k c = refl
no_link (Tomb single) k c = refl
no_link (Listed singles) k c = refl

named : (n : Node) (k : Ref) → Contains (entries_of n) k → Contains (refs_of_node n) k
named (Indirection generation main) k c = absurd (true≢false (no_link (Indirection generation main) k c))
named (Branch bitmap entries) k c = c
named (Single key value) k c = c
named (Tomb single) k c = c
named (Listed singles) k c = c

module _ (limits : Bounds) (ok : AreBounds limits) where
  -- so many nodes there are at first
  abbrev pub first_births : ℕ
  first_births = (run limits []).heap.births

  abbrev Older : State → Type 0
  Older state = (q k : Ref) → IsInUse state.heap q → Contains (entries_of (node_at state.heap q)) k → (n : ℕ) → birth_of q ≤ n → first_births ≤ n → birth_of k ≤ n

  -- what is named was made
  names_made : (xs : List Step) (q k : Ref) → IsInUse (run limits xs).heap q → Contains (entries_of (node_at (run limits xs).heap q)) k → birth_of k ≤ (run limits xs).heap.births
  names_made xs q k (now, stands) c =
      let state = run limits xs in
      let safe = safe_along limits ok xs in
      let its = Contains-append_left (refs_of_node now.node) (refs_of_prev now.prev) k (named now.node k (subst (λ n. Contains (entries_of n) k) (node_standing state.heap q now stands) c)) in
      let used = All-contains (IsInUse state.heap) (refs_of_slot (Some now)) k (slot_refs state safe q now stands) its in
      safe.births k used.0 used.1

  first_older : Older (run limits [])
  first_older q k used c n high most = let made = names_made [] q k used c in omega (arith, made, most)

  module _ (xs : List Step) (s : Step) (o : Outcome) (m : Moves (run limits xs) s o (run limits (xs ++ s ∷ []))) (h : Older (run limits xs)) where
    abbrev state : State
    state = run limits xs

    abbrev after : State
    after = run limits (xs ++ s ∷ [])

    safe : IsSafe state
    safe = safe_along limits ok xs

    older_then : Older after
    older_then q k (now, stands) c n high most = elim (stood_or_made _ _ _ _ _ _ ((step_effect state safe s o after m).3) q now stands) [
      | inl (was, found) ↦
          (let there = acted.still limits ok xs s o after m refl q (safe.births q was found) (now, stands) in
          let no : is_indirection (node_at state.heap q) ≡ false = sym there.link ∙ no_link (node_at after.heap q) k c in
          h q k (was, found) (subst (λ node. Contains (entries_of node) k) (there.node no) c) n high most)
      | inr (birth, births, none) ↦ (let made = names_made (xs ++ s ∷ []) q k (now, stands) c in omega (arith, made, birth, births, high))
    ]

  grown_then : (xs : List Step) (s : Step) → first_births ≤ (run limits xs).heap.births → (a : Answer) → next (run limits xs) s ≡ a → MovesIfTaken (run limits xs) s a →
      first_births ≤ (run limits (xs ++ s ∷ [])).heap.births
  grown_then xs s h (Ok done) e m =
      let is : done.1 ≡ run limits (xs ++ s ∷ []) = sym (run_push (first_state limits) xs s ∙ ap (state_after (run limits xs)) e) in
      let more = acted.births_more limits ok xs s done.0 (run limits (xs ++ s ∷ [])) (subst (λ (z : State). Moves (run limits xs) s done.0 z) is m) refl in
      omega (arith, h, more)
  grown_then xs s h (Err refusal) e m = subst (λ (z : State). first_births ≤ z.heap.births) (sym (run_push (first_state limits) xs s ∙ ap (state_after (run limits xs)) e)) h

  -- there never are less
  pub grown : (xs : List Step) → first_births ≤ (run limits xs).heap.births
  grown = by_last (λ xs. first_births ≤ (run limits xs).heap.births) (omega arith) (λ xs s h. grown_then xs s h (next (run limits xs) s) refl (moves (run limits xs) s))

  by_answer : (xs : List Step) (s : Step) → Older (run limits xs) → (a : Answer) → next (run limits xs) s ≡ a → MovesIfTaken (run limits xs) s a → Older (run limits (xs ++ s ∷ []))
  by_answer xs s h (Ok done) e m =
      let is : done.1 ≡ run limits (xs ++ s ∷ []) = sym (run_push (first_state limits) xs s ∙ ap (state_after (run limits xs)) e) in
      older_then xs s done.0 (subst (λ (z : State). Moves (run limits xs) s done.0 z) is m) h
  by_answer xs s h (Err refusal) e m = subst Older (sym (run_push (first_state limits) xs s ∙ ap (state_after (run limits xs)) e)) h

  pub older : (xs : List Step) → Older (run limits xs)
  older = by_last (λ xs. Older (run limits xs)) first_older (λ xs s h. by_answer xs s h (next (run limits xs) s) refl (moves (run limits xs) s))
