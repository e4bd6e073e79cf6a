-- What stands in the slot of a root that is still to be offered or carried out: one main node, the expected one or one with nothing in it.
use Rattle.std.proofs.Common.{◌++◌, length, is_some, ◌≤◌, ◌≡◌, ℕ, suc, ◌∷◌, [], List, Bool, true, false, Contains, Option, Some, None, get_or, refl, sym, ap, ◌∙◌, subst, arith, ◌⊎◌, inl, inr}
use Rattle.std.proofs.lemmas.Bool.{cases_eq, false≢true}
use Rattle.std.proofs.lemmas.List.{length-append}
use Rattle.std.proofs.lemmas.List.Elements.{Contains-get_or, Contains-append_left, Contains-append_right}
use Rattle.std.proofs.lemmas.Option.{none-some, same_Some}
use Rattle.proof_followed.specs.Beneath.slot_arena.specs.declared.refs.Ref.{Ref}
use Rattle.proof_followed.specs.Beneath.slot_arena.specs.declared.nodes.Node.{Node}
use Rattle.proof_followed.specs.Beneath.slot_arena.specs.declared.nodes.Node.TheVariants.{Indirection, Branch, Single, Tomb, List as Listed}
use Rattle.proof_followed.specs.Beneath.slot_arena.specs.declared.nodes.Prev.TheVariants as prev
use Rattle.proof_followed.specs.Beneath.slot_arena.specs.Arenas.{is_indirection}
use Rattle.proof_followed.specs.Beneath.slot_arena.specs.Heaps.{empty_branch, main_at, main_of, stored, refs_of_node, refs_of_option, refs_of_prev, refs_of_slot}
use Rattle.proof_followed.specs.Beneath.machine_model.specs.declared.copying.CopyLine.TheVariants as copy
use Rattle.proof_followed.specs.Beneath.machine_model.specs.declared.lines.Line.{Line}
use Rattle.proof_followed.specs.Beneath.machine_model.specs.declared.lines.Line.TheVariants as line
use Rattle.proof_followed.specs.Beneath.machine_model.specs.declared.operations.Operation.{Operation}
use Rattle.proof_followed.specs.Beneath.machine_model.specs.declared.roots.Descriptor.{Descriptor}
use Rattle.proof_followed.specs.Beneath.machine_model.specs.declared.steps.Bounds.{Bounds}
use Rattle.proof_followed.specs.Beneath.machine_model.specs.declared.steps.Step.{Step}
use Rattle.proof_followed.specs.Beneath.machine_model.specs.Grown.{grown, main_word, node_under, prev_word, standing}
use Rattle.proof_followed.specs.Beneath.machine_model.specs.Machine.{AreBounds, run, taken_from, taken_steps}
use Rattle.proof_followed.specs.Beneath.machine_model.specs.States.{State, first_state}
use Rattle.proof_followed.specs.Beneath.machine_model.specs.Times.{IsRun, last_of, states_of}
use Rattle.proof_followed.specs.Beneath.machine_model.proofs.Grown.{grown_in_use, standing_parts, node_standing, prev_standing}
use Rattle.proof_followed.specs.Beneath.machine_model.proofs.Times.{run_is, run_ends}
use Rattle.proof_followed.specs.Beneath.proof_memory.specs.Laws.{IsInUse}
use Rattle.proof_followed.specs.Beneath.proof_memory.proofs.Safety.AtEachTime.{safe_along}
use Rattle.proof_followed.specs.Beneath.proof_memory.proofs.Safety.Standing.{in_any_slot}
use Rattle.proof_followed.specs.Beneath.proof_generations.specs.Running.{Runs}
use Rattle.proof_followed.specs.Beneath.proof_generations.proofs.Falling.Counted.{fresh_used}
use Rattle.proof_followed.specs.Beneath.proof_generations.proofs.Falling.FreshRoots.{fresh_stands}
use Rattle.proof_followed.specs.Beneath.proof_generations.proofs.Roots.Kept.{fresh_in, fresh_of}
use Rattle.proof_garbage.proofs.Claims.{none_in, one_in, both_in}
use Rattle.proof_garbage.proofs.Fresh.{node_word_of, prev_word_of}
use Rattle.proof_order.proofs.Openings.Branches.{IsCleared}
use Rattle.proof_order.proofs.Openings.Copy.{copied}
use Rattle.proof_shape.proofs.Sites.Fixed.{states_of-append, taken-append}
use Rattle.proof_followed.specs.Grace.{NobodyBrings, made_for_offer, expected_by}
use Rattle.proof_followed.proofs.Apart.{IsApart, apart_later}
use Rattle.proof_followed.proofs.FreshRoots.{fresh_decided, fresh_shows}
use Rattle.proof_followed.proofs.Links.{links_plain}

-- an indirection names its main node alone
link_names : (node : Node) → is_indirection node ≡ true → (y : Ref) → Contains (refs_of_node node) y → y ≡ main_of node
link_names (Indirection generation main) e y c = one_in (λ x. x ≡ main) main refl y c
link_names (Branch bitmap entries) e y c = absurd (false≢true e)
link_names (Single key value) e y c = absurd (false≢true e)
link_names (Tomb single) e y c = absurd (false≢true e)
link_names (Listed singles) e y c = absurd (false≢true e)

main_named : (node : Node) → is_indirection node ≡ true → Contains (refs_of_node node) (main_of node)
main_named (Indirection generation main) e = Contains-get_or (main ∷ []) 0 main (omega arith)
main_named (Branch bitmap entries) e = absurd (false≢true e)
main_named (Single key value) e = absurd (false≢true e)
main_named (Tomb single) e = absurd (false≢true e)
main_named (Listed singles) e = absurd (false≢true e)

-- a copy has made what is a fresh root of it, and its offer expects the main node that it was given
second_made : (second : Option Ref) (q : Ref) → second ≡ Some q → Contains (refs_of_option second) q
second_made None q e = absurd (none-some q e)
second_made (Some x) q e = subst (Contains (x ∷ [])) (same_Some _ _ e) (Contains-get_or (x ∷ []) 0 x (omega arith))

offer_made : (x : Bool) (offer : Descriptor) (q : Ref) → fresh_of x offer ≡ Some q → Contains (offer.successor ∷ refs_of_option offer.second) q
offer_made true offer q e =
    subst (Contains (offer.successor ∷ refs_of_option offer.second)) (same_Some _ _ e) (Contains-get_or (offer.successor ∷ refs_of_option offer.second) 0 offer.successor (omega arith))
offer_made false offer q e = Contains-append_right (offer.successor ∷ []) (refs_of_option offer.second) q (second_made offer.second q e)

pub fresh_made : (x : Bool) (l : Line) (q : Ref) → fresh_in x l ≡ Some q → Contains (made_for_offer l) q × (expected_by l ≡ Some (copied l).1)
fresh_made true (line.Copy (copy.Second root main successor)) q e = (subst (Contains (successor ∷ [])) (same_Some _ _ e) (Contains-get_or (successor ∷ []) 0 successor (omega arith)), refl)
fresh_made x (line.Copy (copy.Offer offer)) q e = (offer_made x offer q e, refl)
fresh_made x (line.Copy (copy.Complete c)) q e = (offer_made x c.offer q e, refl)
fresh_made x l q e = absurd (none-some q e)

branch_made : (l : Line) (b : Ref) → IsCleared l b → Contains (made_for_offer l) b
branch_made (line.Copy (copy.Cleared root main branch)) b is = subst (Contains (branch ∷ [])) is (Contains-get_or (branch ∷ []) 0 branch (omega arith))
branch_made l b is = absurd is

module _ (limits : Bounds) (ok : AreBounds limits) (steps : List Step) where
  abbrev state : State
  state = run limits steps

  abbrev states : ℕ → State
  states = states_of limits steps

  abbrev last : ℕ
  last = last_of limits steps

  abbrev whole : IsRun limits (states_of limits steps) (last_of limits steps)
  whole = run_is limits steps ok

  module _ (k : ℕ) (operation : Operation) (x : Bool) (q : Ref) (runs : Runs (run limits steps) k operation) (unmarked : operation.is_marked ≡ false) (has : fresh_in x operation.line ≡ Some q) where
    runs_then : Runs (states_of limits steps (last_of limits steps)) k operation
    runs_then = ap (λ (s : State). get_or s.actors k None) (run_ends limits steps) ∙ runs

    pub used : IsInUse (run limits steps).heap q
    used = subst (λ (s : State). IsInUse s.heap q) (run_ends limits steps) (fresh_used whole last (omega arith) k operation x q runs_then has)

    node : node_under states last q ≡ used.0.node
    node = node_word_of limits steps ok q used.0 used.1

    link : is_indirection used.0.node ≡ true
    link = sym (ap is_indirection node) ∙ fresh_stands whole last (omega arith) k operation x q runs_then has

    abbrev main : Ref
    main = main_at state.heap q

    its_main : main ≡ main_of used.0.node
    its_main = ap main_of (node_standing state.heap q used.0 used.1)

    main_is : main_word states last q ≡ main
    main_is = ap main_of node ∙ sym its_main

    stored_is : stored state.heap q ≡ Some used.0
    stored_is = (standing_parts state.heap q used.0 used.1).0

    -- its slot names that main node alone
    pub names_main : (y : Ref) → Contains (refs_of_slot (stored (run limits steps).heap q)) y → y ≡ main_at (run limits steps).heap q
    names_main y c =
        both_in (λ z. z ≡ main) (refs_of_node used.0.node) (refs_of_prev used.0.prev) (λ z d. link_names used.0.node link z d ∙ sym its_main)
        (λ z d. none_in z (subst (λ p. Contains (refs_of_prev p) z) (links_plain limits ok steps q used.0 used.1 link) d)) y (subst (λ o. Contains (refs_of_slot o) y) stored_is c)

    pub main_stands : Contains (refs_of_slot (stored (run limits steps).heap q)) (main_at (run limits steps).heap q)
    main_stands =
        subst (λ o. Contains (refs_of_slot o) main) (sym stored_is)
        (Contains-append_left (refs_of_node used.0.node) (refs_of_prev used.0.prev) main
        (subst (Contains (refs_of_node used.0.node)) (sym its_main) (main_named used.0.node link)))

    -- which is the expected one, or names nothing
    pub main_bare : (main_at (run limits steps).heap q ≡ (copied operation.line).1)
        ⊎ ((y : Ref) → Contains (refs_of_slot (stored (run limits steps).heap (main_at (run limits steps).heap q))) y → ⊥)
    main_bare = elim (fresh_shows whole last (omega arith) k operation x q runs_then unmarked has) [
      | inl expected ↦ inl (sym main_is ∙ expected)
      | inr empty ↦ inr (bare (ap (node_under states last) (sym main_is) ∙ empty))
    ]
      where
        there : IsInUse state.heap main
        there = in_any_slot state (safe_along limits ok steps) q main main_stands

        bare : node_under states last main ≡ empty_branch → (y : Ref) → Contains (refs_of_slot (stored state.heap main)) y → ⊥
        bare empty y c =
            let its : there.0.node ≡ empty_branch = sym (node_word_of limits steps ok main there.0 there.1) ∙ empty in
            let none : there.0.prev ≡ prev.None =
            sym (prev_standing state.heap main there.0 there.1) ∙ sym (prev_word_of limits steps ok main there) ∙ ap (prev_word states last) (sym main_is)
            ∙ fresh_decided whole last (omega arith) k operation x q runs_then unmarked has in
            both_in (λ z. ⊥) (refs_of_node there.0.node) (refs_of_prev there.0.prev) (λ z d. none_in z (subst (λ n. Contains (refs_of_node n) z) its d))
            (λ z d. none_in z (subst (λ p. Contains (refs_of_prev p) z) none d)) y (subst (λ o. Contains (refs_of_slot o) y) (standing_parts state.heap main there.0 there.1).0 c)

  -- what nobody is to bring is apart from what copies make
  pub apart_then : (r : Ref) → NobodyBrings (run limits steps) r → IsApart (run limits steps) r
  apart_then r nobody k operation runs unmarked = (
    λ x q e. (
      λ same. not_made (subst (Contains (made_for_offer operation.line)) same (fresh_made x operation.line q e).0),
      λ is. by_expected x q e is (cases_eq r (copied operation.line).1),
    ),
    λ b is same. not_made (subst (Contains (made_for_offer operation.line)) same (branch_made operation.line b is)),
  )
    where
      not_made : Contains (made_for_offer operation.line) r → ⊥
      not_made c = nobody (suc k) operation runs unmarked (inl c)

      by_expected : (x : Bool) (q : Ref) → fresh_in x operation.line ≡ Some q → main_at state.heap q ≡ r → (r ≡ (copied operation.line).1) ⊎ (r ≡ (copied operation.line).1 → ⊥) →
          r ≡ (copied operation.line).1
      by_expected x q e is (inl same) = same
      by_expected x q e is (inr other) =
          absurd (nobody (suc k) operation runs unmarked
          (inr (
            q,
            (fresh_made x operation.line q e).0,
            subst (Contains (refs_of_slot (stored state.heap q))) is (main_stands k operation x q runs unmarked e),
            λ expects. other (sym (same_Some _ _ (sym (fresh_made x operation.line q e).1 ∙ expects))),
          )))

-- and stays so
pub apart_along : (limits : Bounds) → AreBounds limits → (before : List Step) (r : Ref) → IsInUse (run limits before).heap r → IsApart (run limits before) r → (since : List Step) →
    IsApart (run limits (before ++ since)) r
apart_along limits ok before r used apart since =
    subst (λ q. IsApart q r) (run_ends limits all)
    (apart_later (run_is limits all ok) r (last_of limits before) (last_of limits all) made (subst (λ q. IsApart q r) (sym at_start) apart) longer (omega arith))
  where
    all : List Step
    all = before ++ since

    longer : last_of limits before ≤ last_of limits all
    longer = let e = ap length (taken-append (first_state limits) before since) ∙ length-append (taken_steps limits before) (taken_from (run limits before) since) in omega (arith, e)

    at_start : states_of limits all (last_of limits before) ≡ run limits before
    at_start = states_of-append limits before since (last_of limits before) (omega arith) ∙ run_ends limits before

    made : is_some (grown (states_of limits all) (last_of limits before) r) ≡ true
    made = ap is_some (grown_in_use (states_of limits all) (last_of limits before) r used.0 (ap (λ (q : State). standing q.heap r) at_start ∙ used.1))
