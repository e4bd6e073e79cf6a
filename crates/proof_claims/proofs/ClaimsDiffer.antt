-- No claim stands twice, after every list of steps.
use Rattle.std.proofs.Common.{cond, ◌≡◌, ◌<◌, inl, inr, ℕ, suc, true, false, length, List, [], ◌∷◌, ◌++◌, Contains, Some, Ok, Err, refl, sym, ap, subst, ◌∙◌, arith, length-append}
use Rattle.std.proofs.lemmas.Bool.{true≢false}
use Rattle.std.proofs.lemmas.List.{get_or_append_left}
use Rattle.proof_claims.specs.Beneath.history.specs.declared.calls.Access.TheVariants.{Writable}
use Rattle.proof_claims.specs.Beneath.slot_arena.specs.declared.refs.Ref.{Ref}
use Rattle.proof_claims.specs.Beneath.slot_arena.specs.Heaps.{main_at, main_of, node_at, refs_of_node}
use Rattle.proof_claims.specs.Beneath.slot_arena.specs.Refs.{ref_to}
use Rattle.proof_claims.specs.Beneath.machine_model.specs.declared.operations.Operation.{Operation}
use Rattle.proof_claims.specs.Beneath.machine_model.specs.declared.roots.RootWord.TheVariants.{Plain}
use Rattle.proof_claims.specs.Beneath.machine_model.specs.declared.steps.Bounds.{Bounds}
use Rattle.proof_claims.specs.Beneath.machine_model.specs.declared.steps.Outcome.{Outcome}
use Rattle.proof_claims.specs.Beneath.machine_model.specs.declared.steps.Step.{Step}
use Rattle.proof_claims.specs.Beneath.machine_model.specs.Keys.{FitsKey, KeysFit}
use Rattle.proof_claims.specs.Beneath.machine_model.specs.Machine.{Answer, AreBounds, is_taken_step, next, run, run_from, state_after}
use Rattle.proof_claims.specs.Beneath.machine_model.specs.Moves.{Moves, MovesIfTaken}
use Rattle.proof_claims.specs.Beneath.machine_model.specs.States.{State, first_state, operation_of, root_at}
use Rattle.proof_claims.specs.Beneath.machine_model.proofs.Along.{by_last, run_push}
use Rattle.proof_claims.specs.Beneath.machine_model.proofs.Moves.{moves}
use Rattle.proof_claims.specs.Beneath.machine_model.proofs.Found.{none_found}
use Rattle.proof_claims.specs.Beneath.proof_garbage.proofs.Public.{IsPublic}
use Rattle.proof_claims.specs.Beneath.proof_memory.proofs.Safety.AtEachTime.{safe_along}
use Rattle.proof_claims.specs.Beneath.proof_memory.specs.Laws.{IsInUse}
use Rattle.proof_claims.specs.Beneath.proof_memory.specs.Wants.{is_indirection}
use Rattle.proof_claims.specs.Changes.{change_of}
use Rattle.proof_claims.specs.Claims.{Has, held_from, held_of}
use Rattle.proof_claims.specs.Different.{AreDifferent}
use Rattle.proof_claims.specs.Held.{Claim, Held, Holder, OfHandle, OfNode, first_held, held_after}
use Rattle.proof_claims.proofs.Along.{held_push}
use Rattle.proof_claims.proofs.Differ.{differ_then}
use Rattle.proof_claims.proofs.Differing.{in_cons, nothing_in}
use Rattle.proof_claims.proofs.FirstClaims.{root_node, root_used}
use Rattle.proof_claims.proofs.FreshClaims.{SwapsFit, swaps_after}
use Rattle.proof_claims.proofs.FromRoots.{main_in_use}
use Rattle.proof_claims.proofs.Made.{AreMade, HolderIsMade, IsMade, made_after}
use Rattle.proof_claims.proofs.NamesOnce.{one_alone}
use Rattle.proof_claims.proofs.RootClaims.{HandlesHold, HoldsRoot, handles_after, its_root}

-- what is so of claims after every list of steps
pub record ClaimsFit (state : State) (held : Held) : Type 0 where
  pub made : AreMade state held
  pub swaps : SwapsFit state held
  pub handles : HandlesHold state held
  pub differ : AreDifferent held.claims

-- ---- at first

module _ (limits : Bounds) (ok : AreBounds limits) where
  abbrev root : Ref
  root = ref_to 2 1

  abbrev branch : Ref
  branch = ref_to 1 0

  -- the two claims
  pub first_is : (P : Holder → Ref → Type 0) → P (OfHandle 0) root → P (OfNode root) branch → (by : Holder) (on : Ref) → Has first_held by on → P by on
  first_is P a b by on c = elim (in_cons (record { by = OfHandle 0; on = root }) (record { by = OfNode root; on = branch } ∷ []) (record { by = by; on = on }) c) [
    | inl same ↦ subst (λ (z : Claim). P z.by z.on) same a
    | inr rest ↦ elim (in_cons (record { by = OfNode root; on = branch }) [] (record { by = by; on = on }) rest) [
      | inl same ↦ subst (λ (z : Claim). P z.by z.on) same b
      | inr empty ↦ nothing_in _ empty
    ]
  ]

  root_made : IsMade (first_state limits) root
  unfolding run_from
  root_made = let used = root_used limits ok in (safe_along limits ok []).births root used.0 used.1

  branch_made : IsMade (first_state limits) branch
  unfolding run_from
  branch_made =
      let link : is_indirection (node_at (first_state limits).heap root) ≡ true = ap is_indirection (root_node limits ok) in
      let used = main_in_use limits [] ok root (root_used limits ok) link in
      let its = ap main_of (root_node limits ok) in
      subst (IsMade (first_state limits)) its ((safe_along limits ok []).births (main_at (first_state limits).heap root) used.0 used.1)

  none_runs : (k : ℕ) (operation : Operation) → operation_of (first_state limits) (suc k) ≡ Some operation → ⊥
  unfolding first_state
  none_runs k operation e = none_found limits.actors k operation e

  pub root_stands : root_at (first_state limits) 0 ≡ Some (record { access = Writable; word = Plain root })
  unfolding first_state
  root_stands = refl

  first_made : AreMade (first_state limits) first_held
  first_made = record {
    holders = first_is (λ by on. HolderIsMade (first_state limits) by) tt root_made;
    made = first_is (λ by on. IsMade (first_state limits) on) root_made branch_made;
    names = λ j r has. first_is (λ by on. (j : Ref) → by ≡ OfNode j → IsInUse (first_state limits).heap j → is_indirection (node_at (first_state limits).heap j) ≡ false →
        Contains (refs_of_node (node_at (first_state limits).heap j)) on) (λ j same. let bad : ⊥ = cc same in absurd bad)
        (λ j same used plain.
        let at_root : root ≡ j = cc same in
        absurd (true≢false (sym (ap is_indirection (root_node limits ok)) ∙ ap (λ x. is_indirection (node_at (first_state limits).heap x)) at_root ∙ plain)))
        (OfNode j) r has j refl;
    public = λ n r has. first_is (λ by on. (n : ℕ) → by ≡ OfHandle n → IsPublic on (first_state limits))
        (λ n same. record { made = root_made; apart = λ k operation found own. none_runs k operation found }) (λ n same. let bad : ⊥ = cc same in absurd bad) (OfHandle n) r has n refl;
  }

  first_differ : AreDifferent first_held.claims
  first_differ = (
    λ c. elim (in_cons (record { by = OfNode root; on = branch }) [] (record { by = OfHandle 0; on = root }) c) [
      | inl same ↦ let holders : OfNode root ≡ OfHandle 0 = ap (λ (z : Claim). z.by) same in cc holders
      | inr empty ↦ nothing_in _ empty
    ],
    one_alone (record { by = OfNode root; on = branch }),
  )

  first_fit : ClaimsFit (run limits []) (held_of limits [])
  unfolding run_from held_from
  first_fit = record {
    made = first_made;
    swaps = λ k operation why w runs on. absurd (none_runs k operation runs);
    handles = λ n r has. first_is (λ by on. (n : ℕ) → by ≡ OfHandle n → HoldsRoot (first_state limits) n on)
        (λ n same. let zero_is : 0 ≡ n = cc same in subst (λ x. HoldsRoot (first_state limits) x root) zero_is (its_root _ root_stands refl))
        (λ n same. let bad : ⊥ = cc same in absurd bad) (OfHandle n) r has n refl;
    differ = first_differ;
  }

-- ---- after each step

-- the keys of a beginning of the list fit
pub keys_before : (xs ys : List Step) → KeysFit (xs ++ ys) → KeysFit xs
keys_before xs ys keys i d within = subst FitsKey (get_or_append_left xs ys d i within) (keys i d (longer within))
  where
    longer : i < length xs → i < length (xs ++ ys)
    longer less = let all = length-append xs ys in omega (arith, less, all)

module _ (limits : Bounds) (ok : AreBounds limits) where
  abbrev Fit : List Step → Type 0
  Fit xs = KeysFit xs → ClaimsFit (run limits xs) (held_of limits xs)

  fit_after : (xs : List Step) (s : Step) → KeysFit (xs ++ s ∷ []) → ClaimsFit (run limits xs) (held_of limits xs) → (o : Outcome) → Moves (run limits xs) s o (run limits (xs ++ s ∷ [])) →
      ClaimsFit (run limits (xs ++ s ∷ [])) (held_after (change_of (run limits xs) (held_of limits xs) s) (held_of limits xs))
  fit_after xs s keys h o m = record {
    made = made_after limits ok xs s o (run limits (xs ++ s ∷ [])) m refl h.made;
    swaps = swaps_after limits ok xs s o m h.made h.swaps;
    handles = handles_after limits ok xs s o m h.handles;
    differ = differ_then limits ok xs s keys o m h.made h.swaps h.handles h.differ;
  }

  by_answer : (xs : List Step) (s : Step) → KeysFit (xs ++ s ∷ []) → ClaimsFit (run limits xs) (held_of limits xs) → (a : Answer) → next (run limits xs) s ≡ a → MovesIfTaken (run limits xs) s a →
      ClaimsFit (run limits (xs ++ s ∷ [])) (cond (is_taken_step a) (held_after (change_of (run limits xs) (held_of limits xs) s) (held_of limits xs)) (held_of limits xs))
  by_answer xs s keys h (Ok done) e m =
      let is : done.1 ≡ run limits (xs ++ s ∷ []) = sym (run_push (first_state limits) xs s ∙ ap (state_after (run limits xs)) e) in
      fit_after xs s keys h done.0 (subst (λ (z : State). Moves (run limits xs) s done.0 z) is m)
  by_answer xs s keys h (Err refusal) e m =
      subst (λ (z : State). ClaimsFit z (held_of limits xs)) (sym (run_push (first_state limits) xs s ∙ ap (state_after (run limits xs)) e)) h

  pub claims_fit : (xs : List Step) → KeysFit xs → ClaimsFit (run limits xs) (held_of limits xs)
  claims_fit xs keys =
      by_last Fit (λ keys. first_fit limits ok)
      (λ xs s h keys.
      subst (ClaimsFit (run limits (xs ++ s ∷ []))) (sym (held_push limits xs s))
      (by_answer xs s keys (h (keys_before xs (s ∷ []) keys)) (next (run limits xs) s) refl (moves (run limits xs) s))) xs keys

pub claims_differ : (limits : Bounds) (steps : List Step) → AreBounds limits → KeysFit steps → AreDifferent (held_of limits steps).claims
claims_differ limits steps ok keys = (claims_fit limits ok steps keys).differ
