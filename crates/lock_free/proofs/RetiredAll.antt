-- What the rule says where a seat has retired slots, more than one or none, in the present epoch.
use Rattle.std.proofs.Common.{◌≡◌, ◌≢◌, ◌++◌, inl, inr, ℕ, List, [], ◌∷◌, Contains, map, set, Some, refl, sym, ap, subst, ◌∙◌, append-nil, append_assoc, arith}
use Rattle.std.proofs.lemmas.List.Elements.{Contains-append_cases}
use mathlib.Core.Option.{some}
use lib.ListN.{get_elem?}
use Rattle.atomic_table.proofs.Lists.{at_set, set_else, set_here}
use Rattle.machine_model.specs.Beneath.slot_arena.specs.declared.refs.Ref.{Ref}
use Rattle.machine_model.specs.Beneath.slot_arena.specs.Refs.{slot_of}
use Rattle.machine_model.specs.States.{State}
use Rattle.proof_claims.specs.Different.{AreDifferent}
use Rattle.proof_memory.specs.Laws.{IsInUse}
use Rattle.proof_waiting.specs.Beneath.proof_slots.proofs.Unswept.Kept.{one_ref}
use Rattle.lock_free.specs.declared.accounts.Account.{Account}
use Rattle.lock_free.specs.declared.rules.Pinned.{Pinned}
use Rattle.lock_free.specs.declared.rules.Retired.{Retired}
use Rattle.lock_free.specs.declared.rules.View.{View}
use Rattle.lock_free.specs.declared.sizes.Sizes.{Sizes}
use Rattle.lock_free.specs.Outcomes.{root_retired}
use Rattle.lock_free.specs.Reclaiming.{retiring}
use Rattle.lock_free.specs.Rules.{AreEpochs, AreRetired, Once}
use Rattle.lock_free.proofs.Assembling.{within}
use Rattle.lock_free.proofs.EpochStays.{epoch_in, epochs_stay, was_then}
use Rattle.lock_free.proofs.Pools.{contains_map, first_there, mapped, more_there}
use Rattle.lock_free.proofs.RetiredMore.{only_one, retired_more}
use Rattle.lock_free.proofs.RetiredStay.{Retires, retired_stay, retired_then, retires_as, retires_self}

abbrev pub numbers : List Retired → List ℕ
numbers xs = map (λ (x : Retired). x.number) xs

-- no seat had retired one of these
abbrev pub AreNew : List View → List Retired → Type 0
AreNew views xs = (x : Retired) → Contains xs x → (k : ℕ) (u : View) → get_elem? views k ≡ some u → (y : Retired) → Contains u.retired y → y.number ≢ x.number

module _ (sizes : Sizes) (words : List ℕ) where
  -- where one more is retired the others are new still
  still_new : (views : List View) (id : ℕ) (v : View) → get_elem? views id ≡ some v → (x : Retired) (xs : List Retired) → AreNew views (x ∷ xs) → Once (numbers (x ∷ xs)) →
      AreNew (set views id (retiring v x)) xs
  still_new views id v at x xs new once y c k u e z d same = elim (at_set views id k (retiring v x) u e) [
    | inl p ↦ elim (Contains-append_cases v.retired (x ∷ []) z (subst (λ (w : View). Contains w.retired z) (sym p.1) d)) [
      | inl before ↦ new y (more_there x xs y c) id v at z before same
      | inr its ↦ once.0 (subst (Contains (numbers xs)) (sym same ∙ ap (λ (w : Retired). w.number) (sym (only_one x z its))) (contains_map (λ (w : Retired). w.number) xs y c))
    ]
    | inr p ↦ new y (more_there x xs y c) k u p.1 z d same
  ]

  pub all_retired : (xs : List Retired) (views : List View) (id : ℕ) (v : View) → get_elem? views id ≡ some v → AreEpochs words views → AreRetired sizes words views →
      ((x : Retired) → Contains xs x → x.stamp ≡ epoch_in words) → AreNew views xs → Once (numbers xs) → (w : View) → w.retired ≡ v.retired ++ xs → ((p : Pinned) → w.pin ≡ Some p → v.pin ≡ Some p) →
      AreRetired sizes words (set views id w)
  all_retired [] views id v at epochs old stamps new once w is pin = retired_then views id v at w (is ∙ append-nil v.retired) pin sizes words words (omega arith) old
  all_retired (x ∷ xs) views id v at epochs old stamps new once w is pin =
      let v_then = retiring v x in
      let views_then = set views id v_then in
      let low = within views id v at in
      let at_then = set_here views id v_then low in
      let more = retired_more sizes words views id v at x (stamps x (first_there x xs)) epochs old (new x (first_there x xs)) in
      let in_epochs =
      epochs_stay words words views views_then refl (was_then views id v at v_then (record { actor = refl; epoch = refl; passed = refl; glance = refl; pinned = λ p same. same })) epochs in
      let rest =
      all_retired xs views_then id v_then at_then in_epochs more (λ y c. stamps y (more_there x xs y c)) (still_new views id v at x xs new once) once.1 w
      (is ∙ sym (append_assoc v.retired (x ∷ []) xs)) pin in
      retired_stay sizes words words (set views_then id w) (set views id w) (omega arith)
      (λ k u e. elim (at_set views id k w u e) [
        | inl p ↦
            subst (Retires (set views_then id w) k) p.1
            (retires_as w (ap (get_elem? (set views_then id w)) p.0 ∙ set_here views_then id w (within views_then id v_then at_then)) refl (λ pin same. same))
        | inr p ↦ retires_self (set views_then id w) k u (set_else views_then id k w p.0 ∙ set_else views id k v_then p.0 ∙ p.1)
      ]) rest

-- roots that differ have slots that differ
pub roots_once : (state : State) (account : Account) (stamp : ℕ) (rs : List Ref) → AreDifferent rs → ((r : Ref) → Contains rs r → IsInUse state.heap r) →
    Once (numbers (map (root_retired account stamp) rs))
roots_once state account stamp [] differ used = tt
roots_once state account stamp (r ∷ rs) differ used = (
  λ c.
      (let (y, there, same) = mapped (λ (x : Retired). x.number) (map (root_retired account stamp) rs) (slot_of r) c in
      let (q, its, is) = mapped (root_retired account stamp) rs y there in
      let one : q ≡ r = one_ref state.heap q r (used q (more_there r rs q its)) (used r (first_there r rs))
      (ap (λ (x : Retired). x.number) is ∙ same) in
      differ.0 (subst (Contains rs) one its)),
  roots_once state account stamp rs differ.1 (λ x c. used x (more_there r rs x c)),
)
