-- At first handle 0 holds the first root, and that one the first branch: each reference is counted.
use Rattle.std.proofs.Common.{◌≡◌, ◌+◌, ◌≤◌, ◌==◌, ◌&&◌, ◌||◌, inl, inr, ℕ, zero, suc, Bool, true, false, List, [], ◌∷◌, Contains, None, Some, cond, get_or, refl, sym, ap, subst, ◌∙◌, arith}
use Rattle.std.proofs.Common.{◌++◌, length, length-append, eq-eqb, eqb-true}
use Rattle.std.proofs.lemmas.Bool.{true≢false}
use Rattle.std.proofs.lemmas.List.Sums.{sum_by-cons}
use mathlib.Core.Option.{some, some-injective, some-ne-none}
use lib.ListN.{get_elem?}
use Rattle.machine_model.specs.Beneath.slot_arena.specs.declared.refs.Ref.{Ref}
use Rattle.machine_model.specs.Beneath.slot_arena.specs.declared.nodes.Slot.{Slot}
use Rattle.machine_model.specs.Beneath.slot_arena.specs.Refs.{ref_to, slot_of}
use Rattle.machine_model.specs.Beneath.slot_arena.proofs.Live.{birth_of_ref, slot_of_ref}
use Rattle.machine_model.specs.States.{State}
use Rattle.proof_claims.specs.Claims.{held_from}
use Rattle.proof_claims.specs.Held.{Claim, Held, OfHandle, OfNode, first_held, is_owned}
use Rattle.proof_claims.proofs.Differing.{in_cons, nothing_in}
use Rattle.proof_commits.specs.Runs.{HasIndirection}
use Rattle.proof_memory.specs.Laws.{IsInUse}
use Rattle.proof_waiting.specs.Beneath.proof_slots.proofs.Unswept.Kept.{one_ref}
use Rattle.lock_free.specs.declared.accounts.Account.{Account}
use Rattle.lock_free.specs.declared.rules.Retired.{Retired}
use Rattle.lock_free.specs.declared.rules.View.{View}
use Rattle.lock_free.specs.declared.sizes.Sizes.{Sizes}
use Rattle.lock_free.specs.Accounts.{state_of, IsOwn}
use Rattle.lock_free.specs.Claims.{claims_there, held_now, is_claim_on}
use Rattle.lock_free.specs.Counts.{IsCount, how_often, references}
use Rattle.lock_free.specs.Holdings.{AreHeld, count_of, retired_in, HasBeenLetGo}
use Rattle.lock_free.specs.Places.{count_word}
use Rattle.lock_free.specs.FirstViews.{first_view}
use Rattle.lock_free.specs.Rules.{Standing, first_account}
use Rattle.lock_free.proofs.FirstState.{first_branch, first_link, none_runs, slots_are}
use Rattle.lock_free.proofs.Idle.{empty_has}
use Rattle.lock_free.proofs.OneStep.LinksWide.{standing_by}
use Rattle.lock_free.proofs.Owners.{it_or_before}
use Rattle.lock_free.proofs.OwnsMade.{first_is}

pub only_view : (v w : View) (id : ℕ) → get_elem? (v ∷ []) id ≡ some w → (id ≡ 0) × (v ≡ w)
only_view v w zero e = (refl, some-injective v w e)
only_view v w (suc id) e = absurd (some-ne-none w (sym e))

-- at most one of both
one_of : (a b : Bool) → (a ≡ true → b ≡ true → ⊥) → cond {A = ℕ} (a && true) 1 0 + cond (b && true) 1 0 ≤ 1
one_of true true apart = absurd (apart refl refl)
one_of true false apart = omega arith
one_of false true apart = omega arith
one_of false false apart = omega arith

module _ (sizes : Sizes) where
  abbrev account : Account
  account = first_account sizes

  abbrev state : State
  state = state_of sizes account

  abbrev root : Ref
  root = ref_to 2 1

  abbrev branch : Ref
  branch = ref_to 1 0

  held_is : held_now sizes account ≡ first_held
  unfolding held_from
  held_is = refl

  -- ---- the two nodes

  slot_is : (r : Ref) (n : ℕ) (x : Slot) → slot_of r ≡ n → get_or (Some first_branch ∷ Some first_link ∷ None ∷ []) n None ≡ Some x → get_or state.heap.slots (slot_of r) None ≡ Some x
  slot_is r n x place at = ap (λ k. get_or state.heap.slots k None) place ∙ ap (λ xs. get_or xs n None) (slots_are sizes) ∙ at

  branch_used : IsInUse state.heap branch
  branch_used = (first_branch, standing_by state.heap branch first_branch (slot_is branch 0 first_branch (slot_of_ref 1 0) refl) (sym (birth_of_ref 1 0)))

  root_used : IsInUse state.heap root
  root_used = (first_link, standing_by state.heap root first_link (slot_is root 1 first_link (slot_of_ref 2 1) refl) (sym (birth_of_ref 2 1)))

  apart : root ≡ branch → ⊥
  apart same = let slots = ap slot_of same in omega (arith, slots, slot_of_ref 2 1, slot_of_ref 1 0)

  -- ---- who holds them

  module _ (stands : Standing) (all : (k : ℕ) → stands k ≡ true) where
    abbrev weight : Ref → Claim → ℕ
    weight k c = cond (is_claim_on stands k c) 1 0

    one_claim : (k : Ref) → claims_there stands k first_held.claims ≤ 1
    one_claim k =
        let first : Claim = record { by = OfHandle 0; on = root } in
        let second : Claim = record { by = OfNode root; on = branch } in
        let both = sum_by-cons (weight k) first (second ∷ []) in
        let last = sum_by-cons (weight k) second [] in
        let there = ap {B = ℕ} (λ b. cond ((branch == k) && b) 1 0) (all (slot_of root)) in
        let most = one_of (root == k) (branch == k) (λ e f. apart (eqb-true root k e ∙ sym (eqb-true branch k f))) in
        omega (arith, both, last, there, most)

    used_by : (c : Claim) → Contains first_held.claims c → IsInUse state.heap c.on
    used_by c has = elim (in_cons (record { by = OfHandle 0; on = root }) (record { by = OfNode root; on = branch } ∷ []) c has) [
      | inl same ↦ subst (λ (x : Claim). IsInUse state.heap x.on) same root_used
      | inr rest ↦ elim (in_cons (record { by = OfNode root; on = branch }) [] c rest) [
        | inl same ↦ subst (λ (x : Claim). IsInUse state.heap x.on) same branch_used
        | inr none ↦ nothing_in _ none
      ]
    ]

    owns_is : (i m : Ref) (own : Bool) → HasIndirection state i → IsInUse state.heap m → IsOwn account i m own → is_owned (held_now sizes account) i m ≡ own
    owns_is i m own link used is = elim (it_or_before (record { holder = 1; held = 0; is_own = true }) [] (slot_of i) (slot_of m) own is) [
      | inl new ↦
          (let same_i = one_ref state.heap root i root_used link.0 (slot_of_ref 2 1 ∙ new.0) in
          let same_m = one_ref state.heap branch m branch_used used (slot_of_ref 1 0 ∙ new.1) in
          ap (λ (h : Held). is_owned h i m) held_is ∙ ap (λ b. (b && (branch == m)) || false) (eq-eqb root i same_i) ∙ ap (λ b. b || false) (eq-eqb branch m same_m) ∙ new.2)
      | inr none ↦ elim none [ ]
    ]

    -- ---- where each count says that there is one reference

    module _ (words : List ℕ) (one : (c : ℕ) → IsCount sizes c → references words c ≡ 1) (counts : (k : Ref) → IsInUse state.heap k → IsCount sizes (count_of sizes account k)) where
      abbrev its : (w : View) (id : ℕ) → get_elem? (first_view sizes ∷ []) id ≡ some w → first_view sizes ≡ w
      its w id e = (only_view (first_view sizes) w id e).1

      none_owed : (id : ℕ) (v : View) → get_elem? (first_view sizes ∷ []) id ≡ some v → (k : Ref) → Contains v.owed k → ⊥
      none_owed id v e k c = empty_has k (subst (λ (x : View). Contains x.owed k) (sym (its v id e)) c)

      none_retired : (id : ℕ) (v : View) → get_elem? (first_view sizes ∷ []) id ≡ some v → (x : Retired) → Contains v.retired x → ⊥
      none_retired id v e x c = empty_has x (subst (λ (y : View). Contains y.retired x) (sym (its v id e)) c)

      none_let_go : (k : Ref) → HasBeenLetGo sizes account k → ⊥
      none_let_go k w =
          let long = ap length w.goes_on in
          let parts = length-append (w.before ++ w.s ∷ []) w.since in
          let one = length-append w.before (w.s ∷ []) in
          omega (arith, long, parts, one)

      pub held_first : AreHeld sizes account stands words (first_view sizes ∷ [])
      held_first = record {
        counted = λ k here.
            (let count = one (count_of sizes account k) (counts k here.0) in
            let claims = ap (λ (h : Held). claims_there stands k h.claims) held_is in
            let few = one_claim k in
            let seats = sum_by-cons (λ (x : View). how_often k x.owed) (first_view sizes) [] in
            let slots = sum_by-cons (λ (x : View). retired_in (slot_of k) x) (first_view sizes) [] in
            omega (arith, count, claims, few, seats, slots));
        spare = λ class name small slot none.
            (let count = one (count_word sizes class name) (record { class = class; small = small; name = name; slot = slot; is = refl }) in omega (arith, count));
        fresh = λ a o runs k c. absurd (none_runs sizes a o runs);
        owed = λ id v e k c. absurd (none_owed id v e k c);
        known = λ id v e k c a o runs its. absurd (none_owed id v e k c);
        lines = λ id v e o runs. absurd (none_runs sizes v.actor o runs);
        dead = λ id v e x c deep k here is. absurd (none_retired id v e x c);
        unlet = λ k gone here. absurd (none_let_go k gone);
        reached = λ k from. all (slot_of k);
        unborn = λ k high. all k;
        gone = λ j k has none. absurd (true≢false (sym (all (slot_of j)) ∙ none));
        used = λ c has. used_by c (subst (λ (h : Held). Contains h.claims c) held_is has);
        owned = λ i m e. subst (IsInUse state.heap) (sym (first_is root branch i m (sym (ap (λ (h : Held). is_owned h i m) held_is) ∙ e))) root_used;
        owns = owns_is;
      }
