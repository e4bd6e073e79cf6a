-- Each reference is counted still where a seat retires a node that was replaced: the claim on it that ended is the retirer's then.
use Rattle.std.proofs.Common.{◌≡◌, ◌+◌, ◌≤◌, ◌<◌, ◌⊎◌, ◌==◌, ◌&&◌, not, inl, inr, ℕ, Bool, true, false, List, [], ◌∷◌, Contains, cond, flat_map, get_or, length, set, Some}
use Rattle.std.proofs.Common.{refl, sym, ap, subst, ◌∙◌, arith, ne_eqb}
use Rattle.std.proofs.lemmas.Bool.{cases_eq, true≢false}
use Rattle.std.proofs.lemmas.List.Concat.{flat_map-cons}
use Rattle.std.proofs.lemmas.List.Elements.{Contains-append_cases}
use Rattle.std.proofs.lemmas.List.Sums.{sum_by-append, sum_by-cons}
use mathlib.Core.Option.{some}
use lib.ListN.{get_elem?}
use Rattle.atomic_table.proofs.Lists.{at_set, set_else, set_here}
use Rattle.machine_model.specs.Beneath.slot_arena.specs.declared.refs.Ref.{Ref}
use Rattle.machine_model.specs.Beneath.slot_arena.specs.Refs.{slot_of}
use Rattle.proof_claims.specs.Held.{Change, Claim, Ends, Given, Holder, Stays, given_by, kept_by}
use Rattle.proof_memory.specs.Laws.{IsInUse}
use Rattle.proof_waiting.specs.Beneath.proof_slots.proofs.Unswept.Kept.{one_ref}
use Rattle.lock_free.specs.declared.accounts.Account.{Account}
use Rattle.lock_free.specs.declared.rules.Retired.{Retired}
use Rattle.lock_free.specs.declared.rules.View.{View}
use Rattle.lock_free.specs.declared.sizes.Sizes.{Sizes}
use Rattle.lock_free.specs.Accounts.{state_of}
use Rattle.lock_free.specs.Claims.{claims_there, held_now, is_claim_on, is_there, HoldsAll}
use Rattle.lock_free.specs.Counts.{how_often, owed_on, references}
use Rattle.lock_free.specs.Holdings.{AreHeld, IsHere, count_of, retired_in, retired_of, retired_on}
use Rattle.lock_free.specs.Reclaiming.{retiring}
use Rattle.lock_free.specs.Reached.{IsDead, IsHeldFrom, IsOwed, IsReached, at_first, by_node}
use Rattle.lock_free.specs.Rules.{Standing}
use Rattle.lock_free.proofs.Assembling.{within}
use Rattle.lock_free.proofs.ClaimsThere.{from_claims}
use Rattle.lock_free.proofs.CountsStay.{owed_set}
use Rattle.lock_free.proofs.HeldFrom.{held_each}
use Rattle.lock_free.proofs.HeldStill.{retired_set}
use Rattle.lock_free.proofs.Idle.{empty_has}
use Rattle.lock_free.specs.OwesAt.{owes_at}
use Rattle.machine_model.specs.States.{operation_of}

-- ---- claims

pub some_claims : (stands : ℕ → Bool) (k : Ref) (claims : List Claim) (c : Claim) → Contains claims c → is_claim_on stands k c ≡ true → 1 ≤ claims_there stands k claims
some_claims stands k [] c has is = absurd (empty_has c has)
some_claims stands k (x ∷ claims) c has is =
    let all = sum_by-cons (λ (y : Claim). cond {A = ℕ} (is_claim_on stands k y) 1 0) x claims in
    elim (Contains-append_cases (x ∷ []) claims c has) [
      | inl first ↦ (let one = ap {B = ℕ} (λ b. cond b 1 0) (ap (is_claim_on stands k) (only x c first) ∙ is) in omega (arith, all, one))
      | inr rest ↦ (let some = some_claims stands k claims c rest is in omega (arith, all, some))
    ]
  where
    only : (y z : Claim) → Contains (y ∷ []) z → y ≡ z
    only y z (i, within, at_i) = let zero_is : i ≡ 0 = omega arith in subst (λ n. get_or (y ∷ []) n z ≡ z) zero_is at_i

-- One of these claims ends, and no other goes over to whoever is there from whoever isn't, nor is given by such a one.
module _ (k : Ref) (before after : ℕ → Bool) (change : Change) (stays : (c : Claim) (by : Holder) → change.fate c ≡ Stays by → is_there after by ≡ true → is_there before c.by ≡ true)
    (given : (c : Claim) → change.fate c ≡ Given → is_there before c.by ≡ true) (ended : Claim) (ends : change.fate ended ≡ Ends) (is : is_claim_on before k ended ≡ true) where
  abbrev keeps_of : List Claim → List Claim
  keeps_of = flat_map (λ (c : Claim). kept_by (change.fate c) c.on)

  abbrev gives_of : List Claim → List Ref
  gives_of = flat_map (λ (c : Claim). given_by (change.fate c) c.on)

  pub claims_fewer : (claims : List Claim) → Contains claims ended →
      claims_there after k (flat_map (λ (c : Claim). kept_by (change.fate c) c.on) claims) + how_often k (flat_map (λ (c : Claim). given_by (change.fate c) c.on) claims) + 1
      ≤ claims_there before k claims
  claims_fewer [] has = absurd (empty_has ended has)
  claims_fewer (c ∷ claims) has =
      let weight : Claim → ℕ = λ x. cond (is_claim_on after k x) 1 0 in
      let of_ref : Ref → ℕ = λ x. cond (x == k) 1 0 in
      let keeps = ap (claims_there after k) (flat_map-cons (λ (x : Claim). kept_by (change.fate x) x.on) c claims) ∙ sum_by-append weight (kept_by (change.fate c) c.on) (keeps_of claims) in
      let gives = ap (how_often k) (flat_map-cons (λ (x : Claim). given_by (change.fate x) x.on) c claims) ∙ sum_by-append of_ref (given_by (change.fate c) c.on) (gives_of claims) in
      let all = sum_by-cons (λ (x : Claim). cond {A = ℕ} (is_claim_on before k x) 1 0) c claims in
      elim (Contains-append_cases (c ∷ []) claims ended has) [
        | inl first ↦
            (let same = only c ended first in
            let fate : change.fate c ≡ Ends = ap change.fate same ∙ ends in
            let none = ap (λ f. claims_there after k (kept_by f c.on)) fate in
            let no_gift = ap (λ f. how_often k (given_by f c.on)) fate in
            let one = ap {B = ℕ} (λ b. cond b 1 0) (ap (is_claim_on before k) same ∙ is) in
            let rest = from_claims k before after change stays given claims in
            omega (arith, keeps, gives, all, none, no_gift, one, rest))
        | inr later ↦
            (let first = from_claims k before after change stays given (c ∷ []) in
            let alone = ap (claims_there after k) (flat_map-cons (λ (x : Claim). kept_by (change.fate x) x.on) c []) ∙ sum_by-append weight (kept_by (change.fate c) c.on) [] in
            let gift = ap (how_often k) (flat_map-cons (λ (x : Claim). given_by (change.fate x) x.on) c []) ∙ sum_by-append of_ref (given_by (change.fate c) c.on) [] in
            let its = sum_by-cons (λ (x : Claim). cond {A = ℕ} (is_claim_on before k x) 1 0) c [] in
            let rest = claims_fewer claims later in
            omega (arith, keeps, gives, all, first, alone, gift, its, rest))
      ]
    where
      only : (y z : Claim) → Contains (y ∷ []) z → y ≡ z
      only y z (i, within, at_i) = let zero_is : i ≡ 0 = omega arith in subst (λ n. get_or (y ∷ []) n z ≡ z) zero_is at_i

-- ---- the rule

-- a seat has retired one more
module _ (sizes : Sizes) (account : Account) (stands : Standing) (words : List ℕ) (views : List View) (id : ℕ) (v : View) (at : get_elem? views id ≡ some v) (gone : View) (x : Retired)
    (h : AreHeld sizes account stands words (set views id gone)) where
  abbrev pub weight : ℕ → ℕ
  weight n = cond ((x.number == n) && not x.deep) 1 0

  abbrev w : View
  w = retiring gone x

  abbrev views_then : List View
  views_then = set views id w

  low : id < length views
  low = within views id v at

  owed_same : (k : Ref) → owed_on k views_then ≡ owed_on k (set views id gone)
  owed_same k = let now = owed_set k views id v at w in let was = owed_set k views id v at gone in omega (arith, now, was)

  retired_more : (n : ℕ) → retired_on n views_then ≡ retired_on n (set views id gone) + weight n
  retired_more n =
      let now = retired_set n views id v at w in
      let was = retired_set n views id v at gone in
      let own : retired_in n w ≡ retired_in n gone + retired_of n (x ∷ []) = sum_by-append (λ (y : Retired). cond {A = ℕ} ((y.number == n) && not y.deep) 1 0) gone.retired (x ∷ []) in
      let one = sum_by-cons (λ (y : Retired). cond {A = ℕ} ((y.number == n) && not y.deep) 1 0) x [] in
      omega (arith, now, was, own, one)

  -- whose it is was the seat's
  seat_was : (other : ℕ) (u : View) → get_elem? views_then other ≡ some u → ((other ≡ id) × (w ≡ u)) ⊎ (get_elem? (set views id gone) other ≡ some u)
  seat_was other u e = elim (at_set views id other w u e) [ inl p ↦ inl (p.0, p.1) | inr p ↦ inr (set_else views id other gone p.0 ∙ p.1) ]

  owner : (other : ℕ) (u : View) → get_elem? views_then other ≡ some u → (k : Ref) → Contains u.owed k → (y : View) × (get_elem? (set views id gone) other ≡ some y) × Contains y.owed k
      × (y.actor ≡ u.actor)
  owner other u e k c = elim (seat_was other u e) [
    | inl p ↦ (gone, ap (get_elem? (set views id gone)) p.0 ∙ set_here views id gone low, subst (λ (y : View). Contains y.owed k) (sym p.1) c, ap (λ (y : View). y.actor) p.1)
    | inr same ↦ (u, same, c, refl)
  ]

  only : (z : Retired) → Contains (x ∷ []) z → x ≡ z
  only z (i, inside, at_i) = let zero_is : i ≡ 0 = omega arith in subst (λ n. get_or (x ∷ []) n z ≡ z) zero_is at_i

  -- ---- what seats hold, and on

  -- what the slot is of, where its node had no reference any more
  abbrev pub Dying : Ref → Type 0
  Dying k = (x.deep ≡ true) × IsInUse (state_of sizes account).heap k × (slot_of k ≡ x.number)

  abbrev Was : Ref → Type 0
  Was k = IsReached sizes account (set views id gone) k ⊎ IsHeldFrom sizes account Dying k

  gone_at : (other : ℕ) → other ≡ id → get_elem? (set views id gone) other ≡ some gone
  gone_at other same = ap (get_elem? (set views id gone)) same ∙ set_here views id gone low

  first_was : (k : Ref) → IsOwed views_then k ⊎ IsDead sizes account views_then k → Was k
  first_was k (inl o) = let y = owner o.0 o.1 o.2 k o.3 in inl (at_first k (inl (o.0, y.0, y.1, y.2)))
  first_was k (inr d) = elim (seat_was d.id d.view d.at) [
    | inl p ↦ elim (Contains-append_cases gone.retired (x ∷ []) d.item (subst (λ (z : View). Contains z.retired d.item) (sym p.1) d.its)) [
      | inl old ↦ inl (at_first k (inr (record { used = d.used; id = d.id; view = gone; at = gone_at d.id p.0; item = d.item; its = old; deep = d.deep; number = d.number })))
      | inr last ↦ inr (at_first k (ap (λ (z : Retired). z.deep) (only d.item last) ∙ d.deep, d.used, d.number ∙ ap (λ (z : Retired). z.number) (sym (only d.item last))))
    ]
    | inr same ↦ inl (at_first k (inr (record { used = d.used; id = d.id; view = d.view; at = same; item = d.item; its = d.its; deep = d.deep; number = d.number })))
  ]

  was : (k : Ref) → IsReached sizes account views_then k → Was k
  was = held_each sizes account (λ k. IsOwed views_then k ⊎ IsDead sizes account views_then k) Was first_was
      (λ j k from holds. elim from [ inl old ↦ inl (by_node j k old holds) | inr new ↦ inr (by_node j k new holds) ])

  pub held_adding : ((k : Ref) → IsHere sizes account stands k → claims_there stands k (held_now sizes account).claims + owed_on k (set views id gone) +
      (retired_on (slot_of k) (set views id gone) + weight
      (slot_of k)) ≤ references words (count_of sizes account k)) → (x.deep ≡ true → (k : Ref) → IsHere sizes account stands k → slot_of k ≡ x.number →
      references words (count_of sizes account k) ≡ 0) → ((k : Ref) → IsHeldFrom sizes account Dying k → stands (slot_of k) ≡ true) →
      AreHeld sizes account stands words views_then
  held_adding most none below = record {
    counted = λ k here. (let all = most k here in let seats = owed_same k in let slots = retired_more (slot_of k) in omega (arith, all, seats, slots));
    spare = h.spare;
    fresh = h.fresh;
    owed = λ other u e k c. (let y = owner other u e k c in h.owed other y.0 y.1 k y.2);
    known = λ other u e k c a o runs its. (let y = owner other u e k c in h.known other y.0 y.1 k y.2 a o runs its ∙ y.3);
    lines = λ other u e o runs. elim (seat_was other u e) [
      | inl p ↦
          subst (λ (y : View). HoldsAll (owes_at o) y.owed) p.1
          (h.lines other gone (ap (get_elem? (set views id gone)) p.0 ∙ set_here views id gone low) o
          (subst (λ (y : View). operation_of (state_of sizes account) y.actor ≡ Some o) (sym p.1) runs))
      | inr same ↦ h.lines other u same o runs
    ];
    dead = λ other u e y c deep k here is. elim (seat_was other u e) [
      | inl p ↦ elim (Contains-append_cases gone.retired (x ∷ []) y (subst (λ (z : View). Contains z.retired y) (sym p.1) c)) [
        | inl old ↦ h.dead other gone (ap (get_elem? (set views id gone)) p.0 ∙ set_here views id gone low) y old deep k here is
        | inr last ↦ none (ap (λ (z : Retired). z.deep) (only y last) ∙ deep) k here (is ∙ ap (λ (z : Retired). z.number) (sym (only y last)))
      ]
      | inr same ↦ h.dead other u same y c deep k here is
    ];
    unlet = λ k let_go here. (let old = h.unlet k let_go here in let seats = owed_same k in omega (arith, old, seats));
    reached = λ k from. elim (was k from) [ inl old ↦ h.reached k old | inr new ↦ below k new ];
    unborn = h.unborn;
    gone = h.gone;
    used = h.used;
    owned = h.owned;
    owns = h.owns;
  }

  -- its own main node was replaced: this much more is counted of it
  module _ (m : Ref) (used : IsInUse (state_of sizes account).heap m) (number : x.number ≡ slot_of m) (shallow : x.deep ≡ false)
      (spare_one : claims_there stands m (held_now sizes account).claims + owed_on m (set views id gone) + retired_on (slot_of m) (set views id gone) + 1 ≤ references words
      (count_of sizes account m)) where
    at_most : (b : Bool) → cond {A = ℕ} b 1 0 ≤ 1
    at_most true = omega arith
    at_most false = omega arith

    pub held_retiring : AreHeld sizes account stands words views_then
    held_retiring =
        held_adding
        (λ k here. elim (cases_eq k m) [
          | inl same ↦
              (let most = subst (λ r. claims_there stands r (held_now sizes account).claims + owed_on r (set views id gone) + retired_on (slot_of r) (set views id gone) + 1 ≤ references words
              (count_of sizes account r)) (sym same) spare_one in
              let one = at_most ((x.number == slot_of k) && not x.deep) in
              omega (arith, most, one))
          | inr differs ↦
              (let old = h.counted k here in
              let none = ap {B = ℕ} (λ b. cond (b && not x.deep) 1 0) (ne_eqb x.number (slot_of k) (λ e. differs (one_ref (state_of sizes account).heap k m here.0 used (sym e ∙ number)))) in
              omega (arith, old, none))
        ])
        (λ deep. absurd (true≢false (sym deep ∙ shallow)))
        (λ k from. absurd (held_each sizes account Dying (λ r. ⊥) (λ r dying. true≢false (sym dying.0 ∙ shallow)) (λ j r never holds. never) k from))

  -- no reference to it is counted any more
  module _ (deep : x.deep ≡ true) (none : (k : Ref) → IsHere sizes account stands k → slot_of k ≡ x.number → references words (count_of sizes account k) ≡ 0)
      (below : (k : Ref) → IsHeldFrom sizes account Dying k → stands (slot_of k) ≡ true) where
    no_weight : (a b : Bool) → b ≡ true → cond {A = ℕ} (a && not b) 1 0 ≡ 0
    no_weight true b e = ap {B = ℕ} (λ c. cond (not c) 1 0) e
    no_weight false b e = refl

    pub held_dying : AreHeld sizes account stands words views_then
    held_dying = held_adding (λ k here. (let old = h.counted k here in let zero_is = no_weight (x.number == slot_of k) x.deep deep in omega (arith, old, zero_is))) (λ is. none) below
