-- Each reference is counted still where the slot of a node that was retired is free again: nobody holds one to it.
use Rattle.history.specs.declared.calls.Call.{Call}
use Rattle.std.proofs.Common.{◌≡◌, ◌≢◌, ◌+◌, ◌==◌, ◌&&◌, ◌<◌, ◌≤◌, inl, inr, ℕ, Bool, true, false, List, [], ◌∷◌, Contains, cond, filter, get_or, set, not, if◌then◌else◌, refl, sym, ap, subst, ◌⊎◌}
use Rattle.std.proofs.Common.{◌∙◌, arith, eq-eqb, length, length-append}
use Rattle.std.proofs.lemmas.Bool.{cases_eq, ne_eqb, true≢false}
use Rattle.std.proofs.lemmas.List.Elements.{Contains-append_cases}
use Rattle.std.proofs.lemmas.List.Sums.{sum_by-cons}
use mathlib.Core.Option.{some}
use lib.ListN.{get_elem?}
use Rattle.atomic_table.proofs.Lists.{at_set}
use Rattle.atomic_table.specs.Table as Table
use Rattle.machine_model.specs.Beneath.slot_arena.specs.declared.refs.Ref.{Ref}
use Rattle.machine_model.specs.Beneath.slot_arena.specs.Heaps.{node_at}
use Rattle.machine_model.specs.Beneath.slot_arena.specs.Refs.{slot_of}
use Rattle.proof_claims.specs.Claims.{Has}
use Rattle.proof_claims.specs.Held.{Holder, OfHandle, OfNode}
use Rattle.proof_claims.specs.Beneath.proof_reuse.specs.Laws.{IsGarbage}
use Rattle.proof_waiting.specs.Beneath.proof_slots.proofs.Unswept.Kept.{one_ref}
use Rattle.lock_free.specs.declared.rules.Retired.{Retired}
use Rattle.lock_free.specs.declared.rules.View.{View}
use Rattle.lock_free.specs.declared.sizes.Sizes.{Sizes}
use Rattle.lock_free.specs.Accounts.{bounds_for, place_at, place_of, state_of}
use Rattle.lock_free.specs.Claims.{held_now, is_there}
use Rattle.lock_free.specs.Counts.{references}
use Rattle.lock_free.specs.Holdings.{AreHeld, IsHere, WasGarbageBefore, count_of, retired_in, retired_of}
use Rattle.lock_free.specs.Nodes.{class_of}
use Rattle.lock_free.specs.Places.{count_word, IsSlot}
use Rattle.lock_free.specs.Reclaiming.{reclaiming}
use Rattle.lock_free.specs.Rules.{AreEpochs, AreOwed, IsKept, IsRetired, Standing}
use Rattle.lock_free.proofs.ClaimsThere.{fewer_there}
use Rattle.lock_free.proofs.CountsStay.{owed_set}
use Rattle.lock_free.proofs.CountWords.{one_class}
use Rattle.lock_free.proofs.EpochStays.{epoch_in}
use Rattle.lock_free.proofs.Framing.{class_small}
use Rattle.lock_free.proofs.Drafts.{left}
use Rattle.lock_free.proofs.HeldStill.{here_slot, retired_before, retired_set}
use Rattle.lock_free.proofs.Idle.{empty_has}
use Rattle.lock_free.proofs.OneStep.Holders.{holders_used}
use Rattle.lock_free.proofs.OneStep.Retired.{retired_used}
use Rattle.lock_free.proofs.LinesStay.{lines_still, lines_then}
use Rattle.lock_free.specs.Reached.{HoldsNamed, IsDead, IsOwed, IsReached, at_first, by_node}
use Rattle.lock_free.specs.Live.{IsLive}
use Rattle.lock_free.proofs.HeldFrom.{held_within}
use Rattle.lock_free.proofs.NamedHeld.{shallow_unheld}
use Rattle.lock_free.proofs.Led.{named_known}
use Rattle.lock_free.proofs.OneStep.Found.{live_used}
use Rattle.proof_claims.specs.Beneath.proof_reuse.specs.Beneath.proof_followed.proofs.Live.{followed_known}
use Rattle.proof_memory.proofs.Safety.AtEachTime.{safe_along}
use Rattle.proof_memory.specs.Laws.{IsInUse}

-- ---- lists of what was retired

abbrev is_of : ℕ → Retired → ℕ
is_of n x = cond ((x.number == n) && not x.deep) 1 0

fewer_by : (n : ℕ) (x : Retired) (rest xs : List Retired) (stays : Bool) → retired_of n rest ≤ retired_of n xs → retired_of n (cond stays (x ∷ rest) rest) ≤ retired_of n (x ∷ xs)
fewer_by n x rest xs true h = let one = sum_by-cons (is_of n) x rest in let all = sum_by-cons (is_of n) x xs in omega (arith, one, all, h)
fewer_by n x rest xs false h = let all = sum_by-cons (is_of n) x xs in omega (arith, all, h)

pub fewer_left : (n : ℕ) (f : Retired → Bool) (xs : List Retired) → retired_of n (filter f xs) ≤ retired_of n xs
fewer_left n f [] = omega arith
fewer_left n f (x ∷ xs) = fewer_by n x (filter f xs) xs (f x) (fewer_left n f xs)

pub some_retired : (xs : List Retired) (x : Retired) → Contains xs x → x.deep ≡ false → 1 ≤ retired_of x.number xs
some_retired [] x has shallow = absurd (empty_has x has)
some_retired (y ∷ xs) x has shallow =
    let all = sum_by-cons (is_of x.number) y xs in elim (Contains-append_cases (y ∷ []) xs x has) [
      | inl first ↦ (let one = ap {B = ℕ} (λ b. cond (b && not y.deep) 1 0) (eq-eqb y.number x.number (ap (λ (z : Retired). z.number) (only y x first)))
          ∙ ap {B = ℕ} (λ b. cond (not b) 1 0) (ap (λ (z : Retired). z.deep) (only y x first) ∙ shallow) in omega (arith, all, one))
      | inr rest ↦ (let some = some_retired xs x rest shallow in omega (arith, all, some))
    ]
  where
    only : (y z : Retired) → Contains (y ∷ []) z → y ≡ z
    only y z (i, within, at_i) = let zero_is : i ≡ 0 = omega arith in subst (λ k. get_or (y ∷ []) k z ≡ z) zero_is at_i

-- ---- the slot

module _ (sizes : Sizes) (s : Table.State Call View) (kept : IsKept sizes s) (epochs : AreEpochs s.words s.views) (owed : AreOwed s.views) (id : ℕ) (v : View) (at : get_elem? s.views id ≡ some v)
    (x : Retired) (has : Contains v.retired x) (ripe : x.stamp + 3 ≤ epoch_in s.words) (shallow : x.deep ≡ false)
    (not_live : ¬ IsLive (state_of sizes kept.account) ((kept.seats id v at).retired x has).was.node) where
  abbrev stands_then : Standing
  stands_then k = if k == x.number then false else kept.stands k

  abbrev view_then : View
  view_then = reclaiming v x.class x.name

  abbrev views_then : List View
  views_then = set s.views id view_then

  is : IsRetired sizes kept.account kept.stands x
  is = (kept.seats id v at).retired x has

  its : IsHere sizes kept.account kept.stands is.was.node
  its = (retired_used sizes kept.account kept.bounds kept.quiet x is.was is.grown, ap kept.stands is.was.number ∙ is.still)

  stood_by : (k : ℕ) → stands_then k ≡ true → (kept.stands k ≡ true) × (k ≢ x.number)
  stood_by k e = elim (cases_eq k x.number) [
    | inl same ↦ absurd (true≢false (sym e ∙ ap (λ b. if b then false else kept.stands k) (eq-eqb k x.number same)))
    | inr differs ↦ (sym (ap (λ b. if b then false else kept.stands k) (ne_eqb k x.number differs)) ∙ e, differs)
  ]

  stands_still : (k : ℕ) → k ≢ x.number → kept.stands k ≡ true → stands_then k ≡ true
  stands_still k differs h = ap (λ b. if b then false else kept.stands k) (ne_eqb k x.number differs) ∙ h

  was_here : (k : Ref) → IsHere sizes kept.account stands_then k → IsHere sizes kept.account kept.stands k
  was_here k here = (here.0, (stood_by (slot_of k) here.1).0)

  fewer : (by : Holder) → is_there stands_then by ≡ true → is_there kept.stands by ≡ true
  fewer (OfHandle handle) e = e
  fewer (OfNode j) e = (stood_by (slot_of j) e).0

  -- who holds a reference is pinned since later
  unowed : (other : ℕ) (w : View) → get_elem? s.views other ≡ some w → (k : Ref) → Contains w.owed k → slot_of k ≢ x.number
  unowed other w e k c same =
      let held = owed.pinned other w e k c in
      let early = owed.early id other v w at e x k has c (sym same) held.0 held.1 in
      let pin = epochs.pinned other w e held.0 held.1 in
      let soon = pin.soon in
      omega (arith, early, soon, ripe)

  owed_before : (other : ℕ) (w : View) → get_elem? views_then other ≡ some w → (k : Ref) → Contains w.owed k → (y : View) × (get_elem? s.views other ≡ some y) × Contains y.owed k × (y.actor ≡ w.actor)
  owed_before other w e k c = elim (at_set s.views id other view_then w e) [
    | inl p ↦ (v, ap (λ n. get_elem? s.views n) p.0 ∙ at, subst (λ (y : View). Contains y.owed k) (sym p.1) c, ap (λ (y : View). y.actor) p.1)
    | inr p ↦ (w, p.1, c, refl)
  ]

  spare_then : (class name : ℕ) → class < 3 → IsSlot sizes class name → ((k : Ref) → IsHere sizes kept.account stands_then k → place_of kept.account k ≢ name) →
      1 ≤ references s.words (count_word sizes class name)
  spare_then class name small slot none = elim (cases_eq (place_of kept.account is.was.node) name) [
    | inl same ↦
        (let node = node_at (state_of sizes kept.account).heap is.was.node in
        let classes =
        one_class sizes (class_of node) class name (class_small node) small (subst (IsSlot sizes (class_of node)) same (here_slot sizes s kept is.was.node its)) slot in
        let word : count_of sizes kept.account is.was.node ≡ count_word sizes class name = ap (count_word sizes (class_of node)) same ∙ ap (λ b. count_word sizes b name) classes in
        let old = kept.held.counted is.was.node its in
        let some = some_retired v.retired x has shallow in
        let number = ap (λ n. retired_in n v) is.was.number in
        let all = retired_set (slot_of is.was.node) s.views id v at (record v { retired = [] }) in
        let counted = ap (references s.words) word in
        omega (arith, old, some, number, all, counted))
    | inr differs ↦
        kept.held.spare class name small slot (λ k here place.
        none k (here.0, stands_still (slot_of k) (λ same. differs (ap (place_at kept.account) (is.was.number ∙ sym same) ∙ place)) here.1) place)
  ]

  -- what stands no more from now on was garbage when it was retired
  was_garbage : (j k : Ref) → Has (held_now sizes kept.account) (OfNode j) k → stands_then (slot_of j) ≡ false → WasGarbageBefore sizes kept.account j
  was_garbage j k holds gone = elim (cases_eq (slot_of j) x.number) [
    | inl same ↦
        (let used = holders_used (bounds_for sizes kept.account.steps) kept.bounds kept.account.steps kept.quiet j k holds in
        let one : is.was.node ≡ j = one_ref (state_of sizes kept.account).heap is.was.node j its.0 used (is.was.number ∙ sym same) in
        record { first = x.account; grown = is.grown; garbage = subst (IsGarbage (state_of sizes x.account)) one is.was.garbage })
    | inr differs ↦ kept.held.gone j k holds (sym (ap (λ b. if b then false else kept.stands (slot_of j)) (ne_eqb (slot_of j) x.number differs)) ∙ gone)
  ]

  -- ---- what seats hold, and on

  first_before : (k : Ref) → IsOwed views_then k ⊎ IsDead sizes kept.account views_then k → IsReached sizes kept.account s.views k
  first_before k (inl o) = let y = owed_before o.0 o.1 o.2 k o.3 in at_first k (inl (o.0, y.0, y.1, y.2))
  first_before k (inr d) =
      let z = retired_before s.views id v at view_then (λ r there. (left (λ (q : Retired). q.name) x.name v.retired r there).1) d.id d.view d.at d.item d.its in
      at_first k (inr (record { used = d.used; id = z.0; view = z.1; at = z.2; item = d.item; its = z.3; deep = d.deep; number = d.number }))

  reached_was : (k : Ref) → IsReached sizes kept.account views_then k → IsReached sizes kept.account s.views k
  reached_was =
      held_within sizes kept.account (λ r. IsOwed views_then r ⊎ IsDead sizes kept.account views_then r) (λ r. IsOwed s.views r ⊎ IsDead sizes kept.account s.views r) first_before

  -- it is counted still, so no other seat has retired it deep
  undead : (k : Ref) → IsHere sizes kept.account kept.stands k → (other : ℕ) (w : View) → get_elem? s.views other ≡ some w → (y : Retired) → Contains w.retired y → y.deep ≡ true →
      slot_of k ≡ y.number → slot_of k ≢ x.number
  undead k here other w e y c deep is same =
      let none = kept.held.dead other w e y c deep k here is in
      let all = kept.held.counted k here in
      let some = some_retired v.retired x has shallow in
      let number = ap (λ n. retired_in n v) same in
      let slots = retired_set (slot_of k) s.views id v at (record v { retired = [] }) in
      omega (arith, none, all, some, number, slots)

  node_is : (k : Ref) → IsInUse (state_of sizes kept.account).heap k → slot_of k ≡ x.number → k ≡ is.was.node
  node_is k used same = one_ref (state_of sizes kept.account).heap k is.was.node used its.0 (same ∙ sym is.was.number)

  -- nobody whom nothing leads to holds it
  unheld : (j k : Ref) → HoldsNamed sizes kept.account j k → slot_of k ≢ x.number
  unfolding is
  unheld j k holds same =
      let used = kept.held.used (record { by = OfNode j; on = k }) holds.0 in
      let safe = safe_along (bounds_for sizes kept.account.steps) kept.bounds kept.account.steps in
      shallow_unheld sizes s kept id v at x has shallow j k
      (λ followed.
      (let live = followed_known (state_of sizes kept.account) safe (λ n. Unit {0}) followed in
      not_live (subst (IsLive (state_of sizes kept.account)) (node_is k used same)
      (named_known sizes kept.account kept.bounds (λ n. Unit {0}) j k live (live_used sizes kept.account kept.bounds j live) holds.1)))) holds.0 (sym same)

  reached_apart : (k : Ref) → IsReached sizes kept.account views_then k → slot_of k ≢ x.number
  reached_apart r (at_first k (inl o)) = let y = owed_before o.0 o.1 o.2 r o.3 in unowed o.0 y.0 y.1 r y.2
  reached_apart r (at_first k (inr d)) =
      let z = retired_before s.views id v at view_then (λ q there. (left (λ (q : Retired). q.name) x.name v.retired q there).1) d.id d.view d.at d.item d.its in
      undead r (d.used, kept.held.reached r (first_before r (inr d))) z.0 z.1 z.2 d.item z.3 d.deep d.number
  reached_apart r (by_node j k from holds) = unheld j r holds

  pub held_reclaimed : AreHeld sizes kept.account stands_then s.words views_then
  held_reclaimed = record {
    counted = λ k here.
        (let old = kept.held.counted k (was_here k here) in
        let claims = fewer_there k kept.stands stands_then fewer (held_now sizes kept.account).claims in
        let seats = owed_set k s.views id v at view_then in
        let slots = retired_set (slot_of k) s.views id v at view_then in
        let less = fewer_left (slot_of k) (λ (y : Retired). not (y.name == x.name)) v.retired in
        omega (arith, old, claims, seats, slots, less));
    spare = spare_then;
    fresh = kept.held.fresh;
    owed = λ other w e k c.
        (let y = owed_before other w e k c in let here = kept.held.owed other y.0 y.1 k y.2 in (here.0, stands_still (slot_of k) (unowed other y.0 y.1 k y.2) here.1));
    known = λ other w e k c a o runs private. (let y = owed_before other w e k c in kept.held.known other y.0 y.1 k y.2 a o runs private ∙ y.3);
    lines = lines_then sizes s kept id v at kept.account view_then refl (lines_still sizes s kept id v at view_then (λ k. omega arith));
    dead = λ other w e y c deep k here is.
        (let z = retired_before s.views id v at view_then (λ r there. (left (λ (q : Retired). q.name) x.name v.retired r there).1) other w e y c in
        kept.held.dead z.0 z.1 z.2 y z.3 deep k (was_here k here) is);
    unlet = λ k gone here.
        (let old = kept.held.unlet k gone (was_here k here) in
        let claims = fewer_there k kept.stands stands_then fewer (held_now sizes kept.account).claims in
        let seats = owed_set k s.views id v at view_then in
        omega (arith, old, claims, seats));
    reached = λ k from. stands_still (slot_of k) (reached_apart k from) (kept.held.reached k (reached_was k from));
    unborn = λ k high. stands_still k (λ same. (let low = is.was.made in let more = ap length is.grown.more_names in let all = length-append x.account.names is.grown.names in
        omega (arith, high, same, low, more, all))) (kept.held.unborn k high);
    gone = was_garbage;
    used = kept.held.used;
    owned = kept.held.owned;
    owns = kept.held.owns;
  }
