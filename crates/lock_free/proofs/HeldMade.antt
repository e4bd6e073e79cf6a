-- Each reference is counted still where a step makes a node: its seat holds the first one to it, and what it names the seat held, or the main node does that it is to replace.
use Rattle.history.specs.declared.calls.Call.{Call}
use Rattle.std.proofs.Common.{◌≡◌, ◌≢◌, ◌+◌, ◌≤◌, ◌<◌, ◌⊎◌, ◌++◌, inl, inr, ℕ, zero, suc, Bool, true, false, List, [], ◌∷◌, Contains, Some, cond, get_or, length, set, refl, sym, ap, subst}
use Rattle.std.proofs.Common.{◌∙◌, arith, ne_eqb, ◌==◌, ◌&&◌, ◌||◌, not, length-append}
use Rattle.std.proofs.lemmas.Bool.{cases_eq, true≢false}
use Rattle.std.proofs.lemmas.List.Elements.{Contains-append_left, Contains-append_right, Contains-push}
use Rattle.std.proofs.lemmas.List.Sums.{sum_by-cons}
use Rattle.std.specs.List.{list_any}
use Rattle.std.proofs.lemmas.List.Folds.{list_any-append}
use mathlib.Core.Option.{some}
use lib.ListN.{get_elem?}
use Rattle.atomic_table.proofs.Lists.{at_set}
use Rattle.atomic_table.specs.Table as Table
use Rattle.machine_model.specs.Beneath.slot_arena.specs.declared.nodes.Node.{Node}
use Rattle.machine_model.specs.Beneath.slot_arena.specs.declared.refs.Ref.{Ref}
use Rattle.machine_model.specs.Beneath.slot_arena.specs.Heaps.{node_at, refs_of_node}
use Rattle.machine_model.specs.Beneath.slot_arena.specs.Refs.{slot_of}
use Rattle.machine_model.specs.declared.operations.Operation.{Operation}
use Rattle.machine_model.specs.Grown.{standing}
use Rattle.machine_model.specs.States.{State, operation_of}
use Rattle.machine_model.proofs.Grown.{node_standing}
use Rattle.proof_claims.specs.Claims.{Has}
use Rattle.proof_claims.specs.Held.{Change, Claim, Given, Held, Holder, OfHandle, OfNode, Stays, held_after, is_owned, takes}
use Rattle.proof_commits.specs.Runs.{HasIndirection}
use Rattle.proof_memory.specs.Laws.{IsInUse}
use Rattle.proof_waiting.specs.Beneath.proof_slots.proofs.Unswept.Kept.{one_ref}
use Rattle.lock_free.specs.declared.accounts.Account.{Account}
use Rattle.lock_free.specs.declared.rules.Retired.{Retired}
use Rattle.lock_free.specs.declared.rules.View.{View}
use Rattle.lock_free.specs.declared.sizes.Sizes.{Sizes}
use Rattle.lock_free.specs.Accounts.{place_of, state_of, HasGrown, IsOwn, bounds_for}
use Rattle.lock_free.specs.Claims.{HoldsAll, claims_there, held_now, is_claim_on, is_there, owes_after}
use Rattle.lock_free.specs.Counts.{IsCount, how_often, owed_on, references}
use Rattle.lock_free.specs.Holdings.{AreHeld, IsHere, count_of, retired_in, retired_of, retired_on, HasBeenLetGo}
use Rattle.lock_free.specs.Nodes.{class_of}
use Rattle.lock_free.specs.Places.{count_word, IsSlot}
use Rattle.lock_free.specs.Rules.{IsKept, Standing}
use Rattle.lock_free.proofs.ClaimsThere.{fewer_there, has_often, often_has, step_balance}
use Rattle.lock_free.proofs.CountsStay.{often_first, often_other, owed_set, often_none}
use Rattle.lock_free.proofs.Framing.{class_small}
use Rattle.lock_free.proofs.HeldStill.{here_count, here_private, retired_before, retired_set}
use Rattle.lock_free.proofs.HeldTakes.{claim_was, owes_made, taken_on}
use Rattle.lock_free.proofs.Waiting.{grown_both}
use Rattle.lock_free.proofs.LinesStay.{LinesStay, lines_then}
use Rattle.lock_free.specs.Reached.{HoldsNamed, IsDead, IsOwed, IsReached, at_first, by_node}
use Rattle.lock_free.proofs.HeldFrom.{held_each}
use Rattle.lock_free.proofs.LetGoSince.{let_go_used}
use Rattle.lock_free.proofs.OneStep.Holders.{holders_used}

-- ---- nobody holds what isn't made yet

none_claims : (stands : ℕ → Bool) (k : Ref) (claims : List Claim) → ((c : Claim) → Contains claims c → c.on ≢ k) → claims_there stands k claims ≡ 0
none_claims stands k [] none = refl
none_claims stands k (c ∷ claims) none =
    let all = sum_by-cons (λ (x : Claim). cond {A = ℕ} (is_claim_on stands k x) 1 0) c claims in
    let first = ap {B = ℕ} (λ b. cond (b && is_there stands c.by) 1 0) (ne_eqb c.on k (none c (Contains-append_left (c ∷ []) claims c (Contains-push [] c)))) in
    let rest = none_claims stands k claims (λ x has. none x (Contains-append_right (c ∷ []) claims x has)) in
    omega (arith, all, first, rest)

none_owed : (k : Ref) (views : List View) → ((id : ℕ) (v : View) → get_elem? views id ≡ some v → Contains v.owed k → ⊥) → owed_on k views ≡ 0
none_owed k [] none = refl
none_owed k (v ∷ views) none =
    let all = sum_by-cons (λ (x : View). how_often k x.owed) v views in
    let first = often_none k v.owed (none 0 v refl) in
    let rest = none_owed k views (λ id w e. none (suc id) w e) in
    omega (arith, all, first, rest)

none_of : (n : ℕ) (xs : List Retired) → ((x : Retired) → Contains xs x → x.number ≢ n) → retired_of n xs ≡ 0
none_of n [] none = refl
none_of n (x ∷ xs) none =
    let all = sum_by-cons (λ (y : Retired). cond {A = ℕ} ((y.number == n) && not y.deep) 1 0) x xs in
    let first = ap {B = ℕ} (λ b. cond (b && not x.deep) 1 0) (ne_eqb x.number n (none x (Contains-append_left (x ∷ []) xs x (Contains-push [] x)))) in
    let rest = none_of n xs (λ y c. none y (Contains-append_right (x ∷ []) xs y c)) in
    omega (arith, all, first, rest)

none_retired : (n : ℕ) (views : List View) → ((id : ℕ) (v : View) → get_elem? views id ≡ some v → (x : Retired) → Contains v.retired x → x.number ≢ n) → retired_on n views ≡ 0
none_retired n [] none = refl
none_retired n (v ∷ views) none =
    let all = sum_by-cons (λ (x : View). retired_in n x) v views in
    let first = none_of n v.retired (none 0 v refl) in
    let rest = none_retired n views (λ id w e. none (suc id) w e) in
    omega (arith, all, first, rest)

either_of : (a b : Bool) → (a || b) ≡ true → (a ≡ true) ⊎ (b ≡ true)
either_of true b e = inl refl
either_of false b e = inr e

-- ---- the node is made

module _ (sizes : Sizes) (s : Table.State Call View) (kept : IsKept sizes s) (id : ℕ) (v : View) (at : get_elem? s.views id ≡ some v) (after : Account) (grown : HasGrown kept.account after) (name : ℕ)
    (names : after.names ≡ kept.account.names ++ name ∷ []) (made : Ref) (number : slot_of made ≡ length kept.account.names) (node : Node)
    -- it is in use then, all that was is, and nothing else
    (its_use : IsInUse (state_of sizes after).heap made) (its_node : node_at (state_of sizes after).heap made ≡ node)
    (others : (k : Ref) → slot_of k ≢ slot_of made → standing (state_of sizes after).heap k ≡ standing (state_of sizes kept.account).heap k)
    (unmade : (k : Ref) → IsInUse (state_of sizes kept.account).heap k → slot_of k < length kept.account.names)
    (private : (a : ℕ) (o : Operation) → operation_of (state_of sizes after) a ≡ Some o → (k : Ref) → Contains o.private k →
    ((a ≡ v.actor) × (k ≡ made)) ⊎ ((p : Operation) × (operation_of (state_of sizes kept.account) a ≡ Some p) × Contains p.private k))
    (stands_then : Standing) (stands_new : stands_then (slot_of made) ≡ true) (stands_old : (k : ℕ) → k ≢ slot_of made → stands_then k ≡ kept.stands k)
    -- its slot was spare
    (slot : IsSlot sizes (class_of node) name) (spare : (k : Ref) → IsHere sizes kept.account kept.stands k → place_of kept.account k ≢ name)
    (change : Change) (held_is : held_now sizes after ≡ held_after change (held_now sizes kept.account)) (same_fate : (c : Claim) → change.fate c ≡ Stays c.by) (makes_it : change.made ≡ made ∷ [])
    (holds : HoldsAll (takes change) v.owed)
    -- claims are added to it alone
    (adds : (j k : Ref) → Contains change.added (record { by = OfNode j; on = k }) → j ≡ made)
    (w : View) (actor : w.actor ≡ v.actor) (retired : w.retired ≡ v.retired) (owed : w.owed ≡ owes_after change (held_now sizes kept.account).claims v.owed)
    (retired_made : (other : ℕ) (x : View) → get_elem? s.views other ≡ some x → (y : Retired) → Contains x.retired y → y.number < length kept.account.names)
    (let_go : (k : Ref) → HasBeenLetGo sizes after k → HasBeenLetGo sizes kept.account k)
    (lines : LinesStay sizes kept.account after v w) (words_then : List ℕ) (same : (c : ℕ) → IsCount sizes c → references words_then c ≡ references s.words c) where
  abbrev before : State
  before = state_of sizes kept.account

  abbrev views_then : List View
  views_then = set s.views id w

  abbrev held : Held
  held = held_now sizes kept.account

  apart : (k : Ref) → IsInUse before.heap k → slot_of k ≢ slot_of made
  apart k used same = let low = unmade k used in omega (arith, low, same, number)

  used_before : (k : Ref) → slot_of k ≢ slot_of made → IsInUse (state_of sizes after).heap k → IsInUse before.heap k
  used_before k differs used = (used.0, sym (others k differs) ∙ used.1)

  used_then : (k : Ref) → IsInUse before.heap k → IsInUse (state_of sizes after).heap k
  used_then k used = (used.0, others k (apart k used) ∙ used.1)

  here_before : (k : Ref) → slot_of k ≢ slot_of made → IsHere sizes after stands_then k → IsHere sizes kept.account kept.stands k
  here_before k differs here = (used_before k differs here.0, sym (stands_old (slot_of k) differs) ∙ here.1)

  here_then : (k : Ref) → IsHere sizes kept.account kept.stands k → IsHere sizes after stands_then k
  here_then k here = (used_then k here.0, stands_old (slot_of k) (apart k here.0) ∙ here.1)

  its_here : IsHere sizes after stands_then made
  its_here = (its_use, stands_new)

  is_made : (k : Ref) → slot_of k ≡ slot_of made → IsInUse (state_of sizes after).heap k → k ≡ made
  is_made k same used = one_ref (state_of sizes after).heap k made used its_use same

  place_then : (k : Ref) → slot_of k < length kept.account.names → place_of after k ≡ place_of kept.account k
  place_then k low = ap (λ xs. get_or xs (slot_of k) 0) names ∙ place_kept kept.account.names (name ∷ []) (slot_of k) low
    where
      place_kept : (xs more : List ℕ) (k : ℕ) → k < length xs → get_or (xs ++ more) k 0 ≡ get_or xs k 0
      place_kept [] more k h = absurd (omega (arith, h))
      place_kept (x ∷ xs) more zero h = refl
      place_kept (x ∷ xs) more (suc k) h = place_kept xs more k (omega (arith, h))

  its_place : place_of after made ≡ name
  its_place = ap (λ xs. get_or xs (slot_of made) 0) names ∙ ap (λ n. get_or (kept.account.names ++ name ∷ []) n 0) number ∙ last_of kept.account.names
    where
      last_of : (xs : List ℕ) → get_or (xs ++ name ∷ []) (length xs) 0 ≡ name
      last_of [] = refl
      last_of (x ∷ xs) = last_of xs

  node_then : (k : Ref) → (used : IsInUse before.heap k) → node_at (state_of sizes after).heap k ≡ node_at before.heap k
  unfolding used_then node_at
  node_then k used = let u = used_then k used in node_standing (state_of sizes after).heap k u.0 u.1 ∙ sym (node_standing before.heap k used.0 used.1)

  count_then : (k : Ref) → IsHere sizes kept.account kept.stands k → references words_then (count_of sizes after k) ≡ references s.words (count_of sizes kept.account k)
  count_then k here =
      ap (references words_then)
      (ap (λ n. count_word sizes (class_of n) (place_of after k)) (node_then k here.0) ∙ ap (count_word sizes (class_of (node_at before.heap k))) (place_then k (unmade k here.0)))
      ∙ same (count_of sizes kept.account k) (here_count sizes s kept k here)

  its_word : count_of sizes after made ≡ count_word sizes (class_of node) name
  its_word = ap (λ n. count_word sizes (class_of n) (place_of after made)) its_node ∙ ap (count_word sizes (class_of node)) its_place

  is_spare : 1 ≤ references words_then (count_word sizes (class_of node) name)
  is_spare =
      let old = kept.held.spare (class_of node) name (class_small node) slot spare in
      let count = same (count_word sizes (class_of node) name) (record { class = class_of node; small = class_small node; name = name; slot = slot; is = refl }) in
      omega (arith, old, count)

  its_count : 1 ≤ references words_then (count_of sizes after made)
  its_count = subst (λ n. 1 ≤ references words_then n) (sym its_word) is_spare

  -- ---- who holds what then

  stays : (c : Claim) (by : Holder) → change.fate c ≡ Stays by → is_there stands_then by ≡ true → by ≡ c.by
  stays c by is there = stays_with c.by by (sym is ∙ same_fate c)
    where
      stays_with : (to by : Holder) → Stays by ≡ Stays to → by ≡ to
      stays_with to by e = cc e

  not_given : (c : Claim) → change.fate c ≡ Given → ⊥
  not_given c is = never c.by (sym is ∙ same_fate c)
    where
      never : (by : Holder) → Given ≡ Stays by → ⊥
      never by e = cc e

  balance : (k : Ref) → claims_there stands_then k (held_now sizes after).claims + how_often k w.owed ≤ claims_there stands_then k held.claims + how_often k v.owed + how_often k (made ∷ [])
  balance k =
      let all = step_balance k stands_then stands_then change (λ c by is there. subst (λ h. is_there stands_then h ≡ true) (stays c by is there) there)
      (λ c is. absurd (not_given c is)) held.claims v.owed holds
      in
      let its = ap (how_often k) makes_it in
      let owes = ap (how_often k) owed in
      let claims = ap (λ (h : Held). claims_there stands_then k h.claims) held_is in
      omega (arith, all, its, owes, claims)

  -- what isn't made yet stands
  stood : (j : ℕ) → stands_then j ≡ true → kept.stands j ≡ true
  stood j e = elim (cases_eq j (slot_of made)) [
    | inl same ↦ kept.held.unborn j (omega (arith, same, number))
    | inr differs ↦ sym (stands_old j differs) ∙ e
  ]

  -- what stands no more stood no more before
  fallen : (j : ℕ) → stands_then j ≡ false → kept.stands j ≡ false
  fallen j e = elim (cases_eq j (slot_of made)) [
    | inl same ↦ absurd (true≢false (sym (ap stands_then same ∙ stands_new) ∙ e))
    | inr differs ↦ sym (stands_old j differs) ∙ e
  ]

  there_before : (by : Holder) → is_there stands_then by ≡ true → is_there kept.stands by ≡ true
  there_before (OfHandle handle) e = e
  there_before (OfNode j) e = stood (slot_of j) e

  old_claims : (k : Ref) → claims_there stands_then k held.claims ≤ claims_there kept.stands k held.claims
  old_claims k = fewer_there k kept.stands stands_then there_before held.claims

  owed_was : (k : Ref) → Contains w.owed k → Contains v.owed k ⊎ (k ≡ made)
  owed_was k c = elim (owes_made change same_fate held.claims v.owed holds k (subst (λ ks. Contains ks k) owed c)) [
    | inl old ↦ inl old
    | inr new ↦ inr (sym (one_there k (subst (λ ks. Contains ks k) makes_it new)))
  ]
    where
      one_there : (z : Ref) → Contains (made ∷ []) z → made ≡ z
      one_there z (i, within, at_i) = let zero_is : i ≡ 0 = omega arith in subst (λ n. get_or (made ∷ []) n z ≡ z) zero_is at_i

  owed_before : (other : ℕ) (x : View) → get_elem? views_then other ≡ some x → (k : Ref) → Contains x.owed k →
      ((y : View) × (get_elem? s.views other ≡ some y) × Contains y.owed k × (y.actor ≡ x.actor)) ⊎ ((k ≡ made) × (x.actor ≡ v.actor))
  owed_before other x e k c = elim (at_set s.views id other w x e) [
    | inl p ↦ elim (owed_was k (subst (λ (y : View). Contains y.owed k) (sym p.1) c)) [
      | inl had ↦ inl (v, ap (λ n. get_elem? s.views n) p.0 ∙ at, had, sym actor ∙ ap (λ (y : View). y.actor) p.1)
      | inr new ↦ inr (new, ap (λ (y : View). y.actor) (sym p.1) ∙ actor)
    ]
    | inr p ↦ inl (x, p.1, c, refl)
  ]

  retired_same : (n : ℕ) → retired_on n views_then ≡ retired_on n s.views
  retired_same n =
      let all = retired_set n s.views id v at w in let own : retired_in n w ≡ retired_in n v = ap (λ (xs : List Retired). retired_in n (record v { retired = xs })) retired in omega (arith, all, own)

  -- nobody held it before
  unheld : claims_there kept.stands made held.claims + owed_on made s.views + retired_on (slot_of made) s.views ≡ 0
  unheld =
      let claims = none_claims kept.stands made held.claims (λ c has is. apart c.on (kept.held.used c has) (ap slot_of is)) in
      let seats = none_owed made s.views (λ other x e c. apart made (kept.held.owed other x e made c).0 refl) in
      let slots = none_retired (slot_of made) s.views (λ other x e y c is. (let low = retired_made other x e y c in omega (arith, low, is, number))) in
      omega (arith, claims, seats, slots)

  counted_then : (k : Ref) → IsHere sizes after stands_then k →
      claims_there stands_then k (held_now sizes after).claims + owed_on k views_then + retired_on (slot_of k) views_then ≤ references words_then (count_of sizes after k)
  counted_then k here =
      let more = balance k in
      let claims = old_claims k in
      let seats = owed_set k s.views id v at w in
      let slots = retired_same (slot_of k) in
      elim (cases_eq (slot_of k) (slot_of made)) [
        | inl is ↦
            (let same_k = is_made k is here.0 in
            let none = subst (λ r. claims_there kept.stands r held.claims + owed_on r s.views + retired_on (slot_of r) s.views ≡ 0) (sym same_k) unheld in
            let one = subst (λ r. how_often r (made ∷ []) ≡ 1) (sym same_k) (often_first made []) in
            let count = subst (λ r. 1 ≤ references words_then (count_of sizes after r)) (sym same_k) its_count in
            let own = owed_set k s.views id v at v in
            omega (arith, more, claims, seats, slots, none, one, count, own))
        | inr differs ↦
            (let was = here_before k differs here in
            let old = kept.held.counted k was in
            let count = count_then k was in
            let none = often_other k made [] (λ e. differs (ap slot_of (sym e))) in
            omega (arith, more, claims, seats, slots, old, count, none))
      ]

  -- ---- what was let go of, and what seats hold

  unlet_then : (k : Ref) → HasBeenLetGo sizes after k → IsHere sizes after stands_then k →
      claims_there stands_then k (held_now sizes after).claims + owed_on k views_then + 1 ≤ references words_then (count_of sizes after k)
  unlet_then k gone here =
      let differs = apart k (let_go_used sizes kept.account kept.bounds kept.quiet k (let_go k gone)) in
      let was = here_before k differs here in
      let old = kept.held.unlet k (let_go k gone) was in
      let more = balance k in
      let claims = old_claims k in
      let seats = owed_set k s.views id v at w in
      let count = count_then k was in
      let none = often_other k made [] (λ e. differs (ap slot_of (sym e))) in
      omega (arith, old, more, claims, seats, count, none)

  first_was : (k : Ref) → IsOwed views_then k ⊎ IsDead sizes after views_then k → IsReached sizes kept.account s.views k ⊎ (k ≡ made)
  first_was k (inl o) = elim (owed_before o.0 o.1 o.2 k o.3) [
    | inl y ↦ inl (at_first k (inl (o.0, y.0, y.1, y.2)))
    | inr new ↦ inr new.0
  ]
  first_was k (inr d) =
      let z = retired_before s.views id v at w (λ (r : Retired) has. subst (λ rs. Contains rs r) retired has) d.id d.view d.at d.item d.its in
      let low = retired_made z.0 z.1 z.2 d.item z.3 in
      let number_is = d.number in
      inl (at_first k (inr (record {
        used = used_before k (λ same_slot. omega (arith, low, number_is, same_slot, number)) d.used;
        id = z.0;
        view = z.1;
        at = z.2;
        item = d.item;
        its = z.3;
        deep = d.deep;
        number = d.number;
      })))

  holder_used : (j k : Ref) → Has held (OfNode j) k → IsInUse before.heap j
  holder_used j k has = holders_used (bounds_for sizes kept.account.steps) kept.bounds kept.account.steps kept.quiet j k has

  -- what the node holds its seat held
  on_was : (j k : Ref) → IsReached sizes kept.account s.views j ⊎ (j ≡ made) → HoldsNamed sizes after j k → IsReached sizes kept.account s.views k ⊎ (k ≡ made)
  on_was j k was its = elim (claim_was change same_fate held.claims (record { by = OfNode j; on = k }) (subst (λ (h : Held). Has h (OfNode j) k) held_is its.0)) [
    | inl old ↦ elim was [
      | inl reached ↦ inl (by_node j k reached (old, subst (λ n. Contains (refs_of_node n) k) (node_then j (holder_used j k old)) its.1))
      | inr is ↦ absurd (apart j (holder_used j k old) (ap slot_of is))
    ]
    | inr new ↦
        (let some_taken = has_often k (takes change) (taken_on change.added (record { by = OfNode j; on = k }) new) in
        let enough = holds k in inl (at_first k (inl (id, v, at, often_has k v.owed (omega (arith, some_taken, enough))))))
  ]

  reached_then : (k : Ref) → IsReached sizes after views_then k → stands_then (slot_of k) ≡ true
  reached_then k from = elim (cases_eq (slot_of k) (slot_of made)) [
    | inl same_slot ↦ ap stands_then same_slot ∙ stands_new
    | inr differs ↦ elim (held_each sizes after (λ r. IsOwed views_then r ⊎ IsDead sizes after views_then r) (λ r. IsReached sizes kept.account s.views r ⊎ (r ≡ made)) first_was on_was k from) [
      | inl reached ↦ stands_old (slot_of k) differs ∙ kept.held.reached k reached
      | inr is ↦ absurd (differs (ap slot_of is))
    ]
  ]

  pub held_made : ((i m : Ref) (own : Bool) → HasIndirection (state_of sizes after) i → IsInUse (state_of sizes after).heap m → IsOwn after i m own → is_owned (held_now sizes after) i m ≡ own) →
      ((i m : Ref) → list_any (λ (pair : Ref × Ref). (pair.0 == i) && (pair.1 == m)) change.owned ≡ true → i ≡ made) →
      AreHeld sizes after stands_then words_then views_then
  held_made owns its_own = record {
    counted = counted_then;
    spare = λ class other small its none.
        (let old = kept.held.spare class other small its (λ k here place. none k (here_then k here) (place_then k (unmade k here.0) ∙ place)) in
        let count = same (count_word sizes class other) (record { class = class; small = small; name = other; slot = its; is = refl }) in omega (arith, old, count));
    fresh = λ a o runs k c. elim (private a o runs k c) [
      | inl new ↦ subst (λ r. 1 ≤ references words_then (count_of sizes after r)) (sym new.1) its_count
      | inr p ↦
          (let old = kept.held.fresh a p.0 p.1 k p.2 in
          let count = count_then k (here_private sizes s kept a p.0 p.1 k p.2) in omega (arith, old, count))
    ];
    owed = λ other x e k c. elim (owed_before other x e k c) [
      | inl y ↦ here_then k (kept.held.owed other y.0 y.1 k y.2)
      | inr new ↦ subst (IsHere sizes after stands_then) (sym new.0) its_here
    ];
    known = λ other x e k c a o runs its. elim (owed_before other x e k c) [
      | inl y ↦ elim (private a o runs k its) [
        | inl new ↦ absurd (apart k (kept.held.owed other y.0 y.1 k y.2).0 (ap slot_of new.1))
        | inr p ↦ kept.held.known other y.0 y.1 k y.2 a p.0 p.1 p.2 ∙ y.3
      ]
      | inr new ↦ elim (private a o runs k its) [
        | inl is ↦ is.0 ∙ sym new.1
        | inr p ↦ absurd (apart k (here_private sizes s kept a p.0 p.1 k p.2).0 (ap slot_of new.0))
      ]
    ];
    lines = lines_then sizes s kept id v at after w actor lines;
    dead = λ other x e y c deep k here is.
        (let z = retired_before s.views id v at w (λ (r : Retired) has. subst (λ rs. Contains rs r) retired has) other x e y c in
        let low = retired_made z.0 z.1 z.2 y z.3 in
        let differs : slot_of k ≢ slot_of made = λ same_slot. omega (arith, low, is, same_slot, number) in
        let was = here_before k differs here in
        let old = kept.held.dead z.0 z.1 z.2 y z.3 deep k was is in
        let count = count_then k was in omega (arith, old, count));
    unlet = unlet_then;
    reached = reached_then;
    unborn = λ k high.
        (let count = ap length names in
        let all = length-append kept.account.names (name ∷ []) in
        stands_old k (λ same. (omega (arith, high, count, all, same, number))) ∙ kept.held.unborn k (omega (arith, high, count, all)));
    gone = λ j k has none. elim (claim_was change same_fate held.claims (record { by = OfNode j; on = k }) (subst (λ (h : Held). Has h (OfNode j) k) held_is has)) [
      | inl old ↦
          (let g = kept.held.gone j k old (fallen (slot_of j) none) in record { first = g.first; grown = grown_both g.first kept.account after g.grown grown; garbage = g.garbage })
      | inr new ↦ absurd (true≢false (sym (ap (λ r. stands_then (slot_of r)) (adds j k new) ∙ stands_new) ∙ none))
    ];
    used = λ c has. elim (claim_was change same_fate held.claims c (subst (λ (h : Held). Contains h.claims c) held_is has)) [
      | inl old ↦ used_then c.on (kept.held.used c old)
      | inr new ↦
          (let some_taken = has_often c.on (takes change) (taken_on change.added c new) in
          let enough = holds c.on in used_then c.on (kept.held.owed id v at c.on (often_has c.on v.owed (omega (arith, some_taken, enough)))).0)
    ];
    owned = λ i m e. elim (either_of (is_owned held i m) (list_any (λ (pair : Ref × Ref). (pair.0 == i) && (pair.1 == m)) change.owned)
        (sym (ap (λ (h : Held). is_owned h i m) held_is ∙ list_any-append (λ (pair : Ref × Ref). (pair.0 == i) && (pair.1 == m)) held.owned change.owned) ∙ e)) [
          | inl old ↦ used_then i (kept.held.owned i m old)
          | inr new ↦ subst (IsInUse (state_of sizes after).heap) (sym (its_own i m new)) its_use
        ];
    owns = owns;
  }
