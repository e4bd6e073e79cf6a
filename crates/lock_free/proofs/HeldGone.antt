-- Each reference is counted still where a step is taken that adds no claim.
use Rattle.history.specs.declared.calls.Call.{Call}
use Rattle.std.proofs.Common.{◌≡◌, ◌≢◌, ◌+◌, ◌<◌, ◌≤◌, ◌==◌, ◌&&◌, ◌⊎◌, Option, inl, inr, ℕ, Bool, true, false, List, [], ◌∷◌, ◌++◌, Contains, Some, None, flat_map, get_or, set}
use Rattle.std.proofs.Common.{if◌then◌else◌, refl, sym, ap, subst, ◌∙◌, arith, append-nil, length}
use Rattle.std.specs.List.{list_any}
use Rattle.std.proofs.lemmas.Bool.{cases_Bool, cases_eq, true≢false}
use Rattle.std.proofs.lemmas.Option.{none-some, same_Some}
use Rattle.std.proofs.lemmas.List.Concat.{flat_map-cons}
use Rattle.std.proofs.lemmas.List.Elements.{Contains-append_cases, Contains-append_left, Contains-append_right, Contains-push}
use mathlib.Core.Option.{some}
use lib.ListN.{get_elem?}
use Rattle.atomic_table.proofs.Lists.{at_set}
use Rattle.atomic_table.specs.Table as Table
use Rattle.machine_model.specs.Beneath.slot_arena.specs.declared.refs.Ref.{Ref}
use Rattle.machine_model.specs.Beneath.slot_arena.specs.Heaps.{node_at, refs_of_node}
use Rattle.machine_model.specs.Beneath.slot_arena.specs.Refs.{slot_of}
use Rattle.machine_model.specs.declared.operations.Operation.{Operation}
use Rattle.machine_model.specs.declared.steps.Step.{Step}
use Rattle.machine_model.specs.Machine.{AreBounds, is_taken_step, next}
use Rattle.machine_model.specs.States.{State, operation_of}
use Rattle.proof_claims.specs.Changes.{change_of}
use Rattle.proof_claims.specs.Claims.{Has, held_of}
use Rattle.proof_claims.specs.Held.{Change, Claim, Ends, Fate, Given, Held, Holder, OfHandle, OfNode, Stays, claims_after, held_after, kept_by}
use Rattle.proof_claims.proofs.NewClaims.{kept_from}
use Rattle.proof_commits.specs.Runs.{HasIndirection}
use Rattle.proof_memory.specs.Laws.{IsInUse}
use Rattle.lock_free.specs.declared.accounts.Account.{Account}
use Rattle.lock_free.specs.declared.rules.Retired.{Retired}
use Rattle.lock_free.specs.declared.rules.View.{View}
use Rattle.lock_free.specs.declared.sizes.Sizes.{Sizes}
use Rattle.lock_free.specs.Accounts.{bounds_for, place_of, state_of, HasGrown, OwnIs}
use Rattle.lock_free.specs.Claims.{claims_there, held_now, is_there}
use Rattle.lock_free.specs.Counts.{IsCount, how_often, references}
use Rattle.lock_free.specs.Holdings.{AreHeld, HasBeenLetGo, IsHere, WasGarbageBefore, count_of, retired_in, retired_on}
use Rattle.lock_free.specs.Live.{IsLive}
use Rattle.lock_free.specs.Nodes.{class_of}
use Rattle.lock_free.specs.Places.{count_word, IsSlot}
use Rattle.lock_free.specs.Reached.{IsDead, IsOwed, IsReached, at_first, by_node}
use Rattle.lock_free.specs.Rules.{HasActor, IsKept, Standing}
use Rattle.lock_free.proofs.ClaimsThere.{claims_stay, fewer_there, has_often, often_has}
use Rattle.lock_free.proofs.CountWords.{one_class}
use Rattle.lock_free.proofs.Framing.{class_small}
use Rattle.lock_free.proofs.HeldFrom.{before_stands, reached_before}
use Rattle.lock_free.proofs.Idle.{empty_has}
use Rattle.lock_free.proofs.CountsStay.{owed_set}
use Rattle.lock_free.proofs.LinesStay.{LinesStay, lines_then}
use Rattle.lock_free.proofs.HeldStill.{here_count, here_private, here_slot, retired_before, retired_set}
use Rattle.lock_free.proofs.OneStep.HeldLonger.{held_next}
use Rattle.lock_free.proofs.Waiting.{grown_both}

-- it is a handle, or one of these nodes
abbrev pub IsOneOf : (Ref → Type 0) → Holder → Type 0
IsOneOf Known (OfHandle handle) = Unit {0}
IsOneOf Known (OfNode j) = Known j

-- It adds no claim and makes nothing an indirection's own; and a claim goes over to another holder only where its holder was there, if that one is.
pub record IsLetting (stands stands_then : ℕ → Bool) (Known : Ref → Type 0) (change : Change) : Type 0 where
  pub stays : (c : Claim) (by : Holder) → change.fate c ≡ Stays by → is_there stands_then by ≡ true → is_there stands c.by ≡ true
  -- it stays with its holder, or goes over to a handle or one of these nodes
  pub moves : (c : Claim) (by : Holder) → change.fate c ≡ Stays by → (by ≡ c.by) ⊎ IsOneOf Known by
  pub added : change.added ≡ []
  pub owned : change.owned ≡ []

-- the same nodes are in use, in slots of the same classes
pub record AreAlike (before after : State) : Type 0 where
  pub used : (k : Ref) → IsInUse after.heap k → IsInUse before.heap k
  pub stays : (k : Ref) → IsInUse before.heap k → IsInUse after.heap k
  pub classes : (k : Ref) → IsInUse after.heap k → class_of (node_at after.heap k) ≡ class_of (node_at before.heap k)
  pub links : (i : Ref) → HasIndirection after i → HasIndirection before i
  -- a node names what it named, or what was live
  pub names : (j k : Ref) → Contains (refs_of_node (node_at after.heap j)) k → Contains (refs_of_node (node_at before.heap j)) k ⊎ IsLive before k

-- ---- what is held then

-- a claim that is kept was one on the same node
kept_was : (change : Change) (claims : List Claim) (x : Claim) → Contains (flat_map (λ (c : Claim). kept_by (change.fate c) c.on) claims) x → (c : Claim) × Contains claims c × (x.on ≡ c.on)
kept_was change [] x (i, within, at_i) = absurd (omega arith)
kept_was change (c ∷ claims) x has =
    elim (Contains-append_cases (kept_by (change.fate c) c.on) (flat_map (λ (d : Claim). kept_by (change.fate d) d.on) claims) x
    (subst (λ cs. Contains cs x) (flat_map-cons (λ (d : Claim). kept_by (change.fate d) d.on) c claims) has)) [
      | inl first ↦ (c, Contains-append_left (c ∷ []) claims c (Contains-push [] c), of_fate (change.fate c) first)
      | inr rest ↦ (let y = kept_was change claims x rest in (y.0, Contains-append_right (c ∷ []) claims y.0 y.1, y.2))
    ]
  where
    only : (y z : Claim) → Contains (y ∷ []) z → y ≡ z
    only y z (i, within, at_i) = let zero_is : i ≡ 0 = omega arith in subst (λ k. get_or (y ∷ []) k z ≡ z) zero_is at_i

    of_fate : (f : Fate) → Contains (kept_by f c.on) x → x.on ≡ c.on
    of_fate (Stays by) k = ap (λ (y : Claim). y.on) (sym (only (record { by = by; on = c.on }) x k))
    of_fate Given (i, within, at_i) = absurd (omega arith)
    of_fate Ends (i, within, at_i) = absurd (omega arith)

-- no more is held than before
pub record HoldsLess (stands stands_then : ℕ → Bool) (Known : Ref → Type 0) (held later : Held) : Type 0 where
  pub claims : (k : Ref) → claims_there stands_then k later.claims ≤ claims_there stands k held.claims
  pub was : (x : Claim) → Contains later.claims x → (c : Claim) × Contains held.claims c × (x.on ≡ c.on)
  pub owned : later.owned ≡ held.owned
  pub fewer : (j : ℕ) → stands_then j ≡ true → stands j ≡ true
  -- no node but these has a claim that it hadn't
  pub had : (j k : Ref) → Has later (OfNode j) k → Has held (OfNode j) k ⊎ Known j

module _ (stands stands_then : ℕ → Bool) (fewer : (j : ℕ) → stands_then j ≡ true → stands j ≡ true) (Known : Ref → Type 0) (held : Held) (change : Change)
    (letting : IsLetting stands stands_then Known change) where
  had_then : (j k : Ref) → Has (held_after change held) (OfNode j) k → Has held (OfNode j) k ⊎ Known j
  had_then j k has = elim (kept_from change held (OfNode j) k has) [
    | inl from ↦ elim (letting.moves (record { by = from.holder; on = k }) (OfNode j) from.fate) [
      | inl same ↦ inl (subst (λ by. Has held by k) (sym same) from.had)
      | inr there ↦ inr there
    ]
    | inr added ↦ (let none = (subst (λ cs. Contains cs (record { by = OfNode j; on = k })) letting.added added).1 in absurd (omega (arith, none)))
  ]

  pub held_less : HoldsLess stands stands_then Known held (held_after change held)
  held_less =
      let kept = flat_map (λ (c : Claim). kept_by (change.fate c) c.on) held.claims in
      let all : claims_after change held.claims ≡ kept = ap (λ cs. kept ++ cs) letting.added ∙ append-nil kept in
      record {
        claims = λ k. subst (λ cs. claims_there stands_then k cs ≤ claims_there stands k held.claims) (sym all) (claims_stay k stands stands_then change letting.stays held.claims);
        was = λ x c. kept_was change held.claims x (subst (λ cs. Contains cs x) all c);
        owned = ap (λ xs. held.owned ++ xs) letting.owned ∙ append-nil held.owned;
        fewer = fewer;
        had = had_then;
      }

  still_there : (by : Holder) → is_there stands_then by ≡ true → is_there stands by ≡ true
  still_there (OfHandle handle) e = e
  still_there (OfNode j) e = fewer (slot_of j) e

  still_less : HoldsLess stands stands_then Known held held
  still_less = record { claims = λ k. fewer_there k stands stands_then still_there held.claims; was = λ x c. (x, c, refl); owned = refl; fewer = fewer; had = λ j k has. inl has }

  pub less_by : (taken : Bool) → HoldsLess stands stands_then Known held (if taken then held_after change held else held)
  less_by true = held_less
  less_by false = still_less

-- so it is by a step, and by one after the other
pub less_next : (sizes : Sizes) (account : Account) → AreBounds (bounds_for sizes account.steps) → (stands stands_then : ℕ → Bool) → ((j : ℕ) → stands_then j ≡ true → stands j ≡ true) →
    (Known : Ref → Type 0) (taken : Step) → IsLetting stands stands_then Known (change_of (state_of sizes account) (held_now sizes account) taken) → (after : Account) →
    after.steps ≡ account.steps ++ taken ∷ [] → HoldsLess stands stands_then Known (held_now sizes account) (held_now sizes after)
less_next sizes account bounds stands stands_then fewer Known taken letting after steps =
    let change = change_of (state_of sizes account) (held_now sizes account) taken in
    let now = held_next sizes account.steps bounds taken in
    subst (λ l. HoldsLess stands stands_then Known (held_now sizes account) (held_of (bounds_for sizes l) l)) (sym steps)
    (subst (HoldsLess stands stands_then Known (held_now sizes account)) (sym now)
    (less_by stands stands_then fewer Known (held_now sizes account) change letting (is_taken_step (next (state_of sizes account) taken))))

pub less_still : (first second third : ℕ → Bool) (Known : Ref → Type 0) (held later last : Held) → HoldsLess first second Known held later → HoldsLess second third Known later last →
    HoldsLess first third Known held last
less_still first second third Known held later last a b = record {
  claims = λ k. (let x = a.claims k in let y = b.claims k in omega (arith, x, y));
  was = λ c has. (let y = b.was c has in let x = a.was y.0 y.1 in (x.0, x.1, y.2 ∙ x.2));
  owned = b.owned ∙ a.owned;
  fewer = λ j e. a.fewer j (b.fewer j e);
  had = λ j k has. elim (b.had j k has) [ inl later_has ↦ a.had j k later_has | inr known ↦ inr known ];
}

-- What was let go of then and stands was let go of before, or a claim on it has ended.
abbrev pub LetsGoSince : Sizes → Account → Account → (ℕ → Bool) → (ℕ → Bool) → Type 0
LetsGoSince sizes before after stands stands_then =
    (k : Ref) → HasBeenLetGo sizes after k → stands_then (slot_of k) ≡ true →
    HasBeenLetGo sizes before k ⊎ (claims_there stands_then k (held_now sizes after).claims + 1 ≤ claims_there stands k (held_now sizes before).claims)

-- ---- the step

one_there : (k j : Ref) → Contains (k ∷ []) j → k ≡ j
one_there k j (i, within, at_i) = let zero_is : i ≡ 0 = omega arith in subst (λ n. get_or (k ∷ []) n j ≡ j) zero_is at_i

module _ (sizes : Sizes) (s : Table.State Call View) (kept : IsKept sizes s) (id : ℕ) (v : View) (at : get_elem? s.views id ≡ some v) (after : Account) (grown : HasGrown kept.account after)
    (names : after.names ≡ kept.account.names) (owned : after.owned ≡ kept.account.owned)
    (alike : AreAlike (state_of sizes kept.account) (state_of sizes after)) (stands_then : Standing) (fewer : (j : ℕ) → stands_then j ≡ true → kept.stands j ≡ true)
    (unborn : (k : ℕ) → length kept.account.names ≤ k → stands_then k ≡ true)
    -- of what its operation alone knew some stands no more
    (dropped : (k : Ref) → IsHere sizes kept.account kept.stands k → stands_then (slot_of k) ≡ true ⊎ ((operation : Operation) × (operation_of (state_of sizes kept.account) v.actor ≡ Some operation) ×
    Contains operation.private k))
    (private_then : (a : ℕ) (o : Operation) → operation_of (state_of sizes after) a ≡ Some o → (k : Ref) → Contains o.private k →
    ((p : Operation) × (operation_of (state_of sizes kept.account) a ≡ Some p) × Contains p.private k) × IsHere sizes after stands_then k)
    (less : HoldsLess kept.stands stands_then (IsLive (state_of sizes kept.account)) (held_now sizes kept.account) (held_now sizes after))
    -- what stands no more from then on holds nothing, and is held by no node
    (lets : (j k : Ref) → Has (held_now sizes after) (OfNode j) k → kept.stands (slot_of j) ≡ true → stands_then (slot_of j) ≡ true)
    (lets_on : (j k : Ref) → Has (held_now sizes after) (OfNode j) k → kept.stands (slot_of k) ≡ true → stands_then (slot_of k) ≡ true)
    (let_go : LetsGoSince sizes kept.account after kept.stands stands_then)
    (w : View) (actor : w.actor ≡ v.actor) (retired : w.retired ≡ v.retired) (owed : (k : Ref) → how_often k w.owed ≤ how_often k v.owed)
    (owed_then : (k : Ref) → Contains w.owed k → stands_then (slot_of k) ≡ true) (lines : LinesStay sizes kept.account after v w)
    (words_then : List ℕ) (same : (c : ℕ) → IsCount sizes c → references words_then c ≡ references s.words c) where
  abbrev views_then : List View
  views_then = set s.views id w

  was_here : (k : Ref) → IsHere sizes after stands_then k → IsHere sizes kept.account kept.stands k
  was_here k here = (alike.used k here.0, fewer (slot_of k) here.1)

  same_place : (k : Ref) → place_of after k ≡ place_of kept.account k
  same_place k = ap (λ xs. get_or xs (slot_of k) 0) names

  same_count : (k : Ref) → IsInUse (state_of sizes after).heap k → count_of sizes after k ≡ count_of sizes kept.account k
  same_count k used =
      ap (λ c. count_word sizes c (place_of after k)) (alike.classes k used) ∙ ap (count_word sizes (class_of (node_at (state_of sizes kept.account).heap k))) (same_place k)

  references_here : (k : Ref) → IsHere sizes after stands_then k → references words_then (count_of sizes after k) ≡ references s.words (count_of sizes kept.account k)
  references_here k here =
      ap (references words_then) (same_count k here.0) ∙ same (count_of sizes kept.account k) (here_count sizes s kept k (was_here k here))

  retired_same : (n : ℕ) → retired_on n views_then ≡ retired_on n s.views
  retired_same n =
      let all = retired_set n s.views id v at w in let own : retired_in n w ≡ retired_in n v = ap (λ (xs : List Retired). retired_in n (record v { retired = xs })) retired in omega (arith, all, own)

  -- whose a reference is was a seat's with the same actor
  owed_before : (k : Ref) (other : ℕ) (x : View) → get_elem? views_then other ≡ some x → Contains x.owed k →
      ((y : View) × (get_elem? s.views other ≡ some y) × Contains y.owed k × (y.actor ≡ x.actor)) × ((other ≡ id) × Contains w.owed k ⊎ (other ≡ id → ⊥))
  owed_before k other x e c = elim (at_set s.views id other w x e) [
    | inl p ↦
        (let its : Contains w.owed k = subst (λ ks. Contains ks k) (ap (λ (y : View). y.owed) (sym p.1)) c in
        let some_owed = owed k in
        let some_now = has_often k w.owed its in (
          (v, ap (λ n. get_elem? s.views n) p.0 ∙ at, often_has k v.owed (omega (arith, some_owed, some_now)), sym actor ∙ ap (λ (y : View). y.actor) p.1),
          inl (p.0, its),
        ))
    | inr p ↦ ((x, p.1, c, refl), inr p.0)
  ]

  owed_here : (other : ℕ) (x : View) → get_elem? views_then other ≡ some x → (k : Ref) → Contains x.owed k → IsHere sizes after stands_then k
  owed_here other x e k c =
      let (y, which) = owed_before k other x e c in
      let was = kept.held.owed other y.0 y.1 k y.2 in
      elim which [
        | inl own ↦ (alike.stays k was.0, owed_then k own.1)
        | inr apart ↦ (
          alike.stays k was.0,
          elim (dropped k was) [
            | inl stands ↦ stands
            | inr its ↦
                (let same_actor = kept.held.known other y.0 y.1 k y.2 v.actor its.0 its.1 its.2 in
                absurd (apart (kept.alone other id y.0 v v.actor y.1 at (subst (λ a. HasActor y.0 a) (sym same_actor) (omega arith, (kept.seats other y.0 y.1).top))
                (omega arith, (kept.seats id v at).top))))
          ],
        )
      ]

  -- ---- slots where no node stands then

  found_among : (name : ℕ) (ks : List Ref) → ((k : Ref) × Contains ks k × (place_of kept.account k ≡ name)) ⊎ ((k : Ref) → Contains ks k → place_of kept.account k ≢ name)
  found_among name [] = inr (λ k c. absurd (empty_has k c))
  found_among name (k ∷ ks) = elim (cases_eq (place_of kept.account k) name) [
    | inl is ↦ inl (k, Contains-append_left (k ∷ []) ks k (Contains-push [] k), is)
    | inr differs ↦ elim (found_among name ks) [
      | inl (j, c, is) ↦ inl (j, Contains-append_right (k ∷ []) ks j c, is)
      | inr none ↦
          inr (λ j c. elim (Contains-append_cases (k ∷ []) ks j c) [ inl first ↦ subst (λ r. place_of kept.account r ≢ name) (one_there k j first) differs | inr rest ↦ none j rest ])
    ]
  ]

  module _ (class name : ℕ) (small : class < 3) (slot : IsSlot sizes class name) (none : (k : Ref) → IsHere sizes after stands_then k → place_of after k ≢ name) where
    none_still : (k : Ref) → IsHere sizes kept.account kept.stands k → stands_then (slot_of k) ≡ true → place_of kept.account k ≢ name
    none_still k here stands is = none k (alike.stays k here.0, stands) (same_place k ∙ is)

    -- one that was given up stood there
    given : (operation : Operation) → operation_of (state_of sizes kept.account) v.actor ≡ Some operation → (k : Ref) → Contains operation.private k → place_of kept.account k ≡ name →
        1 ≤ references s.words (count_word sizes class name)
    given operation runs k c is =
        let here = here_private sizes s kept v.actor operation runs k c in
        let kind = class_of (node_at (state_of sizes kept.account).heap k) in
        let its = subst (IsSlot sizes kind) is (here_slot sizes s kept k here) in
        let same_class = one_class sizes kind class name (class_small (node_at (state_of sizes kept.account).heap k)) small its slot in
        let old = kept.held.fresh v.actor operation runs k c in
        subst (λ n. 1 ≤ references s.words n) (ap (count_word sizes kind) is ∙ ap (λ b. count_word sizes b name) same_class) old

    spare_by : (o : Option Operation) → operation_of (state_of sizes kept.account) v.actor ≡ o → 1 ≤ references s.words (count_word sizes class name)
    spare_by None idle =
        kept.held.spare class name small slot (λ k here. elim (dropped k here) [ inl stands ↦ none_still k here stands | inr its ↦ absurd (none-some its.0 (sym idle ∙ its.1)) ])
    spare_by (Some operation) runs = elim (found_among name operation.private) [
      | inl (k, c, is) ↦ given operation runs k c is
      | inr apart ↦
          kept.held.spare class name small slot (λ k here. elim (dropped k here) [
            | inl stands ↦ none_still k here stands
            | inr its ↦ apart k (subst (λ (o : Operation). Contains o.private k) (same_Some its.0 operation (sym its.1 ∙ runs)) its.2)
          ])
    ]

    spare_then : 1 ≤ references words_then (count_word sizes class name)
    spare_then =
        let old = spare_by (operation_of (state_of sizes kept.account) v.actor) refl in
        let count = same (count_word sizes class name) (record { class = class; small = small; name = name; slot = slot; is = refl }) in omega (arith, old, count)

  was_garbage : (j k : Ref) → Has (held_now sizes after) (OfNode j) k → stands_then (slot_of j) ≡ false → WasGarbageBefore sizes after j
  was_garbage j k has gone = elim (cases_Bool (kept.stands (slot_of j))) [
    | inl stood ↦ absurd (true≢false (sym (lets j k has stood) ∙ gone))
    | inr fallen ↦ elim (less.had j k has) [
      | inl had ↦ (let g = kept.held.gone j k had fallen in record { first = g.first; grown = grown_both g.first kept.account after g.grown grown; garbage = g.garbage })
      | inr live ↦ absurd (true≢false (sym (kept.nodes.live j live) ∙ fallen))
    ]
  ]

  -- ---- what seats hold, and on

  dead_before : (k : Ref) → IsDead sizes after views_then k → IsDead sizes kept.account s.views k
  dead_before k d =
      let z = retired_before s.views id v at w (λ (r : Retired) has. subst (λ rs. Contains rs r) retired has) d.id d.view d.at d.item d.its in
      record { used = alike.used k d.used; id = z.0; view = z.1; at = z.2; item = d.item; its = z.3; deep = d.deep; number = d.number }

  first_before : (k : Ref) → IsOwed views_then k ⊎ IsDead sizes after views_then k → IsReached sizes kept.account s.views k ⊎ IsLive (state_of sizes kept.account) k
  first_before k (inl o) = let y = (owed_before k o.0 o.1 o.2 o.3).0 in inl (at_first k (inl (o.0, y.0, y.1, y.2)))
  first_before k (inr d) = inl (at_first k (inr (dead_before k d)))

  reached_then : (k : Ref) → IsReached sizes after views_then k → stands_then (slot_of k) ≡ true
  reached_then r (at_first k (inl o)) = (owed_here o.0 o.1 o.2 r o.3).1
  reached_then r (at_first k (inr d)) =
      let was = dead_before r d in
      let here : IsHere sizes kept.account kept.stands r = (was.used, kept.held.reached r (at_first r (inr was))) in
      elim (dropped r here) [
        | inl stands ↦ stands
        | inr its ↦
            (let some = kept.held.fresh v.actor its.0 its.1 r its.2 in
            let none = kept.held.dead was.id was.view was.at was.item was.its was.deep r here was.number in
            absurd (omega (arith, some, none)))
      ]
  reached_then r (by_node j k from holds) =
      lets_on j r holds.0 (before_stands sizes s kept after alike.names less.had r (reached_before sizes s kept after alike.names less.had views_then first_before r (by_node j r from holds)))

  pub held_gone : AreHeld sizes after stands_then words_then views_then
  held_gone = record {
    counted = λ k here.
        (let was = was_here k here in
        let old = kept.held.counted k was in
        let claims = less.claims k in
        let seats = owed_set k s.views id v at w in
        let own = owed k in
        let slots = retired_same (slot_of k) in
        let count = references_here k here in omega (arith, old, claims, seats, own, slots, count));
    spare = λ class name small slot none. spare_then class name small slot none;
    fresh = λ a o runs k c.
        (let (was, here) = private_then a o runs k c in
        let old = kept.held.fresh a was.0 was.1 k was.2 in
        let count = references_here k here in omega (arith, old, count));
    owed = owed_here;
    known = λ other x e k c a o runs its.
        (let (y, which) = owed_before k other x e c in
        let (was, here) = private_then a o runs k its in
        kept.held.known other y.0 y.1 k y.2 a was.0 was.1 was.2 ∙ y.3);
    lines = lines_then sizes s kept id v at after w actor lines;
    dead = λ other x e y c deep k here is.
        (let z = retired_before s.views id v at w (λ (r : Retired) has. subst (λ rs. Contains rs r) retired has) other x e y c in
        let old = kept.held.dead z.0 z.1 z.2 y z.3 deep k (was_here k here) is in
        let count = references_here k here in omega (arith, old, count));
    unlet = λ k gone here.
        (let seats = owed_set k s.views id v at w in
        let own = owed k in
        let count = references_here k here in
        elim (let_go k gone here.1) [
          | inl was ↦ (let old = kept.held.unlet k was (was_here k here) in let claims = less.claims k in omega (arith, old, claims, seats, own, count))
          | inr fewer ↦ (let old = kept.held.counted k (was_here k here) in omega (arith, old, fewer, seats, own, count))
        ]);
    reached = reached_then;
    unborn = λ k high. unborn k (subst (λ xs. length xs ≤ k) names high);
    gone = was_garbage;
    used = λ c has. (let (old, there, on) = less.was c has in subst (IsInUse (state_of sizes after).heap) (sym on) (alike.stays old.on (kept.held.used old there)));
    owned = λ i m e.
        alike.stays i (kept.held.owned i m (sym (ap (λ xs. list_any (λ (pair : Ref × Ref). (pair.0 == i) && (pair.1 == m)) xs) less.owned) ∙ e));
    owns = λ i m own link used is.
        ap (λ xs. list_any (λ (pair : Ref × Ref). (pair.0 == i) && (pair.1 == m)) xs) less.owned
        ∙ kept.held.owns i m own (alike.links i link) (alike.used m used) (subst (λ xs. OwnIs xs (slot_of i) (slot_of m) own) owned is);
  }
