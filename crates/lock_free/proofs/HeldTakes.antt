-- Each reference is counted still where a step takes references that its seat holds itself, and makes no node.
use Rattle.history.specs.declared.calls.Call.{Call}
use Rattle.std.proofs.Common.{◌≡◌, ◌+◌, ◌≤◌, ◌⊎◌, ◌++◌, inl, inr, ℕ, Bool, true, List, [], ◌∷◌, Contains, Some, flat_map, get_or, map, set, refl, sym, ap, subst, ◌∙◌, arith, append-nil, length}
use Rattle.std.proofs.lemmas.Bool.{true≢false}
use Rattle.std.proofs.lemmas.List.Concat.{flat_map-cons}
use Rattle.std.proofs.lemmas.List.Elements.{Contains-append_cases, Contains-append_right}
use mathlib.Core.Option.{some}
use lib.ListN.{get_elem?}
use Rattle.atomic_table.proofs.Lists.{at_set}
use Rattle.atomic_table.specs.Table as Table
use Rattle.machine_model.specs.Beneath.slot_arena.specs.declared.refs.Ref.{Ref}
use Rattle.machine_model.specs.Beneath.slot_arena.specs.Heaps.{node_at}
use Rattle.machine_model.specs.Beneath.slot_arena.specs.Refs.{slot_of}
use Rattle.machine_model.specs.declared.operations.Operation.{Operation}
use Rattle.machine_model.specs.States.{operation_of}
use Rattle.proof_claims.specs.Claims.{Has}
use Rattle.proof_claims.specs.Held.{Change, Claim, Given, Holder, OfNode, Stays, claims_after, gives, given_by, is_owned, kept_by, takes}
use Rattle.proof_commits.specs.Runs.{HasIndirection}
use Rattle.proof_memory.specs.Laws.{IsInUse}
use Rattle.lock_free.specs.declared.accounts.Account.{Account}
use Rattle.lock_free.specs.declared.rules.Retired.{Retired}
use Rattle.lock_free.specs.declared.rules.View.{View}
use Rattle.lock_free.specs.declared.sizes.Sizes.{Sizes}
use Rattle.lock_free.specs.Accounts.{place_of, state_of, HasGrown, IsOwn}
use Rattle.lock_free.specs.Claims.{HoldsAll, claims_there, held_now, is_there, owes_after, without_all}
use Rattle.lock_free.specs.Counts.{IsCount, how_often, references}
use Rattle.lock_free.specs.Holdings.{AreHeld, HasBeenLetGo, IsHere, count_of, retired_in, retired_on}
use Rattle.lock_free.specs.Live.{from_operation, line_claims, refs_of_claims, IsLive}
use Rattle.lock_free.specs.Nodes.{class_of}
use Rattle.lock_free.specs.Places.{count_word}
use Rattle.lock_free.specs.Reached.{IsDead, IsOwed, IsReached, at_first}
use Rattle.lock_free.specs.Rules.{IsKept}
use Rattle.lock_free.proofs.ClaimsThere.{has_often, often_has, often_without, step_balance}
use Rattle.lock_free.proofs.CountsStay.{owed_set}
use Rattle.lock_free.proofs.HeldFrom.{before_stands, reached_before}
use Rattle.lock_free.proofs.HeldGone.{AreAlike}
use Rattle.lock_free.proofs.HeldStill.{here_count, retired_before, retired_set}
use Rattle.lock_free.proofs.OneStep.Found.{live_used}
use Rattle.lock_free.proofs.Pools.{contains_map}
use Rattle.lock_free.proofs.Waiting.{grown_both}
use Rattle.lock_free.proofs.LinesStay.{LinesStay, lines_then}

-- ---- where nodes stay in use, and its seat and its claims together hold no more

module _ (sizes : Sizes) (s : Table.State Call View) (kept : IsKept sizes s) (id : ℕ) (v : View) (at : get_elem? s.views id ≡ some v) (after : Account) (grown : HasGrown kept.account after)
    (names : after.names ≡ kept.account.names)
    (alike : AreAlike (state_of sizes kept.account) (state_of sizes after)) (live : (r : Ref) → IsLive (state_of sizes after) r → IsLive (state_of sizes kept.account) r)
    (private : (a : ℕ) (o : Operation) → operation_of (state_of sizes after) a ≡ Some o → (k : Ref) → Contains o.private k →
    (p : Operation) × (operation_of (state_of sizes kept.account) a ≡ Some p) × Contains p.private k)
    (w : View) (actor : w.actor ≡ v.actor) (retired : w.retired ≡ v.retired) (had : (k : Ref) → Contains w.owed k → Contains v.owed k)
    (balance : (k : Ref) → claims_there kept.stands k (held_now sizes after).claims + how_often k w.owed ≤ claims_there kept.stands k (held_now sizes kept.account).claims + how_often k v.owed)
    (used : (c : Claim) → Contains (held_now sizes after).claims c → IsInUse (state_of sizes kept.account).heap c.on)
    -- no node but a live one has a claim that it hadn't
    (had_claim : (j k : Ref) → Has (held_now sizes after) (OfNode j) k → Has (held_now sizes kept.account) (OfNode j) k ⊎ IsLive (state_of sizes kept.account) j)
    (let_go : (k : Ref) → HasBeenLetGo sizes after k → HasBeenLetGo sizes kept.account k)
    (owned : (i m : Ref) → is_owned (held_now sizes after) i m ≡ true → IsInUse (state_of sizes kept.account).heap i)
    (owns : (i m : Ref) (own : Bool) → HasIndirection (state_of sizes after) i → IsInUse (state_of sizes after).heap m → IsOwn after i m own → is_owned (held_now sizes after) i m ≡ own)
    (lines : LinesStay sizes kept.account after v w) (words_then : List ℕ) (same : (c : ℕ) → IsCount sizes c → references words_then c ≡ references s.words c) where
  abbrev views_then : List View
  views_then = set s.views id w

  was_here : (k : Ref) → IsHere sizes after kept.stands k → IsHere sizes kept.account kept.stands k
  was_here k here = (alike.used k here.0, here.1)

  same_place : (k : Ref) → place_of after k ≡ place_of kept.account k
  same_place k = ap (λ xs. get_or xs (slot_of k) 0) names

  references_here : (k : Ref) → IsHere sizes after kept.stands k → references words_then (count_of sizes after k) ≡ references s.words (count_of sizes kept.account k)
  references_here k here =
      ap (references words_then)
      (ap (λ c. count_word sizes c (place_of after k)) (alike.classes k here.0) ∙ ap (count_word sizes (class_of (node_at (state_of sizes kept.account).heap k))) (same_place k))
      ∙ same (count_of sizes kept.account k) (here_count sizes s kept k (was_here k here))

  retired_same : (n : ℕ) → retired_on n views_then ≡ retired_on n s.views
  retired_same n =
      let all = retired_set n s.views id v at w in let own : retired_in n w ≡ retired_in n v = ap (λ (xs : List Retired). retired_in n (record v { retired = xs })) retired in omega (arith, all, own)

  owed_before : (other : ℕ) (x : View) → get_elem? views_then other ≡ some x → (k : Ref) → Contains x.owed k → (y : View) × (get_elem? s.views other ≡ some y) × Contains y.owed k × (y.actor ≡ x.actor)
  owed_before other x e k c = elim (at_set s.views id other w x e) [
    | inl p ↦ (v, ap (λ n. get_elem? s.views n) p.0 ∙ at, had k (subst (λ (y : View). Contains y.owed k) (sym p.1) c), sym actor ∙ ap (λ (y : View). y.actor) p.1)
    | inr p ↦ (x, p.1, c, refl)
  ]

  private_here : (a : ℕ) (o : Operation) → operation_of (state_of sizes after) a ≡ Some o → (k : Ref) → Contains o.private k → IsHere sizes after kept.stands k
  private_here a o runs k c =
      let was = live k (from_operation a o k runs tt (Contains-append_right (refs_of_claims (line_claims (state_of sizes after) o)) o.private k c)) in
      (alike.stays k (live_used sizes kept.account kept.bounds k was), kept.nodes.live k was)

  first_before : (k : Ref) → IsOwed views_then k ⊎ IsDead sizes after views_then k → IsReached sizes kept.account s.views k ⊎ IsLive (state_of sizes kept.account) k
  first_before k (inl o) = let y = owed_before o.0 o.1 o.2 k o.3 in inl (at_first k (inl (o.0, y.0, y.1, y.2)))
  first_before k (inr d) =
      let z = retired_before s.views id v at w (λ (r : Retired) has. subst (λ rs. Contains rs r) retired has) d.id d.view d.at d.item d.its in
      inl (at_first k (inr (record { used = alike.used k d.used; id = z.0; view = z.1; at = z.2; item = d.item; its = z.3; deep = d.deep; number = d.number })))

  pub held_by : AreHeld sizes after kept.stands words_then views_then
  held_by = record {
    counted = λ k here.
        (let old = kept.held.counted k (was_here k here) in
        let more = balance k in
        let seats = owed_set k s.views id v at w in
        let slots = retired_same (slot_of k) in
        let count = references_here k here in omega (arith, old, more, seats, slots, count));
    spare = λ class name small slot none.
        (let old = kept.held.spare class name small slot (λ k here place. none k (alike.stays k here.0, here.1) (same_place k ∙ place)) in
        let count = same (count_word sizes class name) (record { class = class; small = small; name = name; slot = slot; is = refl }) in omega (arith, old, count));
    fresh = λ a o runs k c.
        (let p = private a o runs k c in
        let old = kept.held.fresh a p.0 p.1 k p.2 in
        let count = references_here k (private_here a o runs k c) in omega (arith, old, count));
    owed = λ other x e k c. (let y = owed_before other x e k c in let here = kept.held.owed other y.0 y.1 k y.2 in (alike.stays k here.0, here.1));
    known = λ other x e k c a o runs its.
        (let y = owed_before other x e k c in let p = private a o runs k its in kept.held.known other y.0 y.1 k y.2 a p.0 p.1 p.2 ∙ y.3);
    lines = lines_then sizes s kept id v at after w actor lines;
    dead = λ other x e y c deep k here is.
        (let z = retired_before s.views id v at w (λ (r : Retired) has. subst (λ rs. Contains rs r) retired has) other x e y c in
        let old = kept.held.dead z.0 z.1 z.2 y z.3 deep k (was_here k here) is in
        let count = references_here k here in omega (arith, old, count));
    unlet = λ k gone here.
        (let old = kept.held.unlet k (let_go k gone) (was_here k here) in
        let more = balance k in
        let seats = owed_set k s.views id v at w in
        let count = references_here k here in omega (arith, old, more, seats, count));
    reached = λ k from. before_stands sizes s kept after alike.names had_claim k (reached_before sizes s kept after alike.names had_claim views_then first_before k from);
    unborn = λ k high. kept.held.unborn k (subst (λ xs. length xs ≤ k) names high);
    gone = λ j k has none. elim (had_claim j k has) [
      | inl had ↦ (let g = kept.held.gone j k had none in record { first = g.first; grown = grown_both g.first kept.account after g.grown grown; garbage = g.garbage })
      | inr live ↦ absurd (true≢false (sym (kept.nodes.live j live) ∙ none))
    ];
    used = λ c has. alike.stays c.on (used c has);
    owned = λ i m e. alike.stays i (owned i m e);
    owns = owns;
  }

-- ---- a change that leaves each claim and adds some

module _ (change : Change) (same : (c : Claim) → change.fate c ≡ Stays c.by) where
  none_given : (claims : List Claim) → flat_map (λ (c : Claim). given_by (change.fate c) c.on) claims ≡ []
  none_given [] = refl
  none_given (c ∷ claims) =
      flat_map-cons (λ (x : Claim). given_by (change.fate x) x.on) c claims ∙ ap (λ f. given_by f c.on ++ flat_map (λ (x : Claim). given_by (change.fate x) x.on) claims) (same c) ∙ none_given claims

  pub gives_made : (claims : List Claim) → gives change claims ≡ change.made
  gives_made claims = ap (λ gs. change.made ++ gs) (none_given claims) ∙ append-nil change.made

  all_kept : (claims : List Claim) → flat_map (λ (c : Claim). kept_by (change.fate c) c.on) claims ≡ claims
  all_kept [] = refl
  all_kept (c ∷ claims) =
      flat_map-cons (λ (x : Claim). kept_by (change.fate x) x.on) c claims ∙ ap (λ f. kept_by f c.on ++ flat_map (λ (x : Claim). kept_by (change.fate x) x.on) claims) (same c)
      ∙ ap (λ cs. c ∷ cs) (all_kept claims)

  -- a claim then was one, or is on what was taken
  pub claim_was : (claims : List Claim) (c : Claim) → Contains (claims_after change claims) c → Contains claims c ⊎ Contains change.added c
  claim_was claims c has =
      elim (Contains-append_cases (flat_map (λ (x : Claim). kept_by (change.fate x) x.on) claims) change.added c has) [
        | inl old ↦ inl (subst (λ cs. Contains cs c) (all_kept claims) old)
        | inr new ↦ inr new
      ]

-- what its seat holds then it held, or the step has made it
pub owes_made : (change : Change) → ((c : Claim) → change.fate c ≡ Stays c.by) → (claims : List Claim) (owed : List Ref) → HoldsAll (takes change) owed → (k : Ref) →
    Contains (owes_after change claims owed) k → Contains owed k ⊎ Contains change.made k
owes_made change same claims owed holds k c =
    elim (Contains-append_cases change.made (without_all (takes change) owed) k (subst (λ gs. Contains (gs ++ without_all (takes change) owed) k) (gives_made change same claims) c)) [
      | inl new ↦ inr new
      | inr rest ↦
          (let some_left = has_often k (without_all (takes change) owed) rest in
          let all = often_without k (takes change) owed holds in
          inl (often_has k owed (omega (arith, some_left, all))))
    ]

module _ (change : Change) (same : (c : Claim) → change.fate c ≡ Stays c.by) (none : change.made ≡ []) where
  gives_none : (claims : List Claim) → gives change claims ≡ []
  gives_none claims = gives_made change same claims ∙ none

  -- what it holds then it held
  pub owes_had : (claims : List Claim) (owed : List Ref) → HoldsAll (takes change) owed → (k : Ref) → Contains (owes_after change claims owed) k → Contains owed k
  owes_had claims owed holds k c =
      let some_now = has_often k (without_all (takes change) owed) (subst (λ gs. Contains (gs ++ without_all (takes change) owed) k) (gives_none claims) c) in
      let all = often_without k (takes change) owed holds in
      often_has k owed (omega (arith, some_now, all))

  pub owes_balance : (stands : ℕ → Bool) (claims : List Claim) (owed : List Ref) → HoldsAll (takes change) owed → (k : Ref) →
      claims_there stands k (claims_after change claims) + how_often k (owes_after change claims owed) ≤ claims_there stands k claims + how_often k owed
  owes_balance stands claims owed holds k =
      let all = step_balance k stands stands change (λ c by is there. subst (λ h. is_there stands h ≡ true) (stays_with c by (sym is ∙ same c)) there)
      (λ c is. absurd (not_given c.by (sym is ∙ same c))) claims owed holds in
      let made = ap (how_often k) none in omega (arith, all, made)
    where
      stays_with : (c : Claim) (by : Holder) → Stays by ≡ Stays c.by → by ≡ c.by
      stays_with c by e = cc e

      not_given : (by : Holder) → Given ≡ Stays by → ⊥
      not_given by e = cc e

-- what is taken by a claim
pub taken_on : (claims : List Claim) (c : Claim) → Contains claims c → Contains (map (λ (x : Claim). x.on) claims) c.on
taken_on claims c has = contains_map (λ (x : Claim). x.on) claims c has
