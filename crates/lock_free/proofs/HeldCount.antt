-- Each reference is counted still where one more is, or one less, of those that a seat holds itself.
use Rattle.history.specs.declared.calls.Call.{Call}
use Rattle.std.proofs.Common.{◌≡◌, ◌≢◌, ◌+◌, ◌<◌, ◌≤◌, ◌⊎◌, inl, inr, ℕ, true, List, Contains, Some, set, refl, sym, ap, subst, ◌∙◌, arith}
use Rattle.std.proofs.lemmas.Bool.{cases_eq}
use Rattle.std.proofs.lemmas.List.{get_or-set_same, get_or-set_other}
use mathlib.Core.Option.{some}
use lib.ListN.{get_elem?}
use Rattle.atomic_table.proofs.Lists.{at_set}
use Rattle.atomic_table.specs.Table as Table
use Rattle.machine_model.specs.Beneath.slot_arena.specs.declared.refs.Ref.{Ref}
use Rattle.machine_model.specs.Beneath.slot_arena.specs.Heaps.{node_at}
use Rattle.machine_model.specs.Beneath.slot_arena.specs.Refs.{slot_of}
use Rattle.machine_model.specs.declared.operations.Operation.{Operation}
use Rattle.machine_model.specs.States.{operation_of}
use Rattle.lock_free.specs.declared.rules.Retired.{Retired}
use Rattle.lock_free.specs.declared.rules.View.{View}
use Rattle.lock_free.specs.declared.sizes.Sizes.{Sizes}
use Rattle.lock_free.specs.Accounts.{place_of, state_of}
use Rattle.lock_free.specs.Claims.{claims_there, held_now}
use Rattle.lock_free.specs.Counts.{IsCount, how_often, owed_on, references, references_in}
use Rattle.lock_free.specs.Holdings.{AreHeld, HasBeenLetGo, IsHere, count_of, retired_in, retired_on}
use Rattle.lock_free.specs.Nodes.{class_of}
use Rattle.lock_free.specs.Places.{count_word, IsSlot}
use Rattle.lock_free.specs.Reached.{IsDead, IsHeldFrom, IsOwed, IsReached, at_first, by_node}
use Rattle.lock_free.specs.Rules.{IsKept}
use Rattle.lock_free.proofs.CountsStay.{owed_set}
use Rattle.lock_free.proofs.CountWords.{count_inside, count_once}
use Rattle.lock_free.proofs.Framing.{class_small}
use Rattle.lock_free.proofs.HeldFrom.{held_each}
use Rattle.lock_free.proofs.HeldStill.{here_count, here_private, here_slot, retired_set}
use Rattle.lock_free.proofs.OneStep.Found.{slot_at}
use Rattle.proof_waiting.specs.Beneath.proof_slots.proofs.Unswept.Kept.{one_ref}
use Rattle.lock_free.specs.OwesAt.{owes_at}
use Rattle.lock_free.proofs.LinesStay.{lines_then}

module _ (sizes : Sizes) (s : Table.State Call View) (kept : IsKept sizes s) where
  -- two nodes don't have one count
  pub one_here : (j k : Ref) → IsHere sizes kept.account kept.stands j → IsHere sizes kept.account kept.stands k → count_of sizes kept.account j ≡ count_of sizes kept.account k → j ≡ k
  one_here j k here there same =
      let state = state_of sizes kept.account in
      let (x, stands_j) = here.0 in
      let (y, stands_k) = there.0 in
      let places =
      (count_once sizes (class_of (node_at state.heap j)) (place_of kept.account j) (class_of (node_at state.heap k)) (place_of kept.account k) (class_small (node_at state.heap j))
      (class_small (node_at state.heap k)) (here_slot sizes s kept j here) (here_slot sizes s kept k there) same).1 in
      one_ref state.heap j k here.0 there.0
      (kept.nodes.apart (slot_of j) (slot_of k) x y (here.1, slot_at state.heap j x stands_j) (there.1, slot_at state.heap k y stands_k) places)

module _ (sizes : Sizes) (s : Table.State Call View) (kept : IsKept sizes s) (id : ℕ) (v : View) (at : get_elem? s.views id ≡ some v) (k : Ref)
    (here : IsHere sizes kept.account kept.stands k) (new : ℕ) (w : View) (actor : w.actor ≡ v.actor)
    -- it holds so much more of it, and has retired no other; and of all others it holds what it held
    (grows : how_often k w.owed + retired_in (slot_of k) w + references s.words (count_of sizes kept.account k) ≤ how_often k v.owed + retired_in (slot_of k) v + references_in new)
    (no_less : retired_in (slot_of k) v ≤ retired_in (slot_of k) w)
    (others : (j : Ref) → j ≢ k → how_often j w.owed ≡ how_often j v.owed) (slots : (n : ℕ) → n ≢ slot_of k → retired_in n w ≡ retired_in n v)
    (had : (j : Ref) → Contains w.owed j → Contains v.owed j ⊎ (j ≡ k))
    -- and what it has retired it had retired, or it is this one, and none is counted then; nor is one where it was dead already
    (retires : (y : Retired) → Contains w.retired y → Contains v.retired y ⊎ ((y.number ≡ slot_of k) × (references_in new ≡ 0)))
    (still_dead : references s.words (count_of sizes kept.account k) ≡ 0 → references_in new ≡ 0)
    -- who has it to itself holds as many of it
    (own : (a : ℕ) (operation : Operation) → operation_of (state_of sizes kept.account) a ≡ Some operation → Contains operation.private k → (a ≡ v.actor) × (1 ≤ references_in new))
    -- nor does it let go of one that its own operation owes
    (owes : (o : Operation) → operation_of (state_of sizes kept.account) v.actor ≡ Some o → how_often k (owes_at o) ≤ how_often k w.owed)
    -- and what it holds stands, and on
    (below : (r : Ref) → IsHeldFrom sizes kept.account (λ z. z ≡ k) r → kept.stands (slot_of r) ≡ true) where
  abbrev word : ℕ
  word = count_of sizes kept.account k

  abbrev words_then : List ℕ
  words_then = set s.words word new

  abbrev views_then : List View
  views_then = set s.views id w

  its_count : IsCount sizes word
  its_count = here_count sizes s kept k here

  is_new : references words_then word ≡ references_in new
  is_new = ap references_in (get_or-set_same s.words word new 0 (subst (λ n. word < n) (sym kept.size) (count_inside sizes word its_count)))

  is_old : (c : ℕ) → c ≢ word → references words_then c ≡ references s.words c
  is_old c differs = ap references_in (get_or-set_other s.words word c new 0 differs)

  other_count : (j : Ref) → IsHere sizes kept.account kept.stands j → j ≢ k → references words_then (count_of sizes kept.account j) ≡ references s.words (count_of sizes kept.account j)
  other_count j there differs = is_old (count_of sizes kept.account j) (λ same. differs (one_here sizes s kept j k there here same))

  counted_then : (j : Ref) → IsHere sizes kept.account kept.stands j →
      claims_there kept.stands j (held_now sizes kept.account).claims + owed_on j views_then + retired_on (slot_of j) views_then ≤ references words_then (count_of sizes kept.account j)
  counted_then j there =
      let old = kept.held.counted j there in
      let seats = owed_set j s.views id v at w in
      let retirees = retired_set (slot_of j) s.views id v at w in
      elim (cases_eq j k) [
        | inl same ↦
            (let its : how_often j w.owed + retired_in (slot_of j) w + references s.words (count_of sizes kept.account j) ≤ how_often j v.owed + retired_in (slot_of j) v + references_in new =
            subst (λ r. how_often r w.owed + retired_in (slot_of r) w + references s.words (count_of sizes kept.account r) ≤ how_often r v.owed + retired_in (slot_of r) v + references_in new)
            (sym same) grows in
            let now = ap (λ r. references words_then (count_of sizes kept.account r)) same ∙ is_new in
            omega (arith, old, seats, retirees, its, now))
        | inr differs ↦
            (let more = others j differs in
            let fewer = slots (slot_of j) (λ e. differs (one_slot j there e)) in
            let now = other_count j there differs in
            omega (arith, old, seats, retirees, more, fewer, now))
      ]
    where
      one_slot : (j : Ref) → IsHere sizes kept.account kept.stands j → slot_of j ≡ slot_of k → j ≡ k
      one_slot j there e = one_ref (state_of sizes kept.account).heap j k there.0 here.0 e

  fresh_then : (a : ℕ) (operation : Operation) → operation_of (state_of sizes kept.account) a ≡ Some operation → (j : Ref) → Contains operation.private j →
      1 ≤ references words_then (count_of sizes kept.account j)
  fresh_then a operation runs j c =
      let there = here_private sizes s kept a operation runs j c in
      let old = kept.held.fresh a operation runs j c in
      elim (cases_eq j k) [
        | inl same ↦
            (let most = (own a operation runs (subst (Contains operation.private) same c)).1 in
            let now = ap (λ r. references words_then (count_of sizes kept.account r)) same ∙ is_new in omega (arith, most, now))
        | inr differs ↦ (let now = other_count j there differs in omega (arith, old, now))
      ]

  spare_then : (class name : ℕ) → class < 3 → IsSlot sizes class name → ((j : Ref) → IsHere sizes kept.account kept.stands j → place_of kept.account j ≢ name) →
      1 ≤ references words_then (count_word sizes class name)
  spare_then class name small slot none =
      let old = kept.held.spare class name small slot none in
      let node = node_at (state_of sizes kept.account).heap k in
      let now = is_old (count_word sizes class name) (λ same. none k here (sym (count_once sizes class name (class_of node) (place_of kept.account k) small (class_small node) slot
      (here_slot sizes s kept k here) same).1)) in
      omega (arith, old, now)

  owed_before : (other : ℕ) (x : View) → get_elem? views_then other ≡ some x → (j : Ref) → Contains x.owed j →
      ((y : View) × (get_elem? s.views other ≡ some y) × Contains y.owed j × (y.actor ≡ x.actor)) ⊎ ((j ≡ k) × (x.actor ≡ v.actor))
  owed_before other x e j c = elim (at_set s.views id other w x e) [
    | inl p ↦ elim (had j (subst (λ (y : View). Contains y.owed j) (sym p.1) c)) [
      | inl was ↦ inl (v, ap (λ n. get_elem? s.views n) p.0 ∙ at, was, sym actor ∙ ap (λ (y : View). y.actor) p.1)
      | inr is ↦ inr (is, ap (λ (y : View). y.actor) (sym p.1) ∙ actor)
    ]
    | inr p ↦ inl (x, p.1, c, refl)
  ]

  dead_then : (other : ℕ) (x : View) → get_elem? views_then other ≡ some x → (y : Retired) → Contains x.retired y → y.deep ≡ true → (j : Ref) → IsHere sizes kept.account kept.stands j →
      slot_of j ≡ y.number →
      references words_then (count_of sizes kept.account j) ≡ 0
  dead_then other x e y c deep j there is = elim (cases_eq j k) [
    | inl same ↦
        (let now = ap (λ r. references words_then (count_of sizes kept.account r)) same ∙ is_new in
        elim (retired_then other x e y c) [
          | inl z ↦
              now ∙ still_dead (ap (λ r. references s.words (count_of sizes kept.account r)) (sym same) ∙ kept.held.dead z.0 z.1 z.2 y z.3 deep j there is)
          | inr none ↦ now ∙ none.1
        ])
    | inr differs ↦ elim (retired_then other x e y c) [
      | inl z ↦ other_count j there differs ∙ kept.held.dead z.0 z.1 z.2 y z.3 deep j there is
      | inr its ↦ absurd (differs (one_ref (state_of sizes kept.account).heap j k there.0 here.0 (is ∙ its.0)))
    ]
  ]
    where
      retired_then : (other : ℕ) (x : View) → get_elem? views_then other ≡ some x → (y : Retired) → Contains x.retired y →
          ((i : ℕ) × (z : View) × (get_elem? s.views i ≡ some z) × Contains z.retired y) ⊎ ((y.number ≡ slot_of k) × (references_in new ≡ 0))
      retired_then other x e y c = elim (at_set s.views id other w x e) [
        | inl p ↦ elim (retires y (subst (λ (z : View). Contains z.retired y) (sym p.1) c)) [ inl was ↦ inl (id, v, at, was) | inr new ↦ inr new ]
        | inr p ↦ inl (other, x, p.1, c)
      ]

  unlet_then : (j : Ref) → HasBeenLetGo sizes kept.account j → IsHere sizes kept.account kept.stands j →
      claims_there kept.stands j (held_now sizes kept.account).claims + owed_on j views_then + 1 ≤ references words_then (count_of sizes kept.account j)
  unlet_then j gone there =
      let old = kept.held.unlet j gone there in
      let seats = owed_set j s.views id v at w in
      elim (cases_eq j k) [
        | inl same ↦
            (let its : how_often j w.owed + references s.words (count_of sizes kept.account j) ≤ how_often j v.owed + references_in new =
            subst (λ r. how_often r w.owed + references s.words (count_of sizes kept.account r) ≤ how_often r v.owed + references_in new) (sym same) (omega (arith, grows, no_less)) in
            let now = ap (λ r. references words_then (count_of sizes kept.account r)) same ∙ is_new in
            omega (arith, old, seats, its, now))
        | inr differs ↦ (let more = others j differs in let now = other_count j there differs in omega (arith, old, seats, more, now))
      ]

  -- ---- what seats hold, and on

  abbrev Was : Ref → Type 0
  Was r = IsReached sizes kept.account s.views r ⊎ IsHeldFrom sizes kept.account (λ z. z ≡ k) r

  dead_was : (r : Ref) (d : IsDead sizes kept.account views_then r) → ((w ≡ d.view) × (d.id ≡ id)) ⊎ (get_elem? s.views d.id ≡ some d.view) → Was r
  dead_was r d (inr at_d) = inl (at_first r (inr (record { used = d.used; id = d.id; view = d.view; at = at_d; item = d.item; its = d.its; deep = d.deep; number = d.number })))
  dead_was r d (inl same) = elim (retires d.item (subst (λ (z : View). Contains z.retired d.item) (sym same.0) d.its)) [
    | inl old ↦ inl (at_first r (inr (record { used = d.used; id = id; view = v; at = at; item = d.item; its = old; deep = d.deep; number = d.number })))
    | inr new_one ↦ inr (at_first r (one_ref (state_of sizes kept.account).heap r k d.used here.0 (d.number ∙ new_one.0)))
  ]

  first_was : (r : Ref) → IsOwed views_then r ⊎ IsDead sizes kept.account views_then r → Was r
  first_was r (inl o) = elim (owed_before o.0 o.1 o.2 r o.3) [
    | inl y ↦ inl (at_first r (inl (o.0, y.0, y.1, y.2)))
    | inr is ↦ inr (at_first r is.0)
  ]
  first_was r (inr d) = dead_was r d (elim (at_set s.views id d.id w d.view d.at) [ inl p ↦ inl (p.1, p.0) | inr p ↦ inr p.1 ])

  reached_then : (r : Ref) → IsReached sizes kept.account views_then r → kept.stands (slot_of r) ≡ true
  reached_then r from =
      elim (held_each sizes kept.account (λ z. IsOwed views_then z ⊎ IsDead sizes kept.account views_then z) Was first_was
      (λ i j was holds. elim was [ inl old ↦ inl (by_node i j old holds) | inr new_one ↦ inr (by_node i j new_one holds) ]) r from) [
        | inl old ↦ kept.held.reached r old
        | inr new_one ↦ below r new_one
      ]

  pub counted_more : AreHeld sizes kept.account kept.stands words_then views_then
  counted_more = record {
    counted = counted_then;
    spare = spare_then;
    fresh = fresh_then;
    owed = λ other x e j c. elim (owed_before other x e j c) [
      | inl y ↦ kept.held.owed other y.0 y.1 j y.2
      | inr is ↦ subst (IsHere sizes kept.account kept.stands) (sym is.0) here
    ];
    known = λ other x e j c a operation runs its. elim (owed_before other x e j c) [
      | inl y ↦ kept.held.known other y.0 y.1 j y.2 a operation runs its ∙ y.3
      | inr is ↦ (own a operation runs (subst (Contains operation.private) is.0 its)).0 ∙ sym is.1
    ];
    lines = lines_then sizes s kept id v at kept.account w actor (record {
      others = λ a differs o e. (o, e, λ j. omega arith);
      own = λ o e j. elim (cases_eq j k) [
        | inl same ↦ subst (λ r. how_often r (owes_at o) ≤ how_often r w.owed) (sym same) (owes o e)
        | inr differs ↦ (let old = kept.held.lines id v at o e j in let now = others j differs in omega (arith, old, now))
      ];
    });
    dead = λ other x e y c deep j there is. dead_then other x e y c deep j there is;
    unlet = unlet_then;
    reached = reached_then;
    unborn = kept.held.unborn;
    gone = kept.held.gone;
    used = kept.held.used;
    owned = kept.held.owned;
    owns = kept.held.owns;
  }
